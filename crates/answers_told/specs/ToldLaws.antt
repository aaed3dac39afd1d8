-- Every refusal of a call has a number of the table: the refusal of the code with that number has it. So a result of a call tells the model's very answer. Assumes nothing.
use Rattle.std.specs.Prelude.{ℕ, ◌≡◌, refl, Bool, true, false, cond, List, [], ◌∷◌, ◌++◌, Err}
use Rattle.std.proofs.Common.{subst}
use Rattle.lemmas.specs.Order.{clash}
use Rattle.model.specs.Key.{Key}
use Rattle.model.specs.Answer.{Answer, gives, refused, on_answer, Refusal, ◌⇒◌, first_of}
use Rattle.model.specs.File.{File, State, full}
use Rattle.model.specs.Edit.{Pointer, Deletion, Addition, Edit, pointer_refusals, deletion_refusals, addition_refusals, entry_refusals, result_refusals, survivors_from, edit}
use Rattle.model.specs.Counters.{CounterCall, counter}
use Rattle.model.specs.Calls.{compare_keys, parse_key, new_number, lent_list, total_size, get_range, find_file_call, look_up, needs_compaction, is_trivial_move, deletions_of, should_stop, is_base_level, memtable, overlap_in_level, overlapping_inputs, live, write, or_bad, read}
use Rattle.model.specs.Pick.{Picked, size_pick, manual_pick}
use Rattle.model.specs.Question.{Cutter}
use Rattle.model.specs.Snapshot.{decode}
use Rattle.model_replay.specs.Recording.{Recording, read_recording}
use Rattle.model_replay.specs.Replay.{Outcome, ended, differs, replayed_from, concluded, replay_of, replay}
use Rattle.std.proofs.Math.Option.{Option, none, some}
use Rattle.answers.specs.Outcome.{number_of, refusal_of, outcome_of, result_of}
use Rattle.answers.specs.declared.Refusal as code
use Rattle.level_list.specs.List.{level_files}

-- the number is one of the table
abbrev pub Known : ℕ → Type 0
Known n = number_of (refusal_of n) ≡ n

-- an answer that is refused is refused with such a number
abbrev pub Told : {A : Type 0} → Answer A → Type 0
Told a = (n : ℕ) → a ≡ refused n → Known n

-- the refusals of a list have such numbers
abbrev AllKnown : List Refusal → Type 0
AllKnown [] = Unit {0}
AllKnown (r ∷ rs) = Known r.code × AllKnown rs

-- so has the first that applies
first_told : {A : Type 0} (rs : List Refusal) (a : A) → AllKnown rs → Told (first_of rs a)
unfolding first_of
first_told [] a h n e = let z : true ≡ false = cc in clash refl z
first_told (r ∷ rs) a h n e = go (first_told rs a h.1 n) r.applies refl
  where
    go : (first_of rs a ≡ refused n → Known n) → (t : Bool) → r.applies ≡ t → Known n
    go ih true f = let q : r.code ≡ n = cc in subst (λ (m : ℕ). Known m) q h.0
    go ih false f = ih (rw f at e)

-- two lists joined
known_both : (rs qs : List Refusal) → AllKnown rs → AllKnown qs → AllKnown (rs ++ qs)
known_both [] qs h k = k
known_both (r ∷ rs) qs h k = (h.0, known_both rs qs h.1 k)

-- a call that is made only if a test holds, and else is refused with such a number: on a store, a list or a picked answer whose records are sound
pub tested_told : {A : Type 0} (t : Bool) (a b : Answer A) → Told a → Told b → Told (cond t a b)
tested_told true a b h k = h
tested_told false a b h k = k

-- a refusal with such a number
pub refused_told : {A : Type 0} (n : ℕ) → Known n → Told {A = A} (refused n)
refused_told n h m e = let q : n ≡ m = cc in subst (λ (k : ℕ). Known k) q h

-- so a result tells the model's answer: the very number of its refusal
pub told_refusal : {A B : Type 0} (f : A → B) (a : Answer A) (r : code.Refusal) → Told a → result_of f a ≡ Err r → a ≡ refused (number_of r)
unfolding result_of
told_refusal f (gives x) r h e = let z : true ≡ false = cc in clash refl z
told_refusal f (refused n) r h e = let k : refusal_of n ≡ r = cc in let m : number_of (refusal_of n) ≡ n = h n refl in cc

-- the same of a result that is nothing else
pub told_outcome : {A : Type 0} (a : Answer A) (r : code.Refusal) → Told a → outcome_of a ≡ Err r → a ≡ refused (number_of r)
unfolding outcome_of
told_outcome (gives x) r h e = let z : true ≡ false = cc in clash refl z
told_outcome (refused n) r h e = let k : refusal_of n ≡ r = cc in let m : number_of (refusal_of n) ≡ n = h n refl in cc

-- ---- an edit
-- the refusals of its pointers
pointers_known : (qs : List Pointer) → AllKnown (pointer_refusals full qs)
unfolding pointer_refusals ◌⇒◌
pointers_known [] = tt
pointers_known (q ∷ qs) = (refl, (refl, pointers_known qs))

-- of its deletions
deletions_known : (ds : List Deletion) → AllKnown (deletion_refusals full ds)
unfolding deletion_refusals ◌⇒◌
deletions_known [] = tt
deletions_known (d ∷ ds) = (refl, deletions_known ds)

-- of its additions
additions_known : (xs : List Addition) → AllKnown (addition_refusals full xs)
unfolding addition_refusals ◌⇒◌
additions_known [] = tt
additions_known (x ∷ xs) = (refl, (refl, (refl, (refl, additions_known xs))))

-- of all its entries
entries_known : (e : Edit) → AllKnown (entry_refusals full e)
unfolding entry_refusals
entries_known e =
    known_both (pointer_refusals full e.pointers ++ deletion_refusals full e.deletions) (addition_refusals full e.additions)
    (known_both (pointer_refusals full e.pointers) (deletion_refusals full e.deletions) (pointers_known e.pointers) (deletions_known e.deletions)) (additions_known e.additions)

-- of its survivors
survivors_known : (fss : List (List File)) → AllKnown (result_refusals full fss)
unfolding result_refusals ◌⇒◌
survivors_known fss = (refl, (refl, (refl, tt)))

-- an edit
pub edit_told : (t : State) (e : Edit) → Told (edit full t e)
unfolding edit ◌⇒◌
edit_told t e = first_told _ _ (refl, (refl, (refl, known_both (entry_refusals full e) (result_refusals full (survivors_from e 0 t.files)) (entries_known e) (survivors_known (survivors_from e 0 t.files)))))

-- ---- the other calls
-- a counter call
pub counter_told : (t : State) (c : CounterCall) → Told (counter full t c)
unfolding counter ◌⇒◌
counter_told t c = first_told _ _ (refl, (refl, tt))

-- new
pub new_told : (t : State) → Told (new_number full t)
unfolding new_number ◌⇒◌
new_told t = first_told _ _ (refl, (refl, tt))

-- a size pick
pub size_told : (t : State) (m : ℕ) → Told (size_pick full t m)
unfolding size_pick ◌⇒◌
size_told t m = first_told _ _ (refl, (refl, (refl, tt)))

-- a manual pick
pub range_told : (t : State) (m l : ℕ) (a b : Key) → Told (manual_pick full t m l a b)
unfolding manual_pick ◌⇒◌
range_told t m l a b = first_told _ _ (refl, (refl, (refl, (refl, (refl, (refl, tt))))))

-- ---- keys and lists of one level
-- the order of two keys
pub compare_told : (a b : Key) → Told (compare_keys full a b)
unfolding compare_keys ◌⇒◌
compare_told a b = first_told _ _ (refl, tt)

-- a key's parts
pub parse_told : (k : Key) → Told (parse_key full k)
unfolding parse_key ◌⇒◌
parse_told k = first_told _ _ (refl, tt)

-- the bytes of a list
pub total_told : (l : ℕ) (fs : List File) → Told (total_size full l fs)
unfolding total_size lent_list ◌⇒◌
total_told l fs = first_told _ _ (refl, (refl, tt))

-- the range of a list
pub get_range_told : (l : ℕ) (fs : List File) → Told (get_range full l fs)
unfolding get_range lent_list ◌⇒◌
get_range_told l fs = first_told _ _ (refl, (refl, tt))

-- the first file whose largest key is not before a key
pub find_told : (l : ℕ) (fs : List File) (k : Key) → Told (find_file_call full l fs k)
unfolding find_file_call lent_list ◌⇒◌
find_told l fs k = first_told _ _ (refl, (refl, (refl, tt)))

-- a lookup
pub look_up_told : (l : ℕ) (fs : List File) (k : Key) (room : ℕ) → Told (look_up full l fs k room)
unfolding look_up lent_list ◌⇒◌
look_up_told l fs k room = first_told _ _ (refl, (refl, (refl, (refl, tt))))

-- ---- picks and what follows them
-- whether work is due
pub work_told : (t : State) → Told (needs_compaction full t)
unfolding needs_compaction ◌⇒◌
work_told t = first_told _ _ (refl, tt)

-- a trivial move
pub trivial_told : (c : Picked) → Told (is_trivial_move full c)
unfolding is_trivial_move ◌⇒◌
trivial_told c = first_told _ _ (refl, tt)

-- the deletions of a pick
pub deletions_told : (c : Picked) (room : ℕ) → Told (deletions_of full c room)
unfolding deletions_of ◌⇒◌
deletions_told c room = first_told _ _ (refl, (refl, tt))

-- where to cut
pub stop_told : (c : Picked) (m : Cutter) (k : Key) → Told (should_stop full c m k)
unfolding should_stop ◌⇒◌
stop_told c m k = first_told _ _ (refl, (refl, tt))

-- a base-level question
pub base_told : (t : State) (l : ℕ) (m : Option (List ℕ)) (u : List ℕ) → Told (is_base_level full t l m u)
unfolding is_base_level ◌⇒◌
base_told t l m u = first_told _ _ (refl, (refl, (refl, (refl, tt))))

-- ---- questions and snapshots
-- the level of a memory table
pub memtable_told : (t : State) (a b : List ℕ) → Told (memtable full t a b)
unfolding memtable ◌⇒◌
memtable_told t a b = first_told _ _ (refl, (refl, tt))

-- whether a file overlaps
pub overlap_told : (t : State) (l : ℕ) (a b : List ℕ) → Told (overlap_in_level full t l a b)
unfolding overlap_in_level ◌⇒◌
overlap_told t l a b = first_told _ _ (refl, (refl, (refl, tt)))

-- the files that overlap
pub inputs_told : (t : State) (l : ℕ) (a b : Key) (room : ℕ) → Told (overlapping_inputs full t l a b room)
unfolding overlapping_inputs ◌⇒◌
inputs_told t l a b room = first_told _ _ (refl, (refl, (refl, (refl, tt))))

-- all files
pub live_told : (t : State) (room : ℕ) → Told (live full t room)
unfolding live ◌⇒◌
live_told t room = first_told _ _ (refl, (refl, tt))

-- a snapshot written
pub write_told : (t : State) (room : ℕ) → Told (write full t room)
unfolding write ◌⇒◌
write_told t room = first_told _ _ (refl, (refl, tt))

-- a snapshot read
pub read_told : (bs : List ℕ) → Told (read full bs)
unfolding read or_bad
read_told bs = go (decode full bs)
  where
    go : (o : Option State) → Told (or_bad o)
    go none = refused_told 14 refl
    go (some t) = λ n e. let z : true ≡ false = cc in clash refl z

-- the files of a level
pub files_told : (t : State) (n : ℕ) → Told (level_files t n)
unfolding level_files ◌⇒◌
files_told t n = first_told _ _ (refl, (refl, tt))

-- ---- recorded days
-- an answer that says something else of the same result
said_told : {A B : Type 0} (f : A → B) (a : Answer A) → Told a → Told (on_answer f a)
unfolding on_answer
said_told f (gives x) h n e = let z : true ≡ false = cc in clash refl z
said_told f (refused m) h n e = refused_told m (h m refl) n e

-- what a replay comes to: a difference, or a snapshot written
concluded_told : (o : Outcome State) (room : ℕ) → Told (concluded full room o)
unfolding concluded
concluded_told (ended t) room = said_told (λ (bs : List ℕ). ended bs) (write full t room) (write_told t room)
concluded_told (differs d) room = λ n e. let z : true ≡ false = cc in clash refl z

-- a replay
pub replay_told : (snapshot recording : List ℕ) (room : ℕ) → Told (replay full snapshot recording room)
unfolding replay replay_of
replay_told snapshot recording room = go (decode full snapshot) (read_recording recording)
  where
    go : (o : Option State) (r : Option Recording) → Told (replay_of full room o r)
    go none r = refused_told 14 refl
    go (some t) none = refused_told 15 refl
    go (some t) (some r) = concluded_told (replayed_from full t r) room
