-- What code's calls answer and leave on a well-formed store is what a replay gives and leaves. Assumes nothing.
use Prim.Native.Nat.{ℕ, zero, suc, ◌-◌, ◌≤◌, min}
use Rattle.std.specs.Prelude.{◌≡◌, Bool, true, false, cond, leb, take, drop, Result, Ok, Err}
use Rattle.std.proofs.Math.Path.{refl, sym, ap, subst}
use Rattle.std.proofs.Common.{◌∙◌, leb-true, leb-false, take_all, arith}
use mathlib.Core.List.{List, [], ◌∷◌, ◌++◌, map, map-id, map-map, map-append}
use Rattle.std.proofs.Math.Option.{Option, none, some}
use Rattle.std.proofs.Math.ListN.{length, replicate, length-take, length-map}
use Rattle.std.proofs.lemmas.List.{length-replicate}
use Rattle.std.proofs.Math.Seq.{take-append_seam}
use Rattle.lemmas.specs.ListLaws.{both}
use Rattle.lemmas.specs.Maps.{map_same, map_replicate}
use Rattle.lemmas.specs.Slices.{put, put_whole, put_front, take_map}
use Rattle.model.specs.Key as key
use Rattle.model.specs.Answer.{Answer, gives, refused, on_answer}
use Rattle.model.specs.File.{State, full, well_formed, key_room, max_pointers, max_deletions, max_additions}
use Rattle.model.specs.Edit as model
use Rattle.model.specs.Edit.{edit}
use Rattle.model.specs.Counters.{new, counter}
use Rattle.model.specs.CounterLaws.{new_is}
use Rattle.model.specs.Calls as calls
use Rattle.model.specs.Pick as pick
use Rattle.model.specs.Pick.{size_pick, manual_pick, complete, good_picked}
use Rattle.model.proofs.PickLaws.{size_accepted, range_accepted}
use Rattle.model.proofs.PickedLaws.{size_good, range_good}
use Rattle.model.specs.History as history
use Rattle.model.proofs.Formed.{formed_says}
use Rattle.model.proofs.Demand3.{WordCalls, run_formed}
use Rattle.model.specs.History.{edits, picks_size, picks_range, counts, kept, kept_pick, after, run}
use Rattle.model_replay.specs.Given as said
use Rattle.model_replay.specs.Given.{Given, accepted, picked, choice_of, count_says, given}
use Rattle.model_replay.proofs.GivenLaws.{given_new}
use Rattle.model_replay.specs.Held as blank
use Rattle.model_replay.specs.Held.{held_key, held_pointer, held_addition, held_entries, held_edit}
use Rattle.model_replay.proofs.HeldLaws.{held_alike, held_range}
use Rattle.model_replay.specs.Recording.{previous_tag}
use Rattle.std.specs.Result.{result_unwrap_or}
use Rattle.answers.specs.Outcome.{number_of, result_of}
use Rattle.answers.specs.declared.Refusal.{Refusal}
use Rattle.keys.specs.Key.{key_of, key_record}
use Rattle.keys.specs.KeyLaws.{key_of_record}
use Rattle.edit.specs.Edit.{entries, blank_pointing, blank_deletion, blank_addition, pointing_of, deletion_of, addition_of, log_of, edit_of}
use Rattle.pick_answer.specs.declared.Pick.{Pick}
use Rattle.pick_answer.specs.Picked.{cause_record, picked_record, pick_record, pick_of, well_picked}
use Rattle.pick_answer.specs.PickedLaws.{held, held_well}
use Rattle.store.specs.declared.Store.{Store}
use Rattle.store.specs.Store.{state_of, store_of, well_store, on_store, stored, StoreShape}
use Rattle.store.specs.StoreLaws as store
use Rattle.store_numbers.specs.declared.Handed.{Handed}
use Rattle.store_numbers.specs.Numbering.{handed_record, handed}
use Rattle.replay_given.specs.Given.{said_by, plain_given, handed_given, picked_given, is_number, can_tell}
use Rattle.replay_call.specs.NumberLaws.{level_number}
use Rattle.answers_told.specs.ToldLaws.{Told, edit_told, counter_told, new_told, size_told, range_told}
use Rattle.replay_call.specs.Call.{pointing_record, deletion_record, addition_record, log_record, filled, edit_record, count_of, counted_by}

-- ---- an edit as code has it
-- a key as it is held has no more bytes than a key's room
held_short : (k : key.Key) → length (held_key full k) ≤ key_room
unfolding held_key full
held_short k = go (leb (length k) key_room) refl
  where
    go : (t : Bool) → leb (length k) key_room ≡ t → length (cond t k []) ≤ key_room
    go true e = leb-true (length k) key_room e
    go false e = omega arith

-- so its record stands for it
held_key_lem : (k : key.Key) → key_of (key_record (held_key full k)) ≡ held_key full k
held_key_lem k = key_of_record (held_key full k) (held_short k)

-- a pointer as code has it
pointing_held : (q : model.Pointer) → pointing_of (pointing_record q) ≡ held_pointer full q
unfolding pointing_of pointing_record held_pointer
pointing_held q = rw (held_key_lem q.key)

-- a deletion as code has it
deletion_held : (d : model.Deletion) → deletion_of (deletion_record d) ≡ d
unfolding deletion_of deletion_record
deletion_held d = refl

-- an addition as code has it
addition_held : (a : model.Addition) → addition_of (addition_record a) ≡ held_addition full a
unfolding addition_of addition_record held_addition
addition_held a = rw (held_key_lem a.file.smallest, held_key_lem a.file.largest)

-- the record of no bytes stands for them
blank_key_lem : key_of (key_record []) ≡ []
blank_key_lem = key_of_record [] (omega arith)

-- the blank pointer stands for the blank one
blank_pointing_lem : pointing_of blank_pointing ≡ blank.blank_pointer
unfolding pointing_of blank_pointing
blank_pointing_lem = rw blank_key_lem

-- the blank deletion too
blank_deletion_lem : deletion_of blank_deletion ≡ blank.blank_deletion
unfolding deletion_of blank_deletion
blank_deletion_lem = refl

-- and the blank addition
blank_addition_lem : addition_of blank_addition ≡ blank.blank_addition
unfolding addition_of blank_addition
blank_addition_lem = rw blank_key_lem

-- a log number as code has it
log_held : (o : Option ℕ) → log_of (log_record o) ≡ o
unfolding log_of log_record
log_held none = refl
log_held (some n) = refl

-- an array with room, filled with a list from its start
module _ {A B : Type 0} (room : ℕ) (blank : B) (f : A → B) where
  -- as many of its entries as the list has are those that there was room for
  filled_front : (l : List A) → take (length l) (filled room blank f l) ≡ map f (take room l)
  unfolding filled
  filled_front l = go (leb (length l) room) refl
    where
      many : length (map f (take room l)) ≡ min room (length l)
      many = length-map (take room l) f ∙ length-take room l

      go : (t : Bool) → leb (length l) room ≡ t → take (length l) (put (replicate room blank) 0 (map f (take room l))) ≡ map f (take room l)
      go true e =
          let n : length l ≡ length (map f (take room l)) = omega (arith, many, leb-true (length l) room e) in
          rw (put_front (replicate room blank) (map f (take room l)), n) (take-append_seam (map f (take room l)) (drop (length (map f (take room l))) (replicate room blank)))
      go false e =
          let n : length (map f (take room l)) ≡ room = omega (arith, many, leb-false (length l) room e) in
          rw (put_whole (replicate room blank) (map f (take room l)) (n ∙ sym (length-replicate room blank)))
          (take_all (length l) (map f (take room l)) (omega (arith, leb-false (length l) room e)))

  -- its entries stand for the list as it is held
  entries_held : {C : Type 0} (z : C) (g : B → C) (h : A → C) → g blank ≡ z → ((x : A) → g (f x) ≡ h x) → (l : List A) → map g (entries room blank (length l) (filled room blank f l)) ≡ held_entries room z (map h l)
  unfolding entries held_entries
  entries_held z g h b e l =
      ap (λ (xs : List B). map g (xs ++ replicate (length l - room) blank)) (filled_front l)
      ∙ map-append g (map f (take room l)) (replicate (length l - room) blank)
      ∙ rw (map-map g f (take room l), map_same (λ x. g (f x)) h (take room l) e, map_replicate g (length l - room) blank, b, take_map h room l, length-map l h)

-- an edit as code has it is the edit as it is held
pub record_held : (e : model.Edit) → edit_of (edit_record e) ≡ held_edit full e
unfolding edit_of edit_record held_edit full
record_held e =
    let qs = entries_held max_pointers blank_pointing pointing_record blank.blank_pointer pointing_of (held_pointer full) blank_pointing_lem pointing_held e.pointers in
    let ds = entries_held max_deletions blank_deletion deletion_record blank.blank_deletion deletion_of (λ d. d) blank_deletion_lem deletion_held e.deletions
    ∙ ap (held_entries max_deletions blank.blank_deletion) (map-id e.deletions) in
    let xs = entries_held max_additions blank_addition addition_record blank.blank_addition addition_of (held_addition full) blank_addition_lem addition_held e.additions in
    let l = log_held e.log in
    λ i. record { pointers = qs i; deletions = ds i; additions = xs i; log = l i }

-- ---- what a call makes
-- a call leaves the store of the state after it, and gives what a replay gives
pub record Makes (s : Store) (c : history.Call) (after' : Store) (g : Given) : Type 0 where
  pub left : after' ≡ store_of (after full (state_of s) c)
  pub gave : g ≡ given full (state_of s) c

-- a result with another value
abbrev pub valued : {A B : Type 0} → (A → B) → Result A Refusal → Result B Refusal
valued f (Ok a) = Ok (f a)
valued f (Err r) = Err r

-- the same, with the number of its refusal
abbrev pub numbered : {A B : Type 0} → (A → B) → Result A Refusal → Result B ℕ
numbered f (Ok a) = Ok (f a)
numbered f (Err r) = Err (number_of r)

-- what is known of a pick: it is made, and its answer can be kept
pub record MakesPick (s : Store) (c : history.Call) (r : Result Pick Refusal) : Type 0 where
  pub made : Makes s c (result_unwrap_or (valued (λ k. k.store) r) s) (picked_given (numbered (λ k. k.picked) r))
  pub tells : can_tell (numbered (λ k. k.picked) r) ≡ true

-- ---- picked answers that can be kept
-- a picked answer that can be kept: it is well-formed, and its score is a number
record Tellable (c : pick.Picked) : Type 0 where
  good : good_picked full c ≡ true
  number : is_number (cause_record c.cause) ≡ true

-- a size pick can be kept
size_tellable : (t : State) (m : ℕ) (k : pick.Pick) → size_pick full t m ≡ gives k → Tellable k.picked
unfolding complete cause_record is_number
size_tellable t m k e =
    let a = size_accepted full t m k e in
    record {
      good = size_good full t m k (unfold full in omega arith) e;
      number = subst (λ (x : pick.Pick). is_number (cause_record x.picked.cause) ≡ true) a.result (rw (level_number t a.formed));
    }

-- a manual pick can be kept
range_tellable : (t : State) (m l : ℕ) (a b : key.Key) (k : pick.Pick) → manual_pick full t m l a b ≡ gives k → Tellable k.picked
unfolding complete cause_record is_number
range_tellable t m l a b k e = record {
  good = range_good full t m l a b k e;
  number = subst (λ (x : pick.Pick). is_number (cause_record x.picked.cause) ≡ true) (range_accepted full t m l a b k e).result refl;
}

-- ---- by the answer that a call has for the state
-- a well-formed store whose arrays have their lengths is the store of its state
pub one_store : (s : Store) → StoreShape s → well_store s ≡ true → s ≡ store_of (state_of s)
one_store s q w = store.canonical s q ((store.well_says s).0 w).sound

-- the answer of a call that says nothing more
plain_said : (a : Answer State) → Told a → plain_given (numbered (λ t. tt) (stored a)) ≡ on_answer (λ (t : State). accepted) a
unfolding said_by stored result_of on_answer
plain_said (gives t) h = refl
plain_said (refused n) h = ap refused (h n refl)

-- a well-formed store that is the store of its state
module _ (s : Store) (w : well_store s ≡ true) (one : s ≡ store_of (state_of s)) where
  -- what an edit or a counter call leaves, by its answer
  leaves_kept : (a : Answer State) → result_unwrap_or (stored a) s ≡ store_of (kept (state_of s) a)
  unfolding stored result_of kept
  leaves_kept (gives t) = refl
  leaves_kept (refused n) = one

  -- a call that says nothing more, by the answer that it has for the state
  plain_makes : (c : history.Call) (call : State → Answer State) (a : Answer State) → call (state_of s) ≡ a → Told a → after full (state_of s) c ≡ kept (state_of s) a
      → given full (state_of s) c ≡ on_answer (λ (t : State). accepted) a → let r = stored (on_store s call) in Makes s c (result_unwrap_or r s) (plain_given (numbered (λ t. tt) r))
  plain_makes c call a e h k g = rw (store.on_store_well s call w, e) record { left = leaves_kept a ∙ ap store_of (sym k); gave = plain_said a h ∙ sym g }

  -- a pick, by its answer
  answer_makes : (c : history.Call) (a : Answer pick.Pick) → Told a → after full (state_of s) c ≡ kept_pick (state_of s) a → given full (state_of s) c ≡ on_answer (λ (k : pick.Pick). picked (choice_of k.picked)) a
      → ((k : pick.Pick) → a ≡ gives k → Tellable k.picked) → MakesPick s c (pick_of a)
  unfolding pick_of pick_record result_of kept_pick on_answer said_by can_tell picked_record
  answer_makes c (gives k) n e g h =
      let t = h k refl in
      let same = (held k.picked t.good).0 in
      record {
        made = record { left = ap store_of (sym e); gave = ap (λ (x : pick.Picked). gives (picked (choice_of x))) same ∙ sym g };
        tells = both (well_picked (picked_record k.picked)) (is_number (cause_record k.picked.cause)) (held_well k.picked t.good) t.number;
      }
  answer_makes c (refused n) t e g h = record { made = record { left = one ∙ ap store_of (sym e); gave = ap refused (t n refl) ∙ sym g }; tells = refl }

  -- a pick on a store, by the answer that it has for the state
  pick_makes : (c : history.Call) (call : State → Answer pick.Pick) (a : Answer pick.Pick) → call (state_of s) ≡ a → Told a → after full (state_of s) c ≡ kept_pick (state_of s) a
      → given full (state_of s) c ≡ on_answer (λ (k : pick.Pick). picked (choice_of k.picked)) a → ((k : pick.Pick) → a ≡ gives k → Tellable k.picked) → MakesPick s c (pick_of (on_store s call))
  pick_makes c call a e t k g h = rw (store.on_store_well s call w, e) (answer_makes c a t k g h)

-- ---- the calls, on a store whose arrays have their lengths, as every store in code has: else a refused call would leave one that is not the store of its state
-- an edit
pub edit_made : (s : Store) (e : model.Edit) → StoreShape s → well_store s ≡ true → let r = stored (on_store s (λ t. edit full t (edit_of (edit_record e)))) in Makes s (edits e) (result_unwrap_or r s) (plain_given (numbered (λ t. tt) r))
unfolding after given
edit_made s e q w =
    let t = state_of s in
    let same : edit full t (edit_of (edit_record e)) ≡ edit full t e = ap (edit full t) (record_held e) ∙ held_alike full t e in
    plain_makes s w (one_store s q w) (edits e) (λ x. edit full x (edit_of (edit_record e))) (edit full t e) same (edit_told t e) refl refl

-- a size pick
pub size_made : (s : Store) (m : ℕ) → StoreShape s → well_store s ≡ true → MakesPick s (picks_size m) (pick_of (on_store s (λ t. size_pick full t m)))
unfolding after given
size_made s m q w = pick_makes s w (one_store s q w) (picks_size m) (λ t. size_pick full t m) (size_pick full (state_of s) m) refl (size_told (state_of s) m) refl refl (size_tellable (state_of s) m)

-- a manual pick, for keys as code has them
pub range_made : (s : Store) (m l : ℕ) (a b : key.Key) → StoreShape s → well_store s ≡ true
    → MakesPick s (picks_range m l a b) (pick_of (on_store s (λ t. manual_pick full t m l (key_of (key_record (held_key full a))) (key_of (key_record (held_key full b))))))
unfolding after given
range_made s m l a b q w =
    let t = state_of s in
    let x = key_of (key_record (held_key full a)) in
    let y = key_of (key_record (held_key full b)) in
    let same : manual_pick full t m l x y ≡ manual_pick full t m l a b = (λ i. manual_pick full t m l (held_key_lem a i) (held_key_lem b i)) ∙ held_range full t m l a b in
    pick_makes s w (one_store s q w) (picks_range m l a b) (λ t. manual_pick full t m l x y) (manual_pick full t m l a b) same (range_told t m l a b) refl refl (range_tellable t m l a b)

-- what new says, by its answer
handed_said : (a : Answer calls.Handed) → Told a → handed_given (numbered (λ h. h.number) (handed a)) ≡ on_answer (λ (h : calls.Handed). said.handed h.number) a
unfolding handed handed_record result_of said_by on_answer
handed_said (gives h) t = refl
handed_said (refused n) t = ap refused (t n refl)

-- what it leaves, by the answer of its counter call
handed_kept : (s : Store) (n : ℕ) → s ≡ store_of (state_of s) → (a : Answer State)
    → result_unwrap_or (valued (λ h. h.store) (handed (on_answer (λ (t : State). record { number = n; after = t }) a))) s ≡ store_of (kept (state_of s) a)
unfolding handed handed_record result_of on_answer kept
handed_kept s n one (gives t) = refl
handed_kept s n one (refused m) = one

-- new
pub new_made : (s : Store) → StoreShape s → well_store s ≡ true → let r = handed (on_store s (calls.new_number full)) in Makes s (counts new) (result_unwrap_or (valued (λ h. h.store) r) s) (handed_given (numbered (λ h. h.number) r))
unfolding after
new_made s q w =
    let t = state_of s in
    rw (store.on_store_well s (calls.new_number full) w) record {
      left = ap (λ (a : Answer calls.Handed). result_unwrap_or (valued (λ (h : Handed). h.store) (handed a)) s) (new_is full t) ∙ handed_kept s t.counters.next (one_store s q w) (counter full t new);
      gave = handed_said (calls.new_number full t) (new_told t) ∙ sym (given_new full t);
    }

-- the other counter calls say nothing more
count_says_lem : (t : State) (tag n : ℕ) → 1 ≤ tag → tag ≤ previous_tag → count_says (count_of tag n) t ≡ accepted
unfolding count_of count_says
count_says_lem t zero n h k = absurd (omega arith)
count_says_lem t (suc zero) n h k = refl
count_says_lem t (suc (suc zero)) n h k = refl
count_says_lem t (suc (suc (suc zero))) n h k = refl
count_says_lem t (suc (suc (suc (suc zero)))) n h k = refl
count_says_lem t (suc (suc (suc (suc (suc zero))))) n h k = refl
count_says_lem t (suc (suc (suc (suc (suc (suc tag)))))) n h k = absurd (omega arith)

-- the other counter calls, by their tag
pub count_made : (s : Store) (tag n : ℕ) → 1 ≤ tag → tag ≤ previous_tag → StoreShape s → well_store s ≡ true
    → let r = counted_by s tag n in Makes s (counts (count_of tag n)) (result_unwrap_or r s) (plain_given (numbered (λ t. tt) r))
unfolding counted_by after given
count_made s tag n h k q w =
    let a = counter full (state_of s) (count_of tag n) in
    plain_makes s w (one_store s q w) (counts (count_of tag n)) (λ t. counter full t (count_of tag n)) a refl (counter_told (state_of s) (count_of tag n)) refl
    (ap (λ (x : said.Said). on_answer (λ (t : State). x) a) (count_says_lem (state_of s) tag n h k))

-- the state that a call leaves is well-formed again; the numbers of the files that an edit adds fit 64 bits
pub made_formed : (s : Store) (c : history.Call) → well_store s ≡ true → WordCalls (c ∷ []) → well_formed full (after full (state_of s) c) ≡ true
unfolding run
made_formed s c w h =
    let f = (formed_says full (state_of s)).0 ((store.well_says s).0 w).formed in
    (formed_says full (after full (state_of s) c)).1 (run_formed full (state_of s) (c ∷ []) h f)

-- so is its store
pub made_well : (s : Store) (c : history.Call) → well_store s ≡ true → WordCalls (c ∷ []) → well_store (store_of (after full (state_of s) c)) ≡ true
made_well s c w h = store.held_well (after full (state_of s) c) (made_formed s c w h)
