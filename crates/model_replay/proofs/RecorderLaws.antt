-- Every call that can be made can be recorded: its answer fits, and an edit with too many entries is recorded so that it answers alike. Assumes nothing.
use Prim.Native.Nat.{ℕ, suc, ◌+◌, ◌^◌, ◌<◌, ◌≤◌}
use Rattle.std.specs.Prelude.{◌≡◌, Bool, cond, true, false, not, ◌&&◌, ◌⊎◌, ltb, leb, length, take, pos}
use Rattle.std.proofs.Math.Path.{refl, ap}
use Rattle.std.proofs.Common.{sym, ◌∙◌, subst, inl, inr, length-take, take_all, arith}
use mathlib.Core.List.Memᴰ.{append_cases}
use mathlib.Core.List.Memᴰ.{head as here}
use mathlib.Core.List.Memᴰ.{not-nil}
use mathlib.Core.List.Memᴰ.{tail as there}
use mathlib.Core.List.{List, [], ◌∷◌, ◌++◌, Memᴰ as In}
use Rattle.std.proofs.Math.Option.{none}
use borrow.Author.Tests.{lt-ltb, leb-true, le-leb, not-false}
use Rattle.std.specs.Float.{binary64}
use Rattle.std.specs.Float.Ieee.{of_int, div, to_bits}
use Rattle.std.specs.Float.Ieee.Fits.{div-fits}
use Rattle.std.specs.Float.Ieee.Bits.{to_bits-lt}
use Rattle.lemmas.specs.Order.{clash}
use Rattle.lemmas.specs.Lists.{all}
use Rattle.lemmas.specs.ListLaws.{and_left, and_right, both, all_in}
use Rattle.lemmas.specs.Merge.{all_take}
use Rattle.lemmas.specs.Distinct.{same_test}
use Rattle.model.specs.Key.{Key}
use Rattle.model.specs.Answer.{Answer, gives, refused, Refusal, ◌⇒◌, first_of, on_answer}
use Rattle.model.specs.File.{Profile, File, State, level, max_counter, max_size, good_file, well_formed, set_counters}
use Rattle.model.specs.Edit.{Pointer, Deletion, Addition, Edit, survivors_from, applied, too_many, pointer_refusals, deletion_refusals, addition_refusals, entry_refusals, result_refusals, edit}
use Rattle.model.specs.Counters.{CounterCall, new, reuse, mark, last, manifest, previous, counted, counter}
use Rattle.model.specs.Score.{Score, score, level_to_compact, reported}
use Rattle.model.specs.Pick.{Picked, Pick, complete, bad_maximum, size_pick, manual_pick}
use Rattle.model.specs.Snapshot.{five_of}
use Rattle.model.specs.History.{Call, edits, picks_size, picks_range, counts, after, run}
use Rattle.model.proofs.Formed.{WF}
use Rattle.model.proofs.PickLaws.{size_accepted, range_accepted}
use Rattle.model.proofs.PickedLaws.{GoodLevel, good_level_says, GoodPicked, good_picked_says, size_good, range_good}
use Rattle.model.proofs.SnapshotLaws.{Fits, file_facts}
use Rattle.model.proofs.Demand3.{run_formed}
use Rattle.model_replay.specs.Given.{scored, accepted, picked, why_of, choice_of, count_says, given}
use Rattle.model_replay.specs.Form.{Form, num, file_form, pair, shaped, many}
use Rattle.model_replay.specs.Recording.{Asked, asks_edit, Recorded, call_of, trimmed, pointer_form, deletion_form, addition_form, log_form, edit_form, fits_asked, asked_form, fits_why, why_form, choice_form, fits_given, given_form, recorded_form, recordable}
use Rattle.model_replay.specs.Replay.{recorded_day}
use Rattle.model_replay.proofs.ReplayBytesLaws.{recordable_says, asked_words}
use Rattle.model_replay.proofs.HeldLaws.{few_says}

-- ---- a refusal's number is one byte
-- every number of a list of refusals is
abbrev Small : List Refusal → Type 0
Small rs = (r : Refusal) → In r rs → r.code < 256

-- none
small_nil : Small []
small_nil r m = absurd (not-nil m)

-- one more
small_cons : (b : Bool) (n : ℕ) (rs : List Refusal) → n < 256 → Small rs → Small ((b ⇒ n) ∷ rs)
unfolding ◌⇒◌
small_cons b n rs i h r (here e) = omega (arith, ap (λ (x : Refusal). x.code) e)
small_cons b n rs i h r (there m) = h r m

-- two lists
small_both : (rs qs : List Refusal) → Small rs → Small qs → Small (rs ++ qs)
small_both rs qs h k r m = go (append_cases rs m)
  where
    go : In r rs ⊎ In r qs → r.code < 256
    go (inl i) = h r i
    go (inr i) = k r i

-- so is the number that is given
small_given : {A : Type 0} (rs : List Refusal) (a : A) (n : ℕ) → Small rs → first_of rs a ≡ refused n → n < 256
unfolding first_of
small_given [] a n h e = let z : true ≡ false = cc in clash refl z
small_given (r ∷ rs) a n h e = go (small_given rs a n (λ q m. h q (there m))) r.applies refl
  where
    go : (first_of rs a ≡ refused n → n < 256) → (b : Bool) → r.applies ≡ b → n < 256
    go ih true f = let q : r.code ≡ n = cc in omega (arith, h r (here refl))
    go ih false f = ih (rw f at e)

-- those of pointers
pointer_small : (p : Profile) (qs : List Pointer) → Small (pointer_refusals p qs)
unfolding pointer_refusals
pointer_small p [] = small_nil
pointer_small p (q ∷ qs) = small_cons _ 1 _ (omega arith) (small_cons _ 2 _ (omega arith) (pointer_small p qs))

-- of deletions
deletion_small : (p : Profile) (ds : List Deletion) → Small (deletion_refusals p ds)
unfolding deletion_refusals
deletion_small p [] = small_nil
deletion_small p (d ∷ ds) = small_cons _ 1 _ (omega arith) (deletion_small p ds)

-- of additions
addition_small : (p : Profile) (as' : List Addition) → Small (addition_refusals p as')
unfolding addition_refusals
addition_small p [] = small_nil
addition_small p (a ∷ as') = small_cons _ 1 _ (omega arith) (small_cons _ 2 _ (omega arith) (small_cons _ 4 _ (omega arith) (small_cons _ 5 _ (omega arith) (addition_small p as'))))

-- all of an edit's
edit_small : (p : Profile) (s : State) (e : Edit) (n : ℕ) → edit p s e ≡ refused n → n < 256
unfolding edit entry_refusals result_refusals
edit_small p s e n h = small_given _ (applied e s) n (small_cons _ 14 _ (omega arith) (small_cons _ 3 _ (omega arith) (small_cons _ 9 _ (omega arith)
    (small_both (entry_refusals p e) (result_refusals p (survivors_from e 0 s.files))
    (small_both (pointer_refusals p e.pointers ++ deletion_refusals p e.deletions) (addition_refusals p e.additions)
    (small_both (pointer_refusals p e.pointers) (deletion_refusals p e.deletions) (pointer_small p e.pointers) (deletion_small p e.deletions)) (addition_small p e.additions))
    (small_cons _ 6 _ (omega arith) (small_cons _ 8 _ (omega arith) (small_cons _ 7 _ (omega arith) small_nil))))))) h

-- a counter call's
count_small : (p : Profile) (s : State) (c : CounterCall) (n : ℕ) → counter p s c ≡ refused n → n < 256
unfolding counter
count_small p s c n h = small_given _ (set_counters s (counted c s.counters)) n (small_cons _ 14 _ (omega arith) (small_cons _ 9 _ (omega arith) small_nil)) h

-- a size pick's
size_small : (p : Profile) (s : State) (m n : ℕ) → size_pick p s m ≡ refused n → n < 256
unfolding size_pick
size_small p s m n h = small_given _ _ n (small_cons _ 14 _ (omega arith) (small_cons _ 9 _ (omega arith) (small_cons _ 10 _ (omega arith) small_nil))) h

-- a manual pick's
range_small : (p : Profile) (s : State) (m l : ℕ) (a b : Key) (n : ℕ) → manual_pick p s m l a b ≡ refused n → n < 256
unfolding manual_pick
range_small p s m l a b n h = small_given _ _ n (small_cons _ 14 _ (omega arith) (small_cons _ 1 _ (omega arith) (small_cons _ 2 _ (omega arith) (small_cons _ 9 _ (omega arith) (small_cons _ 11 _ (omega arith) (small_cons _ 10 _ (omega arith) small_nil)))))) h

-- ---- what a call gives fits
-- a file of a level that is well-formed
file_fits : (p : Profile) → Fits p → (f : File) → good_file p f ≡ true → f.number < 2 ^ 64 → file_form.fits f ≡ true
unfolding file_form
file_fits p fit f g n =
    let k = file_facts p f g in
    let a = ltb f.number (256 ^ 8) in
    let b = ltb f.size (256 ^ 8) in
    let c = ltb (length f.smallest) 256 in
    let d = ltb (length f.largest) 256 in
    both (a && b && c) d (both (a && b) c (both a b (lt-ltb f.number (256 ^ 8) n) (lt-ltb f.size (256 ^ 8) (omega (arith, k.size))))
    (lt-ltb (length f.smallest) 256 (omega (arith, k.smallest, fit.keys)))) (lt-ltb (length f.largest) 256 (omega (arith, k.largest, fit.keys)))

-- such a level
level_fits : (p : Profile) → Fits p → (l : ℕ) (fs : List File) → GoodLevel p l fs → (many 2 file_form).fits fs ≡ true
unfolding many
level_fits p fit l fs g = both (ltb (length fs) (256 ^ 2)) (all file_form.fits fs) (lt-ltb (length fs) (256 ^ 2) (omega (arith, g.room, fit.room)))
    ((all_in file_form.fits fs).1 (λ f m. file_fits p fit f (g.good f m) (g.words f m)))

-- a well-formed picked answer, if its cause does
picked_fits : (p : Profile) → Fits p → (c : Picked) → GoodPicked p c → why_form.fits (why_of c.cause) ≡ true → choice_form.fits (choice_of c) ≡ true
unfolding choice_form choice_of shaped pair num bad_maximum
picked_fits p fit c g h =
    let level : ltb c.level (256 ^ 8) ≡ true = lt-ltb c.level (256 ^ 8) (omega (arith, g.level, fit.levels)) in
    let maximum : ltb c.maximum (256 ^ 8) ≡ true = lt-ltb c.maximum (256 ^ 8) (omega (arith, leb-true c.maximum (2 ^ 32) (and_right (leb 1 c.maximum) (leb c.maximum (2 ^ 32)) (not-false (leb 1 c.maximum && leb c.maximum (2 ^ 32)) g.maximum)))) in
    let first = level_fits p fit c.level c.first ((good_level_says p c.level c.first).0 g.first) in
    let second = level_fits p fit (suc c.level) c.second ((good_level_says p (suc c.level) c.second).0 g.second) in
    let grand = level_fits p fit (c.level + 2) c.grand ((good_level_says p (c.level + 2) c.grand).0 g.grand) in
    rw (level, h, maximum, first, second, grand)

-- the bits of a score are a 64-bit number
bits_fit : (c : Score) → why_form.fits (scored (to_bits binary64 (reported c))) ≡ true
unfolding why_form fits_why num reported
bits_fit c =
    let v = div binary64 (of_int binary64 (pos c.part)) (of_int binary64 (pos c.whole)) in
    lt-ltb (to_bits binary64 v) (256 ^ 8) (omega (arith, to_bits-lt binary64 v (div-fits binary64 (of_int binary64 (pos c.part)) (of_int binary64 (pos c.whole)))))

-- the answer of every call on a well-formed state fits a record
pub given_fits : (p : Profile) → Fits p → 2 ≤ p.levels → (s : State) → WF p s → (c : Call) → given_form.fits (given p s c) ≡ true
unfolding given_form fits_given given on_answer num
given_fits p fit two s w (edits e) = go (edit p s e) refl
  where
    go : (o : Answer State) → edit p s e ≡ o → fits_given (on_answer (λ (t : State). accepted) o) ≡ true
    go (gives t) h = refl
    go (refused n) h = lt-ltb n (256 ^ 1) (edit_small p s e n h)
given_fits p fit two s w (picks_size m) = go (size_pick p s m) refl
  where
    why : (k : Pick) → size_pick p s m ≡ gives k → why_form.fits (why_of k.picked.cause) ≡ true
    why k h = subst (λ (x : Pick). why_form.fits (why_of x.picked.cause) ≡ true) (size_accepted p s m k h).result (unfold complete why_of in bits_fit (score s (level_to_compact p s)))

    go : (o : Answer Pick) → size_pick p s m ≡ o → fits_given (on_answer (λ (k : Pick). picked (choice_of k.picked)) o) ≡ true
    go (gives k) h = picked_fits p fit k.picked ((good_picked_says p k.picked).0 (size_good p s m k two h)) (why k h)
    go (refused n) h = lt-ltb n (256 ^ 1) (size_small p s m n h)
given_fits p fit two s w (picks_range m l a b) = go (manual_pick p s m l a b) refl
  where
    why : (k : Pick) → manual_pick p s m l a b ≡ gives k → why_form.fits (why_of k.picked.cause) ≡ true
    why k h = subst (λ (x : Pick). why_form.fits (why_of x.picked.cause) ≡ true) (range_accepted p s m l a b k h).result (unfold complete why_of why_form fits_why in refl)

    go : (o : Answer Pick) → manual_pick p s m l a b ≡ o → fits_given (on_answer (λ (k : Pick). picked (choice_of k.picked)) o) ≡ true
    go (gives k) h = picked_fits p fit k.picked ((good_picked_says p k.picked).0 (range_good p s m l a b k h)) (why k h)
    go (refused n) h = lt-ltb n (256 ^ 1) (range_small p s m l a b n h)
given_fits p fit two s w (counts c) = go (counter p s c) refl
  where
    next : s.counters.next < 256 ^ 8
    next = unfold five_of in omega (arith, w.counters s.counters.next (here refl))

    said : (d : CounterCall) → fits_given (gives (count_says d s)) ≡ true
    said new = unfold count_says in lt-ltb s.counters.next (256 ^ 8) next
    said (reuse n) = unfold count_says in refl
    said (mark n) = unfold count_says in refl
    said (last n) = unfold count_says in refl
    said (manifest n) = unfold count_says in refl
    said (previous n) = unfold count_says in refl

    go : (o : Answer State) → counter p s c ≡ o → fits_given (on_answer (λ (t : State). count_says c s) o) ≡ true
    go (gives t) h = said c
    go (refused n) h = lt-ltb n (256 ^ 1) (count_small p s c n h)

-- ---- a day can be recorded
day_fits : (p : Profile) → Fits p → 2 ≤ p.levels → (m : ℕ) (s : State) → WF p s → (as' : List Asked) → all (λ (a : Asked). asked_form.fits a) as' ≡ true
    → (all (λ (c : Recorded). recorded_form.fits c) (recorded_day p m s as') ≡ true) × (length (recorded_day p m s as') ≡ length as')
unfolding recorded_day all recorded_form shaped pair asked_form
day_fits p fit two m s w [] h = (refl, refl)
day_fits p fit two m s w (a ∷ as') h =
    let f = and_left (fits_asked a) (all (λ (a : Asked). asked_form.fits a) as') h in
    let t : WF p (after p s (call_of m a)) = unfold run in run_formed p s (call_of m a ∷ []) (asked_words m a [] f tt) w in
    let r = day_fits p fit two m (after p s (call_of m a)) t as' (and_right (fits_asked a) (all (λ (a : Asked). asked_form.fits a) as') h) in (
      both (fits_asked a && given_form.fits (given p s (call_of m a))) (all (λ (c : Recorded). recorded_form.fits c) (recorded_day p m (after p s (call_of m a)) as'))
          (both (fits_asked a) (given_form.fits (given p s (call_of m a))) f (given_fits p fit two s w (call_of m a))) r.0,
      ap suc r.1,
    )

-- a day of fewer than 2^32 calls, each asked with numbers of 64 bits and keys of at most 255 bytes, can be recorded with the answers it gave
pub day_recordable : (p : Profile) → Fits p → 2 ≤ p.levels → (m place : ℕ) (s : State) → WF p s → (as' : List Asked) → all (λ (a : Asked). asked_form.fits a) as' ≡ true
    → m < 2 ^ 64 → length as' < 2 ^ 32 → place + length as' < 2 ^ 64
    → recordable (record { settings = record { maximum = m; place = place }; calls = recorded_day p m s as' }) ≡ true
day_recordable p fit two m place s w as' h i j k =
    let d = day_fits p fit two m s w as' h in
    let n = d.1 in
    (recordable_says (record { settings = record { maximum = m; place = place }; calls = recorded_day p m s as' })).1 record { maximum = i; few = omega arith; calls = d.0; places = omega arith }

-- ---- an edit with too many entries
-- one more than the room is as many too many
trim_few : {A : Type 0} (n : ℕ) (xs : List A) → leb (length (take (suc n) xs)) n ≡ leb (length xs) n
trim_few n xs = same_test (leb (length (take (suc n) xs)) n) (leb (length xs) n)
    (λ h. le-leb (length xs) n (omega (arith, leb-true (length (take (suc n) xs)) n h, length-take (suc n) xs)))
    (λ h. le-leb (length (take (suc n) xs)) n (omega (arith, leb-true (length xs) n h, length-take (suc n) xs)))

-- recorded, it still has too many
pub trimmed_many : (p : Profile) (e : Edit) → too_many p (trimmed p e) ≡ too_many p e
unfolding too_many trimmed
trimmed_many p e = rw (trim_few p.deletions e.deletions, trim_few p.additions e.additions, trim_few p.pointers e.pointers)

-- an edit that has not too many is recorded whole
pub trimmed_whole : (p : Profile) (e : Edit) → too_many p e ≡ false → trimmed p e ≡ e
unfolding trimmed
trimmed_whole p e h =
    let few = few_says p e h in
    let ds : take (suc p.deletions) e.deletions ≡ e.deletions = take_all (suc p.deletions) e.deletions (omega (arith, few.deletions)) in
    let as' : take (suc p.additions) e.additions ≡ e.additions = take_all (suc p.additions) e.additions (omega (arith, few.additions)) in
    let qs : take (suc p.pointers) e.pointers ≡ e.pointers = take_all (suc p.pointers) e.pointers (omega (arith, few.pointers)) in
    λ i. record { pointers = qs i; deletions = ds i; additions = as' i; log = e.log }

-- every edit answers as it is recorded, and leaves the same
pub trimmed_alike : (p : Profile) (s : State) (e : Edit) → edit p s (trimmed p e) ≡ edit p s e
trimmed_alike p s e = go (too_many p e) refl
  where
    refuses : (x : Edit) → too_many p x ≡ true → edit p s x ≡ cond (not (well_formed p s)) (refused 14) (refused 3)
    refuses x h = unfold edit first_of ◌⇒◌ in rw h

    go : (b : Bool) → too_many p e ≡ b → edit p s (trimmed p e) ≡ edit p s e
    go true h = refuses (trimmed p e) (trimmed_many p e ∙ h) ∙ sym (refuses e h)
    go false h = ap (λ (x : Edit). edit p s x) (trimmed_whole p e h)

-- an edit whose numbers have 64 bits and whose keys have at most 255 bytes
pub record Passable (e : Edit) : Type 0 where
  pub pointers : all (λ (q : Pointer). pointer_form.fits q) e.pointers ≡ true
  pub deletions : all (λ (d : Deletion). deletion_form.fits d) e.deletions ≡ true
  pub additions : all (λ (a : Addition). addition_form.fits a) e.additions ≡ true
  pub log : log_form.fits e.log ≡ true

-- a section of the front of a list that passes
front_fits : {A : Type 0} (f : Form A) (n : ℕ) (xs : List A) → n < 65535 → all (λ (a : A). f.fits a) xs ≡ true → (many 2 f).fits (take (suc n) xs) ≡ true
unfolding many
front_fits f n xs i h = both (ltb (length (take (suc n) xs)) (256 ^ 2)) (all f.fits (take (suc n) xs)) (lt-ltb (length (take (suc n) xs)) (256 ^ 2) (omega (arith, length-take (suc n) xs))) (all_take f.fits (suc n) xs h)

-- as it is recorded it fits, however many entries it has
pub trimmed_fits : (p : Profile) (e : Edit) → p.pointers < 65535 → p.deletions < 65535 → p.additions < 65535 → Passable e → asked_form.fits (asks_edit (trimmed p e)) ≡ true
unfolding asked_form fits_asked edit_form trimmed shaped pair
trimmed_fits p e a b c g = rw (front_fits pointer_form p.pointers e.pointers a g.pointers, front_fits deletion_form p.deletions e.deletions b g.deletions, front_fits addition_form p.additions e.additions c g.additions, g.log)
