use Rattle.std.specs.Prelude.{ℕ, zero, suc, ◌+◌, ◌*◌, ◌^◌, ◌<◌, ◌≤◌, ◌≡◌, refl, ◌↔◌, Bool, cond, true, false, not, ◌&&◌, ◌||◌, eqb, ltb, leb, length, get_or, take, drop}
use Rattle.std.proofs.Common.{ap, ◌∙◌, subst, eqb-true, eq-eqb, ltb-true, ltb-false, lt-ltb, leb-true, le-leb, length-append, length-drop, drop_of_length-le, take-add, length-take-le, arith}
use mathlib.Core.List.{List, [], ◌∷◌, ◌++◌, Memᴰ as In}
use Rattle.std.proofs.lemmas.Bool.{not-true, eqb-false}
use Rattle.std.proofs.lemmas.List.{drop-append-le}
use Rattle.lemmas.specs.Order.{clash, le_lt}
use Rattle.lemmas.specs.Lists.{any, all, chain, join, is_empty, member, distinct, sum, up_from}
use Rattle.lemmas.specs.ListLaws.{and_left, and_right, both, all_in, join_in, join_length, any_in, or_right, up_from_any, Sub, end, skip, also, sub_in, sub_length, sub_chain}
use Rattle.lemmas.specs.Runs.{run_sub}
use Rattle.model.specs.Key.{Key, before}
use Rattle.model.specs.KeyLaws.{before_order}
use Rattle.model.specs.Answer.{gives}
use Rattle.model.specs.File.{Profile, File, State, level, total, numbers, by_smallest, good_file, in_order}
use Rattle.model.specs.Range.{Range, overlapping, range_of}
use Rattle.model.specs.Completion.{inputs}
use Rattle.model.specs.Pick.{Cause, Picked, Pick, grand_of, grown_first, complete, bad_maximum, size_pick, manual_pick, good_level, good_picked}
use Rattle.model.specs.Question.{passed, Cutter, cut_step}
use Rattle.model.specs.Calls.{counts_up_to, good_cutter}
use Rattle.model.proofs.Formed.{WF, good_file_order, distinct_level}
use Rattle.model.proofs.ScoreLaws.{level_is}
pub use Rattle.model.proofs.LineLaws.{levelwise_at}
use Rattle.model.proofs.LineLaws.{level_line}
use Rattle.model.proofs.CompletionLaws.{inputs_run}
use Rattle.model.proofs.PickLaws.{range_accepted, overlapping_sub, FormedAt, level_in_line, formed_sub, grown_formed, grown_nonempty, Begun, size_begun, range_begun}

-- Calls accept what other calls return: a picked answer is well-formed, and the cutter keeps its memory well-formed. Assumes nothing.

-- a number that is not in a list is not in a part of it
sub_member : {xs ys : List File} (n : ℕ) → Sub xs ys → member n (numbers ys) ≡ false → member n (numbers xs) ≡ false
unfolding member any numbers
sub_member n end h = h
sub_member n (skip {y = y} {ys = ys} s) h = sub_member n s (or_right (eqb y.number n) (any (λ m. eqb m n) (numbers ys)) h)
sub_member n (also {y = y} {xs = xs} {ys = ys} s) h = go (sub_member n s) (eqb y.number n) refl
  where
    go : (member n (numbers ys) ≡ false → member n (numbers xs) ≡ false) → (t : Bool) → eqb y.number n ≡ t → (eqb y.number n || any (λ m. eqb m n) (numbers xs)) ≡ false
    go ih true e = clash (rw e) h
    go ih false e = rw e (ih (rw e at h))

-- a part of a list without repetition has none
pub sub_distinct : {xs ys : List File} → Sub xs ys → distinct (numbers ys) ≡ true → distinct (numbers xs) ≡ true
unfolding distinct numbers
sub_distinct end h = h
sub_distinct (skip {y = y} {ys = ys} s) h = sub_distinct s (and_right (not (member y.number (numbers ys))) (distinct (numbers ys)) h)
sub_distinct (also {y = y} {xs = xs} {ys = ys} s) h =
    let a = not-true (member y.number (numbers ys)) (and_left (not (member y.number (numbers ys))) (distinct (numbers ys)) h) in
    both (not (member y.number (numbers xs))) (distinct (numbers xs)) (rw (sub_member y.number s a)) (sub_distinct s (and_right (not (member y.number (numbers ys))) (distinct (numbers ys)) h))

-- a part of a level in order is in order
pub sub_ordered : (l : ℕ) {xs ys : List File} → ((f : File) → In f ys → before f.largest f.smallest ≡ false) → Sub xs ys → in_order l ys ≡ true → in_order l xs ≡ true
unfolding in_order by_smallest
sub_ordered zero g s c = sub_chain (λ (f g : File). not (before g.smallest f.smallest)) (λ f. before f.largest f.smallest ≡ false)
    (λ f g h i a b. rw (before_order.ntrans h.smallest g.smallest f.smallest (not-true (before h.smallest g.smallest) b) (not-true (before g.smallest f.smallest) a))) g s c
sub_ordered (suc l) g s c = sub_chain (λ (f g : File). before f.largest g.smallest) (λ f. before f.largest f.smallest ≡ false)
    (λ f g h i a b. before_order.trans f.largest g.smallest h.smallest a (le_lt before before_order g.smallest g.largest h.smallest i b)) g s c

-- ---- a part of a level of a well-formed state is a well-formed level
-- three levels have no more files than all
three_levels : (fss : List (List File)) (l : ℕ) → length (get_or fss l []) + length (get_or fss (suc l) []) + length (get_or fss (suc (suc l)) []) ≤ length (join fss)
unfolding join
three_levels [] zero = omega arith
three_levels [] (suc l) = omega arith
three_levels (fs ∷ fss) (suc l) = omega (arith, length-append fs (join fss), three_levels fss l)
three_levels (fs ∷ fss) zero = omega (arith, length-append fs (join fss), two_levels fss)
  where
    first : (gss : List (List File)) → length (get_or gss 0 []) ≤ length (join gss)
    first [] = omega arith
    first (g ∷ gs) = omega (arith, length-append g (join gs))

    two_levels : (gss : List (List File)) → length (get_or gss 0 []) + length (get_or gss 1 []) ≤ length (join gss)
    two_levels [] = omega arith
    two_levels (g ∷ gs) = omega (arith, length-append g (join gs), first gs)

-- a list of one level that is well-formed, part by part
pub record GoodLevel (p : Profile) (l : ℕ) (fs : List File) : Type 0 where
  pub good : (f : File) → In f fs → good_file p f ≡ true
  pub words : (f : File) → In f fs → f.number < 2 ^ 64
  pub distinct_numbers : distinct (numbers fs) ≡ true
  pub room : length fs ≤ p.room
  pub ordered : in_order l fs ≡ true

-- the test holds exactly if each part does
pub good_level_says : (p : Profile) (l : ℕ) (fs : List File) → good_level p l fs ≡ true ↔ GoodLevel p l fs
unfolding good_level
good_level_says p l fs =
    let a = all (λ f. good_file p f && ltb f.number (2 ^ 64)) fs in
    let b = distinct (numbers fs) in
    let c = leb (length fs) p.room in
    let o = in_order l fs in (
      λ h.
          let abc = and_left (a && b && c) o h in
          let ab = and_left (a && b) c abc in
          let each = (all_in (λ f. good_file p f && ltb f.number (2 ^ 64)) fs).0 (and_left a b ab) in
          record {
            good = λ f m. and_left (good_file p f) (ltb f.number (2 ^ 64)) (each f m);
            words = λ f m. ltb-true f.number (2 ^ 64) (and_right (good_file p f) (ltb f.number (2 ^ 64)) (each f m));
            distinct_numbers = and_right a b ab;
            room = leb-true (length fs) p.room (and_right (a && b) c abc);
            ordered = and_right (a && b && c) o h;
          },
      λ g. both (a && b && c) o (both (a && b) c (both a b
          ((all_in (λ f. good_file p f && ltb f.number (2 ^ 64)) fs).1 (λ f m. both (good_file p f) (ltb f.number (2 ^ 64)) (g.good f m) (lt-ltb f.number (2 ^ 64) (g.words f m))))
          g.distinct_numbers) (le-leb (length fs) p.room g.room)) g.ordered,
    )

-- a part of a level of a well-formed state is a well-formed level
pub part_good : (p : Profile) (s : State) (l : ℕ) (xs : List File) → WF p s → l < p.levels → Sub xs (level s l) → good_level p l xs ≡ true
unfolding level
part_good p s l xs w h sub =
    let fs = get_or s.files l [] in
    let up : (f : File) → In f xs → In f (join s.files) = λ f m. join_in s.files l f (sub_in f sub m) in
    let ordered : in_order l fs ≡ true = let e : 0 + l ≡ l = omega arith in subst (λ (n : ℕ). in_order n fs ≡ true) e (levelwise_at in_order 0 s.files l (omega (arith, w.levels)) w.ordered) in
    (good_level_says p l xs).1 record {
      good = λ f m. w.good f (up f m);
      words = λ f m. w.words f (up f m);
      distinct_numbers = sub_distinct sub (distinct_level s.files l w.distinct_numbers);
      room = omega (arith, sub_length sub, join_length s.files l, w.room);
      ordered = sub_ordered l (λ f m. good_file_order p f (w.good f (join_in s.files l f m))) sub ordered;
    }

-- the conditions on grandparents
record Grand (p : Profile) (s : State) (l : ℕ) (gs : List File) : Type 0 where
  room_for : (ltb (l + 2) p.levels || is_empty gs) ≡ true
  good : good_level p (l + 2) gs ≡ true
  few : length gs ≤ length (get_or s.files (suc (suc l)) [])

-- no files are a well-formed level
empty_good : (p : Profile) (l : ℕ) → good_level p l [] ≡ true
unfolding good_level all distinct numbers in_order chain
empty_good p zero = both (leb 0 p.room) true (le-leb 0 p.room (omega arith)) refl
empty_good p (suc l) = both (leb 0 p.room) true (le-leb 0 p.room (omega arith)) refl

-- the grandparents of a pick meet them
grand_is : (p : Profile) (s : State) (l : ℕ) (r : Range) → WF p s → Grand p s l (grand_of p s l r)
unfolding grand_of level is_empty
grand_is p s l r w = go (ltb (l + 2) p.levels) refl
  where
    or_empty : (a : Bool) → (a || true) ≡ true
    or_empty true = refl
    or_empty false = refl

    go : (b : Bool) → ltb (l + 2) p.levels ≡ b → Grand p s l (cond b (overlapping (l + 2) (level s (l + 2)) r) [])
    go true e = record {
      room_for = rw e;
      good = part_good p s (l + 2) (overlapping (l + 2) (level s (l + 2)) r) w (ltb-true (l + 2) p.levels e) (overlapping_sub (l + 2) (level s (l + 2)) r);
      few = let q : l + 2 ≡ suc (suc l) = omega arith in subst (λ (n : ℕ). length (overlapping (l + 2) (level s (l + 2)) r) ≤ length (get_or s.files n [])) q (sub_length (overlapping_sub (l + 2) (level s (l + 2)) r));
    }
    go false e = record { room_for = or_empty (ltb (l + 2) p.levels); good = empty_good p (l + 2); few = omega arith }

-- a picked answer that is well-formed, part by part
pub record GoodPicked (p : Profile) (c : Picked) : Type 0 where
  pub level : suc c.level < p.levels
  pub maximum : bad_maximum c.maximum ≡ false
  pub some_input : is_empty c.first ≡ false
  pub no_grand : (ltb (c.level + 2) p.levels || is_empty c.grand) ≡ true
  pub first : good_level p c.level c.first ≡ true
  pub second : good_level p (suc c.level) c.second ≡ true
  pub grand : good_level p (c.level + 2) c.grand ≡ true
  pub room : length c.first + length c.second + length c.grand ≤ p.room

-- the test holds exactly if each part does
pub good_picked_says : (p : Profile) (c : Picked) → good_picked p c ≡ true ↔ GoodPicked p c
unfolding good_picked
good_picked_says p c =
    let t₁ = ltb (suc c.level) p.levels in
    let t₂ = not (bad_maximum c.maximum) in
    let t₃ = not (is_empty c.first) in
    let t₄ = ltb (c.level + 2) p.levels || is_empty c.grand in
    let t₅ = good_level p c.level c.first in
    let t₆ = good_level p (suc c.level) c.second in
    let t₇ = good_level p (c.level + 2) c.grand in
    let n = length c.first + length c.second + length c.grand in
    let t₈ = leb n p.room in (
      λ h.
          let s₇ = and_left (t₁ && t₂ && t₃ && t₄ && t₅ && t₆ && t₇) t₈ h in
          let s₆ = and_left (t₁ && t₂ && t₃ && t₄ && t₅ && t₆) t₇ s₇ in
          let s₅ = and_left (t₁ && t₂ && t₃ && t₄ && t₅) t₆ s₆ in
          let s₄ = and_left (t₁ && t₂ && t₃ && t₄) t₅ s₅ in
          let s₃ = and_left (t₁ && t₂ && t₃) t₄ s₄ in
          let s₂ = and_left (t₁ && t₂) t₃ s₃ in
          record {
            level = ltb-true (suc c.level) p.levels (and_left t₁ t₂ s₂);
            maximum = not-true (bad_maximum c.maximum) (and_right t₁ t₂ s₂);
            some_input = not-true (is_empty c.first) (and_right (t₁ && t₂) t₃ s₃);
            no_grand = and_right (t₁ && t₂ && t₃) t₄ s₄;
            first = and_right (t₁ && t₂ && t₃ && t₄) t₅ s₅;
            second = and_right (t₁ && t₂ && t₃ && t₄ && t₅) t₆ s₆;
            grand = and_right (t₁ && t₂ && t₃ && t₄ && t₅ && t₆) t₇ s₇;
            room = leb-true n p.room (and_right (t₁ && t₂ && t₃ && t₄ && t₅ && t₆ && t₇) t₈ h);
          },
      λ g. both (t₁ && t₂ && t₃ && t₄ && t₅ && t₆ && t₇) t₈ (both (t₁ && t₂ && t₃ && t₄ && t₅ && t₆) t₇ (both (t₁ && t₂ && t₃ && t₄ && t₅) t₆ (both (t₁ && t₂ && t₃ && t₄) t₅ (both (t₁ && t₂ && t₃) t₄ (both (t₁ && t₂) t₃ (both t₁ t₂
          (lt-ltb (suc c.level) p.levels g.level) (rw g.maximum)) (rw g.some_input)) g.no_grand) g.first) g.second) g.grand) (le-leb n p.room g.room),
    )

-- a pick from some first inputs gives a well-formed answer
pub complete_good : (p : Profile) (s : State) (m : ℕ) (c : Cause) (l : ℕ) (first : List File) → WF p s → suc l < p.levels → bad_maximum m ≡ false
    → FormedAt l (level s l) first → is_empty first ≡ false → good_picked p (complete p s m c l first).picked ≡ true
unfolding complete level
complete_good p s m c l first w h bm formed ne =
    let second = inputs (suc l) (level s (suc l)) (range_of first) in
    let first' = grown_first s m l first second in
    let line = level_in_line p s l w in
    let sub₁ = formed_sub l (level s l) first' line (grown_formed s m l first second line formed) in
    let sub₂ = run_sub (inputs_run l (level s (suc l)) (range_of first) (level_line p s l w)) in
    let g = grand_is p s l (range_of (first' ++ second)) w in
    (good_picked_says p (complete p s m c l first).picked).1 record {
      level = h;
      maximum = bm;
      some_input = grown_nonempty s m l first second ne;
      no_grand = g.room_for;
      first = part_good p s l first' w (omega arith) sub₁;
      second = part_good p s (suc l) second w h sub₂;
      grand = g.good;
      room = omega (arith, sub_length sub₁, sub_length sub₂, g.few, three_levels s.files l, w.room);
    }

-- an accepted pick below the last level gives one
pick_good : (p : Profile) (s : State) (m : ℕ) (k : Pick) (b : Begun p s m k) → suc b.from < p.levels → good_picked p k.picked ≡ true
pick_good p s m k b below =
    subst (λ (x : Pick). good_picked p x.picked ≡ true) b.result (complete_good p s m b.cause b.from b.first b.well below b.maximum b.formed b.some_input)

-- a size pick does
pub size_good : (p : Profile) (s : State) (m : ℕ) (k : Pick) → 2 ≤ p.levels → size_pick p s m ≡ gives k → good_picked p k.picked ≡ true
unfolding size_begun
size_good p s m k two h = pick_good p s m k (size_begun p s m k h) (omega (arith, (level_is p s two).among))

-- a manual pick does
pub range_good : (p : Profile) (s : State) (m l : ℕ) (a b : Key) (k : Pick) → manual_pick p s m l a b ≡ gives k → good_picked p k.picked ≡ true
unfolding range_begun
range_good p s m l a b k h =
    let r = range_accepted p s m l a b k h in
    pick_good p s m k (range_begun p s m l a b k h) (under (ltb-true l p.levels r.in_levels) (eqb-false (suc l) p.levels r.not_last))
  where
    under : l < p.levels → (suc l ≡ p.levels → ⊥) → suc l < p.levels
    under i n = omega arith

-- the count is the bytes from some place up to this one
record Run (gs : List File) (place count : ℕ) : Type 0 where
  from : ℕ
  early : from ≤ place
  is : total (drop from (take place gs)) ≡ count

-- the test holds exactly if there is such a place
run_says : (gs : List File) (place count : ℕ) → counts_up_to gs place count ≡ true ↔ Run gs place count
unfolding counts_up_to
run_says gs place count = (
  λ h. let w = any_in test (up_from 0 (suc place)) h in
      let a = leb w.0 place in
      let b = eqb (total (drop w.0 (take place gs))) count in
      record { from = w.0; early = leb-true w.0 place (and_left a b w.2); is = eqb-true (total (drop w.0 (take place gs))) count (and_right a b w.2) },
  λ r. up_from_any test 0 (suc place) r.from (omega arith) (omega (arith, r.early))
      (both (leb r.from place) (eqb (total (drop r.from (take place gs))) count) (le-leb r.from place r.early) (eq-eqb (total (drop r.from (take place gs))) count r.is)),
)
  where
    test : ℕ → Bool
    test j = leb j place && eqb (total (drop j (take place gs))) count

-- bytes of two lists joined
total_append : (xs ys : List File) → total (xs ++ ys) ≡ total xs + total ys
unfolding total sum
total_append [] ys = omega arith
total_append (x ∷ xs) ys = omega (arith, total_append xs ys)

-- passing n files adds their bytes
run_on : (gs : List File) (place n count : ℕ) → place ≤ length gs → Run gs place count → Run gs (place + n) (count + total (take n (drop place gs)))
run_on gs place n count h r = record {
  from = r.from;
  early = omega (arith, r.early);
  is =
      let e : take (place + n) gs ≡ take place gs ++ take n (drop place gs) = take-add place n gs in
      let f : drop r.from (take place gs ++ take n (drop place gs)) ≡ drop r.from (take place gs) ++ take n (drop place gs)
      = drop-append-le r.from (take place gs) (take n (drop place gs)) (omega (arith, length-take-le place gs h, r.early)) in
      ap (λ (xs : List File). total (drop r.from xs)) e ∙ ap total f ∙ total_append (drop r.from (take place gs)) (take n (drop place gs)) ∙ ap (λ (c : ℕ). c + total (take n (drop place gs))) r.is;
}

-- from its own place on, the count is 0
run_none : (gs : List File) (place : ℕ) → place ≤ length gs → Run gs place 0
unfolding total sum
run_none gs place h = record {
  from = place;
  early = omega arith;
  is = let e : drop place (take place gs) ≡ [] = drop_of_length-le (take place gs) {i = place} (omega (arith, length-take-le place gs h)) in ap total e;
}

-- no more files are passed than there are
passed_few : (k : Key) (gs : List File) → passed k gs ≤ length gs
unfolding passed
passed_few k [] = omega arith
passed_few k (g ∷ gs) = go (passed_few k gs) (before g.largest k)
  where
    go : passed k gs ≤ length gs → (t : Bool) → cond t (suc (passed k gs)) 0 ≤ suc (length gs)
    go h true = omega arith
    go h false = omega arith

-- what a well-formed memory says
record Memory (c : Picked) (m : Cutter) : Type 0 where
  place : m.place ≤ length c.grand
  count : m.count ≤ 10 * c.maximum
  run : Run c.grand m.place m.count
  unseen : m.seen ≡ false → m.count ≡ 0

-- a memory that passes the test is so
memory_says : (c : Picked) (m : Cutter) → good_cutter c m ≡ true → Memory c m
unfolding good_cutter
memory_says c m h = go m.seen refl
  where
    a : Bool
    a = leb m.place (length c.grand)

    b : Bool
    b = leb m.count (10 * c.maximum)

    d : Bool
    d = counts_up_to c.grand m.place m.count

    go : (t : Bool) → m.seen ≡ t → Memory c m
    go true e =
        let k : (a && b && d) ≡ true = rw e at h in
        record {
          place = leb-true m.place (length c.grand) (and_left a b (and_left (a && b) d k));
          count = leb-true m.count (10 * c.maximum) (and_right a b (and_left (a && b) d k));
          run = (run_says c.grand m.place m.count).0 (and_right (a && b) d k);
          unseen = λ f. clash e f;
        }
    go false e =
        let k : (eqb m.place 0 && eqb m.count 0) ≡ true = rw e at h in
        let p : m.place ≡ 0 = eqb-true m.place 0 (and_left (eqb m.place 0) (eqb m.count 0) k) in
        let q : m.count ≡ 0 = eqb-true m.count 0 (and_right (eqb m.place 0) (eqb m.count 0) k) in
        record { place = omega arith; count = omega arith; run = rw (p, q) (run_none c.grand 0 (omega arith)); unseen = λ f. q }

-- the count after a step is again the bytes from some place up to the new one
step_run : (c : Picked) (m : Cutter) (n : ℕ) (t b : Bool) → m.seen ≡ t → Memory c m → m.place + n ≤ length c.grand
    → Run c.grand (m.place + n) (cond b 0 (m.count + cond t (total (take n (drop m.place c.grand))) 0))
step_run c m n t true e o i = run_none c.grand (m.place + n) i
step_run c m n true false e o i = run_on c.grand m.place n m.count o.place o.run
step_run c m n false false e o i = let z : 0 ≡ m.count + 0 = omega (arith, o.unseen e) in subst (λ (x : ℕ). Run c.grand (m.place + n) x) z (run_none c.grand (m.place + n) i)

-- the count after a step is at most 10 M
step_count : (most x : ℕ) (b : Bool) → ltb most x ≡ b → cond b 0 x ≤ most
step_count most x true e = omega arith
step_count most x false e = ltb-false most x e

-- a step keeps a good memory good
pub cutter_keeps : (c : Picked) (m : Cutter) (k : Key) → good_cutter c m ≡ true → good_cutter c (cut_step c.maximum c.grand m k).memory ≡ true
unfolding good_cutter cut_step
cutter_keeps c m k h =
    let o = memory_says c m h in
    let gs = c.grand in
    let most = 10 * c.maximum in
    let n = passed k (drop m.place gs) in
    let place = m.place + n in
    let i : place ≤ length gs = omega (arith, o.place, passed_few k (drop m.place gs), length-drop m.place gs) in
    let x = m.count + cond m.seen (total (take n (drop m.place gs))) 0 in
    let count = cond (ltb most x) 0 x in
    both (leb place (length gs) && leb count most) (counts_up_to gs place count)
    (both (leb place (length gs)) (leb count most) (le-leb place (length gs) i) (le-leb count most (step_count most x (ltb most x) refl)))
    ((run_says gs place count).1 (step_run c m n m.seen (ltb most x) refl o i))
