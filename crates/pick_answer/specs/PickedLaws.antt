-- Laws of picked answers: one picked answer has one sound record, what well-formed says, and the answers of calls on it. Assumes nothing.
use Prim.Native.Nat.{ℕ, zero, suc, ◌+◌, ◌-◌, ◌*◌, ◌^◌, ◌≤◌, ◌<◌, min}
use Rattle.std.specs.Prelude.{◌≡◌, ◌↔◌, Bool, false, not, ◌&&◌, cond, eqb, ltb, take, drop}
use Rattle.std.proofs.Math.Path.{refl, sym, ap}
use Rattle.std.proofs.Common.{◌∙◌, subst, add-zero, zero-add}
use Rattle.std.proofs.Math.Bool.{true}
use mathlib.Core.List.Memᴰ.{head as here}
use mathlib.Core.List.Memᴰ.{not-nil}
use mathlib.Core.List.Memᴰ.{tail as there}
use mathlib.Core.List.{List, [], ◌∷◌, ◌++◌, map, append-nil, Memᴰ as In}
use native.Mathlib.Omega.{arith}
use Rattle.std.proofs.Math.Dec.{leb}
use borrow.Author.Tests.{leb-true, leb-false, le-leb, lt-leb, eqb-false, eq-eqb, ne_eqb, not-false}
use Rattle.std.proofs.Math.ListN.{length, get_or, length-append}
use Rattle.std.proofs.Math.Seq.{slice, drop-drop}
use Rattle.lemmas.specs.Order.{clash}
use Rattle.lemmas.specs.Lists.{all, chain, join, sum, distinct, is_empty}
use Rattle.lemmas.specs.ListLaws.{and_left, and_right, and_true, both, all_in}
use Rattle.lemmas.specs.Distinct.{same_test}
use Rattle.lemmas.specs.Maps.{all_join}
use Rattle.lemmas.specs.Merge as merge
use Rattle.lemmas.specs.Each.{Each, each_slice}
use Rattle.lemmas.specs.Slices.{put, parts, take_drop, length_view}
use Rattle.model.specs.Answer.{Answer, gives, refused, Refusal, ◌⇒◌, first_of}
use Rattle.model.specs.File.{File, full, total, numbers, in_order, levelwise, good_file, max_files, max_word}
use Rattle.model.specs.Pick as model
use Rattle.model.specs.Pick.{bad_maximum, good_level, good_picked, is_manual, trivial, largest_maximum}
use Rattle.model.proofs.PickedLaws.{good_level_says, GoodPicked, good_picked_says}
use Rattle.model.specs.Calls as calls
use Rattle.records.specs.Record.{file_of, sound_record, well_record, is_blank, AllShaped}
use Rattle.records.specs.RecordLaws.{AllWords, well_list_lem, well_list_is, total_bound, column_run}
use Rattle.records.specs.Run.{run}
use Rattle.records.specs.declared.FileRecord.{FileRecord}
use Rattle.levels.specs.Levels.{levels_of, laid_out, counts_of, sound_levels, arranged}
use Rattle.levels.specs.LevelsLaws as levels
use Rattle.levels.specs.LevelsLaws.{arranged_is, arranged_room}
use Rattle.pick_answer.specs.declared.Cause.{Cause}
use Rattle.pick_answer.specs.declared.Cause.TheVariants.{Size, Manual}
use Rattle.pick_answer.specs.declared.Picked.{Picked}
use Rattle.pick_answer.specs.Picked.{cause_of, cause_record, counts_in, lists_in, picked_of, three_lists, picked_record, sound_picked, well_picked, on_picked, framed, as_levels, distinct_runs, distinct_lists}

-- ---- causes

-- the record of a record's cause is that cause
pub cause_is : (x : Cause) → cause_record (cause_of x) ≡ x
unfolding cause_of cause_record
cause_is (Size x) = refl
cause_is Manual = refl

-- a cause's record stands for it
pub cause_of_record : (x : model.Cause) → cause_of (cause_record x) ≡ x
unfolding cause_of cause_record
cause_of_record (model.by_size x) = refl
cause_of_record model.manual = refl

-- ---- the three lists

module _ (c : Picked) where
  -- the first inputs are the run from place 0
  pub first_run : (picked_of c).first ≡ run 0 c.first c.files
  unfolding picked_of lists_in counts_in sum
  first_run =
      levels.level_run_lem c.files (c.first ∷ c.second ∷ c.grand ∷ []) 0 (omega arith)
      ∙ ap (λ (n : ℕ). run 0 n c.files) (zero-add c.first)

  -- the second inputs are the run after them
  pub second_run : (picked_of c).second ≡ run c.first (c.first + c.second) c.files
  unfolding picked_of lists_in counts_in sum
  second_run =
      levels.level_run_lem c.files (c.first ∷ c.second ∷ c.grand ∷ []) 1 (omega arith)
      ∙ ap (λ (n : ℕ). run n (n + c.second) c.files) (add-zero c.first)

  -- the grandparents are the run after those
  pub grand_run : (picked_of c).grand ≡ run (c.first + c.second) (c.first + c.second + c.grand) c.files
  unfolding picked_of lists_in counts_in sum
  grand_run =
      let e : c.first + (c.second + 0) ≡ c.first + c.second = omega arith in
      levels.level_run_lem c.files (c.first ∷ c.second ∷ c.grand ∷ []) 2 (omega arith)
      ∙ ap (λ (n : ℕ). run n (n + c.grand) c.files) e

  -- these are the three lists
  pub three : three_lists (picked_of c) ≡ lists_in c
  unfolding three_lists picked_of lists_in counts_in levels_of parts
  three = refl

  -- the number of files is the sum of the counts
  pub sum_is : sum (counts_in c) ≡ c.first + c.second + c.grand
  unfolding counts_in sum
  sum_is = omega arith

-- ---- one picked answer, one sound record

-- the lengths of the record's arrays
pub record PickedShape (c : Picked) : Type 0 where
  pub files : length c.files ≡ max_files
  pub records : AllShaped c.files

-- a sound record is the record of its picked answer
pub canonical : (c : Picked) → PickedShape c → sound_picked c ≡ true → c ≡ picked_record (picked_of c)
unfolding picked_record sound_picked counts_of counts_in picked_of three_lists lists_in levels_of parts
canonical c q h =
    let e = levels.sound_is c.files (c.first ∷ c.second ∷ c.grand ∷ []) q.files q.records h in
    let cause = sym (cause_is c.cause) in
    let size : (k : ℕ) → get_or (c.first ∷ c.second ∷ c.grand ∷ []) k 0 ≡ get_or (map length (three_lists (picked_of c))) k 0 = λ k. ap (λ (ns : List ℕ). get_or ns k 0) e.1 in
    λ i. record { level = c.level; cause = cause i; maximum = c.maximum; files = e.0 i; first = size 0 i; second = size 1 i; grand = size 2 i }

-- two sound records of one picked answer are equal
pub two_outcomes : (c c' : Picked) → PickedShape c → PickedShape c' → sound_picked c ≡ true → sound_picked c' ≡ true → picked_of c ≡ picked_of c' → c ≡ c'
two_outcomes c c' q q' h h' e = canonical c q h ∙ ap picked_record e ∙ sym (canonical c' q' h')

-- the files of a well-formed level are good
pub level_good : (l : ℕ) (fs : List File) → good_level full l fs ≡ true → all (good_file full) fs ≡ true
level_good l fs g = (all_in (good_file full) fs).1 ((good_level_says full l fs).0 g).good

-- a well-formed picked answer
module _ (p : model.Picked) (g : good_picked full p ≡ true) where
  -- its lists fit an array
  pub fits : levels.Fits (three_lists p)
  unfolding three_lists join full
  fits =
      let t = (good_picked_says full p).0 g in
      let rest = merge.all_both (good_file full) p.second (p.grand ++ []) (level_good (suc p.level) p.second t.second) (rw (append-nil p.grand) (level_good (p.level + 2) p.grand t.grand)) in
      record {
        room = omega (arith, t.room, length-append p.first (p.second ++ (p.grand ++ [])), length-append p.second (p.grand ++ []), length-append p.grand []);
        good = merge.all_both (good_file full) p.first (p.second ++ (p.grand ++ [])) (level_good p.level p.first t.first) rest;
      }

  -- its record stands for it and is sound
  pub held : (picked_of (picked_record p) ≡ p) × (sound_picked (picked_record p) ≡ true)
  unfolding picked_of picked_record sound_picked counts_in lists_in counts_of three_lists
  held =
      let l = levels.held_levels (three_lists p) fits in
      let cause = cause_of_record p.cause in
      let at : (k : ℕ) → get_or (levels_of (laid_out (three_lists p)) (counts_of (three_lists p))) k [] ≡ get_or (three_lists p) k [] = λ k. ap (λ (ls : List (List File)). get_or ls k []) l in
      (λ i. record { level = p.level; cause = cause i; maximum = p.maximum; first = at 0 i; second = at 1 i; grand = at 2 i }, levels.sound_laid (three_lists p) fits)

  -- its record's arrays have their lengths
  pub held_shape : PickedShape (picked_record p)
  unfolding picked_record
  held_shape = record { files = levels.laid_length (three_lists p) fits; records = levels.laid_shaped (three_lists p) fits }

  -- its record is well-formed
  pub held_well : well_picked (picked_record p) ≡ true
  unfolding well_picked
  held_well = both (sound_picked (picked_record p)) (good_picked full (picked_of (picked_record p))) held.1 (rw held.0 g)

-- ---- well-formed picked answers

-- a well-formed picked answer, part by part
pub record Well (c : Picked) : Type 0 where
  pub sound : levels.Sound c.files (counts_in c)
  pub good : GoodPicked full (picked_of c)

-- the test holds exactly if each part does
pub well_says : (c : Picked) → well_picked c ≡ true ↔ Well c
unfolding well_picked sound_picked
well_says c =
    let a = sound_levels c.files (counts_in c) in
    let b = good_picked full (picked_of c) in
    let sound = levels.sound_says c.files (counts_in c) in
    let good = good_picked_says full (picked_of c) in (
      λ h. record { sound = sound.0 (and_left a b h); good = good.0 (and_right a b h) },
      λ w. both a b (sound.1 w.sound) (good.1 w.good),
    )

-- it has no more files than the room
pub well_room : (c : Picked) → well_picked c ≡ true → c.first + c.second + c.grand ≤ max_files
well_room c h = let r = ((well_says c).0 h).sound.room in omega (arith, sum_is c)

-- its level is 0 to 5
pub well_level : (c : Picked) → well_picked c ≡ true → c.level ≤ 5
unfolding picked_of full
well_level c h = let l = ((well_says c).0 h).good.level in omega arith

-- a call on a well-formed picked answer gives its answer for what that stands for
pub on_picked_well : {A : Type 0} (c : Picked) (call : model.Picked → Answer A) → well_picked c ≡ true → on_picked c call ≡ call (picked_of c)
unfolding on_picked well_picked
on_picked_well c call h = rw (and_left (sound_picked c) (good_picked full (picked_of c)) h)

-- a call that refuses an ill-formed picked answer with 14 does so for an ill-formed record
pub on_picked_ill : {A : Type 0} (c : Picked) (call : model.Picked → Answer A) → (good_picked full (picked_of c) ≡ false → call (picked_of c) ≡ refused 14) → well_picked c ≡ false
    → on_picked c call ≡ refused 14
unfolding on_picked well_picked
on_picked_ill {A} c call k h = go (sound_picked c) h
  where
    go : (t : Bool) → (t && good_picked full (picked_of c)) ≡ false → ◌≡◌ {A = Answer A} (cond t (call (picked_of c)) (refused 14)) (refused 14)
    go true e = k e
    go false e = refl

-- ---- the test, part by part

-- file numbers fit 64 bits, if those of the records do
words_in : (rs : List FileRecord) → AllWords rs → (f : File) → In f (map file_of rs) → f.number < 2 ^ 64
unfolding Each file_of
words_in [] w f m = absurd (not-nil m)
words_in (r ∷ rs) w f (here e) = subst (λ (g : File). g.number < 2 ^ 64) (sym e) w.0
words_in (r ∷ rs) w f (there m) = words_in rs w.1 f m

-- a list is empty exactly if its length is 0
empty_is : (fs : List File) → is_empty fs ≡ eqb (length fs) 0
unfolding is_empty
empty_is [] = sym (eq-eqb 0 0 refl)
empty_is (f ∷ fs) = sym (ne_eqb (suc (length fs)) 0 (λ e. omega arith))

-- a run of good files in order, with no number twice, is a well-formed level
run_good : (files : List FileRecord) → length files ≡ max_files → AllWords files → (l from to : ℕ) → to ≤ max_files → all (good_file full) (run from to files) ≡ true
    → distinct (numbers (run from to files)) ≡ true → in_order l (run from to files) ≡ true → good_level full l (run from to files) ≡ true
unfolding run full
run_good files q w l from to h g d o =
    let fs = map file_of (slice from to files) in
    (good_level_says full l fs).1 record {
      good = (all_in (good_file full) fs).0 g;
      words = words_in (slice from to files) (each_slice (λ (r : FileRecord). r.number.0 < 2 ^ 64) from to files w);
      distinct_numbers = d;
      room = omega (arith, length_view file_of from to files (omega arith));
      ordered = o;
    }

-- testing the three lists as levels tests the order of each
pub order_is : (files : List FileRecord) (l a b c : ℕ)
    → levelwise in_order 0 (levels_of files (as_levels l a b c))
    ≡ (in_order l (get_or (levels_of files (a ∷ b ∷ c ∷ [])) 0 []) && (in_order (suc l) (get_or (levels_of files (a ∷ b ∷ c ∷ [])) 1 []) && in_order (suc (suc l)) (get_or (levels_of files (a ∷ b ∷ c ∷ [])) 2 [])))
unfolding as_levels levels_of parts levelwise in_order chain
order_is files zero a b c = simp and_true
order_is files (suc l) a b c = simp and_true

-- the counts add up to the same
pub levels_sum : (l a b c : ℕ) → sum (as_levels l a b c) ≡ a + b + c
unfolding as_levels sum
levels_sum zero a b c = omega arith
levels_sum (suc l) a b c = omega arith

-- more files than the room: not well-formed
pub too_many_lem : (c : Picked) → max_files < c.first + c.second + c.grand → well_picked c ≡ false
unfolding well_picked sound_picked sound_levels full
too_many_lem c h = rw (lt-leb (sum (counts_in c)) max_files (omega (arith, sum_is c)))

-- within the room each list is as long as its count says
module _ (c : Picked) (q : length c.files ≡ max_files) (h : c.first + c.second + c.grand ≤ max_files) where
  -- the first inputs
  pub first_length : length (picked_of c).first ≡ c.first
  unfolding run
  first_length = ap length (first_run c) ∙ length_view file_of 0 c.first c.files (omega arith) ∙ omega arith

  -- the second inputs
  pub second_length : length (picked_of c).second ≡ c.second
  unfolding run
  second_length = ap length (second_run c) ∙ length_view file_of c.first (c.first + c.second) c.files (omega arith) ∙ omega arith

  -- the grandparents
  pub grand_length : length (picked_of c).grand ≡ c.grand
  unfolding run
  grand_length = ap length (grand_run c) ∙ length_view file_of (c.first + c.second) (c.first + c.second + c.grand) c.files (omega arith) ∙ omega arith

-- within the room the test is the conjunction of the code's tests
module _ (c : Picked) (q : length c.files ≡ max_files) (w : AllWords c.files) (n : ℕ) (e : c.first + c.second + c.grand ≡ n) (h : n ≤ max_files) where
  -- the first inputs
  abbrev inputs : List File
  inputs = (picked_of c).first

  -- the second inputs
  abbrev others : List File
  others = (picked_of c).second

  -- the grandparents
  abbrev grands : List File
  grands = (picked_of c).grand

  -- the files are within the room
  within : c.first + c.second + c.grand ≤ max_files
  within = omega arith

  -- the test of all but the files
  abbrev frame : Bool
  frame = framed c.level c.maximum c.first c.grand

  -- the model's test is this test and one for each list
  good_is : good_picked full (picked_of c)
      ≡ (frame && good_level full c.level inputs && good_level full (suc c.level) others && good_level full (c.level + 2) grands && leb (length inputs + length others + length grands) max_files)
  unfolding good_picked framed full picked_of
  good_is = rw (empty_is inputs, first_length c q within, empty_is grands, grand_length c q within)

  -- all files are good exactly if those of each list are
  all_files_lem : all (good_file full) (map file_of (take n c.files)) ≡ (all (good_file full) inputs && (all (good_file full) others && (all (good_file full) grands && true)))
  unfolding three_lists all lists_in
  all_files_lem =
      let s : sum (counts_in c) ≡ n = sum_is c ∙ e in
      let j : join (lists_in c) ≡ map file_of (take n c.files) = rw s at (levels.files_of_levels c.files (counts_in c) (omega arith)) in
      sym (ap (all (good_file full)) (ap join (three c) ∙ j)) ∙ all_join (good_file full) (three_lists (picked_of c))

  -- the order of each list
  abbrev orders : Bool
  orders = in_order c.level inputs && (in_order (suc c.level) others && in_order (suc (suc c.level)) grands)

  -- it is that of the lists as levels
  ordered_is : levelwise in_order 0 (levels_of c.files (as_levels c.level c.first c.second c.grand)) ≡ orders
  unfolding picked_of lists_in counts_in
  ordered_is = order_is c.files c.level c.first c.second c.grand

  -- no number stands twice in any list
  abbrev numbered : Bool
  numbered = distinct (numbers inputs) && (distinct (numbers others) && (distinct (numbers grands) && true))

  -- it is the test on the three lists
  distinct_is : distinct_lists (lists_in c) ≡ numbered
  unfolding distinct_lists all three_lists
  distinct_is = ap distinct_lists (sym (three c))

  -- the conjunction of the code's tests
  abbrev tested : Bool
  tested = frame && all well_record (take n c.files) && all is_blank (drop n c.files) && numbered && orders

  -- sound records and blank places, by the number of files
  sound_n : levels.Sound c.files (counts_in c) → (all sound_record (take n c.files) ≡ true) × (all is_blank (drop n c.files) ≡ true)
  sound_n s = let k : sum (counts_in c) ≡ n = sum_is c ∙ e in (rw k at s.records, rw k at s.blanks)

  -- a well-formed picked answer passes these tests
  passes : well_picked c ≡ true → tested ≡ true
  unfolding picked_of
  passes t =
      let v = (well_says c).0 t in
      let s = sound_n v.sound in
      let g = v.good in
      let f = (good_level_says full c.level inputs).0 g.first in
      let o = (good_level_says full (suc c.level) others).0 g.second in
      let p : c.level + 2 ≡ suc (suc c.level) = omega arith in
      let r = (good_level_says full (suc (suc c.level)) grands).0 (rw p at g.grand) in
      let a = good_level full c.level inputs in
      let b = good_level full (suc c.level) others in
      let d = good_level full (c.level + 2) grands in
      let z = leb (length inputs + length others + length grands) max_files in
      let framing : frame ≡ true = and_left frame a (and_left (frame && a) b (and_left (frame && a && b) d (and_left (frame && a && b && d) z (sym good_is ∙ (good_picked_says full (picked_of c)).1 g)))) in
      let files : all (good_file full) (map file_of (take n c.files)) ≡ true =
      all_files_lem ∙ rw (level_good c.level inputs g.first, level_good (suc c.level) others g.second, level_good (c.level + 2) grands g.grand) in
      let records : all well_record (take n c.files) ≡ true = rw (well_list_is (take n c.files), s.0, files) in
      rw (framing, records, s.1, f.distinct_numbers, o.distinct_numbers, r.distinct_numbers, f.ordered, o.ordered, r.ordered)

  -- a picked answer that passes them is well-formed
  suffices : tested ≡ true → well_picked c ≡ true
  unfolding picked_of
  suffices t =
      let records = all well_record (take n c.files) in
      let blanks = all is_blank (drop n c.files) in
      let t₃ = and_left (frame && records && blanks && numbered) orders t in
      let t₂ = and_left (frame && records && blanks) numbered t₃ in
      let t₁ = and_left (frame && records) blanks t₂ in
      let well = well_list_lem (take n c.files) (and_right frame records t₁) in
      let i = in_order c.level inputs in
      let j = in_order (suc c.level) others in
      let k = in_order (suc (suc c.level)) grands in
      let order = and_right (frame && records && blanks && numbered) orders t in
      let x = distinct (numbers inputs) in
      let y = distinct (numbers others) in
      let z = distinct (numbers grands) in
      let number = and_right (frame && records && blanks) numbered t₃ in
      let f = all (good_file full) inputs in
      let g = all (good_file full) others in
      let m = all (good_file full) grands in
      let goods : (f && (g && (m && true))) ≡ true = sym all_files_lem ∙ well.1 in
      let a = level_is c.level 0 c.first inputs (first_run c) (omega arith) (and_left f (g && (m && true)) goods) (and_left x (y && (z && true)) number) (and_left i (j && k) order) in
      let b = level_is (suc c.level) c.first (c.first + c.second) others (second_run c) (omega arith) (and_left g (m && true) (and_right f (g && (m && true)) goods))
      (and_left y (z && true) (and_right x (y && (z && true)) number)) (and_left j k (and_right i (j && k) order)) in
      let p : suc (suc c.level) ≡ c.level + 2 = omega arith in
      let d : good_level full (c.level + 2) grands ≡ true =
      level_is (c.level + 2) (c.first + c.second) (c.first + c.second + c.grand) grands (grand_run c) (omega arith) (and_left m true (and_right g (m && true) (and_right f (g && (m && true)) goods)))
      (and_left z true (and_right y (z && true) (and_right x (y && (z && true)) number))) (rw p at (and_right j k (and_right i (j && k) order))) in
      let room : leb (length inputs + length others + length grands) max_files ≡ true = le-leb (length inputs + length others + length grands) max_files (omega (arith, first_length c q within, second_length c q within, grand_length c q within)) in
      let s : sum (counts_in c) ≡ n = sum_is c ∙ e in
      (well_says c).1 record {
        sound = record { room = omega arith; records = rw s well.0; blanks = rw s (and_right (frame && records) blanks t₂) };
        good = (good_picked_says full (picked_of c)).0 (good_is ∙ rw (and_left frame records t₁, a, b, d, room));
      }
    where
      level_is : (l from to : ℕ) (fs : List File) → fs ≡ run from to c.files → to ≤ max_files → all (good_file full) fs ≡ true → distinct (numbers fs) ≡ true → in_order l fs ≡ true → good_level full l fs ≡ true
      level_is l from to fs r b g d o = rw r (run_good c.files q w l from to b (rw r at g) (rw r at d) (rw r at o))

  -- so the tests are: all but the files, the records, the blank places, the numbers, the order
  pub well_is : well_picked c
      ≡ (framed c.level c.maximum c.first c.grand && all well_record (take n c.files) && all is_blank (drop n c.files) && distinct_lists (lists_in c)
      && levelwise in_order 0 (levels_of c.files (as_levels c.level c.first c.second c.grand)))
  well_is = same_test (well_picked c) tested passes suffices ∙ rw (distinct_is, ordered_is)

-- ---- the code's tests

-- at level 0 the lists are tested as levels 0 to 2
pub levels_first : (l a b c : ℕ) → l ≡ 0 → as_levels l a b c ≡ a ∷ b ∷ c ∷ 0 ∷ 0 ∷ 0 ∷ 0 ∷ []
unfolding as_levels
levels_first zero a b c e = refl
levels_first (suc l) a b c e = absurd (omega arith)

-- above level 0 they are tested as levels 1 to 3
pub levels_deeper : (l a b c : ℕ) → (l ≡ 0 → ⊥) → as_levels l a b c ≡ 0 ∷ a ∷ b ∷ c ∷ 0 ∷ 0 ∷ 0 ∷ []
unfolding as_levels
levels_deeper zero a b c h = absurd (h refl)
levels_deeper (suc l) a b c h = refl

-- the run that is lent from one place up to another
pub lent_slice : {A : Type 0} (from to : ℕ) (xs : List A) → from ≤ to → take (to - from) (drop from xs) ≡ slice from to xs
lent_slice from to xs h =
    let m : from + (to - from) ≡ to = omega arith in
    take_drop from (to - from) xs ∙ ap (λ (n : ℕ). drop from (take n xs)) m

-- three lists without repetition
module _ (files : List FileRecord) (a b c : ℕ) where
  -- the lists
  abbrev lists : List (List File)
  lists = levels_of files (a ∷ b ∷ c ∷ [])

  -- they are three consecutive runs
  lists_are : lists ≡ run 0 a files ∷ run a (a + b) files ∷ run (a + b) (a + b + c) files ∷ []
  unfolding levels_of parts run
  lists_are = rw (take_drop a b files, drop-drop b a files, take_drop (a + b) c files)

  -- none has a number twice exactly if no run has
  pub distinct_three : distinct_lists lists
      ≡ (distinct (numbers (run 0 a files)) && (distinct (numbers (run a (a + b) files)) && distinct (numbers (run (a + b) (a + b + c) files))))
  unfolding distinct_lists all
  distinct_three = ap distinct_lists lists_are ∙ rw (and_true (distinct (numbers (run (a + b) (a + b + c) files))))

  -- the column of their numbers gives the same answer
  pub distinct_runs_lem : (d column : List ℕ) → a + b + c ≤ length files → column ≡ put d 0 (numbers (run 0 (a + b + c) files)) → distinct_runs column a b c ≡ distinct_lists lists
  unfolding distinct_runs
  distinct_runs_lem d column h e =
      rw (column_run (a + b + c) 0 a files d column h (omega arith) (omega arith) e, column_run (a + b + c) a (a + b) files d column h (omega arith) (omega arith) e, column_run (a + b + c) (a + b) (a + b + c) files d column h (omega arith) (omega arith) e)
      (sym distinct_three)

-- if three of five tests hold, the other two decide
five_left : (f a b u d : Bool) → a && b && d ≡ true → f && a && b && u && d ≡ f && u
five_left f true true u true e = and_true ((f && true && true) && u) ∙ ap (λ (x : Bool). x && u) (and_true (f && true) ∙ and_true f)
five_left f true true u false e = clash e refl
five_left f true false u d e = clash e refl
five_left f false b u d e = clash e refl

-- if three of five tests do not all hold, the five do not
five_fail : (f a b u d : Bool) → a && b && d ≡ false → f && a && b && u && d ≡ false
five_fail false a b u d e = refl
five_fail true false b u d e = refl
five_fail true true false u d e = refl
five_fail true true true false d e = refl
five_fail true true true true d e = e

-- one look at the files of a picked answer
module _ (c : Picked) (q : length c.files ≡ max_files) (w : AllWords c.files) where
  -- the counts of its lists as levels
  abbrev counts : List ℕ
  counts = as_levels c.level c.first c.second c.grand

  -- they add up to the number of files
  many : sum counts ≡ c.first + c.second + c.grand
  many = levels_sum c.level c.first c.second c.grand

  -- the files are not arranged: not well-formed
  pub well_unarranged : arranged c.files counts ≡ false → well_picked c ≡ false
  well_unarranged t = go (leb (sum counts) max_files) refl
    where
      go : (r : Bool) → leb (sum counts) max_files ≡ r → well_picked c ≡ false
      go true r =
          let h = leb-true (sum counts) max_files r in
          well_is c q w (sum counts) (sym many) h
          ∙ five_fail (framed c.level c.maximum c.first c.grand) (all well_record (take (sum counts) c.files)) (all is_blank (drop (sum counts) c.files)) (distinct_lists (lists_in c)) (levelwise in_order 0 (levels_of c.files counts)) (sym (arranged_is c.files counts h) ∙ t)
      go false r = too_many_lem c (omega (arith, many, leb-false (sum counts) max_files r))

  -- they are: the tests of all but the files and of the numbers decide
  pub well_arranged : arranged c.files counts ≡ true → well_picked c ≡ framed c.level c.maximum c.first c.grand && distinct_lists (lists_in c)
  well_arranged t =
      let h = arranged_room c.files counts t in
      well_is c q w (sum counts) (sym many) h
      ∙ five_left (framed c.level c.maximum c.first c.grand) (all well_record (take (sum counts) c.files)) (all is_blank (drop (sum counts) c.files)) (distinct_lists (lists_in c)) (levelwise in_order 0 (levels_of c.files counts)) (sym (arranged_is c.files counts h) ∙ t)

-- ---- trivial moves

-- a call whose first refusal is 14
module _ {A : Type 0} (c : Picked) (rs : model.Picked → List Refusal) (a : model.Picked → A) where
  -- the call on a picked answer
  abbrev asked_of : model.Picked → Answer A
  asked_of p = first_of ((not (good_picked full p) ⇒ 14) ∷ rs p) (a p)

  -- not well-formed: 14
  pub asked_ill : well_picked c ≡ false → on_picked c asked_of ≡ refused 14
  unfolding first_of ◌⇒◌
  asked_ill h = on_picked_ill c asked_of (λ e. rw e) h

  -- well-formed: the other refusals decide
  pub asked_well : well_picked c ≡ true → on_picked c asked_of ≡ first_of (rs (picked_of c)) (a (picked_of c))
  unfolding first_of ◌⇒◌
  asked_well h = on_picked_well c asked_of h ∙ rw ((good_picked_says full (picked_of c)).1 ((well_says c).0 h).good)

module _ (c : Picked) where
  -- not well-formed: 14
  pub trivial_ill : well_picked c ≡ false → on_picked c (calls.is_trivial_move full) ≡ refused 14
  unfolding calls.is_trivial_move
  trivial_ill h = asked_ill c (λ p. []) trivial h

  -- well-formed: whether it is a trivial move
  pub trivial_well : well_picked c ≡ true → on_picked c (calls.is_trivial_move full) ≡ gives (trivial (picked_of c))
  unfolding calls.is_trivial_move first_of
  trivial_well h = asked_well c (λ p. []) trivial h

  -- a manual pick is not trivial
  pub trivial_manual : is_manual (cause_of c.cause) ≡ true → trivial (picked_of c) ≡ false
  unfolding trivial picked_of
  trivial_manual e = rw e

  module _ (h : well_picked c ≡ true) (q : length c.files ≡ max_files) where
    -- the maximum file size is in its range
    pub well_maximum : (1 ≤ c.maximum) × (c.maximum ≤ largest_maximum)
    unfolding bad_maximum picked_of
    well_maximum =
        let m = c.maximum in
        let b = not-false (leb 1 m && leb m largest_maximum) ((well_says c).0 h).good.maximum in
        (leb-true 1 m (and_left (leb 1 m) (leb m largest_maximum) b), leb-true m largest_maximum (and_right (leb 1 m) (leb m largest_maximum) b))

    -- there is a first input
    pub well_some : 1 ≤ c.first
    well_some =
        let n = eqb-false (length (picked_of c).first) 0 (sym (empty_is (picked_of c).first) ∙ ((well_says c).0 h).good.some_input) in
        positive c.first (λ z. n (first_length c q (well_room c h) ∙ z))
      where
        positive : (k : ℕ) → (k ≡ 0 → ⊥) → 1 ≤ k
        positive zero f = absurd (f refl)
        positive (suc k) f = omega arith

    -- the bytes of the grandparents fit a u64
    pub grand_bytes : total (picked_of c).grand ≡ min (total (run (c.first + c.second) (c.first + c.second + c.grand) c.files)) max_word
    unfolding picked_of
    grand_bytes =
        let r = well_room c h in
        let good = level_good (c.level + 2) (picked_of c).grand ((well_says c).0 h).good.grand in
        let b = total_bound (c.first + c.second) (c.first + c.second + c.grand) c.files q r (rw (grand_run c) at good) in
        ap total (grand_run c) ∙ omega arith

    -- else the answer is by one first input, no second, and the grandparents' bytes
    pub trivial_is : is_manual (cause_of c.cause) ≡ false → trivial (picked_of c)
        ≡ (eqb c.first 1 && eqb c.second 0 && ltb (min (total (run (c.first + c.second) (c.first + c.second + c.grand) c.files)) max_word) (10 * c.maximum))
    unfolding trivial picked_of
    trivial_is e =
        let r = well_room c h in
        rw (e, first_length c q r, empty_is (picked_of c).second, second_length c q r, grand_bytes)
