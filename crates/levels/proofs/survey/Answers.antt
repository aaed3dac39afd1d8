-- `levels::survey` meets its contract: the first record that is not well-formed, out of order or not blank decides, and else all is told. Assumes nothing.
use Rattle.std.proofs.Common.{◌≡◌, ℕ, ◌+◌, ◌-◌, ◌≤◌, ◌<◌, min, List, length, get_or, take, drop, replicate, length-set, length-drop, true, false, ◌&&◌, refl, sym, ap, ◌∙◌, rules, tests, arith}
use Rattle.std.proofs.Math.Seq.{slice, take-length}
use Rattle.std.proofs.lemmas.Iterator.{YieldsList-from_slice}
use Rattle.std.proofs.lemmas.Iterator.Search.{all_from_yields_List}
use Rattle.std.specs.List.{list_all}
use Rattle.lemmas.specs.Listed.{all_listed}
use Rattle.lemmas.specs.Lists.{all, sum}
use Rattle.lemmas.specs.Slices.{put, put_cons, put_nil, run_past, sum_turn, sum_over}
use Rattle.lemmas.specs.Loops.{all_found, all_passed}
use Rattle.model.specs.File.{in_order, levelwise, numbers, total, level_count, max_files, max_size}
use Rattle.records.specs.Record.{well_record, is_blank, past}
use Rattle.records.specs.RecordLaws.{AllWords, numbers_turn, numbers_ended, total_turn, total_ended}
use Rattle.records.specs.Run.{run}
use Rattle.records.specs.declared.FileRecord.{FileRecord}
use Rattle.records.proofs.Shape.{all_words}
use Rattle.levels.specs.declared.Surveyed.{Surveyed}
use Rattle.levels.specs.Levels.{levels_of, well_levels, arranged, unarranged, survey_of, tells_well}
use Rattle.levels.specs.LevelsLaws.{too_many_lem, arranged_is, survey_none, survey_is, survey_well, order_passed, order_failed, order_ended, next_follows, next_fails, level_ordered, last_fails, bytes_turn, bytes_over, bytes_start, size_bound}
use Rattle.levels.proofs.survey.Goals as goal
use Rattle.levels.proofs.survey.Goals.{else-from-i-via-then-from-i+else-not-may_follow, else-from-i-via-else-from-i}

-- what is known of the array and of the counts
module _ (files : List FileRecord) (counts : List ℕ) (q : length files ≡ max_files) (k : length counts ≡ level_count) (w : AllWords files) where
  -- what is seen tells whether the levels are well-formed
  telling : (r : Surveyed) → r ≡ survey_of files counts → (r ≡ survey_of files counts) × (tells_well r ≡ well_levels files counts)
  telling r e = (e, ap tells_well e ∙ survey_well files counts q k w)

  -- more files than the room show nothing
  beyond : (r : Surveyed) → max_files < sum counts → r ≡ unarranged → (r ≡ survey_of files counts) × (tells_well r ≡ well_levels files counts)
  beyond r h e = telling r (e ∙ sym (survey_none files counts (too_many_lem files counts h)))

  module _ (n : ℕ) (m : n ≡ min (sum counts) 257) (h : n ≤ max_files) where
    -- the levels have room: the test is that of the records, of the blank places and of the order
    parts : arranged files counts ≡ all well_record (take n files) && all is_blank (drop n files) && levelwise in_order 0 (levels_of files counts)
    parts = let count : n ≡ sum counts = omega arith in rw count (arranged_is files counts (omega arith))

    -- levels that are not arranged show nothing
    unseen : (r : Surveyed) → r ≡ unarranged → all well_record (take n files) && all is_blank (drop n files) && levelwise in_order 0 (levels_of files counts) ≡ false
        → (r ≡ survey_of files counts) × (tells_well r ≡ well_levels files counts)
    unseen r e t = telling r (e ∙ sym (survey_none files counts (parts ∙ t)))

    -- a record that is not well-formed
    bad_here : (r : Surveyed) → r ≡ unarranged → (i : ℕ) → i < n → well_record (get_or files i past) ≡ false → all well_record (slice i n files) ≡ all well_record (slice 0 n files)
        → (r ≡ survey_of files counts) × (tells_well r ≡ well_levels files counts)
    bad_here r e i l t g =
        let u = sym g ∙ all_found well_record i n files past l (omega arith) t in
        unseen r e (rw u)

    -- a level that is not in order
    broken_here : (r : Surveyed) → r ≡ unarranged → levelwise in_order 0 (levels_of files counts) ≡ false → (r ≡ survey_of files counts) × (tells_well r ≡ well_levels files counts)
    broken_here r e t = unseen r e (last_fails (all well_record (take n files) && all is_blank (drop n files)) (levelwise in_order 0 (levels_of files counts)) t)

pub returns-then-n-gt-ROOM : goal.returns-then-n-gt-ROOM
returns-then-n-gt-ROOM c =
    let a = c.args in
    let q : length a.files ≡ max_files = search rules in
    let k : length a.counts ≡ level_count = search rules in
    beyond a.files a.counts q k (all_words max_files a.files _ c.well_formed.0) c.nothing_seen.result (omega arith) c.nothing_seen.ensures

pub loop-level-init : goal.loop-level-init
loop-level-init c =
    let a = c.args in
    let k : length a.counts ≡ level_count = search rules in
    record { left = omega arith; room = refl; levels = refl; told = refl; well = refl; order = refl; sizes = bytes_start a.files a.counts (replicate level_count 0) (sym k) }

pub overflow_add-to : goal.overflow_add-to
overflow_add-to c =
    let k : length c.args.counts ≡ level_count = search rules in
    omega (arith, sum_turn c.args.counts c.loop-level.level (omega arith))

pub loop-i-init : goal.loop-i-init
loop-i-init c =
    let k : length c.args.counts ≡ level_count = search rules in
    let turn = sum_turn c.args.counts c.loop-level.level (omega arith) in
    let g = c.loop-level.invariant in
    record { inside = omega arith; room = g.room; told = g.told; well = g.well; order = λ h. absurd (omega arith); size = omega arith; fits = omega arith }

pub returns-then-not-is_well_formed : goal.returns-then-not-is_well_formed
returns-then-not-is_well_formed c =
    let a = c.args in
    let q : length a.files ≡ max_files = search rules in
    let k : length a.counts ≡ level_count = search rules in
    bad_here a.files a.counts q k (all_words max_files a.files _ c.well_formed.0) c.counted-n.result c.counted-n.ensures (omega arith) c.nothing_seen-then-not-is_well_formed.result c.nothing_seen-then-not-is_well_formed.ensures c.loop-i.i (omega arith) (sym c.is_well_formed.ensures ∙ c.if-not-is_well_formed.true) c.loop-i.invariant.well

pub returns-then-not-may_follow : goal.returns-then-not-may_follow
returns-then-not-may_follow c =
    let a = c.args in
    let level = c.loop-level.level in
    let from = c.loop-level.to in
    let to = from + get_or a.counts level 0 in
    let q : length a.files ≡ max_files = search rules in
    let k : length a.counts ≡ level_count = search rules in
    let t = sym c.may_follow.ensures ∙ c.if-not-may_follow.true in
    let broken = sym (c.loop-i.invariant.order c.if-from-i.true) ∙ next_fails level c.loop-i.i to a.files (omega arith) (omega arith) (omega arith) t in
    let order = sym c.loop-level.invariant.order ∙ order_failed a.files a.counts level from (omega arith) broken in
    broken_here a.files a.counts q k (all_words max_files a.files _ c.well_formed.0) c.counted-n.result c.counted-n.ensures (omega arith) c.nothing_seen-then-not-may_follow.result c.nothing_seen-then-not-may_follow.ensures order

-- a file more of a level: its size is within its bound
sized : (files : List FileRecord) (i to : ℕ) → i < to → to ≤ length files → well_record (get_or files i past) ≡ true
    → (total (run i to files) ≡ (get_or files i past).size + total (run (i + 1) to files)) × ((get_or files i past).size ≤ max_size)
sized files i to h k t = (total_turn i to files h k, size_bound (get_or files i past) t)

pub overflow_add-bytes : goal.overflow_add-bytes
overflow_add-bytes c =
    let files = c.args.files in
    let to = c.loop-level.to + get_or c.args.counts c.loop-level.level 0 in
    let q : length files ≡ max_files = search rules in
    let s = sized files c.loop-i.i to (omega arith) (omega arith) (sym c.is_well_formed.ensures ∙ c.if-not-is_well_formed.false) in
    omega arith

pub loop-i-preserved : goal.loop-i-preserved
loop-i-preserved c =
    let files = c.args.files in
    let n = c.counted-n.result in
    let i = c.loop-i.i in
    let level = c.loop-level.level in
    let from = c.loop-level.to in
    let to = from + get_or c.args.counts level 0 in
    let column = c.loop-i.column in
    let g = c.loop-i.invariant in
    let q : length files ≡ max_files = search rules in
    let x = (get_or files i past).number.0 in
    let t = sym c.is_well_formed.ensures ∙ c.if-not-is_well_formed.false in
    let s = sized files i to (omega arith) (omega arith) t in
    let next : in_order level (run (i + 1 - 1) to files) ≡ in_order level (run from to files) =
    elim c.else-from-i.branch [
      | else-from-i-via-then-from-i+else-not-may_follow w ↦ sym (next_follows level i to files (omega arith) (omega arith) (omega arith) (sym w.may_follow.ensures ∙ w.if-not-may_follow.false)) ∙ g.order w.if-from-i.true
      | else-from-i-via-else-from-i w ↦ let first : i + 1 - 1 ≡ from = omega arith in ap (λ (j : ℕ). in_order level (run j to files)) first
    ] in
    record {
      inside = g.inside;
      room = length-set column i x ∙ g.room;
      told = put_cons column i x (numbers (run (i + 1) n files)) (omega arith) ∙ ap (put column i) (sym (numbers_turn i n files (omega arith) (omega arith))) ∙ g.told;
      well = sym (all_passed well_record i n files past (omega arith) (omega arith) t) ∙ g.well;
      order = λ h. next;
      size = omega arith;
      fits = omega arith;
    }

pub loop-level-preserved : goal.loop-level-preserved
loop-level-preserved c =
    let files = c.args.files in
    let counts = c.args.counts in
    let level = c.loop-level.level in
    let from = c.loop-level.to in
    let to = from + get_or counts level 0 in
    let g = c.loop-i.invariant in
    let o = c.loop-level.invariant in
    let q : length files ≡ max_files = search rules in
    let k : length counts ≡ level_count = search rules in
    let turn = sum_turn counts level (omega arith) in
    let place : c.loop-i.i ≡ to = omega arith in
    let bytes : c.loop-i.bytes ≡ total (run from to files) = omega (arith, total_ended c.loop-i.i to files (omega arith)) in
    let ordered = level_ordered level from c.loop-i.i to files (omega arith) (omega arith) g.order in
    record {
      left = omega arith;
      room = g.room;
      levels = length-set c.loop-level.sums level c.loop-i.bytes ∙ o.levels;
      told = rw place at g.told;
      well = rw place at g.well;
      order = sym (order_passed files counts level from (omega arith) ordered) ∙ o.order;
      sizes = rw bytes (bytes_turn files counts c.loop-level.sums level from (omega arith) (omega arith)) ∙ o.sizes;
    }

-- the places from n to the end of the list
to_end : (files : List FileRecord) (n : ℕ) → length files ≡ max_files → take (max_files - n) (drop n files) ≡ drop n files
to_end files n q = rw (← q, ← length-drop n files) (take-length (drop n files))

-- no record is left: all have passed
none_left : (files : List FileRecord) (to n : ℕ) → n ≤ to → all well_record (slice to n files) ≡ all well_record (slice 0 n files) → all well_record (take n files) ≡ true
unfolding all
none_left files to n h g = sym g ∙ rw (run_past to n files h)

pub returns-then-not-all : goal.returns-then-not-all
returns-then-not-all c =
    let a = c.args in
    let n = c.counted-n.result in
    let q : length a.files ≡ max_files = search rules in
    let k : length a.counts ≡ level_count = search rules in
    let over = sum_over a.counts c.loop-level.level (omega arith) in
    let e : c.all.result ≡ list_all is_blank (take (max_files - n) (drop n a.files)) = all_from_yields_List is_blank _ _ c.all.result c.all.ensures.ran (YieldsList-from_slice (take (max_files - n) (drop n a.files)) cc) (λ x b p k. search (rules, tests)) in
    let some : all is_blank (drop n a.files) ≡ false = rw (to_end a.files n q) at (sym (all_listed is_blank (take (max_files - n) (drop n a.files))) ∙ sym e ∙ c.if-not-all.true) in
    let passed = none_left a.files c.loop-level.to n (omega arith) c.loop-level.invariant.well in
    unseen a.files a.counts q k (all_words max_files a.files _ c.well_formed.0) n c.counted-n.ensures (omega arith) c.nothing_seen-then-not-all.result c.nothing_seen-then-not-all.ensures (rw (passed, some))

pub returns : goal.returns
returns c =
    let a = c.args in
    let n = c.counted-n.result in
    let l = c.loop-level in
    let g = l.invariant in
    let q : length a.files ≡ max_files = search rules in
    let k : length a.counts ≡ level_count = search rules in
    let w = all_words max_files a.files _ c.well_formed.0 in
    let over = sum_over a.counts l.level (omega arith) in
    let e : c.all.result ≡ list_all is_blank (take (max_files - n) (drop n a.files)) = all_from_yields_List is_blank _ _ c.all.result c.all.ensures.ran (YieldsList-from_slice (take (max_files - n) (drop n a.files)) cc) (λ x b p k. search (rules, tests)) in
    let blank : all is_blank (drop n a.files) ≡ true = rw (to_end a.files n q) at (sym (all_listed is_blank (take (max_files - n) (drop n a.files))) ∙ sym e ∙ c.if-not-all.false) in
    let passed = none_left a.files l.to n (omega arith) g.well in
    let order = sym g.order ∙ order_ended a.files a.counts l.level l.to (omega arith) in
    let none = numbers_ended l.to n a.files (omega arith) in
    let column = sym (ap (put l.column l.to) none ∙ put_nil l.column l.to) ∙ g.told in
    let sums = sym (bytes_over a.files a.counts l.sums l.level l.to (omega arith)) ∙ g.sizes in
    let t : arranged a.files a.counts ≡ true = parts a.files a.counts q k w n c.counted-n.ensures (omega arith) ∙ rw (passed, blank) order in
    telling a.files a.counts q k w _ (survey_is a.files a.counts n l.column l.sums t (omega arith) column sums)
