-- `merge` meets its contract: a turn lays down one file, a level done has laid down the merge of both its runs.
use Rattle.std.proofs.Common.{◌≡◌, ◌+◌, ◌≤◌, ◌<◌, Bool, true, false, ◌&&◌, List, length, get_or, drop, refl, sym, ap, ◌∙◌, arith, rules, ltb-true, ltb-false}
use Rattle.std.specs.Prelude.{map}
use Rattle.std.proofs.Math.Seq.{slice, length-slice}
use Rattle.std.proofs.lemmas.Bool.Decides.{nat_tests}
use Rattle.lemmas.specs.Order.{clash}
use Rattle.lemmas.specs.Lists.{join}
use Rattle.lemmas.specs.ListLaws.{and_left, and_right, and_true}
use Rattle.lemmas.specs.Slices.{put, put_nil, put_append, parts, parts_turn, sum_turn}
use Rattle.lemmas.specs.Merge as lists
use Rattle.model.specs.File.{full, in_order, no_collision, levelwise, max_additions, max_files}
use Rattle.records.specs.declared.FileRecord.{FileRecord}
use Rattle.records.specs.Record.{file_of, past}
use Rattle.edit_stayers.specs.Stayers.{records_at}
use Rattle.edit_stayers.specs.PlaceLaws.{below_at, records_length, record_at}
use Rattle.edit_order.specs.Arrangement.{record_before}
use Rattle.edit_merge.specs.Builder.{files_of, merges, merged_of}
use Rattle.edit_merge.specs.Neighbours.{seen_after}
use Rattle.edit_merge.specs.MergeLaws.{takes_none, merges_turn, merges_over}
use Rattle.edit_merge.specs.NeighbourLaws.{rest, fits_begun, sees_begun, rest_begun, rest_ended, levelwise_turn, levelwise_found}
use Rattle.edit_merge.proofs.Turning.{turn_new, turn_old}
use Rattle.edit_merge.proofs.merge.Goals as goal
use Rattle.edit_merge.proofs.merge.Goals.{then-added+then-i-to, else-added, else-added-via-then-added+else-i-to, else-added-via-else-added, then-added-2, else-added-2, then-added-3, else-added-3}

pub loop-level-init : goal.loop-level-init
loop-level-init c =
    let a = c.args in
    let whole = merges (parts (records_at a.files a.places) a.counts) (parts (records_at a.news a.order) a.new_counts) in (
      omega arith,
      omega arith,
      search rules,
      ap (λ (d : List FileRecord). put d 0 (join whole)) c.blanks-out.ensures,
      c.requires.4,
      ap (λ (b : Bool). b && levelwise no_collision 0 (files_of whole)) (fits_begun c.level_begun-seen.result true 0 c.level_begun-seen.ensures),
    )

pub overflow_add-to : goal.overflow_add-to
overflow_add-to c = omega (arith, sum_turn c.args.counts c.loop-level.level (omega arith), sum_turn c.args.new_counts c.loop-level.level (omega arith))

pub overflow_add-new_to : goal.overflow_add-new_to
overflow_add-new_to c = omega (arith, sum_turn c.args.counts c.loop-level.level (omega arith), sum_turn c.args.new_counts c.loop-level.level (omega arith))

pub overflow_add-at-end : goal.overflow_add-at-end
overflow_add-at-end c = omega (arith, sum_turn c.args.counts c.loop-level.level (omega arith), sum_turn c.args.new_counts c.loop-level.level (omega arith))

pub loop-at-init : goal.loop-at-init
loop-at-init c =
    let o = c.loop-level in
    let a = c.args in
    let olds = records_at a.files a.places in
    let adds = records_at a.news a.order in
    let n = get_or a.counts o.level 0 in
    let m = get_or a.new_counts o.level 0 in
    let t = sum_turn a.counts o.level (omega arith) in
    let u = sum_turn a.new_counts o.level (omega arith) in
    let this = slice o.i (o.i + n) olds in
    let later = parts (drop (o.i + n) olds) (drop (o.level + 1) a.counts) in
    let ordered = sym (levelwise_turn in_order o.level this later) ∙ ap (λ (z : List (List FileRecord)). levelwise in_order o.level (files_of z)) (sym (parts_turn olds a.counts o.level o.i (omega arith))) ∙ o.invariant.4 in (
      refl,
      (
        omega arith,
        omega arith,
        omega arith,
        omega arith,
        omega arith,
        o.invariant.2,
        refl,
        and_left (in_order o.level (map file_of this)) (levelwise in_order (o.level + 1) (files_of later)) ordered,
        sees_begun c.level_begun-seen-in-loop-level.result o.seen.fits o.level c.level_begun-seen-in-loop-level.ensures (o.i < o.i + n) (get_or olds o.i past),
        rest_begun c.level_begun-seen-in-loop-level.result o.seen.fits o.level c.level_begun-seen-in-loop-level.ensures (lists.merge record_before this (slice o.j (o.j + m) adds)),
      ),
    )

pub offset_bounds-news-order : goal.offset_bounds-news-order
offset_bounds-news-order c = omega (arith, below_at max_additions c.args.order c.loop-at.j c.requires.3 (omega (arith, ltb-true)))

pub bounds-news-order : goal.bounds-news-order
bounds-news-order c = below_at max_additions c.args.order c.loop-at.j c.requires.3 (omega (arith, ltb-true))

pub offset_bounds-files-places : goal.offset_bounds-files-places
offset_bounds-files-places c = omega (arith, below_at max_files c.args.places c.loop-at.i c.requires.2 (omega (arith, ltb-true)))

pub bounds-files-places : goal.bounds-files-places
bounds-files-places c = below_at max_files c.args.places c.loop-at.i c.requires.2 (omega (arith, ltb-true))

pub offset_bounds-news-order-then-added-2 : goal.offset_bounds-news-order-then-added-2
offset_bounds-news-order-then-added-2 c =
    let t : c.loop-at.j < max_additions = grind (arith, nat_tests) in
    omega (arith, below_at max_additions c.args.order c.loop-at.j c.requires.3 (omega arith))

pub bounds-news-order-then-added-2 : goal.bounds-news-order-then-added-2
bounds-news-order-then-added-2 c =
    let t : c.loop-at.j < max_additions = grind (arith, nat_tests) in
    below_at max_additions c.args.order c.loop-at.j c.requires.3 (omega arith)

pub offset_bounds-files-places-else-added-2 : goal.offset_bounds-files-places-else-added-2
offset_bounds-files-places-else-added-2 c =
    let t : c.loop-at.i < max_files = grind (arith, nat_tests) in
    omega (arith, below_at max_files c.args.places c.loop-at.i c.requires.2 (omega arith))

pub bounds-files-places-else-added-2 : goal.bounds-files-places-else-added-2
bounds-files-places-else-added-2 c =
    let t : c.loop-at.i < max_files = grind (arith, nat_tests) in
    below_at max_files c.args.places c.loop-at.i c.requires.2 (omega arith)

pub loop-at-preserved : goal.loop-at-preserved
loop-at-preserved c =
    let l = c.loop-at in
    let o = c.loop-level in
    let a = c.args in
    let olds = records_at a.files a.places in
    let adds = records_at a.news a.order in
    let to = o.i + get_or a.counts o.level 0 in
    let new_to = o.j + get_or a.new_counts o.level 0 in
    let p : length olds ≡ max_files = records_length a.files a.places ∙ search rules in
    let q : length adds ≡ max_additions = records_length a.news a.order ∙ search rules in
    let first = record_before (get_or adds l.j past) (get_or olds l.i past) in
    -- the next addition is taken, or the next file that stays
    let chosen : (c.if-added.added ≡ true → (l.j < new_to) × (l.i < to → first ≡ true)) × (c.if-added.added ≡ false → (l.i < to) × (l.j < new_to → first ≡ false)) =
    elim c.if-added.branch [
      | then-added+then-i-to w ↦
          let b = record_at a.files a.places l.i (omega (arith, ltb-true)) in
          let d = record_at a.news a.order l.j (omega (arith, ltb-true)) in (
            λ t. (omega (arith, ltb-true), λ h. rw (b, d) (sym w.goes_before-added.ensures ∙ sym w.added-is ∙ t)),
            λ f. (omega (arith, ltb-true), λ h. rw (b, d) (sym w.goes_before-added.ensures ∙ sym w.added-is ∙ f)),
          )
      | else-added w ↦
          (elim w.else-added.branch [
            | else-added-via-then-added+else-i-to v ↦ (λ t. (omega (arith, ltb-true), λ h. absurd (omega (arith, ltb-false))), λ f. absurd (grind (arith, nat_tests)))
            | else-added-via-else-added v ↦ (λ t. absurd (grind (arith, nat_tests)), λ f. (omega (arith, ltb-false), λ h. absurd (omega (arith, ltb-false))))
          ])
    ] in
    -- what is laid down is the file that was chosen
    let taken : (c.if-added.added ≡ true → get_or adds l.j past ≡ c.if-added-2.f) × (c.if-added.added ≡ false → get_or olds l.i past ≡ c.if-added-2.f) =
    elim c.if-added-2.branch [
      | then-added-2 w ↦ (λ t. record_at a.news a.order l.j (omega (arith, (chosen.0 t).0)) ∙ sym w.f-is, λ f. clash w.if-added-2.true f)
      | else-added-2 w ↦ (λ t. clash t w.if-added-2.false, λ f. record_at a.files a.places l.i (omega (arith, (chosen.1 f).0)) ∙ sym w.f-is)
    ] in
    elim c.if-added-3.branch [
      | then-added-3 w ↦
          let h = chosen.0 w.if-added-3.true in
          let next = turn_new o.level olds adds to new_to o.out c.level_begun-seen-in-loop-level.result o.i o.j l.out l.seen l.i l.j l.invariant.1 (omega arith) (omega arith)
          c.if-added-2.f c.seen_after-seen.result (c.seen_after-seen.ensures ∙ ap (seen_after l.seen c.if-added-2.f) w.if-added-3.true) (taken.0 w.if-added-3.true) h.0 h.1 in
          rw (w.i-is, w.j-is, l.invariant.0) (omega arith, next)
      | else-added-3 w ↦
          let h = chosen.1 w.if-added-3.false in
          let next = turn_old o.level olds adds to new_to o.out c.level_begun-seen-in-loop-level.result o.i o.j l.out l.seen l.i l.j l.invariant.1 (omega arith) (omega arith)
          c.if-added-2.f c.seen_after-seen.result (c.seen_after-seen.ensures ∙ ap (seen_after l.seen c.if-added-2.f) w.if-added-3.false) (taken.1 w.if-added-3.false) h.0 h.1 in
          rw (w.i-is, w.j-is, l.invariant.0) (omega arith, next)
    ]

pub loop-level-preserved : goal.loop-level-preserved
unfolding join
loop-level-preserved c =
    let o = c.loop-level in
    let l = c.loop-at in
    let a = c.args in
    let olds = records_at a.files a.places in
    let adds = records_at a.news a.order in
    let n = get_or a.counts o.level 0 in
    let m = get_or a.new_counts o.level 0 in
    let p : length olds ≡ max_files = records_length a.files a.places ∙ search rules in
    let q : length adds ≡ max_additions = records_length a.news a.order ∙ search rules in
    let t = sum_turn a.counts o.level (omega arith) in
    let u = sum_turn a.new_counts o.level (omega arith) in
    let this = slice o.i (o.i + n) olds in
    let added = slice o.j (o.j + m) adds in
    let later = parts (drop (o.i + n) olds) (drop (o.level + 1) a.counts) in
    let all = lists.merge record_before this added in
    let left = merges later (parts (drop (o.j + m) adds) (drop (o.level + 1) a.new_counts)) in
    -- the level is done: both runs are used up
    let i-is : l.i ≡ o.i + n = omega arith in
    let j-is : l.j ≡ o.j + m = omega arith in
    let none = takes_none record_before olds adds l.i (o.i + n) l.j (o.j + m) past (omega arith) (omega arith) (omega arith) (omega arith) in
    let out-is : l.out ≡ put o.out (o.i + o.j) all = sym (put_nil l.out (l.i + l.j)) ∙ ap (put l.out (l.i + l.j)) (sym none) ∙ l.invariant.1.6 in
    let size : n + m ≡ length all = omega (arith, lists.merge_length record_before this added, length-slice o.i (o.i + n) olds (omega arith), length-slice o.j (o.j + m) adds (omega arith)) in
    let fits-is : l.seen.fits ≡ (o.seen.fits && no_collision o.level (map file_of all)) =
    sym (rest_ended o.level l.seen) ∙ ap (λ (z : List FileRecord). l.seen.fits && rest o.level l.seen z) (sym none) ∙ l.invariant.1.9
    ∙ ap (λ (f : Bool). f && no_collision o.level (map file_of all)) (fits_begun c.level_begun-seen-in-loop-level.result o.seen.fits o.level c.level_begun-seen-in-loop-level.ensures) in
    let turn = merges_turn olds adds a.counts a.new_counts o.level o.i o.j (omega arith) (omega arith) in
    let ordered = sym (levelwise_turn in_order o.level this later) ∙ ap (λ (z : List (List FileRecord)). levelwise in_order o.level (files_of z)) (sym (parts_turn olds a.counts o.level o.i (omega arith))) ∙ o.invariant.4 in
    let same : merges (parts (drop l.i olds) (drop (o.level + 1) a.counts)) (parts (drop l.j adds) (drop (o.level + 1) a.new_counts)) ≡ left = rw (i-is, j-is) in
    let to : l.i + l.j ≡ o.i + o.j + length all = omega arith in
    let room : o.i + o.j + length all ≤ length o.out = omega arith in (
      omega arith,
      omega arith,
      l.invariant.1.5,
      rw (same, out-is, to) (put_append o.out (o.i + o.j) all (join left) room)
          ∙ ap (λ (z : List (List FileRecord)). put o.out (o.i + o.j) (join z)) (sym turn)
          ∙ o.invariant.3,
      rw i-is (and_right (in_order o.level (map file_of this)) (levelwise in_order (o.level + 1) (files_of later)) ordered),
      rw same (levelwise_found no_collision o.level all left o.seen.fits l.seen.fits fits-is)
          ∙ ap (λ (z : List (List FileRecord)). o.seen.fits && levelwise no_collision o.level (files_of z)) (sym turn)
          ∙ o.invariant.5,
    )

pub returns : goal.returns
unfolding merged_of join full levelwise
returns c =
    let l = c.loop-level in
    let a = c.args in
    let none = merges_over (records_at a.files a.places) (records_at a.news a.order) a.counts a.new_counts l.level l.i l.j (omega arith) in
    let files = sym (put_nil l.out (l.i + l.j)) ∙ ap (λ (z : List (List FileRecord)). put l.out (l.i + l.j) (join z)) (sym none) ∙ l.invariant.3 in
    let clear = sym (and_true l.seen.fits) ∙ ap (λ (z : List (List FileRecord)). l.seen.fits && levelwise no_collision l.level (files_of z)) (sym none) ∙ l.invariant.5 in
    λ i. record { files = files i; fits = clear i }
