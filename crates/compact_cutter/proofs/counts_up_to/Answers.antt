-- `counts_up_to` meets its contract: a turn adds the size of the file before those seen.
use Rattle.std.proofs.Common.{◌≡◌, ℕ, ◌+◌, ◌-◌, ◌≤◌, ◌<◌, List, length, get_or, take, drop, take, reverse, length-drop, length-take-le, sym, ap, ◌∙◌, arith}
use Rattle.std.proofs.Math.Seq.{slice}
use Rattle.std.proofs.lemmas.Iterator.Adapters.{YieldsList-from_rev_slice}
use Rattle.std.proofs.lemmas.Iterator.Consumers.{YieldsList-turn, YieldsList-end}
use Rattle.std.proofs.lemmas.List.{get_or-reverse, get_or_default, length-reverse, length_push}
use Rattle.lemmas.specs.Slices.{take_drop, at_run}
use Rattle.model.specs.File.{total}
use Rattle.records.specs.Record.{past}
use Rattle.records.specs.RecordLaws.{total_turn, total_ended}
use Rattle.records.specs.Run.{run}
use Rattle.records.specs.declared.FileRecord.{FileRecord}
use Rattle.pick_answer.specs.PickedLaws.{well_room}
use Rattle.pick_answer.proofs.Shape.{shape}
use Rattle.compact_cutter.specs.CutterLaws.{between_bound, counts_from, counts_here, counts_earlier, counts_first, counts_are}
use Rattle.compact_cutter.proofs.counts_up_to.Goals as goal

module _ (files : List FileRecord) (from place : ℕ) (room : from + place ≤ length files) where
  -- the files up to the place, as they are lent
  abbrev lent : List FileRecord
  lent = take (from + place - from) (drop from files)

  -- there are as many as the place says
  lent_length : length lent ≡ place
  lent_length = let n : from + place - from ≡ place = omega arith in length-take-le (from + place - from) (drop from files) (omega (arith, length-drop from files)) ∙ n

  -- of these from the back: after k of them comes the one before
  next : (k : ℕ) (f : FileRecord) → (k < length (reverse lent)) × (f ≡ get_or (reverse lent) k f) → (k < place) × (f ≡ get_or files (from + place - (k + 1)) past)
  next k f h =
      let r = length-reverse lent in
      let n = lent_length in
      let m : from + place - from ≡ place = omega arith in
      let i : from + (length lent - 1 - k) ≡ from + place - (k + 1) = omega (arith, h.0) in
      let run-is : lent ≡ slice from (from + place) files = rw m (take_drop from place files) in (
        omega (arith, h.0),
        h.1 ∙ get_or-reverse lent k f (omega (arith, h.0)) ∙ ap (λ (z : List FileRecord). get_or z (length lent - 1 - k) f) run-is
            ∙ at_run from (from + place) files (length lent - 1 - k) f (omega (arith, h.0)) ∙ ap (λ (j : ℕ). get_or files j f) i ∙ get_or_default files (from + place - (k + 1)) f past (omega (arith, h.0)),
      )

  -- the bytes with one file more
  more : (k : ℕ) (f : FileRecord) → k < place → f ≡ get_or files (from + place - (k + 1)) past
      → total (run (from + place - k) (from + place) files) + f.size ≡ total (run (from + place - (k + 1)) (from + place) files)
  more k f h e =
      let n : from + place - (k + 1) + 1 ≡ from + place - k = omega arith in
      let t = total_turn (from + place - (k + 1)) (from + place) files (omega arith) room in
      omega (arith, t, ap (λ (j : ℕ). total (run j (from + place) files)) n, ap (λ (g : FileRecord). g.size) e)

pub overflow_add-from : goal.overflow_add-from
overflow_add-from c = omega (arith, well_room c.args.c c.requires.0)

pub overflow_add-from-2 : goal.overflow_add-from-2
overflow_add-from-2 c = omega (arith, well_room c.args.c c.requires.0)

pub offset_bounds-c-from : goal.offset_bounds-c-from
offset_bounds-c-from c = omega (arith, well_room c.args.c c.requires.0)

pub slice_bounds-iter-end : goal.slice_bounds-iter-end
slice_bounds-iter-end c = omega (arith, well_room c.args.c c.requires.0)

pub loop-f-init : goal.loop-f-init
loop-f-init c =
    let p = c.args.c in
    let end = p.first + p.second + c.args.place in
    let n : end - 0 ≡ end = omega arith in
    rw n (omega arith, sym (total_ended end end p.files (omega arith)), counts_are p c.requires.0 c.args.place c.args.count c.requires.1)

pub returns-then-sum-count : goal.returns-then-sum-count
returns-then-sum-count c =
    let p = c.args.c in
    let l = c.loop-f in
    let from = p.first + p.second in
    sym (sym l.invariant.2 ∙ counts_here p.files from (from + c.args.place) c.args.count (from + c.args.place - length l.yielded) (omega arith) (sym l.invariant.1 ∙ c.if-sum-count.true))

pub overflow_add-sum : goal.overflow_add-sum
overflow_add-sum c =
    let p = c.args.c in
    let l = c.loop-f in
    let from = p.first + p.second in
    let k = length l.yielded in
    let long = (shape p _ c.well_formed.0).files in
    let fits : from + c.args.place ≤ length p.files = omega (arith, well_room p c.requires.0) in
    let t = next p.files from c.args.place fits k c.in-Some.f.now (YieldsList-turn (YieldsList-from_rev_slice (lent p.files from c.args.place fits) cc) l.yielded _ l.yielded_by _ _ c.in-Some.f c.in-Some.is c.next.ensures.steps) in
    let n : from + (c.args.place - (k + 1)) ≡ from + c.args.place - (k + 1) = omega (arith, t.0) in
    omega (arith, more p.files from c.args.place fits k c.in-Some.f.now t.0 t.1, ap (λ (j : ℕ). total (run j (from + c.args.place) p.files)) n, between_bound p c.requires.0 long (c.args.place - (k + 1)) c.args.place c.requires.1)

pub loop-f-preserved : goal.loop-f-preserved
loop-f-preserved c =
    let p = c.args.c in
    let l = c.loop-f in
    let from = p.first + p.second in
    let k = length l.yielded in
    let long = (shape p _ c.well_formed.0).files in
    let fits : from + c.args.place ≤ length p.files = omega (arith, well_room p c.requires.0) in
    let t = next p.files from c.args.place fits k c.in-Some.f.now (YieldsList-turn (YieldsList-from_rev_slice (lent p.files from c.args.place fits) cc) l.yielded _ l.yielded_by _ _ c.in-Some.f c.in-Some.is c.next.ensures.steps) in
    let other : total (run (from + c.args.place - k) (from + c.args.place) p.files) ≡ c.args.count → ⊥ = λ e. c.if-sum-count.false (l.invariant.1 ∙ e) in
    let n : from + c.args.place - k - 1 ≡ from + c.args.place - (k + 1) = omega arith in
    rw (length_push l.yielded c.in-Some.f) (
      omega (arith, t.0),
      ap (λ (s : ℕ). s + c.in-Some.f.now.size) l.invariant.1 ∙ more p.files from c.args.place fits k c.in-Some.f.now t.0 t.1,
      sym (ap (counts_from p.files from (from + c.args.place) c.args.count) n) ∙ sym (counts_earlier p.files from (from + c.args.place) c.args.count (from + c.args.place - k) (omega (arith, t.0)) other) ∙ l.invariant.2,
    )

pub returns : goal.returns
returns c =
    let p = c.args.c in
    let l = c.loop-f in
    let from = p.first + p.second in
    let long = (shape p _ c.well_formed.0).files in
    let fits : from + c.args.place ≤ length p.files = omega (arith, well_room p c.requires.0) in
    let e = YieldsList-end (YieldsList-from_rev_slice (lent p.files from c.args.place fits) cc) l.yielded _ l.yielded_by _ _ c.in-None.is c.next.ensures.steps in
    let all : from + c.args.place - length l.yielded ≡ from = omega (arith, e.1, length-reverse (lent p.files from c.args.place fits), lent_length p.files from c.args.place fits) in
    rw l.invariant.1 (sym (sym l.invariant.2 ∙ counts_first p.files from (from + c.args.place) c.args.count (from + c.args.place - length l.yielded) all))
