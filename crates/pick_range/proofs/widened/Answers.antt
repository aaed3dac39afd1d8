-- `pick_range::widened` meets its contract: each pass settles or leaves fewer files outside. Assumes nothing.
use Rattle.std.proofs.Common.{◌≡◌, ℕ, ◌+◌, ◌-◌, ◌<◌, List, length, get_or, take, cond, refl, sym, ap, ◌∙◌, rules, arith}
use Rattle.std.proofs.Math.Seq.{slice, get_or-take, get_or-drop, length-slice}
use Rattle.lemmas.specs.Order.{clash}
use Rattle.model.specs.File.{max_files}
use Rattle.records.specs.Record.{past}
use Rattle.records.specs.Run.{run}
use Rattle.pick_range.specs.Ranges.{span_of}
use Rattle.pick_range.specs.WideningLaws.{way_start, way_trans, way_end, pass_start, pass_stretched, pass_kept, pass_end}
use Rattle.pick_range.proofs.widened.Goals as goal
use Rattle.pick_range.proofs.widened.Goals.{then-sticks_out, else-sticks_out}

-- the element of a run
at_run : {A : Type 0} (from e j : ℕ) (l : List A) (d : A) → from + j < e → get_or (slice from e l) j d ≡ get_or l (from + j) d
at_run from e j l d h = get_or-drop from (take e l) j d ∙ get_or-take e l (from + j) d h

pub loop-settled-init : goal.loop-settled-init
loop-settled-init c = record { way = way_start (run c.args.from c.args.end c.args.files) (span_of c.args.span); still = λ z. clash z refl }

pub loop-f-init : goal.loop-f-init
loop-f-init c =
    let first : c.args.from + 0 ≡ c.args.from = omega arith in
    rw first (pass_start c.args.from c.args.end c.args.files (span_of c.loop-settled.wide))

pub loop-f-preserved : goal.loop-f-preserved
loop-f-preserved c =
    let a = c.args in
    let o = c.loop-f in
    let j = o.f-index in
    let q : length a.files ≡ max_files = search rules in
    let long : length c.part-f-items.result.now ≡ a.end - a.from = rw c.part-f-items.ensures (length-slice a.from a.end a.files (omega arith)) in
    let here : get_or c.part-f-items.result.now j past ≡ get_or a.files (a.from + j) past = rw c.part-f-items.ensures (at_run a.from a.end j a.files past (omega arith)) in
    let next : a.from + (j + 1) ≡ a.from + j + 1 = omega arith in
    let e = rw here at c.sticks_out.ensures in
    elim c.if-sticks_out.branch [
      | then-sticks_out w ↦ rw (next, ap span_of w.wide-is ∙ w.stretch-wide.ensures, w.settled-is, here) (pass_stretched a.from a.end a.files (span_of c.loop-settled.wide) (span_of o.wide) o.settled (a.from + j) (omega arith) (omega arith) o.invariant (sym e ∙ w.if-sticks_out.true))
      | else-sticks_out w ↦ rw (next, w.wide-is, w.settled-is) (pass_kept a.from a.end a.files (span_of c.loop-settled.wide) (span_of o.wide) o.settled (a.from + j) (omega arith) (omega arith) o.invariant (sym e ∙ w.if-sticks_out.false))
    ]

pub loop-settled-smaller : goal.loop-settled-smaller
loop-settled-smaller c =
    let z : ◌≡◌ {A = ℕ} (cond c.loop-settled.settled 0 1) 1 = rw c.loop-settled-test.true in
    omega (arith, c.loop-f.invariant.less)

pub loop-settled-preserved : goal.loop-settled-preserved
loop-settled-preserved c =
    let a = c.args in
    let o = c.loop-f in
    let q : length a.files ≡ max_files = search rules in
    let long : length c.part-f-items.result.now ≡ a.end - a.from = rw c.part-f-items.ensures (length-slice a.from a.end a.files (omega arith)) in
    record {
      way = way_trans (run a.from a.end a.files) (span_of a.span) (span_of c.loop-settled.wide) (span_of o.wide) c.loop-settled.invariant.way o.invariant.way;
      still = pass_end a.from a.end a.files (span_of c.loop-settled.wide) (span_of o.wide) o.settled (a.from + o.f-index) (omega arith) o.invariant;
    }

pub returns : goal.returns
returns c = way_end (run c.args.from c.args.end c.args.files) (span_of c.args.span) (span_of c.loop-settled.wide) c.loop-settled.invariant.way (c.loop-settled.invariant.still c.loop-settled-test.false)
