-- `passed` meets its contract: the laws of a search by halves. Assumes nothing.
use Rattle.std.proofs.Common.{◌-◌, ◌<◌, subst, sym, get_or, ap, ◌∙◌}
use Rattle.records.specs.Record.{past}
use Rattle.pick_range.specs.Ranges.{span_of}
use Rattle.bisect.specs.declared.Window.{Window}
use Rattle.bisect.specs.WindowLaws.{half_nearer}
use Rattle.pick_found.specs.ContiguousLaws.{halving_start, halving_end}
use Rattle.pick_search.specs.SearchLaws.{Among, among_next}
use Rattle.pick_search.proofs.passed.Goals as goal

pub loop-p-init : goal.loop-p-init
loop-p-init c =
    let q = c.args.q in
    halving_start c.args.s.now.files q.from q.to (span_of q.span) c.requires.1 c.requires.0.files

pub loop-p-smaller : goal.loop-p-smaller
loop-p-smaller c =
    let p = c.loop-p.p in
    subst (λ (u : Window). u.hi - u.lo < p.hi - p.lo) (sym c.narrowed-p.ensures) (half_nearer p c.loop-p-test.true _)

pub loop-p-preserved : goal.loop-p-preserved
loop-p-preserved c =
    let q = c.args.q in
    let h = c.args.s.now in
    subst (Among h.files q c.requires.1 c.requires.0.files) (sym c.narrowed-p.ensures)
    (among_next h.files q c.requires.1 c.requires.0.files c.loop-p.p c.loop-p.invariant c.loop-p-test.true c.file_at-f.result (c.file_at-f.ensures ∙ ap (λ i. get_or h.files i past) c.middle.ensures))

pub returns : goal.returns
returns c =
    let q = c.args.q in
    halving_end c.args.s.now.files q.from q.to (span_of q.span) c.requires.1 c.requires.0.files c.loop-p.p.lo c.loop-p.p.hi c.loop-p.invariant c.loop-p-test.false
