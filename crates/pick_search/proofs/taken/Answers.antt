-- `taken` meets its contract: the laws of a search file by file. Assumes nothing.
use Rattle.std.proofs.Common.{arith, get_or, ap, ◌∙◌}
use Rattle.records.specs.Record.{past}
use Rattle.pick_search.specs.SearchLaws.{sweeping_small, sweeping_start, sweeping_next, sweeping_nearer, sweeping_ends}
use Rattle.pick_search.proofs.taken.Goals as goal

pub loop-w-init : goal.loop-w-init
loop-w-init c = sweeping_start c.args.s.now.files c.args.q c.args.edge c.args.a c.requires.0.files c.requires.1 c.sweeping-w.result c.sweeping-w.ensures

pub swept-w-requires : goal.swept-w-requires
swept-w-requires c = (
  omega (arith, c.loop-w.invariant.below c.loop-w-test.true, c.requires.1.room),
  sweeping_small c.args.s.now.files c.args.q c.args.edge c.args.a c.requires.0.files c.loop-w.w c.loop-w.invariant c.loop-w-test.true c.file_at-f.result
      (c.file_at-f.ensures ∙ ap (λ i. get_or c.args.s.now.files i past) c.next_place.ensures),
)

pub loop-w-smaller : goal.loop-w-smaller
loop-w-smaller c =
    sweeping_nearer c.args.s.now.files c.args.q c.args.edge c.args.a c.requires.0.files c.loop-w.w c.loop-w.invariant c.loop-w-test.true c.file_at-f.result
    (c.file_at-f.ensures ∙ ap (λ i. get_or c.args.s.now.files i past) c.next_place.ensures) c.swept-w.result c.swept-w.ensures

pub loop-w-preserved : goal.loop-w-preserved
loop-w-preserved c =
    sweeping_next c.args.s.now.files c.args.q c.args.edge c.args.a c.requires.0.files c.loop-w.w c.loop-w.invariant c.loop-w-test.true c.file_at-f.result
    (c.file_at-f.ensures ∙ ap (λ i. get_or c.args.s.now.files i past) c.next_place.ensures) c.swept-w.result c.swept-w.ensures

pub returns : goal.returns
returns c = sweeping_ends c.args.s.now.files c.args.q c.args.edge c.args.a c.requires.0.files c.loop-w.w c.loop-w.invariant c.loop-w-test.false
