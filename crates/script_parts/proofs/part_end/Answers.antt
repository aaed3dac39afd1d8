-- `part_end` meets its contract: each turn passes one part more. Assumes nothing.
use Rattle.std.proofs.Common.{ℕ, ◌≡◌, ◌∙◌, ap, arith, rules, add-one}
use Rattle.script_parts.specs.Parts.{next_end, start_after, part_end}
use Rattle.script_parts.proofs.part_end.Goals as goal

pub loop-init : goal.loop-init
unfolding part_end
loop-init c = search rules

pub loop-preserved : goal.loop-preserved
unfolding part_end
loop-preserved c =
    let a = c.args in
    rw (add-one c.loop.counter)
    (c.end_of-end-in-loop.ensures ∙ ap (λ (x : ℕ). next_end a.line.now a.p x) (c.start_after-from.ensures ∙ ap (start_after a.p) c.loop.invariant))

pub returns : goal.returns
returns c =
    let e : c.loop.counter ≡ c.args.i = omega arith in
    c.loop.invariant ∙ ap (part_end c.args.line.now c.args.p) e
