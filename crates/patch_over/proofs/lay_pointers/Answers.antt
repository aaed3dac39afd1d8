-- `lay_pointers` meets its contract. Assumes nothing.
use Rattle.std.proofs.Common.{◌∙◌}
use Rattle.patch_over.specs.PieceLaws.{by_cases, pointers_run, levels_follow}
use Rattle.patch_over.proofs.lay_pointers.Goals as goal

pub returns : goal.returns
returns c =
    let a = c.args in
    let from = c.runs_at-from.result in
    let s = c.after-a.ensures.1 in
    let r = c.runs_at-from.ensures in
    let follow = levels_follow a.left.now a.list.now c.after-a.result a.b from s r in
    let laid = rw (pointers_run a.left.now a.list.now c.after-a.result a.b from s r) at c.lay_section.ensures in
    by_cases c.lay_section.result (λ v. v) (λ x v. (v.0, v.1, record { within = v.2.at_left.within; rest = v.2.at_left.rest ∙ follow })) laid
