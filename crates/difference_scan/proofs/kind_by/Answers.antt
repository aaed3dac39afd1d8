-- `kind_by` meets its contract. Assumes nothing.
use Rattle.std.proofs.Common.{true, false, sym, ◌∙◌}
use Rattle.difference_scan.specs.ScanLaws.{kind_left, kind_right, kind_both}
use Rattle.difference_scan.proofs.kind_by.Goals as goal

pub returns-then-goes_first : goal.returns-then-goes_first
returns-then-goes_first c =
    let a = c.args in
    kind_left a.n a.x a.m a.y a.same (sym c.goes_first.ensures ∙ c.if-goes_first.true)

pub returns-then-goes_first-2 : goal.returns-then-goes_first-2
returns-then-goes_first-2 c =
    let a = c.args in
    kind_right a.n a.x a.m a.y a.same (sym c.goes_first.ensures ∙ c.if-goes_first.false) (sym c.goes_first-2.ensures ∙ c.if-goes_first-2.true)

pub returns-then-same : goal.returns-then-same
returns-then-same c =
    let a = c.args in
    kind_both a.n a.x a.m a.y a.same true c.if-same.true (sym c.goes_first.ensures ∙ c.if-goes_first.false) (sym c.goes_first-2.ensures ∙ c.if-goes_first-2.false)

pub returns : goal.returns
returns c =
    let a = c.args in
    kind_both a.n a.x a.m a.y a.same false c.if-same.false (sym c.goes_first.ensures ∙ c.if-goes_first.false) (sym c.goes_first-2.ensures ∙ c.if-goes_first-2.false)
