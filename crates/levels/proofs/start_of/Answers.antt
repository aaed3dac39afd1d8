-- `levels::start_of` meets its contract: the sum of some counts is at most that of all. Assumes nothing.
use Rattle.std.proofs.Common.{◌≡◌, take, ◌∙◌, sym, rules, arith}
use Rattle.std.proofs.lemmas.Iterator.{YieldsList-from_slice}
use Rattle.std.proofs.lemmas.Iterator.Consumers.{fits_from_yields_list}
use Rattle.std.specs.List.{sum_by}
use Rattle.lemmas.specs.Listed.{sum_listed}
use Rattle.lemmas.specs.Slices.{sum_upto}
use Rattle.levels.proofs.start_of.Goals as goal

pub sum-requires-clause-fits : goal.sum-requires-clause-fits
sum-requires-clause-fits c =
    let l = take c.args.level c.args.counts in
    let below = sum_upto c.args.level c.args.counts in
    fits_from_yields_list c.iter.result _ (YieldsList-from_slice l cc) (omega (arith, sum_listed l))

pub returns : goal.returns
returns c =
    let l = take c.args.level c.args.counts in
    let e : c.sum.result ≡ sum_by (λ x. x) l = search rules in
    e ∙ sym (sum_listed l)
