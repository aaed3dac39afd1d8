-- `runs_at` meets its contract. Assumes nothing.
use mathlib.Core.Path.{◌≡◌}
use mathlib.Core.Bool.{true}
use native.Mathlib.Omega.{arith}
use borrow.Author.Rules.{rules}
use lib.Pow.{are_bytes}
use Rattle.lemmas.specs.AreBytes.{bytes_all}
use Rattle.difference_list.specs.SectionLaws.{count_few}
use Rattle.difference_list.proofs.runs_at.Statement.{statement}
use Rattle.difference_list.proofs.runs_at.Tie as tie

get-number-requires : tie.Need-get_number-lefts-requires
get-number-requires c κs = search rules

get-number-requires-2 : tie.Need-get_number-rights-requires
get-number-requires-2 c κs = search rules

after-requires : tie.Need-after-left_at-requires
after-requires c κs = search rules

after-requires-2 : tie.Need-after-right_at-requires
after-requires-2 c κs = search rules

returns : tie.Need-returns
returns c =
    let s = c in
    let n = s in
    let m = n in
    let k = m in
    let a = k.args in
    let lefts : are_bytes a.left.now ≡ true = bytes_all a.left.now (λ i. omega (arith, k.shared_slice_known-1.given i)) in
    let rights : are_bytes a.right.now ≡ true = bytes_all a.right.now (λ i. omega (arith, k.shared_slice_known-2-1.given i)) in
    record {
      lefts = m.get_number-lefts.ensures;
      rights = n.get_number-rights.ensures;
      at_left = s.after-left_at.ensures.1;
      at_right = c.after-right_at.ensures.1;
      few_lefts = omega (arith, m.get_number-lefts.ensures, count_few a.left.now a.a lefts);
      few_rights = omega (arith, n.get_number-rights.ensures, count_few a.right.now a.b rights);
    }

pub runs_at_spec : {M : Type 1} → statement M
runs_at_spec = tie.close (tie.spec get-number-requires get-number-requires-2 after-requires after-requires-2 returns)
