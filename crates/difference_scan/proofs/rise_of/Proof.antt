-- `rise_of` meets its contract. Assumes nothing.
use Prim.Native.Nat.{ℕ}
use mathlib.Core.Path.{ap, ◌∙◌}
use native.Mathlib.Omega.{arith}
use borrow.Author.Rules.{rules}
use lib.ListN.{drop}
use Rattle.snapshot_parse.specs.Parsing.{number_in}
use Rattle.difference_scan.specs.Scan.{rise_of}
use Rattle.difference_scan.specs.ScanLaws.{rise_short}
use Rattle.difference_scan.proofs.rise_of.Statement.{statement}
use Rattle.difference_scan.proofs.rise_of.Tie as tie

rise-long-requires : tie.Need-rise_long-width-requires
rise-long-requires c κs = search rules

get-number-requires : tie.Need-get_number-requires
get-number-requires c κs =
    let s = c in
    (s.requires, omega (arith, c.rise_long-width.ensures, rise_short s.args.pointer))

returns : tie.Need-returns
unfolding rise_of
returns c =
    let b = c in
    let a = b.args in
    c.get_number.ensures ∙ ap (λ (w : ℕ). number_in w (drop a.at a.src.now)) b.rise_long-width.ensures

pub rise_of_spec : {M : Type 1} → statement M
rise_of_spec = tie.close (tie.spec rise-long-requires get-number-requires returns)
