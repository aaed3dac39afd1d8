-- `key_end` meets its contract. Assumes nothing.
use native.Mathlib.Omega.{arith}
use borrow.Author.Rules.{rules}
use Rattle.snapshot_parse.specs.ParsingLaws.{key_after}
use Rattle.difference_scan.proofs.key_end.Statement.{statement}
use Rattle.difference_scan.proofs.key_end.Tie as tie

get-number-requires : tie.Need-get_number-said-requires
get-number-requires c κs = search rules

lesser-requires : tie.Need-lesser-n-requires
lesser-requires c κs = search rules

after-requires : tie.Need-after-start-requires
after-requires c κs = search rules

after-requires-2 : tie.Need-after-requires
after-requires-2 c κs = search rules

returns : tie.Need-returns
returns c =
    let s = c in
    let l = s in
    let g = l in
    let a = g.args in
    let h = s.after-start.ensures.0 in
    let k = c.after.ensures.0 in
    (omega arith, key_after a.src.now a.at s.after-start.result c.after.result g.get_number-said.result l.lesser-n.result s.after-start.ensures.1 k c.after.ensures.1 g.get_number-said.ensures l.lesser-n.ensures)

pub key_end_spec : {M : Type 1} → statement M
key_end_spec = tie.close (tie.spec get-number-requires lesser-requires after-requires after-requires-2 returns)
