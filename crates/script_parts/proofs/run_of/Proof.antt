-- `script_parts::run_of` meets its contract. Assumes nothing.
use native.Mathlib.Omega.{arith}
use Rattle.script_parts.specs.PartLaws.{first_run, later_run}
use borrow.Author.Rules.{rules}
use Rattle.script_parts.proofs.run_of.Statement.{statement}
use Rattle.script_parts.proofs.run_of.Tie as tie

part-end-requires : tie.Need-part_end-requires
part-end-requires c κs = search rules

returns : tie.Need-returns-then-i-eq0
returns c =
    let s = c.args in
    first_run s.line.now s.p s.i _ c.if-i-eq0.true c.part_end.ensures

sub-part-end : tie.Need-overflow_sub-i
sub-part-end c = search rules

part-end-requires-2 : tie.Need-part_end-before-requires
part-end-requires-2 c κs = search rules

start-after-requires : tie.Need-start_after-from-requires
start-after-requires c κs = search rules

end-of-requires : tie.Need-end_of-requires
end-of-requires c κs = search rules

returns_2 : tie.Need-returns
returns_2 c =
    let s = c.args in
    later_run s.line.now s.p s.i _ _ _ (omega arith) c.part_end-before.ensures c.start_after-from.ensures c.end_of.ensures

pub run_of_spec : {M : Type 1} → statement M
run_of_spec = tie.close (tie.spec part-end-requires returns sub-part-end part-end-requires-2 start-after-requires end-of-requires returns_2)
