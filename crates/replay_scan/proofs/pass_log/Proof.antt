-- `pass_log` meets its contract. Assumes nothing.
use native.Mathlib.Omega.{arith}
use borrow.Author.Rules.{rules}
use borrow.Author.Tests.{le-leb, lt-leb}
use lib.Dec.{leb}
use Rattle.model_replay.specs.Takes.{takes, repeated, part_takes, log_takes}
use Rattle.replay_scan.specs.ScanLaws.{passes, told, Counts, count_stops, count_allowed, count_refused, whole_number}
use Rattle.replay_scan.proofs.pass_log.Statement.{statement}
use Rattle.replay_scan.proofs.pass_log.Tie as tie

pass-requires : tie.Need-pass-start-requires
pass-requires c κs = search rules

returns : tie.Need-returns-then-not-start
unfolding log_takes
returns c =
    let s = c in
    let a = s.args in
    told (count_stops 2 (passes a.src.now a.at (takes 2) s.pass-start.ensures) _ c.if-not-start.true)

get-number-requires : tie.Need-get_number-n-requires
get-number-requires c κs = search rules

-- the count is whole
count : (c : tie.After-get_number-n) → let s = c in let a = s.args in Counts a.src.now a.at 2 s.pass-start.result c.get_number-n.result
count c =
    let i = c in
    let s = i in
    let a = s.args in
    whole_number a.src.now a.at 2 s.pass-start.ensures i.if-not-start.false c.get_number-n.ensures

nothing-requires : tie.Need-nothing-requires
nothing-requires c κs = search rules

returns_2 : tie.Need-returns-then-n-gt1
unfolding log_takes
returns_2 c =
    let g = c.before.before in
    told (count_refused (count g) (λ n. leb n 1) (λ n. repeated n (part_takes 8 0)) (lt-leb g.get_number-n.result 1 (omega arith)) c.nothing.ensures)

pass-parts-requires : tie.Need-pass_parts-requires
pass-parts-requires c κs = search rules

returns_3 : tie.Need-returns
unfolding log_takes
returns_3 c =
    let g = c.before.before in
    let s = g in
    let n = g.get_number-n.result in
    told (count_allowed (count g) (λ n. leb n 1) (λ n. repeated n (part_takes 8 0)) (le-leb n 1 (omega arith)) (passes s.args.src.now s.pass-start.result.at (repeated n (part_takes 8 0)) c.pass_parts.ensures))

pub pass_log_spec : {M : Type 1} → statement M
pass_log_spec = tie.close (tie.spec pass-requires returns get-number-requires nothing-requires returns_2 pass-parts-requires returns_3)
