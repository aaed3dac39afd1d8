-- `pass_key` meets its contract. Assumes nothing.
use borrow.Author.Rules.{rules}
use Rattle.model_replay.specs.Takes.{takes, key_takes}
use Rattle.replay_scan.specs.ScanLaws.{passes, told, Counts, count_stops, count_goes_on, whole_number}
use Rattle.replay_scan.proofs.pass_key.Statement.{statement}
use Rattle.replay_scan.proofs.pass_key.Tie as tie

pass-requires : tie.Need-pass-start-requires
pass-requires c κs = search rules

returns : tie.Need-returns-then-not-start
unfolding key_takes
returns c =
    let s = c in
    let a = s.args in
    told (count_stops 1 (passes a.src.now a.at (takes 1) s.pass-start.ensures) _ c.if-not-start.true)

get-number-requires : tie.Need-get_number-n-requires
get-number-requires c κs = search rules

-- the length is whole
long : (c : tie.After-get_number-n) → let s = c in let a = s.args in Counts a.src.now a.at 1 s.pass-start.result c.get_number-n.result
long c =
    let i = c in
    let s = i in
    let a = s.args in
    whole_number a.src.now a.at 1 s.pass-start.ensures i.if-not-start.false c.get_number-n.ensures

pass-requires-2 : tie.Need-pass-requires
pass-requires-2 c κs = search rules

returns_2 : tie.Need-returns
unfolding key_takes
returns_2 c =
    let g = c.before in
    let s = g in
    let a = s.args in
    told (count_goes_on (long g) takes (passes a.src.now s.pass-start.result.at (takes g.get_number-n.result) c.pass.ensures))

pub pass_key_spec : {M : Type 1} → statement M
pass_key_spec = tie.close (tie.spec pass-requires returns get-number-requires pass-requires-2 returns_2)
