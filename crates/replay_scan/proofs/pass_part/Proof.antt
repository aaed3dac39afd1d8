-- `pass_part` meets its contract. Assumes nothing.
use borrow.Author.Rules.{rules}
use Rattle.model_replay.specs.Takes.{takes, repeated, key_takes, part_takes}
use Rattle.replay_scan.specs.ScanLaws.{passes, told, stops, goes_on, whole_part}
use Rattle.replay_scan.proofs.pass_part.Statement.{statement}
use Rattle.replay_scan.proofs.pass_part.Tie as tie

pass-requires : tie.Need-pass-start-requires
pass-requires c κs = search rules

returns : tie.Need-returns-then-not-start
unfolding part_takes
returns c =
    let s = c in
    let a = s.args in
    let p = passes a.src.now a.at (takes a.width) s.pass-start.ensures in
    told (stops p (repeated a.keys key_takes) c.if-not-start.true)

pass-keys-requires : tie.Need-pass_keys-requires
pass-keys-requires c κs = search rules

returns_2 : tie.Need-returns
unfolding part_takes
returns_2 c =
    let i = c in
    let s = i in
    let a = s.args in
    let p = whole_part a.src.now a.at (takes a.width) s.pass-start.ensures i.if-not-start.false in
    let q = passes a.src.now s.pass-start.result.at (repeated a.keys key_takes) c.pass_keys.ensures in
    told (goes_on p q)

pub pass_part_spec : {M : Type 1} → statement M
pass_part_spec = tie.close (tie.spec pass-requires returns pass-keys-requires returns_2)
