-- `pass_count` meets its contract. Assumes nothing.
use native.Mathlib.Omega.{arith}
use borrow.Author.Rules.{rules}
use Rattle.model_replay.specs.Takes.{takes, tag_takes, count_takes}
use Rattle.replay_scan.specs.ScanLaws.{passes, told, stays, Counts, count_stops, tag_goes_on, tag_unknown, number_call, whole_number}
use Rattle.replay_scan.proofs.pass_count.Statement.{statement}
use Rattle.replay_scan.proofs.pass_count.Tie as tie

pass-requires : tie.Need-pass-start-requires
pass-requires c κs = search rules

returns : tie.Need-returns-then-not-start
unfolding count_takes tag_takes
returns c =
    let s = c in
    let a = s.args in
    told (count_stops 1 (passes a.src.now a.at (takes 1) s.pass-start.ensures) _ c.if-not-start.true)

get-number-requires : tie.Need-get_number-tag-requires
get-number-requires c κs = search rules

-- the tag is whole
tag : (c : tie.After-get_number-tag) → let s = c in let a = s.args in Counts a.src.now a.at 1 s.pass-start.result c.get_number-tag.result
tag c =
    let i = c in
    let s = i in
    let a = s.args in
    whole_number a.src.now a.at 1 s.pass-start.ensures i.if-not-start.false c.get_number-tag.ensures

returns_2 : tie.Need-returns-then-tag-eq-NEW
unfolding count_takes
returns_2 c =
    let t = tag c.before in
    told (tag_goes_on t _ 0 c.if-tag-eq-NEW.true (stays t.whole))

nothing-requires : tie.Need-nothing-requires
nothing-requires c κs = search rules

returns_3 : tie.Need-returns-then-tag-gt-PREVIOUS
unfolding count_takes
returns_3 c = told (tag_unknown (tag c.before.before.before) _ (omega arith) c.nothing.ensures)

pass-requires-2 : tie.Need-pass-requires
pass-requires-2 c κs = search rules

returns-4 : tie.Need-returns
unfolding count_takes
returns-4 c =
    let g = c.before.before.before in
    let s = g in
    told (number_call (tag g) c.if-tag-eq-NEW.false (omega arith) (passes s.args.src.now s.pass-start.result.at (takes 8) c.pass.ensures))

pub pass_count_spec : {M : Type 1} → statement M
pass_count_spec = tie.close (tie.spec pass-requires returns get-number-requires returns_2 nothing-requires returns_3 pass-requires-2 returns-4)
