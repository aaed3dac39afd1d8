-- `pass_why` meets its contract. Assumes nothing.
use native.Mathlib.Omega.{arith}
use borrow.Author.Rules.{rules}
use Rattle.model_replay.specs.Takes.{takes, tag_takes, why_takes}
use Rattle.replay_scan.specs.ScanLaws.{passes, told, stays, Counts, count_stops, tag_goes_on, tag_unknown, whole_number}
use Rattle.replay_scan.proofs.pass_why.Statement.{statement}
use Rattle.replay_scan.proofs.pass_why.Tie as tie

pass-requires : tie.Need-pass-start-requires
pass-requires c κs = search rules

returns : tie.Need-returns-then-not-start
unfolding why_takes tag_takes
returns c =
    let s = c in
    let a = s.args in
    told (count_stops 1 (passes a.src.now a.at (takes 1) s.pass-start.ensures) _ c.if-not-start.true)

get-number-requires : tie.Need-get_number-tag-requires
get-number-requires c κs = search rules

-- the tag is whole
tag : (c : tie.After-get_number-tag) → let s = c in let a = s.args in Counts a.src.now a.at 1 s.pass-start.result c.get_number-tag.result
tag c =
    let i = c in
    let s = i in
    let a = s.args in
    whole_number a.src.now a.at 1 s.pass-start.ensures i.if-not-start.false c.get_number-tag.ensures

pass-requires-2 : tie.Need-pass-requires
pass-requires-2 c κs = search rules

returns_2 : tie.Need-returns-then-tag-eq-SCORED
unfolding why_takes
returns_2 c =
    let i = c in
    let g = i.before.before in
    let s = g in
    told (tag_goes_on (tag g) _ 0 i.if-tag-eq-SCORED.true (passes s.args.src.now s.pass-start.result.at (takes 8) c.pass.ensures))

returns_3 : tie.Need-returns-then-tag-eq-BY_HAND
unfolding why_takes
returns_3 c =
    let t = tag c.before.before in
    told (tag_goes_on t _ 1 c.if-tag-eq-BY_HAND.true (stays t.whole))

nothing-requires : tie.Need-nothing-requires
nothing-requires c κs = search rules

returns-4 : tie.Need-returns
unfolding why_takes
returns-4 c = told (tag_unknown (tag c.before.before.before) _ (omega arith) c.nothing.ensures)

pub pass_why_spec : {M : Type 1} → statement M
pass_why_spec = tie.close (tie.spec pass-requires returns get-number-requires pass-requires-2 returns_2 returns_3 nothing-requires returns-4)
