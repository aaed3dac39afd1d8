-- `pass_given` meets its contract. Assumes nothing.
use native.Mathlib.Omega.{arith}
use borrow.Author.Rules.{rules}
use Rattle.model_replay.specs.Takes.{takes, tag_takes, choice_takes, given_takes}
use Rattle.replay_scan.specs.ScanLaws.{passes, told, stays, Counts, count_stops, tag_goes_on, tag_unknown, whole_number}
use Rattle.replay_scan.proofs.pass_given.Statement.{statement}
use Rattle.replay_scan.proofs.pass_given.Tie as tie

pass-requires : tie.Need-pass-start-requires
pass-requires c κs = search rules

returns : tie.Need-returns-then-not-start
unfolding given_takes tag_takes
returns c =
    let s = c in
    let a = s.args in
    told (count_stops 1 (passes a.src.now a.at (takes 1) s.pass-start.ensures) _ c.if-not-start.true)

get-number-requires : tie.Need-get_number-tag-requires
get-number-requires c κs = search rules

-- the tag is whole
tag : (c : tie.After-get_number-tag) → let s = c in let a = s.args in Counts a.src.now a.at 1 s.pass-start.result c.get_number-tag.result
tag c =
    let i = c in
    let s = i in
    let a = s.args in
    whole_number a.src.now a.at 1 s.pass-start.ensures i.if-not-start.false c.get_number-tag.ensures

returns_2 : tie.Need-returns-then-tag-eq-ACCEPTED
unfolding given_takes
returns_2 c =
    let t = tag c.before in
    told (tag_goes_on t _ 0 c.if-tag-eq-ACCEPTED.true (stays t.whole))

pass-requires-2 : tie.Need-pass-requires
pass-requires-2 c κs = search rules

returns_3 : tie.Need-returns-then-tag-eq-HANDED
unfolding given_takes
returns_3 c =
    let i = c in
    let g = i.before.before.before in
    let s = g in
    told (tag_goes_on (tag g) _ 1 i.if-tag-eq-HANDED.true (passes s.args.src.now s.pass-start.result.at (takes 8) c.pass.ensures))

pass-choice-requires : tie.Need-pass_choice-requires
pass-choice-requires c κs = search rules

returns-4 : tie.Need-returns-then-tag-eq-PICKED
unfolding given_takes
returns-4 c =
    let i = c in
    let g = i.before.before.before.before in
    let s = g in
    told (tag_goes_on (tag g) _ 2 i.if-tag-eq-PICKED.true (passes s.args.src.now s.pass-start.result.at choice_takes c.pass_choice.ensures))

pass-requires-3 : tie.Need-pass-requires-then-tag-eq-REFUSED
pass-requires-3 c κs = search rules

returns-5 : tie.Need-returns-then-tag-eq-REFUSED
unfolding given_takes
returns-5 c =
    let i = c in
    let g = i.before.before.before.before.before in
    let s = g in
    told (tag_goes_on (tag g) _ 3 i.if-tag-eq-REFUSED.true (passes s.args.src.now s.pass-start.result.at (takes 1) c.pass-then-tag-eq-REFUSED.ensures))

nothing-requires : tie.Need-nothing-requires
nothing-requires c κs = search rules

returns-6 : tie.Need-returns
unfolding given_takes
returns-6 c = told (tag_unknown (tag c.before.before.before.before.before) _ (omega arith) c.nothing.ensures)

pub pass_given_spec : {M : Type 1} → statement M
pass_given_spec = tie.close (tie.spec pass-requires returns get-number-requires returns_2 pass-requires-2 returns_3 pass-choice-requires returns-4 pass-requires-3 returns-5 nothing-requires returns-6)
