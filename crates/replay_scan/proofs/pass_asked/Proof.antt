-- `pass_asked` meets its contract. Assumes nothing.
use native.Mathlib.Omega.{arith}
use borrow.Author.Rules.{rules}
use Rattle.model_replay.specs.Takes.{takes, tag_takes, part_takes, edit_takes, count_takes, asked_takes}
use Rattle.replay_scan.specs.ScanLaws.{passes, told, stays, Counts, count_stops, tag_goes_on, tag_unknown, whole_number}
use Rattle.replay_scan.proofs.pass_asked.Statement.{statement}
use Rattle.replay_scan.proofs.pass_asked.Tie as tie

pass-requires : tie.Need-pass-start-requires
pass-requires c κs = search rules

returns : tie.Need-returns-then-not-start
unfolding asked_takes tag_takes
returns c =
    let s = c in
    let a = s.args in
    told (count_stops 1 (passes a.src.now a.at (takes 1) s.pass-start.ensures) _ c.if-not-start.true)

get-number-requires : tie.Need-get_number-tag-requires
get-number-requires c κs = search rules

-- the tag is whole
tag : (c : tie.After-get_number-tag) → let s = c in let a = s.args in Counts a.src.now a.at 1 s.pass-start.result c.get_number-tag.result
tag c =
    let i = c in
    let s = i in
    let a = s.args in
    whole_number a.src.now a.at 1 s.pass-start.ensures i.if-not-start.false c.get_number-tag.ensures

pass-edit-requires : tie.Need-pass_edit-requires
pass-edit-requires c κs = search rules

returns_2 : tie.Need-returns-then-tag-eq-EDIT
unfolding asked_takes
returns_2 c =
    let i = c in
    let g = i.before.before in
    let s = g in
    told (tag_goes_on (tag g) _ 0 i.if-tag-eq-EDIT.true (passes s.args.src.now s.pass-start.result.at edit_takes c.pass_edit.ensures))

returns_3 : tie.Need-returns-then-tag-eq-SIZE
unfolding asked_takes
returns_3 c =
    let t = tag c.before.before in
    told (tag_goes_on t _ 1 c.if-tag-eq-SIZE.true (stays t.whole))

pass-part-requires : tie.Need-pass_part-requires
pass-part-requires c κs = search rules

returns-4 : tie.Need-returns-then-tag-eq-RANGE
unfolding asked_takes
returns-4 c =
    let i = c in
    let g = i.before.before.before.before in
    let s = g in
    told (tag_goes_on (tag g) _ 2 i.if-tag-eq-RANGE.true (passes s.args.src.now s.pass-start.result.at (part_takes 8 2) c.pass_part.ensures))

pass-count-requires : tie.Need-pass_count-requires
pass-count-requires c κs = search rules

returns-5 : tie.Need-returns-then-tag-eq-COUNTER
unfolding asked_takes
returns-5 c =
    let i = c in
    let g = i.before.before.before.before.before in
    let s = g in
    told (tag_goes_on (tag g) _ 3 i.if-tag-eq-COUNTER.true (passes s.args.src.now s.pass-start.result.at count_takes c.pass_count.ensures))

nothing-requires : tie.Need-nothing-requires
nothing-requires c κs = search rules

returns-6 : tie.Need-returns
unfolding asked_takes
returns-6 c = told (tag_unknown (tag c.before.before.before.before.before) _ (omega arith) c.nothing.ensures)

pub pass_asked_spec : {M : Type 1} → statement M
pass_asked_spec = tie.close (tie.spec pass-requires returns get-number-requires pass-edit-requires returns_2 returns_3 pass-part-requires returns-4 pass-count-requires returns-5 nothing-requires returns-6)
