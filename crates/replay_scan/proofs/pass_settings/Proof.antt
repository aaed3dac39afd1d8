-- `pass_settings` meets its contract. Assumes nothing.
use borrow.Author.Rules.{rules}
use borrow.Author.Tests.{eq-eqb, ne_eqb}
use lib.Dec.{eqb}
use Rattle.model_replay.specs.Takes.{takes, repeated, part_takes, settings_take}
use Rattle.replay_scan.specs.ScanLaws.{passes, told, Counts, count_stops, count_allowed, count_refused, whole_number}
use Rattle.replay_scan.proofs.pass_settings.Statement.{statement}
use Rattle.replay_scan.proofs.pass_settings.Tie as tie

pass-requires : tie.Need-pass-start-requires
pass-requires c κs = search rules

returns : tie.Need-returns-then-not-start
unfolding settings_take
returns c =
    let s = c in
    let a = s.args in
    told (count_stops 2 (passes a.src.now 0 (takes 2) s.pass-start.ensures) _ c.if-not-start.true)

get-number-requires : tie.Need-get_number-n-requires
get-number-requires c κs = search rules

-- the count is whole
count : (c : tie.After-get_number-n) → let s = c in let a = s.args in Counts a.src.now 0 2 s.pass-start.result c.get_number-n.result
count c =
    let i = c in
    let s = i in
    let a = s.args in
    whole_number a.src.now 0 2 s.pass-start.ensures i.if-not-start.false c.get_number-n.ensures

nothing-requires : tie.Need-nothing-requires
nothing-requires c κs = search rules

returns_2 : tie.Need-returns-then-n-ne-SETTINGS
unfolding settings_take
returns_2 c =
    let i = c in
    let g = i.before.before in
    told (count_refused (count g) (λ n. eqb n 2) (λ n. repeated n (part_takes 8 0)) (ne_eqb g.get_number-n.result 2 i.if-n-ne-SETTINGS.true) c.nothing.ensures)

pass-parts-requires : tie.Need-pass_parts-requires
pass-parts-requires c κs = search rules

returns_3 : tie.Need-returns
unfolding settings_take
returns_3 c =
    let i = c in
    let g = i.before.before in
    let s = g in
    let n = g.get_number-n.result in
    told (count_allowed (count g) (λ n. eqb n 2) (λ n. repeated n (part_takes 8 0)) (eq-eqb n 2 i.if-n-ne-SETTINGS.false) (passes s.args.src.now s.pass-start.result.at (repeated n (part_takes 8 0)) c.pass_parts.ensures))

pub pass_settings_spec : {M : Type 1} → statement M
pass_settings_spec = tie.close (tie.spec pass-requires returns get-number-requires nothing-requires returns_2 pass-parts-requires returns_3)
