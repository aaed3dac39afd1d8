-- `pass_section` meets its contract. Assumes nothing.
use borrow.Author.Rules.{rules}
use Rattle.model_replay.specs.Takes.{takes, repeated, part_takes, section_takes}
use Rattle.replay_scan.specs.ScanLaws.{passes, told, Counts, count_stops, count_goes_on, whole_number}
use Rattle.replay_scan.proofs.pass_section.Statement.{statement}
use Rattle.replay_scan.proofs.pass_section.Tie as tie

pass-requires : tie.Need-pass-start-requires
pass-requires c κs = search rules

returns : tie.Need-returns-then-not-start
unfolding section_takes
returns c =
    let s = c in
    let a = s.args in
    told (count_stops 2 (passes a.src.now a.at (takes 2) s.pass-start.ensures) _ c.if-not-start.true)

get-number-requires : tie.Need-get_number-n-requires
get-number-requires c κs = search rules

-- the count is whole
count : (c : tie.After-get_number-n) → let s = c in let a = s.args in Counts a.src.now a.at 2 s.pass-start.result c.get_number-n.result
count c =
    let i = c in
    let s = i in
    let a = s.args in
    whole_number a.src.now a.at 2 s.pass-start.ensures i.if-not-start.false c.get_number-n.ensures

pass-parts-requires : tie.Need-pass_parts-requires
pass-parts-requires c κs = search rules

returns_2 : tie.Need-returns
unfolding section_takes
returns_2 c =
    let g = c.before in
    let s = g in
    let a = s.args in
    let f = part_takes a.width a.keys in
    told (count_goes_on (count g) (λ n. repeated n f) (passes a.src.now s.pass-start.result.at (repeated g.get_number-n.result f) c.pass_parts.ensures))

pub pass_section_spec : {M : Type 1} → statement M
pass_section_spec = tie.close (tie.spec pass-requires returns get-number-requires pass-parts-requires returns_2)
