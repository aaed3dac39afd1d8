-- `pick_answer::is_well_formed` meets its contract. Assumes nothing.
use Prim.Native.Nat.{ℕ, ◌+◌, ◌≤◌}
use mathlib.Core.Path.{◌≡◌, sym, ap, ◌∙◌}
use mathlib.Core.Bool.{true, ◌&&◌}
use native.Mathlib.Omega.{arith}
use borrow.Author.Rules.{rules}
use borrow.Author.Tests.{not-true, not-false}
use lib.ListN.{replicate}
use Rattle.lemmas.specs.Slices.{put}
use Rattle.model.specs.File.{numbers, max_files}
use Rattle.records.specs.Run.{run}
use Rattle.levels.specs.Levels.{arranged, survey_of}
use Rattle.levels.specs.LevelsLaws.{survey_arranged, survey_all, arranged_room}
use Rattle.levels.specs.declared.Surveyed.{Surveyed}
use Rattle.pick_answer.specs.Picked.{well_picked, framed, as_levels, lists_in, counts_in, distinct_lists}
use Rattle.pick_answer.specs.PickedLaws.{levels_sum, distinct_runs_lem, well_unarranged, well_arranged}
use Rattle.pick_answer.proofs.Shape.{shape, words}
use Rattle.pick_answer.proofs.is_well_formed.Statement.{statement}
use Rattle.pick_answer.proofs.is_well_formed.Tie as tie

as-levels-requires : tie.Need-as_levels-counts-requires
as-levels-requires c κs = search rules

survey-requires : tie.Need-survey-v-requires
survey-requires c κs = search rules

-- what was seen of the files
seen : (c : tie.After-survey-v) → let p = c.args.c in c.survey-v.result ≡ survey_of p.files (as_levels p.level p.first p.second p.grand)
seen c =
    let p = c.args.c in
    c.survey-v.ensures.0 ∙ ap (survey_of p.files) c.as_levels-counts.ensures

-- whether they are arranged
told : (c : tie.After-survey-v) → let p = c.args.c in c.survey-v.result.arranged ≡ arranged p.files (as_levels p.level p.first p.second p.grand)
told c =
    let p = c.args.c in
    ap (λ (v : Surveyed). v.arranged) (seen c) ∙ survey_arranged p.files (as_levels p.level p.first p.second p.grand)

returns : tie.Need-returns-then-not-v
returns c =
    let m = c.before.before in
    let b = m in
    let p = b.args.c in
    let t = sym (told m) ∙ not-true m.survey-v.result.arranged c.if-not-v.true in
    sym (well_unarranged p (shape p _ b.well_formed.0).files (words p _ b.well_formed.0) t)

-- the files are arranged
fine : (c : tie.Else-not-v) → let p = c.args.c in arranged p.files (as_levels p.level p.first p.second p.grand) ≡ true
fine c = let m = c.before.before in sym (told m) ∙ not-false m.survey-v.result.arranged c.if-not-v.false

-- what is asked beside them and of their numbers is left
parts : (c : tie.Else-not-v) → let p = c.args.c in well_picked p ≡ framed p.level p.maximum p.first p.grand && distinct_lists (lists_in p)
parts c =
    let b = c.before.before.before.before.before in
    let p = b.args.c in
    well_arranged p (shape p _ b.well_formed.0).files (words p _ b.well_formed.0) (fine c)

-- they have room
roomy : (c : tie.Else-not-v) → let p = c.args.c in p.first + p.second + p.grand ≤ max_files
roomy c =
    let p = c.args.c in
    let r = arranged_room p.files (as_levels p.level p.first p.second p.grand) (fine c) in
    omega (arith, r, levels_sum p.level p.first p.second p.grand)

-- their numbers stand in the column
column : (c : tie.Else-not-v) → let p = c.args.c in
    c.survey-v.result.numbers ≡ put (replicate max_files 0) 0 (numbers (run 0 (p.first + p.second + p.grand) p.files))
column c =
    let m = c.before.before in
    let p = m.args.c in
    ap (λ (v : Surveyed). v.numbers) (seen m ∙ survey_all p.files (as_levels p.level p.first p.second p.grand) (fine c))
    ∙ ap (λ (n : ℕ). put (replicate max_files 0) 0 (numbers (run 0 n p.files))) (levels_sum p.level p.first p.second p.grand)

is-framed-requires : tie.Need-is_framed-requires
is-framed-requires c κs = search rules

returns_2 : tie.Need-returns-then-not-is_framed
returns_2 c =
    let t = sym c.is_framed.ensures ∙ c.if-not-is_framed.true in
    sym (parts c.before.before ∙ rw t)

are-distinct-requires : tie.Need-are_distinct-requires
are-distinct-requires c κs = roomy c.before.before.before

returns_3 : tie.Need-returns
unfolding lists_in counts_in
returns_3 c =
    let f = c in
    let e = f.before.before.before.before in
    let b = e in
    let p = b.args.c in
    let q = (shape p _ b.well_formed.0).files in
    let t = sym f.is_framed.ensures ∙ f.if-not-is_framed.false in
    let u = c.are_distinct.ensures ∙ distinct_runs_lem p.files p.first p.second p.grand (replicate max_files 0) e.survey-v.result.numbers (omega (arith, roomy e, q)) (column e) in
    u ∙ sym (parts e ∙ rw t)

pub is_well_formed_spec : {M : Type 1} → statement M
is_well_formed_spec = tie.close (tie.spec as-levels-requires survey-requires returns is-framed-requires returns_2 are-distinct-requires returns_3)
