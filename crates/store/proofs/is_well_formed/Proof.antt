-- `store::is_well_formed` meets its contract. Assumes nothing.
use mathlib.Core.Path.{sym, ◌∙◌}
use borrow.Author.Rules.{rules}
use Rattle.levels.specs.LevelsLaws.{survey_room}
use Rattle.store.specs.StoreLaws.{well_is}
use Rattle.store.proofs.Shape.{shape}
use Rattle.store.proofs.is_well_formed.Statement.{statement}
use Rattle.store.proofs.is_well_formed.Tie as tie

survey-requires : tie.Need-survey-v-requires
survey-requires c κs = search rules

passes-requires : tie.Need-passes-requires
passes-requires c κs =
    let v = c in
    let s = v.args.s in
    rw v.survey-v.ensures.0 (survey_room s.files s.counts)

returns : tie.Need-returns
returns c =
    let v = c in
    let start = v in
    let s = start.args.s in
    c.passes.ensures ∙ rw v.survey-v.ensures.1 (sym (well_is s (shape s _ start.well_formed.0).pointers))

pub is_well_formed_spec : {M : Type 1} → statement M
is_well_formed_spec = tie.close (tie.spec survey-requires passes-requires returns)
