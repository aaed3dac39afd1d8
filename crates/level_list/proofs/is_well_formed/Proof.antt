-- `level_list::is_well_formed` meets its contract. Assumes nothing.
use mathlib.Core.Path.{ap, ◌∙◌}
use mathlib.Core.Logic.{⊎_elim}
use borrow.Author.Rules.{rules}
use Rattle.levels.specs.Levels.{well_levels}
use Rattle.levels.specs.LevelsLaws.{survey_room}
use Rattle.level_list.specs.ListLaws.{first_alone, deeper_alone}
use Rattle.level_list.proofs.is_well_formed.Statement.{statement}
use Rattle.level_list.proofs.is_well_formed.Tie as tie

array-write-counts : tie.Need-bounds-counts-0
array-write-counts c = search rules

array-write-counts-2 : tie.Need-bounds-counts-1
array-write-counts-2 c = search rules

survey-requires : tie.Need-survey-requires
survey-requires c κs = search rules

are-well-formed-requires : tie.Need-are_well_formed-requires
are-well-formed-requires c κs = rw c.survey.ensures.0 (survey_room _ _)

returns : tie.Need-returns
returns c =
    let j = c in
    let a = j.args in
    c.are_well_formed.ensures ∙ c.survey.ensures.1
    ∙ ⊎_elim (λ w. ap (well_levels a.l.files) w.counts-is ∙ first_alone a.level a.l w.if-level-eq0.true)
    (λ w. ap (well_levels a.l.files) w.counts-is ∙ deeper_alone a.level a.l w.if-level-eq0.false) j.if-level-eq0.branch-raw

pub is_well_formed_spec : {M : Type 1} → statement M
is_well_formed_spec = tie.close (tie.spec array-write-counts array-write-counts-2 survey-requires are-well-formed-requires returns)
