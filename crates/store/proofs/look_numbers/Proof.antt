-- `store::look_numbers` meets its contract. Assumes nothing.
use mathlib.Core.Path.{◌≡◌, sym, ap, ◌∙◌}
use borrow.Author.Rules.{rules}
use Rattle.levels.specs.LevelsLaws.{survey_room}
use Rattle.levels.specs.declared.Surveyed.{Surveyed}
use Rattle.store.specs.Store.{well_store, numbered_of}
use Rattle.store.specs.StoreLaws.{well_is}
use Rattle.store.proofs.Shape.{shape}
use Rattle.store.proofs.look_numbers.Statement.{statement}
use Rattle.store.proofs.look_numbers.Tie as tie

survey-requires : tie.Need-survey-v-requires
survey-requires c κs = search rules

passes-requires : tie.Need-passes-requires
passes-requires c κs =
    let v = c in
    let s = v.args.s in
    rw v.survey-v.ensures.0 (survey_room s.files s.counts)

returns : tie.Need-returns
unfolding numbered_of
returns c =
    let v = c in
    let start = v in
    let s = start.args.s in
    let numbers = ap (λ (t : Surveyed). t.numbers) v.survey-v.ensures.0 in
    let total = ap (λ (t : Surveyed). t.total) v.survey-v.ensures.0 in
    let well : c.passes.result ≡ well_store s = c.passes.ensures ∙ rw v.survey-v.ensures.1 (sym (well_is s (shape s _ start.well_formed.0).pointers)) in
    λ i. record { numbers = numbers i; total = total i; well = well i }

pub look_numbers_spec : {M : Type 1} → statement M
look_numbers_spec = tie.close (tie.spec survey-requires passes-requires returns)
