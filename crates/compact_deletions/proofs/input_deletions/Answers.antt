-- `input_deletions` meets its contract: 14, then 13, then the levels and the numbers. Assumes nothing.
use Rattle.std.proofs.Common.{◌≡◌, ◌+◌, min, ◌++◌, length, replicate, sym, ap, ◌∙◌, arith, rules}
use Rattle.std.proofs.Math.ListN.{length-replicate}
use Rattle.lemmas.specs.Laying.{put_next}
use Rattle.lemmas.specs.Slices.{put}
use Rattle.model.specs.File.{max_files}
use Rattle.answers.specs.declared.Refusal.TheVariants.{Form, Output}
use Rattle.pick_answer.specs.PickedLaws.{well_room, well_level}
use Rattle.compact_deletions.specs.Deletions.{naming}
use Rattle.compact_deletions.specs.DeletionsLaws.{column_lent, deletions_ill, deletions_short, names_refused, names_done}
use Rattle.compact_deletions.proofs.input_deletions.Goals as goal

pub returns-then-not-is_well_formed : goal.returns-then-not-is_well_formed
unfolding naming
returns-then-not-is_well_formed c =
    let a = c.args in
    let room = min (length a.levels.now) (length a.numbers.now) in
    names_refused a.c a.levels.now a.numbers.now Form (deletions_ill a.c room (sym c.is_well_formed.ensures ∙ c.if-not-is_well_formed.true))

pub overflow_add-inputs : goal.overflow_add-inputs
overflow_add-inputs c = omega (arith, well_room c.args.c (sym c.is_well_formed.ensures ∙ c.if-not-is_well_formed.false))

pub returns-then-levels-inputs : goal.returns-then-levels-inputs
unfolding naming
returns-then-levels-inputs c =
    let a = c.args in
    let room = min (length a.levels.now) (length a.numbers.now) in
    let long : length a.c.files ≡ max_files = search rules in
    names_refused a.c a.levels.now a.numbers.now Output (deletions_short a.c room (sym c.is_well_formed.ensures ∙ c.if-not-is_well_formed.false) long (omega arith))

pub returns-then-numbers-inputs : goal.returns-then-numbers-inputs
unfolding naming
returns-then-numbers-inputs c =
    let a = c.args in
    let room = min (length a.levels.now) (length a.numbers.now) in
    let long : length a.c.files ≡ max_files = search rules in
    names_refused a.c a.levels.now a.numbers.now Output (deletions_short a.c room (sym c.is_well_formed.ensures ∙ c.if-not-is_well_formed.false) long (omega arith))

pub overflow_add-c : goal.overflow_add-c
overflow_add-c c = omega (arith, well_level c.args.c (sym c.is_well_formed.ensures ∙ c.if-not-is_well_formed.false))

pub slice_bounds-lay_numbers-end : goal.slice_bounds-lay_numbers-end
slice_bounds-lay_numbers-end c = omega (arith, well_room c.args.c (sym c.is_well_formed.ensures ∙ c.if-not-is_well_formed.false))

pub returns : goal.returns
returns c =
    let a = c.args in
    let p = a.c in
    let well = sym c.is_well_formed.ensures ∙ c.if-not-is_well_formed.false in
    let long : length p.files ≡ max_files = search rules in
    let inputs = p.first + p.second in
    let firsts = replicate p.first p.level in
    let seconds = replicate p.second (p.level + 1) in
    let r = well_room p well in
    let size = length-replicate p.first p.level in
    let levels : c.fill_levels-2.new.out ≡ put a.levels.now 0 (firsts ++ seconds) =
    put_next a.levels.now c.fill_levels.new.out c.fill_levels-2.new.out 0 p.first firsts seconds (omega arith) c.fill_levels.ensures (omega arith) c.fill_levels-2.ensures in
    names_done p a.levels.now a.numbers.now long well (omega arith) c.fill_levels-2.new.out c.lay_numbers.new.out levels
    (c.lay_numbers.ensures
    ∙ ap (put a.numbers.now 0) (column_lent inputs 0 inputs p.files (replicate max_files 0) c.numbers_of-column.result (omega arith) (omega arith) (omega arith) c.numbers_of-column.ensures))
