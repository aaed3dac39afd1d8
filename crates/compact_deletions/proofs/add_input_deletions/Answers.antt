-- `add_input_deletions` meets its contract: 14, then 13, then the edit with the deletions after its own. Assumes nothing.
use Rattle.std.proofs.Common.{◌≡◌, ◌+◌, map, length, sym, ap, ◌∙◌, arith, rules, Ok}
use Rattle.std.proofs.Math.ListN.{length-map}
use Rattle.model.specs.File.{full, max_files}
use Rattle.model.specs.Pick.{input_deletions}
use Rattle.answers.specs.Outcome.{result_of}
use Rattle.pick_answer.specs.Picked.{picked_of}
use Rattle.pick_answer.specs.PickedLaws.{well_room, well_some}
use Rattle.compact_deletions.specs.Deletions.{deletion_record, room_in, with_deletions, deleted_by}
use Rattle.compact_deletions.specs.DeletionsLaws.{deletions_ill, deletions_short, deletions_done, deletions_length}
use Rattle.compact_deletions.proofs.add_input_deletions.Goals as goal

pub returns-then-not-is_well_formed : goal.returns-then-not-is_well_formed
unfolding deleted_by result_of
returns-then-not-is_well_formed c =
    let a = c.args in
    ap (deleted_by a.e) (sym (deletions_ill a.c (room_in a.e) (sym c.is_well_formed.ensures ∙ c.if-not-is_well_formed.true)))

pub overflow_add-inputs : goal.overflow_add-inputs
overflow_add-inputs c = omega (arith, well_room c.args.c (sym c.is_well_formed.ensures ∙ c.if-not-is_well_formed.false))

pub returns-then-n-gt-DELETIONS : goal.returns-then-n-gt-DELETIONS
unfolding deleted_by result_of room_in full
returns-then-n-gt-DELETIONS c =
    let a = c.args in
    let well = sym c.is_well_formed.ensures ∙ c.if-not-is_well_formed.false in
    let long : length a.c.files ≡ max_files = search rules in
    ap (deleted_by a.e) (sym (deletions_short a.c (room_in a.e) well long (omega (arith, well_some a.c well long))))

pub returns-then-n-inputs : goal.returns-then-n-inputs
unfolding deleted_by result_of room_in full
returns-then-n-inputs c =
    let a = c.args in
    let well = sym c.is_well_formed.ensures ∙ c.if-not-is_well_formed.false in
    let long : length a.c.files ≡ max_files = search rules in
    ap (deleted_by a.e) (sym (deletions_short a.c (room_in a.e) well long (omega arith)))

pub returns : goal.returns
unfolding deleted_by result_of with_deletions room_in full
returns c =
    let a = c.args in
    let well = sym c.is_well_formed.ensures ∙ c.if-not-is_well_formed.false in
    let long : length a.c.files ≡ max_files = search rules in
    let ds = input_deletions (picked_of a.c) in
    let count : a.e.deletion_count + (a.c.first + a.c.second) ≡ a.e.deletion_count + length (map deletion_record ds) =
    omega (arith, length-map ds deletion_record, deletions_length a.c (room_in a.e) well long) in
    (λ i. Ok (record {
      pointings = a.e.pointings;
      pointing_count = a.e.pointing_count;
      deletions = c.lay_inputs.ensures i;
      deletion_count = count i;
      additions = a.e.additions;
      addition_count = a.e.addition_count;
      log = a.e.log;
    }))
    ∙ ap (deleted_by a.e) (sym (deletions_done a.c (room_in a.e) well long (omega arith)))
