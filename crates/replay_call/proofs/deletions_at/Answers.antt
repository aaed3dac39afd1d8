-- `deletions_at` meets its contract: each turn puts one deletion more. Assumes nothing.
use Rattle.std.proofs.Common.{refl, sym, arith}
use Rattle.model.specs.Snapshot.{keys_at}
use Rattle.model_replay.proofs.TakesLaws.{deletion_measured}
use Rattle.edit.specs.Edit.{blank_deletion}
use Rattle.replay_call.specs.Call.{deletion_record}
use Rattle.replay_call.specs.ReadLaws.{fill_part, fill_turn, front_begins, front_over, part_within, deletion_end, deletion_found}
use Rattle.replay_call.proofs.deletions_at.Goals as goal

pub loop-d-init : goal.loop-d-init
unfolding blank_deletion
loop-d-init c = front_begins deletion_measured deletion_record c.requires.0 c.requires.1 refl

pub get_number-level-requires : goal.get_number-level-requires
get_number-level-requires c = ((fill_part deletion_measured deletion_record c.loop-d.invariant (omega arith)).within, omega arith)

pub overflow_add-next : goal.overflow_add-next
overflow_add-next c =
    let h = part_within keys_at 0 (fill_part deletion_measured deletion_record c.loop-d.invariant (omega arith)) in
    omega arith

pub get_number-number-requires : goal.get_number-number-requires
get_number-number-requires c =
    let h = part_within keys_at 0 (fill_part deletion_measured deletion_record c.loop-d.invariant (omega arith)) in
    (omega arith, omega arith)

pub overflow_add-next-in-loop-d : goal.overflow_add-next-in-loop-d
overflow_add-next-in-loop-d c =
    let h = part_within keys_at 0 (fill_part deletion_measured deletion_record c.loop-d.invariant (omega arith)) in
    omega arith

pub loop-d-preserved : goal.loop-d-preserved
unfolding deletion_record
loop-d-preserved c =
    let l = c.loop-d in
    let b = fill_part deletion_measured deletion_record l.invariant (omega arith) in
    let level = c.get_number-level.ensures in
    let number = c.get_number-number.ensures in
    fill_turn deletion_measured deletion_record l.invariant (omega arith) (deletion_found b) (sym (deletion_end b)) (λ i. record { level = level i; number = record { 0 = number i } })

pub returns : goal.returns
unfolding blank_deletion
returns c = front_over deletion_measured deletion_record c.requires.0 c.requires.1 refl c.loop-d.invariant (omega arith)
