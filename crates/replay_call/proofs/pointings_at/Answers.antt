-- `pointings_at` meets its contract: each turn puts one pointer more. Assumes nothing.
use Rattle.std.proofs.Common.{◌∙◌, sym, ap, arith}
use Rattle.model.specs.Snapshot.{number_long}
use Rattle.model_replay.proofs.TakesLaws.{pointer_measured}
use Rattle.keys.specs.declared.Key.{Key}
use Rattle.edit.specs.Edit.{blank_pointing}
use Rattle.replay_call.specs.Call.{pointing_record}
use Rattle.replay_call.specs.ReadLaws.{found_to, fill_part, fill_turn, front_begins, front_over, part_within, pointer_key, pointer_end, pointer_found}
use Rattle.replay_call.proofs.pointings_at.Goals as goal

pub loop-p-init : goal.loop-p-init
unfolding blank_pointing
loop-p-init c = front_begins pointer_measured pointing_record c.requires.0 c.requires.1 (ap (λ (k : Key). record { level = 0; key = k }) c.blank_key-blank.ensures)

pub get_number-level-requires : goal.get_number-level-requires
get_number-level-requires c = ((fill_part pointer_measured pointing_record c.loop-p.invariant (omega arith)).within, omega arith)

pub overflow_add-next : goal.overflow_add-next
overflow_add-next c =
    let h = part_within number_long 1 (fill_part pointer_measured pointing_record c.loop-p.invariant (omega arith)) in
    omega arith

pub key_at-k-requires : goal.key_at-k-requires
key_at-k-requires c = pointer_key (fill_part pointer_measured pointing_record c.loop-p.invariant (omega arith))

pub loop-p-preserved : goal.loop-p-preserved
unfolding pointing_record
loop-p-preserved c =
    let l = c.loop-p in
    let b = fill_part pointer_measured pointing_record l.invariant (omega arith) in
    let k = c.key_at-k.ensures in
    let level = c.get_number-level.ensures in
    let key = k.0 in
    fill_turn pointer_measured pointing_record l.invariant (omega arith) (found_to (sym k.1) (pointer_found b)) (k.1 ∙ sym (pointer_end b)) (λ i. record { level = level i; key = key i })

pub returns : goal.returns
unfolding blank_pointing
returns c = front_over pointer_measured pointing_record c.requires.0 c.requires.1 (ap (λ (k : Key). record { level = 0; key = k }) c.blank_key-blank.ensures) c.loop-p.invariant (omega arith)
