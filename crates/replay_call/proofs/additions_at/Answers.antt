-- `additions_at` meets its contract: each turn puts one addition more. Assumes nothing.
use Rattle.std.proofs.Common.{ℕ, ◌∙◌, sym, ap, subst, arith}
use Rattle.model.specs.File.{full}
use Rattle.model_replay.specs.Held.{held_key}
use Rattle.model_replay.specs.Takes.{key_takes}
use Rattle.model_replay.proofs.TakesLaws.{addition_measured}
use Rattle.keys.specs.Key.{key_record}
use Rattle.keys.specs.declared.Key.{Key}
use Rattle.edit.specs.Edit.{blank_addition}
use Rattle.replay_call.specs.Call.{Begins, addition_record}
use Rattle.replay_call.specs.ReadLaws.{end_of, key_at, found_to, fill_part, fill_turn, front_begins, front_over, low_begins, high_begins, addition_within, addition_keys, addition_end, addition_found}
use Rattle.replay_call.proofs.additions_at.Goals as goal

pub loop-a-init : goal.loop-a-init
unfolding blank_addition
loop-a-init c = front_begins addition_measured addition_record c.requires.0 c.requires.1 (ap (λ (k : Key). record { level = 0; number = record { 0 = 0 }; size = 0; smallest = k; largest = k }) c.blank_key-blank.ensures)

pub get_number-level-requires : goal.get_number-level-requires
get_number-level-requires c = ((fill_part addition_measured addition_record c.loop-a.invariant (omega arith)).within, omega arith)

pub overflow_add-file : goal.overflow_add-file
overflow_add-file c =
    let h = addition_within (fill_part addition_measured addition_record c.loop-a.invariant (omega arith)) in
    omega arith

pub get_number-number-requires : goal.get_number-number-requires
get_number-number-requires c =
    let h = addition_within (fill_part addition_measured addition_record c.loop-a.invariant (omega arith)) in
    (omega arith, omega arith)

pub overflow_add-file-in-loop-a : goal.overflow_add-file-in-loop-a
overflow_add-file-in-loop-a c =
    let h = addition_within (fill_part addition_measured addition_record c.loop-a.invariant (omega arith)) in
    omega arith

pub get_number-size-requires : goal.get_number-size-requires
get_number-size-requires c =
    let h = addition_within (fill_part addition_measured addition_record c.loop-a.invariant (omega arith)) in
    (omega arith, omega arith)

pub overflow_add-file-in-loop-a-2 : goal.overflow_add-file-in-loop-a-2
overflow_add-file-in-loop-a-2 c =
    let h = addition_within (fill_part addition_measured addition_record c.loop-a.invariant (omega arith)) in
    omega arith

pub key_at-low-requires : goal.key_at-low-requires
key_at-low-requires c = low_begins (addition_keys (fill_part addition_measured addition_record c.loop-a.invariant (omega arith)))

pub key_at-high-requires : goal.key_at-high-requires
key_at-high-requires c =
    subst (Begins key_takes c.args.src.now) (sym c.key_at-low.ensures.1) (high_begins (addition_keys (fill_part addition_measured addition_record c.loop-a.invariant (omega arith))))

pub loop-a-preserved : goal.loop-a-preserved
unfolding addition_record
loop-a-preserved c =
    let l = c.loop-a in
    let b = fill_part addition_measured addition_record l.invariant (omega arith) in
    let src = c.args.src.now in
    let low = c.key_at-low.ensures in
    let high = c.key_at-high.ensures in
    let level = c.get_number-level.ensures in
    let number = c.get_number-number.ensures in
    let size = c.get_number-size.ensures in
    let smallest = low.0 in
    let largest = high.0 ∙ ap (λ (n : ℕ). key_record (held_key full (key_at src n))) low.1 in
    let next = high.1 ∙ ap (end_of key_takes src) low.1 in
    fill_turn addition_measured addition_record l.invariant (omega arith) (found_to (sym next) (addition_found b)) (next ∙ sym (addition_end b))
    (λ i. record { level = level i; number = record { 0 = number i }; size = size i; smallest = smallest i; largest = largest i })

pub returns : goal.returns
unfolding blank_addition
returns c =
    front_over addition_measured addition_record c.requires.0 c.requires.1 (ap (λ (k : Key). record { level = 0; number = record { 0 = 0 }; size = 0; smallest = k; largest = k }) c.blank_key-blank.ensures) c.loop-a.invariant (omega arith)
