-- `edit_entry` meets its contract: the call and its result are laid in room of their own, and handed out. Assumes nothing.
use Rattle.std.proofs.Common.{◌≡◌, ℕ, ◌+◌, ◌-◌, ◌≤◌, List, length, take, Result, rules, arith}
use Rattle.model_replay.specs.Recording.{asks_edit}
use Rattle.edit.specs.EditLaws.{HasRoom}
use Rattle.edit.specs.declared.Edit.{Edit}
use Rattle.edit.proofs.Shape.{has_room}
use Rattle.replay_given.specs.Given.{plain_given, given_bytes}
use Rattle.recorder.specs.Recorder.{edit_entry, edit_bytes, kept_edit}
use Rattle.recorder.specs.RecorderLaws.{longest_entry, edit_most, entry_laid, entry_said}
use Rattle.recorder.proofs.edit_entry.Goals as goal

-- room of the longest entry's length has room for the entry
fits : (e : Edit) → HasRoom e → (o : Result Unit ℕ) (own : List ℕ) → length own ≡ longest_entry → length (edit_bytes e) + length (given_bytes (plain_given o)) ≤ length own
fits e r o own q = omega (arith, q, edit_most e r o)

-- after the call there is room for any answer
after : (e : Edit) → HasRoom e → (o : Result Unit ℕ) (at n : ℕ) → at ≡ length (edit_bytes e) → n ≡ longest_entry → at + length (given_bytes (plain_given o)) ≤ n
after e r o at n h q = omega (arith, h, q, edit_most e r o)

-- and the place after that answer is within it
within : (e : Edit) → HasRoom e → (o : Result Unit ℕ) (at n i : ℕ) → i ≡ at + length (given_bytes (plain_given o)) → at ≡ length (edit_bytes e) → n ≡ longest_entry → i ≤ n
within e r o at n i k h q = omega (arith, k, after e r o at n h q)

pub put_edit-end-requires : goal.put_edit-end-requires
put_edit-end-requires c =
    let full : length c.room-laid.result ≡ longest_entry = search rules in
    let f = fits c.args.e (has_room c.args.e _ c.well_formed.0) c.args.o c.room-laid.result full in
    omega (arith, f)

pub put_plain-n-requires : goal.put_plain-n-requires
put_plain-n-requires c =
    let full : length c.room-laid.result ≡ longest_entry = search rules in
    let p = c.put_edit-end in
    after c.args.e (has_room c.args.e _ c.well_formed.0) _ p.result (length p.new.out) (omega (arith, p.ensures.0)) (omega (arith, full, p.auto.out))

pub slice_bounds-hand-end : goal.slice_bounds-hand-end
slice_bounds-hand-end c =
    let full : length c.room-laid.result ≡ longest_entry = search rules in
    let p = c.put_edit-end in
    let q = c.put_plain-n in
    within c.args.e (has_room c.args.e _ c.well_formed.0) _ p.result (length q.new.out) q.result q.ensures.0 (omega (arith, p.ensures.0)) (omega (arith, full, p.auto.out, q.auto.out))

pub returns : goal.returns
unfolding edit_entry
returns c =
    let a = c.args in
    let call = asks_edit (kept_edit a.e) in
    let own = c.room-laid.result in
    let full : length own ≡ longest_entry = search rules in
    let f = fits a.e (has_room a.e _ c.well_formed.0) a.o own full in
    let p = c.put_edit-end in
    let q = c.put_plain-n in
    let laid = entry_laid call (plain_given a.o) own p.new.out q.new.out p.result q.result f p.ensures.1 (omega (arith, p.ensures.0)) q.ensures.1 q.ensures.0 in
    entry_said call (plain_given a.o) (take (q.result - 0) q.new.out) a.out.now c.hand.new.out c.hand.result laid c.hand.ensures
