-- `new_entry` meets its contract: the call and the number handed out are laid in room of their own, and handed out. Assumes nothing.
use Rattle.std.proofs.Common.{◌≡◌, ℕ, ◌+◌, ◌-◌, ◌≤◌, List, length, take, sym, Result, rules, arith}
use Rattle.model.specs.Counters.{new}
use Rattle.model_replay.specs.Recording.{asks_count, asked_form}
use Rattle.keys.specs.declared.FileNumber.{FileNumber}
use Rattle.replay_given.specs.Given.{handed_given, given_bytes}
use Rattle.recorder.specs.RecorderLaws.{longest_entry, new_long, new_laid, handed_long, entry_laid, entry_said}
use Rattle.recorder.proofs.new_entry.Goals as goal

-- room of the longest entry's length has room for the entry
fits : (o : Result FileNumber ℕ) (own : List ℕ) → length own ≡ longest_entry → length (asked_form.write (asks_count new)) + length (given_bytes (handed_given o)) ≤ length own
fits o own q = omega (arith, q, new_long, handed_long o)

pub put_handed-n-requires : goal.put_handed-n-requires
put_handed-n-requires c =
    let full : length c.room-laid.result ≡ longest_entry = search rules in
    omega (arith, fits c.args.o c.room-laid.result full, new_long, c.put_number.auto.out, c.put_number-2.auto.out)

pub slice_bounds-hand-end : goal.slice_bounds-hand-end
slice_bounds-hand-end c =
    let full : length c.room-laid.result ≡ longest_entry = search rules in
    let q = c.put_handed-n in
    let h : q.result ≤ length q.new.out = omega (arith, fits c.args.o c.room-laid.result full, new_long, c.put_number.auto.out, c.put_number-2.auto.out, q.ensures.0, q.auto.out) in
    h

pub returns : goal.returns
returns c =
    let a = c.args in
    let g = handed_given a.o in
    let own = c.room-laid.result in
    let full : length own ≡ longest_entry = search rules in
    let f = fits a.o own full in
    let p = c.put_number-2 in
    let q = c.put_handed-n in
    let call = new_laid own c.put_number.new.out p.new.out (omega (arith, f, new_long)) c.put_number.ensures p.ensures in
    let laid = entry_laid (asks_count new) g own p.new.out q.new.out 2 q.result f call (sym new_long) q.ensures.1 q.ensures.0 in
    entry_said (asks_count new) g (take (q.result - 0) q.new.out) a.out.now c.hand.new.out c.hand.result laid c.hand.ensures
