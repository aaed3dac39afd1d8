-- `size_entry` meets its contract: 14, or the call and what was picked are laid in room of their own, and handed out. Assumes nothing.
use Rattle.std.proofs.Common.{◌≡◌, ℕ, ◌+◌, ◌-◌, ◌≤◌, true, List, length, take, sym, ◌∙◌, Result, rules, arith}
use Rattle.model_replay.specs.Recording.{asks_size, asked_form}
use Rattle.answers.specs.declared.Refusal.TheVariants.{Form}
use Rattle.pick_answer.specs.declared.Picked.{Picked}
use Rattle.snapshot_write.specs.WritingLaws.{said_refused}
use Rattle.replay_given.specs.Given.{picked_given, given_bytes, can_tell}
use Rattle.recorder.specs.Recorder.{pick_entry}
use Rattle.recorder.specs.RecorderLaws.{longest_entry, size_long, size_laid, told_long, entry_laid, pick_ill, pick_said}
use Rattle.recorder.proofs.size_entry.Goals as goal

-- room of the longest entry's length has room for the entry
fits : (o : Result Picked ℕ) → can_tell o ≡ true → (own : List ℕ) → length own ≡ longest_entry → length (asked_form.write asks_size) + length (given_bytes (picked_given o)) ≤ length own
fits o t own q = omega (arith, q, size_long, told_long o t)

pub returns-then-not-can_tell : goal.returns-then-not-can_tell
returns-then-not-can_tell c =
    let out = c.args.out.now in
    said_refused (pick_entry asks_size c.args.o (length out)) Form out (pick_ill asks_size c.args.o (length out) (sym c.can_tell.ensures ∙ c.if-not-can_tell.true))

pub put_picked-n-requires : goal.put_picked-n-requires
put_picked-n-requires c =
    let full : length c.room-laid.result ≡ longest_entry = search rules in
    let t = sym c.can_tell.ensures ∙ c.if-not-can_tell.false in
    (t, omega (arith, fits c.args.o t c.room-laid.result full, size_long, c.put_number.auto.out))

pub slice_bounds-hand-end : goal.slice_bounds-hand-end
slice_bounds-hand-end c =
    let full : length c.room-laid.result ≡ longest_entry = search rules in
    let t = sym c.can_tell.ensures ∙ c.if-not-can_tell.false in
    let q = c.put_picked-n in
    let h : q.result ≤ length q.new.out = omega (arith, fits c.args.o t c.room-laid.result full, size_long, c.put_number.auto.out, q.ensures.0, q.auto.out) in
    h

pub returns : goal.returns
returns c =
    let a = c.args in
    let own = c.room-laid.result in
    let full : length own ≡ longest_entry = search rules in
    let t = sym c.can_tell.ensures ∙ c.if-not-can_tell.false in
    let p = c.put_number in
    let q = c.put_picked-n in
    let laid = entry_laid asks_size (picked_given a.o) own p.new.out q.new.out 1 q.result (fits a.o t own full) (size_laid own p.new.out p.ensures) (sym size_long) q.ensures.1 q.ensures.0 in
    pick_said asks_size a.o t (take (q.result - 0) q.new.out) a.out.now c.hand.new.out c.hand.result laid c.hand.ensures
