-- `range_entry` meets its contract: 14, or the call with its range and what was picked are laid in room of their own, and handed out. Assumes nothing.
use Rattle.std.proofs.Common.{◌≡◌, ℕ, ◌+◌, ◌-◌, ◌≤◌, true, List, length, take, sym, ◌∙◌, Result, rules, arith}
use Rattle.keys.specs.Key.{key_of}
use Rattle.keys.specs.declared.Key.{Key}
use Rattle.model_replay.specs.Recording.{asks_range, asked_form}
use Rattle.answers.specs.declared.Refusal.TheVariants.{Form}
use Rattle.pick_answer.specs.declared.Picked.{Picked}
use Rattle.snapshot_write.specs.WritingLaws.{said_refused}
use Rattle.replay_given.specs.Given.{picked_given, given_bytes, can_tell}
use Rattle.recorder.specs.Recorder.{pick_entry}
use Rattle.recorder.specs.RecorderLaws.{longest_entry, kept_fits, kept_laid, range_long, range_laid, keys_most, told_long, entry_laid, pick_ill, pick_said}
use Rattle.recorder.proofs.range_entry.Goals as goal

-- room of the longest entry's length has room for the entry
fits : (level : ℕ) (start stop : Key) (o : Result Picked ℕ) → can_tell o ≡ true → (own : List ℕ) → length own ≡ longest_entry
    → length (asked_form.write (asks_range level (key_of start) (key_of stop))) + length (given_bytes (picked_given o)) ≤ length own
fits level start stop o t own q = omega (arith, q, keys_most level start stop, told_long o t)

pub returns-then-not-can_tell : goal.returns-then-not-can_tell
returns-then-not-can_tell c =
    let a = c.args in
    let n = length a.out.now in
    let call = asks_range a.level (key_of a.start) (key_of a.stop) in
    said_refused (pick_entry call a.o n) Form a.out.now (pick_ill call a.o n (sym c.can_tell.ensures ∙ c.if-not-can_tell.true))

pub put_key-low-requires : goal.put_key-low-requires
put_key-low-requires c =
    let a = c.args in
    let full : length c.room-laid.result ≡ longest_entry = search rules in
    let f = fits a.level a.start a.stop a.o (sym c.can_tell.ensures ∙ c.if-not-can_tell.false) c.room-laid.result full in
    kept_fits a.start c.kept.result c.kept.ensures 9 (length c.put_number-2.new.out) (omega (arith, f, range_long a.level (key_of a.start) (key_of a.stop), c.put_number.auto.out, c.put_number-2.auto.out))

pub put_key-high-requires : goal.put_key-high-requires
put_key-high-requires c =
    let a = c.args in
    let full : length c.room-laid.result ≡ longest_entry = search rules in
    let f = fits a.level a.start a.stop a.o (sym c.can_tell.ensures ∙ c.if-not-can_tell.false) c.room-laid.result full in
    let k = c.put_key-low in
    let low = kept_laid a.start c.kept.result c.kept.ensures c.put_number-2.new.out k.new.out 9 k.result k.ensures in
    kept_fits a.stop c.kept-2.result c.kept-2.ensures k.result (length k.new.out)
    (omega (arith, f, range_long a.level (key_of a.start) (key_of a.stop), low.0, c.put_number.auto.out, c.put_number-2.auto.out, k.auto.out))

pub put_picked-n-requires : goal.put_picked-n-requires
put_picked-n-requires c =
    let a = c.args in
    let full : length c.room-laid.result ≡ longest_entry = search rules in
    let t = sym c.can_tell.ensures ∙ c.if-not-can_tell.false in
    let f = fits a.level a.start a.stop a.o t c.room-laid.result full in
    let k = c.put_key-low in
    let m = c.put_key-high in
    let low = kept_laid a.start c.kept.result c.kept.ensures c.put_number-2.new.out k.new.out 9 k.result k.ensures in
    let high = kept_laid a.stop c.kept-2.result c.kept-2.ensures k.new.out m.new.out k.result m.result m.ensures in
    (t, omega (arith, f, range_long a.level (key_of a.start) (key_of a.stop), low.0, high.0, c.put_number.auto.out, c.put_number-2.auto.out, k.auto.out, m.auto.out))

pub slice_bounds-hand-end : goal.slice_bounds-hand-end
slice_bounds-hand-end c =
    let a = c.args in
    let full : length c.room-laid.result ≡ longest_entry = search rules in
    let f = fits a.level a.start a.stop a.o (sym c.can_tell.ensures ∙ c.if-not-can_tell.false) c.room-laid.result full in
    let k = c.put_key-low in
    let m = c.put_key-high in
    let q = c.put_picked-n in
    let low = kept_laid a.start c.kept.result c.kept.ensures c.put_number-2.new.out k.new.out 9 k.result k.ensures in
    let high = kept_laid a.stop c.kept-2.result c.kept-2.ensures k.new.out m.new.out k.result m.result m.ensures in
    let h : q.result ≤ length q.new.out =
    omega (arith, f, range_long a.level (key_of a.start) (key_of a.stop), low.0, high.0, c.put_number.auto.out, c.put_number-2.auto.out, k.auto.out, m.auto.out, q.ensures.0, q.auto.out) in
    h

pub returns : goal.returns
returns c =
    let a = c.args in
    let call = asks_range a.level (key_of a.start) (key_of a.stop) in
    let own = c.room-laid.result in
    let full : length own ≡ longest_entry = search rules in
    let t = sym c.can_tell.ensures ∙ c.if-not-can_tell.false in
    let f = fits a.level a.start a.stop a.o t own full in
    let o₂ = c.put_number-2.new.out in
    let k = c.put_key-low in
    let m = c.put_key-high in
    let q = c.put_picked-n in
    let low = kept_laid a.start c.kept.result c.kept.ensures o₂ k.new.out 9 k.result k.ensures in
    let high = kept_laid a.stop c.kept-2.result c.kept-2.ensures k.new.out m.new.out k.result m.result m.ensures in
    let asked = range_laid a.level (key_of a.start) (key_of a.stop) own c.put_number.new.out o₂ k.new.out m.new.out k.result (omega (arith, f)) c.put_number.ensures c.put_number-2.ensures low.1 low.0 high.1 in
    let laid = entry_laid call (picked_given a.o) own m.new.out q.new.out m.result q.result f asked (omega (arith, range_long a.level (key_of a.start) (key_of a.stop), low.0, high.0)) q.ensures.1 q.ensures.0 in
    pick_said call a.o t (take (q.result - 0) q.new.out) a.out.now c.hand.new.out c.hand.result laid c.hand.ensures
