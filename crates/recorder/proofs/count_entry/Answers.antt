-- `count_entry` meets its contract: the call with its number and its result are laid in room of their own, and handed out. Assumes nothing.
use Rattle.std.proofs.Common.{◌≡◌, ℕ, ◌+◌, ◌-◌, ◌≤◌, List, length, take, sym, ap, ◌∙◌, Result, rules, arith}
use Rattle.lemmas.specs.Little.{bytes}
use Rattle.lemmas.specs.Slices.{put}
use Rattle.model.specs.Snapshot.{byte_long}
use Rattle.model_replay.specs.Recording.{asks_count, asked_form}
use Rattle.replay_given.specs.Given.{plain_given, given_bytes}
use Rattle.replay_given.specs.GivenLaws.{plain_long}
use Rattle.recorder.specs.declared.Counter.{Counter}
use Rattle.recorder.specs.Recorder.{counter_call, tag_of}
use Rattle.recorder.specs.RecorderLaws.{longest_entry, count_long_lem, count_laid, entry_laid, entry_said}
use Rattle.recorder.proofs.count_entry.Goals as goal

-- room of the longest entry's length has room for the entry
fits : (k : Counter) (n : ℕ) (o : Result Unit ℕ) (own : List ℕ) → length own ≡ longest_entry
    → length (asked_form.write (asks_count (counter_call k n))) + length (given_bytes (plain_given o)) ≤ length own
fits k n o own q = omega (arith, q, count_long_lem k n, plain_long o)

pub put_plain-n-requires : goal.put_plain-n-requires
put_plain-n-requires c =
    let a = c.args in
    let full : length c.room-laid.result ≡ longest_entry = search rules in
    omega (arith, fits a.c a.number a.o c.room-laid.result full, count_long_lem a.c a.number, c.put_number.auto.out, c.put_number-2.auto.out, c.put_number-3.auto.out)

pub slice_bounds-hand-end : goal.slice_bounds-hand-end
slice_bounds-hand-end c =
    let a = c.args in
    let full : length c.room-laid.result ≡ longest_entry = search rules in
    let q = c.put_plain-n in
    let h : q.result ≤ length q.new.out =
    omega (arith, fits a.c a.number a.o c.room-laid.result full, count_long_lem a.c a.number, c.put_number.auto.out, c.put_number-2.auto.out, c.put_number-3.auto.out, q.ensures.0, q.auto.out) in
    h

pub returns : goal.returns
returns c =
    let a = c.args in
    let call = asks_count (counter_call a.c a.number) in
    let own = c.room-laid.result in
    let full : length own ≡ longest_entry = search rules in
    let f = fits a.c a.number a.o own full in
    let long = count_long_lem a.c a.number in
    let o₁ = c.put_number.new.out in
    let p = c.put_number-3 in
    let q = c.put_plain-n in
    let tagged : c.put_number-2.new.out ≡ put o₁ 1 (bytes byte_long (tag_of a.c)) = c.put_number-2.ensures ∙ ap (λ (n : ℕ). put o₁ 1 (bytes byte_long n)) c.tag_of.ensures in
    let asked = count_laid a.c a.number own o₁ c.put_number-2.new.out p.new.out (omega (arith, f, long)) c.put_number.ensures tagged p.ensures in
    let laid = entry_laid call (plain_given a.o) own p.new.out q.new.out 10 q.result f asked (sym long) q.ensures.1 q.ensures.0 in
    entry_said call (plain_given a.o) (take (q.result - 0) q.new.out) a.out.now c.hand.new.out c.hand.result laid c.hand.ensures
