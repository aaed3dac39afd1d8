-- `replaying` meets its contract: both are read, the calls are made, and what they come to is handed over. Assumes nothing.
use Rattle.std.proofs.Common.{◌≡◌, ℕ, ◌-◌, true, length, length-take, refl, sym, ap, ◌∙◌, Result, Ok, Err, rules, arith}
use Rattle.std.proofs.Math.Pow.{are_bytes}
use Rattle.lemmas.specs.AreBytes.{bytes_all}
use Rattle.answers.specs.declared.Refusal.{Refusal}
use Rattle.answers.specs.Outcome.{answer_of}
use Rattle.answers.specs.OutcomeLaws.{handed_on}
use Rattle.replay_given.specs.Given.{longest_given}
use Rattle.replay.specs.declared.Played.TheVariants.{Differs}
use Rattle.replay.specs.declared.Difference.{Difference}
use Rattle.replay.specs.ReplayingLaws.{head_within, start_read, says_unread, says_unrecorded, given_within, place_number, says_differs, says_ends}
use Rattle.replay.proofs.replaying.Goals as goal

pub returns-in_err-s : goal.returns-in_err-s
returns-in_err-s c =
    let a = c.args in
    let e = c.in_err-s.field-0.0 in
    says_unread a.start.now a.recording.now a.out.now e c.from_residual.result (sym c.in_err-s.was ∙ c.read.ensures) (handed_on _ _ c.from_residual.ensures.1)

pub returns-then-not-is_recording : goal.returns-then-not-is_recording
returns-then-not-is_recording c =
    let a = c.args in
    let s = c.in_ok-s.s in
    let read = start_read a.start.now s (sym c.in_ok-s.was ∙ c.read.ensures) in
    says_unrecorded a.start.now a.recording.now a.out.now s _ read (sym c.is_recording.ensures ∙ c.if-not-is_recording.true) refl

pub play-requires : goal.play-requires
play-requires c =
    let read = start_read c.args.start.now c.in_ok-s.s (sym c.in_ok-s.was ∙ c.read.ensures) in
    let full_room : length c.room-own.result ≡ longest_given = search rules in
    (read.well, sym c.is_recording.ensures ∙ c.if-not-is_recording.false, omega (arith, full_room))

pub get_number-place-requires : goal.get_number-place-requires
get_number-place-requires c =
    let bs = c.args.recording.now in
    let bytes : are_bytes bs ≡ true = bytes_all bs (λ i. omega (arith, c.type_inv.recording i)) in
    (omega (arith, head_within bs bytes (sym c.is_recording.ensures ∙ c.if-not-is_recording.false)), omega arith)

pub slice_bounds-differing-end : goal.slice_bounds-differing-end
slice_bounds-differing-end c =
    let a = c.args in
    let s = c.in_ok-s.s in
    let read = start_read a.start.now s (sym c.in_ok-s.was ∙ c.read.ensures) in
    given_within a.start.now a.recording.now s read (sym c.is_recording.ensures ∙ c.if-not-is_recording.false) c.in-Differs.stop c.play.new.room c.in-Differs.ensures

pub differing-difference-requires : goal.differing-difference-requires
differing-difference-requires c =
    let a = c.args in
    let s = c.in_ok-s.s in
    let here = c.in-Differs.stop in
    let n = c.get_number-place in
    let bytes : are_bytes a.recording.now ≡ true = bytes_all a.recording.now (λ i. omega (arith, c.type_inv.recording i)) in
    let read = start_read a.start.now s (sym c.in_ok-s.was ∙ c.read.ensures) in
    let full_room : length c.room-own.result ≡ longest_given = search rules in (
      omega (arith, full_room, c.play.auto.room, length-take (here.length - 0) c.play.new.room),
      place_number a.start.now a.recording.now s read (sym c.is_recording.ensures ∙ c.if-not-is_recording.false) here c.play.new.room c.in-Differs.ensures n.result bytes n.ensures,
    )

pub returns-in-Differs : goal.returns-in-Differs
returns-in-Differs c =
    let a = c.args in
    let s = c.in_ok-s.s in
    let n = c.get_number-place in
    let bytes : are_bytes a.recording.now ≡ true = bytes_all a.recording.now (λ i. omega (arith, c.type_inv.recording i)) in
    let read = start_read a.start.now s (sym c.in_ok-s.was ∙ c.read.ensures) in
    says_differs a.start.now a.recording.now s read (sym c.is_recording.ensures ∙ c.if-not-is_recording.false) c.in-Differs.stop c.play.new.room c.in-Differs.ensures n.result bytes n.ensures a.out.now _
    (ap (λ (d : Difference). Ok (Differs d)) c.differing-difference.ensures)

pub returns-in_err-n-in-Ended : goal.returns-in_err-n-in-Ended
returns-in_err-n-in-Ended c =
    let a = c.args in
    let s = c.in_ok-s.s in
    let e = c.in_err-n-in-Ended.field-0.0 in
    let read = start_read a.start.now s (sym c.in_ok-s.was ∙ c.read.ensures) in
    says_ends a.start.now a.recording.now s read (sym c.is_recording.ensures ∙ c.if-not-is_recording.false) c.in-Ended.t c.play.new.room c.in-Ended.ensures a.out.now c.write.new.out (Err e) _
    (ap (λ (w : Result ℕ Refusal). answer_of w) (sym c.in_err-n-in-Ended.was) ∙ c.write.ensures.0) c.write.ensures.1 (handed_on _ _ c.from_residual-in_err-n-in-Ended.ensures.1)

pub returns-in_ok-n-in-Ended : goal.returns-in_ok-n-in-Ended
returns-in_ok-n-in-Ended c =
    let a = c.args in
    let s = c.in_ok-s.s in
    let n = c.in_ok-n-in-Ended.n in
    let read = start_read a.start.now s (sym c.in_ok-s.was ∙ c.read.ensures) in
    says_ends a.start.now a.recording.now s read (sym c.is_recording.ensures ∙ c.if-not-is_recording.false) c.in-Ended.t c.play.new.room c.in-Ended.ensures a.out.now c.write.new.out (Ok n) _
    (ap (λ (w : Result ℕ Refusal). answer_of w) (sym c.in_ok-n-in-Ended.was) ∙ c.write.ensures.0) c.write.ensures.1 refl
