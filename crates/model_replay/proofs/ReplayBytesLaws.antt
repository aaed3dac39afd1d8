-- Replay from bytes: what it answers for every snapshot and record, refused ones too. Assumes nothing.
use Rattle.std.specs.Prelude.{ℕ, suc, ◌+◌, ◌^◌, ◌<◌, ◌≤◌, ◌≡◌, ◌↔◌, Bool, ◌&&◌}
use Rattle.std.proofs.Math.Path.{refl, ap}
use Rattle.std.proofs.Common.{sym, ◌∙◌, subst, ltb-true, ltb-false, lt-ltb, le-ltb, length-append, arith}
use Rattle.std.proofs.Math.Bool.{cond, true, false}
use mathlib.Core.List.{List, [], ◌∷◌}
use Rattle.std.proofs.Math.Option.{Option, none, some}
use Rattle.std.proofs.Math.Dec.{ltb}
use Rattle.std.proofs.Math.ListN.{length}
use Rattle.lemmas.specs.Lists.{all}
use Rattle.lemmas.specs.ListLaws.{and_left, and_right, both, all_in}
use Rattle.model.specs.Answer.{Answer, gives, refused, ◌⇒◌, first_of, on_answer}
use Rattle.model.specs.AnswerLaws.{lent_length}
use Rattle.model.specs.File.{Profile, State, well_formed}
use Rattle.model.specs.Edit.{Edit}
use Rattle.model.specs.Snapshot.{encode, decode}
use Rattle.model.specs.Calls.{write}
use Rattle.model.specs.History.{Call, run}
use Rattle.model.proofs.Formed.{WF, formed_says, Words}
use Rattle.model.proofs.Reading.{decode_sound}
use Rattle.model.proofs.Demand3.{WordCalls, run_formed}
use Rattle.model_replay.specs.Form.{num, file_form, pair, shaped, many, only}
use Rattle.model_replay.specs.Recording.{Asked, asks_edit, asks_size, asks_range, asks_count, Recorded, Recording, call_of, calls_of, pointer_form, deletion_form, addition_form, log_form, edit_form, fits_asked, asked_form, given_form, recorded_form, settings_form, recording_form, recordable, read_recording}
use Rattle.model_replay.proofs.RecordingLaws.{record_says}
use Rattle.model_replay.specs.Replay.{Mismatch, Outcome, ended, differs, replayed, replayed_from, concluded, replay_of, replay, leaves}
use Rattle.model_replay.proofs.ReplayLaws.{Agree, replayed_ends, DiffersAt, replayed_differs}

-- ---- what can be recorded, part by part
pub record Recordable (r : Recording) : Type 0 where
  pub maximum : r.settings.maximum < 2 ^ 64
  pub few : length r.calls < 2 ^ 32
  pub calls : all (λ (c : Recorded). recorded_form.fits c) r.calls ≡ true
  pub places : r.settings.place + length r.calls < 2 ^ 64

-- the test says just that
pub recordable_says : (r : Recording) → recordable r ≡ true ↔ Recordable r
unfolding recordable recording_form settings_form only shaped pair many num all
recordable_says r =
    let a = ltb r.settings.maximum (2 ^ 64) in
    let b = ltb r.settings.place (2 ^ 64) && true in
    let s = a && b && true in
    let c = ltb (length r.calls) (2 ^ 32) in
    let d = all recorded_form.fits r.calls in
    let e = ltb (r.settings.place + length r.calls) (2 ^ 64) in (
      λ h.
          let h₁ = and_left (s && (c && d)) e h in
          let cd = and_right s (c && d) h₁ in
          record {
            maximum = ltb-true r.settings.maximum (2 ^ 64) (and_left a b (and_left (a && b) true (and_left s (c && d) h₁)));
            few = ltb-true (length r.calls) (2 ^ 32) (and_left c d cd);
            calls = and_right c d cd;
            places = ltb-true (r.settings.place + length r.calls) (2 ^ 64) (and_right (s && (c && d)) e h);
          },
      λ g. both (s && (c && d)) e (both s (c && d) (both (a && b) true (both a b
          (lt-ltb r.settings.maximum (2 ^ 64) g.maximum)
          (both (ltb r.settings.place (2 ^ 64)) true (lt-ltb r.settings.place (2 ^ 64) (omega (arith, g.places))) refl)) refl)
          (both c d (lt-ltb (length r.calls) (2 ^ 32) g.few) g.calls))
          (lt-ltb (r.settings.place + length r.calls) (2 ^ 64) g.places),
    )

-- ---- every number in a recorded call is a 64-bit one
edit_words : (e : Edit) → edit_form.fits e ≡ true → Words e
unfolding edit_form addition_form file_form shaped pair many num
edit_words e h a i =
    let q = (many 2 pointer_form).fits e.pointers in
    let d = (many 2 deletion_form).fits e.deletions in
    let n = ltb (length e.additions) (256 ^ 2) in
    let x = all addition_form.fits e.additions in
    let l = log_form.fits e.log in
    let one : addition_form.fits a ≡ true = (all_in addition_form.fits e.additions).0 (and_right n x (and_left (n && x) l (and_right d (n && x && l) (and_right q (d && (n && x && l)) h)))) a i in
    let f = a.file in
    let f₁ = ltb f.number (256 ^ 8) in
    let f₂ = ltb f.size (256 ^ 8) in
    let f₃ = ltb (length f.smallest) 256 in
    let f₄ = ltb (length f.largest) 256 in
    ltb-true f.number (2 ^ 64) (and_left f₁ f₂ (and_left (f₁ && f₂) f₃ (and_left (f₁ && f₂ && f₃) f₄ (and_right (ltb a.level (256 ^ 8)) (f₁ && f₂ && f₃ && f₄) one))))

-- one call before others
pub asked_words : (m : ℕ) (a : Asked) (cs : List Call) → fits_asked a ≡ true → WordCalls cs → WordCalls (call_of m a ∷ cs)
unfolding fits_asked call_of
asked_words m (asks_edit e) cs h w = (edit_words e h, w)
asked_words m asks_size cs h w = w
asked_words m (asks_range l a b) cs h w = w
asked_words m (asks_count c) cs h w = w

-- the calls of a record
pub calls_words : (m : ℕ) (rs : List Recorded) → all (λ (c : Recorded). recorded_form.fits c) rs ≡ true → WordCalls (calls_of m rs)
unfolding calls_of all recorded_form asked_form shaped pair
calls_words m [] h = tt
calls_words m (r ∷ rs) h =
    let a = fits_asked r.asked in
    let b = given_form.fits r.answer in
    asked_words m r.asked (calls_of m rs) (and_left a b (and_left (a && b) (all recorded_form.fits rs) h)) (calls_words m rs (and_right (a && b) (all recorded_form.fits rs) h))

-- ---- writing what is left
write_formed : (p : Profile) (s : State) (room : ℕ) → WF p s → write p s room ≡ cond (ltb room (length (encode s))) (refused 13) (gives (encode s))
unfolding write first_of ◌⇒◌
write_formed p s room w = let f : well_formed p s ≡ true = (formed_says p s).1 w in rw f

-- ---- what a replay from bytes answers
-- the state that a record leaves, where nothing differs
abbrev pub left_by : Profile → State → Recording → State
left_by p s r = run p s (calls_of r.settings.maximum r.calls)

-- 14 for the starting snapshot; then 15 for the record; then the first difference; then 13 where the output is shorter than the final snapshot; or that snapshot
pub data Replays (p : Profile) (snapshot bytes : List ℕ) (room : ℕ) : Answer (Outcome (List ℕ)) → Type 0 where
  no_snapshot : decode p snapshot ≡ none → Replays p snapshot bytes room (refused 14)
  no_record : (s : State) → decode p snapshot ≡ some s → read_recording bytes ≡ none → Replays p snapshot bytes room (refused 15)
  one_differs : (s : State) (r : Recording) (d : Mismatch) → decode p snapshot ≡ some s → read_recording bytes ≡ some r
      → DiffersAt p r.settings.maximum r.settings.place s r.calls d → Replays p snapshot bytes room (gives (differs d))
  too_short : (s : State) (r : Recording) → decode p snapshot ≡ some s → read_recording bytes ≡ some r
      → Agree p r.settings.maximum s r.calls → room < length (encode (left_by p s r)) → Replays p snapshot bytes room (refused 13)
  none_differs : (s : State) (r : Recording) → decode p snapshot ≡ some s → read_recording bytes ≡ some r
      → Agree p r.settings.maximum s r.calls → length (encode (left_by p s r)) ≤ room → Replays p snapshot bytes room (gives (ended (encode (left_by p s r))))

module _ (p : Profile) where
  -- a state that was read is well-formed
  pub read_formed : (snapshot : List ℕ) (s : State) → decode p snapshot ≡ some s → WF p s
  read_formed snapshot s h = (formed_says p s).0 (decode_sound p snapshot s h).0

  -- so is what the calls of a record that was read leave
  pub left_formed : (s : State) (m : ℕ) (rs : List Recorded) → WF p s → all (λ (c : Recorded). recorded_form.fits c) rs ≡ true → WF p (run p s (calls_of m rs))
  left_formed s m rs w h = run_formed p s (calls_of m rs) (calls_words m rs h) w

  -- the calls of a record that was read fit
  pub read_fits : (bytes : List ℕ) (r : Recording) → read_recording bytes ≡ some r → Recordable r
  read_fits bytes r h = (recordable_says r).0 ((record_says bytes r).0 h).0

  -- both are read
  pub read_both : (snapshot bytes : List ℕ) (room : ℕ) (s : State) (r : Recording) → decode p snapshot ≡ some s → read_recording bytes ≡ some r → replay p snapshot bytes room ≡ concluded p room (replayed_from p s r)
  unfolding replay replay_of
  read_both snapshot bytes room s r h k = rw (h, k, replay_of)

  -- what is concluded at the end
  pub report_end : (room : ℕ) (t : State) → WF p t → concluded p room (ended t) ≡ cond (ltb room (length (encode t))) (refused 13) (gives (ended (encode t)))
  unfolding concluded on_answer
  report_end room t w = rw (write_formed p t room w) (go (ltb room (length (encode t))))
    where
      go : (b : Bool) → on_answer (λ (bs : List ℕ). ended bs) (cond b (refused 13) (gives (encode t))) ≡ cond b (refused 13) (gives (ended (encode t)))
      go true = refl
      go false = refl

  -- what is answered where all answers agree
  all_agree : (snapshot bytes : List ℕ) (room : ℕ) (s : State) (r : Recording) → decode p snapshot ≡ some s → read_recording bytes ≡ some r → Agree p r.settings.maximum s r.calls
      → replay p snapshot bytes room ≡ cond (ltb room (length (encode (left_by p s r)))) (refused 13) (gives (ended (encode (left_by p s r))))
  unfolding replayed_from
  all_agree snapshot bytes room s r h k a =
      let t = left_by p s r in
      read_both snapshot bytes room s r h k
      ∙ ap (λ (x : Outcome State). concluded p room x) ((replayed_ends p r.settings.maximum r.settings.place s r.calls t).1 (a, refl))
      ∙ report_end room t (left_formed s r.settings.maximum r.calls (read_formed snapshot s h) (read_fits bytes r k).calls)

  -- the replay answers as the statement says
  pub replay_holds : (snapshot bytes : List ℕ) (room : ℕ) → Replays p snapshot bytes room (replay p snapshot bytes room)
  unfolding replay replay_of replayed_from
  replay_holds snapshot bytes room = go (decode p snapshot) (read_recording bytes) refl refl
    where
      end : (s : State) (r : Recording) → decode p snapshot ≡ some s → read_recording bytes ≡ some r → Agree p r.settings.maximum s r.calls → (b : Bool) → ltb room (length (encode (left_by p s r))) ≡ b
          → Replays p snapshot bytes room (cond b (refused 13) (gives (ended (encode (left_by p s r)))))
      end s r h k a true e = too_short s r h k a (ltb-true room (length (encode (left_by p s r))) e)
      end s r h k a false e = none_differs s r h k a (ltb-false room (length (encode (left_by p s r))) e)

      come : (s : State) (r : Recording) → decode p snapshot ≡ some s → read_recording bytes ≡ some r → (o : Outcome State) → replayed p r.settings.maximum r.settings.place s r.calls ≡ o
          → Replays p snapshot bytes room (concluded p room o)
      come s r h k (ended t) e =
          let a = (replayed_ends p r.settings.maximum r.settings.place s r.calls t).0 e in
          let w = left_formed s r.settings.maximum r.calls (read_formed snapshot s h) (read_fits bytes r k).calls in
          subst (λ (u : State). Replays p snapshot bytes room (concluded p room (ended u))) a.1
          (rw (report_end room (left_by p s r) w) (end s r h k a.0 (ltb room (length (encode (left_by p s r)))) refl))
      come s r h k (differs d) e = unfold concluded in one_differs s r d h k ((replayed_differs p r.settings.maximum r.settings.place s r.calls d).0 e)

      go : (o : Option State) (q : Option Recording) → decode p snapshot ≡ o → read_recording bytes ≡ q → Replays p snapshot bytes room (replay_of p room o q)
      go none q h k = no_snapshot h
      go (some s) none h k = no_record s h k
      go (some s) (some r) h k = come s r h k (replayed p r.settings.maximum r.settings.place s r.calls) refl

  -- and answers nothing else
  pub replay_only : (snapshot bytes : List ℕ) (room : ℕ) (o : Answer (Outcome (List ℕ))) → Replays p snapshot bytes room o → replay p snapshot bytes room ≡ o
  unfolding replay replay_of replayed_from
  replay_only snapshot bytes room o (no_snapshot h) = rw (h, replay_of)
  replay_only snapshot bytes room o (no_record s h k) = rw (h, k, replay_of)
  replay_only snapshot bytes room o (one_differs s r d h k a) =
      read_both snapshot bytes room s r h k ∙ ap (λ (x : Outcome State). concluded p room x) ((replayed_differs p r.settings.maximum r.settings.place s r.calls d).1 a) ∙ unfold concluded in refl
  replay_only snapshot bytes room o (too_short s r h k a b) = all_agree snapshot bytes room s r h k a ∙ rw (lt-ltb room (length (encode (left_by p s r))) b)
  replay_only snapshot bytes room o (none_differs s r h k a b) = all_agree snapshot bytes room s r h k a ∙ rw (le-ltb room (length (encode (left_by p s r))) b)

  -- the place of a difference is a 64-bit number
  pub place_fits : (s : State) (r : Recording) (d : Mismatch) → Recordable r → DiffersAt p r.settings.maximum r.settings.place s r.calls d → d.place < 2 ^ 64
  place_fits s r d g h =
      let n : length r.calls ≡ length h.front + suc (length h.later) = ap (λ (l : List Recorded). length l) h.all ∙ length-append h.front (h.it ∷ h.later) in
      let q = h.place in
      let i = g.places in
      omega arith

  -- lent output keeps its length
  pub leaves_length : (snapshot bytes out : List ℕ) → length (leaves (replay p snapshot bytes (length out)) out) ≡ length out
  leaves_length snapshot bytes out = go (replay p snapshot bytes (length out)) (replay_holds snapshot bytes (length out))
    where
      go : (o : Answer (Outcome (List ℕ))) → Replays p snapshot bytes (length out) o → length (leaves o out) ≡ length out
      go o (no_snapshot h) = unfold leaves in refl
      go o (no_record s h k) = unfold leaves in refl
      go o (one_differs s r d h k a) = unfold leaves in refl
      go o (too_short s r h k a b) = unfold leaves in refl
      go o (none_differs s r h k a b) = unfold leaves in lent_length (gives (encode (left_by p s r))) out (λ xs e. let q : encode (left_by p s r) ≡ xs = cc in omega (arith, ap (λ (l : List ℕ). length l) q))

  -- any two outcomes are one
  pub replay_one : (snapshot bytes : List ℕ) (room : ℕ) (o o' : Answer (Outcome (List ℕ))) → Replays p snapshot bytes room o → Replays p snapshot bytes room o' → o ≡ o'
  replay_one snapshot bytes room o o' a b = sym (replay_only snapshot bytes room o a) ∙ replay_only snapshot bytes room o' b
