-- A record cut between calls and resumed from the snapshot comes to what the whole comes to. Assumes nothing.
use Prim.Native.Nat.{ℕ, ◌+◌, ◌*◌, ◌≤◌}
use Rattle.std.specs.Prelude.{◌≡◌, false, ◌&&◌}
use Rattle.std.proofs.Math.Path.{refl, ap, subst}
use Rattle.std.proofs.Common.{sym, ◌∙◌, le-ltb, length-append, arith}
use Rattle.std.proofs.Math.Bool.{true}
use mathlib.Core.List.{List, [], ◌∷◌, ◌++◌, append-nil}
use Rattle.std.proofs.Math.Option.{Option, none, some}
use Rattle.std.proofs.Math.ListN.{length, take, drop, take-append-drop}
use Rattle.lemmas.specs.Order.{clash}
use Rattle.lemmas.specs.Lists.{all, join}
use Rattle.lemmas.specs.ListLaws.{and_left, and_right}
use Rattle.lemmas.specs.Maps.{all_append}
use Rattle.model.specs.Answer.{Answer, gives, refused}
use Rattle.model.specs.Key.{trailer_bytes}
use Rattle.model.specs.File.{Profile, full, State}
use Rattle.model.specs.Snapshot.{fresh_long, entry_long, file_long, longest_snapshot, encode, decode}
use Rattle.model.specs.History.{run}
use Rattle.model.proofs.Formed.{WF}
use Rattle.model.proofs.SnapshotLaws.{Fits, encode_length}
use Rattle.model_replay.specs.Recording.{Recorded, Recording, calls_of, recorded_form, write_recording, recordable, read_recording}
use Rattle.model_replay.proofs.RecordingLaws.{record_back}
use Rattle.model_replay.specs.Replay.{Outcome, ended, differs, replayed, go_on, replayed_from, concluded, replay_of, replay, first_part, rest_part, on_ended, resumed, replay_all, cuttable}
use Rattle.model_replay.proofs.ReplayLaws.{replayed_cut, Agree, replayed_ends}
use Rattle.model_replay.proofs.ReadBackLaws.{read_back_lem}
use Rattle.model_replay.proofs.ReplayBytesLaws.{Recordable, recordable_says, left_by, Replays, no_snapshot, no_record, one_differs, too_short, none_differs, read_formed, left_formed, read_both, report_end, replay_holds}

-- ---- cut between calls and resumed
-- a part of a record
abbrev pub part : ℕ → ℕ → List Recorded → Recording
part m k rs = record { settings = record { maximum = m; place = k }; calls = rs }

-- the length of the longest snapshot under a profile
abbrev pub longest_of : Profile → ℕ
longest_of p = fresh_long + p.levels * (entry_long + (p.longest + trailer_bytes)) + p.room * (file_long + 2 * (p.longest + trailer_bytes))

-- on the full machine it is that of document 01
pub longest_full : longest_of full ≡ longest_snapshot
unfolding full
longest_full = refl

-- the parts of a record that can be written can be written
parts_fit : (m k : ℕ) (as' bs : List Recorded) → Recordable (part m k (as' ++ bs)) → Recordable (part m k as') × Recordable (part m (k + length as') bs)
parts_fit m k as' bs g =
    let n = length-append as' bs in
    let few = g.few in
    let places = g.places in
    let each : (all (λ (c : Recorded). recorded_form.fits c) as' && all (λ (c : Recorded). recorded_form.fits c) bs) ≡ true = sym (all_append (λ (c : Recorded). recorded_form.fits c) as' bs) ∙ g.calls in (
      record { maximum = g.maximum; few = omega arith; calls = and_left (all (λ (c : Recorded). recorded_form.fits c) as') (all (λ (c : Recorded). recorded_form.fits c) bs) each; places = omega arith },
      record { maximum = g.maximum; few = omega arith; calls = and_right (all (λ (c : Recorded). recorded_form.fits c) as') (all (λ (c : Recorded). recorded_form.fits c) bs) each; places = omega arith },
    )

module _ (p : Profile) (fit : Fits p) where
  -- a record in two parts: the replay of the whole is the replay of the first and then, from the bytes of the snapshot that it ended with, of the second
  pub replay_parts : (snapshot : List ℕ) (m k : ℕ) (as' bs : List Recorded) (room between : ℕ) → recordable (part m k (as' ++ bs)) ≡ true → longest_of p ≤ between
      → ((s : State) → decode p snapshot ≡ some s → Agree p m s as' → cuttable (run p s (calls_of m as')) ≡ true)
      → replay p snapshot (write_recording (part m k (as' ++ bs))) room ≡ resumed p (replay p snapshot (write_recording (part m k as')) between) (write_recording (part m (k + length as') bs)) room
  unfolding replay replay_of replayed_from resumed on_ended go_on
  replay_parts snapshot m k as' bs room between f long cut =
      let g = parts_fit m k as' bs ((recordable_says (part m k (as' ++ bs))).0 f) in
      let r₁ : read_recording (write_recording (part m k as')) ≡ some (part m k as') = record_back (part m k as') ((recordable_says (part m k as')).1 g.0) in
      let r₂ : read_recording (write_recording (part m (k + length as') bs)) ≡ some (part m (k + length as') bs) = record_back (part m (k + length as') bs) ((recordable_says (part m (k + length as') bs)).1 g.1) in
      let r₃ : read_recording (write_recording (part m k (as' ++ bs))) ≡ some (part m k (as' ++ bs)) = record_back (part m k (as' ++ bs)) f in
      rw (r₁, r₃) (go r₂ g.0.calls (decode p snapshot) refl)
    where
      rest : List ℕ
      rest = write_recording (part m (k + length as') bs)

      come : read_recording rest ≡ some (part m (k + length as') bs) → all (λ (c : Recorded). recorded_form.fits c) as' ≡ true → (s : State) → decode p snapshot ≡ some s
          → (o : Outcome State) → replayed p m k s as' ≡ o → concluded p room (go_on o (λ t. replayed p m (k + length as') t bs)) ≡ resumed p (concluded p between o) rest room
      come r₂ c s h (ended t) e =
          let a = (replayed_ends p m k s as' t).0 e in
          let w : WF p t = subst (λ (u : State). WF p u) a.1 (left_formed p s m as' (read_formed p snapshot s h) c) in
          let b : concluded p between (ended t) ≡ gives (ended (encode t)) = report_end p between t w ∙ rw (le-ltb between (length (encode t)) (omega (arith, encode_length p t w, long))) in
          let back : decode p (encode t) ≡ some t = read_back_lem p fit t w (subst (λ (u : State). cuttable u ≡ true) a.1 (cut s h a.0)) in
          sym (ap (λ (x : Answer (Outcome (List ℕ))). resumed p x rest room) b ∙ read_both p (encode t) rest room t (part m (k + length as') bs) back r₂)
      come r₂ c s h (differs d) e = unfold concluded in refl

      go : read_recording rest ≡ some (part m (k + length as') bs) → all (λ (c : Recorded). recorded_form.fits c) as' ≡ true → (o : Option State) → decode p snapshot ≡ o
          → replay_of p room o (some (part m k (as' ++ bs))) ≡ resumed p (replay_of p between o (some (part m k as'))) rest room
      go r₂ c none h = refl
      go r₂ c (some s) h = ap (λ (x : Outcome State). concluded p room x) (replayed_cut p m k s as' bs) ∙ come r₂ c s h (replayed p m k s as') refl

  -- a record cut after n calls, wherever level 0 has no equal smallest keys there
  pub replay_cut : (snapshot : List ℕ) (r : Recording) (n room between : ℕ) → recordable r ≡ true → longest_of p ≤ between
      → ((s : State) → decode p snapshot ≡ some s → Agree p r.settings.maximum s (take n r.calls) → cuttable (run p s (calls_of r.settings.maximum (take n r.calls))) ≡ true)
      → replay p snapshot (write_recording r) room ≡ resumed p (replay p snapshot (write_recording (first_part n r)) between) (write_recording (rest_part n r)) room
  unfolding first_part rest_part
  replay_cut snapshot r n room between f long cut =
      let m = r.settings.maximum in
      let k = r.settings.place in
      let e : take n r.calls ++ drop n r.calls ≡ r.calls = take-append-drop n r.calls in
      subst (λ (cs : List Recorded). replay p snapshot (write_recording (part m k cs)) room ≡ resumed p (replay p snapshot (write_recording (part m k (take n r.calls))) between) (write_recording (part m (k + length (take n r.calls)) (drop n r.calls))) room) e
      (replay_parts snapshot m k (take n r.calls) (drop n r.calls) room between (subst (λ (cs : List Recorded). recordable (part m k cs) ≡ true) (sym e) f) long cut)

-- ---- cut at several places
-- the later parts of a record, each with its place
abbrev pub later_parts : ℕ → ℕ → List (List Recorded) → List (List ℕ)
later_parts m k [] = []
later_parts m k (rs ∷ rss) = write_recording (part m k rs) ∷ later_parts m (k + length rs) rss

-- level 0 has no equal smallest keys at any of the cuts that are reached
abbrev pub Cuts : Profile → ℕ → State → List Recorded → List (List Recorded) → Type 0
Cuts p m s rs [] = Unit {0}
Cuts p m s rs (qs ∷ rss) = Agree p m s rs → (cuttable (run p s (calls_of m rs)) ≡ true) × Cuts p m (run p s (calls_of m rs)) qs rss

-- what a part that ended says
record EndedWith (p : Profile) (snapshot bytes out : List ℕ) : Type 0 where
  s : State
  r : Recording
  start : decode p snapshot ≡ some s
  taken : read_recording bytes ≡ some r
  agree : Agree p r.settings.maximum s r.calls
  left : encode (left_by p s r) ≡ out

-- a replay that gives a snapshot
ended_says : (p : Profile) (snapshot bytes : List ℕ) (room : ℕ) (o : Answer (Outcome (List ℕ))) (out : List ℕ) → Replays p snapshot bytes room o → o ≡ gives (ended out) → EndedWith p snapshot bytes out
ended_says p snapshot bytes room o out (no_snapshot h) e = let z : true ≡ false = cc in clash refl z
ended_says p snapshot bytes room o out (no_record s h k) e = let z : true ≡ false = cc in clash refl z
ended_says p snapshot bytes room o out (one_differs s r d h k a) e = let z : true ≡ false = cc in clash refl z
ended_says p snapshot bytes room o out (too_short s r h k a b) e = let z : true ≡ false = cc in clash refl z
ended_says p snapshot bytes room o out (none_differs s r h k a b) e = record { s = s; r = r; start = h; taken = k; agree = a; left = cc }

-- going on alike from every snapshot that a part may have ended with
ended_alike : (o : Answer (Outcome (List ℕ))) (f g : List ℕ → Answer (Outcome (List ℕ))) → ((out : List ℕ) → o ≡ gives (ended out) → f out ≡ g out) → on_ended o f ≡ on_ended o g
unfolding on_ended
ended_alike (gives (ended out)) f g h = h out refl
ended_alike (gives (differs d)) f g h = refl
ended_alike (refused n) f g h = refl

module _ (p : Profile) (fit : Fits p) (m room between : ℕ) (long : longest_of p ≤ between) where
  -- a record cut at several places comes to what the whole comes to
  pub replay_cuts : (snapshot : List ℕ) (k : ℕ) (rs : List Recorded) (rss : List (List Recorded)) → recordable (part m k (rs ++ join rss)) ≡ true
      → ((s : State) → decode p snapshot ≡ some s → Cuts p m s rs rss)
      → replay p snapshot (write_recording (part m k (rs ++ join rss))) room ≡ replay_all p between room snapshot (write_recording (part m k rs)) (later_parts m (k + length rs) rss)
  unfolding replay_all resumed join
  replay_cuts snapshot k rs [] f cuts = ap (λ (cs : List Recorded). replay p snapshot (write_recording (part m k cs)) room) (append-nil rs)
  replay_cuts snapshot k rs (qs ∷ rss) f cuts =
      let g = parts_fit m k rs (qs ++ join rss) ((recordable_says (part m k (rs ++ (qs ++ join rss)))).0 f) in
      let f' = (recordable_says (part m (k + length rs) (qs ++ join rss))).1 g.1 in
      let here' : read_recording (write_recording (part m k rs)) ≡ some (part m k rs) = record_back (part m k rs) ((recordable_says (part m k rs)).1 g.0) in
      replay_parts p fit snapshot m k rs (qs ++ join rss) room between f long (λ s h a. (cuts s h a).0)
      ∙ ended_alike (replay p snapshot (write_recording (part m k rs)) between) (λ out. replay p out (write_recording (part m (k + length rs) (qs ++ join rss))) room)
      (λ out. replay_all p between room out (write_recording (part m (k + length rs) qs)) (later_parts m (k + length rs + length qs) rss))
      (λ out e. replay_cuts out (k + length rs) qs rss f' (λ t h. onward' here' g.0.calls out (ended_says p snapshot (write_recording (part m k rs)) between (replay p snapshot (write_recording (part m k rs)) between) out (replay_holds p snapshot (write_recording (part m k rs)) between) e) t h))
    where
      onward' : read_recording (write_recording (part m k rs)) ≡ some (part m k rs) → all (λ (c : Recorded). recorded_form.fits c) rs ≡ true → (out : List ℕ) → EndedWith p snapshot (write_recording (part m k rs)) out → (t : State) → decode p out ≡ some t → Cuts p m t qs rss
      onward' here' fits out w t h =
          let s = w.s in
          let q : w.r ≡ part m k rs = cc w.taken in
          let agree : Agree p m s rs = subst (λ (r : Recording). Agree p r.settings.maximum s r.calls) q w.agree in
          let left : encode (run p s (calls_of m rs)) ≡ out = subst (λ (r : Recording). encode (left_by p s r) ≡ out) q w.left in
          let c = cuts s w.start agree in
          let u = run p s (calls_of m rs) in
          let back : decode p (encode u) ≡ some u = read_back_lem p fit u (left_formed p s m rs (read_formed p snapshot s w.start) fits) c.0 in
          let same : u ≡ t = cc in
          subst (λ (x : State). Cuts p m x qs rss) same c.1
