-- A replay comes to what making the calls one by one comes to, also where the calls are cut in two. Assumes nothing.
use Rattle.std.specs.Prelude.{ℕ, suc, ◌+◌, ◌↔◌, Bool, cond}
use Rattle.std.proofs.Math.Path.{◌≡◌, refl, ap, sym}
use Rattle.std.proofs.Common.{◌∙◌, subst, arith}
use Rattle.std.proofs.Math.Bool.{true, false}
use mathlib.Core.List.{List, [], ◌∷◌, ◌++◌, map}
use Rattle.std.proofs.Math.ListN.{length}
use Rattle.lemmas.specs.Order.{clash}
use Rattle.model.specs.File.{Profile, State}
use Rattle.model.specs.History.{after, run}
use Rattle.model_replay.specs.Given.{Given, given, answers, same_given}
use Rattle.model_replay.proofs.GivenLaws.{given_decides}
use Rattle.model_replay.specs.Recording.{Asked, Recorded, call_of, calls_of, answers_of}
use Rattle.model_replay.specs.Replay.{Mismatch, Outcome, ended, differs, replayed, go_on, recorded_day}

module _ (p : Profile) (m : ℕ) where
  -- ---- one call
  -- where the answer is the recorded one, the replay goes on
  pub replayed_passes : (k : ℕ) (s : State) (r : Recorded) (rs : List Recorded) → r.answer ≡ given p s (call_of m r.asked)
      → replayed p m k s (r ∷ rs) ≡ replayed p m (suc k) (after p s (call_of m r.asked)) rs
  unfolding replayed
  replayed_passes k s r rs e =
      let t : same_given r.answer (given p s (call_of m r.asked)) ≡ true = rw e (given_decides.same (given p s (call_of m r.asked))) in
      rw t

  -- where it is another, the replay stops
  pub replayed_stops : (k : ℕ) (s : State) (r : Recorded) (rs : List Recorded) → (r.answer ≡ given p s (call_of m r.asked) → ⊥)
      → replayed p m k s (r ∷ rs) ≡ differs (record { place = k; recorded = r.answer; given = given p s (call_of m r.asked) })
  unfolding replayed
  replayed_stops k s r rs n = go (same_given r.answer (given p s (call_of m r.asked))) refl
    where
      stop : Outcome State
      stop = differs (record { place = k; recorded = r.answer; given = given p s (call_of m r.asked) })

      go : (b : Bool) → same_given r.answer (given p s (call_of m r.asked)) ≡ b → cond b (replayed p m (suc k) (after p s (call_of m r.asked)) rs) stop ≡ stop
      go true e = absurd (n (given_decides.sound r.answer (given p s (call_of m r.asked)) e))
      go false e = refl

  -- ---- cut in two: the whole comes to what the first part and then, if it has no difference, the second comes to
  pub replayed_cut : (k : ℕ) (s : State) (as' bs : List Recorded) → replayed p m k s (as' ++ bs) ≡ go_on (replayed p m k s as') (λ t. replayed p m (k + length as') t bs)
  unfolding replayed go_on
  replayed_cut k s [] bs = ap (λ (n : ℕ). replayed p m n s bs) (omega arith)
  replayed_cut k s (r ∷ as') bs = go (replayed_cut (suc k) (after p s (call_of m r.asked)) as' bs) (same_given r.answer (given p s (call_of m r.asked)))
    where
      t : State
      t = after p s (call_of m r.asked)

      d : Mismatch
      d = record { place = k; recorded = r.answer; given = given p s (call_of m r.asked) }

      go : replayed p m (suc k) t (as' ++ bs) ≡ go_on (replayed p m (suc k) t as') (λ u. replayed p m (suc k + length as') u bs) → (b : Bool)
          → cond b (replayed p m (suc k) t (as' ++ bs)) (differs d) ≡ go_on (cond b (replayed p m (suc k) t as') (differs d)) (λ u. replayed p m (k + suc (length as')) u bs)
      go ih true = ih ∙ ap (λ (n : ℕ). go_on (replayed p m (suc k) t as') (λ u. replayed p m n u bs)) (omega arith)
      go ih false = refl

  -- ---- no difference
  -- each recorded answer is the one that its call gives on the state that the calls before it leave
  abbrev pub Agree : State → List Recorded → Type 0
  Agree s rs = answers_of rs ≡ answers p s (calls_of m rs)

  -- call by call: wherever the record is parted before a call, the answer is what the call gives on the state that the calls before it leave
  abbrev pub Each : State → List Recorded → Type 0
  Each s rs = (front later : List Recorded) (it : Recorded) → rs ≡ front ++ it ∷ later → it.answer ≡ given p (run p s (calls_of m front)) (call_of m it.asked)

  -- one call of a record that agrees
  agree_at : (s : State) (front later : List Recorded) (it : Recorded) → Agree s (front ++ it ∷ later) → it.answer ≡ given p (run p s (calls_of m front)) (call_of m it.asked)
  unfolding answers_of calls_of answers run
  agree_at s [] later it h = cc
  agree_at s (r ∷ front) later it h = agree_at (after p s (call_of m r.asked)) front later it (cc)

  -- a record of which every call does
  each_agree : (s : State) (rs : List Recorded) → Each s rs → Agree s rs
  unfolding answers_of calls_of answers run
  each_agree s [] h = refl
  each_agree s (r ∷ rs) h =
      let first : r.answer ≡ given p s (call_of m r.asked) = h [] rs r refl in
      let rest = each_agree (after p s (call_of m r.asked)) rs (λ front later it e. h (r ∷ front) later it (ap (λ (l : List Recorded). r ∷ l) e)) in
      cc

  -- the two say the same
  pub agree_each : (s : State) (rs : List Recorded) → Agree s rs ↔ Each s rs
  agree_each s rs = (λ h front later it e. agree_at s front later it (subst (λ (l : List Recorded). Agree s l) e h), λ h. each_agree s rs h)

  -- no difference exactly where all answers agree, and then the calls leave what the history leaves
  pub replayed_ends : (k : ℕ) (s : State) (rs : List Recorded) (t : State) → replayed p m k s rs ≡ ended t ↔ (Agree s rs × (run p s (calls_of m rs) ≡ t))
  unfolding replayed answers_of calls_of answers run
  replayed_ends k s [] t = (λ e. (refl, cc), λ h. ap (λ (u : State). ended u) h.1)
  replayed_ends k s (r ∷ rs) t =
      let ih = replayed_ends (suc k) (after p s (call_of m r.asked)) rs t in
      (λ e. from ih.0 (same_given r.answer o) refl e, λ h. to ih.1 h)
    where
      o : Given
      o = given p s (call_of m r.asked)

      u : State
      u = after p s (call_of m r.asked)

      d : Mismatch
      d = record { place = k; recorded = r.answer; given = o }

      Tail : Type 0
      Tail = (map (λ (r : Recorded). r.answer) rs ≡ answers p u (map (λ (r : Recorded). call_of m r.asked) rs)) × (run p u (map (λ (r : Recorded). call_of m r.asked) rs) ≡ t)

      Whole : Type 0
      Whole = (r.answer ∷ map (λ (r : Recorded). r.answer) rs ≡ o ∷ answers p u (map (λ (r : Recorded). call_of m r.asked) rs)) × (run p u (map (λ (r : Recorded). call_of m r.asked) rs) ≡ t)

      from : (replayed p m (suc k) u rs ≡ ended t → Tail) → (b : Bool) → same_given r.answer o ≡ b → cond b (replayed p m (suc k) u rs) (differs d) ≡ ended t → Whole
      from ih true q e =
          let x : r.answer ≡ o = given_decides.sound r.answer o q in
          let y = ih e in
          let z = y.0 in
          (cc, y.1)
      from ih false q e = let z : true ≡ false = cc in clash refl z

      to : (Tail → replayed p m (suc k) u rs ≡ ended t) → Whole → cond (same_given r.answer o) (replayed p m (suc k) u rs) (differs d) ≡ ended t
      to ih h =
          let w = h.0 in
          let x : r.answer ≡ o = cc in
          let q : same_given r.answer o ≡ true = rw x (given_decides.same o) in
          rw q (ih (cc, h.1))

  -- a day as the controller records it has no difference, and is left as the controller left it
  pub day_replays : (k : ℕ) (s : State) (as' : List Asked) → replayed p m k s (recorded_day p m s as') ≡ ended (run p s (map (call_of m) as'))
  unfolding replayed recorded_day run
  day_replays k s [] = refl
  day_replays k s (a ∷ as') = rw (given_decides.same (given p s (call_of m a))) (day_replays (suc k) (after p s (call_of m a)) as')

  -- ---- the first difference
  -- the calls before it agree, its place counts them, and its recorded answer is not the one that it gives on the state that they leave
  pub record DiffersAt (k : ℕ) (s : State) (rs : List Recorded) (d : Mismatch) : Type 0 where
    pub front : List Recorded
    pub it : Recorded
    pub later : List Recorded
    pub all : rs ≡ front ++ it ∷ later
    pub agree : Agree s front
    pub place : d.place ≡ k + length front
    pub recorded : d.recorded ≡ it.answer
    pub answer : d.given ≡ given p (run p s (calls_of m front)) (call_of m it.asked)
    pub unlike : d.recorded ≡ d.given → ⊥

  -- a difference found is the first
  found : (k : ℕ) (s : State) (rs : List Recorded) (d : Mismatch) → replayed p m k s rs ≡ differs d → DiffersAt k s rs d
  unfolding replayed answers_of calls_of answers run
  found k s [] d e = let z : true ≡ false = cc in clash refl z
  found k s (r ∷ rs) d e = go (found (suc k) u rs d) (same_given r.answer o) refl e
    where
      o : Given
      o = given p s (call_of m r.asked)

      u : State
      u = after p s (call_of m r.asked)

      go : (replayed p m (suc k) u rs ≡ differs d → DiffersAt (suc k) u rs d) → (b : Bool) → same_given r.answer o ≡ b
          → cond b (replayed p m (suc k) u rs) (differs (record { place = k; recorded = r.answer; given = o })) ≡ differs d → DiffersAt k s (r ∷ rs) d
      go ih true q e =
          let x : r.answer ≡ o = given_decides.sound r.answer o q in
          let y = ih e in
          let z = y.agree in
          record {
            front = r ∷ y.front;
            it = y.it;
            later = y.later;
            all = ap (λ (l : List Recorded). r ∷ l) y.all;
            agree = cc;
            place = y.place ∙ omega arith;
            recorded = y.recorded;
            answer = y.answer;
            unlike = y.unlike;
          }
      go ih false q e =
          let x : ◌≡◌ {A = Mismatch} (record { place = k; recorded = r.answer; given = o }) d = cc in
          record {
            front = [];
            it = r;
            later = rs;
            all = refl;
            agree = refl;
            place = ap (λ (y : Mismatch). y.place) (sym x) ∙ omega arith;
            recorded = ap (λ (y : Mismatch). y.recorded) (sym x);
            answer = ap (λ (y : Mismatch). y.given) (sym x);
            unlike = λ h. clash (rw (ap (λ (y : Mismatch). y.recorded) x ∙ h ∙ ap (λ (y : Mismatch). y.given) (sym x)) (given_decides.same o)) q;
          }

  -- a difference at a place exactly where the answers before it agree and its own differs
  pub replayed_differs : (k : ℕ) (s : State) (rs : List Recorded) (d : Mismatch) → replayed p m k s rs ≡ differs d ↔ DiffersAt k s rs d
  unfolding go_on
  replayed_differs k s rs d = (found k s rs d, λ h. to h)
    where
      to : DiffersAt k s rs d → replayed p m k s rs ≡ differs d
      to h =
          let t = run p s (calls_of m h.front) in
          let before : replayed p m k s h.front ≡ ended t = (replayed_ends k s h.front t).1 (h.agree, refl) in
          let n : h.it.answer ≡ given p t (call_of m h.it.asked) → ⊥ = λ e. h.unlike (h.recorded ∙ e ∙ sym h.answer) in
          let stop = replayed_stops (k + length h.front) t h.it h.later n in
          let whole : ◌≡◌ {A = Mismatch} (record { place = k + length h.front; recorded = h.it.answer; given = given p t (call_of m h.it.asked) }) d
          = λ i. record { place = sym h.place i; recorded = sym h.recorded i; given = sym h.answer i } in
          ap (λ (l : List Recorded). replayed p m k s l) h.all
          ∙ replayed_cut k s h.front (h.it ∷ h.later)
          ∙ ap (λ (x : Outcome State). go_on x (λ u. replayed p m (k + length h.front) u (h.it ∷ h.later))) before
          ∙ stop
          ∙ ap (λ (x : Mismatch). differs x) whole

  -- ---- any two outcomes are one
  -- the outcomes that the statement allows: the calls agree and leave this state, or this is the first difference
  abbrev pub Allowed : ℕ → State → List Recorded → Outcome State → Type 0
  Allowed k s rs (ended t) = Agree s rs × (run p s (calls_of m rs) ≡ t)
  Allowed k s rs (differs d) = DiffersAt k s rs d

  -- the replay comes to an outcome exactly if it is allowed
  pub replayed_is : (k : ℕ) (s : State) (rs : List Recorded) (o : Outcome State) → replayed p m k s rs ≡ o ↔ Allowed k s rs o
  replayed_is k s rs (ended t) = replayed_ends k s rs t
  replayed_is k s rs (differs d) = replayed_differs k s rs d

  -- any two outcomes allowed are one
  pub allowed_one : (k : ℕ) (s : State) (rs : List Recorded) (o o' : Outcome State) → Allowed k s rs o → Allowed k s rs o' → o ≡ o'
  allowed_one k s rs o o' a b = sym ((replayed_is k s rs o).1 a) ∙ (replayed_is k s rs o').1 b
