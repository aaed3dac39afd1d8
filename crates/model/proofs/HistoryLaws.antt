-- The state that a history leaves is what its events say. Assumes nothing.
use Rattle.std.specs.Prelude.{ℕ, ◌<◌, ◌≡◌, ◌↔◌, ◌⊎◌, cond, false, eqb, length, replicate, set}
use Rattle.std.proofs.Math.Path.{refl, ap, subst}
use Rattle.std.proofs.Common.{sym, ◌∙◌, length-set, arith}
use Rattle.std.proofs.Math.Logic.{inl, inr}
use Rattle.std.proofs.Math.Bool.{true}
use mathlib.Core.List.Memᴰ.{not-nil}
use mathlib.Core.List.{List, [], ◌∷◌, ◌++◌, Memᴰ as In}
use Rattle.std.proofs.Math.Option.{Option, none, some}
use Rattle.std.proofs.Math.ListN.{get_or}
use Rattle.std.proofs.lemmas.List.{length-replicate}
use Rattle.lemmas.specs.Lists.{distinct}
use Rattle.lemmas.specs.ListLaws.{get_or_same, get_d_set}
use Rattle.model.specs.Key.{Key}
use Rattle.model.specs.Answer.{Answer, gives, refused}
use Rattle.model.specs.File.{Profile, File, Counters, State, level, pointer, numbers, fresh, set_pointer, set_counters}
use Rattle.model.specs.Edit.{Pointer, Edit, added, left_deleted, survivors, survivors_from, pointed, logged, applied, edit}
use Rattle.model.specs.Counters.{CounterCall, counted, counter}
use Rattle.model.specs.Range.{high_key}
use Rattle.model.specs.Pick.{Pick, size_pick, manual_pick}
use Rattle.model.specs.History.{Call, edits, picks_size, picks_range, counts, Event, did_edit, did_point, did_count, kept, kept_pick, after, did, did_pick, event, run, events, Unharmed, Stays, last_of, pointer_left, counters_left}
use Rattle.model.proofs.EditLaws.{survivors_in, deleted_goes, survivors_from_at, survivors_from_length, pointed_length, edit_accepted}
use Rattle.model.specs.CounterLaws.{count_accepted}
use Rattle.model.proofs.Formed.{distinct_level}
use Rattle.model.proofs.PickLaws.{pick_after_size, pick_after_range}

-- ---- one call
module _ (p : Profile) (s : State) (l : ℕ) (inside : l < length s.files) (f : File) where
  -- the file is at the level afterwards exactly if it was there and is not deleted, or was added
  abbrev One : List Event → State → Type 0
  One vs t = In f (level t l) ↔ ((In f (level s l) × Unharmed vs l f.number) ⊎ Stays vs l f)

  -- a call that leaves the level as it was
  nothing_done : (t : State) → level t l ≡ level s l → (vs : List Event) → Unharmed vs l f.number → (Stays vs l f → ⊥) → One vs t
  nothing_done t e vs u n = (λ m. inl (subst (λ (fs : List File). In f fs) e m, u), λ h. go h)
    where
      go : (In f (level s l) × Unharmed vs l f.number) ⊎ Stays vs l f → In f (level t l)
      go (inl h) = subst (λ (fs : List File). In f fs) (sym e) h.0
      go (inr h) = absurd (n h)

  -- an accepted edit
  edited_one : (e : Edit) (t : State) → edit p s e ≡ gives t → One (did_edit e ∷ []) t
  unfolding applied level
  edited_one e t h =
      let a = edit_accepted p s e t h in
      let base = get_or s.files l [] in
      let at : level t l ≡ survivors e l base =
      ap (λ (u : State). get_or u.files l []) (sym a.result) ∙ survivors_from_at e 0 s.files l inside ∙ ap (λ (n : ℕ). survivors e n base) (omega arith) in
      let d : distinct (numbers (survivors e l base)) ≡ true = subst (λ (fs : List File). distinct (numbers fs) ≡ true)
      (survivors_from_at e 0 s.files l inside ∙ ap (λ (n : ℕ). survivors e n base) (omega arith))
      (distinct_level (survivors_from e 0 s.files) l a.distinct_numbers) in (
        λ m. from d ((survivors_in e l base f).0 (subst (λ (fs : List File). In f fs) at m)),
        λ k. subst (λ (fs : List File). In f fs) (sym at) ((survivors_in e l base f).1 (to d k)),
      )
    where
      from : distinct (numbers (survivors e l (get_or s.files l []))) ≡ true → (In f (get_or s.files l []) × (left_deleted e l f.number ≡ false)) ⊎ In f (added e l)
          → (In f (level s l) × Unharmed (did_edit e ∷ []) l f.number) ⊎ Stays (did_edit e ∷ []) l f
      from d (inl k) = inl (k.0, (sym (deleted_goes e l (get_or s.files l []) f d k.0) ∙ k.1, tt))
      from d (inr m) = inr (inl (m, tt))

      to : distinct (numbers (survivors e l (get_or s.files l []))) ≡ true → (In f (level s l) × Unharmed (did_edit e ∷ []) l f.number) ⊎ Stays (did_edit e ∷ []) l f
          → (In f (get_or s.files l []) × (left_deleted e l f.number ≡ false)) ⊎ In f (added e l)
      to d (inl k) = inl (k.0, deleted_goes e l (get_or s.files l []) f d k.0 ∙ k.1.0)
      to d (inr (inl m)) = inr m.0
      to d (inr (inr z)) = absurd z

-- ---- any one call
module _ (p : Profile) (s : State) (l : ℕ) (inside : l < length s.files) (f : File) where
  -- an edit, accepted or refused
  edit_one : (e : Edit) (o : Answer State) → edit p s e ≡ o → One p s l inside f (did o (did_edit e)) (kept s o)
  unfolding did kept
  edit_one e (gives t) h = edited_one p s l inside f e t h
  edit_one e (refused n) h = nothing_done p s l inside f s refl [] tt (λ z. z)

  -- a counter call
  count_one : (c : CounterCall) (o : Answer State) → counter p s c ≡ o → One p s l inside f (did o (did_count c)) (kept s o)
  unfolding did kept level set_counters
  count_one c (gives t) h = nothing_done p s l inside f t (ap (λ (u : State). get_or u.files l []) (sym (count_accepted p s c t h).result)) (did_count c ∷ []) tt (λ z. z)
  count_one c (refused n) h = nothing_done p s l inside f s refl [] tt (λ z. z)

  -- a pick
  pick_one : (o : Answer Pick) → ((k : Pick) → o ≡ gives k → k.after ≡ set_pointer s k.picked.level (high_key k.picked.first)) → One p s l inside f (did_pick o) (kept_pick s o)
  unfolding did_pick kept_pick level set_pointer
  pick_one (gives k) h = nothing_done p s l inside f k.after (ap (λ (u : State). get_or u.files l []) (h k refl)) (did_point k.picked.level (high_key k.picked.first) ∷ []) tt (λ z. z)
  pick_one (refused n) h = nothing_done p s l inside f s refl [] tt (λ z. z)

  -- any call
  pub call_one : (c : Call) → One p s l inside f (event p s c) (after p s c)
  unfolding event after
  call_one (edits e) = edit_one e (edit p s e) refl
  call_one (picks_size m) = pick_one (size_pick p s m) (pick_after_size p s m)
  call_one (picks_range m j a b) = pick_one (manual_pick p s m j a b) (pick_after_range p s m j a b)
  call_one (counts c) = count_one c (counter p s c) refl

-- a call keeps the number of levels
pub call_levels : (p : Profile) (s : State) (c : Call) → length (after p s c).files ≡ length s.files
unfolding after kept kept_pick applied set_pointer set_counters
call_levels p s (edits e) = go (edit p s e) refl
  where
    go : (o : Answer State) → edit p s e ≡ o → length (kept s o).files ≡ length s.files
    go (gives t) h = ap (λ (u : State). length u.files) (sym (edit_accepted p s e t h).result) ∙ survivors_from_length e 0 s.files
    go (refused n) h = refl
call_levels p s (picks_size m) = go (size_pick p s m) refl
  where
    go : (o : Answer Pick) → size_pick p s m ≡ o → length (kept_pick s o).files ≡ length s.files
    go (gives k) h = ap (λ (u : State). length u.files) (pick_after_size p s m k h)
    go (refused n) h = refl
call_levels p s (picks_range m l a b) = go (manual_pick p s m l a b) refl
  where
    go : (o : Answer Pick) → manual_pick p s m l a b ≡ o → length (kept_pick s o).files ≡ length s.files
    go (gives k) h = ap (λ (u : State). length u.files) (pick_after_range p s m l a b k h)
    go (refused n) h = refl
call_levels p s (counts c) = go (counter p s c) refl
  where
    go : (o : Answer State) → counter p s c ≡ o → length (kept s o).files ≡ length s.files
    go (gives t) h = ap (λ (u : State). length u.files) (sym (count_accepted p s c t h).result)
    go (refused n) h = refl

-- ---- two lists of events joined
-- joined they delete a number exactly if one of them does
unharmed_append : (vs ws : List Event) (l n : ℕ) → Unharmed (vs ++ ws) l n ↔ (Unharmed vs l n × Unharmed ws l n)
unharmed_append [] ws l n = (λ u. (tt, u), λ u. u.1)
unharmed_append (did_edit e ∷ vs) ws l n = let r = unharmed_append vs ws l n in
    (λ u. let q = r.0 u.1 in ((u.0, q.0), q.1), λ u. (u.0.0, r.1 (u.0.1, u.1)))
unharmed_append (did_point j k ∷ vs) ws l n = unharmed_append vs ws l n
unharmed_append (did_count c ∷ vs) ws l n = unharmed_append vs ws l n

-- a file stays after both if it stays after the first and the second does not delete it, or the second adds it
stays_append : (vs ws : List Event) (l : ℕ) (f : File) → Stays (vs ++ ws) l f ↔ ((Stays vs l f × Unharmed ws l f.number) ⊎ Stays ws l f)
stays_append [] ws l f = (λ h. inr h, λ h. go h)
  where
    go : (⊥ × Unharmed ws l f.number) ⊎ Stays ws l f → Stays ws l f
    go (inl h) = absurd h.0
    go (inr h) = h
stays_append (did_edit e ∷ vs) ws l f = let r = stays_append vs ws l f in (λ h. from r.0 h, λ h. to r.1 h)
  where
    Whole : Type 0
    Whole = (In f (added e l) × Unharmed (vs ++ ws) l f.number) ⊎ Stays (vs ++ ws) l f

    First : Type 0
    First = (In f (added e l) × Unharmed vs l f.number) ⊎ Stays vs l f

    later : (Stays vs l f × Unharmed ws l f.number) ⊎ Stays ws l f → (First × Unharmed ws l f.number) ⊎ Stays ws l f
    later (inl h) = inl (inr h.0, h.1)
    later (inr h) = inr h

    from : (Stays (vs ++ ws) l f → (Stays vs l f × Unharmed ws l f.number) ⊎ Stays ws l f) → Whole → (First × Unharmed ws l f.number) ⊎ Stays ws l f
    from ih (inl h) = let u = (unharmed_append vs ws l f.number).0 h.1 in inl (inl (h.0, u.0), u.1)
    from ih (inr h) = later (ih h)

    to : ((Stays vs l f × Unharmed ws l f.number) ⊎ Stays ws l f → Stays (vs ++ ws) l f) → (First × Unharmed ws l f.number) ⊎ Stays ws l f → Whole
    to ih (inl (inl h, u)) = inl (h.0, (unharmed_append vs ws l f.number).1 (h.1, u))
    to ih (inl (inr h, u)) = inr (ih (inl (h, u)))
    to ih (inr h) = inr (ih (inr h))
stays_append (did_point j k ∷ vs) ws l f = stays_append vs ws l f
stays_append (did_count c ∷ vs) ws l f = stays_append vs ws l f

-- ---- a history
-- a file is at a level afterwards exactly if it was there and is not deleted, or was added and stays
pub run_stays : (p : Profile) (s : State) (cs : List Call) (l : ℕ) → l < length s.files → (f : File)
    → In f (level (run p s cs) l) ↔ ((In f (level s l) × Unharmed (events p s cs) l f.number) ⊎ Stays (events p s cs) l f)
unfolding run events
run_stays p s [] l h f = (λ m. inl (m, tt), λ k. go k)
  where
    go : (In f (level s l) × Unit {0}) ⊎ ⊥ → In f (level s l)
    go (inl k) = k.0
    go (inr z) = absurd z
run_stays p s (c ∷ cs) l h f =
    let t = after p s c in
    let ih = run_stays p t cs l (omega (arith, call_levels p s c)) f in
    let one = call_one p s l h f c in
    (λ m. from one.0 (ih.0 m), λ k. ih.1 (to one.1 k))
  where
    vs : List Event
    vs = event p s c

    ws : List Event
    ws = events p (after p s c) cs

    n : ℕ
    n = f.number

    Whole : Type 0
    Whole = (In f (level s l) × Unharmed (vs ++ ws) l n) ⊎ Stays (vs ++ ws) l f

    step : (In f (level s l) × Unharmed vs l n) ⊎ Stays vs l f → Unharmed ws l n → Whole
    step (inl a) u = inl (a.0, (unharmed_append vs ws l n).1 (a.1, u))
    step (inr a) u = inr ((stays_append vs ws l f).1 (inl (a, u)))

    from : (In f (level (after p s c) l) → (In f (level s l) × Unharmed vs l n) ⊎ Stays vs l f) → (In f (level (after p s c) l) × Unharmed ws l n) ⊎ Stays ws l f → Whole
    from o (inl a) = step (o a.0) a.1
    from o (inr a) = inr ((stays_append vs ws l f).1 (inr a))

    back : ((In f (level s l) × Unharmed vs l n) ⊎ Stays vs l f → In f (level (after p s c) l)) → (Stays vs l f × Unharmed ws l n) ⊎ Stays ws l f → (In f (level (after p s c) l) × Unharmed ws l n) ⊎ Stays ws l f
    back o (inl a) = inl (o (inr a.0), a.1)
    back o (inr a) = inr a

    to : ((In f (level s l) × Unharmed vs l n) ⊎ Stays vs l f → In f (level (after p s c) l)) → Whole → (In f (level (after p s c) l) × Unharmed ws l n) ⊎ Stays ws l f
    to o (inl a) = let u = (unharmed_append vs ws l n).0 a.1 in inl (o (inl (a.0, u.0)), u.1)
    to o (inr a) = back o ((stays_append vs ws l f).0 a)

-- from a fresh store: a file is at a level exactly if it stays there
pub fresh_stays : (p : Profile) (cs : List Call) (l : ℕ) → l < p.levels → (f : File) → In f (level (run p (fresh p) cs) l) ↔ Stays (events p (fresh p) cs) l f
unfolding fresh level
fresh_stays p cs l h f =
    let r = run_stays p (fresh p) cs l (rw length-replicate h) f in
    (λ m. go (r.0 m), λ k. r.1 (inr k))
  where
    go : (In f (get_or (replicate p.levels []) l []) × Unharmed (events p (fresh p) cs) l f.number) ⊎ Stays (events p (fresh p) cs) l f → Stays (events p (fresh p) cs) l f
    go (inl a) = absurd (not-nil (subst (λ (fs : List File). In f fs) (get_or_same p.levels l []) a.0))
    go (inr a) = a

-- ---- counters
-- after two lists of events joined
counters_left_append : (vs ws : List Event) (c : Counters) → counters_left (vs ++ ws) c ≡ counters_left ws (counters_left vs c)
unfolding counters_left
counters_left_append [] ws c = refl
counters_left_append (did_edit e ∷ vs) ws c = counters_left_append vs ws (logged e.log c)
counters_left_append (did_point j k ∷ vs) ws c = counters_left_append vs ws c
counters_left_append (did_count d ∷ vs) ws c = counters_left_append vs ws (counted d c)

-- after one call
call_counters : (p : Profile) (s : State) (c : Call) → (after p s c).counters ≡ counters_left (event p s c) s.counters
unfolding after event kept kept_pick did did_pick counters_left applied set_pointer set_counters
call_counters p s (edits e) = go (edit p s e) refl
  where
    go : (o : Answer State) → edit p s e ≡ o → (kept s o).counters ≡ counters_left (did o (did_edit e)) s.counters
    go (gives t) h = ap (λ (u : State). u.counters) (sym (edit_accepted p s e t h).result)
    go (refused n) h = refl
call_counters p s (picks_size m) = go (size_pick p s m) refl
  where
    go : (o : Answer Pick) → size_pick p s m ≡ o → (kept_pick s o).counters ≡ counters_left (did_pick o) s.counters
    go (gives k) h = ap (λ (u : State). u.counters) (pick_after_size p s m k h)
    go (refused n) h = refl
call_counters p s (picks_range m l a b) = go (manual_pick p s m l a b) refl
  where
    go : (o : Answer Pick) → manual_pick p s m l a b ≡ o → (kept_pick s o).counters ≡ counters_left (did_pick o) s.counters
    go (gives k) h = ap (λ (u : State). u.counters) (pick_after_range p s m l a b k h)
    go (refused n) h = refl
call_counters p s (counts c) = go (counter p s c) refl
  where
    go : (o : Answer State) → counter p s c ≡ o → (kept s o).counters ≡ counters_left (did o (did_count c)) s.counters
    go (gives t) h = ap (λ (u : State). u.counters) (sym (count_accepted p s c t h).result)
    go (refused n) h = refl

-- after a history: as the events say
pub run_counters : (p : Profile) (s : State) (cs : List Call) → (run p s cs).counters ≡ counters_left (events p s cs) s.counters
unfolding run events counters_left
run_counters p s [] = refl
run_counters p s (c ∷ cs) = run_counters p (after p s c) cs
    ∙ ap (λ (x : Counters). counters_left (events p (after p s c) cs) x) (call_counters p s c)
    ∙ sym (counters_left_append (event p s c) (events p (after p s c) cs) s.counters)

-- ---- pointers
-- after the pointers of an edit: the last for the level
pointed_at : (qs : List Pointer) (ps : List (Option Key)) (l : ℕ) → l < length ps → get_or (pointed qs ps) l none ≡ last_of qs l (get_or ps l none)
unfolding pointed last_of
pointed_at [] ps l h = refl
pointed_at (q ∷ qs) ps l h = pointed_at qs (set ps q.level (some q.key)) l (omega (arith, length-set ps q.level (some q.key)))
    ∙ ap (λ (o : Option Key). last_of qs l o) (get_d_set ps q.level l (some q.key) none h)

-- after two lists of events joined
pointer_left_append : (vs ws : List Event) (l : ℕ) (o : Option Key) → pointer_left (vs ++ ws) l o ≡ pointer_left ws l (pointer_left vs l o)
unfolding pointer_left
pointer_left_append [] ws l o = refl
pointer_left_append (did_edit e ∷ vs) ws l o = pointer_left_append vs ws l (last_of e.pointers l o)
pointer_left_append (did_point j k ∷ vs) ws l o = pointer_left_append vs ws l (cond (eqb j l) (some k) o)
pointer_left_append (did_count d ∷ vs) ws l o = pointer_left_append vs ws l o

-- a call leaves each pointer as its events say, and keeps their number
pub record Pointing (s t : State) (vs : List Event) : Type 0 where
  pub same_length : length t.pointers ≡ length s.pointers
  pub at : (l : ℕ) → l < length s.pointers → pointer t l ≡ pointer_left vs l (pointer s l)

-- a call that sets no pointer
unmoved : (s t : State) (vs : List Event) → t.pointers ≡ s.pointers → ((l : ℕ) (o : Option Key) → pointer_left vs l o ≡ o) → Pointing s t vs
unfolding pointer
unmoved s t vs e u = record {
  same_length = ap (λ (x : List (Option Key)). length x) e;
  at = λ l h. ap (λ (x : List (Option Key)). get_or x l none) e ∙ sym (u l (get_or s.pointers l none));
}

-- an accepted pick sets one
pick_pointing : (p : Profile) (s : State) (k : Pick) → k.after ≡ set_pointer s k.picked.level (high_key k.picked.first)
    → Pointing s k.after (did_point k.picked.level (high_key k.picked.first) ∷ [])
unfolding pointer_left set_pointer pointer
pick_pointing p s k e = record {
  same_length = ap (λ (u : State). length u.pointers) e ∙ length-set s.pointers k.picked.level (some (high_key k.picked.first));
  at = λ l i. ap (λ (u : State). get_or u.pointers l none) e ∙ get_d_set s.pointers k.picked.level l (some (high_key k.picked.first)) none i;
}

-- any call
call_pointing : (p : Profile) (s : State) (c : Call) → Pointing s (after p s c) (event p s c)
unfolding after event kept kept_pick did did_pick pointer_left applied set_pointer set_counters pointer
call_pointing p s (edits e) = go (edit p s e) refl
  where
    go : (o : Answer State) → edit p s e ≡ o → Pointing s (kept s o) (did o (did_edit e))
    go (gives t) h = let a = edit_accepted p s e t h in record {
      same_length = ap (λ (u : State). length u.pointers) (sym a.result) ∙ pointed_length e.pointers s.pointers;
      at = λ l i. ap (λ (u : State). get_or u.pointers l none) (sym a.result) ∙ pointed_at e.pointers s.pointers l i;
    }
    go (refused n) h = unmoved s s [] refl (λ l o. refl)
call_pointing p s (picks_size m) = go (size_pick p s m) refl
  where
    go : (o : Answer Pick) → size_pick p s m ≡ o → Pointing s (kept_pick s o) (did_pick o)
    go (gives k) h = pick_pointing p s k (pick_after_size p s m k h)
    go (refused n) h = unmoved s s [] refl (λ l o. refl)
call_pointing p s (picks_range m l a b) = go (manual_pick p s m l a b) refl
  where
    go : (o : Answer Pick) → manual_pick p s m l a b ≡ o → Pointing s (kept_pick s o) (did_pick o)
    go (gives k) h = pick_pointing p s k (pick_after_range p s m l a b k h)
    go (refused n) h = unmoved s s [] refl (λ l o. refl)
call_pointing p s (counts c) = go (counter p s c) refl
  where
    go : (o : Answer State) → counter p s c ≡ o → Pointing s (kept s o) (did o (did_count c))
    go (gives t) h = unmoved s t (did_count c ∷ []) (ap (λ (u : State). u.pointers) (sym (count_accepted p s c t h).result)) (λ l o. refl)
    go (refused n) h = unmoved s s [] refl (λ l o. refl)

-- after a history: as the events say
pub run_pointers : (p : Profile) (s : State) (cs : List Call) (l : ℕ) → l < length s.pointers → pointer (run p s cs) l ≡ pointer_left (events p s cs) l (pointer s l)
unfolding run events pointer_left
run_pointers p s [] l h = refl
run_pointers p s (c ∷ cs) l h =
    let q = call_pointing p s c in
    run_pointers p (after p s c) cs l (omega (arith, q.same_length))
    ∙ ap (λ (o : Option Key). pointer_left (events p (after p s c) cs) l o) (q.at l h)
    ∙ sym (pointer_left_append (event p s c) (events p (after p s c) cs) l (pointer s l))
