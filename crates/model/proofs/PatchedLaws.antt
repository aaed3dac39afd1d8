-- A list of differences applied: what any list makes of a state, and that what differs makes of the left the right. Assumes nothing.
use Prim.Native.Nat.{ℕ, zero, suc, ◌<◌}
use Rattle.std.specs.Prelude.{◌≡◌, ◌↔◌, ◌⊎◌, Bool, cond, true, eqb, length}
use Rattle.std.proofs.Math.Path.{refl, ap, sym, subst}
use Rattle.std.proofs.Common.{◌∙◌, inl, inr, eqb-true, eq-eqb, arith}
use Rattle.std.proofs.Math.Bool.{false, not}
use mathlib.Core.List.Memᴰ.{append_cases}
use mathlib.Core.List.Memᴰ.{append_left as in_left}
use mathlib.Core.List.Memᴰ.{append_right as in_right}
use mathlib.Core.List.Memᴰ.{head as here}
use mathlib.Core.List.Memᴰ.{not-nil}
use mathlib.Core.List.Memᴰ.{tail as there}
use mathlib.Core.List.{List, [], ◌∷◌, ◌++◌, map, Memᴰ as In}
use Rattle.std.proofs.Math.Option.{Option, none}
use Rattle.std.proofs.lemmas.Bool.{eqb-false, not-true}
use Rattle.std.proofs.lemmas.List.{length-map}
use Rattle.lemmas.specs.Order.{clash}
use Rattle.lemmas.specs.Lists.{push, keep, any, sort, chain, join, up_from, distinct}
use Rattle.lemmas.specs.ListLaws.{any_in, keep_in, sort_in}
use Rattle.lemmas.specs.Slices.{get_or_map}
use Rattle.lemmas.specs.Maps.{of_join_map, map_same}
use Rattle.lemmas.specs.UpFrom.{made_of, made_at}
use Rattle.lemmas.specs.Once.{Once, in_any, in_join_map, once_keep, once_append, once_join, once_distinct, distinct_once, strict_once, once_one}
use Rattle.model.specs.Key.{Key}
use Rattle.model.specs.File.{Profile, File, State, level, pointer, by_smallest, numbers}
use Rattle.model.specs.Snapshot.{by_number, five_of, from_five, encode, counter_count}
use Rattle.model.proofs.Formed.{WF}
use Rattle.model.specs.ByNumber.{one_number, same_by_number}
use Rattle.model.proofs.Reading.{in_read_order, as_read, as_read_formed, as_read_bytes}
use Rattle.model.specs.Difference.{Difference, only_left, only_right, changed, pointer_is, counter_is, place, earlier, names, same_pointer, counter_at, differences, Listed}
use Rattle.model.specs.Patched.{brings, patched_level, pointer_by, pointer_after, counter_by, counter_after, patched}
use Rattle.model.proofs.DifferenceListedLaws.{number_there, pointer_says, fails, listed_sound, numbers_once, listed_complete}
use Rattle.model.proofs.DifferenceOrderLaws.{earlier_order, place_same, files_place, names_place, differences_once}
use Rattle.model.proofs.DifferenceLaws.{left_fate, right_fate, level_members}

-- ---- a list applied to a left state
-- an item put in front of nothing, or not
pushed : (b : Bool) (g f : File) → In f (push b g []) → (b ≡ true) × (f ≡ g)
unfolding push
pushed true g f (here e) = (refl, e)
pushed true g f (there m) = absurd (not-nil m)
pushed false g f m = absurd (not-nil m)

-- a file that an entry brings
pub brings_says : (l : ℕ) (d : Difference) (f : File) → In f (brings l d) → (d ≡ only_right l f) ⊎ (d ≡ changed l f)
unfolding brings
brings_says l (only_left m k) f i = absurd (not-nil i)
brings_says l (only_right m g) f i = let w = pushed (eqb m l) g f i in let q : m ≡ l = eqb-true m l w.0 in let e : f ≡ g = w.1 in inl (cc)
brings_says l (changed m g) f i = let w = pushed (eqb m l) g f i in let q : m ≡ l = eqb-true m l w.0 in let e : f ≡ g = w.1 in inr (cc)
brings_says l (pointer_is m o) f i = absurd (not-nil i)
brings_says l (counter_is k v) f i = absurd (not-nil i)

-- an entry of the right brings its file
brings_right : (l : ℕ) (f : File) → In f (brings l (only_right l f))
unfolding brings push
brings_right l f = let e : eqb l l ≡ true = eq-eqb l l refl in rw e (here refl)

-- and so does a changed one
brings_changed : (l : ℕ) (f : File) → In f (brings l (changed l f))
unfolding brings push
brings_changed l f = let e : eqb l l ≡ true = eq-eqb l l refl in rw e (here refl)

-- the files of a level after a list: those that no entry names, and those that entries bring
pub patched_level_lem : (ds : List Difference) (l : ℕ) (fs : List File) (f : File)
    → In f (patched_level ds l fs) ↔ ((In f fs × (any (names l f.number) ds ≡ false)) ⊎ (In (only_right l f) ds ⊎ In (changed l f) ds))
unfolding patched_level
patched_level_lem ds l fs f = (
  λ m. from (append_cases kept ((sort_in by_number (kept ++ brought) f).0 ((sort_in by_smallest (sort by_number (kept ++ brought)) f).0 m))),
  λ h. (sort_in by_smallest (sort by_number (kept ++ brought)) f).1 ((sort_in by_number (kept ++ brought) f).1 (to h)),
)
  where
    kept : List File
    kept = keep (λ (f : File). not (any (names l f.number) ds)) fs

    brought : List File
    brought = join (map (brings l) ds)

    Goal : Type 0
    Goal = (In f fs × (any (names l f.number) ds ≡ false)) ⊎ (In (only_right l f) ds ⊎ In (changed l f) ds)

    either : (d : Difference) → In d ds → (d ≡ only_right l f) ⊎ (d ≡ changed l f) → Goal
    either d m (inl e) = inr (inl (subst (λ (x : Difference). In x ds) e m))
    either d m (inr e) = inr (inr (subst (λ (x : Difference). In x ds) e m))

    from : In f kept ⊎ In f brought → Goal
    from (inl m) = let k = (keep_in (λ (f : File). not (any (names l f.number) ds)) fs f).0 m in inl (k.0, not-true (any (names l f.number) ds) k.1)
    from (inr m) = let w = of_join_map (brings l) ds f m in either w.0 w.1 (brings_says l w.0 f w.2)

    to : Goal → In f (kept ++ brought)
    to (inl h) = in_left brought ((keep_in (λ (f : File). not (any (names l f.number) ds)) fs f).1 (h.0, rw h.1))
    to (inr (inl m)) = in_right kept (in_join_map (brings l) ds (only_right l f) f m (brings_right l f))
    to (inr (inr m)) = in_right kept (in_join_map (brings l) ds (changed l f) f m (brings_changed l f))

-- no entry names the number
unnamed : (l n : ℕ) (ds : List Difference) → ((d : Difference) → In d ds → place d ≡ 0 ∷ l ∷ n ∷ [] → ⊥) → any (names l n) ds ≡ false
unnamed l n ds h = fails (any (names l n) ds) (λ e. let w = any_in (names l n) ds e in h w.0 w.1 ((names_place l n w.0).0 w.2))

-- some entry does
is_named : (l n : ℕ) (ds : List Difference) (d : Difference) → In d ds → place d ≡ 0 ∷ l ∷ n ∷ [] → any (names l n) ds ≡ true
is_named l n ds d m e = in_any (names l n) ds d m ((names_place l n d).1 e)

-- one item, or none
once_pushed : (b : Bool) (g : File) → Once (λ (f : File). f.number) (push b g [])
unfolding Once push
once_pushed true g = (λ y m. absurd (not-nil m), tt)
once_pushed false g = tt

-- no number twice at a level after a list that has no place twice
once_brought : (l : ℕ) (d : Difference) → Once (λ (f : File). f.number) (brings l d)
unfolding brings Once
once_brought l (only_left m k) = tt
once_brought l (only_right m g) = once_pushed (eqb m l) g
once_brought l (changed m g) = once_pushed (eqb m l) g
once_brought l (pointer_is m o) = tt
once_brought l (counter_is i v) = tt

-- the place of an entry that brings a file
brings_place : (l : ℕ) (d : Difference) (f : File) → In f (brings l d) → place d ≡ 0 ∷ l ∷ f.number ∷ []
unfolding place
brings_place l d f m = go (brings_says l d f m)
  where
    go : (d ≡ only_right l f) ⊎ (d ≡ changed l f) → place d ≡ 0 ∷ l ∷ f.number ∷ []
    go (inl e) = ap place e
    go (inr e) = ap place e

-- no number twice among what is kept and what is brought
pub patched_distinct : (ds : List Difference) (l : ℕ) (fs : List File) → Once place ds → distinct (numbers fs) ≡ true
    → distinct (numbers (keep (λ f. not (any (names l f.number) ds)) fs ++ join (map (brings l) ds))) ≡ true
unfolding numbers
patched_distinct ds l fs o d =
    once_distinct (λ (f : File). f.number) (keep (λ f. not (any (names l f.number) ds)) fs ++ join (map (brings l) ds))
    (once_append (λ (f : File). f.number) (keep (λ f. not (any (names l f.number) ds)) fs) (join (map (brings l) ds))
    (once_keep (λ (f : File). f.number) (λ f. not (any (names l f.number) ds)) fs (distinct_once (λ (f : File). f.number) fs d))
    (once_join (λ (f : File). f.number) place (brings l) ds o (λ e m. once_brought l e) brought) cross)
  where
    brought : (d e : Difference) (f g : File) → In f (brings l d) → In g (brings l e) → f.number ≡ g.number → place d ≡ place e
    brought d e f g i j n = brings_place l d f i ∙ ap (λ (k : ℕ). 0 ∷ l ∷ k ∷ []) n ∙ sym (brings_place l e g j)

    cross : (f g : File) → In f (keep (λ f. not (any (names l f.number) ds)) fs) → In g (join (map (brings l) ds)) → f.number ≡ g.number → ⊥
    cross f g i j n =
        let k = (keep_in (λ (f : File). not (any (names l f.number) ds)) fs f).0 i in
        let w = of_join_map (brings l) ds g j in
        clash (is_named l f.number ds w.0 w.1 (brings_place l w.0 g w.2 ∙ ap (λ (k : ℕ). 0 ∷ l ∷ k ∷ []) (sym n))) (not-true (any (names l f.number) ds) k.1)

module _ (p : Profile) (s t : State) (ws : WF p s) (wt : WF p t) where
  -- the left's level after the list has the right's files
  level_right : (l : ℕ) (f : File) → In f (patched_level (differences s t) l (level s l)) ↔ In f (level t l)
  unfolding Listed place
  level_right l f = (λ m. from ((patched_level_lem (differences s t) l (level s l) f).0 m), λ m. (patched_level_lem (differences s t) l (level s l) f).1 (to m (right_fate s t l f m)))
    where
      kept : any (names l f.number) (differences s t) ≡ false → Listed s t (only_left l f.number) ⊎ (In f (level t l) ⊎ ((g : File) × (f.number ≡ g.number) × Listed s t (changed l g))) → In f (level t l)
      kept u (inl h) = clash (is_named l f.number (differences s t) (only_left l f.number) (listed_complete p s t ws wt (only_left l f.number) h) refl) u
      kept u (inr (inl m)) = m
      kept u (inr (inr h)) = clash (is_named l f.number (differences s t) (changed l h.0) (listed_complete p s t ws wt (changed l h.0) h.2) (ap (λ (k : ℕ). 0 ∷ l ∷ k ∷ []) (sym h.1))) u

      from : (In f (level s l) × (any (names l f.number) (differences s t) ≡ false)) ⊎ (In (only_right l f) (differences s t) ⊎ In (changed l f) (differences s t)) → In f (level t l)
      from (inl h) = kept h.1 (left_fate s t l f h.0)
      from (inr (inl m)) = (listed_sound s t (only_right l f) m).0
      from (inr (inr m)) = (listed_sound s t (changed l f) m).0

      -- a file that both have is named by no entry
      free : In f (level s l) → In f (level t l) → (d : Difference) → Listed s t d → place d ≡ 0 ∷ l ∷ f.number ∷ [] → ⊥
      free i j (only_left m n) h q = let r = files_place m l n f.number q in clash (number_there (level t l) f j) (rw (r.0, r.1) at h.1)
      free i j (only_right m g) h q = let r = files_place m l g.number f.number q in clash (number_there (level s l) f i) (rw (r.0, r.1) at h.1)
      free i j (changed m g) h q =
          let r = files_place m l g.number f.number q in
          let v = h.1 in
          let a : g ≡ f = one_number (level t l) (numbers_once p t wt l) g f (subst (λ (k : ℕ). In g (level t k)) r.0 h.0) j r.1 in
          let b : v.0 ≡ f = one_number (level s l) (numbers_once p s ws l) v.0 f (subst (λ (k : ℕ). In v.0 (level s k)) r.0 v.1) i (v.2 ∙ r.1) in
          v.3 (b ∙ sym a)
      free i j (pointer_is m o) h q = let z : ◌≡◌ {A = ℕ} 1 0 = cc in omega arith
      free i j (counter_is k v) h q = let z : ◌≡◌ {A = ℕ} 2 0 = cc in omega arith

      to : In f (level t l) → Listed s t (only_right l f) ⊎ (In f (level s l) ⊎ Listed s t (changed l f))
          → (In f (level s l) × (any (names l f.number) (differences s t) ≡ false)) ⊎ (In (only_right l f) (differences s t) ⊎ In (changed l f) (differences s t))
      to m (inl h) = inr (inl (listed_complete p s t ws wt (only_right l f) h))
      to m (inr (inl i)) = inl (i, unnamed l f.number (differences s t) (λ d k. free i m d (listed_sound s t d k)))
      to m (inr (inr h)) = inr (inr (listed_complete p s t ws wt (changed l f) h))

  -- and is the right's level as it is read
  level_read : (l : ℕ) → patched_level (differences s t) l (level s l) ≡ in_read_order (level t l)
  unfolding patched_level in_read_order
  level_read l = ap (sort by_smallest) (same_by_number both_parts (level t l) (patched_distinct (differences s t) l (level s l) (differences_once p s t ws wt) (numbers_once p s ws l)) (numbers_once p t wt l) members)
    where
      both_parts : List File
      both_parts = keep (λ f. not (any (names l f.number) (differences s t))) (level s l) ++ join (map (brings l) (differences s t))

      members : (f : File) → In f both_parts ↔ In f (level t l)
      members f = (
        λ m. (level_right l f).0 ((sort_in by_smallest (sort by_number both_parts) f).1 ((sort_in by_number both_parts f).1 m)),
        λ m. (sort_in by_number both_parts f).0 ((sort_in by_smallest (sort by_number both_parts) f).0 ((level_right l f).1 m)),
      )

-- ---- pointers and counters after a list
-- what holds of the old pointer and of each one that an entry has for the level holds of the pointer after a list
pub pointer_kept : (P : Option Key → Type 0) (l : ℕ) (ds : List Difference) (old : Option Key) → ((o : Option Key) → In (pointer_is l o) ds → P o) → P old → P (pointer_after l ds old)
unfolding pointer_after pointer_by
pointer_kept P l [] old h k = k
pointer_kept P l (only_left m n ∷ ds) old h k = pointer_kept P l ds old (λ o i. h o (there i)) k
pointer_kept P l (only_right m f ∷ ds) old h k = pointer_kept P l ds old (λ o i. h o (there i)) k
pointer_kept P l (changed m f ∷ ds) old h k = pointer_kept P l ds old (λ o i. h o (there i)) k
pointer_kept P l (pointer_is m q ∷ ds) old h k = pointer_kept P l ds (cond (eqb m l) q old) (λ o i. h o (there i)) (go (eqb m l) refl)
  where
    go : (b : Bool) → eqb m l ≡ b → P (cond b q old)
    go true e = h q (here (ap (λ (n : ℕ). pointer_is n q) (sym (eqb-true m l e))))
    go false e = k
pointer_kept P l (counter_is i v ∷ ds) old h k = pointer_kept P l ds old (λ o i. h o (there i)) k

-- every pointer for the level is this one, and there is one: it comes
pointer_comes : (l : ℕ) (v : Option Key) (ds : List Difference) (old : Option Key) → ((o : Option Key) → In (pointer_is l o) ds → o ≡ v) → In (pointer_is l v) ds → pointer_after l ds old ≡ v
unfolding pointer_after pointer_by
pointer_comes l v [] old h x'' = elim x'' [ ]
pointer_comes l v (d ∷ ds) old h (here e) =
    let q : eqb l l ≡ true = eq-eqb l l refl in
    let r : pointer_by l (pointer_is l v) old ≡ v = rw q in
    pointer_kept (λ o. o ≡ v) l ds (pointer_by l d old) (λ o m. h o (there m)) (ap (λ (x : Difference). pointer_by l x old) (sym e) ∙ r)
pointer_comes l v (d ∷ ds) old h (there m) = pointer_comes l v ds (pointer_by l d old) (λ o k. h o (there k)) m

-- the same for counters
pub counter_kept : (P : ℕ → Type 0) (i : ℕ) (ds : List Difference) (old : ℕ) → ((v : ℕ) → In (counter_is i v) ds → P v) → P old → P (counter_after i ds old)
unfolding counter_after counter_by
counter_kept P i [] old h k = k
counter_kept P i (only_left m n ∷ ds) old h k = counter_kept P i ds old (λ v j. h v (there j)) k
counter_kept P i (only_right m f ∷ ds) old h k = counter_kept P i ds old (λ v j. h v (there j)) k
counter_kept P i (changed m f ∷ ds) old h k = counter_kept P i ds old (λ v j. h v (there j)) k
counter_kept P i (pointer_is m o ∷ ds) old h k = counter_kept P i ds old (λ v j. h v (there j)) k
counter_kept P i (counter_is m q ∷ ds) old h k = counter_kept P i ds (cond (eqb m i) q old) (λ v j. h v (there j)) (go (eqb m i) refl)
  where
    go : (b : Bool) → eqb m i ≡ b → P (cond b q old)
    go true e = h q (here (ap (λ (n : ℕ). counter_is n q) (sym (eqb-true m i e))))
    go false e = k

-- every number for the counter is this one, and there is one: it comes
counter_comes : (i v : ℕ) (ds : List Difference) (old : ℕ) → ((w : ℕ) → In (counter_is i w) ds → w ≡ v) → In (counter_is i v) ds → counter_after i ds old ≡ v
unfolding counter_after counter_by
counter_comes i v [] old h x'' = elim x'' [ ]
counter_comes i v (d ∷ ds) old h (here e) =
    let q : eqb i i ≡ true = eq-eqb i i refl in
    let r : counter_by i (counter_is i v) old ≡ v = rw q in
    counter_kept (λ w. w ≡ v) i ds (counter_by i d old) (λ w m. h w (there m)) (ap (λ (x : Difference). counter_by i x old) (sym e) ∙ r)
counter_comes i v (d ∷ ds) old h (there m) = counter_comes i v ds (counter_by i d old) (λ w k. h w (there k)) m

module _ (p : Profile) (s t : State) (ws : WF p s) (wt : WF p t) where
  -- a pointer after the list is the right's
  pointer_right : (l : ℕ) → pointer_after l (differences s t) (pointer s l) ≡ pointer t l
  unfolding Listed
  pointer_right l = go (same_pointer (pointer s l) (pointer t l)) refl
    where
      right : (o : Option Key) → In (pointer_is l o) (differences s t) → o ≡ pointer t l
      right o m = (listed_sound s t (pointer_is l o) m).0

      go : (b : Bool) → same_pointer (pointer s l) (pointer t l) ≡ b → pointer_after l (differences s t) (pointer s l) ≡ pointer t l
      go true e = pointer_kept (λ o. o ≡ pointer t l) l (differences s t) (pointer s l) right ((pointer_says (pointer s l) (pointer t l)).0 e)
      go false e = pointer_comes l (pointer t l) (differences s t) (pointer s l) right
          (listed_complete p s t ws wt (pointer_is l (pointer t l)) (refl, λ q. clash ((pointer_says (pointer s l) (pointer t l)).1 q) e))

  -- a counter too
  counter_right : (i : ℕ) → counter_after i (differences s t) (counter_at s i) ≡ counter_at t i
  unfolding Listed
  counter_right i = go (eqb (counter_at s i) (counter_at t i)) refl
    where
      right : (v : ℕ) → In (counter_is i v) (differences s t) → v ≡ counter_at t i
      right v m = (listed_sound s t (counter_is i v) m).0

      go : (b : Bool) → eqb (counter_at s i) (counter_at t i) ≡ b → counter_after i (differences s t) (counter_at s i) ≡ counter_at t i
      go true e = counter_kept (λ v. v ≡ counter_at t i) i (differences s t) (counter_at s i) right (eqb-true (counter_at s i) (counter_at t i) e)
      go false e = counter_comes i (counter_at t i) (differences s t) (counter_at s i) right (listed_complete p s t ws wt (counter_is i (counter_at t i)) (refl, eqb-false (counter_at s i) (counter_at t i) e))

  -- the files
  files_right : (patched s (differences s t)).files ≡ (as_read t).files
  unfolding patched as_read level
  files_right = sym (made_of (λ l. patched_level (differences s t) l (level s l)) (length s.files) [] (map in_read_order t.files) (length-map t.files in_read_order ∙ wt.levels ∙ sym ws.levels)
      (λ l h. get_or_map in_read_order t.files l [] [] (omega (arith, ws.levels, wt.levels)) ∙ sym (level_read p s t ws wt l)))

  -- the pointers
  pointers_right : (patched s (differences s t)).pointers ≡ (as_read t).pointers
  unfolding patched as_read pointer
  pointers_right = sym (made_of (λ l. pointer_after l (differences s t) (pointer s l)) (length s.pointers) none t.pointers (wt.pointer_levels ∙ sym ws.pointer_levels) (λ l h. sym (pointer_right l)))

  -- the counters
  counters_right : (patched s (differences s t)).counters ≡ (as_read t).counters
  unfolding patched as_read from_five up_from counter_at five_of
  counters_right = λ j. record { next = counter_right 0 j; manifest = counter_right 1 j; last = counter_right 2 j; log = counter_right 3 j; previous = counter_right 4 j }

  -- the list applied to the left gives the right, as a snapshot of it is read
  pub patched_right : patched s (differences s t) ≡ as_read t
  patched_right = λ j. record { files = files_right j; pointers = pointers_right j; counters = counters_right j }

  -- so it writes the right's very bytes
  pub patched_bytes : encode (patched s (differences s t)) ≡ encode t
  patched_bytes = ap encode patched_right ∙ as_read_bytes p t wt

-- ---- a list of any kind, applied to a state
module _ (s : State) (ds : List Difference) where
  -- the files of a level: those that no entry names, and those that entries bring
  pub patched_file : (l : ℕ) → l < length s.files → (f : File)
      → In f (level (patched s ds) l) ↔ ((In f (level s l) × (any (names l f.number) ds ≡ false)) ⊎ (In (only_right l f) ds ⊎ In (changed l f) ds))
  unfolding patched level
  patched_file l h f =
      subst (λ (fs : List File). In f fs ↔ ((In f (level s l) × (any (names l f.number) ds ≡ false)) ⊎ (In (only_right l f) ds ⊎ In (changed l f) ds)))
      (sym (made_at (λ l. patched_level ds l (level s l)) (length s.files) l [] h)) (patched_level_lem ds l (level s l) f)

  -- a pointer for which there is an entry becomes the entry's; every other stays
  pub patched_pointer : (l : ℕ) → l < length s.pointers → pointer (patched s ds) l ≡ pointer_after l ds (pointer s l)
  unfolding patched pointer
  patched_pointer l h = made_at (λ l. pointer_after l ds (pointer s l)) (length s.pointers) l none h

  -- a counter too
  pub patched_counter : (i : ℕ) → i < 5 → counter_at (patched s ds) i ≡ counter_after i ds (counter_at s i)
  unfolding patched counter_at from_five five_of up_from
  patched_counter zero h = refl
  patched_counter (suc zero) h = refl
  patched_counter (suc (suc zero)) h = refl
  patched_counter (suc (suc (suc zero))) h = refl
  patched_counter (suc (suc (suc (suc zero)))) h = refl
  patched_counter (suc (suc (suc (suc (suc i))))) h = absurd (omega arith)

-- what an entry says of a level's pointer holds after a list in order, and where there is no entry the old one stays
pub pointer_after_lem : (l : ℕ) (ds : List Difference) (old : Option Key) → chain earlier ds ≡ true
    → ((o : Option Key) → In (pointer_is l o) ds → pointer_after l ds old ≡ o) × (((o : Option Key) → In (pointer_is l o) ds → ⊥) → pointer_after l ds old ≡ old)
unfolding place
pointer_after_lem l ds old c = (
  λ o m. pointer_comes l o ds old (λ q k. same q o (once_one place ds (strict_once earlier earlier_order place place_same ds c) (pointer_is l q) (pointer_is l o) k m refl)) m,
  λ h. pointer_kept (λ o. o ≡ old) l ds old (λ o m. absurd (h o m)) refl,
)
  where
    same : (a b : Option Key) → pointer_is l a ≡ pointer_is l b → a ≡ b
    same a b e = cc

-- and of a counter
pub counter_after_lem : (i : ℕ) (ds : List Difference) (old : ℕ) → chain earlier ds ≡ true
    → ((v : ℕ) → In (counter_is i v) ds → counter_after i ds old ≡ v) × (((v : ℕ) → In (counter_is i v) ds → ⊥) → counter_after i ds old ≡ old)
unfolding place
counter_after_lem i ds old c = (
  λ v m. counter_comes i v ds old (λ q k. same q v (once_one place ds (strict_once earlier earlier_order place place_same ds c) (counter_is i q) (counter_is i v) k m refl)) m,
  λ h. counter_kept (λ v. v ≡ old) i ds old (λ v m. absurd (h v m)) refl,
)
  where
    same : (a b : ℕ) → counter_is i a ≡ counter_is i b → a ≡ b
    same a b e = cc

-- ---- a list in order makes the same of a state as of the state as read
module _ (p : Profile) (s : State) (w : WF p s) (ds : List Difference) (c : chain earlier ds ≡ true) where
  -- at each level
  patched_level_read : (l : ℕ) → patched_level ds l (level (as_read s) l) ≡ patched_level ds l (level s l)
  unfolding patched_level
  patched_level_read l =
      let o = strict_once earlier earlier_order place place_same ds c in
      ap (sort by_smallest) (same_by_number (parts (level (as_read s) l)) (parts (level s l))
      (patched_distinct ds l (level (as_read s) l) o (numbers_once p (as_read s) (as_read_formed p s w) l)) (patched_distinct ds l (level s l) o (numbers_once p s w l))
      (λ f. (over (level (as_read s) l) (level s l) f (level_members s l f).0, over (level s l) (level (as_read s) l) f (level_members s l f).1)))
    where
      parts : List File → List File
      parts fs = keep (λ f. not (any (names l f.number) ds)) fs ++ join (map (brings l) ds)

      over : (xs ys : List File) (f : File) → (In f xs → In f ys) → In f (parts xs) → In f (parts ys)
      over xs ys f h m = go (append_cases (keep (λ f. not (any (names l f.number) ds)) xs) m)
        where
          go : In f (keep (λ f. not (any (names l f.number) ds)) xs) ⊎ In f (join (map (brings l) ds)) → In f (parts ys)
          go (inl k) = let r = (keep_in (λ (f : File). not (any (names l f.number) ds)) xs f).0 k in in_left (join (map (brings l) ds)) ((keep_in (λ (f : File). not (any (names l f.number) ds)) ys f).1 (h r.0, r.1))
          go (inr k) = in_right (keep (λ f. not (any (names l f.number) ds)) ys) k

  -- and as a whole
  pub patched_read : patched (as_read s) ds ≡ patched s ds
  unfolding patched as_read pointer counter_at
  patched_read = λ j. record { files = files_same j; pointers = pointers_same j; counters = counters_same j }
    where
      files_same : map (λ l. patched_level ds l (level (as_read s) l)) (up_from 0 (length (as_read s).files)) ≡ map (λ l. patched_level ds l (level s l)) (up_from 0 (length s.files))
      files_same = ap (λ (n : ℕ). map (λ l. patched_level ds l (level (as_read s) l)) (up_from 0 n)) (length-map s.files in_read_order)
          ∙ map_same (λ l. patched_level ds l (level (as_read s) l)) (λ l. patched_level ds l (level s l)) (up_from 0 (length s.files)) patched_level_read

      pointers_same : map (λ l. pointer_after l ds (pointer (as_read s) l)) (up_from 0 (length (as_read s).pointers)) ≡ map (λ l. pointer_after l ds (pointer s l)) (up_from 0 (length s.pointers))
      pointers_same = refl

      counters_same : from_five (map (λ i. counter_after i ds (counter_at (as_read s) i)) (up_from 0 counter_count)) ≡ from_five (map (λ i. counter_after i ds (counter_at s i)) (up_from 0 counter_count))
      counters_same = refl
