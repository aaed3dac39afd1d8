-- Nothing is listed exactly between states that write the same bytes, and the list depends on what is written alone. Assumes nothing.
use Rattle.std.specs.Prelude.{ℕ, ◌≡◌, ◌↔◌, ◌⊎◌, Bool, true, false, eqb, get_or}
use Rattle.std.proofs.Math.Path.{refl, sym}
use Rattle.std.proofs.Common.{ap, ◌∙◌, subst, inl, inr, eqb-true, arith}
use mathlib.Core.List.Memᴰ.{not-nil}
use mathlib.Core.List.{List, [], map, Memᴰ as In}
use Rattle.std.proofs.Math.Option.{Option, none}
use Rattle.std.proofs.lemmas.Bool.{eqb-false}
use Rattle.std.proofs.Math.ListN.{get_or-map}
use Rattle.lemmas.specs.Order.{clash}
use Rattle.lemmas.specs.Lists.{sort}
use Rattle.lemmas.specs.ListLaws.{sort_in}
use Rattle.lemmas.specs.Distinct.{same_test}
use Rattle.lemmas.specs.Once.{none_in}
use Rattle.model.specs.Key.{Key}
use Rattle.model.specs.File.{Profile, File, State, level, pointer, by_smallest, Counters}
use Rattle.model.specs.Snapshot.{by_number, five_of, encode}
use Rattle.model.proofs.Formed.{WF}
use Rattle.model.proofs.SnapshotLaws.{SameWritten, encode_apart, Fits, storable, same_bytes_lem}
use Rattle.model.specs.ByNumber.{one_number, same_by_number}
use Rattle.model.proofs.Reading.{in_read_order, as_read, as_read_formed}
use Rattle.model.specs.Difference.{Difference, only_left, only_right, changed, pointer_is, counter_is, has_number, same_contents, same_pointer, counter_at, differences, Listed}
use Rattle.model.proofs.DifferenceListedLaws.{number_there, number_of, same_file_lem, contents_own, pointer_says, listed_sound, within, numbers_once, pointers_by_level, counters_by_place, listed_complete}
use Rattle.model.proofs.DifferenceOrderLaws.{differences_ordered, differences_determined}

-- ---- nothing is listed exactly between states that write the same bytes
module _ (s t : State) where
  -- a file of the left: only the left has its number, or the right has the same file, or another of that number
  pub left_fate : (l : ℕ) (f : File) → In f (level s l) → Listed s t (only_left l f.number) ⊎ (In f (level t l) ⊎ ((g : File) × (f.number ≡ g.number) × Listed s t (changed l g)))
  unfolding Listed
  left_fate l f m = has (has_number f.number (level t l)) refl
    where
      Fate : Type 0
      Fate = ((has_number f.number (level s l) ≡ true) × (has_number f.number (level t l) ≡ false)) ⊎ (In f (level t l)
          ⊎ ((g : File) × (f.number ≡ g.number) × (In g (level t l) × ((h : File) × In h (level s l) × (h.number ≡ g.number) × (h ≡ g → ⊥)))))

      alike : (g : File) → In g (level t l) → f.number ≡ g.number → (b : Bool) → same_contents f g ≡ b → Fate
      alike g k n true e = inr (inl (subst (λ (h : File). In h (level t l)) (sym (same_file_lem f g n e)) k))
      alike g k n false e = inr (inr (g, n, (k, (f, m, n, λ q. clash (subst (λ (h : File). same_contents f h ≡ true) q (contents_own f)) e))))

      has : (b : Bool) → has_number f.number (level t l) ≡ b → Fate
      has false e = inl (number_there (level s l) f m, e)
      has true e = let w = number_of f.number (level t l) e in alike w.0 w.1 (sym w.2) (same_contents f w.0) refl

  -- a file of the right: only the right has its number, or the left has the same file, or another of that number
  pub right_fate : (l : ℕ) (g : File) → In g (level t l) → Listed s t (only_right l g) ⊎ (In g (level s l) ⊎ Listed s t (changed l g))
  unfolding Listed
  right_fate l g m = has (has_number g.number (level s l)) refl
    where
      Fate : Type 0
      Fate = (In g (level t l) × (has_number g.number (level s l) ≡ false)) ⊎ (In g (level s l) ⊎ (In g (level t l) × ((f : File) × In f (level s l) × (f.number ≡ g.number) × (f ≡ g → ⊥))))

      alike : (f : File) → In f (level s l) → f.number ≡ g.number → (b : Bool) → same_contents f g ≡ b → Fate
      alike f k n true e = inr (inl (subst (λ (h : File). In h (level s l)) (same_file_lem f g n e) k))
      alike f k n false e = inr (inr (m, (f, k, n, λ q. clash (subst (λ (h : File). same_contents f h ≡ true) q (contents_own f)) e)))

      has : (b : Bool) → has_number g.number (level s l) ≡ b → Fate
      has false e = inl (m, e)
      has true e = let w = number_of g.number (level s l) e in alike w.0 w.1 w.2 (same_contents w.0 g) refl

module _ (p : Profile) (s t : State) (ws : WF p s) (wt : WF p t) where
  -- nothing is called for: the same bytes
  none_same : ((d : Difference) → Listed s t d → ⊥) → encode s ≡ encode t
  unfolding Listed
  none_same h = same_bytes_lem s t counters pointers levels
    where
      there_too : (l : ℕ) (f : File) → Listed s t (only_left l f.number) ⊎ (In f (level t l) ⊎ ((g : File) × (f.number ≡ g.number) × Listed s t (changed l g))) → In f (level t l)
      there_too l f (inl k) = absurd (h (only_left l f.number) k)
      there_too l f (inr (inl m)) = m
      there_too l f (inr (inr k)) = absurd (h (changed l k.0) k.2)

      here_too : (l : ℕ) (g : File) → Listed s t (only_right l g) ⊎ (In g (level s l) ⊎ Listed s t (changed l g)) → In g (level s l)
      here_too l g (inl k) = absurd (h (only_right l g) k)
      here_too l g (inr (inl m)) = m
      here_too l g (inr (inr k)) = absurd (h (changed l g) k)

      levels : (l : ℕ) → sort by_number (level s l) ≡ sort by_number (level t l)
      levels l = same_by_number (level s l) (level t l) (numbers_once p s ws l) (numbers_once p t wt l)
          (λ f. (λ m. there_too l f (left_fate s t l f m), λ m. here_too l f (right_fate s t l f m)))

      pointer_same : (l : ℕ) → pointer s l ≡ pointer t l
      pointer_same l = go (same_pointer (pointer s l) (pointer t l)) refl
        where
          go : (b : Bool) → same_pointer (pointer s l) (pointer t l) ≡ b → pointer s l ≡ pointer t l
          go true e = (pointer_says (pointer s l) (pointer t l)).0 e
          go false e = absurd (h (pointer_is l (pointer t l)) (refl, λ q. clash ((pointer_says (pointer s l) (pointer t l)).1 q) e))

      pointers : s.pointers ≡ t.pointers
      pointers = pointers_by_level s t (ws.pointer_levels ∙ sym wt.pointer_levels) pointer_same

      counter_same : (i : ℕ) → counter_at s i ≡ counter_at t i
      counter_same i = go (eqb (counter_at s i) (counter_at t i)) refl
        where
          go : (b : Bool) → eqb (counter_at s i) (counter_at t i) ≡ b → counter_at s i ≡ counter_at t i
          go true e = eqb-true (counter_at s i) (counter_at t i) e
          go false e = absurd (h (counter_is i (counter_at t i)) (refl, eqb-false (counter_at s i) (counter_at t i) e))

      counters : s.counters ≡ t.counters
      counters = counters_by_place s t counter_same

  -- the same bytes: nothing is called for
  same_none : Fits p → encode s ≡ encode t → (d : Difference) → Listed s t d → ⊥
  unfolding Listed pointer counter_at
  same_none fit e = never
    where
      w : SameWritten s t
      w = encode_apart s t (storable p s fit ws) (storable p t fit wt) (ws.pointer_levels ∙ sym wt.pointer_levels) e

      to_right : (l : ℕ) (f : File) → In f (level s l) → In f (level t l)
      to_right l f m =
          let k = w.levels l (omega (arith, within s l f m, ws.levels, fit.levels)) in
          (sort_in by_number (level t l) f).0 (subst (λ (fs : List File). In f fs) k ((sort_in by_number (level s l) f).1 m))

      to_left : (l : ℕ) (f : File) → In f (level t l) → In f (level s l)
      to_left l f m =
          let k = w.levels l (omega (arith, within t l f m, wt.levels, fit.levels)) in
          (sort_in by_number (level s l) f).0 (subst (λ (fs : List File). In f fs) (sym k) ((sort_in by_number (level t l) f).1 m))

      level_one : (l : ℕ) (f g : File) → In f (level s l) → In g (level s l) → f.number ≡ g.number → f ≡ g
      level_one l f g m k n = one_number (level s l) (numbers_once p s ws l) f g m k n

      never : (d : Difference) → Listed s t d → ⊥
      never (only_left l n) h =
          let v = number_of n (level s l) h.0 in
          clash (rw v.2 at (number_there (level t l) v.0 (to_right l v.0 v.1))) h.1
      never (only_right l g) h = clash (number_there (level s l) g (to_left l g h.0)) h.1
      never (changed l g) h = let v = h.1 in v.3 (level_one l v.0 g v.1 (to_left l g h.0) v.2)
      never (pointer_is l o) h = h.1 (ap (λ (ps : List (Option Key)). get_or ps l none) w.pointers)
      never (counter_is i v) h = h.1 (ap (λ (c : Counters). get_or (five_of c) i 0) w.counters)

-- nothing is listed if and only if the snapshots are equal bytes
pub nothing_listed : (p : Profile) → Fits p → (s t : State) → WF p s → WF p t → (differences s t ≡ []) ↔ (encode s ≡ encode t)
nothing_listed p fit s t ws wt = (
  λ e. none_same p s t ws wt (λ d h. not-nil (subst (λ (ds : List Difference). In d ds) e (listed_complete p s t ws wt d h))),
  λ e. none_in (differences s t) (λ d m. same_none p s t ws wt fit e d (listed_sound s t d m)),
)

-- ---- the list depends on what is written alone
-- a level as read has the same files
pub level_members : (s : State) (l : ℕ) (f : File) → In f (level (as_read s) l) ↔ In f (level s l)
unfolding as_read level in_read_order sort
level_members s l f =
    let fs = get_or s.files l [] in
    let e : get_or (map in_read_order s.files) l [] ≡ in_read_order fs = get_or-map in_read_order s.files l [] in (
      λ m. (sort_in by_number fs f).0 ((sort_in by_smallest (sort by_number fs) f).0 (subst (λ (gs : List File). In f gs) e m)),
      λ m. subst (λ (gs : List File). In f gs) (sym e) ((sort_in by_smallest (sort by_number fs) f).1 ((sort_in by_number fs f).1 m)),
    )

-- the same members: the same numbers
same_numbers : (n : ℕ) (xs ys : List File) → ((f : File) → In f xs ↔ In f ys) → has_number n xs ≡ has_number n ys
same_numbers n xs ys h = same_test (has_number n xs) (has_number n ys) (λ e. to xs ys (λ f. (h f).0) e) (λ e. to ys xs (λ f. (h f).1) e)
  where
    to : (xs ys : List File) → ((f : File) → In f xs → In f ys) → has_number n xs ≡ true → has_number n ys ≡ true
    to xs ys k e = let w = number_of n xs e in rw w.2 at (number_there ys w.0 (k w.0 w.1))

-- what is called for between states with the same files, pointers and counters
listed_over : (s t u v : State) → ((l : ℕ) (f : File) → In f (level s l) ↔ In f (level u l)) → ((l : ℕ) (f : File) → In f (level t l) ↔ In f (level v l))
    → ((l : ℕ) → pointer s l ≡ pointer u l) → ((l : ℕ) → pointer t l ≡ pointer v l) → ((i : ℕ) → counter_at s i ≡ counter_at u i) → ((i : ℕ) → counter_at t i ≡ counter_at v i)
    → (d : Difference) → Listed s t d → Listed u v d
unfolding Listed
listed_over s t u v a b c e g h (only_left l n) x = (sym (same_numbers n (level s l) (level u l) (a l)) ∙ x.0, sym (same_numbers n (level t l) (level v l) (b l)) ∙ x.1)
listed_over s t u v a b c e g h (only_right l f) x = ((b l f).0 x.0, sym (same_numbers f.number (level s l) (level u l) (a l)) ∙ x.1)
listed_over s t u v a b c e g h (changed l f) x = let w = x.1 in ((b l f).0 x.0, (w.0, (a l w.0).0 w.1, w.2, w.3))
listed_over s t u v a b c e g h (pointer_is l o) x = (x.0 ∙ e l, λ q. x.1 (c l ∙ q ∙ sym (e l)))
listed_over s t u v a b c e g h (counter_is i n) x = (x.0 ∙ h i, λ q. x.1 (g i ∙ q ∙ sym (h i)))

-- pointers as read
pointer_read : (s : State) (l : ℕ) → pointer (as_read s) l ≡ pointer s l
unfolding as_read pointer
pointer_read s l = refl

-- counters as read
counter_read : (s : State) (i : ℕ) → counter_at (as_read s) i ≡ counter_at s i
unfolding as_read counter_at
counter_read s i = refl

-- what differs between states differs between them as read
pub differences_read : (p : Profile) (s t : State) → WF p s → WF p t → differences (as_read s) (as_read t) ≡ differences s t
differences_read p s t ws wt =
    let us = as_read_formed p s ws in
    let ut = as_read_formed p t wt in
    differences_determined p s t ws wt (differences (as_read s) (as_read t))
    (λ d. (
      λ m. listed_over (as_read s) (as_read t) s t (level_members s) (level_members t) (pointer_read s) (pointer_read t) (counter_read s) (counter_read t) d (listed_sound (as_read s) (as_read t) d m),
      λ x. listed_complete p (as_read s) (as_read t) us ut d (listed_over s t (as_read s) (as_read t) (λ l f. ((level_members s l f).1, (level_members s l f).0)) (λ l f. ((level_members t l f).1, (level_members t l f).0))
          (λ l. sym (pointer_read s l)) (λ l. sym (pointer_read t l)) (λ i. sym (counter_read s i)) (λ i. sym (counter_read t i)) d x),
    ))
    (differences_ordered p (as_read s) (as_read t) us ut)
