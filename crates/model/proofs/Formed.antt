-- Well-formed, part by part, and that accepted edits and counter calls keep it. Assumes nothing.
use Rattle.std.specs.Prelude.{ℕ, zero, suc, ◌^◌, ◌<◌, ◌≤◌, ◌≡◌, refl, ◌↔◌, ◌⊎◌, Bool, cond, true, false, not, ◌&&◌, ◌||◌, eqb, ltb, leb, length, get_or, set}
use Rattle.std.proofs.Common.{ap, sym, ◌∙◌, subst, inl, inr, eqb-true, eq-eqb, ltb-true, ltb-false, lt-ltb, leb-true, leb-false, le-leb, arith}
use mathlib.Core.List.Memᴰ.{append_cases}
use mathlib.Core.List.Memᴰ.{append_left as in_left}
use mathlib.Core.List.Memᴰ.{append_right as in_right}
use mathlib.Core.List.Memᴰ.{head as here}
use mathlib.Core.List.Memᴰ.{not-nil}
use mathlib.Core.List.Memᴰ.{of_map}
use mathlib.Core.List.Memᴰ.{tail as there}
use mathlib.Core.List.{List, [], ◌∷◌, ◌++◌, Memᴰ as In, append-nil}
use Rattle.std.proofs.Math.Option.{Option, none, some}
use Rattle.std.proofs.lemmas.Bool.{not-true}
use Rattle.lemmas.specs.Order.{clash, asym, le_lt}
use Rattle.lemmas.specs.Lists.{keep, any, all, sort, chain, join, distinct}
use Rattle.lemmas.specs.ListLaws.{and_left, and_right, both, keep_in, all_in, set_in, distinct_append, or_right, chain_rest, sort_sorted, keep_all}
use Rattle.lemmas.specs.Distinct.{same_test}
use Rattle.model.specs.Key.{Key, good_key, before}
use Rattle.model.specs.KeyLaws.{before_order}
use Rattle.model.specs.Answer.{gives}
use Rattle.model.specs.File.{Profile, File, Counters, State, numbers, by_smallest, max_counter, max_size, good_file, apart, in_order, no_collision, levelwise, good_pointer, good_counters, good_files, well_formed, set_counters}
use Rattle.model.specs.Edit.{Addition, Pointer, Edit, empty_edit, added, deletes, left_deleted, survivors, survivors_from, pointed, logged, applied, too_many, bad_log, edit}
use Rattle.model.specs.Counters.{CounterCall, new, reuse, mark, last, manifest, previous, counted, counter_beyond, counter}
use Rattle.model.specs.Snapshot.{five_of}
use Rattle.model.proofs.EditLaws.{by_smallest_order, survivors_in, survivors_ordered, survivors_from_length, pointed_length, PointerFits, AdditionFits, edit_accepted, edit_accepts}
use Rattle.model.specs.CounterLaws.{count_accepted}

-- well-formed, part by part
pub record WF (p : Profile) (s : State) : Type 0 where
  pub levels : length s.files ≡ p.levels
  pub good : (f : File) → In f (join s.files) → good_file p f ≡ true
  pub words : (f : File) → In f (join s.files) → f.number < 2 ^ 64
  pub distinct_numbers : distinct (numbers (join s.files)) ≡ true
  pub room : length (join s.files) ≤ p.room
  pub ordered : levelwise in_order 0 s.files ≡ true
  pub pointer_levels : length s.pointers ≡ p.levels
  pub pointers : (o : Option Key) → In o s.pointers → good_pointer p o ≡ true
  pub counters : (n : ℕ) → In n (five_of s.counters) → n ≤ max_counter

-- a good file whose number is a 64-bit word
abbrev good_word : Profile → File → Bool
good_word p f = good_file p f && ltb f.number (2 ^ 64)

-- the test holds exactly if each part does
pub formed_says : (p : Profile) (s : State) → well_formed p s ≡ true ↔ WF p s
unfolding well_formed good_files good_counters five_of
formed_says p s =
    let fss = s.files in
    let a = eqb (length fss) p.levels in
    let b = all (good_word p) (join fss) in
    let c = distinct (numbers (join fss)) in
    let d = leb (length (join fss)) p.room in
    let e = levelwise in_order 0 fss in
    let f = eqb (length s.pointers) p.levels in
    let g = all (good_pointer p) s.pointers in
    let h = all (λ n. leb n max_counter) (five_of s.counters) in (
      λ t.
          let t₈ = and_right (a && b && c && d && e && f && g) h t in
          let s₇ = and_left (a && b && c && d && e && f && g) h t in
          let t₇ = and_right (a && b && c && d && e && f) g s₇ in
          let s₆ = and_left (a && b && c && d && e && f) g s₇ in
          let t₆ = and_right (a && b && c && d && e) f s₆ in
          let s₅ = and_left (a && b && c && d && e) f s₆ in
          let t₅ = and_right (a && b && c && d) e s₅ in
          let s₄ = and_left (a && b && c && d) e s₅ in
          let t₄ = and_right (a && b && c) d s₄ in
          let s₃ = and_left (a && b && c) d s₄ in
          let t₃ = and_right (a && b) c s₃ in
          let s₂ = and_left (a && b) c s₃ in
          let t₂ = and_right a b s₂ in
          let t₁ = and_left a b s₂ in
          record {
            levels = eqb-true (length fss) p.levels t₁;
            good = λ x m. and_left (good_file p x) (ltb x.number (2 ^ 64)) ((all_in (good_word p) (join fss)).0 t₂ x m);
            words = λ x m. ltb-true x.number (2 ^ 64) (and_right (good_file p x) (ltb x.number (2 ^ 64)) ((all_in (good_word p) (join fss)).0 t₂ x m));
            distinct_numbers = t₃;
            room = leb-true (length (join fss)) p.room t₄;
            ordered = t₅;
            pointer_levels = eqb-true (length s.pointers) p.levels t₆;
            pointers = (all_in (good_pointer p) s.pointers).0 t₇;
            counters = λ n m. leb-true n max_counter ((all_in (λ n. leb n max_counter) (five_of s.counters)).0 t₈ n m);
          },
      λ w.
          both (a && b && c && d && e && f && g) h (both (a && b && c && d && e && f) g (both (a && b && c && d && e) f (both (a && b && c && d) e (both (a && b && c) d (both (a && b) c (both a b
          (eq-eqb (length fss) p.levels w.levels)
          ((all_in (good_word p) (join fss)).1 (λ x m. both (good_file p x) (ltb x.number (2 ^ 64)) (w.good x m) (lt-ltb x.number (2 ^ 64) (w.words x m)))))
          w.distinct_numbers)
          (le-leb (length (join fss)) p.room w.room))
          w.ordered)
          (eq-eqb (length s.pointers) p.levels w.pointer_levels))
          ((all_in (good_pointer p) s.pointers).1 w.pointers))
          ((all_in (λ n. leb n max_counter) (five_of s.counters)).1 (λ n m. le-leb n max_counter (w.counters n m))),
    )

-- a good file, part by part
pub record GoodFile (p : Profile) (f : File) : Type 0 where
  pub smallest : good_key p.longest f.smallest ≡ true
  pub largest : good_key p.longest f.largest ≡ true
  pub order : before f.largest f.smallest ≡ false
  pub size : f.size ≤ max_size

-- the test holds exactly if each part does
pub good_file_says : (p : Profile) (f : File) → good_file p f ≡ true ↔ GoodFile p f
unfolding good_file
good_file_says p f =
    let a = good_key p.longest f.smallest in
    let b = good_key p.longest f.largest in
    let o = before f.largest f.smallest in
    let z = leb f.size max_size in (
      λ h.
          let abo = and_left (a && b && not o) z h in
          let ab = and_left (a && b) (not o) abo in
          record { smallest = and_left a b ab; largest = and_right a b ab; order = not-true o (and_right (a && b) (not o) abo); size = leb-true f.size max_size (and_right (a && b && not o) z h) },
      λ g. both (a && b && not o) z (both (a && b) (not o) (both a b g.smallest g.largest) (rw g.order)) (le-leb f.size max_size g.size),
    )

-- a good file's largest key is not before its smallest
pub good_file_order : (p : Profile) (f : File) → good_file p f ≡ true → before f.largest f.smallest ≡ false
good_file_order p f h = ((good_file_says p f).0 h).order

-- numbers of two lists joined
pub numbers_append : (xs ys : List File) → numbers (xs ++ ys) ≡ numbers xs ++ numbers ys
unfolding numbers
numbers_append [] ys = refl
numbers_append (x ∷ xs) ys = ap (λ (r : List ℕ). x.number ∷ r) (numbers_append xs ys)

-- if no number stands twice in all levels, none does in one
pub distinct_level : (fss : List (List File)) (i : ℕ) → distinct (numbers (join fss)) ≡ true → distinct (numbers (get_or fss i [])) ≡ true
unfolding join distinct numbers
distinct_level [] zero h = refl
distinct_level [] (suc i) h = refl
distinct_level (fs ∷ fss) zero h = (distinct_append (numbers fs) (numbers (join fss)) (rw numbers_append at h)).0
distinct_level (fs ∷ fss) (suc i) h = distinct_level fss i (distinct_append (numbers fs) (numbers (join fss)) (rw numbers_append at h)).1

-- ---- files apart: each ends strictly before the next begins
-- the first file begins before every later one
apart_first : (x y : File) (xs : List File) → ((f : File) → In f (x ∷ xs) → before f.largest f.smallest ≡ false) → apart (x ∷ xs) ≡ true → In y xs → by_smallest x y ≡ true
unfolding chain by_smallest
apart_first x y [] g c m = absurd (not-nil m)
apart_first x y (z ∷ zs) g c m =
    let step : before x.smallest z.smallest ≡ true = le_lt before before_order x.smallest x.largest z.smallest (g x (here refl)) (and_left (before x.largest z.smallest) (apart (z ∷ zs)) c) in
    go step (apart_first z y zs (λ f i. g f (there i)) (and_right (before x.largest z.smallest) (apart (z ∷ zs)) c)) m
  where
    go : before x.smallest z.smallest ≡ true → (In y zs → before z.smallest y.smallest ≡ true) → In y (z ∷ zs) → before x.smallest y.smallest ≡ true
    go step ih (here e) = subst (λ (f : File). before x.smallest f.smallest ≡ true) (sym e) step
    go step ih (there k) = before_order.trans x.smallest z.smallest y.smallest step (ih k)

-- files apart are sorted by smallest key
pub apart_sorted : (fs : List File) → ((f : File) → In f fs → before f.largest f.smallest ≡ false) → apart fs ≡ true → chain (λ f g. not (by_smallest g f)) fs ≡ true
unfolding chain
apart_sorted [] g c = refl
apart_sorted (x ∷ []) g c = refl
apart_sorted (x ∷ z ∷ zs) g c = both (not (by_smallest z x)) (chain (λ f g. not (by_smallest g f)) (z ∷ zs))
    (rw (asym by_smallest by_smallest_order x z (apart_first x z (z ∷ zs) g c (here refl)))) (apart_sorted (z ∷ zs) (λ f i. g f (there i)) (and_right (before x.largest z.smallest) (apart (z ∷ zs)) c))

-- no two of them have smallest keys equal in order
pub apart_ties : (fs : List File) → ((f : File) → In f fs → before f.largest f.smallest ≡ false) → apart fs ≡ true
    → (f g : File) → In f fs → In g fs → by_smallest f g ≡ false → by_smallest g f ≡ false → f ≡ g
apart_ties [] w c f g x6 _ p q = elim x6 [ ]
apart_ties (x ∷ xs) w c f g (here e) (here e') p q = e ∙ sym e'
apart_ties (x ∷ xs) w c f g (here e) (there m) p q = clash (subst (λ (h : File). by_smallest h g ≡ true) (sym e) (apart_first x g xs w c m)) p
apart_ties (x ∷ xs) w c f g (there m) (here e) p q = clash (subst (λ (h : File). by_smallest h f ≡ true) (sym e) (apart_first x f xs w c m)) q
apart_ties (x ∷ xs) w c f g (there m) (there n) p q = apart_ties xs (λ h i. w h (there i)) (chain_rest (λ (f g : File). before f.largest g.smallest) x xs c) f g m n p q

-- ---- an edit
-- a survivor was there or was added
survived : (e : Edit) (k : ℕ) (fss : List (List File)) (f : File) → In f (join (survivors_from e k fss)) → In f (join fss) ⊎ ((a : Addition) × In a e.additions × (a.file ≡ f))
unfolding join survivors_from added
survived e k [] f m = inl m
survived e k (fs ∷ fss) f m = go (survived e (suc k) fss f) (append_cases (survivors e k fs) m)
  where
    Goal : Type 0
    Goal = In f (fs ++ join fss) ⊎ ((a : Addition) × In a e.additions × (a.file ≡ f))

    deeper : In f (join fss) ⊎ ((a : Addition) × In a e.additions × (a.file ≡ f)) → Goal
    deeper (inl h) = inl (in_right fs h)
    deeper (inr h) = inr h

    first : (In f fs × (left_deleted e k f.number ≡ false)) ⊎ In f (added e k) → Goal
    first (inl h) = inl (in_left (join fss) h.0)
    first (inr h) = inr (addition h)
      where
        addition : In f (added e k) → (a : Addition) × In a e.additions × (a.file ≡ f)
        addition h =
            let w = of_map (λ (a : Addition). a.file) (keep (λ a. eqb a.level k) e.additions) h in
            (w.0, ((keep_in (λ a. eqb a.level k) e.additions w.0).0 w.1).0, w.2)

    go : (In f (join (survivors_from e (suc k) fss)) → In f (join fss) ⊎ ((a : Addition) × In a e.additions × (a.file ≡ f))) → In f (survivors e k fs) ⊎ In f (join (survivors_from e (suc k) fss)) → Goal
    go ih (inl h) = first ((survivors_in e k fs f).0 h)
    go ih (inr h) = deeper (ih h)

-- an addition to which no refusal applies is a good file
addition_good : (p : Profile) (a : Addition) → AdditionFits p a → good_file p a.file ≡ true
addition_good p a g = (good_file_says p a.file).1 record { smallest = g.smallest; largest = g.largest; order = g.order; size = g.size }

-- a pointer after an edit was there or came with the edit
pointed_in : (qs : List Pointer) (ps : List (Option Key)) (o : Option Key) → In o (pointed qs ps) → In o ps ⊎ ((q : Pointer) × In q qs × (o ≡ some q.key))
unfolding pointed
pointed_in [] ps o m = inl m
pointed_in (q ∷ qs) ps o m = go (pointed_in qs (set ps q.level (some q.key)) o m)
  where
    Goal : Type 0
    Goal = In o ps ⊎ ((r : Pointer) × In r (q ∷ qs) × (o ≡ some r.key))

    placed : (o ≡ some q.key) ⊎ In o ps → Goal
    placed (inl e) = inr (q, here refl, e)
    placed (inr h) = inl h

    go : In o (set ps q.level (some q.key)) ⊎ ((r : Pointer) × In r qs × (o ≡ some r.key)) → Goal
    go (inl h) = placed (set_in ps q.level (some q.key) o h)
    go (inr h) = inr (h.0, there h.1, h.2)

-- a bound on five numbers, one by one
five : (a b c d e : ℕ) → ((n : ℕ) → In n (a ∷ b ∷ c ∷ d ∷ e ∷ []) → n ≤ max_counter) ↔ ((a ≤ max_counter) × (b ≤ max_counter) × (c ≤ max_counter) × (d ≤ max_counter) × (e ≤ max_counter))
five a b c d e = (λ h. (h a (here refl), h b (there (here refl)), h c (there (there (here refl))), h d (there (there (there (here refl)))), h e (there (there (there (there (here refl)))))), λ h n m. go h n m)
  where
    go : (a ≤ max_counter) × (b ≤ max_counter) × (c ≤ max_counter) × (d ≤ max_counter) × (e ≤ max_counter) → (n : ℕ) → In n (a ∷ b ∷ c ∷ d ∷ e ∷ []) → n ≤ max_counter
    go h n (here q) = rw q h.0
    go h n (there (here q)) = rw q h.1
    go h n (there (there (here q))) = rw q h.2
    go h n (there (there (there (here q)))) = rw q h.3
    go h n (there (there (there (there (here q))))) = rw q h.4
    go h n (there (there (there (there (there z))))) = absurd (not-nil z)

-- an accepted log number keeps the counters bounded
logged_bounded : (c : Counters) (o : Option ℕ) → bad_log c o ≡ false → ((n : ℕ) → In n (five_of c) → n ≤ max_counter) → (n : ℕ) → In n (five_of (logged o c)) → n ≤ max_counter
unfolding logged bad_log five_of
logged_bounded c none b h = h
logged_bounded c (some k) b h =
    let r = (five c.next c.manifest c.last c.log c.previous).0 h in
    (five c.next c.manifest c.last k c.previous).1 (r.0, r.1, r.2, small, r.4)
  where
    small : k ≤ max_counter
    small = ltb-false max_counter k (or_right (ltb k c.log || not (ltb k c.next)) (ltb max_counter k) b)

-- survivors that do not collide are in order, since level 0 is sorted
level_ordered : (e : Edit) (l : ℕ) (fs : List File) → no_collision l (survivors e l fs) ≡ true → in_order l (survivors e l fs) ≡ true
unfolding no_collision in_order
level_ordered e zero fs c = survivors_ordered e 0 fs
level_ordered e (suc l) fs c = c

-- the same for every level
levels_ordered : (e : Edit) (k : ℕ) (fss : List (List File)) → levelwise no_collision k (survivors_from e k fss) ≡ true → levelwise in_order k (survivors_from e k fss) ≡ true
unfolding levelwise survivors_from
levels_ordered e k [] h = refl
levels_ordered e k (fs ∷ fss) h = both (in_order k (survivors e k fs)) (levelwise in_order (suc k) (survivors_from e (suc k) fss))
    (level_ordered e k fs (and_left (no_collision k (survivors e k fs)) (levelwise no_collision (suc k) (survivors_from e (suc k) fss)) h))
    (levels_ordered e (suc k) fss (and_right (no_collision k (survivors e k fs)) (levelwise no_collision (suc k) (survivors_from e (suc k) fss)) h))

-- the numbers of the files that an edit adds are 64-bit words, as code passes them
abbrev pub Words : Edit → Type 0
Words e = (a : Addition) → In a e.additions → a.file.number < 2 ^ 64

-- an accepted edit keeps a state well-formed
pub edit_keeps : (p : Profile) (s : State) (e : Edit) (t : State) → Words e → edit p s e ≡ gives t → WF p t
unfolding applied good_pointer
edit_keeps p s e t words h =
    let a = edit_accepted p s e t h in
    let w = (formed_says p s).0 a.formed in
    subst (λ (u : State). WF p u) a.result record {
      levels = survivors_from_length e 0 s.files ∙ w.levels;
      good = λ f m. kept (λ g. good_file p g ≡ true) w.good (λ x i. addition_good p x (a.additions x i)) f (survived e 0 s.files f m);
      words = λ f m. kept (λ g. g.number < 2 ^ 64) w.words words f (survived e 0 s.files f m);
      distinct_numbers = a.distinct_numbers;
      room = a.fits;
      ordered = levels_ordered e 0 s.files a.apart;
      pointer_levels = pointed_length e.pointers s.pointers ∙ w.pointer_levels;
      pointers = λ o m. point w.pointers a.pointers o (pointed_in e.pointers s.pointers o m);
      counters = logged_bounded s.counters e.log a.log w.counters;
    }
  where
    kept : (P : File → Type 0) → ((f : File) → In f (join s.files) → P f) → ((a : Addition) → In a e.additions → P a.file) → (f : File)
        → In f (join s.files) ⊎ ((a : Addition) × In a e.additions × (a.file ≡ f)) → P f
    kept P u v f (inl m) = u f m
    kept P u v f (inr q) = subst (λ (g : File). P g) q.2 (v q.0 q.1)

    point : ((o : Option Key) → In o s.pointers → good_pointer p o ≡ true) → ((q : Pointer) → In q e.pointers → PointerFits p q) → (o : Option Key)
        → In o s.pointers ⊎ ((q : Pointer) × In q e.pointers × (o ≡ some q.key)) → good_pointer p o ≡ true
    point u v o (inl m) = u o m
    point u v o (inr q) = rw q.2 (v q.0 q.1).key

-- a level in order is ordered by smallest key
pub levels_sorted : (l : ℕ) (fs : List File) → ((f : File) → In f fs → before f.largest f.smallest ≡ false) → in_order l fs ≡ true → chain (λ f g. not (by_smallest g f)) fs ≡ true
unfolding in_order
levels_sorted zero fs g h = h
levels_sorted (suc l) fs g h = apart_sorted fs g h

-- levels in order do not collide
order_apart : (l : ℕ) (fss : List (List File)) → levelwise in_order l fss ≡ true → levelwise no_collision l fss ≡ true
unfolding levelwise no_collision in_order
order_apart l [] h = refl
order_apart zero (fs ∷ fss) h = order_apart 1 fss (and_right (in_order 0 fs) (levelwise in_order 1 fss) h)
order_apart (suc l) (fs ∷ fss) h = both (in_order (suc l) fs) (levelwise no_collision (suc (suc l)) fss) (and_left (in_order (suc l) fs) (levelwise in_order (suc (suc l)) fss) h)
    (order_apart (suc (suc l)) fss (and_right (in_order (suc l) fs) (levelwise in_order (suc (suc l)) fss) h))

-- so survivors collide exactly if some level of them is not in order
pub collisions : (e : Edit) (fss : List (List File)) → levelwise no_collision 0 (survivors_from e 0 fss) ≡ levelwise in_order 0 (survivors_from e 0 fss)
collisions e fss = same_test (levelwise no_collision 0 (survivors_from e 0 fss)) (levelwise in_order 0 (survivors_from e 0 fss)) (levels_ordered e 0 fss) (order_apart 0 (survivors_from e 0 fss))

-- ---- the empty edit leaves a well-formed state as it is

-- its survivors are the base files
empty_survivors : (l : ℕ) (fs : List File) → ((f : File) → In f fs → before f.largest f.smallest ≡ false) → in_order l fs ≡ true → survivors empty_edit l fs ≡ fs
unfolding survivors empty_edit added left_deleted deletes keep any
empty_survivors l fs g h =
    ap (λ (gs : List File). sort by_smallest gs) (append-nil (keep (λ (f : File). true) fs) ∙ keep_all (λ (f : File). true) fs (λ f m. refl))
    ∙ sort_sorted by_smallest fs (levels_sorted l fs g h)

-- the same at every level
empty_levels : (l : ℕ) (fss : List (List File)) → ((f : File) → In f (join fss) → before f.largest f.smallest ≡ false) → levelwise in_order l fss ≡ true → survivors_from empty_edit l fss ≡ fss
unfolding survivors_from levelwise join
empty_levels l [] g h = refl
empty_levels l (fs ∷ fss) g h =
    let a = empty_survivors l fs (λ f m. g f (in_left (join fss) m)) (and_left (in_order l fs) (levelwise in_order (suc l) fss) h) in
    let b = empty_levels (suc l) fss (λ f m. g f (in_right fs m)) (and_right (in_order l fs) (levelwise in_order (suc l) fss) h) in
    cc

-- it is accepted and gives the same state
pub empty_edit_lem : (p : Profile) (s : State) → well_formed p s ≡ true → edit p s empty_edit ≡ gives s
unfolding applied empty_edit pointed logged too_many bad_log
empty_edit_lem p s h =
    let w = (formed_says p s).0 h in
    let e = empty_levels 0 s.files (λ f m. good_file_order p f (w.good f m)) w.ordered in
    (edit_accepts p s empty_edit s).1 record {
      result = ap (λ (fss : List (List File)). record { files = fss; pointers = s.pointers; counters = s.counters }) e;
      formed = h;
      few = none_many p.deletions p.additions p.pointers;
      log = refl;
      pointers = λ q m. absurd (not-nil m);
      deletions = λ d m. absurd (not-nil m);
      additions = λ a m. absurd (not-nil m);
      distinct_numbers = rw e w.distinct_numbers;
      fits = rw e w.room;
      apart = rw e (order_apart 0 s.files w.ordered);
    }
  where
    none_many : (a b c : ℕ) → not (leb 0 a && leb 0 b && leb 0 c) ≡ false
    none_many a b c = rw (le-leb 0 a (omega arith), le-leb 0 b (omega arith), le-leb 0 c (omega arith))

-- ---- counter calls
-- an accepted counter call keeps the counters bounded
counted_bounded : (d : CounterCall) (c : Counters) → counter_beyond d c ≡ false → ((n : ℕ) → In n (five_of c) → n ≤ max_counter) → (n : ℕ) → In n (five_of (counted d c)) → n ≤ max_counter
unfolding counted counter_beyond five_of
counted_bounded new c b h = let r = (five c.next c.manifest c.last c.log c.previous).0 h in
    (five (suc c.next) c.manifest c.last c.log c.previous).1 (omega (arith, leb-false max_counter c.next b), r.1, r.2, r.3, r.4)
counted_bounded (reuse n) c b h = let r = (five c.next c.manifest c.last c.log c.previous).0 h in
    (five (cond (eqb (suc n) c.next) n c.next) c.manifest c.last c.log c.previous).1 (go r.0 (eqb (suc n) c.next) refl, r.1, r.2, r.3, r.4)
  where
    go : c.next ≤ max_counter → (t : Bool) → eqb (suc n) c.next ≡ t → cond t n c.next ≤ max_counter
    go i true e = omega (arith, eqb-true (suc n) c.next e)
    go i false e = i
counted_bounded (mark n) c b h = let r = (five c.next c.manifest c.last c.log c.previous).0 h in
    (five (cond (leb c.next n) (suc n) c.next) c.manifest c.last c.log c.previous).1 (go r.0 (leb c.next n), r.1, r.2, r.3, r.4)
  where
    go : c.next ≤ max_counter → (t : Bool) → cond t (suc n) c.next ≤ max_counter
    go i true = omega (arith, leb-false max_counter n b)
    go i false = i
counted_bounded (last n) c b h = let r = (five c.next c.manifest c.last c.log c.previous).0 h in
    (five c.next c.manifest n c.log c.previous).1 (r.0, r.1, ltb-false max_counter n b, r.3, r.4)
counted_bounded (manifest n) c b h = let r = (five c.next c.manifest c.last c.log c.previous).0 h in
    (five c.next n c.last c.log c.previous).1 (r.0, ltb-false max_counter n b, r.2, r.3, r.4)
counted_bounded (previous n) c b h = let r = (five c.next c.manifest c.last c.log c.previous).0 h in
    (five c.next c.manifest c.last c.log n).1 (r.0, r.1, r.2, r.3, ltb-false max_counter n b)

-- an accepted counter call keeps a state well-formed
pub count_keeps : (p : Profile) (s : State) (d : CounterCall) (t : State) → counter p s d ≡ gives t → WF p t
unfolding set_counters
count_keeps p s d t h =
    let a = count_accepted p s d t h in
    let w = (formed_says p s).0 a.formed in
    subst (λ (u : State). WF p u) a.result record {
      levels = w.levels;
      good = w.good;
      words = w.words;
      distinct_numbers = w.distinct_numbers;
      room = w.room;
      ordered = w.ordered;
      pointer_levels = w.pointer_levels;
      pointers = w.pointers;
      counters = counted_bounded d s.counters a.bounded w.counters;
    }
