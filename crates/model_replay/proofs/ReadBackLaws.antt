-- A state whose level 0 has no equal smallest keys is read back from its own snapshot as the very same state. Assumes nothing.
use Rattle.std.specs.Prelude.{ℕ, suc, ◌≡◌, refl, ◌↔◌, Bool, true, false, not, ◌||◌, get_or}
use Rattle.std.proofs.Common.{ap, sym, ◌∙◌, subst}
use mathlib.Core.List.Memᴰ.{append_left as in_left}
use mathlib.Core.List.Memᴰ.{append_right as in_right}
use mathlib.Core.List.Memᴰ.{head as here}
use mathlib.Core.List.Memᴰ.{tail as there}
use mathlib.Core.List.{List, [], ◌∷◌, ◌++◌, Memᴰ as In, map}
use Rattle.std.proofs.Math.Option.{some}
use Rattle.lemmas.specs.Order.{clash}
use Rattle.lemmas.specs.Distinct.{same_test}
use Rattle.lemmas.specs.Lists.{all, sort, chain, join, distinct}
use Rattle.lemmas.specs.ListLaws.{and_left, and_right, both, all_in, chain_rest, chain_first, sort_in, sort_chain, distinct_append}
use Rattle.model.specs.Key.{before}
use Rattle.model.specs.KeyLaws.{SameInOrder, before_same, same_before}
use Rattle.model.specs.File.{Profile, File, State, level, numbers, by_smallest, in_order, levelwise}
use Rattle.model.specs.Snapshot.{by_number, encode, decode}
use Rattle.model.proofs.EditLaws.{by_smallest_order}
use Rattle.model.proofs.Formed.{WF, good_file_order, numbers_append}
use Rattle.model.proofs.SnapshotLaws.{Fits}
use Rattle.model.specs.ByNumber.{sorted_one, sort_distinct}
use Rattle.model.proofs.Reading.{in_read_order, as_read, apart_as_read, decode_encode}
use Rattle.model_replay.specs.Replay.{no_ties, cuttable}

-- neither of two tests
neither_of : (a b : Bool) → (a || b) ≡ true → a ≡ false → b ≡ false → ⊥
neither_of true b e f g = clash e f
neither_of false true e f g = clash refl g
neither_of false false e f g = clash e refl

-- without equal smallest keys, files that are not told apart by them are one
pub ties_one : (fs : List File) → no_ties fs ≡ true → (f g : File) → In f fs → In g fs → by_smallest f g ≡ false → by_smallest g f ≡ false → f ≡ g
unfolding no_ties
ties_one [] n f g x5 _ a b = elim x5 [ ]
ties_one (x ∷ xs) n f g (here e) (here e') a b = e ∙ sym e'
ties_one (x ∷ xs) n f g (here e) (there m) a b =
    let t = (all_in (λ g. by_smallest x g || by_smallest g x) xs).0 (and_left (all (λ g. by_smallest x g || by_smallest g x) xs) (no_ties xs) n) g m in
    absurd (neither_of (by_smallest x g) (by_smallest g x) t (rw (← e) a) (rw (← e) b))
ties_one (x ∷ xs) n f g (there m) (here e) a b =
    let t = (all_in (λ g. by_smallest x g || by_smallest g x) xs).0 (and_left (all (λ g. by_smallest x g || by_smallest g x) xs) (no_ties xs) n) f m in
    absurd (neither_of (by_smallest x f) (by_smallest f x) t (rw (← e) b) (rw (← e) a))
ties_one (x ∷ xs) n f g (there m) (there m') a b = ties_one xs (and_right (all (λ g. by_smallest x g || by_smallest g x) xs) (no_ties xs) n) f g m m' a b

-- a level in order without equal smallest keys is read back as it is
pub ordered_as_read : (fs : List File) → chain (λ f g. not (by_smallest g f)) fs ≡ true → no_ties fs ≡ true → distinct (numbers fs) ≡ true → fs ≡ in_read_order fs
unfolding in_read_order
ordered_as_read fs c n d = sorted_one by_smallest by_smallest_order fs (in_read_order fs) c (sort_chain by_smallest by_smallest_order (sort by_number fs))
    d (sort_distinct by_smallest (sort by_number fs) (sort_distinct by_number fs d))
    (λ f m. (sort_in by_smallest (sort by_number fs) f).1 ((sort_in by_number fs f).1 m)) (λ f m. (sort_in by_number fs f).0 ((sort_in by_smallest (sort by_number fs) f).0 m))
    (ties_one fs n)

-- deeper levels stand apart, so they are read back as they are
deeper_as_read : (l : ℕ) (fss : List (List File)) → ((f : File) → In f (join fss) → before f.largest f.smallest ≡ false) → distinct (numbers (join fss)) ≡ true
    → levelwise in_order (suc l) fss ≡ true → map in_read_order fss ≡ fss
unfolding levelwise in_order join
deeper_as_read l [] g d h = refl
deeper_as_read l (fs ∷ fss) g d h =
    let dd = distinct_append (numbers fs) (numbers (join fss)) (rw numbers_append at d) in
    let a : fs ≡ in_read_order fs = apart_as_read fs (λ f m. g f (in_left (join fss) m)) (and_left (in_order (suc l) fs) (levelwise in_order (suc (suc l)) fss) h) dd.0 in
    let b : map in_read_order fss ≡ fss = deeper_as_read (suc l) fss (λ f m. g f (in_right fs m)) dd.1 (and_right (in_order (suc l) fs) (levelwise in_order (suc (suc l)) fss) h) in
    cc

-- so are all levels
levels_as_read : (fss : List (List File)) → ((f : File) → In f (join fss) → before f.largest f.smallest ≡ false) → distinct (numbers (join fss)) ≡ true
    → levelwise in_order 0 fss ≡ true → no_ties (get_or fss 0 []) ≡ true → map in_read_order fss ≡ fss
unfolding levelwise in_order join
levels_as_read [] g d h n = refl
levels_as_read (fs ∷ fss) g d h n =
    let dd = distinct_append (numbers fs) (numbers (join fss)) (rw numbers_append at d) in
    let a : fs ≡ in_read_order fs = ordered_as_read fs (and_left (in_order 0 fs) (levelwise in_order 1 fss) h) n dd.0 in
    let b : map in_read_order fss ≡ fss = deeper_as_read 0 fss (λ f m. g f (in_right fs m)) dd.1 (and_right (in_order 0 fs) (levelwise in_order 1 fss) h) in
    cc

-- the state as read is the state
pub as_read_same : (p : Profile) (s : State) → WF p s → cuttable s ≡ true → as_read s ≡ s
unfolding as_read cuttable level
as_read_same p s w n =
    let e = levels_as_read s.files (λ f m. good_file_order p f (w.good f m)) w.distinct_numbers w.ordered n in
    λ i. record { files = e i; pointers = s.pointers; counters = s.counters }

-- a well-formed state whose level 0 has no equal smallest keys is read back from its own snapshot as the very same state
pub read_back_lem : (p : Profile) → Fits p → (s : State) → WF p s → cuttable s ≡ true → decode p (encode s) ≡ some s
read_back_lem p fit s w n = decode_encode p fit s w ∙ ap (λ (t : State). some t) (as_read_same p s w n)

-- ---- what the test of a cut says
-- a member parts a list
in_split : {A : Type 0} (x : A) (xs : List A) → In x xs → (ys : List A) × (zs : List A) × (xs ≡ ys ++ x ∷ zs)
in_split {A = A} x [] x'' = elim x'' [ ]
in_split x (y ∷ ys) (here e) = ([], ys, ap (λ (z : _). z ∷ ys) (sym e))
in_split x (y ∷ ys) (there m) = let r = in_split x ys m in (y ∷ r.0, r.1, ap (λ (l : List _). y ∷ l) r.2)

-- no file of the list and later one have smallest keys equal in the order
abbrev pub NoEqual : List File → Type 0
NoEqual fs = (xs ys zs : List File) (f g : File) → fs ≡ xs ++ f ∷ (ys ++ g ∷ zs) → SameInOrder f.smallest g.smallest → ⊥

-- two such files are found
ties_found : (xs ys zs : List File) (f g : File) → no_ties (xs ++ f ∷ (ys ++ g ∷ zs)) ≡ true → SameInOrder f.smallest g.smallest → ⊥
unfolding no_ties by_smallest
ties_found [] ys zs f g n e =
    let t = (all_in (λ h. by_smallest f h || by_smallest h f) (ys ++ g ∷ zs)).0 (and_left (all (λ h. by_smallest f h || by_smallest h f) (ys ++ g ∷ zs)) (no_ties (ys ++ g ∷ zs)) n) g (in_right ys (here refl)) in
    let s = same_before f.smallest g.smallest e in
    neither_of (by_smallest f g) (by_smallest g f) t s.0 s.1
ties_found (x ∷ xs) ys zs f g n e = ties_found xs ys zs f g (and_right (all (λ h. by_smallest x h || by_smallest h x) (xs ++ f ∷ (ys ++ g ∷ zs))) (no_ties (xs ++ f ∷ (ys ++ g ∷ zs))) n) e

-- a list without them passes
ties_none : (fs : List File) → NoEqual fs → no_ties fs ≡ true
unfolding no_ties by_smallest
ties_none [] h = refl
ties_none (f ∷ fs) h = both (all (λ g. by_smallest f g || by_smallest g f) fs) (no_ties fs)
    ((all_in (λ g. by_smallest f g || by_smallest g f) fs).1 (λ g m. go g m (by_smallest f g) (by_smallest g f) refl refl))
    (ties_none fs (λ xs ys zs a b e. h (f ∷ xs) ys zs a b (ap (λ (l : List File). f ∷ l) e)))
  where
    go : (g : File) → In g fs → (a b : Bool) → by_smallest f g ≡ a → by_smallest g f ≡ b → (a || b) ≡ true
    go g m true b p q = refl
    go g m false true p q = refl
    go g m false false p q = let r = in_split g fs m in absurd (h [] r.0 r.1 f g (ap (λ (l : List File). f ∷ l) r.2) (before_same f.smallest g.smallest p q))

-- the test passes exactly where no two files have smallest keys equal in the order
pub no_ties_says : (fs : List File) → no_ties fs ≡ true ↔ NoEqual fs
no_ties_says fs = (λ n xs ys zs f g e. ties_found xs ys zs f g (subst (λ (l : List File). no_ties l ≡ true) e n), ties_none fs)

-- a cut is allowed exactly where level 0 has no equal smallest keys
pub cuttable_says : (s : State) → cuttable s ≡ true ↔ NoEqual (level s 0)
unfolding cuttable
cuttable_says s = no_ties_says (level s 0)

-- one of two tests, and not the second
first_of : (a b : Bool) → (a || b) ≡ true → not b ≡ true → a ≡ true
first_of true b e f = refl
first_of false true e f = f
first_of false false e f = e

-- neighbours of a level in order without equal smallest keys
neighbours : (fs : List File) → chain (λ f g. not (by_smallest g f)) fs ≡ true → no_ties fs ≡ true → chain by_smallest fs ≡ true
unfolding chain no_ties all
neighbours [] c n = refl
neighbours (x ∷ []) c n = refl
neighbours (x ∷ y ∷ ys) c n =
    let a = all (λ g. by_smallest x g || by_smallest g x) (y ∷ ys) in
    let t = (all_in (λ g. by_smallest x g || by_smallest g x) (y ∷ ys)).0 (and_left a (no_ties (y ∷ ys)) n) y (here refl) in
    both (by_smallest x y) (chain by_smallest (y ∷ ys)) (first_of (by_smallest x y) (by_smallest y x) t (and_left (not (by_smallest y x)) (chain (λ f g. not (by_smallest g f)) (y ∷ ys)) c))
    (neighbours (y ∷ ys) (and_right (not (by_smallest y x)) (chain (λ f g. not (by_smallest g f)) (y ∷ ys)) c) (and_right a (no_ties (y ∷ ys)) n))

-- and the other way
strictly : (fs : List File) → chain by_smallest fs ≡ true → no_ties fs ≡ true
unfolding no_ties
strictly [] c = refl
strictly (x ∷ xs) c = both (all (λ g. by_smallest x g || by_smallest g x) xs) (no_ties xs)
    ((all_in (λ g. by_smallest x g || by_smallest g x) xs).1 (λ g m. rw (chain_first by_smallest (λ f. Unit {0}) (λ f g h u a b. by_smallest_order.trans f g h a b) x g xs (λ f i. tt) c m)))
    (strictly xs (chain_rest by_smallest x xs c))

-- of a level in order neighbours are enough: each smallest key strictly before the next
pub no_ties_chain : (fs : List File) → chain (λ f g. not (by_smallest g f)) fs ≡ true → no_ties fs ≡ chain by_smallest fs
no_ties_chain fs c = same_test (no_ties fs) (chain by_smallest fs) (neighbours fs c) (strictly fs)
