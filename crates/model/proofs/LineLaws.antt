-- Laws of a level above 0 that is in order: its files stand in line, each before every later one. Assumes nothing.
use Rattle.std.specs.Prelude.{ℕ, zero, suc, ◌+◌, ◌<◌, ◌≡◌, refl, Bool, true, false, ltb, length, get_or}
use Rattle.std.proofs.Common.{sym, subst, ltb-true, ltb-false, arith}
use mathlib.Core.List.Memᴰ.{append_left as in_left}
use mathlib.Core.List.Memᴰ.{append_right as in_right}
use mathlib.Core.List.Memᴰ.{head as here}
use mathlib.Core.List.Memᴰ.{not-nil}
use mathlib.Core.List.Memᴰ.{tail as there}
use mathlib.Core.List.{List, [], ◌∷◌, ◌++◌, Memᴰ as In}
use Rattle.std.proofs.Math.ListN.{get_or-eq_default}
use Rattle.lemmas.specs.Order.{clash, le_lt}
use Rattle.lemmas.specs.Lists.{chain}
use Rattle.lemmas.specs.ListLaws.{and_left, and_right, join_in, chain_rest, chain_first}
use Rattle.lemmas.specs.Once.{Once}
use Rattle.lemmas.specs.Runs.{Run}
use Rattle.model.specs.Key.{before}
use Rattle.model.specs.KeyLaws.{before_order}
use Rattle.model.specs.File.{Profile, File, State, level, apart, in_order, levelwise}
use Rattle.model.proofs.Formed.{WF, good_file_order}

-- files in line: no file's largest key is before its smallest, and each file's largest is before the next one's smallest
pub record Line (fs : List File) : Type 0 where
  pub good : (f : File) → In f fs → before f.largest f.smallest ≡ false
  pub ordered : apart fs ≡ true

-- the files after the first are in line
pub line_rest : (f : File) (fs : List File) → Line (f ∷ fs) → Line fs
line_rest f fs l = record { good = λ g m. l.good g (there m); ordered = chain_rest (λ (f g : File). before f.largest g.smallest) f fs l.ordered }

-- the first stands before every later one
pub line_first : (f g : File) (fs : List File) → Line (f ∷ fs) → In g fs → before f.largest g.smallest ≡ true
line_first f g fs l m = chain_first (λ (f g : File). before f.largest g.smallest) (λ f. before f.largest f.smallest ≡ false)
    (λ f g h i a b. before_order.trans f.largest g.smallest h.smallest a (le_lt before before_order g.smallest g.largest h.smallest i b))
    f g fs (λ h i. l.good h (there i)) l.ordered m

-- the files to the right are in line
pub line_right : (xs ys : List File) → Line (xs ++ ys) → Line ys
line_right [] ys l = l
line_right (x ∷ xs) ys l = line_right xs ys (line_rest x (xs ++ ys) l)

-- a file to the left stands before one to the right
pub line_across : (xs ys : List File) (f g : File) → Line (xs ++ ys) → In f xs → In g ys → before f.largest g.smallest ≡ true
line_across [] ys f g l m n = absurd (not-nil m)
line_across (x ∷ xs) ys f g l (here e) n = subst (λ (h : File). before h.largest g.smallest ≡ true) (sym e) (line_first x g (xs ++ ys) l (in_right xs n))
line_across (x ∷ xs) ys f g l (there m) n = line_across xs ys f g (line_rest x (xs ++ ys) l) m n

-- a file to the left of a run stands before it
pub run_after_left : (fs xs : List File) (r : Run fs xs) (f g : File) → Line fs → In f r.left → In g xs → before f.largest g.smallest ≡ true
run_after_left fs xs r f g l m n = line_across r.left (xs ++ r.right) f g (subst Line r.is l) m (in_left r.right n)

-- one to the right stands after it
pub run_before_right : (fs xs : List File) (r : Run fs xs) (f g : File) → Line fs → In f xs → In g r.right → before f.largest g.smallest ≡ true
run_before_right fs xs r f g l m n = line_across xs r.right f g (line_right r.left (xs ++ r.right) (subst Line r.is l)) m n

-- no file stands in line twice
pub line_once : (fs : List File) → Line fs → Once (λ (f : File). f) fs
unfolding Once
line_once [] l = tt
line_once (f ∷ fs) l = (λ g m e. clash (line_first f f fs l (subst (λ (h : File). In h fs) (sym e) m)) (l.good f (here refl)), line_once fs (line_rest f fs l))

-- ---- the levels of a state
-- a test of all levels holds at each
pub levelwise_at : (p : ℕ → List File → Bool) (k : ℕ) (fss : List (List File)) (i : ℕ) → i < length fss → levelwise p k fss ≡ true → p (k + i) (get_or fss i []) ≡ true
unfolding levelwise
levelwise_at p k [] i h c = absurd (omega arith)
levelwise_at p k (fs ∷ fss) zero h c = let e : k ≡ k + 0 = omega arith in subst (λ (n : ℕ). p n fs ≡ true) e (and_left (p k fs) (levelwise p (suc k) fss) c)
levelwise_at p k (fs ∷ fss) (suc i) h c = let e : suc k + i ≡ k + suc i = omega arith in
    subst (λ (n : ℕ). p n (get_or fss i []) ≡ true) e (levelwise_at p (suc k) fss i (omega arith) (and_right (p k fs) (levelwise p (suc k) fss) c))

-- every level above 0 of a well-formed state stands in line
pub level_line : (p : Profile) (s : State) (l : ℕ) → WF p s → Line (level s (suc l))
unfolding level in_order chain
level_line p s l w = record { good = λ f m. good_file_order p f (w.good f (join_in s.files (suc l) f m)); ordered = go (ltb (suc l) (length s.files)) refl }
  where
    go : (t : Bool) → ltb (suc l) (length s.files) ≡ t → apart (get_or s.files (suc l) []) ≡ true
    go true e = let q : 0 + suc l ≡ suc l = omega arith in
        subst (λ (n : ℕ). in_order n (get_or s.files (suc l) []) ≡ true) q (levelwise_at in_order 0 s.files (suc l) (ltb-true (suc l) (length s.files) e) w.ordered)
    go false e = let q : get_or s.files (suc l) [] ≡ [] = get_or-eq_default s.files [] {n = suc l} (ltb-false (suc l) (length s.files) e) in
        subst (λ (fs : List File). apart fs ≡ true) (sym q) refl
