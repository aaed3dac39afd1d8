-- Laws of the rest of a pick: growth, grandparents, and the whole. Assumes nothing.
use Rattle.std.specs.Prelude.{ℕ, ◌+◌, ◌*◌, ◌≤◌, ◌<◌, ◌≡◌, refl, Bool, true, false, not, ◌&&◌, cond, List, [], ◌∷◌, ◌++◌, eqb, ltb, length}
use Rattle.std.proofs.Common.{sym, arith, lt-ltb, le-ltb, ne_eqb}
use Rattle.std.proofs.Math.Numerals.{add-one}
use Rattle.lemmas.specs.Lists.{is_empty}
use Rattle.model.specs.Completion.{inputs}
use Rattle.model.specs.File.{File, State, full, level, total, set_pointer, level_count}
use Rattle.model.specs.Pick.{Cause, grows, grown_first, grand_of, complete}
use Rattle.model.specs.Range.{Range, overlapping, high_key, range_of}

-- ---- growth
-- a test of four parts fails: the second does
pub second_fails : (a b c d : Bool) → b ≡ false → (a && b && c && d) ≡ false
second_fails true b c d e = rw e
second_fails false b c d e = refl

-- the third does
pub third_fails : (a b c d : Bool) → c ≡ false → (a && b && c && d) ≡ false
third_fails true true c d e = rw e
third_fails true false c d e = refl
third_fails false b c d e = refl

-- a list of length 0 is empty
pub none_left : (fs : List File) → length fs ≡ 0 → is_empty fs ≡ true
unfolding is_empty
none_left [] e = refl
none_left (f ∷ fs) e = absurd (omega arith)

-- a list is empty exactly if its length is 0
left_by_lem : (fs : List File) → is_empty fs ≡ eqb (length fs) 0
unfolding is_empty
left_by_lem [] = refl
left_by_lem (f ∷ fs) = sym (ne_eqb (length (f ∷ fs)) 0 (λ e. omega arith))

-- the test of growth, by numbers and bytes
pub grows_by_lem : (m : ℕ) (first second grown again : List File) (a b n k x y : ℕ) → length first ≡ a → length second ≡ b → length grown ≡ n → length again ≡ k → total grown ≡ x → total second ≡ y
    → grows m first second grown again ≡ (not (eqb b 0) && ltb a n && ltb (x + y) (25 * m) && eqb k b)
unfolding grows
grows_by_lem m first second grown again a b n k x y p q r u v w = rw (left_by_lem second, p, q, r, u, v, w)

module _ (t : State) (m l : ℕ) (first second : List File) where
  -- the level's files overlapping the joint range, completed
  abbrev pub grown : List File
  grown = inputs l (level t l) (range_of (first ++ second))

  -- the files of level + 1 overlapping the grown files' range, completed
  abbrev pub again : List File
  again = inputs (l + 1) (level t (l + 1)) (range_of grown)

  -- the grown files replace the first inputs exactly if growth is allowed
  pub grown_by : grown_first t m l first second ≡ cond (grows m first second grown again) grown first
  unfolding grown_first
  grown_by = rw add-one

-- ---- grandparents
module _ (t : State) (l : ℕ) (r : Range) where
  -- level 5 has none
  pub no_grand : level_count ≤ l + 2 → grand_of full t l r ≡ []
  unfolding grand_of full
  no_grand h = rw (le-ltb (l + 2) level_count h)

  -- any other level has those of level + 2
  pub some_grand : l + 2 < level_count → grand_of full t l r ≡ overlapping (l + 2) (level t (l + 2)) r
  unfolding grand_of full
  some_grand h = rw (lt-ltb (l + 2) level_count h)

-- ---- the whole of a pick
-- a pick is complete if each of its lists is as the model says
pub complete_by : (t : State) (m : ℕ) (c : Cause) (l : ℕ) (first second chosen grand : List File)
    → second ≡ inputs (l + 1) (level t (l + 1)) (range_of first) → chosen ≡ grown_first t m l first second → grand ≡ grand_of full t l (range_of (chosen ++ second))
    → record { picked = record { level = l; cause = c; maximum = m; first = chosen; second = second; grand = grand }; after = set_pointer t l (high_key chosen) } ≡ complete full t m c l first
unfolding complete
complete_by t m c l first second chosen grand e f g = rw (g, f, e, add-one)
