-- Laws of questions: `find_index` is the index of the file that `find_file` finds, and above level 0 the files passed are a front of the list. Assumes nothing.
use Rattle.std.specs.Prelude.{ℕ, zero, suc, ◌<◌, ◌≤◌, ◌≡◌, refl, Bool, cond, true, false, not, ltb, length, get_or, take}
use Rattle.std.proofs.Common.{sym, subst, ltb-true, ltb-false, lt-ltb, le-ltb, arith}
use mathlib.Core.List.Memᴰ.{head as here}
use mathlib.Core.List.Memᴰ.{not-nil}
use mathlib.Core.List.Memᴰ.{tail as there}
use mathlib.Core.List.{List, [], ◌∷◌, Memᴰ as In}
use Rattle.std.proofs.Math.Option.{Option, none, some, map}
use Rattle.lemmas.specs.Order.{clash, le_lt, lt_le}
use Rattle.lemmas.specs.Lists.{find}
use Rattle.lemmas.specs.ListLaws.{get_or_in, chain_rest, chain_first}
use Rattle.model.specs.Key.{Key, before}
use Rattle.model.specs.KeyLaws.{before_order}
use Rattle.model.specs.File.{File, apart}
use Rattle.model.specs.Question.{find_file, passed, find_index}

-- the file at the index is the one found, and every file before it ends before the key
pub record FoundAt (k : Key) (fs : List File) (i : ℕ) (f : File) : Type 0 where
  pub below : i < length fs
  pub at : (d : File) → get_or fs i d ≡ f
  pub passes : before f.largest k ≡ false
  pub earlier : (g : File) → In g (take i fs) → before g.largest k ≡ true

-- `passed` is the index of the file found
pub found_at : (k : Key) (fs : List File) (f : File) → find_file k fs ≡ some f → FoundAt k fs (passed k fs) f
unfolding find_file passed find
found_at k [] f e = let z : true ≡ false = cc in clash refl z
found_at k (g ∷ gs) f e = go (found_at k gs f) (before g.largest k) refl e
  where
    step : FoundAt k gs (passed k gs) f → before g.largest k ≡ true → FoundAt k (g ∷ gs) (suc (passed k gs)) f
    step r q = record { below = omega (arith, r.below); at = λ d. r.at d; passes = r.passes; earlier = λ x m. each x m }
      where
        each : (x : File) → In x (g ∷ take (passed k gs) gs) → before x.largest k ≡ true
        each x (here i) = subst (λ (y : File). before y.largest k ≡ true) (sym i) q
        each x (there m) = r.earlier x m

    go : (find_file k gs ≡ some f → FoundAt k gs (passed k gs) f) → (t : Bool) → before g.largest k ≡ t → cond (not t) (some g) (find (λ x. not (before x.largest k)) gs) ≡ some f
        → FoundAt k (g ∷ gs) (cond t (suc (passed k gs)) 0) f
    go ih true q r = step (ih r) q
    go ih false q r = let s : g ≡ f = cc in record { below = omega arith; at = λ d. s; passes = subst (λ (y : File). before y.largest k ≡ false) s q; earlier = λ x m. absurd (not-nil m) }

-- if a file is found, its index is given
pub find_agree : (k : Key) (fs : List File) (f : File) → find_file k fs ≡ some f → (find_index k fs ≡ some (passed k fs)) × FoundAt k fs (passed k fs) f
unfolding find_index
find_agree k fs f e = (rw e, found_at k fs f e)

-- if no file is found, no index is given
pub find_neither : (k : Key) (fs : List File) → find_file k fs ≡ none → find_index k fs ≡ none
unfolding find_index
find_neither k fs e = rw e

-- if no file is found, all are passed
none_left : (k : Key) (fs : List File) → find_file k fs ≡ none → length fs ≤ passed k fs
unfolding find_file passed find
none_left k [] e = omega arith
none_left k (f ∷ fs) e = go (before f.largest k) e (none_left k fs)
  where
    go : (t : Bool) → cond (not t) (some f) (find (λ g. not (before g.largest k)) fs) ≡ none → (find_file k fs ≡ none → length fs ≤ passed k fs) → suc (length fs) ≤ cond t (suc (passed k fs)) 0
    go true q ih = omega (arith, ih q)
    go false q ih = let z : true ≡ false = cc in clash refl z

-- an index is given exactly if not all files end before the key
pub find_index_is : (k : Key) (fs : List File) → find_index k fs ≡ cond (ltb (passed k fs) (length fs)) (some (passed k fs)) none
unfolding find_index
find_index_is k fs = go (find_file k fs) refl
  where
    go : (o : Option File) → find_file k fs ≡ o → map (λ (f : File). passed k fs) o ≡ cond (ltb (passed k fs) (length fs)) (some (passed k fs)) none
    go (some f) e = rw (lt-ltb (passed k fs) (length fs) (found_at k fs f e).below)
    go none e = rw (le-ltb (passed k fs) (length fs) (none_left k fs e))

-- every file passed ends before the key
pub passed_before : (k : Key) (fs : List File) (i : ℕ) (d : File) → i < passed k fs → before (get_or fs i d).largest k ≡ true
unfolding passed
passed_before k [] i d h = absurd (omega arith)
passed_before k (f ∷ fs) i d h = go (before f.largest k) refl i h (λ j q. passed_before k fs j d q)
  where
    go : (t : Bool) → before f.largest k ≡ t → (i : ℕ) → i < cond t (suc (passed k fs)) 0 → ((j : ℕ) → j < passed k fs → before (get_or fs j d).largest k ≡ true) → before (get_or (f ∷ fs) i d).largest k ≡ true
    go false e i q ih = absurd (omega arith)
    go true e zero q ih = e
    go true e (suc i) q ih = ih i (omega arith)

-- ---- above level 0 the largest keys rise, so a search by halves finds the same file
-- later files have later largest keys
pub ends_rise : (fs : List File) → ((f : File) → In f fs → before f.largest f.smallest ≡ false) → apart fs ≡ true → (i j : ℕ) (d : File) → i < j → j < length fs
    → before (get_or fs i d).largest (get_or fs j d).largest ≡ true
ends_rise [] g c i j d h b = absurd (omega arith)
ends_rise (x ∷ xs) g c i zero d h b = absurd (omega arith)
ends_rise (x ∷ xs) g c zero (suc j) d h b =
    let m = get_or_in xs j d (omega arith) in
    let y = get_or xs j d in
    let step = chain_first (λ (f g : File). before f.largest g.smallest) (λ f. before f.largest f.smallest ≡ false)
    (λ f g h i a b. before_order.trans f.largest g.smallest h.smallest a (le_lt before before_order g.smallest g.largest h.smallest i b))
    x y xs (λ f i. g f (there i)) c m in
    lt_le before before_order x.largest y.smallest y.largest step (g y (there m))
ends_rise (x ∷ xs) g c (suc i) (suc j) d h b = ends_rise xs (λ f m. g f (there m)) (chain_rest (λ (f g : File). before f.largest g.smallest) x xs c) i j d (omega arith) (omega arith)

-- no file from there on ends before the key
pub not_passed : (k : Key) (fs : List File) → ((f : File) → In f fs → before f.largest f.smallest ≡ false) → apart fs ≡ true → (i : ℕ) (d : File) → passed k fs ≤ i → i < length fs
    → before (get_or fs i d).largest k ≡ false
not_passed k fs g c i d h b = go (find_file k fs) refl
  where
    later : (f : File) → FoundAt k fs (passed k fs) f → (t : Bool) → ltb (passed k fs) i ≡ t → before (get_or fs i d).largest k ≡ false
    later f r false e =
        let q : passed k fs ≡ i = omega (arith, ltb-false (passed k fs) i e) in
        let z : get_or fs i d ≡ f = subst (λ (n : ℕ). get_or fs n d ≡ f) q (r.at d) in
        rw z r.passes
    later f r true e = flip (before (get_or fs i d).largest k) refl
      where
        flip : (t : Bool) → before (get_or fs i d).largest k ≡ t → before (get_or fs i d).largest k ≡ false
        flip false n = n
        flip true n =
            let rise = ends_rise fs g c (passed k fs) i d (ltb-true (passed k fs) i e) b in
            let first : before (get_or fs (passed k fs) d).largest k ≡ false = rw (r.at d) r.passes in
            clash (before_order.trans (get_or fs (passed k fs) d).largest (get_or fs i d).largest k rise n) first

    go : (o : Option File) → find_file k fs ≡ o → before (get_or fs i d).largest k ≡ false
    go (some f) e = later f (found_at k fs f e) (ltb (passed k fs) i) refl
    go none e = absurd (omega (arith, none_left k fs e))
