-- Laws of ranges: `widen` is the least widening, and what overlapping says. Assumes nothing.
use Rattle.std.specs.Prelude.{ℕ, zero, suc, ◌≤◌, ◌≡◌, refl, ◌↔◌, Bool, cond, true, false, not, length}
use mathlib.Core.List.{List, [], ◌∷◌, Memᴰ as In}
use Rattle.std.proofs.Math.Option.{Option, none, some}
use Rattle.std.proofs.lemmas.Bool.{not-true, not-false}
use Rattle.std.proofs.Common.{arith}
use Rattle.lemmas.specs.Order.{StrictWeak, clash, asym, flip_order, on_order}
use Rattle.lemmas.specs.Lists.{find}
use Rattle.lemmas.specs.ListLaws.{and_left, and_right, both, find_some, find_none, tally, tally_le, tally_less, tally_none, all_in, least_of, is_least, find_least, neither, neither_left, neither_right}
use Rattle.model.specs.Key.{Key, user, user_before, before}
use Rattle.model.specs.KeyLaws.{user_before_order, before_order, user_same}
use Rattle.model.specs.File.{File, by_smallest}
use Rattle.model.specs.Range.{Range, overlaps, inside, Within, Closed, LeastWidening, earlier, later, stretch, sticks_out, widen_by, widen, is_lowest, is_highest, low_key, high_key}
use Rattle.model.proofs.EditLaws.{by_smallest_order}

-- ---- the order of user keys, with `a ≤ b` as `user_before b a ≡ false`
-- a key is not before itself
le_refl : (a : List ℕ) → user_before a a ≡ false
le_refl a = user_before_order.irrefl a

-- "not after" is transitive
le_trans : (a b c : List ℕ) → user_before b a ≡ false → user_before c b ≡ false → user_before c a ≡ false
le_trans a b c h k = user_before_order.ntrans c b a k h

-- the earlier of two is not after either
earlier_l : (a b : List ℕ) → user_before a (earlier a b) ≡ false
unfolding earlier
earlier_l a b = go (user_before b a) refl
  where
    go : (t : Bool) → user_before b a ≡ t → user_before a (cond t b a) ≡ false
    go true e = asym user_before user_before_order b a e
    go false e = le_refl a

-- nor after the other one
earlier_r : (a b : List ℕ) → user_before b (earlier a b) ≡ false
unfolding earlier
earlier_r a b = go (user_before b a) refl
  where
    go : (t : Bool) → user_before b a ≡ t → user_before b (cond t b a) ≡ false
    go true e = le_refl b
    go false e = e

-- a key not after both is not after the earlier
earlier_least : (a b c : List ℕ) → user_before a c ≡ false → user_before b c ≡ false → user_before (earlier a b) c ≡ false
unfolding earlier
earlier_least a b c h k = go (user_before b a)
  where
    go : (t : Bool) → user_before (cond t b a) c ≡ false
    go true = k
    go false = h

-- the later of two is not before either
later_l : (a b : List ℕ) → user_before (later a b) a ≡ false
unfolding later
later_l a b = go (user_before a b) refl
  where
    go : (t : Bool) → user_before a b ≡ t → user_before (cond t b a) a ≡ false
    go true e = asym user_before user_before_order a b e
    go false e = le_refl a

-- nor before the other one
later_r : (a b : List ℕ) → user_before (later a b) b ≡ false
unfolding later
later_r a b = go (user_before a b) refl
  where
    go : (t : Bool) → user_before a b ≡ t → user_before (cond t b a) b ≡ false
    go true e = le_refl b
    go false e = e

-- a key not before both is not before the later
later_least : (a b c : List ℕ) → user_before c a ≡ false → user_before c b ≡ false → user_before c (later a b) ≡ false
unfolding later
later_least a b c h k = go (user_before a b)
  where
    go : (t : Bool) → user_before c (cond t b a) ≡ false
    go true = k
    go false = h

-- ---- ranges
-- a range is within itself
pub within_refl : (r : Range) → Within r r
within_refl r = record { start = le_refl r.start; stop = le_refl r.stop }

-- "within" is transitive
pub within_trans : (a b c : Range) → Within a b → Within b c → Within a c
within_trans a b c h k = record { start = le_trans c.start b.start a.start k.start h.start; stop = le_trans a.stop b.stop c.stop h.stop k.stop }

-- a file overlaps a range, part by part
pub record Overlaps (r : Range) (f : File) : Type 0 where
  pub left : user_before (user f.largest) r.start ≡ false
  pub right : user_before r.stop (user f.smallest) ≡ false

-- a file lies inside a range, part by part
pub record Inside (r : Range) (f : File) : Type 0 where
  pub left : user_before (user f.smallest) r.start ≡ false
  pub right : user_before r.stop (user f.largest) ≡ false

-- the test of overlapping holds exactly if each part does
pub overlaps_says : (r : Range) (f : File) → overlaps r f ≡ true ↔ Overlaps r f
unfolding overlaps
overlaps_says r f = let a = user_before (user f.largest) r.start in let b = user_before r.stop (user f.smallest) in
    (λ h. record { left = neither_left a b h; right = neither_right a b h }, λ o. neither a b o.left o.right)

-- the test of lying inside holds exactly if each part does
pub inside_says : (r : Range) (f : File) → inside r f ≡ true ↔ Inside r f
unfolding inside
inside_says r f = let a = user_before (user f.smallest) r.start in let b = user_before r.stop (user f.largest) in
    (λ h. record { left = neither_left a b h; right = neither_right a b h }, λ o. neither a b o.left o.right)

-- a file that overlaps a range overlaps a wider one
pub overlaps_mono : (r v : Range) (f : File) → Within r v → overlaps r f ≡ true → overlaps v f ≡ true
overlaps_mono r v f w h =
    let o = (overlaps_says r f).0 h in
    (overlaps_says v f).1 record {
      left = le_trans v.start r.start (user f.largest) w.start o.left;
      right = le_trans (user f.smallest) r.stop v.stop o.right w.stop;
    }

-- a file that lies inside a range lies inside a wider one
pub inside_mono : (r v : Range) (f : File) → Within r v → inside r f ≡ true → inside v f ≡ true
inside_mono r v f w h =
    let o = (inside_says r f).0 h in
    (inside_says v f).1 record {
      left = le_trans v.start r.start (user f.smallest) w.start o.left;
      right = le_trans (user f.largest) r.stop v.stop o.right w.stop;
    }

-- a stretched range contains the range
pub stretch_within : (r : Range) (f : File) → Within r (stretch r f)
unfolding stretch
stretch_within r f = record { start = earlier_l r.start (user f.smallest); stop = later_l r.stop (user f.largest) }

-- it has the file inside
pub stretch_inside : (r : Range) (f : File) → inside (stretch r f) f ≡ true
unfolding stretch
stretch_inside r f = (inside_says (stretch r f) f).1 record { left = earlier_r r.start (user f.smallest); right = later_r r.stop (user f.largest) }

-- it is the least such range
pub stretch_least : (r v : Range) (f : File) → Within r v → inside v f ≡ true → Within (stretch r f) v
unfolding stretch
stretch_least r v f w h = let o = (inside_says v f).0 h in record {
  start = earlier_least r.start (user f.smallest) v.start w.start o.left;
  stop = later_least r.stop (user f.largest) v.stop w.stop o.right;
}

-- a file that sticks out overlaps
pub sticks_overlaps : (r : Range) (f : File) → sticks_out r f ≡ true → overlaps r f ≡ true
unfolding sticks_out
sticks_overlaps r f h = and_left (overlaps r f) (not (inside r f)) h

-- it does not lie inside
pub sticks_outside : (r : Range) (f : File) → sticks_out r f ≡ true → inside r f ≡ false
unfolding sticks_out
sticks_outside r f h = not-true (inside r f) (and_right (overlaps r f) (not (inside r f)) h)

-- a file that overlaps and does not stick out lies inside
pub no_stick : (r : Range) (f : File) → sticks_out r f ≡ false → overlaps r f ≡ true → inside r f ≡ true
unfolding sticks_out
no_stick r f h o = go (inside r f) refl
  where
    go : (t : Bool) → inside r f ≡ t → inside r f ≡ true
    go true e = e
    go false e = clash (both (overlaps r f) (not (inside r f)) o (rw e)) h

-- ---- the loop of `widen`, by the file that `find` finds
-- the rest of the loop, with that file stretched over
one_more_lem : ℕ → List File → Range → Option File → Range
one_more_lem n fs r none = r
one_more_lem n fs r (some f) = widen_by n fs (stretch r f)

-- one turn of the loop
widen_by_suc : (n : ℕ) (fs : List File) (r : Range) → widen_by (suc n) fs r ≡ one_more_lem n fs r (find (sticks_out r) fs)
unfolding widen_by one_more_lem
widen_by_suc n fs r = go (find (sticks_out r) fs) refl
  where
    go : (o : Option File) → find (sticks_out r) fs ≡ o → widen_by (suc n) fs r ≡ one_more_lem n fs r o
    go none e = rw (e, widen_by)
    go (some f) e = rw (e, widen_by)

-- the loop's range contains the first range
widen_by_contains : (n : ℕ) (fs : List File) (r : Range) → Within r (widen_by n fs r)
unfolding widen_by one_more_lem
widen_by_contains zero fs r = within_refl r
widen_by_contains (suc n) fs r = rw widen_by_suc (go (λ f. widen_by_contains n fs (stretch r f)) (find (sticks_out r) fs))
  where
    go : ((f : File) → Within (stretch r f) (widen_by n fs (stretch r f))) → (o : Option File) → Within r (one_more_lem n fs r o)
    go ih none = within_refl r
    go ih (some f) = within_trans r (stretch r f) (widen_by n fs (stretch r f)) (stretch_within r f) (ih f)

-- it is within every closed range that contains the first
widen_by_least : (n : ℕ) (fs : List File) (r v : Range) → Within r v → Closed fs v → Within (widen_by n fs r) v
unfolding widen_by one_more_lem
widen_by_least zero fs r v w c = w
widen_by_least (suc n) fs r v w c = rw widen_by_suc (go (λ f. widen_by_least n fs (stretch r f) v) (find (sticks_out r) fs) refl)
  where
    go : ((f : File) → Within (stretch r f) v → Closed fs v → Within (widen_by n fs (stretch r f)) v) → (o : Option File) → find (sticks_out r) fs ≡ o → Within (one_more_lem n fs r o) v
    go ih none e = w
    go ih (some f) e = let k = find_some (sticks_out r) fs f e in
        ih f (stretch_least r v f w (c f k.1 (overlaps_mono r v f w (sticks_overlaps r f k.0)))) c

-- files that are not inside
outside : Range → File → Bool
outside r f = not (inside r f)

-- with a turn for each file outside it is closed
widen_by_closed : (n : ℕ) (fs : List File) (r : Range) → tally (outside r) fs ≤ n → Closed fs (widen_by n fs r)
unfolding widen_by one_more_lem outside
widen_by_closed zero fs r h = λ f m o. not-false (inside r f) (tally_none (outside r) fs f h m)
widen_by_closed (suc n) fs r h = rw widen_by_suc (go (λ f. widen_by_closed n fs (stretch r f)) (find (sticks_out r) fs) refl)
  where
    go : ((f : File) → tally (outside (stretch r f)) fs ≤ n → Closed fs (widen_by n fs (stretch r f))) → (o : Option File) → find (sticks_out r) fs ≡ o → Closed fs (one_more_lem n fs r o)
    go ih none e = λ f m o. no_stick r f (find_none (sticks_out r) fs f e m) o
    go ih (some f) e =
        let k = find_some (sticks_out r) fs f e in
        let shrinks : (g : File) → outside (stretch r f) g ≡ true → outside r g ≡ true = λ g u. back g (inside r g) refl u in
        let less = tally_less (outside (stretch r f)) (outside r) fs f shrinks k.1 (rw stretch_inside) (rw (sticks_outside r f k.0)) in
        ih f (omega arith)
      where
        back : (g : File) (t : Bool) → inside r g ≡ t → outside (stretch r f) g ≡ true → outside r g ≡ true
        back g true e' u = clash (inside_mono r (stretch r f) g (stretch_within r f) e') (not-true (inside (stretch r f) g) u)
        back g false e' u = rw e'

-- `widen` is the least widening
pub widen_least : (fs : List File) (r : Range) → LeastWidening fs r (widen fs r)
unfolding widen
widen_least fs r = record {
  contains = widen_by_contains (length fs) fs r;
  closed = widen_by_closed (length fs) fs r (tally_le (outside r) fs);
  least = λ v w c. widen_by_least (length fs) fs r v w c;
}

-- there is only one least widening
pub one_widening : (fs : List File) (r v w : Range) → LeastWidening fs r v → LeastWidening fs r w → v ≡ w
one_widening fs r v w h k =
    let a = h.least w k.contains k.closed in
    let b = k.least v h.contains h.closed in
    λ i. record { start = user_same v.start w.start a.start b.start i; stop = user_same v.stop w.stop b.stop a.stop i }

-- ---- the range of a list of files, in one pass
-- the smallest key, k so far
unfoldable pub smallest_of : Key → List File → Key
smallest_of k [] = k
smallest_of k (f ∷ fs) = smallest_of (cond (before f.smallest k) f.smallest k) fs

-- the largest key, k so far
unfoldable pub largest_of : Key → List File → Key
largest_of k [] = k
largest_of k (f ∷ fs) = largest_of (cond (before k f.largest) f.largest k) fs

-- files by largest key, the largest first
abbrev by_largest : File → File → Bool
by_largest f g = before g.largest f.largest

-- it is a strict weak order
by_largest_order : StrictWeak by_largest
by_largest_order = on_order (λ a b. before b a) (λ (f : File). f.largest) (flip_order before before_order)

-- the file of the low key
low_file : (f : File) (fs : List File) → find (is_lowest (f ∷ fs)) (f ∷ fs) ≡ some (least_of by_smallest f fs)
unfolding is_lowest by_smallest is_least
low_file f fs = find_least by_smallest by_smallest_order f fs

-- the file of the high key
high_file : (f : File) (fs : List File) → find (is_highest (f ∷ fs)) (f ∷ fs) ≡ some (least_of by_largest f fs)
unfolding is_highest is_least
high_file f fs = find_least by_largest by_largest_order f fs

-- that file's smallest key
low_of : (f : File) (fs : List File) → (least_of by_smallest f fs).smallest ≡ smallest_of f.smallest fs
unfolding least_of smallest_of by_smallest
low_of f [] = refl
low_of f (g ∷ gs) = go (before g.smallest f.smallest) (low_of f gs) (low_of g gs)
  where
    go : (t : Bool) → (least_of by_smallest f gs).smallest ≡ smallest_of f.smallest gs → (least_of by_smallest g gs).smallest ≡ smallest_of g.smallest gs
        → (least_of by_smallest (cond t g f) gs).smallest ≡ smallest_of (cond t g.smallest f.smallest) gs
    go true a b = b
    go false a b = a

-- that file's largest key
high_of : (f : File) (fs : List File) → (least_of by_largest f fs).largest ≡ largest_of f.largest fs
unfolding least_of largest_of
high_of f [] = refl
high_of f (g ∷ gs) = go (before f.largest g.largest) (high_of f gs) (high_of g gs)
  where
    go : (t : Bool) → (least_of by_largest f gs).largest ≡ largest_of f.largest gs → (least_of by_largest g gs).largest ≡ largest_of g.largest gs
        → (least_of by_largest (cond t g f) gs).largest ≡ largest_of (cond t g.largest f.largest) gs
    go true a b = b
    go false a b = a

-- the low key is the one found in one pass
pub low_fold : (f : File) (fs : List File) → low_key (f ∷ fs) ≡ smallest_of f.smallest fs
unfolding low_key
low_fold f fs = rw low_file (low_of f fs)

-- the high key is the one found in one pass
pub high_fold : (f : File) (fs : List File) → high_key (f ∷ fs) ≡ largest_of f.largest fs
unfolding high_key
high_fold f fs = rw high_file (high_of f fs)

-- the low key is some file's smallest, and no file's smallest is before it
pub record Lowest (fs : List File) : Type 0 where
  pub file : File
  pub among : In file fs
  pub is : low_key fs ≡ file.smallest
  pub least : (f : File) → In f fs → before f.smallest (low_key fs) ≡ false

-- the high key is some file's largest, and no file's largest is after it
pub record Highest (fs : List File) : Type 0 where
  pub file : File
  pub among : In file fs
  pub is : high_key fs ≡ file.largest
  pub greatest : (f : File) → In f fs → before (high_key fs) f.largest ≡ false

-- the low key of a list with a file is so
pub lowest : (f : File) (fs : List File) → Lowest (f ∷ fs)
unfolding low_key is_lowest
lowest f fs =
    let e = low_file f fs in
    let g = least_of by_smallest f fs in
    let h = find_some (is_lowest (f ∷ fs)) (f ∷ fs) g e in
    let i : low_key (f ∷ fs) ≡ g.smallest = rw e in
    record { file = g; among = h.1; is = i; least = λ x m. rw i (not-true (before x.smallest g.smallest) ((all_in (λ y. not (before y.smallest g.smallest)) (f ∷ fs)).0 h.0 x m)) }

-- the high key of a list with a file is so
pub highest : (f : File) (fs : List File) → Highest (f ∷ fs)
unfolding high_key is_highest
highest f fs =
    let e = high_file f fs in
    let g = least_of by_largest f fs in
    let h = find_some (is_highest (f ∷ fs)) (f ∷ fs) g e in
    let i : high_key (f ∷ fs) ≡ g.largest = rw e in
    record { file = g; among = h.1; is = i; greatest = λ x m. rw i (not-true (before g.largest x.largest) ((all_in (λ y. not (before g.largest y.largest)) (f ∷ fs)).0 h.0 x m)) }
