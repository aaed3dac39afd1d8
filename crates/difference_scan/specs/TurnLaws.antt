-- Laws of a turn over two runs of parts: it lays one entry or none, and what is left is compared as before. Assumes nothing.
use Rattle.std.specs.Prelude.{ℕ, zero, suc, ◌+◌, ◌-◌, ◌≤◌, ◌<◌, ◌≡◌, Bool, cond, List, [], ◌∷◌, ◌++◌, eqb, ltb, length, take, drop}
use Rattle.std.proofs.Math.Path.{refl}
use Rattle.std.proofs.Common.{ap, ltb-true, ltb-false, eqb-true, length-drop, take_all, take-take}
use Rattle.std.proofs.Math.Bool.{true, false}
use native.Mathlib.Omega.{arith}
use Rattle.std.proofs.lemmas.Bool.{eqb-false}
use Rattle.std.proofs.Math.Decide.{dec_lt}
use Rattle.lemmas.specs.Little.{number}
use Rattle.lemmas.specs.Order.{clash}
use Rattle.lemmas.specs.Compare.{compare, compare_left_end, compare_right_end, compare_left, compare_right, compare_same, compare_other}
use Rattle.model.specs.Snapshot.{same_bytes}
use Rattle.model.specs.DifferenceBytes.{left_kind, right_kind, changed_kind}
use Rattle.snapshot_parse.specs.Parsing.{At, number_in, after_key, key_length, after_file, after_entry, parts_in, after_parts}
use Rattle.difference_scan.specs.Scan.{after_part, part_bytes, rise_long, rise_of, parts_at, after_all, left_entry, right_entry, run_entries, same_kind, goes_first, kind_by, kind_at, entry_of}
use Rattle.difference_scan.specs.Turns.{entries_of, left_over, place_after, bytes_after}

-- ---- a part
-- after a part its number is gone, if the bytes have it
pub after_short : (p : Bool) (bs : List ℕ) → length (after_part p bs) ≤ length bs - rise_long p
unfolding after_part after_entry after_file after_key rise_long
after_short true bs = let l = drop 1 bs in omega (arith, length-drop (key_length l) (drop 1 l), length-drop 1 l, length-drop 1 bs)
after_short false bs =
    let l = drop 16 bs in
    let k = drop (key_length l) (drop 1 l) in
    omega (arith, length-drop (key_length k) (drop 1 k), length-drop 1 k, length-drop (key_length l) (drop 1 l), length-drop 1 l, length-drop 16 bs)

-- a part begins with its number, as the bytes do
pub part_rise : (p : Bool) (bs : List ℕ) → rise_of p (part_bytes p bs) ≡ rise_of p bs
unfolding rise_of part_bytes number_in
part_rise p bs = ap number (go (dec_lt (length bs) (rise_long p)))
  where
    long : ℕ
    long = length bs - length (after_part p bs)

    go : Dec (length bs < rise_long p) → take (rise_long p) (take long bs) ≡ take (rise_long p) bs
    go (yes h) = let q : length bs ≤ long = omega (arith, after_short p bs) in ap (take (rise_long p)) (take_all long bs q)
    go (no h) = take-take (rise_long p) long bs (omega (arith, after_short p bs))

-- n parts, of which there is one: the first, and those after it
pub parts_first : (p : Bool) (n : ℕ) (bs : List ℕ) → 0 < n → parts_at p n bs ≡ part_bytes p bs ∷ parts_at p (n - 1) (after_part p bs)
unfolding parts_at parts_in
parts_first p zero bs h = absurd (omega arith)
parts_first p (suc n) bs h = let e : suc n - 1 ≡ n = omega arith in rw e

-- the bytes after them are those after the others
pub all_first : (p : Bool) (n : ℕ) (bs : List ℕ) → 0 < n → after_all p n bs ≡ after_all p (n - 1) (after_part p bs)
unfolding after_all after_parts
all_first p zero bs h = absurd (omega arith)
all_first p (suc n) bs h = let e : suc n - 1 ≡ n = omega arith in rw e

-- no parts: the bytes after them are all
pub all_none : (p : Bool) (bs : List ℕ) → after_all p 0 bs ≡ bs
unfolding after_all after_parts
all_none p bs = refl

-- no parts: none
pub parts_none : (p : Bool) (bs : List ℕ) → parts_at p 0 bs ≡ []
unfolding parts_at parts_in
parts_none p bs = refl

-- no parts on either side: nothing differs
pub entries_none : (p : Bool) (l : ℕ) (bs cs : List ℕ) → entries_of p l 0 bs 0 cs ≡ []
unfolding entries_of run_entries compare parts_at parts_in
entries_none p l bs cs = refl

-- ---- a side after a turn of kind k, where kind o passes it by
-- its place is that of the bytes that are left
pub place_after_lem : (o k at end : ℕ) (src after : List ℕ) → at ≤ length src → At src end after → At src (place_after o k at end) (cond (eqb k o) (drop at src) after)
unfolding place_after
place_after_lem o k at end src after h t = go (eqb k o)
  where
    go : (b : Bool) → At src (cond b at end) (cond b (drop at src) after)
    go true = record { within = h; rest = refl }
    go false = t

-- fewer parts are left of it, or as many
pub over_less : (o k n : ℕ) → left_over o k n ≤ n
unfolding left_over
over_less o k n = go (eqb k o)
  where
    go : (b : Bool) → cond b n (n - 1) ≤ n
    go true = omega arith
    go false = omega arith

-- ---- a turn
-- a part goes first: it is there, and the other is not, or has a higher number
pub first_says : (n x m y : ℕ) → goes_first n x m y ≡ true → (0 < n) × (0 < m → x < y)
unfolding goes_first
first_says n x m y h = go (eqb n 0) refl (eqb m 0) refl h
  where
    go : (a : Bool) → eqb n 0 ≡ a → (b : Bool) → eqb m 0 ≡ b → cond a false (cond b true (ltb x y)) ≡ true → (0 < n) × (0 < m → x < y)
    go true e b f k = clash k refl
    go false e true f k = (omega (arith, eqb-false n 0 e), λ q. absurd (omega (arith, eqb-true m 0 f)))
    go false e false f k = (omega (arith, eqb-false n 0 e), λ q. ltb-true x y k)

-- it is there and does not go first: the other is there too, with no higher number
pub first_not : (n x m y : ℕ) → goes_first n x m y ≡ false → 0 < n → (0 < m) × (y ≤ x)
unfolding goes_first
first_not n x m y h q = go (eqb n 0) refl (eqb m 0) refl h
  where
    go : (a : Bool) → eqb n 0 ≡ a → (b : Bool) → eqb m 0 ≡ b → cond a false (cond b true (ltb x y)) ≡ false → (0 < m) × (y ≤ x)
    go true e b f k = absurd (omega (arith, eqb-true n 0 e))
    go false e true f k = clash refl k
    go false e false f k = (omega (arith, eqb-false m 0 f), ltb-false x y k)

-- neither goes first, and one is there: both are, with one number
pub both_there : (n x m y : ℕ) → 0 < n + m → goes_first n x m y ≡ false → goes_first m y n x ≡ false → (0 < n) × (0 < m) × (x ≡ y)
both_there n x m y some h k = go (dec_lt 0 n)
  where
    go : Dec (0 < n) → (0 < n) × (0 < m) × (x ≡ y)
    go (yes q) =
        let f = first_not n x m y h q in
        (q, f.0, omega (arith, f.1, (first_not m y n x k f.0).1))
    go (no q) = absurd (omega (arith, (first_not m y n x k (omega arith)).0))

-- of two runs, of which one has a part, what a turn finds
module _ (p : Bool) (l n : ℕ) (bs : List ℕ) (m : ℕ) (cs : List ℕ) (some : 0 < n + m) where
  abbrev kind : ℕ
  kind = kind_at p n bs m cs

  abbrev x : ℕ
  x = rise_of p bs

  abbrev y : ℕ
  y = rise_of p cs

  abbrev same : Bool
  same = same_bytes (part_bytes p bs) (part_bytes p cs)

  -- the entries of what is left after a turn of this kind
  abbrev after : ℕ → List (List ℕ)
  after k = entries_of p l (left_over right_kind k n) (bytes_after p right_kind k bs) (left_over left_kind k m) (bytes_after p left_kind k cs)

  -- what a turn of this kind says of all entries, and of what is left of both sides
  pub record Turned (k : ℕ) : Type 0 where
    pub entries : entries_of p l n bs m cs ≡ entry_of p k l (part_bytes p bs) (part_bytes p cs) ++ after k
    pub lefts : eqb k right_kind ≡ false → 0 < n
    pub rights : eqb k left_kind ≡ false → 0 < m
    pub left_after : after_all p n bs ≡ after_all p (left_over right_kind k n) (bytes_after p right_kind k bs)
    pub right_after : after_all p m cs ≡ after_all p (left_over left_kind k m) (bytes_after p left_kind k cs)

  -- the comparison of two runs
  abbrev compared : List (List ℕ) → List (List ℕ) → List (List ℕ)
  compared = compare (rise_of p) same_bytes (left_entry p l) (right_entry p right_kind l) (right_entry p changed_kind l)

  -- the parts after the first of each side
  abbrev lefts_on : List (List ℕ)
  lefts_on = parts_at p (n - 1) (after_part p bs)

  abbrev rights_on : List (List ℕ)
  rights_on = parts_at p (m - 1) (after_part p cs)

  -- only the left has it
  turned_left : goes_first n x m y ≡ true → Turned left_kind
  unfolding entries_of run_entries entry_of left_over bytes_after
  turned_left h =
      let f = first_says n x m y h in
      record {
        entries = rw (parts_first p n bs f.0) (go (dec_lt 0 m) f.1);
        lefts = λ e. f.0;
        rights = λ e. clash refl e;
        left_after = all_first p n bs f.0;
        right_after = refl;
      }
    where
      go : Dec (0 < m) → (0 < m → x < y) → compared (part_bytes p bs ∷ lefts_on) (parts_at p m cs) ≡ left_entry p l (part_bytes p bs) ∷ compared lefts_on (parts_at p m cs)
      go (yes k) q = rw (parts_first p m cs k)
          (compare_left (rise_of p) same_bytes (left_entry p l) (right_entry p right_kind l) (right_entry p changed_kind l) (part_bytes p bs) (part_bytes p cs) lefts_on rights_on (omega (arith, q k, part_rise p bs, part_rise p cs)))
      go (no k) q = let e : m ≡ 0 = omega arith in rw (e, parts_none p cs) (compare_left_end (rise_of p) same_bytes (left_entry p l) (right_entry p right_kind l) (right_entry p changed_kind l) (part_bytes p bs) lefts_on)

  -- only the right has it
  turned_right : goes_first m y n x ≡ true → Turned right_kind
  unfolding entries_of run_entries entry_of left_over bytes_after
  turned_right h =
      let f = first_says m y n x h in
      record {
        entries = rw (parts_first p m cs f.0) (go (dec_lt 0 n) f.1);
        lefts = λ e. clash refl e;
        rights = λ e. f.0;
        left_after = refl;
        right_after = all_first p m cs f.0;
      }
    where
      go : Dec (0 < n) → (0 < n → y < x) → compared (parts_at p n bs) (part_bytes p cs ∷ rights_on) ≡ right_entry p right_kind l (part_bytes p cs) ∷ compared (parts_at p n bs) rights_on
      go (yes k) q = rw (parts_first p n bs k)
          (compare_right (rise_of p) same_bytes (left_entry p l) (right_entry p right_kind l) (right_entry p changed_kind l) (part_bytes p bs) (part_bytes p cs) lefts_on rights_on (omega (arith, q k, part_rise p bs, part_rise p cs)))
      go (no k) q = let e : n ≡ 0 = omega arith in rw (e, parts_none p bs) (compare_right_end (rise_of p) same_bytes (left_entry p l) (right_entry p right_kind l) (right_entry p changed_kind l) (part_bytes p cs) rights_on)

  -- both have the number: the same bytes, or not
  turned_both : goes_first n x m y ≡ false → goes_first m y n x ≡ false → (b : Bool) → same ≡ b → Turned (cond b same_kind changed_kind)
  unfolding entries_of run_entries entry_of left_over bytes_after
  turned_both h k b e =
      let f = both_there n x m y some h k in
      go b e f.0 f.1 (omega (arith, f.2, part_rise p bs, part_rise p cs))
    where
      go : (b : Bool) → same ≡ b → 0 < n → 0 < m → rise_of p (part_bytes p bs) ≡ rise_of p (part_bytes p cs) → Turned (cond b same_kind changed_kind)
      go true e i j q = record {
        entries = rw (parts_first p n bs i, parts_first p m cs j) (compare_same (rise_of p) same_bytes (left_entry p l) (right_entry p right_kind l) (right_entry p changed_kind l) (part_bytes p bs) (part_bytes p cs) lefts_on rights_on q e);
        lefts = λ u. i;
        rights = λ u. j;
        left_after = all_first p n bs i;
        right_after = all_first p m cs j;
      }
      go false e i j q = record {
        entries = rw (parts_first p n bs i, parts_first p m cs j) (compare_other (rise_of p) same_bytes (left_entry p l) (right_entry p right_kind l) (right_entry p changed_kind l) (part_bytes p bs) (part_bytes p cs) lefts_on rights_on q e);
        lefts = λ u. i;
        rights = λ u. j;
        left_after = all_first p n bs i;
        right_after = all_first p m cs j;
      }

  -- whatever a turn finds
  pub turned : Turned kind
  unfolding kind_at kind_by
  turned = go (goes_first n x m y) refl (goes_first m y n x) refl
    where
      go : (a : Bool) → goes_first n x m y ≡ a → (b : Bool) → goes_first m y n x ≡ b → Turned (cond a left_kind (cond b right_kind (cond same same_kind changed_kind)))
      go true h b k = turned_left h
      go false h true k = turned_right k
      go false h false k = turned_both h k same refl
