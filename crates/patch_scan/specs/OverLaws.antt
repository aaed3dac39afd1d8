-- Laws of a list laid over a snapshot turn by turn. Assumes nothing.
use Rattle.std.specs.Prelude.{ℕ, zero, suc, ◌+◌, ◌-◌, ◌≤◌, ◌<◌, ◌≡◌, Bool, cond, List, [], ◌∷◌, ◌++◌, eqb, length, take, drop}
use Rattle.std.proofs.Math.Path.{refl}
use Rattle.std.proofs.Common.{sym, ap, ◌∙◌, length-drop, take_all, take-take}
use Rattle.std.proofs.Math.Bool.{true, false}
use native.Mathlib.Omega.{arith}
use Rattle.std.proofs.Math.Decide.{dec_lt}
use borrow.Author.Tests.{lt-ltb, le-ltb}
use Rattle.lemmas.specs.Order.{clash}
use Rattle.lemmas.specs.Lists.{join}
use Rattle.lemmas.specs.Little.{number}
use Rattle.lemmas.specs.Slices.{take_drop}
use Rattle.lemmas.specs.Compare.{overlay_one, overlay}
use Rattle.model.specs.DifferenceBytes.{left_kind, right_kind, changed_kind}
use Rattle.snapshot_parse.specs.Parsing.{number_in, after_file, parts_in, after_parts}
use Rattle.difference_scan.specs.Scan.{after_part, part_bytes, rise_long, rise_of, parts_at, after_all, goes_first, kind_by}
use Rattle.difference_scan.specs.Turns.{left_over, bytes_after}
use Rattle.difference_scan.specs.TurnLaws.{after_short, part_rise, parts_first, all_first, parts_none, first_says, both_there}
use Rattle.patch_scan.specs.Listed.{kind_in, after_listed, listed_bytes, named_of, brought_by, listed_at, after_each, over_run}
use Rattle.patch_scan.specs.Over.{over_kind, piece_of, listed_after}
use Rattle.patch_scan.specs.ListedLaws.{each_first}

-- ---- one turn of a list laid over another
module _ {A E : Type 0} (key : A → ℕ) (of : E → ℕ) (brings : E → List A) where
  -- no entry is left
  overlay_left_end : (x : A) (xs : List A) → overlay key of brings (x ∷ xs) [] ≡ x ∷ overlay key of brings xs []
  unfolding overlay overlay_one
  overlay_left_end x xs = refl

  -- no item is left
  overlay_right_end : (e : E) (es : List E) → overlay key of brings [] (e ∷ es) ≡ brings e ++ overlay key of brings [] es
  unfolding overlay join
  overlay_right_end e es = refl

  module _ (x : A) (e : E) (xs : List A) (es : List E) where
    -- the item's number is lower: it stays
    overlay_stays : key x < of e → overlay key of brings (x ∷ xs) (e ∷ es) ≡ x ∷ overlay key of brings xs (e ∷ es)
    unfolding overlay overlay_one
    overlay_stays h = rw (le-ltb (of e) (key x) (omega arith), lt-ltb (key x) (of e) h)

    -- the entry's number is lower: what it brings comes in
    overlay_comes : of e < key x → overlay key of brings (x ∷ xs) (e ∷ es) ≡ brings e ++ overlay key of brings (x ∷ xs) es
    unfolding overlay overlay_one
    overlay_comes h = rw (lt-ltb (of e) (key x) h)

    -- one number: what the entry brings is in the item's place
    overlay_goes : key x ≡ of e → overlay key of brings (x ∷ xs) (e ∷ es) ≡ brings e ++ overlay key of brings xs es
    unfolding overlay overlay_one
    overlay_goes h = rw (le-ltb (of e) (key x) (omega arith), le-ltb (key x) (of e) (omega arith))

-- ---- an entry
-- bytes of a number that stand in a front part of a list
cut_number : (w o k : ℕ) (cs : List ℕ) → o + w ≤ k → take w (drop o (take k cs)) ≡ take w (drop o cs)
cut_number w o k cs h = take_drop o w (take k cs) ∙ ap (drop o) (take-take (o + w) k cs h) ∙ sym (take_drop o w cs)

-- after an entry the number that it stands by is gone, if the bytes have it
listed_short : (p : Bool) (cs : List ℕ) → length (after_listed p cs) ≤ length cs - cond p 1 10
unfolding after_listed after_part rise_long
listed_short true cs = after_short true cs
listed_short false cs = go (eqb (kind_in cs) left_kind) (after_short false (drop 2 cs))
  where
    go : (b : Bool) → length (after_file (drop 2 cs)) ≤ length (drop 2 cs) - 8 → length (cond b (drop 8 (drop 2 cs)) (after_file (drop 2 cs))) ≤ length cs - 10
    go true h = omega (arith, length-drop 8 (drop 2 cs), length-drop 2 cs)
    go false h = omega (arith, length-drop 2 cs)

-- an entry has the number that the bytes begin with
listed_rise : (p : Bool) (cs : List ℕ) → named_of p (listed_bytes p cs) ≡ named_of p cs
unfolding named_of listed_bytes number_in
listed_rise p cs = go p (listed_short p cs) (dec_lt (length cs) (length cs - length (after_listed p cs) + 1))
  where
    long : ℕ
    long = length cs - length (after_listed p cs)

    go : (q : Bool) → length (after_listed p cs) ≤ length cs - cond q 1 10 → Dec (length cs < long + 1) → named_of q (take long cs) ≡ named_of q cs
    go q h (yes k) = ap (named_of q) (take_all long cs (omega arith))
    go true h (no k) = ap number (cut_number 1 0 long cs (omega arith))
    go false h (no k) = ap number (cut_number 8 2 long cs (omega arith))

-- n entries, of which there is one: the first, and those after it
listed_first : (p : Bool) (n : ℕ) (cs : List ℕ) → 0 < n → listed_at p n cs ≡ listed_bytes p cs ∷ listed_at p (n - 1) (after_listed p cs)
unfolding listed_at parts_in
listed_first p zero cs h = absurd (omega arith)
listed_first p (suc n) cs h = let e : suc n - 1 ≡ n = omega arith in rw e

-- no entries
listed_none : (p : Bool) (cs : List ℕ) → listed_at p 0 cs ≡ []
unfolding listed_at parts_in
listed_none p cs = refl

-- no entries: the bytes after them are all
pub each_none : (p : Bool) (cs : List ℕ) → after_each p 0 cs ≡ cs
unfolding after_each after_parts
each_none p cs = refl

-- nothing on either side: nothing is left
pub over_none : (p : Bool) (bs cs : List ℕ) → over_run p 0 bs 0 cs ≡ []
unfolding over_run overlay parts_at listed_at parts_in join
over_none p bs cs = refl

-- ---- a turn
-- of n parts and m entries, of which there is one
module _ (p : Bool) (n : ℕ) (bs : List ℕ) (m : ℕ) (cs : List ℕ) (some : 0 < n + m) where
  abbrev x : ℕ
  x = rise_of p bs

  abbrev y : ℕ
  y = named_of p cs

  -- what a turn of this kind says
  pub record OverTurned (k : ℕ) : Type 0 where
    pub pieces : over_run p n bs m cs ≡ piece_of p k (part_bytes p bs) (listed_bytes p cs) ++ over_run p (left_over right_kind k n) (bytes_after p right_kind k bs) (left_over left_kind k m) (listed_after p left_kind k cs)
    pub lefts : eqb k right_kind ≡ false → 0 < n
    pub rights : eqb k left_kind ≡ false → 0 < m
    pub left_after : after_all p n bs ≡ after_all p (left_over right_kind k n) (bytes_after p right_kind k bs)
    pub list_after : after_each p m cs ≡ after_each p (left_over left_kind k m) (listed_after p left_kind k cs)

  -- the entries laid over the parts
  abbrev over : List (List ℕ) → List (List ℕ) → List (List ℕ)
  over = overlay (rise_of p) (named_of p) (brought_by p)

  -- the parts and entries after the first
  abbrev parts_on : List (List ℕ)
  parts_on = parts_at p (n - 1) (after_part p bs)

  abbrev entries_on : List (List ℕ)
  entries_on = listed_at p (m - 1) (after_listed p cs)

  -- the part goes first
  over_left : goes_first n x m y ≡ true → OverTurned left_kind
  unfolding over_run piece_of left_over bytes_after listed_after
  over_left h =
      let f = first_says n x m y h in
      record {
        pieces = rw (parts_first p n bs f.0) (go (dec_lt 0 m) f.1);
        lefts = λ e. f.0;
        rights = λ e. clash refl e;
        left_after = all_first p n bs f.0;
        list_after = refl;
      }
    where
      go : Dec (0 < m) → (0 < m → x < y) → over (part_bytes p bs ∷ parts_on) (listed_at p m cs) ≡ part_bytes p bs ∷ over parts_on (listed_at p m cs)
      go (yes k) q = rw (listed_first p m cs k) (overlay_stays (rise_of p) (named_of p) (brought_by p) (part_bytes p bs) (listed_bytes p cs) parts_on entries_on (omega (arith, q k, part_rise p bs, listed_rise p cs)))
      go (no k) q = let e : m ≡ 0 = omega arith in rw (e, listed_none p cs) (overlay_left_end (rise_of p) (named_of p) (brought_by p) (part_bytes p bs) parts_on)

  -- the entry goes first
  over_right : goes_first m y n x ≡ true → OverTurned right_kind
  unfolding over_run piece_of left_over bytes_after listed_after
  over_right h =
      let f = first_says m y n x h in
      record {
        pieces = rw (listed_first p m cs f.0) (go (dec_lt 0 n) f.1);
        lefts = λ e. clash refl e;
        rights = λ e. f.0;
        left_after = refl;
        list_after = each_first p m cs f.0;
      }
    where
      go : Dec (0 < n) → (0 < n → y < x) → over (parts_at p n bs) (listed_bytes p cs ∷ entries_on) ≡ brought_by p (listed_bytes p cs) ++ over (parts_at p n bs) entries_on
      go (yes k) q = rw (parts_first p n bs k) (overlay_comes (rise_of p) (named_of p) (brought_by p) (part_bytes p bs) (listed_bytes p cs) parts_on entries_on (omega (arith, q k, part_rise p bs, listed_rise p cs)))
      go (no k) q = let e : n ≡ 0 = omega arith in rw (e, parts_none p bs) (overlay_right_end (rise_of p) (named_of p) (brought_by p) (listed_bytes p cs) entries_on)

  -- both have the number
  over_both : goes_first n x m y ≡ false → goes_first m y n x ≡ false → OverTurned changed_kind
  unfolding over_run piece_of left_over bytes_after listed_after
  over_both h k =
      let f = both_there n x m y some h k in
      record {
        pieces = rw (parts_first p n bs f.0, listed_first p m cs f.1)
            (overlay_goes (rise_of p) (named_of p) (brought_by p) (part_bytes p bs) (listed_bytes p cs) parts_on entries_on (omega (arith, f.2, part_rise p bs, listed_rise p cs)));
        lefts = λ e. f.0;
        rights = λ e. f.1;
        left_after = all_first p n bs f.0;
        list_after = each_first p m cs f.1;
      }

  -- whatever goes first
  pub over_turned : OverTurned (over_kind p n bs m cs)
  unfolding over_kind kind_by
  over_turned = go (goes_first n x m y) refl (goes_first m y n x) refl
    where
      go : (a : Bool) → goes_first n x m y ≡ a → (b : Bool) → goes_first m y n x ≡ b → OverTurned (cond a left_kind (cond b right_kind changed_kind))
      go true h b k = over_left h
      go false h true k = over_right k
      go false h false k = over_both h k
