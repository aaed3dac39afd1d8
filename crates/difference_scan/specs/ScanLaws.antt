-- Laws of runs of parts: places, the bytes of a part, and what a turn finds and lays. Assumes nothing.
use Rattle.std.specs.Prelude.{ℕ, ◌+◌, ◌-◌, ◌≤◌, min, ◌≡◌, refl, Bool, true, false, cond, List, [], ◌++◌, eqb, ltb, length, take, drop}
use Rattle.std.proofs.Math.Path.{sym}
use Rattle.std.proofs.Common.{◌⊎◌, inl, inr, ap, ◌∙◌, append-nil, length-drop}
use native.Mathlib.Omega.{arith}
use Rattle.std.proofs.Math.ListN.{length-append}
use borrow.Author.Tests.{eq-eqb, ne_eqb, eqb-true, eqb-false}
use Rattle.snapshot_parse.specs.Parsing.{At, after_key, after_file, after_entry}
use Rattle.lemmas.specs.Little.{bytes, bytes_length}
use Rattle.lemmas.specs.Lists.{join}
use Rattle.lemmas.specs.Slices.{put, put_nil, length_put, run_within}
use Rattle.lemmas.specs.Laying.{put_next}
use Rattle.model.specs.Snapshot.{same_bytes, byte_long}
use Rattle.model.specs.DifferenceBytes.{left_kind, right_kind, changed_kind}
use Rattle.difference_scan.specs.declared.Kind.{Kind}
use Rattle.difference_scan.specs.declared.Kind.TheVariants.{Left, Right, Changed, Same}
use Rattle.difference_scan.specs.Scan.{after_part, part_bytes, rise_long, rise_of, head, tail, left_entry, right_entry, same_kind, byte_of, goes_first, kind_by, kind_at, entry_of}

-- ---- places
-- the number that parts rise by has at most eight bytes
pub rise_short : (p : Bool) → rise_long p ≤ 8
unfolding rise_long
rise_short true = omega arith
rise_short false = omega arith

-- a pointer ends after its level and its key
pub pointer_after_lem : (p : Bool) (src : List ℕ) (at start next : ℕ) → p ≡ true → At src start (drop 1 (drop at src)) → At src next (after_key (drop start src)) → At src next (after_part p (drop at src))
unfolding after_part after_entry
pointer_after_lem p src at start next e s t = rw e (record { within = t.within; rest = t.rest ∙ ap after_key s.rest })

-- a file ends after its numbers and its two keys
pub file_after : (p : Bool) (src : List ℕ) (at start middle next : ℕ) → p ≡ false → At src start (drop 16 (drop at src)) → At src middle (after_key (drop start src)) → At src next (after_key (drop middle src))
    → At src next (after_part p (drop at src))
unfolding after_part after_file
file_after p src at start middle next e s t u = rw e (record { within = u.within; rest = u.rest ∙ ap after_key (t.rest ∙ ap after_key s.rest) })

-- the bytes between two places, of which those after the second are known
pub cut_lent : (src : List ℕ) (at end : ℕ) (after : List ℕ) → at ≤ end → At src end after → take (end - at) (drop at src) ≡ take (length (drop at src) - length after) (drop at src)
cut_lent src at end after h t =
    let e : length (drop at src) - length after ≡ end - at = omega (arith, ap length t.rest, length-drop end src, length-drop at src, t.within) in
    ap (λ (n : ℕ). take n (drop at src)) (sym e)

-- the bytes between a part's place and its end are the part
pub part_lent : (p : Bool) (src : List ℕ) (at end : ℕ) → at ≤ end → At src end (after_part p (drop at src)) → take (end - at) (drop at src) ≡ part_bytes p (drop at src)
unfolding part_bytes
part_lent p src at end h t = cut_lent src at end (after_part p (drop at src)) h t

-- ---- what a turn finds
-- the kind with a byte. A byte that no kind has is read as the last one
abbrev kind_of : ℕ → Kind
kind_of n = cond (eqb n left_kind) Left (cond (eqb n right_kind) Right (cond (eqb n changed_kind) Changed Same))

-- the kind with the byte of a kind is that kind
kind_of_byte : (k : Kind) → kind_of (byte_of k) ≡ k
kind_of_byte Left = refl
kind_of_byte Right = refl
kind_of_byte Changed = refl
kind_of_byte Same = refl

-- two kinds have two bytes
pub one_byte : (j k : Kind) → byte_of j ≡ byte_of k → j ≡ k
one_byte j k e = sym (kind_of_byte j) ∙ ap kind_of e ∙ kind_of_byte k

-- an entry is written of what only the left has
pub left_byte : (k : Kind) → k ≡ Left → byte_of k ≡ same_kind → ⊥
left_byte k e h = let f : byte_of k ≡ left_kind = ap byte_of e in omega arith

-- an entry is written of a part of the right, and it is not that of the left
pub right_byte : (k : Kind) → (k ≡ Right) ⊎ (k ≡ Changed) → (byte_of k ≡ same_kind → ⊥) × (byte_of k ≡ left_kind → ⊥)
right_byte k (inl e) = let f : byte_of k ≡ right_kind = ap byte_of e in (λ h. omega arith, λ h. omega arith)
right_byte k (inr e) = let f : byte_of k ≡ changed_kind = ap byte_of e in (λ h. omega arith, λ h. omega arith)

module _ (n x m y : ℕ) where
  -- of no parts none goes first
  pub first_none : n ≡ 0 → false ≡ goes_first n x m y
  unfolding goes_first
  first_none e = rw (eq-eqb n 0 e)

  -- against no parts the first goes first
  pub first_alone : (n ≡ 0 → ⊥) → m ≡ 0 → true ≡ goes_first n x m y
  unfolding goes_first
  first_alone h e = rw (ne_eqb n 0 h, eq-eqb m 0 e)

  -- of two parts that with the lower number does
  pub first_lower : (n ≡ 0 → ⊥) → (m ≡ 0 → ⊥) → ltb x y ≡ goes_first n x m y
  unfolding goes_first
  first_lower h k = rw (ne_eqb n 0 h, ne_eqb m 0 k)

module _ (n x m y : ℕ) (same : Bool) where
  -- the left's part goes first
  pub kind_left : goes_first n x m y ≡ true → left_kind ≡ kind_by n x m y same
  unfolding kind_by
  kind_left h = rw h

  -- the right's does
  pub kind_right : goes_first n x m y ≡ false → goes_first m y n x ≡ true → right_kind ≡ kind_by n x m y same
  unfolding kind_by
  kind_right h k = rw (h, k)

  -- neither does
  pub kind_both : (b : Bool) → same ≡ b → goes_first n x m y ≡ false → goes_first m y n x ≡ false → cond b same_kind changed_kind ≡ kind_by n x m y same
  unfolding kind_by
  kind_both b e h k = rw (h, k, e)

-- the same of the bytes at two places, of which the parts and numbers were read
pub kind_read : (p : Bool) (left right : List ℕ) (n a e m b f x y k : ℕ) (same : Bool) → a ≤ e → At left e (after_part p (drop a left)) → b ≤ f → At right f (after_part p (drop b right))
    → x ≡ rise_of p (drop a left) → y ≡ rise_of p (drop b right) → same ≡ same_bytes (take (e - a) (drop a left)) (take (f - b) (drop b right)) → k ≡ kind_by n x m y same → k ≡ kind_at p n (drop a left) m (drop b right)
unfolding kind_at
kind_read p left right n a e m b f x y k same h s i t u v w z = z ∙ rw (u, v, w, part_lent p left a e h s, part_lent p right b f i t)

-- ---- what an entry begins and ends with
module _ (p : Bool) (k l : ℕ) where
  -- of files it begins with two bytes
  pub head_file : p ≡ false → length (head p k l) ≡ 2
  unfolding head
  head_file e = rw e (omega (arith, length-append (bytes byte_long k) (bytes byte_long l), bytes_length 1 k, bytes_length 1 l))

  -- they are written one after the other
  pub head_laid : p ≡ false → (out o₁ o₂ : List ℕ) (at : ℕ) → at + 2 ≤ length out → o₁ ≡ put out at (bytes byte_long k) → o₂ ≡ put o₁ (at + 1) (bytes byte_long l) → o₂ ≡ put out at (head p k l)
  unfolding head
  head_laid q out o₁ o₂ at h e f = rw q (put_next out o₁ o₂ at (at + 1) (bytes byte_long k) (bytes byte_long l) (omega (arith, bytes_length 1 k)) e (omega (arith, bytes_length 1 k)) f)

  -- of pointers with none
  pub head_none : p ≡ true → (at : ℕ) (out : List ℕ) → (at ≡ at + length (head p k l)) × (out ≡ put out at (head p k l))
  unfolding head
  head_none e at out = rw e (omega arith, sym (put_nil out at))

module _ (p : Bool) where
  -- of pointers it ends with one byte, if only the left has it
  pub tail_one : p ≡ true → length (tail p) ≡ 1
  unfolding tail
  tail_one e = rw e (bytes_length 1 0)

  -- that byte is written
  pub tail_laid : p ≡ true → (out o : List ℕ) (at : ℕ) → o ≡ put out at (bytes byte_long 0) → o ≡ put out at (tail p)
  unfolding tail
  tail_laid e out o at f = rw e f

  -- of files with none
  pub tail_none : p ≡ false → (at : ℕ) (out : List ℕ) → (at ≡ at + length (tail p)) × (out ≡ put out at (tail p))
  unfolding tail
  tail_none e at out = rw e (omega arith, sym (put_nil out at))

-- ---- the entry of a turn
module _ (p : Bool) (k l : ℕ) (x y : List ℕ) where
  -- of the same part on both sides there is none
  entry_same : k ≡ same_kind → join (entry_of p k l x y) ≡ []
  unfolding entry_of join
  entry_same e = rw (eq-eqb k same_kind e)

  -- of a part that only the left has: head, number and tail
  entry_left : k ≡ left_kind → join (entry_of p k l x y) ≡ head p k l ++ (take (rise_long p) x ++ tail p)
  unfolding entry_of join left_entry
  entry_left e = rw e (append-nil (head p left_kind l ++ (take (rise_long p) x ++ tail p)))

  -- of a part of the right: head and part
  entry_right : (k ≡ same_kind → ⊥) → (k ≡ left_kind → ⊥) → join (entry_of p k l x y) ≡ head p k l ++ y
  unfolding entry_of join right_entry
  entry_right h g = rw (ne_eqb k same_kind h, ne_eqb k left_kind g) (append-nil (head p k l ++ y))

  -- where there is none, nothing is written
  pub same_laid : k ≡ same_kind → (at : ℕ) (out : List ℕ) → (at ≡ at + length (join (entry_of p k l x y))) × (out ≡ put out at (join (entry_of p k l x y)))
  same_laid e at out = rw (entry_same e) (omega arith, sym (put_nil out at))

  -- where there is one, it is no shorter than its head
  pub head_short : (k ≡ same_kind → ⊥) → length (head p k l) ≤ length (join (entry_of p k l x y))
  head_short h = go (eqb k left_kind) refl
    where
      go : (t : Bool) → eqb k left_kind ≡ t → length (head p k l) ≤ length (join (entry_of p k l x y))
      go true t = omega (arith, ap length (entry_left (eqb-true k left_kind t)), length-append (head p k l) (take (rise_long p) x ++ tail p))
      go false t = omega (arith, ap length (entry_right h (eqb-false k left_kind t)), length-append (head p k l) y)

  module _ (h : k ≡ same_kind → ⊥) (g : k ≡ left_kind → ⊥) where
    -- how long the entry of a part of the right is
    pub right_long : length (join (entry_of p k l x y)) ≡ length (head p k l) + length y
    right_long = ap length (entry_right h g) ∙ length-append (head p k l) y

    -- its head is written, and the part after it
    pub right_laid : (out o₁ o₂ : List ℕ) (at n : ℕ) → at + length (join (entry_of p k l x y)) ≤ length out → o₁ ≡ put out at (head p k l) → n ≡ at + length (head p k l) → o₂ ≡ put o₁ n y
        → o₂ ≡ put out at (join (entry_of p k l x y))
    right_laid out o₁ o₂ at n f e₁ q e₂ = rw (entry_right h g) (put_next out o₁ o₂ at n (head p k l) y (omega (arith, right_long)) e₁ q e₂)

  module _ (e : k ≡ left_kind) (w n : ℕ) (d : w ≡ rise_long p) (f : n ≡ min w (length x)) where
    -- the number is cut from the part, or all of a shorter part is taken
    number_cut : take (n - 0) x ≡ take (rise_long p) x
    number_cut =
        let m : n - 0 ≡ min (rise_long p) (length x) = omega (arith, f, d) in
        rw m (run_within 0 (rise_long p) (length x) x refl)

    -- how long the entry of a part that only the left has is
    pub left_long : length (join (entry_of p k l x y)) ≡ length (head p k l) + length (take (n - 0) x) + length (tail p)
    left_long = rw number_cut (omega (arith, ap length (entry_left e), length-append (head p k l) (take (rise_long p) x ++ tail p), length-append (take (rise_long p) x) (tail p)))

    -- its head is written, the number after it, and its tail after that
    pub left_laid : (out o₁ o₂ o₃ : List ℕ) (at a b : ℕ) → at + length (join (entry_of p k l x y)) ≤ length out → o₁ ≡ put out at (head p k l) → a ≡ at + length (head p k l) → o₂ ≡ put o₁ a (take (n - 0) x)
        → b ≡ a + length (take (n - 0) x) → o₃ ≡ put o₂ b (tail p) → o₃ ≡ put out at (join (entry_of p k l x y))
    left_laid out o₁ o₂ o₃ at a b h e₁ q e₂ r e₃ =
        let long = left_long in
        let keeps : length o₁ ≡ length out = ap length e₁ ∙ length_put out at (head p k l) (omega arith) in
        let rest = put_next o₁ o₂ o₃ a b (take (n - 0) x) (tail p) (omega arith) e₂ r e₃ in
        let all = put_next out o₁ o₃ at a (head p k l) (take (n - 0) x ++ tail p) (omega arith) e₁ q rest in
        rw (entry_left e, ← number_cut) all
