-- Laws of the section of the counters, written entry by entry, and of the places before runs. Assumes nothing.
use Rattle.std.specs.Prelude.{ℕ, ◌+◌, ◌-◌, ◌*◌, ◌^◌, ◌≤◌, ◌<◌, ◌≡◌, Bool, true, false, List, [], ◌++◌}
use Rattle.std.proofs.Math.Path.{sym}
use Rattle.std.proofs.Common.{ap, ◌∙◌, map-id, append_assoc, append-nil, length-take}
use native.Mathlib.Omega.{arith}
use Rattle.std.proofs.Math.Nat.{pow-le-pow_right}
use Rattle.std.proofs.Math.ListN.{length, take, drop, length-append}
use Rattle.std.proofs.Math.Pow.{are_bytes}
use Rattle.std.proofs.Math.Seq.{drop_at, take-take, take-append-le, length-take-le}
use Rattle.lemmas.specs.AreBytes.{bytes_take, bytes_drop}
use Rattle.lemmas.specs.Lists.{join}
use Rattle.lemmas.specs.Little.{bytes, bytes_length, number_bound}
use Rattle.lemmas.specs.Slices.{put, put_nil, put_append, length_put, join_append}
use Rattle.lemmas.specs.Laying.{put_next}
use Rattle.lemmas.specs.UpFrom.{up_from_turn, up_from_end}
use Rattle.model.specs.Snapshot.{section, same_bytes, byte_long, count_long, number_long, counter_count, counters_long, next_at}
use Rattle.snapshot_parse.specs.Parsing.{At, number_in, after_parts}
use Rattle.snapshot_parse.specs.ParsingLaws.{lent_part}
use Rattle.difference_scan.specs.Scan.{after_part, after_all}
use Rattle.difference_scan.specs.Listing.{levels_at, counter_bytes, counter_entry, counter_entries, as_is}
use Rattle.difference_scan.specs.TurnLaws.{all_first}

-- ---- a section whose count is written last
module _ {A : Type 0} where
  -- a run written, and another right before it, is both joined written at once
  pub put_before : (d : List A) (at : ℕ) (s t : List A) → at + length s ≤ length d → put (put d (at + length s) t) at s ≡ put d at (s ++ t)
  unfolding put
  put_before d at s t h =
      let n = at + length s in
      let rest = t ++ drop (n + length t) d in
      let l : length (take n d) ≡ n = length-take-le n d h in
      let front : take at (take n d ++ rest) ≡ take at d = take-append-le at (take n d) rest (omega arith) ∙ take-take at n d (omega arith) in
      let back : drop n (take n d ++ rest) ≡ rest = drop_at (take n d) rest n l in
      let e : at + length (s ++ t) ≡ n + length t = omega (arith, length-append s t) in
      rw (front, back, e) (simp append_assoc)

  -- a list that a run is written over keeps its length
  pub put_keeps : (d o s : List A) (at : ℕ) → at + length s ≤ length d → o ≡ put d at s → length o ≡ length d
  put_keeps d o s at h e = rw e (length_put d at s h)

-- how long a section of entries that are bytes already is: two bytes more than they
pub section_long : (es : List (List ℕ)) → length (section as_is es) ≡ 2 + length (join es)
unfolding section
section_long es = rw (map-id es) (omega (arith, length-append (bytes count_long (length es)) (join es), bytes_length 2 (length es)))

-- the entries are written two bytes on, and their number before them: the section is written
pub front_laid : (es : List (List ℕ)) (out o₁ o₂ : List ℕ) (at n : ℕ) → at + length (section as_is es) ≤ length out → o₁ ≡ put out (at + 2) (join es) → n ≡ length es → o₂ ≡ put o₁ at (bytes count_long n)
    → o₂ ≡ put out at (section as_is es)
unfolding section
front_laid es out o₁ o₂ at n h e₁ e e₂ =
    let count = bytes count_long (length es) in
    let two : at + length count ≡ at + 2 = omega (arith, bytes_length 2 (length es)) in
    e₂ ∙ rw (e₁, e, map-id es, ← two) (put_before out at count (join es) (omega (arith, section_long es)))

-- ---- entries written turn by turn
-- of all entries es are those of a turn, and fs those after it
module _ {A : Type 0} (es fs all : List (List A)) (e : all ≡ es ++ fs) where
  -- those of the turn are written: writing the others after them gives the same as before
  pub turn_laid : (d o : List A) (n m : ℕ) → n + length (join es) ≤ length d → o ≡ put d n (join es) → m ≡ n + length (join es) → put o m (join fs) ≡ put d n (join all)
  turn_laid d o n m h f g = rw (e, f, g, join_append es fs) (put_append d n (join es) (join fs) h)

  -- how long all are
  pub turn_length : length (join all) ≡ length (join es) + length (join fs)
  turn_length = rw (e, join_append es fs) (length-append (join es) (join fs))

  -- how many all are
  pub turn_count : length all ≡ length es + length fs
  turn_count = rw e (length-append es fs)

-- ---- the places before runs
-- a count is below 65536
pub count_few : (src : List ℕ) (at : ℕ) → are_bytes src ≡ true → number_in count_long (drop at src) < 65536
unfolding number_in
count_few src at h =
    let l = take count_long (drop at src) in
    let b = number_bound l (bytes_take count_long (drop at src) (bytes_drop at src h)) in
    let few : length l ≤ 2 = omega (arith, length-take count_long (drop at src)) in
    let p : 256 ^ length l ≤ 256 ^ 2 = pow-le-pow_right (omega arith) few in
    omega arith

-- the levels follow the pointers, which follow their count
pub levels_begin : (src : List ℕ) (at n next : ℕ) → At src at (drop counters_long src) → n ≡ number_in count_long (drop at src) → At src next (drop count_long (drop at src)) → after_all true n (drop next src) ≡ levels_at src
unfolding levels_at
levels_begin src at n next s e t = rw (t.rest, e, s.rest)

-- one pointer more is passed
pub pointer_passed : (src : List ℕ) (n next end : ℕ) → 0 < n → At src end (after_part true (drop next src)) → after_all true (n - 1) (drop end src) ≡ after_all true n (drop next src)
pointer_passed src n next end h t = ap (after_all true (n - 1)) t.rest ∙ sym (all_first true n (drop next src) h)

-- no pointer is left
pub pointers_passed : (n : ℕ) (bs : List ℕ) → n ≡ 0 → bs ≡ after_all true n bs
unfolding after_all after_parts
pointers_passed n bs e = rw e

-- ---- the counters
module _ (i : ℕ) (same : Bool) (y : List ℕ) where
  -- a counter that is the same has no entry
  pub counter_none : same ≡ true → length (counter_entry i same y) ≡ 0
  unfolding counter_entry
  counter_none e = rw e

  -- nothing is written of it
  pub counter_passed : same ≡ true → (at : ℕ) (out : List ℕ) → (at ≡ at + length (join (counter_entry i same y))) × (out ≡ put out at (join (counter_entry i same y)))
  unfolding counter_entry join
  counter_passed e at out = rw e (omega arith, sym (put_nil out at))

  module _ (e : same ≡ false) where
    -- one that is not has one
    pub counter_one : length (counter_entry i same y) ≡ 1
    unfolding counter_entry
    counter_one = rw e

    -- its bytes
    counter_bytes_lem : join (counter_entry i same y) ≡ bytes byte_long i ++ y
    unfolding counter_entry join
    counter_bytes_lem = rw e (append-nil (bytes byte_long i ++ y))

    -- how long it is
    pub counter_long : length (join (counter_entry i same y)) ≡ 1 + length y
    counter_long = omega (arith, ap length counter_bytes_lem, length-append (bytes byte_long i) y, bytes_length 1 i)

    -- its place is written, and its bytes after it
    pub counter_laid : (out o₁ o₂ : List ℕ) (at : ℕ) → at + length (join (counter_entry i same y)) ≤ length out → o₁ ≡ put out at (bytes byte_long i) → o₂ ≡ put o₁ (at + 1) y
        → o₂ ≡ put out at (join (counter_entry i same y))
    counter_laid out o₁ o₂ at h e₁ e₂ =
        let one = bytes_length 1 i in
        rw counter_bytes_lem (put_next out o₁ o₂ at (at + 1) (bytes byte_long i) y (omega (arith, counter_long)) e₁ (omega arith) e₂)

-- the bytes between a counter's place and its end are the counter
pub counter_lent : (src : List ℕ) (i at end : ℕ) → At src at (drop (next_at + i * number_long) src) → at ≤ end → At src end (drop number_long (drop at src)) → take (end - at) (drop at src) ≡ counter_bytes src i
unfolding counter_bytes
counter_lent src i at end s h t = lent_part src at end number_long h t ∙ ap (take number_long) s.rest

-- the counters from place i on
abbrev pub counters_from : ℕ → List ℕ → List ℕ → List (List ℕ)
counters_from i bs cs = counter_entries i (counter_count - i) bs cs

-- the first of them, and those after it
pub counters_turn : (bs cs x y : List ℕ) (i : ℕ) (same : Bool) → i < counter_count → x ≡ counter_bytes bs i → y ≡ counter_bytes cs i → same ≡ same_bytes x y
    → counters_from i bs cs ≡ counter_entry i same y ++ counters_from (i + 1) bs cs
unfolding counter_entries join
counters_turn bs cs x y i same h e f g = rw (g, e, f, up_from_turn i counter_count h)

-- no counter is left
pub counters_over_lem : (bs cs : List ℕ) (i : ℕ) → counter_count ≤ i → counters_from i bs cs ≡ []
unfolding counter_entries join
counters_over_lem bs cs i h = rw (up_from_end i counter_count h)

-- ---- the whole list
-- three sections, written one after another
pub three_laid : (d o₁ o₂ o₃ x y z : List ℕ) (n m : ℕ) → length (x ++ (y ++ z)) ≤ length d → o₁ ≡ put d 0 x → n ≡ length x → o₂ ≡ put o₁ n y → m ≡ n + length y → o₃ ≡ put o₂ m z → o₃ ≡ put d 0 (x ++ (y ++ z))
three_laid d o₁ o₂ o₃ x y z n m h e i f j g =
    let xs = length-append x (y ++ z) in
    let ys = length-append y z in
    let k = put_keeps d o₁ x 0 (omega arith) e in
    put_next d o₁ o₃ 0 n x (y ++ z) (omega arith) e (omega arith) (put_next o₁ o₂ o₃ n m y z (omega arith) f j g)
