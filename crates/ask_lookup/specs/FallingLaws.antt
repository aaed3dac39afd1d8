-- Laws of numbers written in order: rising by sorted places, and falling by their distances from the largest u64. Assumes nothing.
use Prim.Native.Nat.{ℕ, ◌+◌, ◌-◌, ◌^◌, ◌≤◌, ◌<◌, min}
use Rattle.std.specs.Prelude.{◌≡◌, refl, Bool, true, take, set}
use Rattle.std.proofs.Math.Path.{sym, ap}
use Rattle.std.proofs.Common.{◌∙◌}
use mathlib.Core.List.{List, [], ◌∷◌, map, Memᴰ as In}
use native.Mathlib.Omega.{arith}
use Rattle.std.proofs.Math.Decide.{dec_lt}
use Rattle.std.proofs.Math.Dec.{ltb}
use Rattle.std.proofs.Math.ListN.{length, get_or, drop, length-set}
use Rattle.std.proofs.lemmas.List.{length-map}
use Rattle.std.proofs.Math.Seq.{slice, drop-set-lt}
use borrow.Author.Tests.{ltb-true, lt-ltb, le-ltb}
use Rattle.lemmas.specs.Lists.{all, sort, up_from}
use Rattle.lemmas.specs.ListLaws.{sort_length, all_in, and_left, and_right}
use Rattle.lemmas.specs.Laying.{sorted_places}
use Rattle.lemmas.specs.Loops.{view_laid, view_all_laid}
use Rattle.lemmas.specs.Maps.{sort_map, sort_same_in}
use Rattle.lemmas.specs.Merge.{front_laid, all_sort, all_at}
use Rattle.lemmas.specs.Slices.{put, put_put, get_or_map, in_front, rest_cons}
use Rattle.lemmas.specs.UpFrom.{up_from_length, up_from_below}
use Rattle.model.specs.File.{max_files, max_word}
use Rattle.sorting.specs.Sorting.{by_number_at}
use Rattle.ask_lookup.specs.Lookup.{flip}

-- ---- rising

-- an array with the places of the numbers in front, by rising number
module _ (ns zeros order : List ℕ) (e : order ≡ put zeros 0 (sort (by_number_at ns) (up_from 0 (min max_files (length ns))))) (few : length ns ≤ max_files) where
  -- the numbers at these places are the sorted numbers
  pub rising_is : map (λ i. get_or ns i 0) (take (length ns) order) ≡ sort ltb ns
  unfolding by_number_at
  rising_is =
      let n : min max_files (length ns) ≡ length ns = omega arith in
      let places = sort (λ i j. ltb (get_or ns i 0) (get_or ns j 0)) (up_from 0 (length ns)) in
      let long : length places ≡ length ns = sort_length (λ i j. ltb (get_or ns i 0) (get_or ns j 0)) (up_from 0 (length ns)) ∙ up_from_length 0 (length ns) in
      ap (map (λ i. get_or ns i 0)) (front_laid zeros order places (length ns) long (rw n at e)) ∙ sorted_places ltb ns 0

  -- each is a place of the list
  pub rising_below : (j : ℕ) → j < length ns → get_or order j 0 < length ns
  unfolding by_number_at
  rising_below j h =
      let n : min max_files (length ns) ≡ length ns = omega arith in
      let places = sort (λ i j. ltb (get_or ns i 0) (get_or ns j 0)) (up_from 0 (length ns)) in
      let long : length places ≡ length ns = sort_length (λ i j. ltb (get_or ns i 0) (get_or ns j 0)) (up_from 0 (length ns)) ∙ up_from_length 0 (length ns) in
      let front = front_laid zeros order places (length ns) long (rw n at e) in
      let fits = all_sort (λ i. ltb i (length ns)) (λ i j. ltb (get_or ns i 0) (get_or ns j 0)) (up_from 0 (length ns)) (up_from_below 0 (length ns) (length ns) (omega arith)) in
      let at : get_or order j 0 ≡ get_or places j 0 = sym (in_front (length ns) order j 0 (omega (arith, ap length front))) ∙ ap (λ (l : List ℕ). get_or l j 0) front in
      ltb-true (get_or order j 0) (length ns) (ap (λ (i : ℕ). ltb i (length ns)) at ∙ all_at (λ i. ltb i (length ns)) places j 0 fits (omega arith))

  -- the number at one of them
  pub rising_at : (j : ℕ) → j < length ns → get_or ns (get_or order j 0) 0 ≡ get_or (sort ltb ns) j 0
  rising_at j h =
      let front = take (length ns) order in
      let long : length front ≡ length ns = sym (length-map front (λ i. get_or ns i 0)) ∙ ap length rising_is ∙ sort_length ltb ns in
      let below : j < length front = omega arith in
      sym (ap (λ (p : ℕ). get_or ns p 0) (in_front (length ns) order j 0 below)) ∙ sym (get_or_map (λ i. get_or ns i 0) front j 0 0 below) ∙ ap (λ (l : List ℕ). get_or l j 0) rising_is

-- ---- falling

-- the number fits 64 bits
abbrev pub small : ℕ → Bool
small n = ltb n (2 ^ 64)

-- the distance of the distance is the number
flip_flip : (ns : List ℕ) → all small ns ≡ true → map flip (map flip ns) ≡ ns
unfolding all flip
flip_flip [] h = refl
flip_flip (n ∷ ns) h =
    let b = ltb-true n (2 ^ 64) (and_left (small n) (all small ns) h) in
    let e : max_word - (max_word - n) ≡ n = omega arith in
    cc (flip_flip ns (and_right (small n) (all small ns) h))

-- the greater number has the smaller distance
flip_order : (m n : ℕ) → m < 2 ^ 64 → n < 2 ^ 64 → ltb (flip m) (flip n) ≡ ltb n m
unfolding flip
flip_order m n h k = go (dec_lt n m)
  where
    go : Dec (n < m) → ltb (max_word - m) (max_word - n) ≡ ltb n m
    go (yes l) = lt-ltb (max_word - m) (max_word - n) (omega arith) ∙ sym (lt-ltb n m l)
    go (no l) = le-ltb (max_word - m) (max_word - n) (omega arith) ∙ sym (le-ltb n m (omega arith))

-- sorting by distance sorts from the greatest down
pub falling_is : (ns : List ℕ) → all small ns ≡ true → map flip (sort ltb (map flip ns)) ≡ sort (λ m n. ltb n m) ns
falling_is ns h =
    let bound : (n : ℕ) → In n ns → n < 2 ^ 64 = λ n i. ltb-true n (2 ^ 64) ((all_in small ns).0 h n i) in
    let same : sort (λ a b. ltb (flip a) (flip b)) ns ≡ sort (λ m n. ltb n m) ns =
    sort_same_in (λ a b. ltb (flip a) (flip b)) (λ m n. ltb n m) ns (λ m n i j. flip_order m n (bound m i) (bound n j)) in
    ap (map flip) (sort_map flip ltb ns ∙ ap (map flip) same)
    ∙ flip_flip (sort (λ m n. ltb n m) ns) (all_sort small (λ m n. ltb n m) ns h)

-- ---- the front of lent output, each number replaced in its place

-- the output after j numbers are replaced: replacing the rest gives the whole answer
pub record Turning (out₀ : List ℕ) (n : ℕ) (out : List ℕ) (j : ℕ) : Type 0 where
  pub some_of : j ≤ n
  pub room : length out ≡ length out₀
  pub same : drop j out ≡ drop j out₀
  pub laid : put out j (map flip (slice j n out₀)) ≡ put out₀ 0 (map flip (slice 0 n out₀))

module _ (out₀ : List ℕ) (n : ℕ) (h : n ≤ length out₀) where
  -- at first none is replaced
  pub turn_starts : Turning out₀ n out₀ 0
  turn_starts = record { some_of = omega arith; room = refl; same = refl; laid = refl }

  -- a turn replaces one more
  pub turn_keeps : (out : List ℕ) (j : ℕ) → Turning out₀ n out j → j < n → Turning out₀ n (set out j (max_word - get_or out j 0)) (j + 1)
  unfolding flip
  turn_keeps out j t k =
      let here : drop j out ≡ get_or out j 0 ∷ drop (j + 1) out = rest_cons out j 0 (omega (arith, t.room)) in
      let there : drop j out₀ ≡ get_or out₀ j 0 ∷ drop (j + 1) out₀ = rest_cons out₀ j 0 (omega arith) in
      let e : drop j out ≡ drop j out₀ = t.same in
      let same_number : get_or out j 0 ≡ get_or out₀ j 0 = cc in
      let same_rest : drop (j + 1) out ≡ drop (j + 1) out₀ = cc in
      let v = max_word - get_or out j 0 in
      record {
        some_of = omega arith;
        room = length-set out j v ∙ t.room;
        same = drop-set-lt (j + 1) out j v (omega arith) ∙ same_rest;
        laid = ap (λ (x : ℕ). put (set out j (max_word - x)) (j + 1) (map flip (slice (j + 1) n out₀))) same_number ∙ view_laid flip j n out₀ out 0 k h (omega (arith, t.room)) ∙ t.laid;
      }

  -- at the end all are replaced
  pub turn_ends : (out : List ℕ) (j : ℕ) → Turning out₀ n out j → n ≤ j → out ≡ put out₀ 0 (map flip (take n out₀))
  turn_ends out j t k = sym (view_all_laid flip j n out₀ out t.some_of k) ∙ t.laid

-- numbers written to the front in rising order, then replaced
pub laid_turned : (out₀ out₁ out₂ ns : List ℕ) (n : ℕ) → length ns ≡ n → out₁ ≡ put out₀ 0 ns → out₂ ≡ put out₁ 0 (map flip (take n out₁)) → out₂ ≡ put out₀ 0 (map flip ns)
laid_turned out₀ out₁ out₂ ns n l e f =
    let front : take n out₁ ≡ ns = front_laid out₀ out₁ ns n l e in
    let longer : length ns ≤ length (map flip ns) = omega (arith, length-map ns flip) in
    f ∙ ap (λ (s : List ℕ). put out₁ 0 (map flip s)) front ∙ ap (λ (o : List ℕ). put o 0 (map flip ns)) e ∙ put_put out₀ 0 ns (map flip ns) (omega arith) longer
