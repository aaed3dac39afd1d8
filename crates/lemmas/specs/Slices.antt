-- Runs of a list by place: a run written over a list, a list cut into parts, an element inserted into a part, mapped runs. For any element type. Assumes nothing.
use Prim.Native.Nat.{ℕ, zero, suc, ◌+◌, ◌-◌, ◌≤◌, ◌<◌, min, zero-le}
use Rattle.std.specs.Prelude.{◌≡◌, Bool, true, false, leb, set, replicate}
use Rattle.std.proofs.Math.Path.{refl, sym, ap}
use Rattle.std.proofs.Common.{◌∙◌, le_refl, add-zero, zero-add, le_of_suc-le-suc, not-suc-le-zero, leb-true, leb-false, length-take, drop_of_length-le, take_all, take-take, take-add, drop-cons, get_or-take, get_or-drop}
use mathlib.Core.List.{List, [], ◌∷◌, ◌++◌, map, map-append, append_assoc, append-nil}
use native.Mathlib.Omega.{arith}
use Rattle.std.proofs.Math.Numerals.{add-one}
use Rattle.std.proofs.Math.Nat.{le_antisymm, suc-add, add-suc}
use Rattle.std.proofs.Math.ListN
use Rattle.std.proofs.Math.ListN.{length, take, drop, get_or, take-append-drop, length-append, length-drop, length-map, get_or-append}
use Rattle.std.proofs.Math.Seq.{take-length, slice, slice-cons, slice_empty, take-suc-set, take-set-lt, drop-set-lt, append_snoc, set_split, length-slice, length-take-le, take_at, drop_at, drop-append-add, drop-append-le, drop-append_seam, take-append-add, take-append-le, take-append_seam, drop-drop, drop-length, take-nil}
use Rattle.lemmas.specs.Lists.{join, sum}

module _ {A : Type 0} where
  -- d with s written over it from place at on
  unfoldable pub put : List A → ℕ → List A → List A
  put d at s = take at d ++ (s ++ drop (at + length s) d)

  -- d with x inserted at place at. The elements from there up to end move one place on
  unfoldable pub opened : List A → ℕ → ℕ → A → List A
  opened d at end x = take at d ++ (x ∷ (slice at end d ++ drop (suc end) d))

  -- l cut into parts of the given lengths
  unfoldable pub parts : List A → List ℕ → List (List A)
  parts l [] = []
  parts l (c ∷ cs) = take c l ∷ parts (drop c l) cs

module _ {A : Type 0} where
  -- ---- runs

  -- the run from i to e begins with the element at i
  pub run_cons : (i e : ℕ) (l : List A) (d : A) → i < e → e ≤ length l → slice i e l ≡ get_or l i d ∷ slice (i + 1) e l
  run_cons i e l d h k = rw add-one (slice-cons i e l d h k)

  -- a run that has ended is empty
  pub run_end : (i e : ℕ) (l : List A) → i ≤ e → e ≤ i → slice i e l ≡ []
  run_end i e l h k = rw (le_antisymm h k) (slice_empty e l)

  -- a run whose start is past its end is empty
  pub run_past : (i e : ℕ) (l : List A) → e ≤ i → slice i e l ≡ []
  run_past i e l h = let n : length (take e l) ≤ i = omega (arith, length-take e l) in drop_of_length-le (take e l) n

  -- a run whose end is beyond the list ends where the list does
  pub run_within : (i e n : ℕ) (l : List A) → length l ≡ n → slice i (min e n) l ≡ slice i e l
  run_within i e n l q = go (leb e n) refl
    where
      go : (t : Bool) → leb e n ≡ t → slice i (min e n) l ≡ slice i e l
      go true t = let m : min e n ≡ e = omega (arith, leb-true e n t) in rw m
      go false t =
          let m : min e n ≡ length l = omega (arith, leb-false e n t) in
          rw (m, take-length l, take_all e l (omega (arith, leb-false e n t)))

  -- the rest of a list from i on begins with the element at i
  pub rest_cons : (l : List A) (i : ℕ) (d : A) → i < length l → drop i l ≡ get_or l i d ∷ drop (i + 1) l
  rest_cons l i d h = rw add-one (drop-cons l i d h)

  -- the same, with the next place given by an equation
  pub drop_next : (l : List A) (j i : ℕ) (d : A) → suc j ≡ i → j < length l → drop j l ≡ get_or l j d ∷ drop i l
  drop_next l j i d e h = rw (← e) (drop-cons l j d h)

  -- the run up to the list's end is the rest of the list
  pub run_rest : (i : ℕ) (l : List A) → slice i (length l) l ≡ drop i l
  run_rest i l = ap (drop i) (take-length l)

  -- a run's start plus its length is its end
  pub length_run : (from e : ℕ) (l : List A) → from ≤ e → e ≤ length l → from + length (slice from e l) ≡ e
  length_run from e l h k = rw (length-slice from e l k) (omega arith)

  -- c elements from a place on, as a run
  pub take_drop : (from c : ℕ) (l : List A) → take c (drop from l) ≡ slice from (from + c) l
  take_drop zero c l = rw zero-add
  take_drop (suc from) c [] = rw suc-add (take-nil c)
  take_drop (suc from) c (x ∷ l) = rw suc-add (take_drop from c l)

  -- the run between two other parts
  pub slice_mid : (a r b : List A) → slice (length a) (length a + length r) (a ++ (r ++ b)) ≡ r
  slice_mid a r b = rw (← append_assoc a r b, ← length-append a r, take-append_seam (a ++ r) b, drop-append_seam a r)

  -- the element at place k of a run
  pub at_run : (i e : ℕ) (l : List A) (k : ℕ) (d : A) → i + k < e → get_or (slice i e l) k d ≡ get_or l (i + k) d
  at_run i e l k d h = get_or-drop i (take e l) k d ∙ get_or-take e l (i + k) d h

  -- an element of a front part is that of the whole
  pub in_front : (n : ℕ) (l : List A) (i : ℕ) (d : A) → i < length (take n l) → get_or (take n l) i d ≡ get_or l i d
  in_front n l i d h = get_or-take n l i d (omega (arith, length-take n l))

  -- the run from i to e is the run from i to m and the one from m to e
  pub run_join : (i m e : ℕ) (l : List A) → i ≤ m → m ≤ e → e ≤ length l → slice i e l ≡ slice i m l ++ slice m e l
  run_join i m e l h k g =
      let long : i ≤ length (take m (take e l)) = omega (arith, length-take-le m (take e l) (omega (arith, length-take-le e l g))) in
      ap (drop i) (sym (take-append-drop m (take e l)))
      ∙ drop-append-le i (take m (take e l)) (slice m e l) long
      ∙ ap (λ (z : List A). drop i z ++ slice m e l) (take-take m e l k)

  -- ---- a run moved one place up

  -- a turn: what the loop will have made stays the same
  pub shift_turn : (d : List A) (k e : ℕ) (x z : A) → k < e → e < length d → opened (set d k x) (k + 1) e (get_or d k z) ≡ opened d k e x
  unfolding opened
  shift_turn d k e x z h l =
      let hk : k < length d = omega arith in
      let le : e ≤ length d = omega arith in
      let ks : k < suc e = omega arith in
      rw (add-one k, take-suc-set d k x hk, take-set-lt e d k x h, drop-set-lt (suc k) (take e d) k x (le_refl (suc k)), drop-set-lt (suc e) d k x ks, append_snoc, slice-cons k e d z h le)

  -- nothing is left to move: the element is stored
  pub shift_end : (d : List A) (k e : ℕ) (x : A) → k ≤ e → e ≤ k → e < length d → set d e x ≡ opened d k e x
  unfolding opened
  shift_end d k e x h g l = rw (run_end k e d h g, set_split d e x l, le_antisymm h g)

  -- ---- a run written over a list

  -- one element written, then the rest after it
  pub put_cons : (d : List A) (n : ℕ) (x : A) (s : List A) → n < length d → put (set d n x) (n + 1) s ≡ put d n (x ∷ s)
  unfolding put
  put_cons d n x s h =
      let lt : n < suc (n + length s) = omega arith in
      rw (add-one n, take-suc-set d n x h, suc-add n (length s), drop-set-lt (suc (n + length s)) d n x lt, append_snoc, add-suc n (length s))

  -- nothing written
  pub put_nil : (d : List A) (n : ℕ) → put d n [] ≡ d
  unfolding put
  put_nil d n = rw (add-zero n, take-append-drop n d)

  -- what was written is there
  pub slice_put : (d : List A) (at : ℕ) (s : List A) → at ≤ length d → slice at (at + length s) (put d at s) ≡ s
  unfolding put
  slice_put d at s h =
      let l : length (take at d) ≡ at = length-take-le at d h in
      let k : length (take at d ++ s) ≡ at + length s = length-append (take at d) s ∙ ap (λ (n : ℕ). n + length s) l in
      rw (← append_assoc (take at d) s (drop (at + length s) d), take_at (take at d ++ s) (drop (at + length s) d) (at + length s) k, drop_at (take at d) s at l)

  -- what is before it stays
  pub take_put : (d : List A) (at : ℕ) (s : List A) → at ≤ length d → take at (put d at s) ≡ take at d
  unfolding put
  take_put d at s h = take_at (take at d) (s ++ drop (at + length s) d) at (length-take-le at d h)

  -- written a second time with no fewer: the first time is overwritten
  pub put_put : (d : List A) (at : ℕ) (s t : List A) → at ≤ length d → length s ≤ length t → put (put d at s) at t ≡ put d at t
  unfolding put
  put_put d at s t h k =
      let l : length (take at d) ≡ at = length-take-le at d h in
      let m = at + length t in
      let e : length (take at d ++ s) + (length t - length s) ≡ m = omega (arith, length-append (take at d) s) in
      let front : take at (put d at s) ≡ take at d = take_at (take at d) (s ++ drop (at + length s) d) at l in
      let f : at + length s + (length t - length s) ≡ m = omega arith in
      let back : drop m (put d at s) ≡ drop m d =
      rw (← append_assoc (take at d) s (drop (at + length s) d), ← e)
      (drop-append-add (take at d ++ s) (drop (at + length s) d) (length t - length s)
      ∙ drop-drop (length t - length s) (at + length s) d ∙ ap (λ (n : ℕ). drop n d) (f ∙ sym e)) in
      rw (front, back)

  -- writing keeps the length
  pub length_put : (d : List A) (at : ℕ) (s : List A) → at + length s ≤ length d → length (put d at s) ≡ length d
  unfolding put
  length_put d at s h =
      let l : length (take at d) ≡ at = length-take-le at d (omega arith) in
      rw (length-append (take at d) (s ++ drop (at + length s) d), length-append s (drop (at + length s) d), length-drop (at + length s) d, l) (omega arith)

  -- two runs written one after the other are both joined written at once
  pub put_append : (d : List A) (at : ℕ) (s x : List A) → at + length s ≤ length d → put (put d at s) (at + length s) x ≡ put d at (s ++ x)
  unfolding put
  put_append d at s x h =
      let l : length (take at d) ≡ at = length-take-le at d (omega arith) in
      let k : length (take at d ++ s) ≡ at + length s = length-append (take at d) s ∙ ap (λ (n : ℕ). n + length s) l in
      let rest = drop (at + length s) d in
      let front : take (at + length s) (put d at s) ≡ take at d ++ s = rw (← append_assoc (take at d) s rest) (take_at (take at d ++ s) rest (at + length s) k) in
      let back : drop (at + length s + length x) (put d at s) ≡ drop (at + length s + length x) d =
      rw (← append_assoc (take at d) s rest)
      (ap (λ (n : ℕ). drop (n + length x) ((take at d ++ s) ++ rest)) (sym k) ∙ drop-append-add (take at d ++ s) rest (length x) ∙ drop-drop (length x) (at + length s) d) in
      let e : at + length (s ++ x) ≡ at + length s + length x = omega (arith, length-append s x) in
      rw (front, back, e) (simp append_assoc)

  -- a list of equal length replaces the whole
  pub put_whole : (d s : List A) → length s ≡ length d → put d 0 s ≡ s
  unfolding put
  put_whole d s h = rw (zero-add (length s), h, drop-length d, append-nil s)

  -- a list written over the front
  pub put_front : (d s : List A) → put d 0 s ≡ s ++ drop (length s) d
  unfolding put
  put_front d s = rw (zero-add (length s))

  -- one element repeated, without the first n
  pub drop_replicate : (n m : ℕ) (d : A) → drop n (replicate m d) ≡ replicate (m - n) d
  drop_replicate zero m d = let e : m - 0 ≡ m = omega arith in rw e
  drop_replicate (suc n) zero d = let e : 0 - suc n ≡ 0 = omega arith in rw e
  drop_replicate (suc n) (suc m) d = let e : suc m - suc n ≡ m - n = omega arith in rw e (drop_replicate n m d)

  -- ---- parts

  -- the parts from place k on begin with the run of part k
  pub parts_turn : (l : List A) (cs : List ℕ) (k from : ℕ) → k < length cs
      → parts (drop from l) (drop k cs) ≡ slice from (from + get_or cs k 0) l ∷ parts (drop (from + get_or cs k 0) l) (drop (k + 1) cs)
  unfolding parts
  parts_turn l cs k from h = rw (drop-cons cs k 0 h, drop-drop (get_or cs k 0) from l, take_drop from (get_or cs k 0) l, add-one k)

  -- no part is left
  pub parts_over : (l : List A) (cs : List ℕ) (k from : ℕ) → length cs ≤ k → parts (drop from l) (drop k cs) ≡ []
  unfolding parts
  parts_over l cs k from h = rw (drop_of_length-le cs h)

  -- there is one part for each length
  pub length_parts : (l : List A) (cs : List ℕ) → length (parts l cs) ≡ length cs
  unfolding parts
  length_parts l [] = refl
  length_parts l (c ∷ cs) = ap suc (length_parts (drop c l) cs)

  -- lists joined and cut again
  pub parts_join : (ls : List (List A)) (z : List A) → parts (join ls ++ z) (map length ls) ≡ ls
  unfolding parts join
  parts_join [] z = refl
  parts_join (l ∷ ls) z = rw (append_assoc l (join ls) z, take-append_seam l (join ls ++ z), drop-append_seam l (join ls ++ z), parts_join ls z)

  -- a list cut and joined again
  pub join_parts : (l : List A) (cs : List ℕ) → sum cs ≤ length l → join (parts l cs) ≡ take (sum cs) l
  unfolding parts join sum
  join_parts l [] h = refl
  join_parts l (c ∷ cs) h = rw (take-add c (sum cs) l, join_parts (drop c l) cs (omega (arith, length-drop c l)))

  -- each part has its given length
  pub lengths_parts : (l : List A) (cs : List ℕ) → sum cs ≤ length l → map length (parts l cs) ≡ cs
  unfolding parts sum
  lengths_parts l [] h = refl
  lengths_parts l (c ∷ cs) h =
      let e : length (take c l) ≡ c = length-take-le c l (omega arith) in
      rw (e, lengths_parts (drop c l) cs (omega (arith, length-drop c l)))

  -- the sum of the lengths is the length of the join
  pub sum_lengths : (ls : List (List A)) → sum (map length ls) ≡ length (join ls)
  unfolding join sum
  sum_lengths [] = refl
  sum_lengths (l ∷ ls) = omega (arith, length-append l (join ls), sum_lengths ls)

  -- two lists of lists joined
  pub join_append : (xs ys : List (List A)) → join (xs ++ ys) ≡ join xs ++ join ys
  unfolding join
  join_append [] ys = refl
  join_append (x ∷ xs) ys = ap (λ (z : List A). x ++ z) (join_append xs ys) ∙ sym (append_assoc x (join xs) (join ys))

  -- a part, those before it and those after it
  pub join_split : (ls : List (List A)) (k : ℕ) → k < length ls → join ls ≡ join (take k ls) ++ (get_or ls k [] ++ join (drop (suc k) ls))
  unfolding join
  join_split [] k h = absurd (not-suc-le-zero h)
  join_split (l ∷ ls) zero h = refl
  join_split (l ∷ ls) (suc k) h =
      ap (λ (z : List A). l ++ z) (join_split ls k (le_of_suc-le-suc h)) ∙ sym (append_assoc l (join (take k ls)) (get_or ls k [] ++ join (drop (suc k) ls)))

  -- the join with one part replaced
  pub join_set : (ls : List (List A)) (k : ℕ) (r : List A) → k < length ls → join (set ls k r) ≡ join (take k ls) ++ (r ++ join (drop (suc k) ls))
  unfolding join
  join_set [] k r h = absurd (not-suc-le-zero h)
  join_set (l ∷ ls) zero r h = refl
  join_set (l ∷ ls) (suc k) r h =
      ap (λ (z : List A). l ++ z) (join_set ls k r (le_of_suc-le-suc h)) ∙ sym (append_assoc l (join (take k ls)) (r ++ join (drop (suc k) ls)))

  -- a part starts at the sum of the lengths before it
  pub part_start_lem : (ls : List (List A)) (k : ℕ) → sum (take k (map length ls)) ≡ length (join (take k ls))
  unfolding join sum
  part_start_lem ls zero = refl
  part_start_lem [] (suc k) = refl
  part_start_lem (l ∷ ls) (suc k) = omega (arith, length-append l (join (take k ls)), part_start_lem ls k)

  -- a part is the run from its start on
  pub part_run : (ls : List (List A)) (z : List A) (k : ℕ) → k < length ls
      → slice (sum (take k (map length ls))) (sum (take k (map length ls)) + get_or (map length ls) k 0) (join ls ++ z) ≡ get_or ls k []
  part_run ls z k h =
      let a = join (take k ls) in
      let r = get_or ls k [] in
      let b = join (drop (suc k) ls) in
      let size : get_or (map length ls) k 0 ≡ length r = ListN.get_or-map length ls k [] in
      rw (part_start_lem ls k, size)
      (ap (λ (s : List A). slice (length a) (length a + length r) (s ++ z)) (join_split ls k h)
      ∙ ap (slice (length a) (length a + length r)) (simp append_assoc) ∙ slice_mid a r (b ++ z))

  -- the same by the given lengths
  pub part_at : (l : List A) (cs : List ℕ) (k : ℕ) → k < length cs → get_or (parts l cs) k [] ≡ slice (sum (take k cs)) (sum (take k cs) + get_or cs k 0) l
  unfolding parts sum
  part_at l [] k h = absurd (not-suc-le-zero h)
  part_at l (c ∷ cs) zero h = rw (zero-add c)
  part_at l (c ∷ cs) (suc k) h =
      let n = sum (take k cs) in
      part_at (drop c l) cs k (le_of_suc-le-suc h)
      ∙ sym (take_drop n (get_or cs k 0) (drop c l))
      ∙ ap (take (get_or cs k 0)) (drop-drop n c l)
      ∙ take_drop (c + n) (get_or cs k 0) l

  -- an element inserted into a part: everything after it moves one place on
  open_mid : (a r b z : List A) (m : ℕ) (x : A) → m ≤ length r
      → opened ((a ++ (r ++ b)) ++ z) (length a + m) (length (a ++ (r ++ b))) x ≡ (a ++ ((take m r ++ (x ∷ drop m r)) ++ b)) ++ drop 1 z
  unfolding opened
  open_mid a r b z m x h =
      let w = a ++ (r ++ b) in
      let front : take (length a + m) (w ++ z) ≡ a ++ take m r =
      rw (append_assoc a (r ++ b) z, take-append-add a ((r ++ b) ++ z) m, append_assoc r b z, take-append-le m r (b ++ z) h) in
      let mid : slice (length a + m) (length w) (w ++ z) ≡ drop m r ++ b =
      rw (take-append_seam w z, drop-append-add a (r ++ b) m, drop-append-le m r b h) in
      let back : drop (suc (length w)) (w ++ z) ≡ drop 1 z =
      rw (← add-one (length w)) (drop-append-add w z 1) in
      rw (front, mid, back) (simp append_assoc)

  -- the lists with x inserted at place m of list k
  unfoldable pub open_part : List (List A) → ℕ → ℕ → A → List (List A)
  open_part ls k m x = set ls k (take m (get_or ls k []) ++ (x ∷ drop m (get_or ls k [])))

  -- an element inserted into a part is inserted into the join
  pub open_part_lem : (ls : List (List A)) (z : List A) (k m : ℕ) (x : A) → k < length ls → m ≤ length (get_or ls k [])
      → opened (join ls ++ z) (sum (take k (map length ls)) + m) (length (join ls)) x ≡ join (open_part ls k m x) ++ drop 1 z
  unfolding open_part
  open_part_lem ls z k m x h g =
      let a = join (take k ls) in
      let r = get_or ls k [] in
      let b = join (drop (suc k) ls) in
      rw (part_start_lem ls k)
      (ap (λ (s : List A). opened (s ++ z) (length a + m) (length s) x) (join_split ls k h)
      ∙ open_mid a r b z m x g
      ∙ ap (λ (s : List A). s ++ drop 1 z) (sym (join_set ls k (take m r ++ (x ∷ drop m r)) h)))

  -- inserting makes a list one longer
  open_length : (r : List A) (m : ℕ) (x : A) → length (take m r ++ (x ∷ drop m r)) ≡ length r + 1
  open_length r m x = omega (arith, length-append (take m r) (x ∷ drop m r), length-append (take m r) (drop m r), ap length (take-append-drop m r))

  -- only that part is one longer
  pub open_sizes : (ls : List (List A)) (k m : ℕ) (x : A) → map length (open_part ls k m x) ≡ set (map length ls) k (get_or (map length ls) k 0 + 1)
  unfolding open_part
  open_sizes [] k m x = refl
  open_sizes (l ∷ ls) zero m x = ap (λ (n : ℕ). n ∷ map length ls) (open_length l m x)
  open_sizes (l ∷ ls) (suc k) m x = ap (λ (ns : List ℕ). length l ∷ ns) (open_sizes ls k m x)

  -- the join is one longer
  pub open_total : (ls : List (List A)) (k m : ℕ) (x : A) → k < length ls → length (join (open_part ls k m x)) ≡ length (join ls) + 1
  unfolding open_part join
  open_total [] k m x h = absurd (not-suc-le-zero h)
  open_total (l ∷ ls) zero m x h =
      omega (arith, length-append (take m l ++ (x ∷ drop m l)) (join ls), length-append l (join ls), open_length l m x)
  open_total (l ∷ ls) (suc k) m x h =
      omega (arith, length-append l (join (open_part ls k m x)), length-append l (join ls), open_total ls k m x (le_of_suc-le-suc h))

  -- ---- the same in an array that holds the parts in its front

  -- a part is the run from its start on
  pub put_part_run : (v : List A) (ls : List (List A)) (k : ℕ) → k < length ls
      → slice (sum (take k (map length ls))) (sum (take k (map length ls)) + get_or (map length ls) k 0) (put v 0 (join ls)) ≡ get_or ls k []
  put_part_run v ls k h = rw (put_front v (join ls)) (part_run ls (drop (length (join ls)) v) k h)

  -- cutting gives the parts again
  pub put_parts : (v : List A) (ls : List (List A)) → parts (put v 0 (join ls)) (map length ls) ≡ ls
  put_parts v ls = rw (put_front v (join ls)) (parts_join ls (drop (length (join ls)) v))

  -- an element inserted into a part
  pub put_open_part : (v : List A) (ls : List (List A)) (k m : ℕ) (x : A) → k < length ls → m ≤ length (get_or ls k [])
      → opened (put v 0 (join ls)) (sum (take k (map length ls)) + m) (length (join ls)) x ≡ put v 0 (join (open_part ls k m x))
  put_open_part v ls k m x h g =
      let n = length (join ls) in
      rw (put_front v (join ls), put_front v (join (open_part ls k m x)))
      (open_part_lem ls (drop n v) k m x h g
      ∙ ap (λ (z : List A). join (open_part ls k m x) ++ z) (drop-drop 1 n v ∙ ap (λ (j : ℕ). drop j v) (sym (open_total ls k m x h))))

  -- ---- the same for one list in an array's front

  -- an element of it
  pub get_or_put : (z s : List A) (k : ℕ) (d : A) → k < length s → get_or (put z 0 s) k d ≡ get_or s k d
  get_or_put z s k d h = ap (λ (l : List A). get_or l k d) (put_front z s) ∙ get_or-append s (drop (length s) z) d k h

  -- an element inserted into it
  pub put_opened : (z s : List A) (m : ℕ) (x : A) → m ≤ length s → opened (put z 0 s) m (length s) x ≡ put z 0 (take m s ++ (x ∷ drop m s))
  unfolding join sum open_part
  put_opened z s m x h = simp (append-nil, zero-add) at (put_open_part z (s ∷ []) 0 m x (omega arith) h)

-- ---- sums

-- one more number to add
pub sum_turn : (cs : List ℕ) (k : ℕ) → k < length cs → sum (drop k cs) ≡ get_or cs k 0 + sum (drop (k + 1) cs)
unfolding sum
sum_turn cs k h = rw (drop-cons cs k 0 h, add-one k)

-- no number is left to add
pub sum_over : (cs : List ℕ) (k : ℕ) → length cs ≤ k → sum (drop k cs) ≡ 0
unfolding sum
sum_over cs k h = rw (drop_of_length-le cs h)

-- the sum of two lists joined
pub sum_append : (a b : List ℕ) → sum (a ++ b) ≡ sum a + sum b
unfolding sum
sum_append [] b = omega arith
sum_append (x ∷ a) b = omega (arith, sum_append a b)

-- a front sums to no more than the whole
pub sum_take : (n : ℕ) (l : List ℕ) → sum (take n l) ≤ sum l
unfolding sum
sum_take zero l = zero-le
sum_take (suc n) [] = zero-le
sum_take (suc n) (x ∷ l) = omega (arith, sum_take n l)

-- a front and the next element sum to no more than the whole
pub sum_upto : (k : ℕ) (l : List ℕ) → sum (take k l) + get_or l k 0 ≤ sum l
unfolding sum
sum_upto zero [] = zero-le
sum_upto (suc k) [] = zero-le
sum_upto zero (x ∷ l) = omega arith
sum_upto (suc k) (x ∷ l) = omega (arith, sum_upto k l)

-- one more at the front: where the next part starts
pub sum_next : (k : ℕ) (l : List ℕ) → sum (take (k + 1) l) ≡ sum (take k l) + get_or l k 0
unfolding sum
sum_next k l = rw add-one (go k l)
  where
    go : (k : ℕ) (l : List ℕ) → sum (take (suc k) l) ≡ sum (take k l) + get_or l k 0
    go zero [] = refl
    go (suc k) [] = refl
    go zero (x ∷ l) = omega arith
    go (suc k) (x ∷ l) = omega (arith, go k l)

-- ---- mapped lists

module _ {A B : Type 0} (f : A → B) where
  -- the element at a place of a mapped list, whatever is read past its end
  pub get_or_map : (l : List A) (i : ℕ) (d : A) (z : B) → i < length l → get_or (map f l) i z ≡ f (get_or l i d)
  get_or_map [] i d z h = absurd (not-suc-le-zero h)
  get_or_map (x ∷ l) zero d z h = refl
  get_or_map (x ∷ l) (suc i) d z h = get_or_map l i d z (le_of_suc-le-suc h)

  -- the first n of a mapped list
  pub take_map : (n : ℕ) (l : List A) → take n (map f l) ≡ map f (take n l)
  take_map zero l = refl
  take_map (suc n) [] = refl
  take_map (suc n) (x ∷ l) = ap (λ (r : List B). f x ∷ r) (take_map n l)

  -- the rest of a mapped list
  pub drop_map : (n : ℕ) (l : List A) → drop n (map f l) ≡ map f (drop n l)
  drop_map zero l = refl
  drop_map (suc n) [] = refl
  drop_map (suc n) (x ∷ l) = drop_map n l

  -- a run of a mapped list
  pub slice_map : (i e : ℕ) (l : List A) → slice i e (map f l) ≡ map f (slice i e l)
  slice_map i e l = ap (drop i) (take_map e l) ∙ drop_map i (take e l)

  module _ (i e : ℕ) (l : List A) where
    -- a mapped run begins with the mapped element at i
    pub drop_view : (d : A) → i < e → e ≤ length l → map f (slice i e l) ≡ f (get_or l i d) ∷ map f (slice (i + 1) e l)
    drop_view d h k = ap (map f) (run_cons i e l d h k)

    -- a mapped run that has ended is empty
    pub view_end : i ≤ e → e ≤ i → map f (slice i e l) ≡ []
    view_end h k = ap (map f) (run_end i e l h k)

    -- a mapped run is as long as the run
    pub length_view : e ≤ length l → length (map f (slice i e l)) ≡ e - i
    length_view k = length-map (slice i e l) f ∙ length-slice i e l k

    -- the element at place k of a mapped run
    pub at_view : (k : ℕ) (d : A) (z : B) → i + k < e → e ≤ length l → get_or (map f (slice i e l)) k z ≡ f (get_or l (i + k) d)
    at_view k d z h g =
        let n : k < length (slice i e l) = omega (arith, length-slice i e l g) in
        get_or_map (slice i e l) k d z n ∙ ap f (at_run i e l k d h)

  -- writing over a list, mapped
  pub put_map : (d : List A) (at : ℕ) (s : List A) → map f (put d at s) ≡ put (map f d) at (map f s)
  unfolding put
  put_map d at s =
      map-append f (take at d) (s ++ drop (at + length s) d)
      ∙ ap (λ (r : List B). map f (take at d) ++ r) (map-append f s (drop (at + length s) d))
      ∙ rw (take_map at d, drop_map (at + length (map f s)) d, length-map s f)

  -- cutting into parts, mapped
  pub parts_map : (l : List A) (cs : List ℕ) → parts (map f l) cs ≡ map (map f) (parts l cs)
  unfolding parts
  parts_map l [] = refl
  parts_map l (c ∷ cs) = rw (take_map c l, drop_map c l, parts_map (drop c l) cs)

-- for `search (needs, length_of_map)`: gives the length of a field that is an array of structs
pub length_of_map : (X Y : Type 0) (g : X → Y) (l : List X) (n : ℕ) → length (map g l) ≡ n → length l ≡ n
length_of_map X Y g l n p = sym (length-map l g) ∙ p
