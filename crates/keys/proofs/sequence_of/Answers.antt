-- `keys::sequence_of` meets its contract: the trailer's bytes but the lowest, the last first. Assumes nothing.
use Rattle.std.proofs.Common.{◌≡◌, ℕ, ◌+◌, ◌-◌, ◌*◌, ◌^◌, ◌≤◌, ◌<◌, min, List, length, get_or, take, drop, reverse, true, sym, ap, ◌∙◌, length-drop, length-take, drop_of_length-le, arith}
use Rattle.std.proofs.Math.Pow.{are_bytes}
use Rattle.std.proofs.Math.Seq.{length-take-le, get_or-take, get_or-drop}
use Rattle.std.proofs.lemmas.Iterator.Adapters.{YieldsList-from_rev_slice}
use Rattle.std.proofs.lemmas.Iterator.Consumers.{YieldsList-turn, YieldsList-end}
use Rattle.std.proofs.lemmas.List.{length-reverse, get_or-reverse, get_or_read, length_push}
use Rattle.lemmas.specs.AreBytes.{bytes_all, bytes_take, bytes_drop}
use Rattle.lemmas.specs.Little.{number, number_back, number_bound, number_fits}
use Rattle.keys.specs.KeyLaws.{sequence_from}
use Rattle.keys.proofs.sequence_of.Goals as goal

-- the bytes that are read, of a (take n a) that is the first n bytes of a room
abbrev read : List ℕ → ℕ → ℕ → List ℕ
read a n first = take (n - first) (drop first a)

module _ (a : List ℕ) (n first : ℕ) (h : n ≤ length a) (p : are_bytes a ≡ true) (f : first ≡ min (n - 8 + 1) n) where
  -- there are so many
  long : length (reverse (read a n first)) ≡ n - first
  long = length-reverse (read a n first) ∙ length-take-le (n - first) (drop first a) (omega (arith, length-drop first a))

  -- the byte that comes after k were read
  byte_at : (k b : ℕ) → k < n - first → b ≡ get_or (reverse (read a n first)) k b → b ≡ get_or (take n a) (n - k - 1) 0
  byte_at k b l e =
      let m : length (read a n first) ≡ n - first = length-take-le (n - first) (drop first a) (omega (arith, length-drop first a)) in
      let i = n - first - 1 - k in
      let place : first + i ≡ n - k - 1 = omega arith in
      let here : get_or (reverse (read a n first)) k 0 ≡ get_or (take n a) (n - k - 1) 0 =
      get_or-reverse (read a n first) k 0 (omega arith) ∙ rw m (get_or-take (n - first) (drop first a) i 0 (omega arith) ∙ get_or-drop first a i 0 ∙ rw place (sym (get_or-take n a (n - k - 1) 0 (omega arith)))) in
      get_or_read (reverse (read a n first)) k b (omega (arith, long)) e 0 ∙ here

  -- one byte more: the number of the bytes that were read then, and it fits
  turn : (k b s : ℕ) → (k < length (reverse (read a n first))) × (b ≡ get_or (reverse (read a n first)) k b) → s ≡ number (drop (n - k) (take n a))
      → (s * 256 + b ≡ number (drop (n - (k + 1)) (take n a))) × (s * 256 + b < 2 ^ 64)
  turn k b s t e =
      let m = length-take-le n a h in
      let back = number_back (take n a) (n - k) (omega (arith, long)) (omega (arith, m)) in
      let next : n - k - 1 ≡ n - (k + 1) = omega arith in
      let grown : s * 256 + b ≡ number (drop (n - (k + 1)) (take n a)) = rw (← next) (omega (arith, back, byte_at k b (omega (arith, long)) t.1)) in
      let few = number_bound (drop (n - (k + 1)) (take n a)) (bytes_drop (n - (k + 1)) (take n a) (bytes_take n a p)) in
      let fits : number (drop (n - (k + 1)) (take n a)) < 2 ^ 64 = number_fits _ (length (drop (n - (k + 1)) (take n a))) (omega (arith, long, m, length-drop (n - (k + 1)) (take n a))) few in
      (grown, omega arith)

pub loop-b-init : goal.loop-b-init
unfolding number
loop-b-init c =
    let a = c.args in
    let start : a.n - 0 ≡ a.n = omega arith in
    let end : length (take a.n a.a.now) ≤ a.n = omega (arith, length-take a.n a.a.now) in
    sym (ap number (ap (λ (i : ℕ). drop i (take a.n a.a.now)) start ∙ drop_of_length-le (take a.n a.a.now) end))

pub overflow_mul-s : goal.overflow_mul-s
overflow_mul-s c =
    let t = YieldsList-turn (YieldsList-from_rev_slice (read c.args.a.now c.args.n c.lesser-first.result) cc) c.loop-b.yielded _ c.loop-b.yielded_by _ _ c.in-Some.b c.in-Some.is c.next.ensures.steps in
    omega (arith, (turn c.args.a.now c.args.n c.lesser-first.result (omega arith) (bytes_all c.args.a.now (λ k. omega (arith, c.type_inv.a k))) (omega arith) (length c.loop-b.yielded) c.in-Some.b.now c.loop-b.s t c.loop-b.invariant).1)

pub overflow_add-s : goal.overflow_add-s
overflow_add-s c =
    let t = YieldsList-turn (YieldsList-from_rev_slice (read c.args.a.now c.args.n c.lesser-first.result) cc) c.loop-b.yielded _ c.loop-b.yielded_by _ _ c.in-Some.b c.in-Some.is c.next.ensures.steps in
    omega (arith, (turn c.args.a.now c.args.n c.lesser-first.result (omega arith) (bytes_all c.args.a.now (λ k. omega (arith, c.type_inv.a k))) (omega arith) (length c.loop-b.yielded) c.in-Some.b.now c.loop-b.s t c.loop-b.invariant).1)

pub loop-b-preserved : goal.loop-b-preserved
loop-b-preserved c =
    let t = YieldsList-turn (YieldsList-from_rev_slice (read c.args.a.now c.args.n c.lesser-first.result) cc) c.loop-b.yielded _ c.loop-b.yielded_by _ _ c.in-Some.b c.in-Some.is c.next.ensures.steps in
    let next = turn c.args.a.now c.args.n c.lesser-first.result (omega arith) (bytes_all c.args.a.now (λ k. omega (arith, c.type_inv.a k))) (omega arith) (length c.loop-b.yielded) c.in-Some.b.now c.loop-b.s t c.loop-b.invariant in
    rw (length_push c.loop-b.yielded c.in-Some.b) (omega (arith, next.0))

pub returns : goal.returns
returns c =
    let a = c.args.a.now in
    let n = c.args.n in
    let first = c.lesser-first.result in
    let t = YieldsList-end (YieldsList-from_rev_slice (read a n first) cc) c.loop-b.yielded _ c.loop-b.yielded_by _ _ c.in-None.is c.next.ensures.steps in
    let p = bytes_all a (λ k. omega (arith, c.type_inv.a k)) in
    let m = length-take-le n a (omega arith) in
    let l = long a n first (omega arith) p (omega arith) in
    c.loop-b.invariant ∙ sequence_from (take n a) (n - length c.loop-b.yielded) (bytes_take n a p) (omega (arith, t.1)) (omega (arith, t.1)) (omega (arith, t.1))
