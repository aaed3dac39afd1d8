-- `octets::order_of` meets its contract, by what a turn of its loop and its end say. Assumes nothing.
use Rattle.std.proofs.Common.{◌≡◌, ◌+◌, ℕ, List, length, drop, take, get_or, min, ◌*◌, ◌%◌, ◌/◌, ◌-◌, ◌^◌, ◌≤◌, ◌<◌, sym, refl, Fits, w8, arith}
use Rattle.lemmas.specs.AreBytes.{bytes_all}
use Rattle.lemmas.specs.Big.{big}
use Rattle.octets.proofs.Turns.{Agree, Head, Turn, turn_less, turn_greater, turn_same, ends_less, ends_greater, ends_equal}
use Rattle.octets.proofs.order_of.Goals as goal

-- what is known at the loop's head
head : {a b : List ℕ} {m n both : ℕ} (i : ℕ) → (m ≤ length a) × (length a % 8 ≡ 0) × (n ≤ length b) × (length b % 8 ≡ 0) → ((k : ℕ) → Fits w8 (get_or a k 0)) → ((k : ℕ) → Fits w8 (get_or b k 0)) → both ≡ min m n → Agree a m b n both (8 * i) → Head a m b n both (8 * i)
head {a} {b} i r p q e g = record {
  first = record { enough = r.0; words = r.1; of_bytes = bytes_all a (λ k. omega (arith, p k)) };
  second = record { enough = r.2; words = r.3; of_bytes = bytes_all b (λ k. omega (arith, q k)) };
  lesser = e;
  agree = g;
}

-- what a turn reads
turn : {a b : List ℕ} {both x y u v : ℕ} (i : ℕ) → 8 * i < both → x ≡ big 0 (take 8 (drop (8 * i) a)) → u ≡ x / 256 ^ (8 - (both - 8 * i)) → y ≡ big 0 (take 8 (drop (8 * i) b)) → v ≡ y / 256 ^ (8 - (both - 8 * i)) → Turn a b both (8 * i) u v
turn i l e f g h = record { inside = l; first = rw (← e) f; second = rw (← g) h }

pub loop-i-init : goal.loop-i-init
loop-i-init c = let e : min 0 c.lesser-both.result ≡ 0 = omega arith in (refl, rw e)

pub returns-then-x-y : goal.returns-then-x-y
returns-then-x-y c =
    let h = head c.loop-i.i c.requires c.type_inv.a c.type_inv.b c.lesser-both.ensures c.loop-i.invariant in
    sym (turn_less h (turn c.loop-i.i (omega arith) c.word.ensures c.front-x.ensures c.word-in-loop-i.ensures c.front-y.ensures) c.if-x-y.true)

pub returns-then-y-x : goal.returns-then-y-x
returns-then-y-x c =
    let h = head c.loop-i.i c.requires c.type_inv.a c.type_inv.b c.lesser-both.ensures c.loop-i.invariant in
    sym (turn_greater h (turn c.loop-i.i (omega arith) c.word.ensures c.front-x.ensures c.word-in-loop-i.ensures c.front-y.ensures) c.if-y-x.true)

pub loop-i-preserved : goal.loop-i-preserved
loop-i-preserved c =
    let h = head c.loop-i.i c.requires c.type_inv.a c.type_inv.b c.lesser-both.ensures c.loop-i.invariant in
    let next : 8 * (c.loop-i.i + 1) ≡ 8 * c.loop-i.i + 8 = omega arith in
    rw next (turn_same h (turn c.loop-i.i (omega arith) c.word.ensures c.front-x.ensures c.word-in-loop-i.ensures c.front-y.ensures) (omega arith))

pub returns-then-m-n : goal.returns-then-m-n
returns-then-m-n c =
    let h = head c.loop-i.i c.requires c.type_inv.a c.type_inv.b c.lesser-both.ensures c.loop-i.invariant in
    sym (ends_less h (omega arith) c.if-m-n.true)

pub returns-then-n-m : goal.returns-then-n-m
returns-then-n-m c =
    let h = head c.loop-i.i c.requires c.type_inv.a c.type_inv.b c.lesser-both.ensures c.loop-i.invariant in
    sym (ends_greater h (omega arith) c.if-n-m.true)

pub returns : goal.returns
returns c =
    let h = head c.loop-i.i c.requires c.type_inv.a c.type_inv.b c.lesser-both.ensures c.loop-i.invariant in
    sym (ends_equal h (omega arith) (omega arith))
