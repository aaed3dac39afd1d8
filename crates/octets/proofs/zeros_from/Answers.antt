-- `octets::zeros_from` meets its contract: a word whose bytes past the first c are 0 leaves the answer to the words after it. Assumes nothing.
use Rattle.std.proofs.Common.{◌≡◌, ◌+◌, ◌-◌, ◌%◌, ◌^◌, ◌≤◌, ◌<◌, length, take, drop, ℕ, ◌*◌, true, false, List, ◌++◌, sym, ap, refl, ◌∙◌, length-append, length-drop, drop_of_length-le, arith}
use Rattle.std.proofs.Math.Nat.{zero-mul}
use Rattle.std.proofs.Math.Pow.{are_bytes}
use Rattle.std.proofs.Math.Seq.{take-append_seam, drop-append_seam, take-length, drop-drop}
use Rattle.std.specs.Slice.Iter.{chunks_exact_rest}
use Rattle.lemmas.specs.AreBytes.{bytes_all, bytes_drop}
use Rattle.lemmas.specs.Big.{big, zeros_on, zeros_not}
use Rattle.lemmas.specs.Lists.{all}
use Rattle.octets.specs.Octets.{is_zero}
use Rattle.octets.proofs.Words.{word_rest, unshifted}
use Rattle.octets.proofs.zeros_from.Goals as goal

-- a turn: x is the next word of l, its number is w, and r is left
module _ (l x r : List ℕ) (c w : ℕ) (e : l ≡ x ++ r) (n : length x ≡ 8) (k : c < 8) (p : are_bytes l ≡ true) (f : w ≡ big 0 (take 8 x)) where
  -- what is left is l without eight bytes
  rest : drop 8 l ≡ r
  rest = rw (e, ← n) (drop-append_seam x r)

  -- there are eight
  enough : 8 ≤ length l
  enough = rw e (omega (arith, length-append x r))

  -- the number of the bytes past the first c
  abbrev number : ℕ
  number = big 0 (take (8 - c) (drop c l))

  -- what is compared with 0
  shifted : w * 2 ^ (8 * c) % 2 ^ 64 ≡ number * 256 ^ c
  shifted =
      let word : take 8 x ≡ take 8 l = rw (e, ← n) (take-length x ∙ sym (take-append_seam x r)) in
      let here : 0 + c ≡ c = omega arith in
      rw (f, word) (rw here at (word_rest l 0 enough p c (omega arith)))

  -- it is 0: the answer is that of what is left
  passed : w * 2 ^ (8 * c) % 2 ^ 64 ≡ 0 → all is_zero (drop c l) ≡ all is_zero r
  unfolding is_zero
  passed z =
      let next : c + (8 - c) ≡ 8 = omega arith in
      rw (← rest, ← next) (zeros_on (8 - c) c l (unshifted number c (sym shifted ∙ z)))

  -- it is not: a byte is not 0
  found : (w * 2 ^ (8 * c) % 2 ^ 64 ≡ 0 → ⊥) → all is_zero (drop c l) ≡ false
  unfolding is_zero
  found z = zeros_not (8 - c) c l (λ h. z (shifted ∙ ap (λ (x : ℕ). x * 256 ^ c) h ∙ zero-mul (256 ^ c)))

pub loop-bytes-init : goal.loop-bytes-init
loop-bytes-init c =
    let a = c.args.a.now in
    let start = c.args.n - c.args.n % 8 in
    let i = c.into_iter-bytes-iterator.ensures.into_iter_gives in
    let e = c.chunks_exact-bytes-items.ensures in
    let left = length-drop start a in
    let whole : take (length a - start) (drop start a) ≡ drop start a = rw (← left) (take-length (drop start a)) in
    let place : start + c.args.n % 8 ≡ c.args.n = omega arith in
    rw (i, e.rest, e.size, whole) (record {
      by_words = refl;
      words = rw left (omega arith);
      of_bytes = bytes_drop start a (bytes_all a (λ k. omega (arith, c.type_inv.a k)));
      few = omega arith;
      inside = rw left (omega arith);
      same = rw (drop-drop (c.args.n % 8) start a, place);
    })

pub returns-then-word-c-ne0 : goal.returns-then-word-c-ne0
returns-then-word-c-ne0 c =
    let g = c.loop-bytes.invariant in
    let s = c.in-Some.ensures.steps.1 in
    sym (found _ _ _ c.loop-bytes.c _ s.0 (s.1 ∙ g.by_words) g.few g.of_bytes c.word.ensures c.if-word-c-ne0.true) ∙ g.same

pub loop-bytes-preserved : goal.loop-bytes-preserved
loop-bytes-preserved c =
    let g = c.loop-bytes.invariant in
    let s = c.in-Some.ensures.steps in
    let x = c.in-Some.bytes.now in
    let n = s.1.1 ∙ g.by_words in
    let t = length-append x (chunks_exact_rest c.next.new.self) in
    let m = ap length s.1.0 in
    record {
      by_words = s.0 ∙ g.by_words;
      words = omega arith;
      of_bytes = rw (rest _ _ _ c.loop-bytes.c _ s.1.0 n g.few g.of_bytes c.word.ensures) at (bytes_drop 8 (chunks_exact_rest c.loop-bytes.bytes-iterator) g.of_bytes);
      few = omega arith;
      inside = omega arith;
      same = sym (passed _ _ _ c.loop-bytes.c _ s.1.0 n g.few g.of_bytes c.word.ensures c.if-word-c-ne0.false) ∙ g.same;
    }

pub returns : goal.returns
unfolding all
returns c =
    let g = c.loop-bytes.invariant in
    let s = c.in-None.ensures.steps in
    let end : length (chunks_exact_rest c.loop-bytes.bytes-iterator) ≤ c.loop-bytes.c = omega arith in
    rw (drop_of_length-le _ end) at g.same
