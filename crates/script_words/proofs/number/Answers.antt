-- `number` meets its contract: each turn reads one digit more, or finds that there is no number. Assumes nothing.
use Rattle.std.proofs.Common.{ℕ, ◌≡◌, ◌+◌, ◌-◌, ◌*◌, ◌∙◌, refl, sym, ap, arith, get_or}
use borrow.Author.Tests.{not-true, not-false}
use Rattle.script_words.specs.Words.{word_of, number_after}
use Rattle.script_words.specs.WordLaws.{number_none, number_some, number_bad, number_over, number_later, number_end, digit_low, digit_high, digit_in, fine_is, next_fine, next_over}
use Rattle.script_words.proofs.number.Goals as goal

pub returns-then-to-from : goal.returns-then-to-from
returns-then-to-from c = c.no_number.ensures ∙ sym (number_none c.args.line.now c.args.from c.args.to 0 c.if-to-from.true)

pub loop-i-init : goal.loop-i-init
loop-i-init c = record { fine = refl; small = omega arith; rest = sym (number_some c.args.line.now c.args.from c.args.to 0 c.if-to-from.false) }

pub returns-then-c-lt48 : goal.returns-then-c-lt48
returns-then-c-lt48 c =
    let a = c.args in
    let l = c.loop-i in
    c.no_number-then-c-lt48.ensures
    ∙ sym (number_bad a.line.now l.i a.to l.n.value (omega arith) (digit_low (get_or a.line.now l.i 0) (omega (arith, c.byte_at-c.ensures)))) ∙ l.invariant.rest

pub returns-then-c-gt57 : goal.returns-then-c-gt57
returns-then-c-gt57 c =
    let a = c.args in
    let l = c.loop-i in
    c.no_number-then-c-gt57.ensures
    ∙ sym (number_bad a.line.now l.i a.to l.n.value (omega arith) (digit_high (get_or a.line.now l.i 0) (omega (arith, c.byte_at-c.ensures)) (omega (arith, c.byte_at-c.ensures)))) ∙ l.invariant.rest

pub returns-then-not-n : goal.returns-then-not-n
returns-then-not-n c =
    let a = c.args in
    let l = c.loop-i in
    let d = c.wide in
    let k = c.next_digit-n in
    let r = next_over k.result (l.n.value * 10 + d.result) k.ensures (not-true k.result.fine c.if-not-n.true) in
    let e : d.result ≡ get_or a.line.now l.i 0 - 48 = omega (arith, d.ensures, c.byte_at-c.ensures) in
    r.1 ∙ sym (number_over a.line.now l.i a.to l.n.value (omega arith) (omega (arith, r.0))) ∙ l.invariant.rest

pub loop-i-preserved : goal.loop-i-preserved
loop-i-preserved c =
    let a = c.args in
    let l = c.loop-i in
    let d = c.wide in
    let k = c.next_digit-n in
    let r = next_fine k.result (l.n.value * 10 + d.result) k.ensures (not-false k.result.fine c.if-not-n.false) in
    let x = get_or a.line.now l.i 0 in
    let b : c.byte_at-c.result ≡ x = c.byte_at-c.ensures in
    let e : k.result.value ≡ l.n.value * 10 + (x - 48) = omega (arith, r.1, d.ensures) in
    record {
      fine = not-false k.result.fine c.if-not-n.false;
      small = omega (arith, r.0, r.1);
      rest = ap (λ (v : ℕ). number_after v (word_of a.line.now (l.i + 1) a.to)) e
          ∙ sym (number_later a.line.now l.i a.to l.n.value (omega arith) (digit_in x (omega arith) (omega arith))) ∙ l.invariant.rest;
    }

pub returns : goal.returns
returns c =
    let a = c.args in
    let l = c.loop-i in
    fine_is l.n l.invariant.fine ∙ sym (number_end a.line.now l.i a.to l.n.value (omega arith) l.invariant.small) ∙ l.invariant.rest
