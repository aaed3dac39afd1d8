-- `is_word` meets its contract: each turn compares one byte more. Assumes nothing.
use Rattle.std.proofs.Common.{ℕ, ◌≡◌, ◌+◌, ◌∙◌, sym, ap, leb, length, arith, add-zero}
use Rattle.script_words.specs.WordLaws.{same_short, same_other, same_later, same_end}
use Rattle.script_words.proofs.is_word.Goals as goal

pub loop-i-init : goal.loop-i-init
loop-i-init c = record { within = omega arith; rest = rw add-zero }

pub returns-then-to-at : goal.returns-then-to-at
returns-then-to-at c =
    let a = c.args in
    let l = c.loop-i in
    sym (same_short a.line.now (a.from + l.i) a.to a.text.now l.i (omega arith) (omega arith)) ∙ l.invariant.rest

pub returns-then-byte_at-b : goal.returns-then-byte_at-b
returns-then-byte_at-b c =
    let a = c.args in
    let l = c.loop-i in
    sym (same_other a.line.now (a.from + l.i) a.to a.text.now l.i (omega arith) (omega arith) (λ e. c.if-byte_at-b.true (c.byte_at.ensures ∙ e))) ∙ l.invariant.rest

pub loop-i-preserved : goal.loop-i-preserved
loop-i-preserved c =
    let a = c.args in
    let l = c.loop-i in
    let next : a.from + (l.i + 1) ≡ a.from + l.i + 1 = omega arith in
    record {
      within = omega arith;
      rest = rw next (sym (same_later a.line.now (a.from + l.i) a.to a.text.now l.i (omega arith) (omega arith) (sym c.byte_at.ensures ∙ c.if-byte_at-b.false)) ∙ l.invariant.rest);
    }

pub returns : goal.returns
returns c =
    let a = c.args in
    let l = c.loop-i in
    let end : l.i ≡ length a.text.now = omega arith in
    sym (ap (λ (k : ℕ). leb a.to (a.from + k)) end) ∙ sym (same_end a.line.now (a.from + l.i) a.to a.text.now l.i (omega arith)) ∙ l.invariant.rest
