-- `last_place_of` meets its contract: each turn looks at one place more. Assumes nothing.
use Rattle.std.proofs.Common.{ℕ, ◌+◌, ◌∙◌, sym, ap, arith}
use Rattle.script_words.specs.Words.{word_of, last_place}
use Rattle.script_words.specs.WordLaws.{last_here, last_later, last_end}
use Rattle.script_words.proofs.last_place_of.Goals as goal
use Rattle.script_words.proofs.last_place_of.Goals.{then-byte_at-b, else-byte_at-b}

pub loop-i-preserved : goal.loop-i-preserved
loop-i-preserved c =
    let a = c.args in
    let l = c.loop-i in
    elim c.if-byte_at-b.branch [
      | then-byte_at-b w ↦ ap (λ (f : ℕ). last_place a.b (l.i + 1) f (word_of a.line.now (l.i + 1) a.to)) w.found-is
          ∙ sym (last_here a.line.now l.i a.to a.b l.found (omega arith) (sym c.byte_at.ensures ∙ w.if-byte_at-b.true)) ∙ l.invariant
      | else-byte_at-b w ↦ ap (λ (f : ℕ). last_place a.b (l.i + 1) f (word_of a.line.now (l.i + 1) a.to)) w.found-is
          ∙ sym (last_later a.line.now l.i a.to a.b l.found (omega arith) (λ e. w.if-byte_at-b.false (c.byte_at.ensures ∙ e))) ∙ l.invariant
    ]

pub returns : goal.returns
returns c =
    let a = c.args in
    sym (last_end a.line.now c.loop-i.i a.to a.b c.loop-i.found (omega arith)) ∙ c.loop-i.invariant
