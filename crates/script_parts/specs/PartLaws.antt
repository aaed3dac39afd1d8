-- The run of a part, from what the code has found of it. Assumes nothing.
use Rattle.std.specs.Prelude.{ℕ, zero, suc, ◌-◌, ◌<◌, ◌≡◌, List}
use Rattle.std.proofs.Common.{ap, ◌∙◌, arith}
use Rattle.script_parts.specs.declared.Parts.{Parts}
use Rattle.script_parts.specs.declared.Run.{Run}
use Rattle.script_parts.specs.Parts.{next_end, start_after, part_end, part_start, run_of}

-- the first part
pub first_run : (line : List ℕ) (p : Parts) (i t : ℕ) → i ≡ 0 → t ≡ part_end line p 0 → ◌≡◌ {A = Run} (record { from = p.from; to = t }) (run_of line p i)
unfolding run_of part_start
first_run line p zero t e h = ap (λ (x : ℕ). record { from = p.from; to = x }) h
first_run line p (suc i) t e h = absurd (omega arith)

-- a later part: it begins after the one before it
pub later_run : (line : List ℕ) (p : Parts) (i b f t : ℕ) → 0 < i → b ≡ part_end line p (i - 1) → f ≡ start_after p b → t ≡ next_end line p f
    → ◌≡◌ {A = Run} (record { from = f; to = t }) (run_of line p i)
unfolding run_of part_start part_end
later_run line p zero b f t h e g k = absurd (omega arith)
later_run line p (suc i) b f t h e g k =
    let one : suc i - 1 ≡ i = omega arith in
    let q : f ≡ start_after p (part_end line p i) = g ∙ ap (start_after p) (e ∙ ap (part_end line p) one) in
    ap (λ (x : ℕ). record { from = f; to = x }) (k ∙ ap (next_end line p) q) ∙ ap (λ (x : ℕ). record { from = x; to = part_end line p (suc i) }) q
