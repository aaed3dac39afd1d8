-- `put_over` meets its contract. Assumes nothing.
use Rattle.std.proofs.Common.{ℕ, ◌≡◌, true, false, eqb, eqb-true, length, min, refl, sym, ap, ◌∙◌}
use Rattle.std.proofs.lemmas.Bool.{eqb-false}
use denote.Enum.Bare.{sameb}
use Rattle.model.specs.DifferenceBytes.{left_kind}
use Rattle.difference_scan.specs.contracts.Kind.{the_type}
use Rattle.difference_scan.specs.declared.Kind.{Kind}
use Rattle.difference_scan.specs.declared.Kind.TheVariants.{Left, Right, Changed, Same}
use Rattle.difference_scan.specs.Scan.{byte_of}
use Rattle.patch_scan.specs.FittedLaws.{piece_long}
use Rattle.patch_over.specs.PieceLaws.{nothing_fits, left_piece, bare_piece, brought_piece}
use Rattle.patch_over.proofs.put_over.Goals as goal

-- a kind is the first one if its byte is that of the first one
left_says : (k : Kind) → eqb (byte_of k) left_kind ≡ sameb the_type k Left
left_says Left = refl
left_says Right = refl
left_says Changed = refl
left_says Same = refl

-- only the left has the part
is_left : (k : Kind) → sameb the_type k Left ≡ true → byte_of k ≡ left_kind
is_left k e = eqb-true (byte_of k) left_kind (left_says k ∙ e)

-- the list has it
not_left : (k : Kind) → sameb the_type k Left ≡ false → byte_of k ≡ left_kind → ⊥
not_left k e = eqb-false (byte_of k) left_kind (left_says k ∙ e)

pub returns-in_err-next : goal.returns-in_err-next
returns-in_err-next c =
    let a = c.args in
    let is = is_left a.kind (sym c.eq.ensures ∙ c.if-eq.true) in
    rw (c.from_residual.ensures, left_piece a.pointer (byte_of a.kind) a.x.now a.y.now is, piece_long a.x.now) c.in_err-next.ensures

pub returns-then-eq : goal.returns-then-eq
returns-then-eq c =
    let a = c.args in
    let is = is_left a.kind (sym c.eq.ensures ∙ c.if-eq.true) in
    rw (left_piece a.pointer (byte_of a.kind) a.x.now a.y.now is, piece_long a.x.now) (c.in_ok-next.ensures, refl)

pub returns-then-is_bare : goal.returns-then-is_bare
returns-then-is_bare c =
    let a = c.args in
    let other = not_left a.kind (sym c.eq.ensures ∙ c.if-eq.false) in
    rw (bare_piece a.pointer (byte_of a.kind) a.x.now a.y.now other (sym c.is_bare.ensures ∙ c.if-is_bare.true)) (nothing_fits a.out.now a.at c.requires, refl)

pub returns-in_err-next-2 : goal.returns-in_err-next-2
returns-in_err-next-2 c =
    let a = c.args in
    let other = not_left a.kind (sym c.eq.ensures ∙ c.if-eq.false) in
    let start = c.lesser-start.ensures ∙ ap (λ (n : ℕ). min n (length a.y.now)) c.brought_at.ensures in
    let one = brought_piece a.pointer (byte_of a.kind) a.x.now a.y.now other (sym c.is_bare.ensures ∙ c.if-is_bare.false) c.lesser-start.result start in
    rw (c.from_residual-in_err-next-2.ensures, one, piece_long) c.in_err-next-2.ensures

pub returns : goal.returns
returns c =
    let a = c.args in
    let other = not_left a.kind (sym c.eq.ensures ∙ c.if-eq.false) in
    let start = c.lesser-start.ensures ∙ ap (λ (n : ℕ). min n (length a.y.now)) c.brought_at.ensures in
    let one = brought_piece a.pointer (byte_of a.kind) a.x.now a.y.now other (sym c.is_bare.ensures ∙ c.if-is_bare.false) c.lesser-start.result start in
    rw (one, piece_long) (c.in_ok-next-2.ensures, refl)
