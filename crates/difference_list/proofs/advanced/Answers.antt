-- `advanced` meets its contract. Assumes nothing.
use Rattle.std.proofs.Common.{◌≡◌, ◌⊎◌, inl, inr, ap, arith}
use Rattle.model.specs.DifferenceBytes.{left_kind, right_kind, changed_kind}
use Rattle.difference_scan.specs.declared.Kind.{Kind}
use Rattle.difference_scan.specs.declared.Kind.TheVariants.{Changed, Same}
use Rattle.difference_scan.specs.Scan.{byte_of, same_kind}
use Rattle.difference_list.specs.RunLaws.{advanced_right, advanced_left, advanced_both}
use Rattle.difference_list.proofs.advanced.Goals as goal

-- a kind of parts that both have is that of neither alone
neither : (k : Kind) → (k ≡ Changed) ⊎ (k ≡ Same) → (byte_of k ≡ right_kind → ⊥) × (byte_of k ≡ left_kind → ⊥)
neither k (inl e) = let f : byte_of k ≡ changed_kind = ap byte_of e in (λ h. omega arith, λ h. omega arith)
neither k (inr e) = let f : byte_of k ≡ same_kind = ap byte_of e in (λ h. omega arith, λ h. omega arith)

pub returns-in-Left : goal.returns-in-Left
returns-in-Left c = advanced_left c.args.p c.args.t (ap byte_of c.in-Left.is)

pub returns-in-Right : goal.returns-in-Right
returns-in-Right c = advanced_right c.args.p c.args.t (ap byte_of c.in-Right.is)

pub returns-in-Changed : goal.returns-in-Changed
returns-in-Changed c =
    let n = neither c.args.t.kind c.in-Changed.is in
    advanced_both c.args.p c.args.t n.0 n.1
