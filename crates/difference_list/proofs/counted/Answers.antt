-- `counted` meets its contract. Assumes nothing.
use Rattle.std.proofs.Common.{◌≡◌, refl, sym, ◌∙◌, eqb}
use denote.Enum.Bare.{sameb}
use Rattle.difference_scan.specs.contracts.Kind.{the_type}
use Rattle.difference_scan.specs.declared.Kind.{Kind}
use Rattle.difference_scan.specs.declared.Kind.TheVariants.{Left, Right, Changed, Same}
use Rattle.difference_scan.specs.Scan.{byte_of, same_kind}
use Rattle.difference_scan.specs.Listing.{counted_by}
use Rattle.difference_list.proofs.counted.Goals as goal

-- a kind is the last one if its byte is that of the last one
same_says : (k : Kind) → eqb (byte_of k) same_kind ≡ sameb the_type k Same
same_says Left = refl
same_says Right = refl
same_says Changed = refl
same_says Same = refl

pub returns-then-eq : goal.returns-then-eq
unfolding counted_by
returns-then-eq c = rw (same_says c.args.kind ∙ sym c.eq.ensures ∙ c.if-eq.true)

pub returns : goal.returns
unfolding counted_by
returns c = rw (same_says c.args.kind ∙ sym c.eq.ensures ∙ c.if-eq.false)
