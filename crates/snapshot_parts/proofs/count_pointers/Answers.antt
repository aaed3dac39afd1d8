-- `count_pointers` meets its contract: as many pointers are counted as are set. Assumes nothing.
use Rattle.std.proofs.Common.{◌≡◌, ◌∙◌, sym, rules}
use Rattle.std.specs.List.{count_by}
use Rattle.snapshot_parts.specs.LayingLaws.{set_count}
use Rattle.snapshot_parts.proofs.count_pointers.Goals as goal

pub returns : goal.returns
returns c =
    let counted : c.count.result ≡ count_by (λ p. p.set) c.args.pointers = search rules in
    counted ∙ sym (set_count 0 c.args.pointers)
