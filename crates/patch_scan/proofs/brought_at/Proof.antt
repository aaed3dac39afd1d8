-- `brought_at` meets its contract. Assumes nothing.
use Rattle.patch_scan.specs.ListedLaws.{pointer_brought, file_brought}
use Rattle.patch_scan.proofs.brought_at.Statement.{statement}
use Rattle.patch_scan.proofs.brought_at.Tie as tie

returns : tie.Need-returns-then-pointer
returns c = pointer_brought c.args.pointer c.if-pointer.true

returns_2 : tie.Need-returns
returns_2 c = file_brought c.args.pointer c.if-pointer.false

pub brought_at_spec : {M : Type 1} → statement M
brought_at_spec = tie.close (tie.spec returns returns_2)
