-- `store::shaped` meets its contract: what the store's type says of its arrays. Assumes nothing.
use Rattle.store.proofs.Shape.{shape_told}
use Rattle.store.proofs.shaped.Goals as goal

pub returns : goal.returns
returns c = shape_told c.args.s.now c.type_inv.s
