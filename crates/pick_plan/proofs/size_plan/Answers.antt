-- `size_plan` meets its contract: one look tells whether the store is well-formed, and its bytes. Assumes nothing.
use Rattle.std.proofs.Common.{◌≡◌, ap, sym, ◌∙◌}
use Rattle.std.proofs.lemmas.Bool.{not-true, not-false}
use Rattle.store.specs.declared.Looked.{Looked}
use Rattle.store.specs.declared.Store.{Store}
use Rattle.store.specs.Store.{look_of, well_store}
use Rattle.pick_plan.specs.PlansLaws.{ill_planned}
use Rattle.pick_plan.proofs.size_plan.Goals as goal

-- what a look tells of whether the store is well-formed, and of the bytes
module _ (h : Store) (w : Looked) (e : w ≡ look_of h) where
  tells_well : well_store h ≡ w.well
  unfolding look_of
  tells_well = sym (ap (λ (x : Looked). x.well) e)

  tells_bytes : w.bytes ≡ (look_of h).bytes
  tells_bytes = ap (λ (x : Looked). x.bytes) e

pub returns-then-not-seen : goal.returns-then-not-seen
returns-then-not-seen c =
    ill_planned c.args.s.now c.args.maximum (tells_well c.args.s.now c.look-seen.result c.look-seen.ensures ∙ not-true _ c.if-not-seen.true)

pub size_asked-requires : goal.size_asked-requires
size_asked-requires c = (
  c.shaped.ensures,
  tells_well c.args.s.now c.look-seen.result c.look-seen.ensures ∙ not-false _ c.if-not-seen.false,
  tells_bytes c.args.s.now c.look-seen.result c.look-seen.ensures,
)
