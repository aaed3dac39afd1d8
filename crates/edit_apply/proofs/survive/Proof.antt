-- `edit_apply::survive` meets its contract. Assumes nothing.
use mathlib.Core.Path.{◌∙◌}
use Rattle.store.specs.Store.{StoreShape}
use Rattle.store.proofs.Shape.{shape}
use Rattle.edit.specs.EditLaws.{HasRoom}
use Rattle.edit.proofs.Shape.{has_room}
use Rattle.edit_apply.specs.TestedLaws as tested
use Rattle.edit_apply.proofs.survive.Statement.{statement}
use Rattle.edit_apply.proofs.survive.Tie as tie

-- the store's arrays have their lengths
shaped : (s : tie.Start) → StoreShape s.args.s
shaped s = shape s.args.s _ s.well_formed.0

-- so have the edit's
roomy : (s : tie.Start) → HasRoom s.args.e
roomy s = has_room s.args.e _ s.well_formed.1.0

new-records-requires : tie.Need-new_records-news-requires
new-records-requires c κs = let s = c.before in (tested.within s.args.s s.args.e (shaped s) (roomy s) s.requires.0 s.requires.1).additions

merge-requires : tie.Need-merge-requires
merge-requires c κs =
    let s = c.before.before.before.before.before.before.before in
    let a = s.args in (
      tested.counts_room a.s a.e (shaped s) (roomy s) s.requires.0 s.requires.1 a.p s.requires.2 s.requires.3,
      tested.news_room a.s a.e (shaped s) (roomy s) s.requires.0 s.requires.1 a.p s.requires.2 s.requires.3,
      tested.places_below a.s a.e (shaped s) (roomy s) s.requires.0 s.requires.1 a.p s.requires.2 s.requires.3,
      tested.order_below a.s a.e (shaped s) (roomy s) s.requires.0 s.requires.1 a.p s.requires.2 s.requires.3,
      tested.stay_ordered a.s a.e (shaped s) (roomy s) s.requires.0 s.requires.1 a.p s.requires.2 s.requires.3,
    )

returns : tie.Need-returns
returns c =
    let n = c in
    let s = n.before.before.before.before.before.before.before.before in
    let a = s.args in
    c.merge.ensures ∙ tested.merged_is a.s a.e (shaped s) (roomy s) s.requires.0 s.requires.1 a.p s.requires.2 s.requires.3 n.new_records-news.result n.new_records-news.ensures

pub survive_spec : {M : Type 1} → statement M
survive_spec = tie.close (tie.spec new-records-requires merge-requires returns)
