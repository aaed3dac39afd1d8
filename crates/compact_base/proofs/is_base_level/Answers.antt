-- `is_base_level` meets its contract: no file from two levels below on overlaps the range of the key alone. Assumes nothing.
use Rattle.std.proofs.Common.{ℕ, Bool, not, sym, ap, ◌∙◌, arith}
use Rattle.lemmas.specs.Lists.{any}
use Rattle.model.specs.Range.{overlaps}
use Rattle.keys.specs.Key.{user_of}
use Rattle.records.specs.Run.{run}
use Rattle.levels.specs.LevelsLaws as levels
use Rattle.store.specs.StoreLaws.{well_levels_lem}
use Rattle.store.specs.Store.{StoreShape}
use Rattle.store.proofs.Shape.{shape}
use Rattle.pick_range.specs.Ranges.{span_of}
use Rattle.compact_base.specs.BaseLaws.{base_last, base_is}
use Rattle.compact_base.proofs.is_base_level.Goals as goal

pub returns-then-level-ge-COUNT : goal.returns-then-level-ge-COUNT
returns-then-level-ge-COUNT c =
    let a = c.args in
    let shaped : StoreShape a.s = shape a.s _ c.well_formed.0 in
    sym (base_last a.s c.requires.0 shaped.files shaped.counts a.level (user_of a.u) c.if-level-ge-COUNT.true)

pub start_of-from-requires : goal.start_of-from-requires
start_of-from-requires c =
    let a = c.args in
    (omega (arith, c.if-level-ge-COUNT.false), ((levels.well_says a.s.files a.s.counts).0 (well_levels_lem a.s c.requires.0)).sound.room)

pub returns : goal.returns
unfolding span_of
returns c =
    let a = c.args in
    let shaped : StoreShape a.s = shape a.s _ c.well_formed.0 in
    let u = user_of a.u in
    let test : ℕ → ℕ → Bool = λ from to. any (overlaps (record { start = u; stop = u })) (run from to a.s.files) in
    ap not (c.has_overlap.ensures ∙ ap (λ (from : ℕ). test from c.counted-to.result) c.start_of-from.ensures ∙ ap (test _) c.counted-to.ensures)
    ∙ sym (base_is a.s c.requires.0 shaped.files shaped.counts a.level u (omega (arith, c.if-level-ge-COUNT.false)))
