-- `size_asked` meets its contract: by the bytes of a look at a well-formed store, the level to compact is that of the state. Assumes nothing.
use Rattle.std.proofs.Common.{◌≡◌, true, ◌<◌, ◌∙◌, ℕ, List, arith, ap, sym, subst}
use Rattle.model.specs.File.{full, level_count}
use Rattle.model.proofs.Formed.{formed_says}
use Rattle.model.specs.Score.{level_to_compact}
use Rattle.store.specs.declared.Store.{Store}
use Rattle.store.specs.Store.{state_of, well_store, look_of, StoreShape}
use Rattle.store.specs.StoreLaws as store
use Rattle.pick_score.specs.declared.Scored.{Scored}
use Rattle.pick_score.specs.Scores.{Amounts, amounts_by, scored_as, scored_by, scored_of}
use Rattle.pick_score.specs.ScoresLaws.{level_below, look_amounts, look_scored}
use Rattle.pick_plan.proofs.size_asked.Goals as goal

-- what is asked of the caller
abbrev Asks : Store → List ℕ → Type 0
Asks h bs = StoreShape h × (well_store h ≡ true) × (bs ≡ (look_of h).bytes)

-- ---- by bytes of a look at a well-formed store
module _ (h : Store) (bs : List ℕ) (asks : Asks h bs) where
  -- the amounts are within their bounds
  bounded : Amounts (amounts_by bs h.counts)
  bounded = subst (λ (xs : List ℕ). Amounts (amounts_by xs h.counts)) (sym asks.2) (look_amounts h asks.1 asks.0.files)

  module _ (c : Scored) (e : c ≡ scored_by (amounts_by bs h.counts)) where
    -- the level to compact is that of the state, with its score
    scored_is : c ≡ scored_of (state_of h)
    scored_is = e ∙ ap (λ (xs : List ℕ). scored_by (amounts_by xs h.counts)) asks.2 ∙ look_scored h asks.1 asks.0.files

    -- and is one
    level_small : c.level < level_count
    unfolding scored_of scored_as
    level_small =
        let is : c.level ≡ level_to_compact full (state_of h) = ap (λ (x : Scored). x.level) scored_is in
        omega (arith, is, level_below (state_of h) ((formed_says full (state_of h)).0 ((store.well_says h).0 asks.1).formed))

pub finalize-scored-requires : goal.finalize-scored-requires
finalize-scored-requires c = bounded c.args.s.now c.args.bytes c.requires

pub size_start-started-requires : goal.size_start-started-requires
size_start-started-requires c = (c.requires.0, c.requires.1, level_small c.args.s.now c.args.bytes c.requires c.finalize-scored.result c.finalize-scored.ensures)

pub returns : goal.returns
returns c =
    let e = scored_is c.args.s.now c.args.bytes c.requires c.finalize-scored.result c.finalize-scored.ensures in
    c.size_planned.ensures c.args.s.now c.requires.0 c.requires.1 e c.size_start-started.ensures
