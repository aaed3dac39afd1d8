-- The promises of picks by value: what is known of the answer and of the store that is left, from the contracts of both calls. Assumes nothing.
use Rattle.std.specs.Prelude.{ℕ, ◌≡◌, Result, Ok}
use Rattle.std.proofs.Common.{sym, ◌∙◌}
use Rattle.model.specs.File.{full}
use Rattle.model.specs.Key.{Key}
use Rattle.model.specs.Pick.{size_pick, manual_pick}
use Rattle.answers.specs.declared.Refusal.{Refusal}
use Rattle.store.specs.declared.Store.{Store}
use Rattle.store.specs.Store.{on_store}
use Rattle.pick_answer.specs.declared.Pick.{Pick}
use Rattle.pick_answer.specs.Picked.{pick_of}
use Rattle.pick_lent.specs.PicksLaws as lent
use Rattle.pick_lent.specs.PicksLaws.{Accepted}

-- an accepted size pick
pub size_accepted : (s : Store) (m : ℕ) (r : Result Pick Refusal) → r ≡ pick_of (on_store s (λ t. size_pick full t m)) → (p : Pick) → r ≡ Ok p → Accepted s p.picked p.store
size_accepted s m r e p d = lent.size_accepted s m p (sym e ∙ d)

-- an accepted manual pick
pub range_accepted : (s : Store) (m l : ℕ) (a b : Key) (r : Result Pick Refusal) → r ≡ pick_of (on_store s (λ t. manual_pick full t m l a b)) → (p : Pick) → r ≡ Ok p → Accepted s p.picked p.store
range_accepted s m l a b r e p d = lent.range_accepted s m l a b p (sym e ∙ d)
