-- The tests of a level of a store. Assumes nothing.
use Rattle.std.specs.Prelude.{ℕ, not, List, [], ◌∷◌, ltb}
use Rattle.model.specs.Answer.{Refusal, ◌⇒◌}
use Rattle.model.specs.File.{full}
use Rattle.store.specs.declared.Store.{Store}
use Rattle.store.specs.Store.{well_store}

-- 14 for a store that is not well-formed, then 1 for a level above 6
unfoldable pub level_tests : Store → ℕ → List Refusal
level_tests s n = (not (well_store s) ⇒ 14) ∷ (not (ltb n full.levels) ⇒ 1) ∷ []
