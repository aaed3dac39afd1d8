-- How two things stand, and zero bytes. Assumes nothing.
use Rattle.std.specs.Prelude.{ℕ, Bool, cond, eqb}
use Rattle.std.specs.declared.cmp.Ordering.{Ordering}
use Rattle.std.specs.declared.cmp.Ordering.TheVariants.{Less, Equal, Greater}

-- how two things stand in the order `lt`
unfoldable pub standing : {A : Type 0} → (A → A → Bool) → A → A → Ordering
standing lt a b = cond (lt a b) Less (cond (lt b a) Greater Equal)

-- the byte is 0
unfoldable pub is_zero : ℕ → Bool
is_zero b = eqb b 0
