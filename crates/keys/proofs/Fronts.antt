-- User keys as the fronts of lent bytes: their order is that of the fronts. Assumes nothing.
use Prim.Native.Nat.{ℕ}
use mathlib.Core.Path.{◌≡◌}
use mathlib.Core.List.{List}
use lib.ListN.{length, take}
use Rattle.lemmas.specs.Order.{lexb}
use Rattle.lemmas.specs.Fronts.{front_taken}
use Rattle.model.specs.Key.{user_before}
use Rattle.octets.specs.Octets.{standing}
use Rattle.std.specs.declared.cmp.Ordering.{Ordering}

-- x and y are the first m and n bytes of two rooms
pub users_order : (x y a b : List ℕ) (m n : ℕ) → x ≡ take (length x) a → m ≡ length x → y ≡ take (length y) b → n ≡ length y → (r : Ordering) → r ≡ standing lexb (take m a) (take n b) → r ≡ standing user_before x y
unfolding user_before
users_order x y a b m n p h q k r e = rw (← front_taken x a m p h, ← front_taken y b n q k) e
