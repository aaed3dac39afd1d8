-- How two things stand, by the order and back. Assumes nothing.
use Rattle.std.specs.Prelude.{ℕ, ◌≡◌, Bool, cond}
use Rattle.std.proofs.Math.Path.{refl, sym, ap}
use Rattle.std.proofs.Common.{◌∙◌, arith}
use Rattle.std.proofs.Math.Bool.{true, false}
use Rattle.lemmas.specs.Order.{StrictWeak, asym}
use Rattle.std.specs.declared.cmp.Ordering.TheVariants.{Less, Equal, Greater}
use Rattle.std.specs.Ordering.{is_lt, is_gt}
use Rattle.octets.specs.Octets.{standing}

module _ {A : Type 0} (lt : A → A → Bool) (a b : A) where
  -- the first is before the second: `Less`
  pub stands_less : lt a b ≡ true → standing lt a b ≡ Less
  unfolding standing
  stands_less e = rw e

  -- the second is before the first: `Greater`
  pub stands_greater : lt a b ≡ false → lt b a ≡ true → standing lt a b ≡ Greater
  unfolding standing
  stands_greater e f = rw (e, f)

  -- neither is before the other: `Equal`
  pub stands_equal : lt a b ≡ false → lt b a ≡ false → standing lt a b ≡ Equal
  unfolding standing
  stands_equal e f = rw (e, f)

  -- `is_lt` tells whether the first is before the second
  pub less_standing : is_lt (standing lt a b) ≡ lt a b
  unfolding standing
  less_standing = go (lt a b) (lt b a)
    where
      go : (s t : Bool) → is_lt (cond s Less (cond t Greater Equal)) ≡ s
      go true t = refl
      go false true = refl
      go false false = refl

  -- `Less`: the first is before the second
  pub standing_less : standing lt a b ≡ Less → lt a b ≡ true
  standing_less e = sym less_standing ∙ ap is_lt e

  -- `Equal`: neither is before the other
  pub standing_equal : standing lt a b ≡ Equal → (lt a b ≡ false) × (lt b a ≡ false)
  standing_equal e = go (lt a b) (lt b a) refl refl
    where
      go : (s t : Bool) → lt a b ≡ s → lt b a ≡ t → (lt a b ≡ false) × (lt b a ≡ false)
      go true t p q = let z : ◌≡◌ {A = ℕ} 0 1 = cc (e, stands_less p) in absurd (omega arith)
      go false true p q = let z : ◌≡◌ {A = ℕ} 0 1 = cc (e, stands_greater p q) in absurd (omega arith)
      go false false p q = (p, q)

  -- `Greater`: the second is before the first
  pub standing_greater : standing lt a b ≡ Greater → (lt a b ≡ false) × (lt b a ≡ true)
  standing_greater e = go (lt a b) (lt b a) refl refl
    where
      go : (s t : Bool) → lt a b ≡ s → lt b a ≡ t → (lt a b ≡ false) × (lt b a ≡ true)
      go true t p q = let z : ◌≡◌ {A = ℕ} 0 1 = cc (e, stands_less p) in absurd (omega arith)
      go false true p q = (p, q)
      go false false p q = let z : ◌≡◌ {A = ℕ} 0 1 = cc (e, stands_equal p q) in absurd (omega arith)

-- in a strict weak order, `Less` also says that the second is not before the first
pub standing_before : {A : Type 0} (lt : A → A → Bool) → StrictWeak lt → (a b : A) → standing lt a b ≡ Less → (lt a b ≡ true) × (lt b a ≡ false)
standing_before lt o a b e = let h = standing_less lt a b e in (h, asym lt o a b h)

-- in a strict weak order, `is_gt` tells whether the second is before the first
pub greater_standing : {A : Type 0} (lt : A → A → Bool) → StrictWeak lt → (a b : A) → is_gt (standing lt a b) ≡ lt b a
unfolding standing
greater_standing {A} lt o a b = go (lt a b) (lt b a) (asym lt o a b)
  where
    go : (s t : Bool) → (s ≡ true → t ≡ false) → is_gt (cond s Less (cond t Greater Equal)) ≡ t
    go true t h = sym (h refl)
    go false true h = refl
    go false false h = refl
