-- Laws of many picks, one after another: what one more adds, where they stand, their result. Assumes nothing.
use Rattle.std.specs.Prelude.{ℕ, suc, ◌+◌, ◌-◌, ◌<◌, ◌≤◌, ◌≡◌, true, false, List, Result, Ok, Err, is_ok}
use Rattle.std.proofs.Math.Nat.{sub-zero}
use Rattle.std.proofs.Common.{arith}
use Rattle.std.proofs.Math.Path.{refl, ap}
use Rattle.lemmas.specs.Order.{clash}
use Rattle.model.specs.Answer.{Answer}
use Rattle.model.specs.File.{State, full}
use Rattle.model.specs.Pick as model
use Rattle.answers.specs.declared.Refusal.{Refusal}
use Rattle.store.specs.declared.Store.{Store}
use Rattle.store.specs.Store.{on_store}
use Rattle.pick_answer.specs.declared.Picked.{Picked}
use Rattle.pick_plan.specs.Plans.{taken_of, left_by}
use Rattle.pick_lent.specs.Taking.{Leaves}
use Rattle.bench_loops.specs.Turns.{done_by, many_done, sizes_done, ranges_done}

-- a pick that is done is one more
pub more_one : (t : Result Picked Refusal) → is_ok t ≡ true → done_by t ≡ 1
unfolding done_by
more_one (Ok c) e = refl
more_one (Err r) e = let z : true ≡ false = cc in clash refl z

-- one that is refused is none
pub more_none : (t : Result Picked Refusal) → is_ok t ≡ false → done_by t ≡ 0
unfolding done_by
more_none (Ok c) e = let z : true ≡ false = cc in clash refl z
more_none (Err r) e = refl

-- no pick is more than one
at_most_one : (t : Result Picked Refusal) → done_by t ≤ 1
unfolding done_by
at_most_one (Ok c) = omega arith
at_most_one (Err r) = omega arith

-- where so many picks on a store stand: the store as it is now, how many of how many were done, and that those and the rest make the whole
pub record Standing (call : State → Answer model.Pick) (n : ℕ) (s : Store) : Type 0 where
  pub store : Store
  pub done : ℕ
  pub turns : ℕ
  pub same : done + many_done call (n - turns) store ≡ many_done call n s
  pub few : done ≤ turns
  pub within : turns ≤ n

module _ (call : State → Answer model.Pick) where
  -- the first pick, and the others on the store that it leaves
  many_turn : (m : ℕ) (h : Store) → many_done call (suc m) h ≡ done_by (taken_of (on_store h call)) + many_done call m (left_by h (on_store h call))
  unfolding many_done
  many_turn m h = refl

  -- no picks
  many_none : (m : ℕ) (h : Store) → m ≡ 0 → many_done call m h ≡ 0
  unfolding many_done
  many_none m h e = ap (λ (j : ℕ). many_done call j h) e

  module _ (n : ℕ) (s : Store) where
    -- at first
    pub starts_same : 0 + many_done call (n - 0) s ≡ many_done call n s
    starts_same = omega (arith, ap (λ (j : ℕ). many_done call j s) (sub-zero n))

    abbrev pub standing_starts : Standing call n s
    standing_starts = record { store = s; done = 0; turns = 0; same = starts_same; few = omega arith; within = omega arith }

    -- after one more pick
    module _ (p : Standing call n s) (h : p.turns < n) (r : Result Picked Refusal) (z : Store) (l : Leaves p.store (on_store p.store call) r z) (d : ℕ) (e : d ≡ p.done + done_by r) where
      pub next_same : d + many_done call (n - (p.turns + 1)) z ≡ many_done call n s
      next_same =
          let one : n - p.turns ≡ suc (n - (p.turns + 1)) = omega arith in
          omega (
            arith,
            e,
            p.same,
            ap (λ (j : ℕ). many_done call j p.store) one,
            many_turn (n - (p.turns + 1)) p.store,
            ap done_by l.answer,
            ap (many_done call (n - (p.turns + 1))) l.store,
          )

      pub next_few : d ≤ p.turns + 1
      next_few = omega (arith, e, p.few, at_most_one r)

      abbrev pub standing_next : Standing call n s
      standing_next = record { store = z; done = d; turns = p.turns + 1; same = next_same; few = next_few; within = omega arith }

    -- none is left
    pub standing_ended : (p : Standing call n s) → n ≤ p.turns → p.done ≡ many_done call n s
    standing_ended p h = omega (arith, p.same, many_none (n - p.turns) p.store (omega arith))

-- the count of a contract, of size picks and of manual picks
pub sizes_are : (n : ℕ) (s : Store) (maximum : ℕ) → sizes_done n s maximum ≡ many_done (λ t. model.size_pick full t maximum) n s
unfolding sizes_done
sizes_are n s maximum = refl

pub ranges_are : (n : ℕ) (s : Store) (maximum level : ℕ) (start stop : List ℕ) → ranges_done n s maximum level start stop ≡ many_done (λ t. model.manual_pick full t maximum level start stop) n s
unfolding ranges_done
ranges_are n s maximum level start stop = refl
