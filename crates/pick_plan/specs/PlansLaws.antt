-- Laws of a pick's plan and of what it leaves: refused, accepted, and at the end of its searches. Assumes nothing.
use Rattle.std.specs.Prelude.{ℕ, ◌+◌, ◌<◌, ◌≡◌, refl, Bool, true, false, cond, eqb, Ok, Err}
use Rattle.std.proofs.Math.Path.{sym, ap}
use Rattle.std.proofs.Common.{subst, ◌∙◌, arith, eqb-true, ne_eqb}
use mathlib.Core.List.{List}
use Rattle.std.proofs.lemmas.Bool.{eqb-false}
use Rattle.model.specs.Answer.{Answer, gives, refused, ◌⇒◌, first_of}
use Rattle.model.specs.File.{full, set_pointer, last_level}
use Rattle.model.specs.Pick as model
use Rattle.model.specs.Range.{high_key}
use Rattle.keys.specs.Key.{key_of}
use Rattle.answers.specs.Outcome.{number_of, result_of}
use Rattle.answers.specs.declared.Refusal.{Refusal}
use Rattle.answers.specs.declared.Refusal.TheVariants.{Nothing, Form}
use Rattle.store.specs.declared.Store.{Store}
use Rattle.store.specs.Store.{state_of, store_of, well_store, on_store, StoreShape}
use Rattle.pick_answer.specs.declared.Cause.{Cause}
use Rattle.pick_answer.specs.Picked.{cause_of, three_lists, picked_record}
use Rattle.pick_answer.specs.PickedLaws.{cause_is}
use Rattle.pick_found.specs.FoundRun.{inputs_of}
use Rattle.pick_found.specs.FoundLaws.{held_count}
use Rattle.pick_search.specs.declared.Choice.{Choice}
use Rattle.pick_search.specs.Choice.{firsts, laid_choice}
use Rattle.pick_search.specs.HeldLaws.{pointer_set}
use Rattle.pick_search.specs.Search.{Ready, Chooses, Placed}
use Rattle.pick_search.specs.InvariantLaws.{invariant_done}
use Rattle.pick_plan.specs.ChoiceLaws.{none_first, some_first}
use Rattle.pick_plan.specs.PickCallsLaws.{size_ill}
use Rattle.pick_plan.specs.Plans.{picks_from, planned_answer, Plans, taken_record, taken_of, left_by, with_pointers, Makes, pointers_by, taken_by}

-- ---- the plan
-- a refused plan gives its refusal
pub plans_none : (s : Store) (a : Answer model.Pick) (r : Refusal) → a ≡ refused (number_of r) → Plans s a (Err r)
unfolding planned_answer
plans_none s a r e = record { answers = sym e; feasible = tt }

-- an accepted plan gives the pick from its first search on
pub plans_done : (s : Store) (a : Answer model.Pick) (x : Cause) (c : Choice) (k : ℕ) → picks_from s x c k ≡ a → Ready s c k → c.level < last_level → Plans s a (Ok (record { cause = x; asked = c; search = k }))
unfolding planned_answer
plans_done s a x c k e r l = record { answers = e; feasible = record { ready = r; level = l } }

-- the plan of a size pick on an ill-formed store: 14
pub ill_planned : (s : Store) (m : ℕ) → well_store s ≡ false → Plans s (on_store s (λ t. model.size_pick full t m)) (Err Form)
ill_planned s m h = plans_none s (on_store s (λ t. model.size_pick full t m)) Form (size_ill s m h)

-- ---- a pick at the end of its searches
module _ (s : Store) (x : Cause) (a : Choice) (k : ℕ) (c : Choice) (g : Chooses s a k c) where
  -- its files are in the store
  pub ended_placed : Placed s c
  ended_placed = record { inputs = firsts s k a; search = 5; stands = g.stands }

  module _ (q : StoreShape s) (h : well_store s ≡ true) where
    -- no first inputs: 10
    pub ended_none : c.first.count ≡ 0 → picks_from s x a k ≡ refused 10
    unfolding picks_from first_of ◌⇒◌
    ended_none e = rw (none_first s (firsts s k a) c h q.files g.stands e)

    module _ (below : a.level < last_level) (some : c.first.count ≡ 0 → ⊥) where
      -- the model's pick
      abbrev given : model.Pick
      given = record {
        picked = record { level = c.level; cause = cause_of x; maximum = c.maximum; first = inputs_of s c.first; second = inputs_of s c.second; grand = inputs_of s c.grand };
        after = set_pointer (state_of s) c.level (high_key (inputs_of s c.first));
      }

      -- no refusal applies
      given_answer : picks_from s x a k ≡ gives given
      unfolding picks_from first_of ◌⇒◌
      given_answer =
          let l = g.level in
          rw (some_first s (firsts s k a) c h q.files (omega arith) g.stands some)
          (ap (λ (n : ℕ). gives (model.complete full (state_of s) a.maximum (cause_of x) n (firsts s k a))) (sym l)
          ∙ ap (λ (n : ℕ). gives (model.complete full (state_of s) n (cause_of x) c.level (firsts s k a))) (sym g.maximum)
          ∙ ap (λ (p : model.Pick). gives p) (sym (invariant_done s (firsts s k a) (cause_of x) c g.stands)))

      -- the answer is that pick
      given_chosen : Makes s (gives given) (taken_by x c (laid_choice s c)) (pointers_by s.pointers c)
      unfolding taken_of taken_record result_of taken_by left_by pointers_by with_pointers picked_record three_lists laid_choice
      given_chosen =
          let files = q.files in
          let stands = g.stands in
          let cause = sym (cause_is x) in
          let one = sym (held_count s c.level c.first h files stands.held_first) in
          let two = sym (held_count s (c.level + 1) c.second h files stands.held_second) in
          let three = sym (held_count s (c.level + 2) c.grand h files stands.held_grand) in
          let high = (stands.first_sums (omega arith)).high in
          record {
            taken = λ i. Ok (record { level = c.level; cause = cause i; maximum = c.maximum; files = laid_choice s c; first = one i; second = two i; grand = three i });
            left = rw (ne_eqb c.first.count 0 some) (pointer_set s q h c.level (key_of c.first.ends.high)) ∙ ap (λ (y : List ℕ). store_of (set_pointer (state_of s) c.level y)) high;
          }

      -- some first inputs: the answer is the pick from its first search on, and the pointers are those that the pick leaves
      pub ended_makes : Makes s (picks_from s x a k) (taken_by x c (laid_choice s c)) (pointers_by s.pointers c)
      ended_makes = subst (λ (y : Answer model.Pick). Makes s y (taken_by x c (laid_choice s c)) (pointers_by s.pointers c)) (sym given_answer) given_chosen

    -- in every case: 10 and the pointers as they were, or the pick and the pointers that it leaves
    pub ended_is : (below : a.level < last_level) → (taken_of (picks_from s x a k) ≡ cond (eqb c.first.count 0) (Err Nothing) (Ok (taken_by x c (laid_choice s c)))) × (with_pointers s (pointers_by s.pointers c) ≡ left_by s (picks_from s x a k))
    unfolding taken_of result_of left_by pointers_by with_pointers
    ended_is below = go (eqb c.first.count 0) refl
      where
        go : (t : Bool) → eqb c.first.count 0 ≡ t → (taken_of (picks_from s x a k) ≡ cond (eqb c.first.count 0) (Err Nothing) (Ok (taken_by x c (laid_choice s c)))) × (with_pointers s (pointers_by s.pointers c) ≡ left_by s (picks_from s x a k))
        go true t =
            let none : picks_from s x a k ≡ refused 10 = ended_none (eqb-true c.first.count 0 t) in
            rw (none, t) (refl, refl)
        go false t =
            let m = ended_makes below (eqb-false c.first.count 0 t) in
            (sym m.taken ∙ rw t, m.left)
