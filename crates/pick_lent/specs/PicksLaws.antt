-- Facts about every accepted pick: the picked answer is well-formed and of the store's own files, no older key is left above it, and the store is well-formed.
-- Assumes nothing.
use Rattle.std.specs.Prelude.{ℕ, suc, ◌≡◌, Bool, cond, Ok, Err}
use Rattle.std.proofs.Math.Path.{refl, subst}
use Rattle.std.proofs.Common.{sym, arith}
use Rattle.std.proofs.Math.Bool.{true, false}
use Rattle.lemmas.specs.Order.{clash}
use Rattle.lemmas.specs.Lists.{is_empty}
use Rattle.model.specs.Answer.{Answer, gives, refused}
use Rattle.model.specs.Completion.{inputs}
use Rattle.model.proofs.EdgeLaws.{NoneLeft, pick_none_left}
use Rattle.model.specs.File.{State, full, level}
use Rattle.model.proofs.Formed.{WF, formed_says}
use Rattle.model.specs.Key.{Key}
use Rattle.model.specs.Pick as model
use Rattle.model.specs.Pick.{good_picked, size_pick, manual_pick}
use Rattle.model.proofs.PickLaws.{Begun, size_begun, range_begun, OfLevel, pick_keeps, pick_of_level, pick_nonempty, pick_second_same}
use Rattle.model.proofs.PickedLaws.{size_good, range_good}
use Rattle.model.specs.Range.{range_of}
use Rattle.answers.specs.Outcome.{result_of}
use Rattle.answers.specs.declared.Refusal.{Refusal}
use Rattle.store.specs.declared.Store.{Store}
use Rattle.store.specs.Store.{state_of, store_of, sound_store, well_store, on_store}
use Rattle.store.specs.StoreLaws as store
use Rattle.pick_answer.specs.declared.Picked.{Picked}
use Rattle.pick_answer.specs.declared.Pick.{Pick}
use Rattle.pick_answer.specs.Picked.{picked_of, picked_record, well_picked, pick_record, pick_of}
use Rattle.pick_answer.specs.PickedLaws as picked
use Rattle.pick_plan.specs.Plans.{taken_record, taken_of, left_by}
use Rattle.pick_lent.specs.Taking.{Leaves}

-- an accepted pick on a store s: its picked answer c, and the store t that is left
pub record Accepted (s : Store) (c : Picked) (t : Store) : Type 0 where
  -- the picked answer is well-formed
  pub picked : well_picked c ≡ true
  -- the inputs and the grandparents are files of the store at their levels
  pub of_level_lem : OfLevel (state_of s) (picked_of c)
  -- there is a first input
  pub some_input : is_empty (picked_of c).first ≡ false
  -- the second inputs are the files of the next level that overlap the first inputs' range, completed, also after growth
  pub second_same : let p = picked_of c in inputs (suc p.level) (level (state_of s) (suc p.level)) (range_of p.first) ≡ p.second
  -- no file left at the compacted level has in its range a key that sorts after a first input's largest with the same user key. The same at the next level
  pub none_left : NoneLeft (state_of t) (picked_of c)
  -- the store that is left is well-formed
  pub store : well_store t ≡ true

-- the same for a pick of the model on a state
record Sound (t : State) (k : model.Pick) : Type 0 where
  good : good_picked full k.picked ≡ true
  of_level_lem : OfLevel t k.picked
  some_input : is_empty k.picked.first ≡ false
  second_same : inputs (suc k.picked.level) (level t (suc k.picked.level)) (range_of k.picked.first) ≡ k.picked.second
  none_left : NoneLeft k.after k.picked
  keeps : WF full k.after

-- a pick that was made of first inputs, with a well-formed answer, is so
sound : (t : State) (m : ℕ) (k : model.Pick) → Begun full t m k → good_picked full k.picked ≡ true → Sound t k
sound t m k b g = record {
  good = g;
  of_level_lem = pick_of_level full t m k b;
  some_input = pick_nonempty full t m k b;
  second_same = pick_second_same full t m k b;
  none_left = pick_none_left full t m k b;
  keeps = pick_keeps full t m k b;
}

-- a call that gives a result on a store gives it for the state
given_on : (s : Store) (call : State → Answer model.Pick) (k : model.Pick) → on_store s call ≡ gives k → call (state_of s) ≡ gives k
unfolding on_store
given_on s call k e = go (sound_store s) e
  where
    go : (b : Bool) → cond b (call (state_of s)) (refused 14) ≡ gives k → call (state_of s) ≡ gives k
    go true z = z
    go false z = let w : true ≡ false = cc in clash refl w

-- from the state to the store
module _ (s : Store) (call : State → Answer model.Pick) (All_sound : (k : model.Pick) → call (state_of s) ≡ gives k → Sound (state_of s) k) where
  -- the picked answer and the store of a pick of the model
  accepted : (k : model.Pick) → on_store s call ≡ gives k → Accepted s (picked_record k.picked) (store_of k.after)
  accepted k e =
      let g = All_sound k (given_on s call k e) in
      let h = (picked.held k.picked g.good).0 in
      let left = (formed_says full k.after).1 g.keeps in
      record {
        picked = picked.held_well k.picked g.good;
        of_level_lem = rw h g.of_level_lem;
        some_input = rw h g.some_input;
        second_same = rw h g.second_same;
        none_left = rw (h, (store.held k.after left).0) g.none_left;
        store = store.held_well k.after left;
      }

  -- a call by value that gives this
  by_value : (p : Pick) → pick_of (on_store s call) ≡ Ok p → Accepted s p.picked p.store
  unfolding pick_of pick_record result_of
  by_value p d = go (on_store s call) refl d
    where
      go : (a : Answer model.Pick) → on_store s call ≡ a → pick_of a ≡ Ok p → Accepted s p.picked p.store
      go (refused n) e z = let w : true ≡ false = cc in clash refl w
      go (gives k) e z = let same : pick_record k ≡ p = cc in subst (λ (x : Pick). Accepted s x.picked x.store) same (accepted k e)

  -- a call on a lent store that leaves this
  by_lending : (c : Picked) (t : Store) → Leaves s (on_store s call) (Ok c) t → Accepted s c t
  unfolding taken_of taken_record left_by result_of
  by_lending c t h = go (on_store s call) refl h.answer h.store
    where
      go : (a : Answer model.Pick) → on_store s call ≡ a → Ok c ≡ taken_of a → t ≡ left_by s a → Accepted s c t
      go (refused n) e z u = let w : true ≡ false = cc in clash refl w
      go (gives k) e z u =
          let same : picked_record k.picked ≡ c = cc in
          subst (λ (x : Picked). Accepted s x t) same (subst (λ (x : Store). Accepted s (picked_record k.picked) x) (sym u) (accepted k e))

-- a size pick
module _ (s : Store) (m : ℕ) where
  -- the pick of the model
  size_sound : (k : model.Pick) → size_pick full (state_of s) m ≡ gives k → Sound (state_of s) k
  unfolding full
  size_sound k e = sound (state_of s) m k (size_begun full (state_of s) m k e) (size_good full (state_of s) m k (omega arith) e)

  -- by value
  pub size_accepted : (p : Pick) → pick_of (on_store s (λ t. size_pick full t m)) ≡ Ok p → Accepted s p.picked p.store
  size_accepted = by_value s (λ t. size_pick full t m) size_sound

  -- on a lent store
  pub size_lent_accepted : (c : Picked) (t : Store) → Leaves s (on_store s (λ t. size_pick full t m)) (Ok c) t → Accepted s c t
  size_lent_accepted = by_lending s (λ t. size_pick full t m) size_sound

-- a manual pick
module _ (s : Store) (m l : ℕ) (a b : Key) where
  -- the pick of the model
  range_sound : (k : model.Pick) → manual_pick full (state_of s) m l a b ≡ gives k → Sound (state_of s) k
  range_sound k e = sound (state_of s) m k (range_begun full (state_of s) m l a b k e) (range_good full (state_of s) m l a b k e)

  -- by value
  pub range_accepted : (p : Pick) → pick_of (on_store s (λ t. manual_pick full t m l a b)) ≡ Ok p → Accepted s p.picked p.store
  range_accepted = by_value s (λ t. manual_pick full t m l a b) range_sound

  -- on a lent store
  pub range_lent_accepted : (c : Picked) (t : Store) → Leaves s (on_store s (λ t. manual_pick full t m l a b)) (Ok c) t → Accepted s c t
  range_lent_accepted = by_lending s (λ t. manual_pick full t m l a b) range_sound

-- a refused pick leaves the store as it was
pub refused_leaves : (s : Store) (a : Answer model.Pick) (r : Refusal) (t : Store) → Leaves s a (Err r) t → t ≡ s
unfolding taken_of left_by result_of
refused_leaves s a r t h = go a h.answer h.store
  where
    go : (a : Answer model.Pick) → Err r ≡ taken_of a → t ≡ left_by s a → t ≡ s
    go (gives k) e z = let w : true ≡ false = cc in clash refl w
    go (refused n) e z = z
