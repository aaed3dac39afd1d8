-- What the contract of `edit_apply` says: when an edit is accepted, the files that it then leaves, and what a refusal leaves. Assumes nothing.
use Rattle.std.specs.Prelude.{ℕ, zero, suc, ◌+◌, ◌<◌, ◌≡◌, refl, ◌↔◌, ◌⊎◌, Bool, true, false, not, cond, length, get_or, Result, Ok, Err}
use Rattle.std.proofs.Common.{sym, ap, ◌∙◌, subst, arith}
use mathlib.Core.List.{List, [], ◌++◌, Memᴰ as In}
use Rattle.lemmas.specs.Order.{clash}
use Rattle.lemmas.specs.Lists.{keep, chain}
use Rattle.model.specs.Key.{Key}
use Rattle.model.specs.Answer.{Answer, gives, refused}
use Rattle.model.specs.File.{File, State, full, level, by_smallest, apart, no_collision, levelwise}
use Rattle.model.specs.Edit as model
use Rattle.model.specs.Edit.{added, left_deleted, survivors, survivors_from, applied, edit}
use Rattle.model.proofs.EditLaws.{ties_with, Accepted, survivors_in, survivors_ordered, survivors_stable, survivors_from_at, survivors_from_length, edit_accepts}
use Rattle.model.proofs.Formed.{Words, formed_says, edit_keeps, empty_edit_lem}
use Rattle.model.proofs.PickedLaws.{levelwise_at}
use Rattle.answers.specs.Outcome.{result_of}
use Rattle.answers.specs.declared.Refusal.{Refusal}
use Rattle.store.specs.Store.{state_of, store_of, sound_store, well_store, on_store, leaves, stored, StoreShape}
use Rattle.store.specs.StoreLaws as store
use Rattle.store.specs.declared.Store.{Store}
use Rattle.edit.specs.Edit.{edit_of, empty_record}
use Rattle.edit.specs.EditLaws.{empty_is}
use Rattle.edit.specs.declared.Edit.{Edit}

-- the answer of `edit_apply::apply`, by its contract
abbrev pub edited : Store → Edit → Result Store Refusal
edited s e = stored (on_store s (λ t. edit full t (edit_of e)))

-- ---- when it is done

-- a call on a store that has a result gave an answer
result_done : {A B : Type 0} (f : A → B) (a : Answer A) (b : B) → result_of f a ≡ Ok b → (x : A) × (a ≡ gives x)
unfolding result_of
result_done f (gives x) b q = (x, refl)
result_done f (refused n) b q = let z : true ≡ false = cc in clash refl z

-- one that is refused gave a refusal
result_err : {A B : Type 0} (f : A → B) (a : Answer A) (r : Refusal) → result_of f a ≡ Err r → (n : ℕ) × (a ≡ refused n)
unfolding result_of
result_err f (gives x) r q = let z : true ≡ false = cc in clash refl z
result_err f (refused n) r q = (n, refl)

-- a refusal leaves the store
left_alone : (s : Store) (a : Answer State) (n : ℕ) → a ≡ refused n → leaves s a ≡ s
unfolding leaves
left_alone s a n e = ap (leaves s) e

-- if a call on a store gives a result, the store is sound and the call gives that result for its state
on_store_gives : {A : Type 0} (s : Store) (call : State → Answer A) (a : A) → on_store s call ≡ gives a → (sound_store s ≡ true) × (call (state_of s) ≡ gives a)
unfolding on_store
on_store_gives {A} s call a h = go (sound_store s) refl h
  where
    go : (t : Bool) → sound_store s ≡ t → cond t (call (state_of s)) (refused 14) ≡ gives a → (sound_store s ≡ true) × (call (state_of s) ≡ gives a)
    go true q k = (q, k)
    go false q k = let z : true ≡ false = cc in clash refl z

-- if the edit is done, the result is the state that it leaves
done_gives : (s : Store) (e : Edit) (t : Store) → edited s e ≡ Ok t
    → (sound_store s ≡ true) × Accepted full (state_of s) (edit_of e) (applied (edit_of e) (state_of s)) × (on_store s (λ t. edit full t (edit_of e)) ≡ gives (applied (edit_of e) (state_of s)))
unfolding stored
done_gives s e t h =
    let m = edit_of e in
    let d = result_done store_of (on_store s (λ t. edit full t m)) t h in
    let g = on_store_gives s (λ t. edit full t m) d.0 d.1 in
    let k = (edit_accepts full (state_of s) m d.0).0 g.1 in
    let same : d.0 ≡ applied m (state_of s) = sym k.result in
    (g.0, subst (λ (t : State). Accepted full (state_of s) m t) same k, d.1 ∙ ap (λ (t : State). gives t) same)

-- an edit is done exactly if no refusal applies
pub apply_accepts : (s : Store) (e : Edit) → ((t : Store) × (edited s e ≡ Ok t)) ↔ ((sound_store s ≡ true) × Accepted full (state_of s) (edit_of e) (applied (edit_of e) (state_of s)))
unfolding on_store stored result_of
apply_accepts s e = (
  λ h. let d = done_gives s e h.0 h.1 in (d.0, d.1),
  λ h. (
    store_of (applied (edit_of e) (state_of s)),
    ap (λ (b : Bool). stored (cond b (edit full (state_of s) (edit_of e)) (refused 14))) h.0
        ∙ ap stored ((edit_accepts full (state_of s) (edit_of e) (applied (edit_of e) (state_of s))).1 h.1),
  ),
)

-- ---- the store that it leaves

-- a level after the edit, by the level before
pub record LevelLeft (m : model.Edit) (l : ℕ) (old new : List File) : Type 0 where
  -- its files are the base files not left deleted and all added files
  pub files : (f : File) → In f new ↔ ((In f old × (left_deleted m l f.number ≡ false)) ⊎ In f (added m l))
  -- they are ordered by smallest key
  pub ordered : chain (λ f g. not (by_smallest g f)) new ≡ true
  -- among equal keys base files are first, then added ones in edit order
  pub stable : (k : Key) → keep (ties_with k) new ≡ keep (ties_with k) (keep (λ f. not (left_deleted m l f.number)) old) ++ keep (ties_with k) (added m l)
  -- above level 0 each file's largest key is strictly before the next one's smallest
  pub strictly : 0 < l → apart new ≡ true

-- the store after an accepted edit
pub record Left (s : Store) (e : Edit) (t : Store) : Type 0 where
  -- it is well-formed
  pub well : well_store t ≡ true
  -- it stands for the state that the edit leaves
  pub state : state_of t ≡ applied (edit_of e) (state_of s)
  -- at each level it has the survivors
  pub levels : (l : ℕ) → l < full.levels → LevelLeft (edit_of e) l (level (state_of s) l) (level (state_of t) l)

-- survivors of a level above 0 that do not collide are apart
apart_above : (l : ℕ) (fs : List File) → no_collision l fs ≡ true → 0 < l → apart fs ≡ true
unfolding no_collision
apart_above zero fs c h = absurd (omega arith)
apart_above (suc l) fs c h = c

-- the survivors of a level are as `LevelLeft` says
survivors_left : (m : model.Edit) (t : State) (l : ℕ) → l < length t.files → levelwise no_collision 0 (survivors_from m 0 t.files) ≡ true → LevelLeft m l (level t l) (level (applied m t) l)
unfolding level applied
survivors_left m t l h c =
    let old = get_or t.files l [] in
    let at : get_or (survivors_from m 0 t.files) l [] ≡ survivors m l old = survivors_from_at m 0 t.files l h ∙ ap (λ (k : ℕ). survivors m k old) (omega arith) in
    let zero_on : 0 + l ≡ l = omega arith in
    let here_apart : no_collision l (get_or (survivors_from m 0 t.files) l []) ≡ true =
    subst (λ (k : ℕ). no_collision k (get_or (survivors_from m 0 t.files) l []) ≡ true) zero_on (levelwise_at no_collision 0 (survivors_from m 0 t.files) l (omega (arith, survivors_from_length m 0 t.files)) c) in
    subst (λ (fs : List File). LevelLeft m l old fs) (sym at) record {
      files = survivors_in m l old;
      ordered = survivors_ordered m l old;
      stable = survivors_stable m l old;
      strictly = apart_above l (survivors m l old) (subst (λ (fs : List File). no_collision l fs ≡ true) at here_apart);
    }

-- an accepted edit leaves such a store
pub apply_files : (s : Store) (e : Edit) → Words (edit_of e) → (t : Store) → edited s e ≡ Ok t → Left s e t
unfolding stored result_of
apply_files s e words t h =
    let m = edit_of e in
    let d = done_gives s e t h in
    let k = d.1 in
    let same : Ok t ≡ Ok (store_of (applied m (state_of s))) = sym h ∙ ap stored d.2 in
    let left : t ≡ store_of (applied m (state_of s)) = cc in
    let formed = (formed_says full (applied m (state_of s))).1 (edit_keeps full (state_of s) m (applied m (state_of s)) words ((edit_accepts full (state_of s) m (applied m (state_of s))).1 k)) in
    let held = (store.held (applied m (state_of s)) formed).0 in
    let seven = ((formed_says full (state_of s)).0 k.formed).levels in
    subst (λ (t : Store). Left s e t) (sym left) record {
      well = store.held_well (applied m (state_of s)) formed;
      state = held;
      levels = λ l i. subst (λ (t : State). LevelLeft m l (level (state_of s) l) (level t l)) (sym held) (survivors_left m (state_of s) l (omega arith) k.apart);
    }

-- ---- after a refusal
-- the store that the call leaves is the one given: its files, pointers and counters
pub apply_refused : (s : Store) (e : Edit) (r : Refusal) → edited s e ≡ Err r → leaves s (on_store s (λ t. edit full t (edit_of e))) ≡ s
unfolding stored
apply_refused s e r h = let d = result_err store_of (on_store s (λ t. edit full t (edit_of e))) r h in left_alone s (on_store s (λ t. edit full t (edit_of e))) d.0 d.1

-- ---- the empty edit is done and leaves a well-formed store as it is
pub apply_empty : (s : Store) → StoreShape s → well_store s ≡ true → edited s empty_record ≡ Ok s
unfolding stored result_of
apply_empty s q h =
    let w = (store.well_says s).0 h in
    let a : on_store s (λ t. edit full t (edit_of empty_record)) ≡ gives (state_of s) =
    store.on_store_well s (λ t. edit full t (edit_of empty_record)) h ∙ ap (edit full (state_of s)) empty_is ∙ empty_edit_lem full (state_of s) w.formed in
    let c = store.canonical s q w.sound in
    ap stored a ∙ ap Ok (sym c)
