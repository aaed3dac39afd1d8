-- Laws of the counter calls: the store that each leaves, and its refusals. Assumes nothing.
use Prim.Native.Nat.{ℕ, suc, ◌+◌, ◌≤◌, ◌<◌}
use Rattle.std.specs.Prelude.{◌≡◌, refl, Bool, true, false, cond, ltb, Ok, Err}
use Rattle.std.proofs.Common.{sym, ◌∙◌, add-one, eq-eqb, ne_eqb, le-leb}
use Rattle.std.proofs.Math.Path.{ap}
use native.Mathlib.Omega.{arith}
use Rattle.std.proofs.lemmas.Bool.{lt-leb}
use Rattle.model.specs.Answer.{gives, refused, ◌⇒◌, first_of, on_answer}
use Rattle.model.specs.File as model
use Rattle.model.specs.File.{State, full, well_formed, max_counter, set_counters}
use Rattle.model.specs.Counters.{CounterCall, new, reuse, mark, counted, counter_beyond, counter}
use Rattle.model.specs.Calls as calls
use Rattle.model.specs.CounterLaws.{new_is}
use Rattle.answers.specs.declared.Refusal.TheVariants.{Counter, Form}
use Rattle.answers.specs.Outcome.{result_of}
use Rattle.counters.specs.Counters.{counters_of, counters_record}
use Rattle.counters.specs.declared.Counters.{Counters}
use Rattle.store.specs.declared.Store.{Store}
use Rattle.store.specs.Store.{state_of, store_of, sound_store, well_store, on_store, stored, StoreShape}
use Rattle.store.specs.StoreLaws.{canonical, well_says, on_store_well, on_store_ill}
use Rattle.store_numbers.specs.Numbering.{counting, setting, handed, handed_record}

-- ---- a store with other counters

-- the store with other counters is the store of the state with other counters
pub other_counters : (s : Store) → StoreShape s → sound_store s ≡ true → (c : Counters)
    → record { files = s.files; counts = s.counts; pointers = s.pointers; counters = c } ≡ store_of (set_counters (state_of s) (counters_of c))
unfolding store_of state_of set_counters counters_of counters_record
other_counters s q h c =
    let e = canonical s q h in
    λ i. record { files = (e i).files; counts = (e i).counts; pointers = (e i).pointers; counters = c }

-- ---- the counter calls

-- on a state
module _ (t : State) (d : CounterCall) where
  -- not well-formed: 14
  counter_ill : well_formed full t ≡ false → counter full t d ≡ refused 14
  unfolding counter first_of ◌⇒◌
  counter_ill h = rw h

  -- beyond a counter's bound: 9
  counter_beyond_lem : well_formed full t ≡ true → counter_beyond d t.counters ≡ true → counter full t d ≡ refused 9
  unfolding counter first_of ◌⇒◌
  counter_beyond_lem h b = rw (h, b)

  -- else the state with the counters set
  counter_gives : well_formed full t ≡ true → counter_beyond d t.counters ≡ false → counter full t d ≡ gives (set_counters t (counted d t.counters))
  unfolding counter first_of ◌⇒◌
  counter_gives h b = rw (h, b)

-- on a store
module _ (s : Store) (d : CounterCall) where
  -- not well-formed: 14
  pub count_ill : well_store s ≡ false → Err Form ≡ stored (on_store s (λ t. counter full t d))
  unfolding stored result_of
  count_ill h = ap stored (sym (on_store_ill s (λ t. counter full t d) (counter_ill (state_of s) d) h))

  -- beyond a counter's bound: 9
  pub count_beyond : well_store s ≡ true → counter_beyond d (counters_of s.counters) ≡ true → Err Counter ≡ stored (on_store s (λ t. counter full t d))
  unfolding stored result_of state_of
  count_beyond h b = ap stored (sym (on_store_well s (λ t. counter full t d) h ∙ counter_beyond_lem (state_of s) d ((well_says s).0 h).formed b))

  -- else the same store with the counters set
  pub count_done : StoreShape s → (c : Counters) → well_store s ≡ true → counter_beyond d (counters_of s.counters) ≡ false → counters_of c ≡ counted d (counters_of s.counters)
      → Ok (counting s c) ≡ stored (on_store s (λ t. counter full t d))
  unfolding stored result_of state_of
  count_done q c h b e =
      let w = (well_says s).0 h in
      let a = on_store_well s (λ t. counter full t d) h ∙ counter_gives (state_of s) d w.formed b in
      let kept = other_counters s q w.sound c ∙ ap (λ (x : model.Counters). store_of (set_counters (state_of s) x)) e in
      ap Ok kept ∙ ap stored (sym a)

-- a setter's answer is that of its counter call
pub setting_is : (s : Store) (d : CounterCall) (n : ℕ) (c : Counters) → StoreShape s → counter_beyond d (counters_of s.counters) ≡ ltb max_counter n
    → counters_of c ≡ counted d (counters_of s.counters) → setting s n c ≡ stored (on_store s (λ t. counter full t d))
unfolding setting
setting_is s d n c q b e = go (well_store s) refl (ltb max_counter n) b
  where
    go : (w : Bool) → well_store s ≡ w → (t : Bool) → counter_beyond d (counters_of s.counters) ≡ t
        → cond w (cond t (Err Counter) (Ok (counting s c))) (Err Form) ≡ stored (on_store s (λ t. counter full t d))
    go false h t b = count_ill s d h
    go true h true b = count_beyond s d h b
    go true h false b = count_done s d q c h b e

-- the call `new`
module _ (s : Store) where
  -- a state with the number handed out beside it
  abbrev with_next : State → calls.Handed
  with_next t = record { number = s.counters.next.0; after = t }

  -- on a well-formed store it is the counter call, with the number beside it
  new_on : well_store s ≡ true → on_store s (calls.new_number full) ≡ on_answer with_next (counter full (state_of s) new)
  unfolding state_of counters_of
  new_on h = on_store_well s (calls.new_number full) h ∙ new_is full (state_of s)

  -- not well-formed: 14
  pub new_ill : well_store s ≡ false → Err Form ≡ handed (on_store s (calls.new_number full))
  unfolding handed result_of on_answer state_of counters_of
  new_ill h = ap handed (sym (on_store_ill s (calls.new_number full) (λ e. new_is full (state_of s) ∙ ap (on_answer with_next) (counter_ill (state_of s) new e)) h))

  -- beyond the counter's bound: 9
  pub new_beyond : well_store s ≡ true → counter_beyond new (counters_of s.counters) ≡ true → Err Counter ≡ handed (on_store s (calls.new_number full))
  unfolding handed result_of on_answer state_of
  new_beyond h b = ap handed (sym (new_on h ∙ ap (on_answer with_next) (counter_beyond_lem (state_of s) new ((well_says s).0 h).formed b)))

  -- else the number handed out and the store with next one greater
  pub new_done : StoreShape s → (c : Counters) → well_store s ≡ true → counter_beyond new (counters_of s.counters) ≡ false → counters_of c ≡ counted new (counters_of s.counters)
      → Ok (record { number = s.counters.next; store = counting s c }) ≡ handed (on_store s (calls.new_number full))
  unfolding handed handed_record result_of on_answer state_of
  new_done q c h b e =
      let w = (well_says s).0 h in
      let a = new_on h ∙ ap (on_answer with_next) (counter_gives (state_of s) new w.formed b) in
      let kept = other_counters s q w.sound c ∙ ap (λ (x : model.Counters). store_of (set_counters (state_of s) x)) e in
      (λ i. Ok (record { number = s.counters.next; store = kept i })) ∙ ap handed (sym a)

-- next after mark and reuse
module _ (n : ℕ) (c : Counters) where
  -- the same counters with another next
  abbrev pub next_is : ℕ → Counters
  next_is m = record { next = record { 0 = m }; manifest = c.manifest; last = c.last; log = c.log; previous = c.previous }

  -- mark: next is not above n, so it becomes n + 1
  pub mark_up : c.next.0 ≤ n → counters_of (next_is (n + 1)) ≡ counted (mark n) (counters_of c)
  unfolding counters_of counted
  mark_up h = rw (le-leb c.next.0 n h, add-one)

  -- mark: next is above n and stays
  pub mark_kept : n < c.next.0 → counters_of c ≡ counted (mark n) (counters_of c)
  unfolding counters_of counted
  mark_kept h = rw (lt-leb c.next.0 n h)

  -- reuse: n + 1 is next, so it becomes n
  pub reuse_down : n + 1 ≡ c.next.0 → counters_of (next_is n) ≡ counted (reuse n) (counters_of c)
  unfolding counters_of counted
  reuse_down h = let e : suc n ≡ c.next.0 = omega arith in rw (eq-eqb (suc n) c.next.0 e)

  -- reuse: n + 1 is not next, which stays
  pub reuse_kept : (n + 1 ≡ c.next.0 → ⊥) → counters_of c ≡ counted (reuse n) (counters_of c)
  unfolding counters_of counted
  reuse_kept h = rw (ne_eqb (suc n) c.next.0 (λ e. h (omega arith)))
