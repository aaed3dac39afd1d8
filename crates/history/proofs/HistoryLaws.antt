-- Demand 3 on the code's calls: what histories of a fresh store leave and write, and what is read from bytes. Assumes nothing.
use Rattle.std.specs.Prelude.{ℕ, ◌-◌, ◌<◌, ◌≤◌, ◌^◌, ◌≡◌, refl, ◌↔◌, ◌⊎◌, Bool, true, false, get_or, take, drop, replicate, Result, Ok, Err}
use Rattle.std.proofs.Common.{sym, ap, ◌∙◌, subst, inl, inr, arith, take-append-drop}
use mathlib.Core.List.Memᴰ.{append_cases}
use mathlib.Core.List.Memᴰ.{append_left as in_left}
use mathlib.Core.List.Memᴰ.{of_map}
use mathlib.Core.List.{List, [], ◌∷◌, map, Memᴰ as In}
use Rattle.std.proofs.Math.Option.{Option, none, some}
use Rattle.std.proofs.lemmas.List.{length-replicate}
use Rattle.std.proofs.Math.ListN.{get_or-map}
use Rattle.lemmas.specs.Each.{Each}
use Rattle.lemmas.specs.Lists.{sort}
use Rattle.lemmas.specs.ListLaws.{sort_in, in_replicate}
use Rattle.lemmas.specs.Order.{clash}
use Rattle.model.specs.Answer.{Answer, gives, refused, on_answer}
use Rattle.model.specs.File.{File, State, full, fresh, level, pointer, well_formed, by_smallest, max_additions}
use Rattle.model.specs.Edit as model_edit
use Rattle.model.specs.Edit.{edit}
use Rattle.model.specs.Counters.{CounterCall, new, reuse, mark, last, manifest, previous, counter}
use Rattle.model.specs.CounterLaws.{new_is}
use Rattle.model.specs.Calls as calls
use Rattle.model.specs.Pick.{Pick, size_pick, manual_pick}
use Rattle.model.proofs.PickLaws.{size_keeps, range_keeps}
use Rattle.model.specs.History.{kept, kept_pick, after, run, Event, events, Stays, pointer_left, counters_left, SameLeft}
use Rattle.model.proofs.HistoryLaws.{fresh_stays, run_counters, run_pointers}
use Rattle.model.proofs.Formed.{WF, formed_says, Words, edit_keeps, count_keeps}
use Rattle.model.specs.Snapshot.{by_number, encode, decode, longest_snapshot}
use Rattle.model.proofs.SnapshotLaws.{full_fits}
use Rattle.model.proofs.Demand3.{WordCalls, fresh_formed, demand_3}
use Rattle.model.proofs.Reading.{in_read_order, as_read, decode_sound, decode_encode}
use Rattle.std.specs.Result.{result_unwrap_or}
use Rattle.answers.specs.Outcome.{result_of}
use Rattle.answers.specs.declared.Refusal.{Refusal}
use Rattle.answers.specs.declared.Refusal.TheVariants.{Form}
use Rattle.edit.specs.declared.Addition.{Addition}
use Rattle.edit.specs.declared.Edit.{Edit}
use Rattle.edit.specs.Edit.{edit_of, addition_of, blank_addition, entries}
use Rattle.keys.specs.Key.{key_of}
use Rattle.pick_answer.specs.Picked.{pick_record, pick_of}
use Rattle.store.specs.declared.Store.{Store}
use Rattle.store.specs.Store.{state_of, store_of, well_store, on_store, leaves, stored}
use Rattle.store.specs.StoreLaws as store
use Rattle.store_numbers.specs.declared.Handed.{Handed}
use Rattle.store_numbers.specs.Numbering.{handed_record, handed}
use Rattle.snapshot_write.specs.Writing.{snapshot_of}
use Rattle.snapshot_write.specs.WritingLaws.{written_ill, written_well, snapshot_most}
use Rattle.history.specs.History.{Call, apply, pick_size, pick_range, new_number, reuse_number, mark_number, set_last, set_manifest, set_previous, called, call_of, Passable, left, fresh_store, ran, written, read_back}

-- ---- one call

-- a store as every history leaves it: well-formed, and the store of its state
pub record HoldsState (s : Store) : Type 0 where
  pub well : well_store s ≡ true
  pub one : s ≡ store_of (state_of s)

-- the store of a well-formed state is one
held_state : (t : State) → WF full t → HoldsState (store_of t)
held_state t w =
    let f = (formed_says full t).1 w in
    record { well = store.held_well t f; one = ap store_of (sym (store.held t f).0) }

-- such a store with this state
pub record Step (s : Store) (t : State) : Type 0 where
  pub held : HoldsState s
  pub state : state_of s ≡ t

-- by the call's answer: an accepted call leaves the store of the new state, a refused one the store unchanged
leaves_step : (s : Store) (a : Answer State) → HoldsState s → ((t : State) → a ≡ gives t → WF full t) → Step (leaves s a) (kept (state_of s) a)
unfolding leaves kept
leaves_step s (gives t) h k = let w = k t refl in record { held = held_state t w; state = (store.held t ((formed_says full t).1 w)).0 }
leaves_step s (refused n) h k = record { held = h; state = refl }

-- that is the store after the call
stored_left : (s : Store) (a : Answer State) → result_unwrap_or (stored a) s ≡ leaves s a
unfolding stored result_of leaves
stored_left s (gives t) = refl
stored_left s (refused n) = refl

-- a call on a store gives its answer for the state
stored_step : (s : Store) (call : State → Answer State) → HoldsState s → ((t : State) → call (state_of s) ≡ gives t → WF full t)
    → Step (result_unwrap_or (stored (on_store s call)) s) (kept (state_of s) (call (state_of s)))
stored_step s call h k = rw (stored_left s (on_store s call)) (rw (store.on_store_well s call h.well) (leaves_step s (call (state_of s)) h k))

-- a counter call
count_step : (s : Store) (d : CounterCall) → HoldsState s → Step (result_unwrap_or (stored (on_store s (λ t. counter full t d))) s) (kept (state_of s) (counter full (state_of s) d))
count_step s d h = stored_step s (λ t. counter full t d) h (λ t q. count_keeps full (state_of s) d t q)

-- new leaves the store that its counter call leaves
handed_store : (s : Store) (f : State → calls.Handed) (a : Answer State) → ((t : State) → (f t).after ≡ t) → left (λ h. h.store) (handed (on_answer f a)) s ≡ leaves s a
unfolding handed handed_record result_of on_answer leaves
handed_store s f (gives t) e = ap store_of (e t)
handed_store s f (refused n) e = refl

-- so new is a counter call
new_step : (s : Store) → HoldsState s → Step (left (λ h. h.store) (handed (on_store s (calls.new_number full))) s) (kept (state_of s) (counter full (state_of s) new))
new_step s h =
    let f : State → calls.Handed = λ t. record { number = (state_of s).counters.next; after = t } in
    let a = counter full (state_of s) new in
    let e : left (λ (h : Handed). h.store) (handed (on_store s (calls.new_number full))) s ≡ leaves s a =
    ap (λ (x : Answer calls.Handed). left (λ (h : Handed). h.store) (handed x) s) (store.on_store_well s (calls.new_number full) h.well ∙ new_is full (state_of s)) ∙ handed_store s f a (λ t. refl) in
    rw e (leaves_step s a h (λ t q. count_keeps full (state_of s) new t q))

-- the same by a pick's answer
pick_leaves : (s : Store) (a : Answer Pick) → HoldsState s → ((k : Pick) → a ≡ gives k → WF full k.after) → Step (left (λ k. k.store) (pick_of a) s) (kept_pick (state_of s) a)
unfolding pick_of pick_record result_of kept_pick
pick_leaves s (gives k) h w = let f = w k refl in record { held = held_state k.after f; state = (store.held k.after ((formed_says full k.after).1 f)).0 }
pick_leaves s (refused n) h w = record { held = h; state = refl }

-- a pick on a store gives its answer for the state
pick_step : (s : Store) (call : State → Answer Pick) → HoldsState s → ((k : Pick) → call (state_of s) ≡ gives k → WF full k.after)
    → Step (left (λ k. k.store) (pick_of (on_store s call)) s) (kept_pick (state_of s) (call (state_of s)))
pick_step s call h w = rw (store.on_store_well s call h.well) (pick_leaves s (call (state_of s)) h w)

-- the file numbers that an edit adds fit 64 bits. Blank additions beyond its room have number 0
passable_words : (e : Edit) → Passable (apply e) → Words (edit_of e)
unfolding edit_of addition_of entries blank_addition
passable_words e p a m =
    let n = e.addition_count in
    let w = of_map addition_of (entries max_additions blank_addition n e.additions) m in
    subst (λ (x : model_edit.Addition). x.file.number < 2 ^ 64) w.2 (go w.0 (append_cases (take n e.additions) w.1))
  where
    go : (x : Addition) → In x (take e.addition_count e.additions) ⊎ In x (replicate (e.addition_count - max_additions) blank_addition) → x.number.0 < 2 ^ 64
    go x (inl k) = p x (subst (λ (l : List Addition). In x l) (take-append-drop e.addition_count e.additions) (in_left (drop e.addition_count e.additions) k))
    go x (inr k) = let z = ap (λ (y : Addition). y.number.0) (in_replicate (e.addition_count - max_additions) blank_addition x k) in omega arith

-- each call, accepted or refused, leaves such a store, and its state is the one that the model's call leaves
pub steps : (s : Store) (c : Call) → HoldsState s → Passable c → Step (called s c) (after full (state_of s) (call_of c))
unfolding called call_of after
steps s (apply e) h p = stored_step s (λ t. edit full t (edit_of e)) h (λ t q. edit_keeps full (state_of s) (edit_of e) t (passable_words e p) q)
steps s (pick_size m) h p = pick_step s (λ t. size_pick full t m) h (λ k q. size_keeps full (state_of s) m k q)
steps s (pick_range m l a b) h p =
    pick_step s (λ t. manual_pick full t m l (key_of a) (key_of b)) h (λ k q. range_keeps full (state_of s) m l (key_of a) (key_of b) k q)
steps s new_number h p = new_step s h
steps s (reuse_number n) h p = count_step s (reuse n.0) h
steps s (mark_number n) h p = count_step s (mark n.0) h
steps s (set_last n) h p = count_step s (last n.0) h
steps s (set_manifest n) h p = count_step s (manifest n.0) h
steps s (set_previous n) h p = count_step s (previous n.0) h

-- ---- histories

-- the same for calls one after another
pub ran_steps : (s : Store) (cs : List Call) → HoldsState s → Each Passable cs → Step (ran s cs) (run full (state_of s) (map call_of cs))
unfolding ran run Each
ran_steps s [] h p = record { held = h; state = refl }
ran_steps s (c ∷ cs) h p =
    let a = steps s c h p.0 in
    let b = ran_steps (called s c) cs a.held p.1 in
    record { held = b.held; state = b.state ∙ ap (λ (t : State). run full t (map call_of cs)) a.state }

-- a fresh store is well-formed and the store of its state
fresh_held : HoldsState fresh_store
unfolding fresh_store
fresh_held = held_state (fresh full) (fresh_formed full)

-- its state is the fresh state
fresh_state : state_of fresh_store ≡ fresh full
unfolding fresh_store
fresh_state = (store.held (fresh full) ((formed_says full (fresh full)).1 (fresh_formed full))).0

-- the numbers in a history of the code fit 64 bits, as the model asks
passable_calls : (cs : List Call) → Each Passable cs → WordCalls (map call_of cs)
unfolding Each call_of
passable_calls [] p = tt
passable_calls (apply e ∷ cs) p = (passable_words e p.0, passable_calls cs p.1)
passable_calls (pick_size m ∷ cs) p = passable_calls cs p.1
passable_calls (pick_range m l a b ∷ cs) p = passable_calls cs p.1
passable_calls (new_number ∷ cs) p = passable_calls cs p.1
passable_calls (reuse_number n ∷ cs) p = passable_calls cs p.1
passable_calls (mark_number n ∷ cs) p = passable_calls cs p.1
passable_calls (set_last n ∷ cs) p = passable_calls cs p.1
passable_calls (set_manifest n ∷ cs) p = passable_calls cs p.1
passable_calls (set_previous n ∷ cs) p = passable_calls cs p.1

-- ---- snapshots

-- a well-formed store writes the bytes of its state
pub writes : (s : Store) → well_store s ≡ true → written s ≡ gives (encode (state_of s))
unfolding written
writes s h = written_well s longest_snapshot h (snapshot_most s h)

-- a well-formed store with these bytes as its snapshot
pub record Wrote (s : Store) (bs : List ℕ) : Type 0 where
  pub well : well_store s ≡ true
  pub bytes : encode (state_of s) ≡ bs

-- only a well-formed store writes bytes
pub wrote : (s : Store) (bs : List ℕ) → written s ≡ gives bs → Wrote s bs
unfolding written
wrote s bs h = go (well_store s) refl
  where
    go : (t : Bool) → well_store s ≡ t → Wrote s bs
    go true w = let e = writes s w in record { well = w; bytes = cc }
    go false w = let e = written_ill s longest_snapshot w in let z : true ≡ false = cc in clash refl z

-- ---- histories of a fresh store, with refused calls among them
module _ (h : List Call) (p : Each Passable h) where
  -- the store after a history is well-formed and the store of the state that the model's calls leave
  pub ran_state : Step (ran fresh_store h) (run full (fresh full) (map call_of h))
  ran_state =
      let a = ran_steps fresh_store h fresh_held p in
      record { held = a.held; state = a.state ∙ ap (λ (t : State). run full t (map call_of h)) fresh_state }

  -- it writes the snapshot of that state
  pub ran_writes : written (ran fresh_store h) ≡ gives (encode (run full (fresh full) (map call_of h)))
  ran_writes = writes (ran fresh_store h) ran_state.held.well ∙ ap (λ (t : State). gives (encode t)) ran_state.state

  -- the same into any output with room for the longest
  pub ran_writes_in : (room : ℕ) → longest_snapshot ≤ room → snapshot_of (ran fresh_store h) room ≡ written (ran fresh_store h)
  ran_writes_in room b =
      let s = ran fresh_store h in
      let w = ran_state.held.well in
      written_well s room w (omega (arith, snapshot_most s w)) ∙ sym (writes s w)

-- a state is what these events leave: at each level the files that an edit added and no later one deleted, the last pointers, the counters
pub record Left (t : State) (vs : List Event) : Type 0 where
  pub files : (l : ℕ) → l < full.levels → (f : File) → In f (level t l) ↔ Stays vs l f
  pub pointers : (l : ℕ) → l < full.levels → pointer t l ≡ pointer_left vs l (pointer (fresh full) l)
  pub counters : t.counters ≡ counters_left vs (fresh full).counters

-- this holds after every history
pub ran_leaves : (h : List Call) → Each Passable h → Left (state_of (ran fresh_store h)) (events full (fresh full) (map call_of h))
unfolding fresh
ran_leaves h p =
    let cs = map call_of h in
    rw (ran_state h p).state record {
      files = λ l i f. fresh_stays full cs l i f;
      pointers = λ l i. run_pointers full (fresh full) cs l (rw length-replicate i);
      counters = run_counters full (fresh full) cs;
    }

-- two histories of a fresh store
module _ (h k : List Call) (p : Each Passable h) (q : Each Passable k) where
  -- demand 3: take any two sequences of edits and counter calls from a fresh store, with refused ones among them. Their snapshots are the same bytes exactly when
  -- both leave the same files at each level, pointers and counters. Picks are included too, by their constructors of `Call`
  pub demand_3_code : written (ran fresh_store h) ≡ written (ran fresh_store k) ↔ SameLeft full (map call_of h) (map call_of k)
  demand_3_code =
      let r = demand_3 full full_fits (map call_of h) (map call_of k) (passable_calls h p) (passable_calls k q) in
      let a = ran_writes h p in
      let b = ran_writes k q in
      (λ e. r.0 (cc), λ d. let f = r.1 d in cc)

  -- two histories that leave one state leave one store
  pub one_store : state_of (ran fresh_store h) ≡ state_of (ran fresh_store k) → ran fresh_store h ≡ ran fresh_store k
  one_store e = (ran_state h p).held.one ∙ ap store_of e ∙ sym (ran_state k q).held.one

-- ---- a snapshot read back

-- a successful reading with the same files at each level, pointers and counters, in a store that writes the same bytes again
pub record SameRead (s : Store) (r : Result Store Refusal) : Type 0 where
  pub store : Store
  pub read : r ≡ Ok store
  pub held : HoldsState store
  pub files : (l : ℕ) (f : File) → In f (level (state_of store) l) ↔ In f (level (state_of s) l)
  pub pointers : (state_of store).pointers ≡ (state_of s).pointers
  pub counters : (state_of store).counters ≡ (state_of s).counters
  pub again : written store ≡ written s

-- bytes that are a snapshot read as the store of their state
read_is : (bs : List ℕ) (t : State) → decode full bs ≡ some t → read_back bs ≡ Ok (store_of t)
unfolding read_back calls.read calls.or_bad stored result_of
read_is bs t d = ap (λ (o : Option State). stored (calls.or_bad o)) d

-- the files of a level as read are those of the level
as_read_in : (t : State) (l : ℕ) (f : File) → In f (level (as_read t) l) ↔ In f (level t l)
unfolding as_read level in_read_order sort
as_read_in t l f =
    let fs = get_or t.files l [] in
    let e : get_or (map in_read_order t.files) l [] ≡ in_read_order fs = get_or-map in_read_order t.files l [] in (
      λ m. (sort_in by_number fs f).0 ((sort_in by_smallest (sort by_number fs) f).0 (subst (λ (gs : List File). In f gs) e m)),
      λ m. subst (λ (gs : List File). In f gs) (sym e) ((sort_in by_smallest (sort by_number fs) f).1 ((sort_in by_number fs f).1 m)),
    )

-- demand 3: reading a snapshot back leaves the same files, pointers and counters
pub reads_back : (s : Store) (bs : List ℕ) → written s ≡ gives bs → SameRead s (read_back bs)
unfolding as_read
reads_back s bs h =
    let w = wrote s bs h in
    let t = state_of s in
    let u = as_read t in
    let d : decode full bs ≡ some u = rw (← w.bytes) (decode_encode full full_fits t ((formed_says full t).0 ((store.well_says s).0 w.well).formed)) in
    let sound = decode_sound full bs u d in
    let e : state_of (store_of u) ≡ u = (store.held u sound.0).0 in
    let well = store.held_well u sound.0 in
    record {
      store = store_of u;
      read = read_is bs u d;
      held = held_state u ((formed_says full u).0 sound.0);
      files = λ l f. rw e (as_read_in t l f);
      pointers = ap (λ (x : State). x.pointers) e;
      counters = ap (λ (x : State). x.counters) e;
      again = writes (store_of u) well ∙ ap (λ (x : State). gives (encode x)) e ∙ ap gives sound.1 ∙ sym h;
    }

-- this holds for the snapshot of every history
pub ran_reads_back : (h : List Call) → Each Passable h → SameRead (ran fresh_store h) (read_back (encode (run full (fresh full) (map call_of h))))
ran_reads_back h p = reads_back (ran fresh_store h) (encode (run full (fresh full) (map call_of h))) (ran_writes h p)

-- demand 3: exactly the bytes that no well-formed state writes are refused
pub refuses_states : (bs : List ℕ) → calls.read full bs ≡ refused 14 ↔ ((t : State) → well_formed full t ≡ true → encode t ≡ bs → ⊥)
unfolding calls.read calls.or_bad
refuses_states bs = (λ e t f k. from e t f k, λ h. to h (decode full bs) refl)
  where
    from : calls.or_bad (decode full bs) ≡ refused 14 → (t : State) → well_formed full t ≡ true → encode t ≡ bs → ⊥
    from e t f k =
        let d : decode full bs ≡ some (as_read t) = rw (← k) (decode_encode full full_fits t ((formed_says full t).0 f)) in
        let g = ap calls.or_bad d in
        let z : true ≡ false = cc in
        clash refl z

    to : ((t : State) → well_formed full t ≡ true → encode t ≡ bs → ⊥) → (o : Option State) → decode full bs ≡ o → calls.or_bad o ≡ refused 14
    to h none d = refl
    to h (some t) d = let sound = decode_sound full bs t d in absurd (h t sound.0 sound.1)

-- the same for stores: reading refuses with 14 exactly the bytes that no store writes
pub refuses : (bs : List ℕ) → read_back bs ≡ Err Form ↔ ((s : Store) → written s ≡ gives bs → ⊥)
unfolding read_back stored result_of
refuses bs = (λ e s k. from e s k, λ h. to h)
  where
    from : read_back bs ≡ Err Form → (s : Store) → written s ≡ gives bs → ⊥
    from e s k =
        let a = (reads_back s bs k).read in
        let z : true ≡ false = cc in
        clash refl z

    to : ((s : Store) → written s ≡ gives bs → ⊥) → read_back bs ≡ Err Form
    to h = ap stored ((refuses_states bs).1 (λ t f k. h (store_of t) (writes (store_of t) (store.held_well t f) ∙ ap (λ (x : State). gives (encode x)) (store.held t f).0 ∙ ap gives k)))
