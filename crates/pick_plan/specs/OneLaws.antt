-- Laws of what a size pick starts with: the start file as files found, and the files that complete it. Assumes nothing.
use Rattle.std.specs.Prelude.{None, Some, ℕ, zero, suc, ◌+◌, ◌≤◌, ◌<◌, ◌≡◌, Bool, false, eqb, ltb}
use Rattle.std.proofs.Math.Path.{refl, sym, ap, subst}
use Rattle.std.proofs.Common.{◌∙◌, lt-ltb, le-ltb, ltb-true, ltb-false, eqb-true, eq-eqb, ne_eqb}
use Rattle.std.proofs.Math.Bool.{true, cond}
use mathlib.Core.List.{List, [], ◌∷◌, Option-to_list}
use Rattle.std.proofs.Math.Option.{Option, none}
use native.Mathlib.Omega.{arith}
use Rattle.std.proofs.lemmas.Bool.{eqb-false}
use Rattle.std.proofs.Math.ListN.{length, get_or}
use Rattle.lemmas.specs.ListLaws.{sub_all}
use Rattle.lemmas.specs.Lists.{is_empty}
use Rattle.lemmas.specs.Order.{clash}
use Rattle.model.specs.Completion.{completed, completed_at}
use Rattle.model.specs.File.{File, level, pointer, total, level_count, max_bytes, max_files}
use Rattle.model.proofs.LineLaws.{Line}
use Rattle.model.specs.Pick.{start_file}
use Rattle.keys.specs.Key.{key_of}
use Rattle.records.specs.Record.{file_of, past}
use Rattle.records.specs.RecordLaws.{run_turn, run_ended, total_turn, total_ended}
use Rattle.records.specs.Run.{run}
use Rattle.records.specs.declared.FileRecord.{FileRecord}
use Rattle.store.specs.declared.Store.{Store}
use Rattle.store.specs.Store.{state_of, well_store, StoreShape}
use Rattle.store.specs.StoreLaws.{past as pastPointer}
use Rattle.pick_found.specs.declared.FoundRun.{FoundRun}
use Rattle.pick_found.specs.FoundRun.{file_at, start_at, end_at, none_at, inputs_of, Summed, Known}
use Rattle.pick_found.specs.CallsLaws.{level_run_lem, level_ends, files_room}
use Rattle.pick_found.specs.ContiguousLaws.{none_summed, run_parts}
use Rattle.pick_found.specs.FoundLaws.{level_part, level_known, summed_one, total_joined}
use Rattle.pick_search.specs.declared.Question.{Question}
use Rattle.pick_search.specs.AskedLaws.{deeper_line}
use Rattle.pick_search.specs.Choice.{asked_edges, edge_question}
use Rattle.pick_search.specs.CompletedLaws.{not_completed, is_completed}
use Rattle.pick_search.specs.Search.{Takable, Takes}
use Rattle.bisect.specs.declared.Window.{Window}
use Rattle.pick_plan.specs.declared.Started.{Started}
use Rattle.pick_plan.specs.ChoiceLaws.{completed_none, completed_some}
use Rattle.pick_plan.specs.Starts.{begin_of, places_of, first_after, start_among, one_found, started_by, Starts}
use Rattle.pick_plan.specs.StartLaws.{places, starts_at, places_due, start_places_room, start_places_held, start_some, start_nothing, start_place_within}

-- ---- no file
-- files can be taken after none
none_takable : (files : List FileRecord) (to : ℕ) → to ≤ max_files → Takable files to (none_at to)
unfolding none_at
none_takable files to h =
    let none = run_ended to (to + 0) files (omega arith) in
    record {
      fits = omega arith;
      room = h;
      sums = rw none (none_summed to);
      small = omega (arith, total_ended (to + 0) to files (omega arith));
    }

-- ---- one file
-- the file at a place as files found
abbrev one_at : Store → ℕ → FoundRun
one_at s j = one_found j (get_or s.files j past)

module _ (s : Store) (q : StoreShape s) (h : well_store s ≡ true) (n : ℕ) (l : n < level_count) (j : ℕ) (least : start_at s n ≤ j) (below : j < end_at s n) where
  -- the level's places are within the room
  room : end_at s n ≤ max_files
  room = omega (arith, level_ends s n, files_room s n h)

  -- the level is the run of its places
  is_level : level (state_of s) n ≡ run (start_at s n) (end_at s n) s.files
  is_level = let counts = q.counts in level_run_lem s n (omega arith)

  -- the files found are the file there
  one_is : run j (j + 1) s.files ≡ file_at s.files j ∷ []
  unfolding file_at
  one_is =
      let size = q.files in
      let few = room in
      run_turn j (j + 1) s.files (omega arith) (omega arith) ∙ ap (λ (fs : List File). file_of (get_or s.files j past) ∷ fs) (run_ended (j + 1) (j + 1) s.files (omega arith))

  -- the bytes from there on are bounded
  one_small : (get_or s.files j past).size + total (run (j + 1) (end_at s n) s.files) ≤ max_bytes
  one_small =
      let files = s.files in
      let size = q.files in
      let few = room in
      let fs = level (state_of s) n in
      let parts = ap total (run_parts files (start_at s n) (end_at s n) (omega arith) j least (omega arith)) ∙ total_joined (run (start_at s n) j files) (run j (end_at s n) files) in
      omega (arith, (level_part s n h l fs (sub_all fs)).1, ap total is_level, total_turn j (end_at s n) files below (omega arith))

  -- files can be taken after it
  one_takable : Takable s.files (end_at s n) (one_at s j)
  unfolding file_at one_found
  one_takable =
      let f = get_or s.files j past in
      record {
        fits = omega arith;
        room = room;
        sums = subst (λ (fs : List File). Summed fs (record { low = f.smallest; high = f.largest }) f.size) (sym one_is) (summed_one f);
        small = one_small;
      }

  module _ (r : FoundRun) (g : Takes s.files (edge_question n (end_at s n)) true (one_at s j) r) where
    -- the files taken after it are the level's
    one_known : Known s n r
    unfolding edge_question one_found
    one_known = level_known s n r (record { starts = omega (arith, g.starts); fits = g.fits; sums = g.sums })

    -- with it they are the file there, completed
    one_completed : inputs_of s r ≡ completed_at n (level (state_of s) n) (file_at s.files j ∷ [])
    unfolding edge_question asked_edges completed_at inputs_of one_found
    one_completed = go n refl
      where
        size : end_at s n ≤ length s.files
        size = let long = q.files in let few = room in omega arith

        go : (m : ℕ) → m ≡ n → run r.from (r.from + r.count) s.files ≡ completed_at m (level (state_of s) m) (file_at s.files j ∷ [])
        go zero e = not_completed s.files (start_at s n) (edge_question n (end_at s n)) (one_at s j) r size least (omega arith) g (subst (λ (k : ℕ). asked_edges k 0 ≡ false) e refl) ∙ one_is
        go (suc m) e =
            let same : level (state_of s) (suc m) ≡ run (start_at s n) (end_at s n) s.files = ap (level (state_of s)) e ∙ is_level in
            let line = subst Line same (deeper_line s (suc m) h (λ z. omega arith)) in
            let edges : asked_edges (suc m) 0 ≡ true = rw (ne_eqb (suc m) 0 (λ z. omega arith)) in
            is_completed s.files (start_at s n) (edge_question n (end_at s n)) (one_at s j) r size least (omega arith) g (subst (λ (k : ℕ). asked_edges k 0 ≡ true) e edges) line
            ∙ ap (λ (fs : List File). completed fs (run j (j + 1) s.files)) (sym same) ∙ ap (completed (level (state_of s) (suc m))) one_is

    -- they are not none
    one_some : r.count ≡ 0 → ⊥
    unfolding inputs_of is_empty
    one_some e =
        let fs = level (state_of s) n in
        let none = run_ended r.from (r.from + r.count) s.files (omega arith) in
        clash (sym (ap is_empty one_completed) ∙ ap is_empty none) (completed_some n fs (file_at s.files j ∷ []))

-- ---- the place of the first file
-- there is none: there are no files
pub begins_nowhere : (a : FoundRun) → begin_of a ≡ None → a.count ≡ 0
unfolding begin_of
begins_nowhere a = go (eqb a.count 0) refl
  where
    go : (b : Bool) → eqb a.count 0 ≡ b → cond b None (Some a.from) ≡ None → a.count ≡ 0
    go true t e = eqb-true a.count 0 t
    go false t e = let w : true ≡ false = cc in clash refl w

-- there is one: there are files, and they begin there
pub begins_at : (a : FoundRun) (i : ℕ) → begin_of a ≡ Some i → (a.count ≡ 0 → ⊥) × (a.from ≡ i)
unfolding begin_of
begins_at a i = go (eqb a.count 0) refl
  where
    go : (b : Bool) → eqb a.count 0 ≡ b → cond b None (Some a.from) ≡ Some i → (a.count ≡ 0 → ⊥) × (a.from ≡ i)
    go true t e = let w : true ≡ false = cc in clash refl w
    go false t e = let same : a.from ≡ i = cc in (eqb-false a.count 0 t, same)

-- ---- what a size pick starts with
-- the start file, not completed
abbrev start_found : Store → ℕ → Bool → Started
start_found s n d = started_by (places s n d) (starts_at s n d) (get_or s.files (starts_at s n d) past)

-- if there are places it is one file
started_one : (s : Store) (n : ℕ) (d : Bool) → (places s n d).lo < (places s n d).hi → start_found s n d ≡ record { start = Some (starts_at s n d); first = one_at s (starts_at s n d) }
unfolding started_by
started_one s n d k = rw (lt-ltb (places s n d).lo (places s n d).hi k)

-- if there are none it is nothing
started_none : (s : Store) (n : ℕ) (d : Bool) → (places s n d).hi ≤ (places s n d).lo → start_found s n d ≡ record { start = None; first = none_at (places s n d).hi }
unfolding started_by
started_none s n d k = rw (le-ltb (places s n d).lo (places s n d).hi k)

module _ (s : Store) (q : StoreShape s) (h : well_store s ≡ true) (n : ℕ) (l : n < level_count) (d : Bool) where
  -- the place where the files end
  abbrev to : ℕ
  to = (places s n d).hi

  -- if work is due it is the level's end
  to_is : d ≡ true → to ≡ end_at s n
  to_is e = ap (λ (p : Window). p.hi) (places_due s n d e)

  -- the file to start with can be completed
  found_takable : Takable s.files to (start_found s n d).first
  found_takable = go (ltb (places s n d).lo to) refl
    where
      go : (b : Bool) → ltb (places s n d).lo to ≡ b → Takable s.files to (start_found s n d).first
      go true t =
          let some_place = ltb-true (places s n d).lo to t in
          let begins = start_some s q h n l d some_place in
          subst (λ (z : Started). Takable s.files to z.first) (sym (started_one s n d some_place))
          (subst (λ (i : ℕ). Takable s.files i (one_at s (starts_at s n d))) (sym (to_is begins.is_due_lem)) (one_takable s q h n l (starts_at s n d) begins.least begins.below))
      go false t =
          subst (λ (z : Started). Takable s.files to z.first) (sym (started_none s n d (ltb-false (places s n d).lo to t))) (none_takable s.files to (start_places_room s q h n l d).0)

  module _ (r : FoundRun) where
    -- one file, completed
    starts_one : (places s n d).lo < to → Takes s.files (edge_question n to) true (one_at s (starts_at s n d)) r → Starts s n d (record { start = Some (starts_at s n d); first = r })
    unfolding edge_question one_found begin_of Option-to_list
    starts_one k g =
        let j = starts_at s n d in
        let fs = level (state_of s) n in
        let begins = start_some s q h n l d k in
        let taken : Takes s.files (edge_question n (end_at s n)) true (one_at s j) r = subst (λ (i : ℕ). Takes s.files (edge_question n i) true (one_at s j) r) (to_is begins.is_due_lem) g in
        let is = ap (λ (b : Bool). cond b (start_file (pointer (state_of s) n) fs) none) begins.is_due_lem ∙ begins.is in
        record {
          start = ap Some (sym g.starts) ∙ sym (rw (ne_eqb r.count 0 (one_some s q h n l j begins.least begins.below r taken)));
          known = one_known s q h n l j begins.least begins.below r taken;
          are = one_completed s q h n l j begins.least begins.below r taken ∙ ap (λ (o : Option File). completed_at n fs (Option-to_list o)) (sym is);
        }

    -- no files
    starts_none : to ≤ (places s n d).lo → Takes s.files (edge_question n to) true (none_at to) r → Starts s n d (record { start = None; first = r })
    unfolding edge_question none_at inputs_of begin_of Option-to_list
    starts_none k g =
        let fs = level (state_of s) n in
        let starts = g.starts in
        let fits = g.fits in
        let is = ap (λ (o : Option File). completed_at n fs (Option-to_list o)) (start_nothing s q h n l d k) ∙ completed_none n fs in
        record {
          start = sym (rw (eq-eqb r.count 0 (omega arith)));
          known = record { held = record { few = omega arith; below = omega (arith, start_places_held s q h n l d) }; sums = g.sums };
          are = run_ended r.from (r.from + r.count) s.files (omega arith) ∙ sym is;
        }

    -- a start, completed, is what the pick starts with
    abbrev Completes : Started → Type 0
    Completes z = Takes s.files (edge_question n to) true z.first r → Starts s n d (record { start = z.start; first = r })

    -- so it is with the file to start with
    found_completed : Completes (start_found s n d)
    found_completed = go (ltb (places s n d).lo to) refl
      where
        go : (b : Bool) → ltb (places s n d).lo to ≡ b → Completes (start_found s n d)
        go true t = let k = ltb-true (places s n d).lo to t in subst Completes (sym (started_one s n d k)) (starts_one k)
        go false t = let k = ltb-false (places s n d).lo to t in subst Completes (sym (started_none s n d k)) (starts_none k)

-- ---- the same step by step: the places, the first after the pointer, the place to start with, the file there, the start with it, the question of its edge
module _ (s : Store) (shape : StoreShape s) (h : well_store s ≡ true) (n : ℕ) (l : n < level_count) (d : Bool) (p : Window) (p_is : p ≡ places_of s.counts n d)
    (i : ℕ) (i_is : i ≡ first_after (key_of (get_or s.pointers n pastPointer).key) p s.files) (j : ℕ) (j_is : j ≡ start_among p (get_or s.pointers n pastPointer).set i) where
  -- the place to start with
  place_is : j ≡ starts_at s n d
  place_is = rw (j_is, i_is, p_is)

  -- it is within the room
  pub start_within : j < max_files
  start_within = rw place_is (start_place_within s shape h n l d)

  module _ (f : FileRecord) (f_is : f ≡ get_or s.files j past) (one : Started) (one_Found : one ≡ started_by p j f) (q : Question) (q_is : q ≡ edge_question n p.hi) where
    -- the start with the file there
    file_is : one ≡ start_found s n d
    file_is = rw (one_Found, f_is, place_is, p_is)

    -- the question of its edge
    edge_is : q ≡ edge_question n (places s n d).hi
    edge_is = rw (q_is, p_is)

    -- it can be completed
    pub start_takable : Takable s.files q.to one.first
    unfolding edge_question
    start_takable = rw (edge_is, file_is) (found_takable s shape h n l d)

    -- completed it is what the pick starts with
    pub start_completed : (a : FoundRun) → Takes s.files q true one.first a → Starts s n d (record { start = one.start; first = a })
    start_completed a g =
        let asked = subst (λ (x : Question). Takes s.files x true one.first a) edge_is g in
        let starts = found_completed s shape h n l d a (subst (λ (z : Started). Takes s.files (edge_question n (places s n d).hi) true z.first a) file_is asked) in
        subst (λ (z : Started). Starts s n d (record { start = z.start; first = a })) (sym file_is) starts
