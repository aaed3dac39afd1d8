-- Laws of the search for the file to start with: turn by turn, the place that it finds, and the file there. Assumes nothing.
use Rattle.std.specs.Prelude.{ℕ, ◌+◌, ◌-◌, ◌≤◌, ◌<◌, min, ◌≡◌, Bool, ◌&&◌, ltb, length}
use Rattle.std.proofs.Math.Path.{refl, sym, ap}
use Rattle.std.proofs.Common.{◌∙◌}
use Rattle.std.proofs.Math.Bool.{true, false, cond}
use mathlib.Core.List.Memᴰ.{head as here}
use mathlib.Core.List.{List, [], ◌∷◌, map, map-map, Memᴰ as In}
use Rattle.std.proofs.Math.Option
use Rattle.std.proofs.Math.Option.{Option, none, some, or_else}
use native.Mathlib.Omega.{arith}
use borrow.Author.Tests.{ltb-true, ltb-false, lt-ltb, le-ltb}
use Rattle.std.proofs.Math.ListN.{get_or}
use Rattle.std.proofs.Math.Seq.{slice}
use Rattle.lemmas.specs.Order.{clash}
use Rattle.lemmas.specs.Lists.{find, sum, up_from}
use Rattle.lemmas.specs.ListLaws.{find_some, up_from_in}
use Rattle.lemmas.specs.Loops.{find_here, find_later}
use Rattle.lemmas.specs.Maps.{find_map}
use Rattle.lemmas.specs.Slices.{get_or_map, take_drop}
use Rattle.lemmas.specs.UpFrom.{up_from_turn, up_from_end, up_from_run}
use Rattle.model.specs.Key.{Key, before}
use Rattle.model.specs.File.{File, level, pointer, level_count, max_files}
use Rattle.model.specs.Pick.{first_file, start_file}
use Rattle.keys.specs.Key.{key_of}
use Rattle.records.specs.declared.FileRecord.{FileRecord}
use Rattle.records.specs.Record.{file_of, past}
use Rattle.records.specs.RecordLaws as record_laws
use Rattle.records.specs.Run.{run}
use Rattle.store.specs.declared.Pointer.{Pointer}
use Rattle.store.specs.declared.Store.{Store}
use Rattle.store.specs.Store.{pointer_of, state_of, well_store, StoreShape}
use Rattle.store.specs.StoreLaws.{past as pastPointer}
use Rattle.pick_found.specs.FoundRun.{file_at, start_at, end_at}
use Rattle.pick_found.specs.CallsLaws.{level_run_lem, level_ends, files_room}
use Rattle.bisect.specs.declared.Window.{Window}
use Rattle.pick_plan.specs.Starts.{first_place, start_place, start_in, places_of, nearer_by, place_or, first_after, start_among}

-- ---- the search, turn by turn
module _ (i to : ℕ) (files : List FileRecord) where
  -- the places from i on
  abbrev places_from : List ℕ
  places_from = up_from i (min to (length files) - i)

-- the file's largest key is after the key
abbrev is_after : Key → List FileRecord → ℕ → Bool
is_after k files i = before k (file_at files i).largest

module _ (k : Key) (i to : ℕ) (files : List FileRecord) where
  -- the file at i is after the key: it is found
  after_here : i < to → to ≤ length files → before k (key_of (get_or files i past).largest) ≡ true → find (is_after k files) (places_from i to files) ≡ some i
  unfolding file_at file_of
  after_here h g t = find_here (is_after k files) (places_from i to files) (places_from (i + 1) to files) i (up_from_turn i (min to (length files)) (omega arith)) t

  -- it is not: the search goes on
  after_later : i < to → to ≤ length files → before k (key_of (get_or files i past).largest) ≡ false
      → find (is_after k files) (places_from i to files) ≡ find (is_after k files) (places_from (i + 1) to files)
  unfolding file_at file_of
  after_later h g t = find_later (is_after k files) (places_from i to files) (places_from (i + 1) to files) i (up_from_turn i (min to (length files)) (omega arith)) t

  -- none is left
  after_none : to ≤ i → find (is_after k files) (places_from i to files) ≡ none
  unfolding find
  after_none h = rw (up_from_end i (min to (length files)) (omega arith))

-- the first place of a run that is not empty
first_is : (from to : ℕ) (files : List FileRecord) → from < to → to ≤ length files → first_place (places_from from to files) ≡ some from
unfolding first_place
first_is from to files h g = rw (up_from_turn from (min to (length files)) (omega arith))

module _ (p : Pointer) (from to : ℕ) (files : List FileRecord) where
  -- no files: no place
  start_none : to ≤ from → start_place (pointer_of p) from to files ≡ none
  unfolding start_place first_place find or_else
  start_none h = go (pointer_of p)
    where
      go : (o : Option Key) → start_place o from to files ≡ none
      go none = rw (up_from_end from (min to (length files)) (omega arith))
      go (some k) = rw (up_from_end from (min to (length files)) (omega arith))

  -- no pointer: the first file
  start_unset : p.set ≡ false → from < to → to ≤ length files → start_place (pointer_of p) from to files ≡ some from
  unfolding start_place pointer_of
  start_unset e h g = rw e (first_is from to files h g)

  -- a file is after the pointer: its place
  start_after_lem : (i : ℕ) → p.set ≡ true → find (is_after (key_of p.key) files) (places_from from to files) ≡ some i → start_place (pointer_of p) from to files ≡ some i
  unfolding start_place pointer_of or_else
  start_after_lem i e f = rw (e, f)

  -- none is: the first file's place
  start_wraps : p.set ≡ true → from < to → to ≤ length files → find (is_after (key_of p.key) files) (places_from from to files) ≡ none → start_place (pointer_of p) from to files ≡ some from
  unfolding start_place pointer_of or_else
  start_wraps e h g f = rw (e, f) (first_is from to files h g)

-- ---- the file that it finds
-- the files at all places of a run are the run
all_places : (i e : ℕ) (files : List FileRecord) → map (file_at files) (places_from i e files) ≡ run i e files
unfolding run file_at
all_places i e files = go (ltb i m) refl
  where
    m : ℕ
    m = min e (length files)

    go : (t : Bool) → ltb i m ≡ t → map (λ j. file_of (get_or files j past)) (up_from i (m - i)) ≡ map file_of (slice i e files)
    go true t =
        let h = ltb-true i m t in
        let place : i + (m - i) ≡ m = omega arith in
        sym (map-map file_of (λ j. get_or files j past) (up_from i (m - i)))
        ∙ ap (map file_of) (up_from_run files past i (m - i) (omega arith) ∙ take_drop i (m - i) files ∙ ap (λ (k : ℕ). slice i k files) place)
        ∙ record_laws.run_room i e files (length files) refl
    go false t =
        let h = ltb-false i m t in
        ap (map (λ j. file_of (get_or files j past))) (up_from_end i m h) ∙ sym (record_laws.run_ended i m files h) ∙ record_laws.run_room i e files (length files) refl

-- the file at the first place is the first file
first_file_lem : (files : List FileRecord) (ps : List ℕ) → Option.map (file_at files) (first_place ps) ≡ first_file (map (file_at files) ps)
unfolding first_place first_file
first_file_lem files [] = refl
first_file_lem files (i ∷ ps) = refl

-- the file at the place found is the model's start file
start_is : (o : Option Key) (from to : ℕ) (files : List FileRecord) → Option.map (file_at files) (start_place o from to files) ≡ start_file o (run from to files)
unfolding start_place start_file or_else
start_is none from to files = first_file_lem files (places_from from to files) ∙ ap first_file (all_places from to files)
start_is (some k) from to files =
    let ps = places_from from to files in
    go (find (is_after k files) ps) (first_place ps)
    ∙ ap (λ (x : Option File). or_else x (Option.map (file_at files) (first_place ps))) (sym (find_map (file_at files) (λ f. before k f.largest) ps))
    ∙ ap (or_else (find (λ f. before k f.largest) (map (file_at files) ps))) (first_file_lem files ps)
    ∙ ap (λ (fs : List File). or_else (find (λ f. before k f.largest) fs) (first_file fs)) (all_places from to files)
  where
    go : (a b : Option ℕ) → Option.map (file_at files) (or_else a b) ≡ or_else (Option.map (file_at files) a) (Option.map (file_at files) b)
    go none b = refl
    go (some i) b = refl

-- the place found is one of the run
start_among_lem : (o : Option Key) (from to : ℕ) (files : List FileRecord) (i : ℕ) → to ≤ length files → start_place o from to files ≡ some i → (from ≤ i) × (i < to)
unfolding start_place first_place or_else
start_among_lem o from to files i g e =
    let b = (up_from_in from (min to (length files) - from) i).0 (among o e) in
    (b.0, omega arith)
  where
    first : (ps : List ℕ) → first_place ps ≡ some i → In i ps
    first [] z = let w : true ≡ false = cc in clash refl w
    first (j ∷ ps) z = let q : i ≡ j = cc in here q

    either : (k : Key) (a : Option ℕ) → find (is_after k files) (places_from from to files) ≡ a → or_else a (first_place (places_from from to files)) ≡ some i → In i (places_from from to files)
    either k none f z = first (places_from from to files) z
    either k (some j) f z = let q : j ≡ i = cc in (find_some (is_after k files) (places_from from to files) i (f ∙ ap some q)).1

    among : (o : Option Key) → start_place o from to files ≡ some i → In i (places_from from to files)
    among none z = first (places_from from to files) z
    among (some k) z = either k (find (is_after k files) (places_from from to files)) refl z

-- ---- at a level of a store
-- the file at the place found is the model's
start_file_lem : (s : Store) (n : ℕ) → n < length s.counts → n < length s.pointers → Option.map (file_at s.files) (start_in s n) ≡ start_file (pointer (state_of s) n) (level (state_of s) n)
unfolding start_in pointer state_of
start_file_lem s n c p =
    start_is (pointer_of (get_or s.pointers n pastPointer)) (start_at s n) (end_at s n) s.files
    ∙ ap (λ (fs : List File). start_file (pointer_of (get_or s.pointers n pastPointer)) fs) (sym (level_run_lem s n c))
    ∙ ap (λ (o : Option Key). start_file o (level (state_of s) n)) (sym (get_or_map pointer_of s.pointers n pastPointer none p))

-- ---- the place, step by step
-- after the first place is seen, the places that are left give the same answer
pub after_nearer : (k : Key) (p : Window) (files : List FileRecord) → p.lo < p.hi → p.hi ≤ length files
    → first_after k (nearer_by p (before k (key_of (get_or files p.lo past).largest))) files ≡ first_after k p files
unfolding first_after place_or nearer_by
after_nearer k p files h g = go (before k (key_of (get_or files p.lo past).largest)) refl
  where
    go : (b : Bool) → before k (key_of (get_or files p.lo past).largest) ≡ b → first_after k (nearer_by p b) files ≡ first_after k p files
    go true e = rw (after_none k p.lo p.lo files (omega arith), after_here k p.lo p.hi files h g e)
    go false e = rw (after_later k p.lo p.hi files h g e)

-- no place is left: the answer is the end of the places
pub after_ended : (k : Key) (p : Window) (files : List FileRecord) → p.hi ≤ p.lo → first_after k p files ≡ p.hi
unfolding first_after place_or
after_ended k p files h = rw (after_none k p.lo p.hi files h)

module _ (p : Window) (pointed : Bool) (i : ℕ) where
  -- no places: 0
  pub among_none : p.hi ≤ p.lo → start_among p pointed i ≡ 0
  unfolding start_among
  among_none h = rw (le-ltb p.lo p.hi h)

  -- the place that the search found
  pub among_found : p.lo < p.hi → pointed ≡ true → i < p.hi → start_among p pointed i ≡ i
  unfolding start_among
  among_found h e g = rw (lt-ltb p.lo p.hi h, e, lt-ltb i p.hi g)

  -- no pointer: the first place
  pub among_unset : p.lo < p.hi → pointed ≡ false → start_among p pointed i ≡ p.lo
  unfolding start_among
  among_unset h e = rw (lt-ltb p.lo p.hi h, e)

  -- none found: the first place
  pub among_wraps : p.lo < p.hi → p.hi ≤ i → start_among p pointed i ≡ p.lo
  unfolding start_among
  among_wraps h g = rw (lt-ltb p.lo p.hi h, le-ltb i p.hi g) (go pointed)
    where
      go : (b : Bool) → cond (b && false) i p.lo ≡ p.lo
      go true = refl
      go false = refl

-- this is the model's place to start with
steps_place : (z : Pointer) (p : Window) (files : List FileRecord) → p.lo < p.hi → p.hi ≤ length files
    → start_place (pointer_of z) p.lo p.hi files ≡ some (start_among p z.set (first_after (key_of z.key) p files))
unfolding first_after place_or
steps_place z p files h g = go z.set refl (find (is_after (key_of z.key) files) (places_from p.lo p.hi files)) refl
  where
    i : ℕ
    i = first_after (key_of z.key) p files

    go : (b : Bool) → z.set ≡ b → (o : Option ℕ) → find (is_after (key_of z.key) files) (places_from p.lo p.hi files) ≡ o
        → start_place (pointer_of z) p.lo p.hi files ≡ some (start_among p z.set i)
    go false e o f = start_unset z p.lo p.hi files e h g ∙ ap some (sym (among_unset p z.set i h e))
    go true e none f =
        let end : i ≡ p.hi = ap (place_or p.hi) f in
        start_wraps z p.lo p.hi files e h g f ∙ ap some (sym (among_wraps p z.set i h (omega arith)))
    go true e (some j) f =
        let found : i ≡ j = ap (place_or p.hi) f in
        let start = start_after_lem z p.lo p.hi files j e f in
        let within = start_among_lem (pointer_of z) p.lo p.hi files j g start in
        start ∙ ap some (sym found ∙ sym (among_found p z.set i h e (omega (arith, within.1))))

-- ---- where a size pick starts
module _ (s : Store) (n : ℕ) (d : Bool) where
  -- the places to start among
  abbrev pub places : Window
  places = places_of s.counts n d

  -- the place to start with
  abbrev pub starts_at : ℕ
  starts_at =
      let z = get_or s.pointers n pastPointer in
      start_among places z.set (first_after (key_of z.key) places s.files)

-- if work is due, the places are the level's
pub places_due : (s : Store) (n : ℕ) (d : Bool) → d ≡ true → places s n d ≡ record { lo = start_at s n; hi = end_at s n }
unfolding places_of
places_due s n d e = rw e

-- a place to start with: work is due, it is one of the level's, and the file there is the model's start file
pub record Begins (s : Store) (n : ℕ) (d : Bool) (j : ℕ) : Type 0 where
  pub is_due_lem : d ≡ true
  pub least : start_at s n ≤ j
  pub below : j < end_at s n
  pub is : start_file (pointer (state_of s) n) (level (state_of s) n) ≡ some (file_at s.files j)

module _ (s : Store) (q : StoreShape s) (h : well_store s ≡ true) (n : ℕ) (l : n < level_count) where
  -- the places of a level are in order and within the room
  pub start_places_room : (d : Bool) → ((places s n d).hi ≤ max_files) × ((places s n d).lo ≤ (places s n d).hi)
  unfolding places_of
  start_places_room true = (omega (arith, level_ends s n, files_room s n h), omega arith)
  start_places_room false = (omega arith, omega arith)

  -- they hold files
  pub start_places_held : (d : Bool) → (places s n d).hi ≤ sum s.counts
  unfolding places_of
  start_places_held true = level_ends s n
  start_places_held false = omega arith

  -- if there are places, a size pick begins at the one found
  pub start_some : (d : Bool) → (places s n d).lo < (places s n d).hi → Begins s n d (starts_at s n d)
  unfolding places_of start_in
  start_some false k = absurd (omega arith)
  start_some true k =
      let z = get_or s.pointers n pastPointer in
      let p = places s n true in
      let size = q.files in
      let counts = q.counts in
      let pointers = q.pointers in
      let place = steps_place z p s.files k (omega (arith, (start_places_room true).0)) in
      let within = start_among_lem (pointer_of z) p.lo p.hi s.files (starts_at s n true) (omega (arith, (start_places_room true).0)) place in
      record { is_due_lem = refl; least = within.0; below = within.1; is = sym (start_file_lem s n (omega arith) (omega arith)) ∙ ap (Option.map (file_at s.files)) place }

  -- if there are none, there is no file to start with, or no work is due
  pub start_nothing : (d : Bool) → (places s n d).hi ≤ (places s n d).lo → cond d (start_file (pointer (state_of s) n) (level (state_of s) n)) none ≡ none
  unfolding places_of start_in
  start_nothing false k = refl
  start_nothing true k =
      let counts = q.counts in
      let pointers = q.pointers in
      sym (start_file_lem s n (omega arith) (omega arith)) ∙ ap (Option.map (file_at s.files)) (start_none (get_or s.pointers n pastPointer) (start_at s n) (end_at s n) s.files k)

  -- the place to start with is within the room
  pub start_place_within : (d : Bool) → starts_at s n d < max_files
  start_place_within d = go (ltb (places s n d).lo (places s n d).hi) refl
    where
      go : (b : Bool) → ltb (places s n d).lo (places s n d).hi ≡ b → starts_at s n d < max_files
      go true t =
          let below = (start_some d (ltb-true (places s n d).lo (places s n d).hi t)).below in
          omega (arith, level_ends s n, files_room s n h)
      go false t =
          let z = get_or s.pointers n pastPointer in
          let none = among_none (places s n d) z.set (first_after (key_of z.key) (places s n d) s.files) (ltb-false (places s n d).lo (places s n d).hi t) in
          rw none (omega arith)
