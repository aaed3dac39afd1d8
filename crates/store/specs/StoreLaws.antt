-- Laws of the store: one state has one sound store, what well-formed says, and the answers of calls on a store. Assumes nothing.
use Rattle.std.specs.Prelude.{ℕ, ◌≡◌, ◌↔◌, Bool, false, ◌&&◌, ◌||◌, cond, get_or, replicate}
use Rattle.std.proofs.Math.Path.{refl, ap}
use Rattle.std.proofs.Common.{sym, ◌∙◌, arith, eq-eqb}
use Rattle.std.proofs.Math.Bool.{true}
use mathlib.Core.List.{List, [], ◌∷◌, map}
use Rattle.std.proofs.Math.Option.{Option, none, some}
use Rattle.std.proofs.Math.Dec.{eqb}
use Rattle.std.proofs.Math.ListN.{length, length-map, get_or-map}
use Rattle.lemmas.specs.Lists.{all, sum}
use Rattle.lemmas.specs.ListLaws.{and_left, and_right, and_true, both, all_in}
use Rattle.lemmas.specs.Maps.{all_both}
use Rattle.lemmas.specs.Slices.{put}
use Rattle.lemmas.specs.Each.{Each}
use Rattle.model.specs.Answer.{Answer, refused}
use Rattle.model.specs.Key.{good_key}
use Rattle.model.specs.File.{State, full, level, numbers, total, well_formed, good_files, good_pointer, good_counters, level_count, max_files}
use Rattle.model.proofs.Formed.{formed_says}
use Rattle.keys.specs.Key.{key_of, key_record, sound_key}
use Rattle.keys.specs.KeyLaws as key
use Rattle.counters.specs.Counters.{counters_of, counters_record}
use Rattle.records.specs.Record.{blank_key}
use Rattle.records.specs.RecordLaws.{blank_key_is}
use Rattle.records.specs.Run.{run}
use Rattle.levels.specs.Levels.{levels_of, laid_out, counts_of, sound_levels, well_levels}
use Rattle.levels.specs.LevelsLaws as levels
use Rattle.store.specs.declared.Pointer.{Pointer}
use Rattle.store.specs.declared.Store.{Store}
use Rattle.store.specs.Store.{pointer_of, pointer_record, sound_pointer, well_pointer, state_of, store_of, sound_store, well_store, look_of, numbered_of, on_store, PointerShaped, StoreShape}

-- ---- pointers

-- the pointer that is read past an array's end
abbrev pub past : Pointer
past = record { set = false; key = record { bytes = []; len = 0 } }

-- a sound pointer is the kept record of the pointer that it stands for
pub pointer_is_lem : (p : Pointer) → PointerShaped p → sound_pointer p ≡ true → p ≡ pointer_record (pointer_of p)
unfolding sound_pointer pointer_of pointer_record blank_key
pointer_is_lem p q h =
    let a = sound_key p.key in
    go p.set refl (and_left a (p.set || eqb p.key.len 0) h) (and_right a (p.set || eqb p.key.len 0) h)
  where
    go : (t : Bool) → p.set ≡ t → sound_key p.key ≡ true → (t || eqb p.key.len 0) ≡ true → p ≡ pointer_record (cond t (some (key_of p.key)) none)
    go true e s w = let k = key.sound_is p.key q s in λ i. record { set = e i; key = k i }
    go false e s w = let k = blank_key_is p.key q (both (eqb p.key.len 0) (sound_key p.key) w s) in λ i. record { set = e i; key = k i }

-- the test of a pointer, in its three cases
module _ (p : Pointer) where
  -- its key's record is not sound: not well-formed
  pub pointer_unsound : sound_key p.key ≡ false → well_pointer p ≡ false
  unfolding well_pointer sound_pointer
  pointer_unsound t = rw t

  -- it is set: its key decides
  pub pointer_set : sound_key p.key ≡ true → p.set ≡ true → well_pointer p ≡ good_key full.longest (key_of p.key)
  unfolding well_pointer sound_pointer pointer_of good_pointer
  pointer_set t e = rw (t, e)

  -- it is not set: its key has no bytes
  pub pointer_unset : sound_key p.key ≡ true → p.set ≡ false → well_pointer p ≡ eqb p.key.len 0
  unfolding well_pointer sound_pointer pointer_of good_pointer
  pointer_unset t e = rw (t, e) (and_true (eqb p.key.len 0))

-- the kept record of a good pointer
module _ (o : Option (List ℕ)) (g : good_pointer full o ≡ true) where
  -- it stands for the pointer
  pub pointer_of_record : pointer_of (pointer_record o) ≡ o
  unfolding pointer_of pointer_record good_pointer
  pointer_of_record = go o g
    where
      go : (o : Option (List ℕ)) → good_pointer full o ≡ true → pointer_of (pointer_record o) ≡ o
      go none g = refl
      go (some k) g = ap some (key.key_of_record k (key.good_length k g))

  -- it is sound
  pub pointer_record_sound : sound_pointer (pointer_record o) ≡ true
  unfolding sound_pointer pointer_record good_pointer key_record
  pointer_record_sound = go o g
    where
      go : (o : Option (List ℕ)) → good_pointer full o ≡ true → sound_pointer (pointer_record o) ≡ true
      go none g = both (sound_key (key_record [])) (eqb (key_record []).len 0) (key.record_sound [] (omega arith)) (eq-eqb (key_record []).len 0 refl)
      go (some k) g = both (sound_key (key_record k)) true (key.record_sound k (key.good_length k g)) refl

  -- its key has its room
  pub pointer_record_shaped : PointerShaped (pointer_record o)
  unfolding pointer_record good_pointer
  pointer_record_shaped = go o g
    where
      go : (o : Option (List ℕ)) → good_pointer full o ≡ true → PointerShaped (pointer_record o)
      go none g = key.key_record_length [] (omega arith)
      go (some k) g = key.key_record_length k (key.good_length k g)

-- the same for lists: sound pointers are kept records
pub pointers_are : (ps : List Pointer) → Each PointerShaped ps → all sound_pointer ps ≡ true → ps ≡ map pointer_record (map pointer_of ps)
unfolding all Each
pointers_are [] s h = refl
pointers_are (p ∷ ps) s h =
    cc (pointer_is_lem p s.0 (and_left (sound_pointer p) (all sound_pointer ps) h), pointers_are ps s.1 (and_right (sound_pointer p) (all sound_pointer ps) h))

-- the kept records of good pointers stand for them
pub pointers_of_records : (os : List (Option (List ℕ))) → all (good_pointer full) os ≡ true → map pointer_of (map pointer_record os) ≡ os
unfolding all
pointers_of_records [] h = refl
pointers_of_records (o ∷ os) h =
    rw (pointer_of_record o (and_left (good_pointer full o) (all (good_pointer full) os) h), pointers_of_records os (and_right (good_pointer full o) (all (good_pointer full) os) h))

-- they are sound
pub pointer_records_sound : (os : List (Option (List ℕ))) → all (good_pointer full) os ≡ true → all sound_pointer (map pointer_record os) ≡ true
unfolding all
pointer_records_sound [] h = refl
pointer_records_sound (o ∷ os) h =
    both (sound_pointer (pointer_record o)) (all sound_pointer (map pointer_record os)) (pointer_record_sound o (and_left (good_pointer full o) (all (good_pointer full) os) h))
    (pointer_records_sound os (and_right (good_pointer full o) (all (good_pointer full) os) h))

-- their keys have their room
pub pointer_records_shaped : (os : List (Option (List ℕ))) → all (good_pointer full) os ≡ true → Each PointerShaped (map pointer_record os)
unfolding all Each
pointer_records_shaped [] h = tt
pointer_records_shaped (o ∷ os) h =
    (pointer_record_shaped o (and_left (good_pointer full o) (all (good_pointer full) os) h), pointer_records_shaped os (and_right (good_pointer full o) (all (good_pointer full) os) h))

-- pointers are well-formed exactly if they are sound and what they stand for is good
pub pointers_well_is : (ps : List Pointer) → all well_pointer ps ≡ all sound_pointer ps && all (good_pointer full) (map pointer_of ps)
unfolding well_pointer
pointers_well_is ps = all_both sound_pointer (good_pointer full) pointer_of ps

-- ---- one state, one sound store

-- a sound store, part by part
pub record Sound (s : Store) : Type 0 where
  pub levels : sound_levels s.files s.counts ≡ true
  pub pointers : all sound_pointer s.pointers ≡ true

-- the test holds exactly if each part does
pub sound_says : (s : Store) → sound_store s ≡ true ↔ Sound s
unfolding sound_store
sound_says s =
    let a = sound_levels s.files s.counts in
    let b = all sound_pointer s.pointers in (λ h. record { levels = and_left a b h; pointers = and_right a b h }, λ t. both a b t.levels t.pointers)

-- a sound store is the store of its state
pub canonical : (s : Store) → StoreShape s → sound_store s ≡ true → s ≡ store_of (state_of s)
unfolding store_of state_of counters_of counters_record
canonical s q h =
    let t = (sound_says s).0 h in
    let l = levels.sound_is s.files s.counts q.files q.records t.levels in
    let p = pointers_are s.pointers q.keys t.pointers in
    λ i. record { files = l.0 i; counts = l.1 i; pointers = p i; counters = s.counters }

-- two sound stores of one state are equal
pub two_outcomes : (s s' : Store) → StoreShape s → StoreShape s' → sound_store s ≡ true → sound_store s' ≡ true → state_of s ≡ state_of s' → s ≡ s'
two_outcomes s s' q q' h h' e = canonical s q h ∙ ap store_of e ∙ sym (canonical s' q' h')

-- a well-formed state
module _ (t : State) (h : well_formed full t ≡ true) where
  -- its levels fit an array
  fits : levels.Fits t.files
  unfolding well_formed
  fits =
      let a = good_files full t.files in
      let b = eqb (length t.pointers) full.levels in
      let c = all (good_pointer full) t.pointers in
      let d = good_counters t.counters in
      ((levels.good_says t.files).0 (and_left a b (and_left (a && b) c (and_left (a && b && c) d h)))).fits

  -- its pointers are good
  good_pointers : all (good_pointer full) t.pointers ≡ true
  good_pointers = (all_in (good_pointer full) t.pointers).1 ((formed_says full t).0 h).pointers

  -- its store stands for it and is sound
  pub held : (state_of (store_of t) ≡ t) × (sound_store (store_of t) ≡ true)
  unfolding store_of state_of sound_store counters_of counters_record
  held =
      let l = levels.held_levels t.files fits in
      let p = pointers_of_records t.pointers good_pointers in (
        λ i. record { files = l i; pointers = p i; counters = t.counters },
        both (sound_levels (laid_out t.files) (counts_of t.files)) (all sound_pointer (map pointer_record t.pointers)) (levels.sound_laid t.files fits) (pointer_records_sound t.pointers good_pointers),
      )

  -- its store's arrays have their lengths
  pub held_shape : StoreShape (store_of t)
  unfolding store_of counts_of full
  held_shape =
      let w = (formed_says full t).0 h in
      record {
        files = levels.laid_length t.files fits;
        records = levels.laid_shaped t.files fits;
        counts = length-map t.files length ∙ w.levels;
        pointers = length-map t.pointers pointer_record ∙ w.pointer_levels;
        keys = pointer_records_shaped t.pointers good_pointers;
      }

  -- its store is well-formed
  pub held_well : well_store (store_of t) ≡ true
  unfolding well_store
  held_well = both (sound_store (store_of t)) (well_formed full (state_of (store_of t))) held.1 (rw held.0 h)

-- ---- well-formed stores

-- a well-formed store, part by part
pub record Well (s : Store) : Type 0 where
  pub sound : sound_store s ≡ true
  pub formed : well_formed full (state_of s) ≡ true

-- the test holds exactly if each part does
pub well_says : (s : Store) → well_store s ≡ true ↔ Well s
unfolding well_store
well_says s =
    let a = sound_store s in
    let b = well_formed full (state_of s) in (λ h. record { sound = and_left a b h; formed = and_right a b h }, λ w. both a b w.sound w.formed)

-- the parts of the test in the order in which code tests them
regroup : (l p g n q c : Bool) → n ≡ true → (l && p) && (g && n && q && c) ≡ c && (p && q) && (l && g)
regroup l p g n q c e = rw e (go l p g q c)
  where
    go : (l p g q c : Bool) → (l && p) && (g && true && q && c) ≡ c && (p && q) && (l && g)
    go true true true true true = refl
    go true true true true false = refl
    go true true true false true = refl
    go true true true false false = refl
    go true true false true true = refl
    go true true false true false = refl
    go true true false false true = refl
    go true true false false false = refl
    go true false g true true = refl
    go true false g true false = refl
    go true false g false true = refl
    go true false g false false = refl
    go false true g true true = refl
    go false true g true false = refl
    go false true g false true = refl
    go false true g false false = refl
    go false false g true true = refl
    go false false g true false = refl
    go false false g false true = refl
    go false false g false false = refl

-- a store is well-formed exactly if its counters, pointers and levels are
pub well_is : (s : Store) → length s.pointers ≡ level_count
    → well_store s ≡ good_counters (counters_of s.counters) && all well_pointer s.pointers && well_levels s.files s.counts
unfolding well_store sound_store well_formed well_levels state_of full
well_is s q =
    let seven : eqb (length (map pointer_of s.pointers)) level_count ≡ true = eq-eqb (length (map pointer_of s.pointers)) level_count (length-map s.pointers pointer_of ∙ q) in
    rw (pointers_well_is s.pointers)
    (regroup (sound_levels s.files s.counts) (all sound_pointer s.pointers) (good_files full (levels_of s.files s.counts)) (eqb (length (map pointer_of s.pointers)) level_count)
    (all (good_pointer full) (map pointer_of s.pointers)) (good_counters (counters_of s.counters)) seven)

-- the levels of a well-formed store are well-formed
pub well_levels_lem : (s : Store) → well_store s ≡ true → well_levels s.files s.counts ≡ true
unfolding well_levels well_formed state_of
well_levels_lem s h =
    let w = (well_says s).0 h in
    let g = good_files full (levels_of s.files s.counts) in
    let p = eqb (length (map pointer_of s.pointers)) full.levels in
    let q = all (good_pointer full) (map pointer_of s.pointers) in
    let c = good_counters (counters_of s.counters) in
    both (sound_levels s.files s.counts) g ((sound_says s).0 w.sound).levels (and_left g p (and_left (g && p) q (and_left (g && p && q) c w.formed)))

-- each of its levels has as many files as its count says
pub level_count_lem : (s : Store) → well_store s ≡ true → length s.files ≡ max_files → (l : ℕ) → get_or s.counts l 0 ≡ length (level (state_of s) l)
unfolding state_of level counts_of
level_count_lem s h q l =
    let room = ((levels.well_says s.files s.counts).0 (well_levels_lem s h)).sound.room in
    sym (ap (λ (ns : List ℕ). get_or ns l 0) (levels.counts_of_levels s.files s.counts (omega arith)))
    ∙ get_or-map length (levels_of s.files s.counts) l []

-- one look at a well-formed store gives true and the bytes of its levels
pub look_bytes : (s : Store) → well_store s ≡ true → length s.files ≡ max_files → ((look_of s).well ≡ true) × ((look_of s).bytes ≡ map total (levels_of s.files s.counts))
unfolding look_of
look_bytes s h q = (h, levels.survey_bytes s.files s.counts q (well_levels_lem s h))

-- and the numbers of its files
pub look_numbers : (s : Store) → well_store s ≡ true → length s.files ≡ max_files
    → ((numbered_of s).numbers ≡ put (replicate max_files 0) 0 (numbers (run 0 (sum s.counts) s.files))) × ((numbered_of s).total ≡ sum s.counts)
unfolding numbered_of
look_numbers s h q = levels.survey_numbers s.files s.counts q (well_levels_lem s h)

-- ---- calls on a store

-- a call on a well-formed store gives its answer for the state
pub on_store_well : {A : Type 0} (s : Store) (call : State → Answer A) → well_store s ≡ true → on_store s call ≡ call (state_of s)
unfolding on_store
on_store_well s call h = rw ((well_says s).0 h).sound

-- a call that refuses an ill-formed state with 14 refuses an ill-formed store with 14
pub on_store_ill : {A : Type 0} (s : Store) (call : State → Answer A) → (well_formed full (state_of s) ≡ false → call (state_of s) ≡ refused 14) → well_store s ≡ false
    → on_store s call ≡ refused 14
unfolding on_store well_store
on_store_ill {A} s call k h = go (sound_store s) h
  where
    go : (t : Bool) → (t && well_formed full (state_of s)) ≡ false → ◌≡◌ {A = Answer A} (cond t (call (state_of s)) (refused 14)) (refused 14)
    go true e = k e
    go false e = refl
