-- Bytes are a list exactly if their three sections are right and nothing follows. Assumes nothing.
use Rattle.std.specs.Prelude.{ℕ, ◌≤◌, ◌<◌, ◌≡◌, ◌⊎◌, Bool, ◌&&◌, drop}
use Rattle.std.proofs.Math.Path.{refl, sym, ap}
use Rattle.std.proofs.Common.{◌∙◌, inl, inr, arith, eqb-true}
use Rattle.std.proofs.Math.Bool.{true, false, cond}
use mathlib.Core.List.Memᴰ.{append_cases}
use mathlib.Core.List.{List, [], ◌∷◌, ◌++◌, append-nil, Memᴰ as In}
use Rattle.std.proofs.Math.Option.{Option, none, some}
use Rattle.std.proofs.lemmas.Bool.{eqb-false}
use Rattle.std.proofs.Math.Dec.{eqb}
use Rattle.std.proofs.Math.ListN.{length}
use Rattle.std.proofs.Math.Pow.{are_bytes}
use Rattle.std.proofs.Math.Seq.{drop-length}
use Rattle.lemmas.specs.ListLaws.{and_left, and_right, sub_keep, sub_chain}
use Rattle.lemmas.specs.Lists.{chain, is_empty}
use Rattle.lemmas.specs.Order.{clash}
use Rattle.lemmas.specs.Slices.{rest_cons}
use Rattle.model.specs.File.{full}
use Rattle.model.specs.Snapshot.{Read, section, same_bytes}
use Rattle.model.proofs.SnapshotLaws.{full_fits}
use Rattle.model.specs.Difference.{Difference, earlier, good_difference, good_list}
use Rattle.model.specs.DifferenceBytes.{section_of, section_at, write_difference, write_differences, read_differences, accept_list, decode_list}
use Rattle.model.proofs.DifferenceOrderLaws.{earlier_order}
use Rattle.model.proofs.DifferenceReadingLaws.{section_in, three_ordered, good_list_says, decode_list_sections, decode_list_sound}
use Rattle.snapshot_parse.specs.Parsing.{At}
use Rattle.patch_list.specs.List.{is_some, is_list}
use Rattle.patch_list.specs.Entries.{section_right, after_section, list_right}
use Rattle.patch_list.specs.EntryLaws.{rest_bytes, sure_files, sure_pointers, sure_counters}
use Rattle.patch_list.specs.RunLaws.{OfSection, RightSection, section_entries, section_right_lem, section_back}
use Rattle.patch_list.specs.CountLaws.{Gives, gives_few, section_files, section_pointers, section_counters, sections_few}

-- nothing is nothing
empty : (bs : List ℕ) → is_empty bs ≡ true → bs ≡ []
unfolding is_empty
empty [] h = refl
empty (b ∷ bs) h = clash h refl

-- ---- right sections are a list
-- three of them, one after another
module _ (bs cs ds : List ℕ) (a b c : List Difference) (u : RightSection 0 sure_files bs a) (v : RightSection 1 sure_pointers cs b) (w : RightSection 2 sure_counters ds c)
    (p : after_section 0 bs ≡ cs) (q : after_section 1 cs ≡ ds) (r : after_section 2 ds ≡ []) where
  -- all entries
  abbrev all : List Difference
  all = a ++ (b ++ c)

  -- the first are files
  files : (d : Difference) → In d a → section_of d ≡ 0
  files d m = (u.members d m).1

  -- then come pointers
  pointers : (d : Difference) → In d b → section_of d ≡ 1
  pointers d m = (v.members d m).1

  -- then counters
  counters : (d : Difference) → In d c → section_of d ≡ 2
  counters d m = (w.members d m).1

  -- they write these bytes
  three_written : write_differences all ≡ bs
  unfolding write_differences
  three_written =
      let x = section write_difference a in
      let y = section write_difference b in
      let z = section write_difference c in
      let last : z ≡ ds = sym (append-nil z) ∙ ap (λ (e : List ℕ). z ++ e) (sym r) ∙ w.written in
      let two : y ++ z ≡ cs = ap (λ (e : List ℕ). y ++ e) (last ∙ sym q) ∙ v.written in
      rw (section_files a b c files pointers counters, section_pointers a b c files pointers counters, section_counters a b c files pointers counters) (ap (λ (e : List ℕ). x ++ e) (two ∙ sym p) ∙ u.written)

  -- they are a good list
  three_good : good_list full all ≡ true
  three_good = (good_list_says full all).1 (λ d m. good d (append_cases a m), three_ordered a b c files pointers counters u.ordered v.ordered w.ordered)
    where
      later : (d : Difference) → In d b ⊎ In d c → good_difference full d ≡ true
      later d (inl m) = (v.members d m).0
      later d (inr m) = (w.members d m).0

      good : (d : Difference) → In d a ⊎ In d (b ++ c) → good_difference full d ≡ true
      good d (inl m) = (u.members d m).0
      good d (inr m) = later d (append_cases b m)

  -- so the bytes are read as them
  three_read : decode_list full bs ≡ some all
  three_read = ap (decode_list full) (sym three_written) ∙ decode_list_sections full full_fits all three_good (sections_few a b c files pointers counters 65536 u.few v.few w.few)

-- bytes whose three sections are right, with nothing after them
right_list : (bs : List ℕ) → are_bytes bs ≡ true → list_right bs ≡ true → (ds : List Difference) × (decode_list full bs ≡ some ds)
unfolding list_right
right_list bs h t =
    let cs = after_section 0 bs in
    let ds = after_section 1 cs in
    let a = section_entries 0 sure_files bs in
    let b = section_entries 1 sure_pointers cs in
    let c = section_entries 2 sure_counters ds in
    let end = is_empty (after_section 2 ds) in
    let t₁ = and_right (section_right 0 bs) (section_right 1 cs && (section_right 2 ds && end)) t in
    let t₂ = and_right (section_right 1 cs) (section_right 2 ds && end) t₁ in
    let u = section_right_lem 0 sure_files bs h (and_left (section_right 0 bs) (section_right 1 cs && (section_right 2 ds && end)) t) in
    let h₁ = rest_bytes (section write_difference a) cs bs u.written h in
    let v = section_right_lem 1 sure_pointers cs h₁ (and_left (section_right 1 cs) (section_right 2 ds && end) t₁) in
    let h₂ = rest_bytes (section write_difference b) ds cs v.written h₁ in
    let w = section_right_lem 2 sure_counters ds h₂ (and_left (section_right 2 ds) end t₂) in
    (a ++ (b ++ c), three_read bs cs ds a b c u v w refl refl (empty (after_section 2 ds) (and_right (section_right 2 ds) end t₂)))

-- ---- and a list's sections are right
-- entries that bytes are read as
module _ (bs : List ℕ) (h : are_bytes bs ≡ true) (ds : List Difference) (e : decode_list full bs ≡ some ds) where
  -- they are good and in order, and write the bytes
  sound : (good_list full ds ≡ true) × (write_differences ds ≡ bs)
  sound = decode_list_sound full bs ds e

  -- a section of them
  members : (s : ℕ) → OfSection s (section_at s ds)
  members s d m = let r = (section_in s ds d).0 m in (((good_list_says full ds).0 sound.0).0 d r.0, r.1)

  -- is in order
  ordered : (s : ℕ) → chain earlier (section_at s ds) ≡ true
  unfolding section_at
  ordered s = sub_chain earlier (λ d. Unit {0}) (λ x y z g. earlier_order.trans x y z) (λ d m. tt) (sub_keep (λ d. eqb (section_of d) s) ds) ((good_list_says full ds).0 sound.0).1

  -- and has not too many
  pub few : (s : ℕ) → length (section_at s ds) < 65536
  unfolding decode_list accept_list Gives
  few s = go (read_differences bs) refl e
    where
      pass : (r : Read (List Difference)) → read_differences bs ≡ some r → (t : Bool) → cond t (some r.value) none ≡ some ds → length (section_at s ds) < 65536
      pass r q true k =
          let z : r.value ≡ ds = cc in
          rw z at ((gives_few bs r h q).0 s)
      pass r q false k = let z : true ≡ false = cc in clash refl z

      go : (o : Option (Read (List Difference))) → read_differences bs ≡ o → accept_list full bs o ≡ some ds → length (section_at s ds) < 65536
      go none q k = let z : true ≡ false = cc in clash refl z
      go (some r) q k = pass r q (good_list full r.value && same_bytes (write_differences r.value) bs) k

  -- so its sections are right
  list_right_lem : list_right bs ≡ true
  unfolding list_right write_differences is_empty
  list_right_lem =
      let x = section write_difference (section_at 0 ds) in
      let y = section write_difference (section_at 1 ds) in
      let z = section write_difference (section_at 2 ds) in
      let u = section_back 0 sure_files (section_at 0 ds) (y ++ z) (members 0) (ordered 0) (few 0) in
      let v = section_back 1 sure_pointers (section_at 1 ds) z (members 1) (ordered 1) (few 1) in
      let w = section_back 2 sure_counters (section_at 2 ds) [] (members 2) (ordered 2) (few 2) in
      rw (← sound.1, u.0, u.1, v.0, v.1) (last z (append-nil z) w.0 w.1)
    where
      last : (z : List ℕ) → z ++ [] ≡ z → section_right 2 (z ++ []) ≡ true → after_section 2 (z ++ []) ≡ [] → (section_right 2 z && is_empty (after_section 2 z)) ≡ true
      last z q f g = rw (sym q, f, g)

-- ---- both together
-- bytes are a list exactly if their sections are right
pub list_is : (bs : List ℕ) → are_bytes bs ≡ true → list_right bs ≡ is_list bs
unfolding is_list is_some
list_is bs h = go (list_right bs) refl (decode_list full bs) refl
  where
    go : (b : Bool) → list_right bs ≡ b → (o : Option (List Difference)) → decode_list full bs ≡ o → b ≡ is_some o
    go true t (some ds) e = refl
    go true t none e = let r = right_list bs h t in let q : none ≡ some r.0 = sym e ∙ r.1 in let z : true ≡ false = cc in clash refl z
    go false t none e = refl
    go false t (some ds) e = clash (list_right_lem bs h ds e) t

-- ---- section by section
-- nothing is left exactly at the end
end_is : (src : List ℕ) (at : ℕ) → at ≤ length src → eqb at (length src) ≡ is_empty (drop at src)
unfolding is_empty
end_is src at h = go (eqb at (length src)) refl
  where
    go : (b : Bool) → eqb at (length src) ≡ b → b ≡ is_empty (drop at src)
    go true e = rw (eqb-true at (length src) e, drop-length src)
    go false e = rw (rest_cons src at 0 (omega (arith, eqb-false at (length src) e)))

module _ (src : List ℕ) (h : are_bytes src ≡ true) where
  -- the files are not right
  pub files_wrong : section_right 0 src ≡ false → false ≡ is_list src
  unfolding list_right
  files_wrong f = sym (sym (list_is src h) ∙ rw f)

  module _ (p : ℕ) (u : At src p (after_section 0 src)) (t : section_right 0 src ≡ true) where
    -- they are, and the pointers are not
    pub pointers_wrong : section_right 1 (drop p src) ≡ false → false ≡ is_list src
    unfolding list_right
    pointers_wrong f = sym (sym (list_is src h) ∙ rw (t, ← u.rest, f))

    module _ (q : ℕ) (v : At src q (after_section 1 (drop p src))) (t₁ : section_right 1 (drop p src) ≡ true) where
      -- they are, and the counters are not
      pub counters_wrong : section_right 2 (drop q src) ≡ false → false ≡ is_list src
      unfolding list_right
      counters_wrong f = sym (sym (list_is src h) ∙ rw (t, ← u.rest, t₁, ← v.rest, f))

      -- all are: nothing may follow
      pub list_ends : (e : ℕ) → At src e (after_section 2 (drop q src)) → section_right 2 (drop q src) ≡ true → eqb e (length src) ≡ is_list src
      unfolding list_right
      list_ends e w t₂ = end_is src e w.within ∙ sym (sym (list_is src h) ∙ rw (t, ← u.rest, t₁, ← v.rest, t₂, ← w.rest))
