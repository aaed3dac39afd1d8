-- Laws of edits by value: the entries that a record holds, and one entry more. Assumes nothing.
use Rattle.std.specs.Prelude.{ℕ, ◌+◌, ◌-◌, ◌≤◌, ◌<◌, ◌≡◌, refl, Bool, true, false, not, ◌&&◌, cond, List, [], ◌∷◌, ◌++◌, map, ltb, leb, length, take, set, replicate}
use Rattle.std.proofs.Common.{◌^◌, min, sym, ◌∙◌, append-nil, add-one, take-suc-set, ltb-true, ltb-false, leb-true, lt-ltb, le-leb}
use Rattle.std.proofs.Math.Path.{ap}
use Rattle.std.proofs.lemmas.List.{map-append}
use native.Mathlib.Omega.{arith}
use Rattle.std.proofs.Math.ListN.{length-append, length-take, length-map, length-set, length-replicate}
use Rattle.std.proofs.lemmas.Bool.{not-false}
use Rattle.lemmas.specs.ListLaws.{and_left, and_right}
use Rattle.model.specs.File.{full, max_additions, max_deletions, max_pointers, max_word}
use Rattle.model.specs.Edit as model
use Rattle.model.specs.Edit.{too_many, empty_edit}
use Rattle.edit.specs.declared.Deletion.{Deletion}
use Rattle.edit.specs.declared.Addition.{Addition}
use Rattle.edit.specs.declared.Pointing.{Pointing}
use Rattle.edit.specs.declared.Edit.{Edit}
use Rattle.edit.specs.Edit.{entries, blank_deletion, blank_addition, blank_pointing, deletion_of, addition_of, pointing_of, log_of, edit_of, empty_record, one_more, with_deletion, with_addition, with_pointing}

-- the pointer that is read past the end of an edit's array
abbrev pub past_pointing : Pointing
past_pointing = record { level = 0; key = record { bytes = []; len = 0 } }

-- the deletion that is read past the end
abbrev pub past_deletion : Deletion
past_deletion = record { level = 0; number = record { 0 = 0 } }

-- the addition that is read past the end
abbrev pub past_addition : Addition
past_addition = record { level = 0; number = record { 0 = 0 }; size = 0; smallest = record { bytes = []; len = 0 }; largest = record { bytes = []; len = 0 } }

-- ---- the entries that a count names
module _ {A : Type 0} (room : ℕ) (blank : A) (count : ℕ) (l : List A) where
  -- there are as many as the count says
  pub entries_length : length l ≡ room → length (entries room blank count l) ≡ count
  unfolding entries
  entries_length q =
      omega (arith, length-append (take count l) (replicate (count - room) blank), length-take count l, length-replicate (count - room) blank)

  -- a count within the room: those of the array alone
  pub entries_in_lem : count ≤ room → entries room blank count l ≡ take count l
  unfolding entries
  entries_in_lem h = let z : count - room ≡ 0 = omega arith in rw z (append-nil (take count l))

-- one more than a count below the largest number is n + 1
pub one_more_in : (n : ℕ) → n < max_word → one_more n ≡ n + 1
unfolding one_more
one_more_in n h = rw (lt-ltb n max_word h)

-- a sum that stops at the largest number is one more
pub one_more_least : (n : ℕ) → n ≤ max_word → min (n + 1) (2 ^ 64 - 1) ≡ one_more n
unfolding one_more
one_more_least n h = go (ltb n max_word) refl
  where
    go : (t : Bool) → ltb n max_word ≡ t → min (n + 1) (2 ^ 64 - 1) ≡ cond t (n + 1) n
    go true e = let b = ltb-true n max_word e in omega arith
    go false e = let b = ltb-false n max_word e in omega arith

-- one more than a full count is beyond the room
pub one_more_past : (n room : ℕ) → room < max_word → room ≤ n → room < one_more n
unfolding one_more
one_more_past n room k h = go (ltb n max_word) refl
  where
    go : (t : Bool) → ltb n max_word ≡ t → room < cond t (n + 1) n
    go true e = omega arith
    go false e = omega (arith, ltb-false n max_word e)

-- one entry more within the room is appended
pub entries_more : {A : Type 0} (room : ℕ) (blank : A) (count : ℕ) (l : List A) (x : A) → room ≤ max_word → length l ≡ room → count < room
    → entries room blank (one_more count) (set l count x) ≡ entries room blank count l ++ (x ∷ [])
entries_more room blank count l x k q h =
    rw (one_more_in count (omega arith), entries_in_lem room blank (count + 1) (set l count x) (omega arith), entries_in_lem room blank count l (omega arith), add-one)
    (take-suc-set l count x (omega arith))

-- ---- the entries of an edit

-- its arrays have their room
pub record HasRoom (e : Edit) : Type 0 where
  pub pointings : length e.pointings ≡ max_pointers
  pub deletions : length e.deletions ≡ max_deletions
  pub additions : length e.additions ≡ max_additions

-- its counts are within the room
pub record Few (e : Edit) : Type 0 where
  pub pointings : e.pointing_count ≤ max_pointers
  pub deletions : e.deletion_count ≤ max_deletions
  pub additions : e.addition_count ≤ max_additions

module _ (e : Edit) (r : HasRoom e) where
  -- an edit has too many entries exactly if a count is beyond its room
  pub too_many_lem : too_many full (edit_of e) ≡ not (leb e.deletion_count max_deletions && leb e.addition_count max_additions && leb e.pointing_count max_pointers)
  unfolding too_many full edit_of
  too_many_lem =
      let a = length-map (entries max_deletions blank_deletion e.deletion_count e.deletions) deletion_of ∙ entries_length max_deletions blank_deletion e.deletion_count e.deletions r.deletions in
      let b = length-map (entries max_additions blank_addition e.addition_count e.additions) addition_of ∙ entries_length max_additions blank_addition e.addition_count e.additions r.additions in
      let c = length-map (entries max_pointers blank_pointing e.pointing_count e.pointings) pointing_of ∙ entries_length max_pointers blank_pointing e.pointing_count e.pointings r.pointings in
      rw (a, b, c)

  -- if not, the counts are within their rooms
  pub few : too_many full (edit_of e) ≡ false → Few e
  few h =
      let a = leb e.deletion_count max_deletions in
      let b = leb e.addition_count max_additions in
      let c = leb e.pointing_count max_pointers in
      let t : (a && b && c) ≡ true = not-false (a && b && c) (sym too_many_lem ∙ h) in
      record {
        pointings = leb-true e.pointing_count max_pointers (and_right (a && b) c t);
        deletions = leb-true e.deletion_count max_deletions (and_left a b (and_left (a && b) c t));
        additions = leb-true e.addition_count max_additions (and_right a b (and_left (a && b) c t));
      }

  -- and conversely
  pub enough : Few e → too_many full (edit_of e) ≡ false
  enough w = too_many_lem ∙ rw (le-leb e.deletion_count max_deletions w.deletions, le-leb e.addition_count max_additions w.additions, le-leb e.pointing_count max_pointers w.pointings)

  -- a count beyond its room: too many entries
  pub many : (Few e → ⊥) → too_many full (edit_of e) ≡ true
  many h = go (too_many full (edit_of e)) refl
    where
      go : (t : Bool) → too_many full (edit_of e) ≡ t → too_many full (edit_of e) ≡ true
      go true q = q
      go false q = absurd (h (few q))

-- within the room an edit's entries are those of its arrays
module _ (e : Edit) (w : Few e) where
  -- its pointers
  pub pointers_are : (edit_of e).pointers ≡ map pointing_of (take e.pointing_count e.pointings)
  unfolding edit_of
  pointers_are = ap (map pointing_of) (entries_in_lem max_pointers blank_pointing e.pointing_count e.pointings w.pointings)

  -- its deletions
  pub deletions_are : (edit_of e).deletions ≡ map deletion_of (take e.deletion_count e.deletions)
  unfolding edit_of
  deletions_are = ap (map deletion_of) (entries_in_lem max_deletions blank_deletion e.deletion_count e.deletions w.deletions)

  -- its additions
  pub additions_are : (edit_of e).additions ≡ map addition_of (take e.addition_count e.additions)
  unfolding edit_of
  additions_are = ap (map addition_of) (entries_in_lem max_additions blank_addition e.addition_count e.additions w.additions)

-- ---- the empty edit, and one entry more

-- the empty edit stands for the model's
pub empty_is : edit_of empty_record ≡ empty_edit
unfolding edit_of empty_record empty_edit entries log_of
empty_is = refl

-- its arrays have their room
pub empty_room : HasRoom empty_record
unfolding empty_record
empty_room = record { pointings = length-replicate max_pointers blank_pointing; deletions = length-replicate max_deletions blank_deletion; additions = length-replicate max_additions blank_addition }

-- the edit with one pointer more
unfoldable pub plus_pointer : model.Edit → model.Pointer → model.Edit
plus_pointer e q = record { pointers = e.pointers ++ (q ∷ []); deletions = e.deletions; additions = e.additions; log = e.log }

-- the edit with one deletion more
unfoldable pub plus_deletion : model.Edit → model.Deletion → model.Edit
plus_deletion e d = record { pointers = e.pointers; deletions = e.deletions ++ (d ∷ []); additions = e.additions; log = e.log }

-- the edit with one addition more
unfoldable pub plus_addition : model.Edit → model.Addition → model.Edit
plus_addition e a = record { pointers = e.pointers; deletions = e.deletions; additions = e.additions ++ (a ∷ []); log = e.log }

module _ (e : Edit) (r : HasRoom e) where
  -- after one pointer more the arrays keep their room
  pub pointing_room : (q : Pointing) → HasRoom (with_pointing e q)
  unfolding with_pointing
  pointing_room q = record { pointings = length-set e.pointings e.pointing_count q ∙ r.pointings; deletions = r.deletions; additions = r.additions }

  -- after one deletion more
  pub deletion_room : (d : Deletion) → HasRoom (with_deletion e d)
  unfolding with_deletion
  deletion_room d = record { pointings = r.pointings; deletions = length-set e.deletions e.deletion_count d ∙ r.deletions; additions = r.additions }

  -- after one addition more
  pub addition_room : (a : Addition) → HasRoom (with_addition e a)
  unfolding with_addition
  addition_room a = record { pointings = r.pointings; deletions = r.deletions; additions = length-set e.additions e.addition_count a ∙ r.additions }

  -- within the room a pointer is appended
  pub pointing_grows : (q : Pointing) → e.pointing_count < max_pointers → edit_of (with_pointing e q) ≡ plus_pointer (edit_of e) (pointing_of q)
  unfolding edit_of with_pointing plus_pointer
  pointing_grows q h =
      let n = e.pointing_count in
      rw (entries_more max_pointers blank_pointing n e.pointings q (omega arith) r.pointings h, map-append)

  -- within the room a deletion is appended
  pub deletion_grows : (d : Deletion) → e.deletion_count < max_deletions → edit_of (with_deletion e d) ≡ plus_deletion (edit_of e) (deletion_of d)
  unfolding edit_of with_deletion plus_deletion
  deletion_grows d h =
      let n = e.deletion_count in
      rw (entries_more max_deletions blank_deletion n e.deletions d (omega arith) r.deletions h, map-append)

  -- within the room an addition is appended
  pub addition_grows : (a : Addition) → e.addition_count < max_additions → edit_of (with_addition e a) ≡ plus_addition (edit_of e) (addition_of a)
  unfolding edit_of with_addition plus_addition
  addition_grows a h =
      let n = e.addition_count in
      rw (entries_more max_additions blank_addition n e.additions a (omega arith) r.additions h, map-append)

  -- beyond the room one pointer more is too many
  pub pointing_beyond : (q : Pointing) → max_pointers ≤ e.pointing_count → too_many full (edit_of (with_pointing e q)) ≡ true
  unfolding with_pointing
  pointing_beyond q h = many (with_pointing e q) (pointing_room q) (λ w. let a = w.pointings in omega (arith, one_more_past e.pointing_count max_pointers (omega arith) h))

  -- beyond the room one deletion more is too many
  pub deletion_beyond : (d : Deletion) → max_deletions ≤ e.deletion_count → too_many full (edit_of (with_deletion e d)) ≡ true
  unfolding with_deletion
  deletion_beyond d h = many (with_deletion e d) (deletion_room d) (λ w. let a = w.deletions in omega (arith, one_more_past e.deletion_count max_deletions (omega arith) h))

  -- beyond the room one addition more is too many
  pub addition_beyond : (a : Addition) → max_additions ≤ e.addition_count → too_many full (edit_of (with_addition e a)) ≡ true
  unfolding with_addition
  addition_beyond a h = many (with_addition e a) (addition_room a) (λ w. let b = w.additions in omega (arith, one_more_past e.addition_count max_additions (omega arith) h))
