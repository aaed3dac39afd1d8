-- Laws of the bytes that the controller records: the sections of an edit, how long an entry is, and its parts laid one after another. Assumes nothing.
use Prim.Native.Nat.{ℕ, suc, ◌+◌, ◌-◌, ◌*◌, ◌^◌, ◌≤◌, ◌<◌, min}
use Rattle.std.specs.Prelude.{◌≡◌, true, false, Option, None, Some, Result, Ok, Err}
use Rattle.std.proofs.Math.Path.{refl, sym, ap}
use Rattle.std.proofs.Common.{◌∙◌, mul-le-mul_right, drop_of_length-le, take_all}
use mathlib.Core.List.{List, [], ◌∷◌, ◌++◌, map, map-map, append_assoc, append-nil, Option-to_list}
use native.Mathlib.Omega.{arith}
use borrow.Author.Tests.{lt-ltb, le-ltb}
use Rattle.std.proofs.Math.ListN.{length, get_or, take, drop, replicate, length-append, length-take, get_or-append}
use Rattle.std.proofs.lemmas.List.{length-map}
use Rattle.std.proofs.Math.Seq.{get_or-take, take-append-add, drop-append_seam}
use Rattle.lemmas.specs.Lists.{join}
use Rattle.lemmas.specs.ListLaws.{joined_most}
use Rattle.lemmas.specs.Little.{bytes, bytes_length}
use Rattle.lemmas.specs.Slices.{put, put_front, length_put, rest_cons, take_map}
use Rattle.lemmas.specs.Merge.{front_laid}
use Rattle.lemmas.specs.Laying.{put_next, part_laid, part_length, none_laid, none_length}
use Rattle.model.specs.Answer.{gives, refused, lent}
use Rattle.model.specs.File.{full, max_pointers, max_deletions, max_additions, key_room, max_word}
use Rattle.model.specs.Counters.{CounterCall, new}
use Rattle.model.specs.Snapshot.{byte_long, count_long, number_long, write_key, write_file, section}
use Rattle.model.proofs.SnapshotLaws.{section_length, write_key_length}
use Rattle.model_replay.specs.Form.{Form, num, key_form, file_form, pair, shaped, only, many, tag}
use Rattle.model_replay.specs.Given.{Given}
use Rattle.model_replay.specs.Recording.{Asked, asks_size, asks_range, asks_count, trimmed, calls_long, setting_count, edit_tag, size_tag, range_tag, count_tag, new_tag, handed_tag, pointer_form, deletion_form, addition_form, log_form, edit_form, range_form, write_count, count_form, write_asked, asked_form, recorded_form, settings_form}
use Rattle.answers.specs.Outcome.{answer_of, filling}
use Rattle.answers.specs.declared.Refusal.{Refusal}
use Rattle.keys.specs.declared.Key.{Key}
use Rattle.keys.specs.declared.FileNumber.{FileNumber}
use Rattle.keys.specs.Key.{key_of, key_record}
use Rattle.keys.specs.KeyLaws.{key_of_length, key_of_record}
use Rattle.edit.specs.declared.Pointing.{Pointing}
use Rattle.edit.specs.declared.Deletion.{Deletion}
use Rattle.edit.specs.declared.Addition.{Addition}
use Rattle.edit.specs.declared.Edit.{Edit}
use Rattle.edit.specs.Edit.{entries, blank_pointing, blank_deletion, blank_addition, pointing_of, deletion_of, addition_of, log_of, edit_of}
use Rattle.edit.specs.EditLaws.{HasRoom, entries_length}
use Rattle.pick_answer.specs.declared.Picked.{Picked}
use Rattle.snapshot_parts.specs.LayingLaws.{write_file_parts, file_laid, section_laid}
use Rattle.replay_given.specs.Given.{said_by, plain_given, handed_given, picked_given, given_bytes, short_given, longest_given, can_tell}
use Rattle.replay_given.specs.GivenLaws.{tag_long, tag_laid, bare_long, bare_laid, numbered_long, numbered_laid, handed_is, plain_long, given_long, can_tell_says}
use Rattle.recorder.specs.declared.Counter.{Counter}
use Rattle.recorder.specs.declared.Counter.TheVariants.{Reuse, Mark, LastSequence, Manifest, PreviousLog}
use Rattle.recorder.specs.Recorder.{roomed, head_bytes, head, entry, counter_call, tag_of, pointers_bytes, deletions_bytes, additions_bytes, edit_bytes, pick_entry}

-- ---- lent output

module _ (bs : List ℕ) (room : ℕ) where
  -- the output is shorter: 13
  pub roomed_short : room < length bs → roomed bs room ≡ refused 13
  unfolding roomed
  roomed_short h = rw (lt-ltb room (length bs) h)

  -- else the bytes
  pub roomed_gives : length bs ≤ room → roomed bs room ≡ gives bs
  unfolding roomed
  roomed_gives h = rw (le-ltb room (length bs) h)

-- ---- the head

-- its parts: the count of settings, the two settings, the count of calls
pub head_is : (maximum place calls : ℕ) → bytes count_long setting_count ++ bytes number_long maximum ++ bytes number_long place ++ bytes calls_long calls ≡ head_bytes maximum place calls
unfolding head_bytes settings_form shaped only many num join
head_is maximum place calls = simp (append_assoc, append-nil)

-- it has 22 bytes
pub head_long_lem : (maximum place calls : ℕ) → length (head_bytes maximum place calls) ≡ 22
head_long_lem maximum place calls =
    let a = bytes count_long setting_count in
    let b = bytes number_long maximum in
    let c = bytes number_long place in
    omega (
      arith,
      sym (ap length (head_is maximum place calls)),
      length-append (a ++ b ++ c) (bytes calls_long calls),
      length-append (a ++ b) c,
      length-append a b,
      bytes_length 2 setting_count,
      bytes_length 8 maximum,
      bytes_length 8 place,
      bytes_length 4 calls,
    )

-- writing them one after another from the start on writes the head
pub head_laid : (maximum place calls : ℕ) (out o₁ o₂ o₃ o₄ : List ℕ) → 22 ≤ length out → o₁ ≡ put out 0 (bytes count_long setting_count) → o₂ ≡ put o₁ 2 (bytes number_long maximum) → o₃ ≡ put o₂ 10 (bytes number_long place)
    → o₄ ≡ put o₃ 18 (bytes calls_long calls) → o₄ ≡ head_bytes maximum place calls ++ drop (length (head_bytes maximum place calls)) out
head_laid maximum place calls out o₁ o₂ o₃ o₄ h e₁ e₂ e₃ e₄ =
    let a = bytes count_long setting_count in
    let b = bytes number_long maximum in
    let c = bytes number_long place in
    let la : length a ≡ 2 = bytes_length 2 setting_count in
    let lab : length (a ++ b) ≡ 10 = omega (arith, length-append a b, bytes_length 8 maximum) in
    let labc : length (a ++ b ++ c) ≡ 18 = omega (arith, length-append (a ++ b) c, bytes_length 8 place) in
    let two = put_next out o₁ o₂ 0 2 a b (omega arith) e₁ (omega arith) e₂ in
    let three = put_next out o₂ o₃ 0 10 (a ++ b) c (omega arith) two (omega arith) e₃ in
    let four = put_next out o₃ o₄ 0 18 (a ++ b ++ c) (bytes calls_long calls) (omega arith) three (omega arith) e₄ in
    four ∙ ap (put out 0) (head_is maximum place calls) ∙ put_front out (head_bytes maximum place calls)

module _ (maximum place calls room : ℕ) where
  -- the count of calls does not fit its bytes: 9
  pub head_many : 4294967295 < calls → head maximum place calls room ≡ refused 9
  unfolding head
  head_many h = rw (le-ltb calls (256 ^ calls_long) (omega arith))

  -- a place would be beyond 64 bits: 9
  pub head_far : calls ≤ 4294967295 → max_word < place + calls → head maximum place calls room ≡ refused 9
  unfolding head
  head_far h k = rw (lt-ltb calls (256 ^ calls_long) (omega arith), lt-ltb max_word (place + calls) k)

  -- else its bytes, as the output has room
  pub head_roomed : calls ≤ 4294967295 → place + calls ≤ max_word → head maximum place calls room ≡ roomed (head_bytes maximum place calls) room
  unfolding head
  head_roomed h k = rw (lt-ltb calls (256 ^ calls_long) (omega arith), le-ltb max_word (place + calls) k)

-- ---- lengths

-- the longest call of a manual pick
abbrev pub longest_range : ℕ
longest_range = byte_long + number_long + 2 * (byte_long + key_room)

-- the longest entry: such a call with the longest answer
abbrev pub longest_entry : ℕ
longest_entry = longest_range + longest_given

-- ---- keys

-- the record that is kept of a key
module _ (k r : Key) (e : r ≡ key_record (key_of k)) where
  -- it stands for the same key
  kept_same : key_of r ≡ key_of k
  kept_same = ap key_of e ∙ key_of_record (key_of k) (key_of_length k)

  -- it can be written where the key has room
  pub kept_fits : (at n : ℕ) → at + length (write_key (key_of k)) ≤ n → (r.len ≤ key_room) × (at + length (write_key (key_of r)) ≤ n)
  unfolding key_record
  kept_fits at n h =
      let l : r.len ≡ length (key_of k) = ap (λ (x : Key). x.len) e in
      (omega (arith, l, key_of_length k), rw kept_same h)

  -- writing it writes the key
  pub kept_laid : (o o' : List ℕ) (at next : ℕ) → (next ≡ at + length (write_key (key_of r))) × (o' ≡ put o at (write_key (key_of r)))
      → (next ≡ at + length (write_key (key_of k))) × (o' ≡ put o at (write_key (key_of k)))
  kept_laid o o' at next h = rw kept_same at h

-- ---- the entries of an edit, as they are recorded

-- of a list of entries: those of the array that the count names, and one blank one where it names more than the array has
module _ {A : Type 0} (room : ℕ) (blank : A) (count : ℕ) (l : List A) where
  -- the recorded entries
  abbrev pub recorded : List A
  recorded = take (suc room) (entries room blank count l)

  module _ (q : length l ≡ room) where
    -- how many they are
    pub recorded_count : length recorded ≡ min count (suc room)
    recorded_count = omega (arith, length-take (suc room) (entries room blank count l), entries_length room blank count l q)

    -- one that the array has, and those after it
    pub recorded_turn : (i : ℕ) (d : A) → i < min count room → drop i recorded ≡ get_or l i d ∷ drop (i + 1) recorded
    unfolding entries
    recorded_turn i d h =
        let es = take count l ++ replicate (count - room) blank in
        let here : get_or (take (suc room) es) i d ≡ get_or l i d =
        get_or-take (suc room) es i d (omega arith) ∙ get_or-append (take count l) (replicate (count - room) blank) d i (omega (arith, length-take count l)) ∙ get_or-take count l i d (omega arith) in
        rest_cons recorded i d (omega (arith, recorded_count)) ∙ ap (λ (x : A). x ∷ drop (i + 1) recorded) here

    -- past the array a blank one, if there are more
    pub recorded_last : room < count → drop room recorded ≡ blank ∷ []
    unfolding entries
    recorded_last h =
        let k = count - room - 1 in
        let more : count - room ≡ suc k = omega arith in
        let one : suc room ≡ length l + 1 = omega arith in
        rw (take_all count l (omega arith), more, one, take-append-add l (replicate (suc k) blank) 1, ← q) (drop-append_seam l (blank ∷ []))

    -- none is left
    pub recorded_over : (i : ℕ) → min count (suc room) ≤ i → drop i recorded ≡ []
    recorded_over i h = let k : length recorded ≤ i = omega (arith, recorded_count) in drop_of_length-le recorded k

-- a section of an edit: what is recorded of a list of entries, after its count
module _ {A B : Type 0} (w : Form B) (f : A → B) (room : ℕ) (blank : A) (count : ℕ) (l : List A) where
  -- its bytes
  abbrev pub section_bytes : List ℕ
  section_bytes = (many count_long w).write (take (suc room) (map f (entries room blank count l)))

  -- the bytes of its entries from place i on
  abbrev pub parts_from : ℕ → List (List ℕ)
  parts_from i = map w.write (map f (drop i (recorded room blank count l)))

  -- after i entries were written: writing the others gives the whole
  abbrev pub Lays : List ℕ → ℕ → List ℕ → ℕ → ℕ → Type 0
  Lays out₀ next₀ out next i =
      (i ≤ min count room) × (length out ≡ length out₀) × (next + length (join (parts_from i)) ≡ next₀ + length (join (parts_from 0))) × (put out next (join (parts_from i)) ≡ put out₀ next₀ (join (parts_from 0)))

  -- its bytes are those of a section with the recorded entries
  section_is : section w.write (map f (recorded room blank count l)) ≡ section_bytes
  unfolding section many
  section_is = rw (take_map f (suc room) (entries room blank count l))

  -- it takes two bytes and those of its entries
  pub parts_long : length section_bytes ≡ 2 + length (join (parts_from 0))
  parts_long = sym (ap length section_is) ∙ section_length w.write (map f (recorded room blank count l))

  -- with entries of at most c bytes it has at most 2 and c for each
  pub parts_most : length l ≡ room → (c : ℕ) → ((a : A) → length (w.write (f a)) ≤ c) → length section_bytes ≤ 2 + suc room * c
  parts_most q c h =
      let es = recorded room blank count l in
      let few : length es ≤ suc room = omega (arith, recorded_count room blank count l q) in
      omega (
        arith,
        parts_long,
        ap (λ (xs : List (List ℕ)). length (join xs)) (map-map w.write f es),
        joined_most (λ (a : A). w.write (f a)) c es (λ a m. h a),
        mul-le-mul_right c few,
      )

  -- its count is written, and the output has room for the whole
  module _ (q : length l ≡ room) (out o₁ : List ℕ) (at : ℕ) (r : at + length section_bytes ≤ length out) (e : o₁ ≡ put out at (bytes count_long (min count (suc room)))) where
    -- so it has for the entries
    entries_room : at + 2 + length (join (parts_from 0)) ≤ length o₁
    entries_room =
        let n = min count (suc room) in
        let two = bytes_length 2 n in
        omega (arith, parts_long, ap length e, length_put out at (bytes count_long n) (omega (arith, parts_long)))

    -- when all entries are written after it, the whole is written
    whole_laid : (o : List ℕ) (next : ℕ) → next ≡ at + 2 + length (join (parts_from 0)) → o ≡ put o₁ (at + 2) (join (parts_from 0)) → (next ≡ at + length section_bytes) × (o ≡ put out at section_bytes)
    whole_laid o next g k =
        let bs = map f (recorded room blank count l) in
        let size : min count (suc room) ≡ length bs = sym (length-map (recorded room blank count l) f ∙ recorded_count room blank count l q) in
        let fits : at + length (section w.write bs) ≤ length out = omega (arith, ap length section_is) in
        (omega (arith, parts_long), section_laid w.write bs out o₁ o at fits (e ∙ ap (λ (n : ℕ). put out at (bytes count_long n)) size) k ∙ ap (put out at) section_is)

    -- i entries are written
    module _ (o₂ : List ℕ) (next i : ℕ) (k : Lays o₁ (at + 2) o₂ next i) where
      -- an entry is the first of those that are left
      module _ (a : A) (rest : List A) (t : drop i (recorded room blank count l) ≡ a ∷ rest) where
        -- so are its bytes
        first_is : parts_from i ≡ w.write (f a) ∷ map w.write (map f rest)
        first_is = ap (λ (xs : List A). map w.write (map f xs)) t

        -- their length, and that of the others
        first_length : length (join (parts_from i)) ≡ length (w.write (f a)) + length (join (map w.write (map f rest)))
        first_length = part_length (w.write (f a)) (map w.write (map f rest)) (parts_from i) first_is

        -- the output has room for it
        first_room : next + length (w.write (f a)) ≤ length o₂
        first_room = omega (arith, entries_room, first_length, k.1, k.2)

        -- it is written: writing the others gives the whole
        first_laid : (o : List ℕ) (m : ℕ) → m ≡ next + length (w.write (f a)) → o ≡ put o₂ next (w.write (f a))
            → put o m (join (map w.write (map f rest))) ≡ put o₁ (at + 2) (join (parts_from 0))
        first_laid o m g h = part_laid (w.write (f a)) (map w.write (map f rest)) (parts_from i) first_is o₂ o next m first_room h g ∙ k.3

      -- the array has one more
      module _ (d : A) (h : i < min count room) where
        -- the output has room for it
        pub turn_room : next + length (w.write (f (get_or l i d))) ≤ length o₂
        turn_room = first_room (get_or l i d) (drop (i + 1) (recorded room blank count l)) (recorded_turn room blank count l q i d h)

        -- it is written: the same holds after one more
        pub turn_lays : (o : List ℕ) (m : ℕ) → m ≡ next + length (w.write (f (get_or l i d))) → o ≡ put o₂ next (w.write (f (get_or l i d))) → Lays o₁ (at + 2) o m (i + 1)
        turn_lays o m g p =
            let rest = drop (i + 1) (recorded room blank count l) in
            let t = recorded_turn room blank count l q i d h in (
              omega arith,
              ap length p ∙ length_put o₂ next (w.write (f (get_or l i d))) turn_room ∙ k.1,
              omega (arith, k.2, first_length (get_or l i d) rest t),
              first_laid (get_or l i d) rest t o m g p,
            )

      -- the array has no more, but the count names more
      module _ (z : min count room ≤ i) (h : i < min count (suc room)) where
        -- a blank one is left
        last_is : drop i (recorded room blank count l) ≡ blank ∷ []
        last_is =
            let n : i ≡ room = omega (arith, k.0) in
            rw n (recorded_last room blank count l q (omega arith))

        -- the output has room for it
        pub last_room : next + length (w.write (f blank)) ≤ length o₂
        last_room = first_room blank [] last_is

        -- it is written: so is the whole
        pub last_lays : (o : List ℕ) (m : ℕ) → m ≡ next + length (w.write (f blank)) → o ≡ put o₂ next (w.write (f blank)) → (m ≡ at + length section_bytes) × (o ≡ put out at section_bytes)
        last_lays o m g p =
            whole_laid o m (omega (arith, k.2, first_length blank [] last_is, none_length {A = ℕ} [] refl)) (sym (none_laid [] refl o m) ∙ first_laid blank [] last_is o m g p)

      -- the count names no more: the whole is written
      pub over_lays : min count (suc room) ≤ i → (next ≡ at + length section_bytes) × (o₂ ≡ put out at section_bytes)
      over_lays h =
          let over = ap (λ (xs : List A). map w.write (map f xs)) (recorded_over room blank count l q i h) in
          whole_laid o₂ next (omega (arith, k.2, none_length (parts_from i) over)) (sym (none_laid (parts_from i) over o₂ next) ∙ k.3)

-- ---- the bytes of an entry of an edit

-- a pointer: its level, then its key
module _ (p : Pointing) where
  -- its parts
  pointing_is : bytes number_long p.level ++ write_key (key_of p.key) ≡ pointer_form.write (pointing_of p)
  unfolding pointer_form shaped pair num key_form pointing_of
  pointing_is = refl

  -- how long it is
  pub pointing_long : length (pointer_form.write (pointing_of p)) ≡ 8 + length (write_key (key_of p.key))
  pointing_long = omega (arith, sym (ap length pointing_is), length-append (bytes number_long p.level) (write_key (key_of p.key)), bytes_length 8 p.level)

  -- at most 49 bytes
  pointing_most : length (pointer_form.write (pointing_of p)) ≤ 49
  pointing_most = omega (arith, pointing_long, write_key_length (key_of p.key), key_of_length p.key)

  -- writing them one after another writes the pointer
  pub pointing_laid : (out o₁ o₂ : List ℕ) (at : ℕ) → at + length (pointer_form.write (pointing_of p)) ≤ length out → o₁ ≡ put out at (bytes number_long p.level) → o₂ ≡ put o₁ (at + 8) (write_key (key_of p.key))
      → o₂ ≡ put out at (pointer_form.write (pointing_of p))
  pointing_laid out o₁ o₂ at h e₁ e₂ =
      let eight = bytes_length 8 p.level in
      put_next out o₁ o₂ at (at + 8) (bytes number_long p.level) (write_key (key_of p.key)) (omega (arith, pointing_long)) e₁ (omega arith) e₂ ∙ ap (put out at) pointing_is

-- a deletion: its level, then its number
module _ (d : Deletion) where
  -- its parts
  deletion_is : bytes number_long d.level ++ bytes number_long d.number.0 ≡ deletion_form.write (deletion_of d)
  unfolding deletion_form shaped pair num deletion_of
  deletion_is = refl

  -- it has 16 bytes
  pub deletion_long : length (deletion_form.write (deletion_of d)) ≡ 16
  deletion_long = omega (arith, sym (ap length deletion_is), length-append (bytes number_long d.level) (bytes number_long d.number.0), bytes_length 8 d.level, bytes_length 8 d.number.0)

  -- writing them one after another writes the deletion
  pub deletion_laid : (out o₁ o₂ : List ℕ) (at : ℕ) → at + length (deletion_form.write (deletion_of d)) ≤ length out → o₁ ≡ put out at (bytes number_long d.level) → o₂ ≡ put o₁ (at + 8) (bytes number_long d.number.0)
      → o₂ ≡ put out at (deletion_form.write (deletion_of d))
  deletion_laid out o₁ o₂ at h e₁ e₂ =
      let eight = bytes_length 8 d.level in
      put_next out o₁ o₂ at (at + 8) (bytes number_long d.level) (bytes number_long d.number.0) (omega (arith, deletion_long)) e₁ (omega arith) e₂ ∙ ap (put out at) deletion_is

-- an addition: its level, then its file
module _ (a : Addition) where
  -- its parts
  addition_is : bytes number_long a.level ++ write_file (addition_of a).file ≡ addition_form.write (addition_of a)
  unfolding addition_form shaped pair num file_form addition_of
  addition_is = refl

  -- how long it is
  pub addition_long : length (addition_form.write (addition_of a)) ≡ 24 + length (write_key (key_of a.smallest)) + length (write_key (key_of a.largest))
  unfolding addition_of
  addition_long = omega (
    arith,
    sym (ap length addition_is),
    length-append (bytes number_long a.level) (write_file (addition_of a).file),
    bytes_length 8 a.level,
    write_file_parts (addition_of a).file,
  )

  -- at most 106 bytes
  addition_most : length (addition_form.write (addition_of a)) ≤ 106
  addition_most = omega (
    arith,
    addition_long,
    write_key_length (key_of a.smallest),
    write_key_length (key_of a.largest),
    key_of_length a.smallest,
    key_of_length a.largest,
  )

  -- writing them one after another writes the addition
  pub addition_laid : (out o₁ o₂ o₃ o₄ o₅ : List ℕ) (at next : ℕ) → at + length (addition_form.write (addition_of a)) ≤ length out → o₁ ≡ put out at (bytes number_long a.level) → o₂ ≡ put o₁ (at + 8) (bytes number_long a.number.0)
      → o₃ ≡ put o₂ (at + 8 + 8) (bytes number_long a.size) → o₄ ≡ put o₃ (at + 8 + 16) (write_key (key_of a.smallest)) → next ≡ at + 8 + 16 + length (write_key (key_of a.smallest)) → o₅ ≡ put o₄ next (write_key (key_of a.largest))
      → o₅ ≡ put out at (addition_form.write (addition_of a))
  unfolding addition_of
  addition_laid out o₁ o₂ o₃ o₄ o₅ at next h e₁ e₂ e₃ e₄ e e₅ =
      let b = bytes number_long a.level in
      let g = (addition_of a).file in
      let eight = bytes_length 8 a.level in
      let size : length out ≡ length o₁ = sym (ap length e₁ ∙ length_put out at b (omega (arith, addition_long))) in
      let file = file_laid g o₁ o₂ o₃ o₄ o₅ (at + 8) next (omega (arith, addition_long, write_file_parts g)) e₂ e₃ e₄ e e₅ in
      put_next out o₁ o₅ at (at + 8) b (write_file g) (omega (arith, addition_long)) e₁ (omega arith) file ∙ ap (put out at) addition_is

-- the blank pointer, made with the blank key
pub blank_pointing_lem : (k : Key) → k ≡ key_record [] → ◌≡◌ {A = Pointing} (record { level = 0; key = k }) blank_pointing
unfolding blank_pointing
blank_pointing_lem k e = λ i. record { level = 0; key = e i }

-- the blank addition
pub blank_addition_lem : (k : Key) → k ≡ key_record [] → ◌≡◌ {A = Addition} (record { level = 0; number = record { 0 = 0 }; size = 0; smallest = k; largest = k }) blank_addition
unfolding blank_addition
blank_addition_lem k e = λ i. record { level = 0; number = record { 0 = 0 }; size = 0; smallest = e i; largest = e i }

-- ---- the log number

-- an edit that names none: a count of 0
module _ (n : Option FileNumber) (e : n ≡ None) where
  -- its bytes
  keeps_is : bytes count_long 0 ≡ log_form.write (log_of n)
  unfolding log_form shaped only many num log_of join Option-to_list
  keeps_is = rw e (sym (append-nil (bytes count_long 0)))

  -- two
  pub keeps_long : length (log_form.write (log_of n)) ≡ 2
  keeps_long = sym (ap length keeps_is) ∙ bytes_length 2 0

  -- writing them
  pub keeps_laid : (out o : List ℕ) (at : ℕ) → o ≡ put out at (bytes count_long 0) → o ≡ put out at (log_form.write (log_of n))
  keeps_laid out o at f = f ∙ ap (put out at) keeps_is

-- an edit that names one: a count of 1, then the number
module _ (n : Option FileNumber) (m : FileNumber) (e : n ≡ Some m) where
  -- its bytes
  becomes_is : bytes count_long 1 ++ bytes number_long m.0 ≡ log_form.write (log_of n)
  unfolding log_form shaped only many num log_of join Option-to_list
  becomes_is = rw e (ap (λ (xs : List ℕ). bytes count_long 1 ++ xs) (sym (append-nil (bytes number_long m.0))))

  -- ten
  pub becomes_long : length (log_form.write (log_of n)) ≡ 10
  becomes_long = omega (arith, sym (ap length becomes_is), length-append (bytes count_long 1) (bytes number_long m.0), bytes_length 2 1, bytes_length 8 m.0)

  -- writing count and number one after another writes them
  pub becomes_laid : (out o₁ o₂ : List ℕ) (at : ℕ) → at + 10 ≤ length out → o₁ ≡ put out at (bytes count_long 1) → o₂ ≡ put o₁ (at + 2) (bytes number_long m.0) → o₂ ≡ put out at (log_form.write (log_of n))
  becomes_laid out o₁ o₂ at h e₁ e₂ =
      let two = bytes_length 2 1 in
      put_next out o₁ o₂ at (at + 2) (bytes count_long 1) (bytes number_long m.0) (omega arith) e₁ (omega arith) e₂ ∙ ap (put out at) becomes_is

-- at most ten bytes
log_most : (n : Option FileNumber) → length (log_form.write (log_of n)) ≤ 10
log_most None = omega (arith, keeps_long None refl)
log_most (Some m) = omega (arith, becomes_long (Some m) m refl)

-- ---- an edit

module _ (e : Edit) where
  -- the section of its pointers
  pub pointers_are : section_bytes pointer_form pointing_of max_pointers blank_pointing e.pointing_count e.pointings ≡ pointers_bytes e
  unfolding trimmed full edit_of
  pointers_are = refl

  -- of its deletions
  pub deletions_are : section_bytes deletion_form deletion_of max_deletions blank_deletion e.deletion_count e.deletions ≡ deletions_bytes e
  unfolding trimmed full edit_of
  deletions_are = refl

  -- of its additions
  pub additions_are : section_bytes addition_form addition_of max_additions blank_addition e.addition_count e.additions ≡ additions_bytes e
  unfolding trimmed full edit_of
  additions_are = refl

  -- its bytes up to the pointers
  abbrev to_pointers : List ℕ
  to_pointers = bytes byte_long edit_tag ++ pointers_bytes e

  -- up to the deletions
  abbrev to_deletions : List ℕ
  to_deletions = to_pointers ++ deletions_bytes e

  -- up to the additions
  abbrev to_additions : List ℕ
  to_additions = to_deletions ++ additions_bytes e

  -- the whole: its tag, then four sections
  edit_is : to_additions ++ log_form.write (log_of e.log) ≡ edit_bytes e
  unfolding asked_form write_asked tag edit_form shaped pair trimmed edit_of
  edit_is = simp append_assoc

  -- a byte more than its pointers
  pointers_end : length to_pointers ≡ 1 + length (pointers_bytes e)
  pointers_end = omega (arith, length-append (bytes byte_long edit_tag) (pointers_bytes e), bytes_length 1 edit_tag)

  -- then those of its deletions
  deletions_end : length to_deletions ≡ 1 + length (pointers_bytes e) + length (deletions_bytes e)
  deletions_end = omega (arith, length-append to_pointers (deletions_bytes e), pointers_end)

  -- of its additions
  additions_end : length to_additions ≡ 1 + length (pointers_bytes e) + length (deletions_bytes e) + length (additions_bytes e)
  additions_end = omega (arith, length-append to_deletions (additions_bytes e), deletions_end)

  -- how long it is
  pub edit_long : length (edit_bytes e) ≡ 1 + length (pointers_bytes e) + length (deletions_bytes e) + length (additions_bytes e) + length (log_form.write (log_of e.log))
  edit_long = omega (arith, sym (ap length edit_is), length-append to_additions (log_form.write (log_of e.log)), additions_end)

  -- writing its parts one after another writes it
  pub edit_laid : (out o₁ o₂ o₃ o₄ o₅ : List ℕ) (at a b c next : ℕ) → at + length (edit_bytes e) ≤ length out
      → o₁ ≡ put out at (bytes byte_long edit_tag) → o₂ ≡ put o₁ (at + 1) (pointers_bytes e) → a ≡ at + 1 + length (pointers_bytes e)
      → o₃ ≡ put o₂ a (deletions_bytes e) → b ≡ a + length (deletions_bytes e) → o₄ ≡ put o₃ b (additions_bytes e) → c ≡ b + length (additions_bytes e)
      → o₅ ≡ put o₄ c (log_form.write (log_of e.log)) → next ≡ c + length (log_form.write (log_of e.log))
      → (next ≡ at + length (edit_bytes e)) × (o₅ ≡ put out at (edit_bytes e))
  edit_laid out o₁ o₂ o₃ o₄ o₅ at a b c next h e₁ e₂ f₂ e₃ f₃ e₄ f₄ e₅ f₅ =
      let one = bytes_length 1 edit_tag in
      let n = edit_long in
      let n₂ = pointers_end in
      let n₃ = deletions_end in
      let n₄ = additions_end in
      let l₂ = put_next out o₁ o₂ at (at + 1) (bytes byte_long edit_tag) (pointers_bytes e) (omega arith) e₁ (omega arith) e₂ in
      let l₃ = put_next out o₂ o₃ at a to_pointers (deletions_bytes e) (omega arith) l₂ (omega arith) e₃ in
      let l₄ = put_next out o₃ o₄ at b to_deletions (additions_bytes e) (omega arith) l₃ (omega arith) e₄ in
      let l₅ = put_next out o₄ o₅ at c to_additions (log_form.write (log_of e.log)) (omega arith) l₄ (omega arith) e₅ in
      (omega arith, l₅ ∙ ap (put out at) edit_is)

  -- with its result it is shorter than the longest entry
  pub edit_most : HasRoom e → (o : Result Unit ℕ) → length (edit_bytes e) + length (given_bytes (plain_given o)) ≤ longest_entry
  edit_most r o =
      let p = parts_most pointer_form pointing_of max_pointers blank_pointing e.pointing_count e.pointings r.pointings 49 pointing_most in
      let d = parts_most deletion_form deletion_of max_deletions blank_deletion e.deletion_count e.deletions r.deletions 16 (λ x. omega (arith, deletion_long x)) in
      let a = parts_most addition_form addition_of max_additions blank_addition e.addition_count e.additions r.additions 106 addition_most in
      omega (arith, edit_long, ap length pointers_are, ap length deletions_are, ap length additions_are, log_most e.log, plain_long o)

-- ---- picks and counter calls

-- a size pick: a tag
size_is : asked_form.write asks_size ≡ tag size_tag []
unfolding asked_form write_asked
size_is = refl

-- one byte
pub size_long : length (asked_form.write asks_size) ≡ 1
size_long = bare_long (asked_form.write asks_size) size_tag size_is

-- writing the tag writes it
pub size_laid : (own o : List ℕ) → o ≡ put own 0 (bytes byte_long size_tag) → o ≡ put own 0 (asked_form.write asks_size)
size_laid own o e = bare_laid (asked_form.write asks_size) size_tag size_is own o 0 e

-- a manual pick: its tag, level and range
module _ (level : ℕ) (a b : List ℕ) where
  -- its bytes up to the level
  abbrev to_level : List ℕ
  to_level = bytes byte_long range_tag ++ bytes number_long level

  -- its parts
  range_is : to_level ++ write_key a ++ write_key b ≡ asked_form.write (asks_range level a b)
  unfolding asked_form write_asked tag range_form pair num key_form
  range_is = simp append_assoc

  -- tag and level are nine bytes
  level_end : length to_level ≡ 9
  level_end = omega (arith, length-append (bytes byte_long range_tag) (bytes number_long level), bytes_length 1 range_tag, bytes_length 8 level)

  -- how long it is
  pub range_long : length (asked_form.write (asks_range level a b)) ≡ 9 + length (write_key a) + length (write_key b)
  range_long = omega (arith, sym (ap length range_is), length-append (to_level ++ write_key a) (write_key b), length-append to_level (write_key a), level_end)

  -- writing them one after another from the start on writes it
  pub range_laid : (own o₁ o₂ o₃ o₄ : List ℕ) (low : ℕ) → length (asked_form.write (asks_range level a b)) ≤ length own → o₁ ≡ put own 0 (bytes byte_long range_tag) → o₂ ≡ put o₁ 1 (bytes number_long level)
      → o₃ ≡ put o₂ 9 (write_key a) → low ≡ 9 + length (write_key a) → o₄ ≡ put o₃ low (write_key b) → o₄ ≡ put own 0 (asked_form.write (asks_range level a b))
  range_laid own o₁ o₂ o₃ o₄ low h e₁ e₂ e₃ f e₄ =
      let one = bytes_length 1 range_tag in
      let n = range_long in
      let nine = level_end in
      let l₂ = put_next own o₁ o₂ 0 1 (bytes byte_long range_tag) (bytes number_long level) (omega arith) e₁ (omega arith) e₂ in
      let l₃ = put_next own o₂ o₃ 0 9 to_level (write_key a) (omega arith) l₂ (omega arith) e₃ in
      let l₄ = put_next own o₃ o₄ 0 low (to_level ++ write_key a) (write_key b) (omega (arith, length-append to_level (write_key a))) l₃ (omega (arith, length-append to_level (write_key a))) e₄ in
      l₄ ∙ ap (put own 0) range_is

-- the range of two keys
pub keys_most : (level : ℕ) (a b : Key) → length (asked_form.write (asks_range level (key_of a) (key_of b))) ≤ longest_range
keys_most level a b = omega (arith, range_long level (key_of a) (key_of b), write_key_length (key_of a), write_key_length (key_of b), key_of_length a, key_of_length b)

-- a counter call: a tag, then the call
module _ (c : CounterCall) where
  -- its parts
  count_is : asked_form.write (asks_count c) ≡ tag count_tag (count_form.write c)
  unfolding asked_form write_asked
  count_is = refl

  -- a byte more than the call
  count_parts : length (asked_form.write (asks_count c)) ≡ 1 + length (count_form.write c)
  count_parts = ap length count_is ∙ tag_long count_tag (count_form.write c)

  -- writing them one after another from the start on writes it
  count_joined : (own o₁ o₂ : List ℕ) → length (asked_form.write (asks_count c)) ≤ length own → o₁ ≡ put own 0 (bytes byte_long count_tag) → o₂ ≡ put o₁ 1 (count_form.write c) → o₂ ≡ put own 0 (asked_form.write (asks_count c))
  count_joined own o₁ o₂ h e₁ e₂ =
      tag_laid count_tag (count_form.write c) own o₁ o₂ 0 (omega (arith, count_parts, tag_long count_tag (count_form.write c))) e₁ e₂ ∙ ap (put own 0) (sym count_is)

-- new is a tag
new_is : count_form.write new ≡ tag new_tag []
unfolding count_form write_count
new_is = refl

-- it takes two bytes
pub new_long : length (asked_form.write (asks_count new)) ≡ 2
new_long = omega (arith, count_parts new, bare_long (count_form.write new) new_tag new_is)

-- writing the two tags one after another from the start on writes it
pub new_laid : (own o₁ o₂ : List ℕ) → 2 ≤ length own → o₁ ≡ put own 0 (bytes byte_long count_tag) → o₂ ≡ put o₁ 1 (bytes byte_long new_tag) → o₂ ≡ put own 0 (asked_form.write (asks_count new))
new_laid own o₁ o₂ h e₁ e₂ = count_joined new own o₁ o₂ (omega (arith, new_long)) e₁ (bare_laid (count_form.write new) new_tag new_is o₁ o₂ 1 e₂)

-- another is its tag, then its number
numbered_is : (c : Counter) (n : ℕ) → count_form.write (counter_call c n) ≡ tag (tag_of c) (bytes number_long n)
unfolding count_form write_count counter_call tag_of num
numbered_is Reuse n = refl
numbered_is Mark n = refl
numbered_is LastSequence n = refl
numbered_is Manifest n = refl
numbered_is PreviousLog n = refl

-- the call with its number
module _ (c : Counter) (n : ℕ) where
  -- it takes ten bytes
  pub count_long_lem : length (asked_form.write (asks_count (counter_call c n))) ≡ 10
  count_long_lem = omega (arith, count_parts (counter_call c n), numbered_long (count_form.write (counter_call c n)) (tag_of c) number_long n (numbered_is c n))

  -- writing the two tags and the number one after another from the start on writes it
  pub count_laid : (own o₁ o₂ o₃ : List ℕ) → 10 ≤ length own → o₁ ≡ put own 0 (bytes byte_long count_tag) → o₂ ≡ put o₁ 1 (bytes byte_long (tag_of c)) → o₃ ≡ put o₂ 2 (bytes number_long n)
      → o₃ ≡ put own 0 (asked_form.write (asks_count (counter_call c n)))
  count_laid own o₁ o₂ o₃ h e₁ e₂ e₃ =
      let one = bytes_length 1 count_tag in
      let size : length o₁ ≡ length own = ap length e₁ ∙ length_put own 0 (bytes byte_long count_tag) (omega arith) in
      count_joined (counter_call c n) own o₁ o₃ (omega (arith, count_long_lem)) e₁
      (numbered_laid (count_form.write (counter_call c n)) (tag_of c) number_long n (numbered_is c n) o₁ o₂ o₃ 1 (omega arith) e₂ e₃)

-- ---- answers

-- the answer of new is no longer than a number handed out
pub handed_long : (o : Result FileNumber ℕ) → length (given_bytes (handed_given o)) ≤ short_given
unfolding said_by
handed_long (Ok n) = omega (arith, numbered_long (given_bytes (handed_given (Ok n))) handed_tag number_long n.0 (handed_is (Ok n) n refl))
handed_long (Err r) = plain_long (Err r)

-- the answer of a pick that can be kept is no longer than the longest
pub told_long : (o : Result Picked ℕ) → can_tell o ≡ true → length (given_bytes (picked_given o)) ≤ longest_given
unfolding said_by
told_long (Ok c) h = given_long c (can_tell_says (Ok c) c refl h).0
told_long (Err r) h = omega (arith, plain_long (Err r))

-- ---- entries

-- a call and its answer
module _ (a : Asked) (g : Given) where
  -- its bytes
  abbrev pub entry_bytes : List ℕ
  entry_bytes = recorded_form.write (record { asked = a; answer = g })

  -- those of the call, then those of the answer
  entry_is : asked_form.write a ++ given_bytes g ≡ entry_bytes
  unfolding recorded_form shaped pair
  entry_is = refl

  -- the answer written after the call in room of their own: the bytes before the end are the entry
  pub entry_laid : (own o₁ o₂ : List ℕ) (m n : ℕ) → length (asked_form.write a) + length (given_bytes g) ≤ length own → o₁ ≡ put own 0 (asked_form.write a) → m ≡ length (asked_form.write a)
      → o₂ ≡ put o₁ m (given_bytes g) → n ≡ m + length (given_bytes g) → take (n - 0) o₂ ≡ entry_bytes
  entry_laid own o₁ o₂ m n h e f k p =
      let both_long = length-append (asked_form.write a) (given_bytes g) in
      let laid = put_next own o₁ o₂ 0 m (asked_form.write a) (given_bytes g) (omega arith) e (omega arith) k in
      front_laid own o₂ (asked_form.write a ++ given_bytes g) (n - 0) (omega arith) laid ∙ entry_is

  -- handing out these bytes is handing out the entry
  pub entry_said : (bs out o : List ℕ) (r : Result ℕ Refusal) → bs ≡ entry_bytes → (answer_of r ≡ filling (roomed bs (length out))) × (o ≡ lent (roomed bs (length out)) out)
      → (answer_of r ≡ filling (entry a g (length out))) × (o ≡ lent (entry a g (length out)) out)
  unfolding entry
  entry_said bs out o r e h = rw e at h

-- a pick
module _ (a : Asked) (o : Result Picked ℕ) where
  -- its answer cannot be kept: 14
  pub pick_ill : (room : ℕ) → can_tell o ≡ false → pick_entry a o room ≡ refused 14
  unfolding pick_entry
  pick_ill room h = rw h

  -- else handing out these bytes is handing out the entry
  pub pick_said : can_tell o ≡ true → (bs out o' : List ℕ) (r : Result ℕ Refusal) → bs ≡ entry_bytes a (picked_given o) → (answer_of r ≡ filling (roomed bs (length out))) × (o' ≡ lent (roomed bs (length out)) out)
      → (answer_of r ≡ filling (pick_entry a o (length out))) × (o' ≡ lent (pick_entry a o (length out)) out)
  unfolding pick_entry
  pick_said t bs out o' r e h = rw t (entry_said a (picked_given o) bs out o' r e h)
