-- Laws of answers in bytes: what each writes, how long it is, and its parts laid one after another. Assumes nothing.
use Rattle.std.specs.Prelude.{ℕ, ◌+◌, ◌-◌, ◌*◌, ◌≤◌, ◌<◌, ◌≡◌, refl, true, false, not, ◌&&◌, List, [], ◌∷◌, ◌++◌, map, T, Float, length, get_or, take, drop, Result, Ok, Err}
use Rattle.std.proofs.Math.Path.{sym, ap}
use Rattle.std.proofs.Common.{◌∙◌, append_assoc, append-nil, mul-le-mul_right, arith, eq-eqb, length-append, length-take-le, get_or-take}
use Rattle.std.proofs.lemmas.List.{map-append}
use Rattle.std.proofs.lemmas.Bool.{not-true}
use Rattle.std.specs.Float.{nan, inf, fin, binary64}
use Rattle.std.specs.Float.Ieee.{up, down, eq, is_nan, to_bits}
use Rattle.std.proofs.Math.Seq.{slice}
use Rattle.lemmas.specs.Lists.{all, join, sum}
use Rattle.lemmas.specs.ListLaws.{and_left, and_right, all_in, joined_most}
use Rattle.lemmas.specs.Little.{bytes, bytes_length}
use Rattle.lemmas.specs.Slices.{put, sum_turn, rest_cons, take_drop, length_view, join_append}
use Rattle.lemmas.specs.Merge.{all_at}
use Rattle.lemmas.specs.Laying.{put_next, part_length}
use Rattle.model.specs.Answer.{gives, refused}
use Rattle.model.specs.File.{File, full, in_order, levelwise, good_file, max_files, key_room}
use Rattle.model.specs.Pick.{good_picked}
use Rattle.model.specs.Snapshot.{byte_long, count_long, number_long, file_long, write_file, section}
use Rattle.model.proofs.SnapshotLaws.{section_length, file_most}
use Rattle.model_replay.specs.Form.{num, file_form, pair, shaped, many, tag}
use Rattle.model_replay.specs.Given.{Said, accepted, picked, choice_of, why_of}
use Rattle.model_replay.specs.Recording.{scored_tag, by_hand_tag, accepted_tag, handed_tag, picked_tag, refused_tag, write_why, why_form, choice_form, write_given, given_form}
use Rattle.keys.specs.declared.FileNumber.{FileNumber}
use Rattle.records.specs.declared.FileRecord.{FileRecord}
use Rattle.records.specs.Record.{file_of, well_record, is_blank, past}
use Rattle.records.specs.RecordLaws.{AllWords}
use Rattle.records.specs.Run.{run}
use Rattle.levels.specs.Levels.{levels_of}
use Rattle.levels.specs.LevelsLaws.{levels_turn, levels_over_lem}
use Rattle.pick_answer.specs.declared.Cause.{Cause}
use Rattle.pick_answer.specs.declared.Cause.TheVariants.{Size, Manual}
use Rattle.pick_answer.specs.declared.Picked.{Picked}
use Rattle.pick_answer.specs.Picked.{cause_of, counts_in, lists_in, picked_of, three_lists, sound_picked, well_picked, framed, as_levels, distinct_lists}
use Rattle.pick_answer.specs.PickedLaws.{three, fits, sum_is, well_room, well_is}
use Rattle.snapshot_parts.specs.LayingLaws.{section_laid}
use Rattle.replay_given.specs.Given.{said_by, plain_given, handed_given, picked_given, given_bytes, why_bytes, lists_bytes, short_given, longest_given, is_number, can_tell}

-- ---- a tag and what follows it

-- a tag takes one byte
pub tag_long : (t : ℕ) (w : List ℕ) → length (tag t w) ≡ 1 + length w
unfolding tag
tag_long t w = omega (arith, length-append (bytes byte_long t) w, bytes_length 1 t)

-- writing the tag and what follows it one after another writes both
pub tag_laid : (t : ℕ) (w out o₁ o₂ : List ℕ) (at : ℕ) → at + length (tag t w) ≤ length out → o₁ ≡ put out at (bytes byte_long t) → o₂ ≡ put o₁ (at + 1) w → o₂ ≡ put out at (tag t w)
unfolding tag
tag_laid t w out o₁ o₂ at h e₁ e₂ =
    let one = bytes_length 1 t in
    let both_parts = length-append (bytes byte_long t) w in
    put_next out o₁ o₂ at (at + 1) (bytes byte_long t) w (omega arith) e₁ (omega arith) e₂

-- bytes that are a tag alone
module _ (bs : List ℕ) (t : ℕ) (e : bs ≡ tag t []) where
  -- they are one byte
  pub bare_long : length bs ≡ 1
  bare_long = ap length e ∙ tag_long t []

  -- writing the tag writes them
  pub bare_laid : (out o : List ℕ) (at : ℕ) → o ≡ put out at (bytes byte_long t) → o ≡ put out at bs
  unfolding tag
  bare_laid out o at f = f ∙ ap (put out at) (sym (append-nil (bytes byte_long t)) ∙ sym e)

-- bytes that are a tag and a number of a width
module _ (bs : List ℕ) (t w n : ℕ) (e : bs ≡ tag t (bytes w n)) where
  -- they are one byte and those of the number
  pub numbered_long : length bs ≡ 1 + w
  numbered_long = omega (arith, ap length e, tag_long t (bytes w n), bytes_length w n)

  -- writing tag and number one after another writes them
  pub numbered_laid : (out o₁ o₂ : List ℕ) (at : ℕ) → at + 1 + w ≤ length out → o₁ ≡ put out at (bytes byte_long t) → o₂ ≡ put o₁ (at + 1) (bytes w n) → o₂ ≡ put out at bs
  numbered_laid out o₁ o₂ at h e₁ e₂ =
      tag_laid t (bytes w n) out o₁ o₂ at (omega (arith, tag_long t (bytes w n), bytes_length w n)) e₁ e₂ ∙ ap (put out at) (sym e)

-- ---- what each answer writes

-- a refusal: its tag, then its number
pub refused_is : (n : ℕ) → given_bytes (refused n) ≡ tag refused_tag (bytes byte_long n)
unfolding given_form write_given num
refused_is n = refl

-- a refused call gives that refusal, whatever it would have said
pub refused_given : {A : Type 0} (f : A → Said) (o : Result A ℕ) (n : ℕ) → o ≡ Err n → given_bytes (said_by f o) ≡ given_bytes (refused n)
unfolding said_by
refused_given f o n e = rw e

-- an edit, or a counter call but new, accepted: a tag
pub accepted_is : (o : Result Unit ℕ) (u : Unit) → o ≡ Ok u → given_bytes (plain_given o) ≡ tag accepted_tag []
unfolding given_form write_given said_by
accepted_is o u e = rw e

-- new, accepted: its tag, then the number handed out
pub handed_is : (o : Result FileNumber ℕ) (n : FileNumber) → o ≡ Ok n → given_bytes (handed_given o) ≡ tag handed_tag (bytes number_long n.0)
unfolding given_form write_given said_by num
handed_is o n e = rw e

-- a cause by size: its tag, then the bits of its score
pub scored_is : (c : Cause) (x : Float) → c ≡ Size x → why_bytes c ≡ tag scored_tag (bytes number_long (to_bits binary64 x))
unfolding why_form write_why why_of cause_of num
scored_is c x e = rw e

-- a manual cause: a tag
pub by_hand_is : (c : Cause) → c ≡ Manual → why_bytes c ≡ tag by_hand_tag []
unfolding why_form write_why why_of cause_of
by_hand_is c e = rw e

-- the sections of the three lists are the bytes of the lists
lists_are : (c : Picked) → section write_file (picked_of c).first ++ (section write_file (picked_of c).second ++ section write_file (picked_of c).grand) ≡ lists_bytes c
unfolding three_lists join
lists_are c =
    let three_joined : join (map (section write_file) (three_lists (picked_of c))) ≡ lists_bytes c = ap (λ (ls : List (List File)). join (map (section write_file) ls)) (three c) in
    rw append-nil at three_joined

-- a pick: its tag, level, cause, maximum file size, then the three lists
pub picked_is : (c : Picked) → given_bytes (gives (picked (choice_of (picked_of c))))
    ≡ bytes byte_long picked_tag ++ bytes number_long c.level ++ why_bytes c.cause ++ bytes number_long c.maximum ++ lists_bytes c
unfolding given_form write_given tag choice_form shaped pair num many file_form choice_of section picked_of
picked_is c = rw (← lists_are c) (simp append_assoc)

-- an accepted pick gives what was picked
pub picked_given_lem : (o : Result Picked ℕ) (c : Picked) → o ≡ Ok c → picked_given o ≡ gives (picked (choice_of (picked_of c)))
unfolding said_by
picked_given_lem o c e = rw e

-- ---- how long they are, and what is laid

-- a cause is no longer than a tag and a number
why_long : (c : Cause) → length (why_bytes c) ≤ byte_long + number_long
why_long (Size x) = omega (arith, numbered_long (why_bytes (Size x)) scored_tag number_long (to_bits binary64 x) (scored_is (Size x) x refl))
why_long Manual = omega (arith, bare_long (why_bytes Manual) by_hand_tag (by_hand_is Manual refl))

-- no answer of an edit, or of a counter call but new, is longer than a number handed out
pub plain_long : (o : Result Unit ℕ) → length (given_bytes (plain_given o)) ≤ short_given
unfolding said_by
plain_long (Ok u) = omega (arith, bare_long (given_bytes (gives accepted)) accepted_tag (accepted_is (Ok u) u refl))
plain_long (Err n) = omega (arith, numbered_long (given_bytes (refused n)) refused_tag byte_long n (refused_is n))

-- a pick, part by part
module _ (c : Picked) where
  -- its bytes up to the level
  abbrev to_level : List ℕ
  to_level = bytes byte_long picked_tag ++ bytes number_long c.level

  -- up to the cause
  abbrev to_cause : List ℕ
  to_cause = to_level ++ why_bytes c.cause

  -- up to the maximum file size
  abbrev to_maximum : List ℕ
  to_maximum = to_cause ++ bytes number_long c.maximum

  -- tag and level are nine bytes
  level_end : length to_level ≡ 9
  level_end = omega (arith, length-append (bytes byte_long picked_tag) (bytes number_long c.level), bytes_length 1 picked_tag, bytes_length 8 c.level)

  -- with the cause, its bytes more
  cause_end : length to_cause ≡ 9 + length (why_bytes c.cause)
  cause_end = omega (arith, length-append to_level (why_bytes c.cause), level_end)

  -- with the maximum, eight more
  maximum_end : length to_maximum ≡ 17 + length (why_bytes c.cause)
  maximum_end = omega (arith, length-append to_cause (bytes number_long c.maximum), cause_end, bytes_length 8 c.maximum)

  -- the whole: these and the lists
  pub picked_long : length (given_bytes (gives (picked (choice_of (picked_of c))))) ≡ 17 + length (why_bytes c.cause) + length (lists_bytes c)
  picked_long = omega (arith, ap length (picked_is c), length-append to_maximum (lists_bytes c), maximum_end)

  -- writing the five parts one after another writes it
  pub picked_laid : (out o₁ o₂ o₃ o₄ o₅ : List ℕ) (at why next : ℕ) → at + length (given_bytes (gives (picked (choice_of (picked_of c))))) ≤ length out
      → o₁ ≡ put out at (bytes byte_long picked_tag) → o₂ ≡ put o₁ (at + 1) (bytes number_long c.level) → o₃ ≡ put o₂ (at + 9) (why_bytes c.cause) → why ≡ at + 9 + length (why_bytes c.cause)
      → o₄ ≡ put o₃ why (bytes number_long c.maximum) → o₅ ≡ put o₄ (why + 8) (lists_bytes c) → next ≡ why + 8 + length (lists_bytes c)
      → (next ≡ at + length (given_bytes (gives (picked (choice_of (picked_of c)))))) × (o₅ ≡ put out at (given_bytes (gives (picked (choice_of (picked_of c))))))
  picked_laid out o₁ o₂ o₃ o₄ o₅ at why next h e₁ e₂ e₃ e e₄ e₅ f =
      let n = picked_long in
      let n₁ = bytes_length 1 picked_tag in
      let n₂ = level_end in
      let n₃ = cause_end in
      let n₄ = maximum_end in
      let l₂ = put_next out o₁ o₂ at (at + 1) (bytes byte_long picked_tag) (bytes number_long c.level) (omega arith) e₁ (omega arith) e₂ in
      let l₃ = put_next out o₂ o₃ at (at + 9) to_level (why_bytes c.cause) (omega arith) l₂ (omega arith) e₃ in
      let l₄ = put_next out o₃ o₄ at why to_cause (bytes number_long c.maximum) (omega arith) l₃ (omega arith) e₄ in
      let l₅ = put_next out o₄ o₅ at (why + 8) to_maximum (lists_bytes c) (omega arith) l₄ (omega arith) e₅ in
      (omega arith, l₅ ∙ ap (put out at) (sym (picked_is c)))

-- sections take two bytes each and those of their parts
sections_long : {A : Type 0} (w : A → List ℕ) (ls : List (List A)) → length (join (map (section w) ls)) ≡ 2 * length ls + length (join (map w (join ls)))
unfolding join
sections_long w [] = refl
sections_long w (l ∷ ls) =
    let rest = join (map (section w) ls) in
    omega (
      arith,
      length-append (section w l) rest,
      section_length w l,
      sections_long w ls,
      ap (λ (xs : List (List ℕ)). length (join xs)) (map-append w l (join ls)),
      ap length (join_append (map w l) (map w (join ls))),
      length-append (join (map w l)) (join (map w (join ls))),
    )

-- no answer of a pick is longer than the longest
pub given_long : (c : Picked) → well_picked c ≡ true → length (given_bytes (picked_given (Ok c))) ≤ longest_given
unfolding said_by well_picked full three_lists
given_long c h =
    let p = picked_of c in
    let f = fits p (and_right (sound_picked c) (good_picked full p) h) in
    let fs = join (three_lists p) in
    let each = joined_most write_file (file_long + 2 * key_room) fs (λ g m. file_most full g ((all_in (good_file full) fs).0 f.good g m)) in
    let all_files_lem = mul-le-mul_right (file_long + 2 * key_room) f.room in
    let lists : length (lists_bytes c) ≡ length (join (map (section write_file) (three_lists p))) = sym (ap (λ (ls : List (List File)). length (join (map (section write_file) ls))) (three c)) in
    omega (arith, picked_long c, why_long c.cause, lists, sections_long write_file (three_lists p))

-- ---- which picks can be told

-- a score equals itself exactly if it is a number
pub equals_itself : (x : Float) → eq x x ≡ not (is_nan x)
unfolding eq is_nan
equals_itself nan = refl
equals_itself (inf true) = refl
equals_itself (inf false) = refl
equals_itself (fin true m d) = let n = m * up d * down d in rw (eq-eqb n n refl)
equals_itself (fin false m d) = let n = m * up d * down d in rw (eq-eqb n n refl)

-- what is no NaN passes the test that `to_bits` asks for
pub no_nan : (x : Float) → is_nan x ≡ false → T (not (is_nan x))
no_nan x e = rw e tt

-- the score of a cause that passes the test is a number
pub score_number : (c : Cause) (x : Float) → c ≡ Size x → is_number c ≡ true → is_nan x ≡ false
unfolding is_number
score_number c x e h = not-true (is_nan x) (rw e at h)

-- an accepted pick that can be told is well-formed, and its score a number
pub can_tell_says : (o : Result Picked ℕ) (c : Picked) → o ≡ Ok c → can_tell o ≡ true → (well_picked c ≡ true) × (is_number c.cause ≡ true)
unfolding can_tell
can_tell_says o c e h =
    let a = well_picked c in
    let b = is_number c.cause in
    let t : a && b ≡ true = rw e at h in
    (and_left a b t, and_right a b t)

-- ---- the lists of a pick

-- the records of a well-formed picked answer are well-formed
module _ (c : Picked) (q : length c.files ≡ max_files) (w : AllWords c.files) (h : well_picked c ≡ true) where
  -- all of them
  records_well : all well_record (take (c.first + c.second + c.grand) c.files) ≡ true
  records_well =
      let n = c.first + c.second + c.grand in
      let a = framed c.level c.maximum c.first c.grand in
      let b = all well_record (take n c.files) in
      let d = all is_blank (drop n c.files) in
      let e = distinct_lists (lists_in c) in
      let f = levelwise in_order 0 (levels_of c.files (as_levels c.level c.first c.second c.grand)) in
      and_right a b (and_left (a && b) d (and_left (a && b && d) e (and_left (a && b && d && e) f (sym (well_is c q w n refl (well_room c h)) ∙ h))))

  -- each of them
  pub picked_record_lem : (i : ℕ) → i < c.first + c.second + c.grand → well_record (get_or c.files i past) ≡ true
  picked_record_lem i k =
      let n = c.first + c.second + c.grand in
      ap well_record (sym (get_or-take n c.files i past k))
      ∙ all_at well_record (take n c.files) i past records_well (omega (arith, length-take-le n c.files (omega (arith, well_room c h))))

-- the counts of the three lists, as code has them in an array
abbrev pub counted : Picked → List ℕ
counted c = c.first ∷ c.second ∷ c.grand ∷ []

-- the bytes of the files in the places from one up to another
abbrev pub files_from : List FileRecord → ℕ → ℕ → List (List ℕ)
files_from files i to = map write_file (map file_of (slice i to files))

-- the same as a list: after their count
abbrev pub list_at : List FileRecord → ℕ → ℕ → List ℕ
list_at files from to = section write_file (map file_of (slice from to files))

-- the bytes of the lists from l on, whose files start at a place
abbrev pub lists_from : List FileRecord → List ℕ → ℕ → ℕ → List (List ℕ)
lists_from files counts from l = map (section write_file) (levels_of (drop from files) (drop l counts))

-- there are as many files as the counts say
pub counted_sum : (c : Picked) → sum (counted c) ≡ c.first + c.second + c.grand
unfolding counts_in
counted_sum c = sum_is c

-- from the first list on: all lists
pub lists_whole : (c : Picked) → join (lists_from c.files (counted c) 0 0) ≡ lists_bytes c
unfolding lists_in counts_in
lists_whole c = refl

module _ (files : List FileRecord) (counts : List ℕ) (l from : ℕ) where
  -- the list at l, then those after it
  pub lists_turn : l < length counts → lists_from files counts from l ≡ list_at files from (from + get_or counts l 0) ∷ lists_from files counts (from + get_or counts l 0) (l + 1)
  unfolding run
  lists_turn h = ap (map (section write_file)) (levels_turn files counts l from h)

  -- no list is left
  pub lists_over : length counts ≤ l → lists_from files counts from l ≡ []
  lists_over h = ap (map (section write_file)) (levels_over_lem files counts l from h)

-- writing the count of a list and its files one after another writes the list
pub list_laid : (files : List FileRecord) (from n : ℕ) (out o₁ o₂ : List ℕ) (at : ℕ) → from + n ≤ length files → at + length (list_at files from (from + n)) ≤ length out → o₁ ≡ put out at (bytes count_long n)
    → o₂ ≡ put o₁ (at + 2) (join (files_from files from (from + n))) → o₂ ≡ put out at (list_at files from (from + n))
list_laid files from n out o₁ o₂ at k h e₁ e₂ =
    let size : n ≡ length (map file_of (slice from (from + n) files)) = omega (arith, length_view file_of from (from + n) files k) in
    section_laid write_file (map file_of (slice from (from + n) files)) out o₁ o₂ at h (e₁ ∙ ap (λ (m : ℕ). put out at (bytes count_long m)) size) e₂

-- a list of a picked answer, whose files start where those of the list before it end
module _ (c : Picked) (from l : ℕ) (h : l < 3) where
  -- its files have room, and the next list's start where they end
  pub list_room : well_picked c ≡ true → from + sum (drop l (counted c)) ≡ sum (counted c)
      → (from + get_or (counted c) l 0 ≤ c.first + c.second + c.grand) × (c.first + c.second + c.grand ≤ max_files) × (from + get_or (counted c) l 0 + sum (drop (l + 1) (counted c)) ≡ sum (counted c))
  list_room w e =
      let turn = sum_turn (counted c) l h in
      (omega (arith, counted_sum c), well_room c w, omega arith)

  -- its bytes with those of the lists after it are those of all that are left; it takes two bytes and those of its files
  pub list_long : (length (join (lists_from c.files (counted c) from l)) ≡ length (list_at c.files from (from + get_or (counted c) l 0)) + length (join (lists_from c.files (counted c) (from + get_or (counted c) l 0) (l + 1))))
      × (length (list_at c.files from (from + get_or (counted c) l 0)) ≡ 2 + length (join (files_from c.files from (from + get_or (counted c) l 0))))
  list_long =
      let to = from + get_or (counted c) l 0 in (
        part_length (list_at c.files from to) (lists_from c.files (counted c) to (l + 1)) (lists_from c.files (counted c) from l) (lists_turn c.files (counted c) l from h),
        section_length write_file (map file_of (slice from to c.files)),
      )

-- the bytes of these files
abbrev pub files_of : List FileRecord → List (List ℕ)
files_of fs = map write_file (map file_of fs)

module _ (files : List FileRecord) (from n : ℕ) where
  -- those of a part of the array are those of a run
  pub files_part : files_of (take (from + n - from) (drop from files)) ≡ files_from files from (from + n)
  files_part =
      let size : from + n - from ≡ n = omega arith in
      rw size (ap files_of (take_drop from n files))

-- the bytes of the first of these files, then those of the others
module _ (fs : List FileRecord) (j : ℕ) (h : j < length fs) where
  pub file_first : files_of (drop j fs) ≡ write_file (file_of (get_or fs j past)) ∷ files_of (drop (j + 1) fs)
  file_first = ap files_of (rest_cons fs j past h)

  -- their lengths
  pub file_first_long : length (join (files_of (drop j fs))) ≡ length (write_file (file_of (get_or fs j past))) + length (join (files_of (drop (j + 1) fs)))
  file_first_long = part_length (write_file (file_of (get_or fs j past))) (files_of (drop (j + 1) fs)) (files_of (drop j fs)) file_first
