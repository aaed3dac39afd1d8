-- A list of differences as bytes, read back as a snapshot is, and the two calls on bytes: differing and patching. Assumes nothing.
use Rattle.std.specs.Prelude.{ℕ, ◌+◌, ◌*◌, cond, ◌&&◌, List, [], ◌∷◌, ◌++◌, eqb, ltb, length}
use Rattle.std.proofs.Math.Option.{Option, none, some}
use Rattle.lemmas.specs.Lists.{keep}
use Rattle.lemmas.specs.Little.{bytes}
use Rattle.model.specs.Key.{Key}
use Rattle.model.specs.Answer.{Answer, gives, refused, ◌⇒◌, first_of}
use Rattle.model.specs.File.{Profile, max_files, level_count, key_room}
use Rattle.model.specs.Snapshot.{same_bytes, write_key, write_file, section, Read, Reader, ◌>>=◌, give, read_number, read_key, read_file, read_section, byte_long, number_long, count_long, file_long, entry_long, counter_count}
use Rattle.model.specs.Calls.{write, read}
use Rattle.model.specs.Difference.{Difference, only_left, only_right, changed, pointer_is, counter_is, differences, good_list}
use Rattle.model.specs.Patched.{patched}

-- ---- the kinds of an entry of files
-- only the left has it
abbrev pub left_kind : ℕ
left_kind = 0

-- only the right has it
abbrev pub right_kind : ℕ
right_kind = 1

-- both have the number
abbrev pub changed_kind : ℕ
changed_kind = 2

-- the bytes of its kind and its level
abbrev pub head_long : ℕ
head_long = 2 * byte_long

-- ---- writing: three sections, each after a 2-byte count: files, pointers, counters; nothing follows
-- the section of an entry
unfoldable pub section_of : Difference → ℕ
section_of (only_left l n) = 0
section_of (only_right l f) = 0
section_of (changed l f) = 0
section_of (pointer_is l o) = 1
section_of (counter_is i v) = 2

-- the bytes of a pointer: its key, or none
unfoldable pub key_of : Option Key → Key
key_of none = []
key_of (some k) = k

-- of files: 0, level 1, number 8 for one that only the left has; 1 or 2, level 1, then the file as in a snapshot for one that only the right has
-- or that is changed. Of pointers: level 1, key length 1 (0 if it is not set), key. Of counters: place 1, number 8
unfoldable pub write_difference : Difference → List ℕ
write_difference (only_left l n) = bytes byte_long left_kind ++ (bytes byte_long l ++ bytes number_long n)
write_difference (only_right l f) = bytes byte_long right_kind ++ (bytes byte_long l ++ write_file f)
write_difference (changed l f) = bytes byte_long changed_kind ++ (bytes byte_long l ++ write_file f)
write_difference (pointer_is l o) = bytes byte_long l ++ write_key (key_of o)
write_difference (counter_is i v) = bytes byte_long i ++ bytes number_long v

-- the entries of a section, in order
unfoldable pub section_at : ℕ → List Difference → List Difference
section_at k ds = keep (λ d. eqb (section_of d) k) ds

-- the whole list
unfoldable pub write_differences : List Difference → List ℕ
write_differences ds = section write_difference (section_at 0 ds) ++ (section write_difference (section_at 1 ds) ++ section write_difference (section_at 2 ds))

-- the longest list of a full machine: a version of files that only the left has, a version of others on the right, each pointer and each counter
abbrev pub longest_list : ℕ
longest_list =
    3 * count_long + max_files * (head_long + number_long) + max_files * (head_long + file_long + 2 * key_room) + level_count * (entry_long + key_room) + counter_count * (byte_long + number_long)

-- ---- reading
-- what follows the level in an entry of files, by its kind
unfoldable pub read_file_of : ℕ → ℕ → Reader Difference
read_file_of k l = cond (eqb k left_kind) (read_number number_long >>= λ n. give (only_left l n)) (cond (eqb k right_kind) (read_file >>= λ f. give (only_right l f)) (read_file >>= λ f. give (changed l f)))

-- an entry of files
unfoldable pub read_file_difference : Reader Difference
read_file_difference = read_number byte_long >>= λ k. read_number byte_long >>= λ l. read_file_of k l

-- a pointer of these bytes: none if there are none
unfoldable pub pointer_of : Key → Option Key
pointer_of [] = none
pointer_of (b ∷ bs) = some (b ∷ bs)

-- an entry of pointers
unfoldable pub read_pointer_difference : Reader Difference
read_pointer_difference = read_number byte_long >>= λ l. read_key >>= λ k. give (pointer_is l (pointer_of k))

-- an entry of counters
unfoldable pub read_counter_difference : Reader Difference
read_counter_difference = read_number byte_long >>= λ i. read_number number_long >>= λ v. give (counter_is i v)

-- the three sections
unfoldable pub read_differences : Reader (List Difference)
read_differences = read_section read_file_difference >>= λ fs. read_section read_pointer_difference >>= λ ps. read_section read_counter_difference >>= λ cs. give (fs ++ (ps ++ cs))

-- bytes are a list if what they read as is a good list and writes those very bytes
unfoldable pub accept_list : Profile → List ℕ → Option (Read (List Difference)) → Option (List Difference)
accept_list p bs none = none
accept_list p bs (some r) = cond (good_list p r.value && same_bytes (write_differences r.value) bs) (some r.value) none

-- what bytes read as, if they are a list; nothing follows one
unfoldable pub decode_list : Profile → List ℕ → Option (List Difference)
decode_list p bs = accept_list p bs (read_differences bs)

-- ---- the calls
-- one question after another: the first refusal counts
unfoldable pub on_given : {A B : Type 0} → Answer A → (A → Answer B) → Answer B
on_given (gives a) f = f a
on_given (refused n) f = refused n

-- bytes laid into lent output of so much room: 13 where it is shorter
unfoldable pub fitting : ℕ → List ℕ → Answer (List ℕ)
fitting room bs = first_of ((ltb room (length bs) ⇒ 13) ∷ []) bs

-- two snapshots compared: 14 for the left, 14 for the right, then 13; else the bytes of the list
unfoldable pub differing : Profile → List ℕ → List ℕ → ℕ → Answer (List ℕ)
differing p left right room = on_given (read p left) λ s. on_given (read p right) λ t. fitting room (write_differences (differences s t))

-- what is no list is refused with 14
unfoldable pub or_no_list : Option (List Difference) → Answer (List Difference)
or_no_list none = refused 14
or_no_list (some ds) = gives ds

-- a list applied to a snapshot: 14 for the left, 14 for the list or an outcome that is not well-formed, then 13; else the outcome's snapshot
unfoldable pub patching : Profile → List ℕ → List ℕ → ℕ → Answer (List ℕ)
patching p left list room = on_given (read p left) λ s. on_given (or_no_list (decode_list p list)) λ ds. write p (patched s ds) room
