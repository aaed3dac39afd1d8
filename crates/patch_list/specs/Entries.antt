-- The entries of a list, read leniently section by section, and whether they are right: each good and in order, and the bytes just what they write. Assumes
-- nothing.
use Rattle.std.specs.Prelude.{ℕ, zero, suc, ◌≡◌, Bool, true, false, ◌&&◌, cond, Option, Some, None, MatchOption, List, [], ◌∷◌, ◌++◌, eqb, ltb, leb, length, drop}
use Rattle.lemmas.specs.Order.{lexb}
use Rattle.lemmas.specs.Lists.{is_empty}
use Rattle.model.specs.File.{full, good_file, good_pointer, level_count, max_counter}
use Rattle.model.specs.Snapshot.{write_key, write_file, same_bytes, byte_long, count_long, number_long, counter_count}
use Rattle.model.specs.Difference.{Difference, only_left, only_right, changed, pointer_is, counter_is}
use Rattle.model.specs.DifferenceBytes.{left_kind, right_kind, changed_kind, pointer_of}
use Rattle.snapshot_parse.specs.Parsing.{At, number_in, key_in, after_key, file_in, after_file, after_parts}
use Rattle.patch_list.specs.declared.Entry.{Entry}
use Rattle.patch_list.specs.declared.Section.{Section}
use Rattle.patch_list.specs.declared.Section.TheVariants.{Files, Pointers, Counters}

-- ---- an entry
-- an entry as it is read, the bytes after it, and whether it is right: it is good, and the bytes before those are just what it writes
pub record Reading : Type 0 where
  pub entry : Difference
  pub rest : List ℕ
  pub right : Bool

-- a file and the bytes after it are just these
unfoldable pub exact_file : List ℕ → Bool
exact_file bs = good_file full (file_in bs) && same_bytes (write_file (file_in bs) ++ after_file bs) bs

-- a pointer's key, or none, and the bytes after it are just these
unfoldable pub exact_key : List ℕ → Bool
exact_key bs = good_pointer full (pointer_of (key_in bs)) && same_bytes (write_key (key_in bs) ++ after_key bs) bs

-- what follows the level of a file that only the left has
unfoldable pub number_only : ℕ → List ℕ → Reading
number_only l bs = record { entry = only_left l (number_in number_long bs); rest = drop number_long bs; right = ltb l level_count && leb number_long (length bs) }

-- what follows the level of another, of kind k
unfoldable pub whole_file : ℕ → ℕ → List ℕ → Reading
whole_file k l bs = record {
  entry = cond (eqb k right_kind) (only_right l (file_in bs)) (changed l (file_in bs));
  rest = after_file bs;
  right = ltb l level_count && (leb k changed_kind && exact_file bs);
}

-- an entry of files: kind, level, then by its kind
unfoldable pub file_entry : List ℕ → Reading
file_entry bs =
    let k : ℕ = number_in byte_long bs in
    let l : ℕ = number_in byte_long (drop byte_long bs) in
    let body : List ℕ = drop byte_long (drop byte_long bs) in
    cond (eqb k left_kind) (number_only l body) (whole_file k l body)

-- an entry of pointers: level, key
unfoldable pub pointer_entry : List ℕ → Reading
pointer_entry bs =
    let l : ℕ = number_in byte_long bs in
    let body : List ℕ = drop byte_long bs in
    record { entry = pointer_is l (pointer_of (key_in body)); rest = after_key body; right = ltb l level_count && exact_key body }

-- an entry of counters: place, number
unfoldable pub counter_entry : List ℕ → Reading
counter_entry bs =
    let i : ℕ = number_in byte_long bs in
    let body : List ℕ = drop byte_long bs in
    let v : ℕ = number_in number_long body in
    record { entry = counter_is i v; rest = drop number_long body; right = ltb i counter_count && (leb v max_counter && leb number_long (length body)) }

-- the place of a section in a list
abbrev pub place_of : Section → ℕ
place_of Files = 0
place_of Pointers = 1
place_of Counters = 2

-- an entry of section s
unfoldable pub entry_in : ℕ → List ℕ → Reading
entry_in s bs = cond (eqb s 0) (file_entry bs) (cond (eqb s 1) (pointer_entry bs) (counter_entry bs))

-- ---- the order of a section
-- the level of an entry, or a counter's place
unfoldable pub level_of : Difference → ℕ
level_of (only_left l n) = l
level_of (only_right l f) = l
level_of (changed l f) = l
level_of (pointer_is l o) = l
level_of (counter_is i v) = i

-- the number of an entry of files. The others stand by their level alone
unfoldable pub number_of : Difference → ℕ
number_of (only_left l n) = n
number_of (only_right l f) = f.number
number_of (changed l f) = f.number
number_of (pointer_is l o) = 0
number_of (counter_is i v) = 0

-- what an entry stands by within its section
unfoldable pub standing : Difference → List ℕ
standing d = level_of d ∷ number_of d ∷ []

-- ---- a section
-- n entries of section s are right and in order, after one that stands by p, or after none
unfoldable pub right_from : ℕ → ℕ → List ℕ → List ℕ → Bool
right_from s zero p bs = true
right_from s (suc n) p bs =
    let r : Reading = entry_in s bs in
    (r.right && lexb p (standing r.entry)) && right_from s n (standing r.entry) r.rest

-- the bytes after n entries of section s
unfoldable pub after_from : ℕ → ℕ → List ℕ → List ℕ
after_from s n bs = after_parts (λ cs. (entry_in s cs).entry) (λ cs. (entry_in s cs).rest) n bs

-- section s is right: its count is there, and its entries are right
unfoldable pub section_right : ℕ → List ℕ → Bool
section_right s bs = leb count_long (length bs) && right_from s (number_in count_long bs) [] (drop count_long bs)

-- the bytes after it
unfoldable pub after_section : ℕ → List ℕ → List ℕ
after_section s bs = after_from s (number_in count_long bs) (drop count_long bs)

-- all three sections are right, and nothing follows
unfoldable pub list_right : List ℕ → Bool
list_right bs =
    let b : List ℕ = after_section 0 bs in
    let c : List ℕ = after_section 1 b in
    section_right 0 bs && (section_right 1 b && (section_right 2 c && is_empty (after_section 2 c)))

-- ---- what code keeps of an entry
-- what an entry at a place of the bytes reads as, right or not: the place after it, what it stands by, and whether it is right
pub record Read (src : List ℕ) (r : Reading) (e : Entry) (b : Bool) : Type 0 where
  pub next : At src e.next r.rest
  pub level : e.level ≡ level_of r.entry
  pub number : e.number ≡ number_of r.entry
  pub right : r.right ≡ b

-- an entry that is right, read at a place of the bytes: the place after it, and what it stands by
pub record Kept (src : List ℕ) (r : Reading) (e : Entry) : Type 0 where
  pub right : r.right ≡ true
  pub next : At src e.next r.rest
  pub level : e.level ≡ level_of r.entry
  pub number : e.number ≡ number_of r.entry

-- an entry that is right is kept, another is not
abbrev pub Found : List ℕ → Reading → Option Entry → Type 0
Found src r o = MatchOption o (r.right ≡ false) (Kept src r)

-- what the last entry stands by: nothing before the first
unfoldable pub last_standing : Option Entry → List ℕ
last_standing None = []
last_standing (Some e) = e.level ∷ e.number ∷ []
