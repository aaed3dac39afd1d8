-- What differs between two states, as a list of entries that carry the right's contents. Assumes nothing.
use Rattle.std.specs.Prelude.{ℕ, ◌^◌, Bool, true, false, not, ◌&&◌, ◌≡◌, eqb, ltb, leb, length, get_or}
use mathlib.Core.List.{List, [], ◌∷◌, ◌++◌, map, Memᴰ as In}
use Rattle.std.proofs.Math.Option.{Option, none, some}
use Rattle.lemmas.specs.Order.{lexb}
use Rattle.lemmas.specs.Lists.{keep, any, all, sort, chain, join, up_from}
use Rattle.model.specs.Key.{Key}
use Rattle.model.specs.File.{Profile, File, State, level, pointer, max_counter, good_file, good_pointer}
use Rattle.model.specs.Snapshot.{five_of, same_bytes, counter_count}

-- an entry of the list. Of files: a level and a number that only the left has; a level and a file that only the right has; a level and the
-- right's file where both have the number there, with another size or key. Then a level and the right's pointer, if it is set; then a counter's
-- place in a snapshot (next 0, manifest 1, last sequence 2, log 3, previous log 4) and the right's number
pub data Difference : Type 0 where
  only_left : ℕ → ℕ → Difference
  only_right : ℕ → File → Difference
  changed : ℕ → File → Difference
  pointer_is : ℕ → Option Key → Difference
  counter_is : ℕ → ℕ → Difference

-- ---- the order of the list
-- files by level and then number, then pointers by level, then counters in the snapshot's order
unfoldable pub place : Difference → List ℕ
place (only_left l n) = 0 ∷ l ∷ n ∷ []
place (only_right l f) = 0 ∷ l ∷ f.number ∷ []
place (changed l f) = 0 ∷ l ∷ f.number ∷ []
place (pointer_is l o) = 1 ∷ l ∷ []
place (counter_is i v) = 2 ∷ i ∷ []

-- an entry stands strictly before another
unfoldable pub earlier : Difference → Difference → Bool
earlier d e = lexb (place d) (place e)

-- the entry names this number at this level
unfoldable pub names : ℕ → ℕ → Difference → Bool
names l n (only_left m k) = eqb m l && eqb k n
names l n (only_right m f) = eqb m l && eqb f.number n
names l n (changed m f) = eqb m l && eqb f.number n
names l n (pointer_is m o) = false
names l n (counter_is i v) = false

-- ---- the list
-- a list of files has the number
unfoldable pub has_number : ℕ → List File → Bool
has_number n fs = any (λ f. eqb f.number n) fs

-- the same size and the same keys, byte for byte
unfoldable pub same_contents : File → File → Bool
same_contents f g = eqb f.size g.size && same_bytes f.smallest g.smallest && same_bytes f.largest g.largest

-- both have the number, with another size or key
unfoldable pub differs : File → File → Bool
differs f g = eqb f.number g.number && not (same_contents f g)

-- pointers: both unset, or the same bytes
unfoldable pub same_pointer : Option Key → Option Key → Bool
same_pointer none none = true
same_pointer none (some k) = false
same_pointer (some j) none = false
same_pointer (some j) (some k) = same_bytes j k

-- a counter by its place in a snapshot
unfoldable pub counter_at : State → ℕ → ℕ
counter_at s i = get_or (five_of s.counters) i 0

-- each file that only the left has at a level
unfoldable pub only_lefts : ℕ → List File → List File → List Difference
only_lefts l xs ys = map (λ (f : File). only_left l f.number) (keep (λ f. not (has_number f.number ys)) xs)

-- each file that only the right has at a level
unfoldable pub only_rights : ℕ → List File → List File → List Difference
only_rights l xs ys = map (only_right l) (keep (λ g. not (has_number g.number xs)) ys)

-- each file of the right whose number the left has at the level with another size or key
unfoldable pub changes : ℕ → List File → List File → List Difference
changes l xs ys = map (changed l) (keep (λ g. any (λ f. differs f g) xs) ys)

-- what differs at a level
unfoldable pub at_level : State → State → ℕ → List Difference
at_level s t l = only_lefts l (level s l) (level t l) ++ (only_rights l (level s l) (level t l) ++ changes l (level s l) (level t l))

-- the pointers that differ
unfoldable pub pointer_differences : State → State → List Difference
pointer_differences s t = map (λ l. pointer_is l (pointer t l)) (keep (λ l. not (same_pointer (pointer s l) (pointer t l))) (up_from 0 (length s.files)))

-- the counters that differ
unfoldable pub counter_differences : State → State → List Difference
counter_differences s t = map (λ i. counter_is i (counter_at t i)) (keep (λ i. not (eqb (counter_at s i) (counter_at t i))) (up_from 0 counter_count))

-- all that differs
unfoldable pub unordered : State → State → List Difference
unordered s t = join (map (at_level s t) (up_from 0 (length s.files))) ++ (pointer_differences s t ++ counter_differences s t)

-- what differs between a left and a right state, in the order of the list
unfoldable pub differences : State → State → List Difference
differences s t = sort earlier (unordered s t)

-- ---- what the list holds, entry by entry
-- an entry is called for by two states: only the left has the number at the level; only the right has the file there; both have the number there
-- and not the same file; the pointer differs, or the counter, and the entry has the right's
unfoldable pub Listed : State → State → Difference → Type 0
Listed s t (only_left l n) = (has_number n (level s l) ≡ true) × (has_number n (level t l) ≡ false)
Listed s t (only_right l g) = In g (level t l) × (has_number g.number (level s l) ≡ false)
Listed s t (changed l g) = In g (level t l) × ((f : File) × In f (level s l) × (f.number ≡ g.number) × (f ≡ g → ⊥))
Listed s t (pointer_is l o) = (o ≡ pointer t l) × (pointer s l ≡ pointer t l → ⊥)
Listed s t (counter_is i v) = (v ≡ counter_at t i) × (counter_at s i ≡ counter_at t i → ⊥)

-- ---- lists that can be kept
-- an entry of a machine of this profile: its level, file, pointer or counter is as a well-formed state has it
unfoldable pub good_difference : Profile → Difference → Bool
good_difference p (only_left l n) = ltb l p.levels && ltb n (2 ^ 64)
good_difference p (only_right l f) = ltb l p.levels && (good_file p f && ltb f.number (2 ^ 64))
good_difference p (changed l f) = ltb l p.levels && (good_file p f && ltb f.number (2 ^ 64))
good_difference p (pointer_is l o) = ltb l p.levels && good_pointer p o
good_difference p (counter_is i v) = ltb i counter_count && leb v max_counter

-- a list of such entries, each strictly before the next: ordered, and no place twice
unfoldable pub good_list : Profile → List Difference → Bool
good_list p ds = all (good_difference p) ds && chain earlier ds
