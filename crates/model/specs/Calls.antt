-- The public calls besides edits, counters and picks: each with its refusals in document 01's order. `room` is the length of the lent output. Assumes nothing.
use Rattle.std.specs.Prelude.{ℕ, suc, ◌*◌, Bool, cond, true, not, ◌&&◌, List, [], ◌∷◌, ◌++◌, eqb, ltb, leb, length, take, drop, Float}
use Rattle.std.proofs.Math.Option.{Option, none, some}
use Rattle.lemmas.specs.Lists.{any, is_empty, up_from}
use Rattle.model.specs.Key.{Key, good_user, good_key, Parts, parts, before, Ordering, stands}
use Rattle.model.specs.Answer.{Answer, gives, refused, Refusal, ◌⇒◌, first_of}
use Rattle.model.specs.File.{Profile, File, State, level, total, well_formed, set_counters}
use Rattle.model.specs.Edit.{Deletion}
use Rattle.model.specs.Counters.{new, counted, counter_beyond}
use Rattle.model.specs.Score.{Score, score, level_to_compact, due, reported}
use Rattle.model.specs.Range.{between, overlaps, overlapping, low_key, high_key}
use Rattle.model.specs.Pick.{Picked, good_level, good_picked, trivial, input_deletions}
use Rattle.model.specs.Question.{find_index, Cutter, Cut, cut_step, is_base, not_before, lookup, memtable_level, live_files}
use Rattle.model.specs.Snapshot.{encode, decode}

-- ---- keys
-- how two internal keys stand in the order
unfoldable pub compare_keys : Profile → Key → Key → Answer Ordering
compare_keys p a b = first_of ((not (good_key p.longest a && good_key p.longest b) ⇒ 2) ∷ []) (stands before a b)

-- a key's parts
unfoldable pub parse_key : Profile → Key → Answer Parts
parse_key p k = first_of ((not (good_key p.longest k) ⇒ 2) ∷ []) (parts k)

-- ---- file numbers
-- the number that `new` hands out, and the state it leaves
pub record Handed : Type 0 where
  pub number : ℕ
  pub after : State

-- the number handed out is the old next
unfoldable pub new_number : Profile → State → Answer Handed
new_number p s = first_of ((not (well_formed p s) ⇒ 14) ∷ (counter_beyond new s.counters ⇒ 9) ∷ [])
    (record { number = s.counters.next; after = set_counters s (counted new s.counters) })

-- ---- a list of one level, lent with its level
-- its refusals: 1, then 14
unfoldable pub lent_list : Profile → ℕ → List File → List Refusal
lent_list p l fs = (not (ltb l p.levels) ⇒ 1) ∷ (not (good_level p l fs) ⇒ 14) ∷ []

-- total_size: the sum over the listed files
unfoldable pub total_size : Profile → ℕ → List File → Answer ℕ
total_size p l fs = first_of (lent_list p l fs) (total fs)

-- the smallest and the largest key of a list
pub record Ends : Type 0 where
  pub low : Key
  pub high : Key

-- the ends of a list, none for no files
unfoldable pub ends_of : List File → Option Ends
ends_of fs = cond (is_empty fs) none (some (record { low = low_key fs; high = high_key fs }))

-- get_range: the ends of a lent list
unfoldable pub get_range : Profile → ℕ → List File → Answer (Option Ends)
get_range p l fs = first_of (lent_list p l fs) (ends_of fs)

-- find_file: the index of the first file whose largest is not before the key
unfoldable pub find_file_call : Profile → ℕ → List File → Key → Answer (Option ℕ)
find_file_call p l fs k = first_of (lent_list p l fs ++ (not (good_key p.longest k) ⇒ 2) ∷ []) (find_index k fs)

-- look_up: the numbers of the files that may hold the key
unfoldable pub look_up : Profile → ℕ → List File → Key → ℕ → Answer (List ℕ)
look_up p l fs k room =
    first_of (lent_list p l fs ++ (not (good_key p.longest k) ⇒ 2) ∷ (ltb room (length (lookup l fs k)) ⇒ 13) ∷ []) (lookup l fs k)

-- ---- needs_compaction
-- the level to compact, its score as a fraction and as reported, and whether work is due
pub record Work : Type 0 where
  pub level : ℕ
  pub score : Score
  pub reported : Float
  pub is_due : Bool

-- whether work is due, and where
-- the level to compact, with its score
unfoldable pub needs_compaction : Profile → State → Answer Work
needs_compaction p s = let l = level_to_compact p s in
    first_of ((not (well_formed p s) ⇒ 14) ∷ []) (record { level = l; score = score s l; reported = reported (score s l); is_due = due (score s l) })

-- ---- calls on a picked answer
-- is_trivial_move
unfoldable pub is_trivial_move : Profile → Picked → Answer Bool
is_trivial_move p c = first_of ((not (good_picked p c) ⇒ 14) ∷ []) (trivial c)

-- input_deletions
unfoldable pub deletions_of : Profile → Picked → ℕ → Answer (List Deletion)
deletions_of p c room = first_of ((not (good_picked p c) ⇒ 14) ∷ (ltb room (length (input_deletions c)) ⇒ 13) ∷ []) (input_deletions c)

-- the count is the bytes from some place up to this one
unfoldable pub counts_up_to : List File → ℕ → ℕ → Bool
counts_up_to gs place count = any (λ j. leb j place && eqb (total (drop j (take place gs))) count) (up_from 0 (suc place))

-- the cutter's memory is fresh, or has seen a key, has a place from 0 to the grandparents' number and a count, at most 10 M,
-- of the bytes from some place up to it
unfoldable pub good_cutter : Picked → Cutter → Bool
good_cutter c m = cond m.seen
    (leb m.place (length c.grand) && leb m.count (10 * c.maximum) && counts_up_to c.grand m.place m.count)
    (eqb m.place 0 && eqb m.count 0)

-- should_stop_before: the answer and the memory after the key
unfoldable pub should_stop : Profile → Picked → Cutter → Key → Answer Cut
should_stop p c m k = first_of ((not (good_picked p c && good_cutter c m) ⇒ 14) ∷ (not (good_key p.longest k) ⇒ 2) ∷ []) (cut_step c.maximum c.grand m k)

-- ---- base-level questions: the memory is the last user key asked, if any
-- a memory is well-formed
unfoldable pub good_memory : Profile → Option (List ℕ) → Bool
good_memory p none = true
good_memory p (some u) = good_user p.longest u

-- the answer, and the memory after the question
pub record Base : Type 0 where
  pub answer : Bool
  pub memory : Option (List ℕ)

-- is_base_level_for
unfoldable pub is_base_level : Profile → State → ℕ → Option (List ℕ) → List ℕ → Answer Base
is_base_level p s l m u =
    first_of ((not (well_formed p s && good_memory p m) ⇒ 14) ∷ (not (ltb l p.levels) ⇒ 1) ∷ (not (good_user p.longest u) ⇒ 2) ∷ (not (not_before m u) ⇒ 12) ∷ [])
    (record { answer = is_base p s l u; memory = some u })

-- ---- ranges: memory tables and overlap_in_level take user keys
-- the level of a memory table
unfoldable pub memtable : Profile → State → List ℕ → List ℕ → Answer ℕ
memtable p s a b = first_of ((not (well_formed p s) ⇒ 14) ∷ (not (good_user p.longest a && good_user p.longest b) ⇒ 2) ∷ []) (memtable_level p s (record { start = a; stop = b }))

-- overlap_in_level: some file of the level overlaps the range, without widening
unfoldable pub overlap_in_level : Profile → State → ℕ → List ℕ → List ℕ → Answer Bool
overlap_in_level p s l a b =
    first_of ((not (well_formed p s) ⇒ 14) ∷ (not (ltb l p.levels) ⇒ 1) ∷ (not (good_user p.longest a && good_user p.longest b) ⇒ 2) ∷ [])
    (any (overlaps (record { start = a; stop = b })) (level s l))

-- overlapping_inputs: the files of the level that overlap the range
unfoldable pub overlapping_inputs : Profile → State → ℕ → Key → Key → ℕ → Answer (List File)
overlapping_inputs p s l a b room =
    let found = overlapping l (level s l) (between a b) in
    first_of ((not (well_formed p s) ⇒ 14) ∷ (not (ltb l p.levels) ⇒ 1) ∷ (not (good_key p.longest a && good_key p.longest b) ⇒ 2) ∷ (ltb room (length found) ⇒ 13) ∷ []) found

-- ---- live files, snapshots
-- live_files
unfoldable pub live : Profile → State → ℕ → Answer (List ℕ)
live p s room = first_of ((not (well_formed p s) ⇒ 14) ∷ (ltb room (length (live_files s)) ⇒ 13) ∷ []) (live_files s)

-- write: the snapshot of a state
unfoldable pub write : Profile → State → ℕ → Answer (List ℕ)
write p s room = first_of ((not (well_formed p s) ⇒ 14) ∷ (ltb room (length (encode s)) ⇒ 13) ∷ []) (encode s)

-- a snapshot that cannot be read is refused with 14
unfoldable pub or_bad : Option State → Answer State
or_bad none = refused 14
or_bad (some s) = gives s

-- read: the state of a snapshot
unfoldable pub read : Profile → List ℕ → Answer State
read p bs = or_bad (decode p bs)
