-- Document 01's table of examples, E1 to E12, as one theorem by computation, and the bytes of a fresh store. Assumes nothing.
use Rattle.std.specs.Prelude.{ℕ, ◌≡◌, refl, Bool, true, false, replicate}
use mathlib.Core.List.{List, [], ◌∷◌, ◌++◌, Option-to_list}
use Rattle.std.proofs.Math.Option.{none, some, or_else}
use Rattle.lemmas.specs.Order.{by_first, lexb}
use Rattle.lemmas.specs.Lists.{push, keep, any, all, find, insert, sort, chain, join, is_empty, member, distinct, sum, up_from}
use Rattle.lemmas.specs.Little.{number, bytes}
use Rattle.model.specs.Key.{Key, user, trailer, sequence, kind, key, good_user, good_key, parts, user_before, rank, before, is_less, is_equal, is_greater, stands}
use Rattle.model.specs.Answer.{gives, refused, ◌⇒◌, first_of, on_answer, lent}
use Rattle.model.specs.File.{Profile, full, File, State, level, pointer, seeks, total, numbers, all_files, by_smallest, good_file, in_order, no_collision, levelwise, good_pointer, good_counters, good_files, well_formed, fresh, set_pointer, set_counters}
use Rattle.model.specs.Edit.{Deletion, Addition, Edit, empty_edit, added, deletes, adds, left_deleted, survivors, survivors_from, pointed, logged, applied, too_many, bad_log, pointer_refusals, deletion_refusals, addition_refusals, entry_refusals, result_refusals, edit}
use Rattle.model.specs.Counters.{counted, counter_beyond, counter}
use Rattle.model.specs.Score.{lower, byte_limit, score, scored, has_greatest, level_to_compact, due, reported}
use Rattle.model.specs.Range.{between, overlaps, inside, earlier, later, stretch, sticks_out, widen_by, widen, overlapping, is_lowest, is_highest, low_key, high_key, range_of}
use Rattle.model.specs.Completion.{older_than, follows, following, completed, completed_at, inputs, spans}
use Rattle.model.specs.Pick.{first_file, start_file, size_inputs, up_to, manual_inputs, by_size, Picked, Pick, grand_of, grows, grown_first, complete, bad_maximum, size_pick, manual_pick, good_level, good_picked, is_manual, trivial, input_deletions}
use Rattle.model.specs.Question.{find_file, passed, find_index, Cutter, fresh_cutter, Cut, cut_step, holds, is_base, not_before, candidate, lookup, descend, deepest, memtable_level, live_files}
use Rattle.model.specs.Snapshot.{by_number, write_key, write_file, entries, write_entry, section, write_level, five_of, encode, onward, ◌>>=◌, give, times, read_bytes, read_number, read_key, read_file, read_section, read_level, read_pointer, placed, from_five, read_state, same_bytes, accept, decode}
use Rattle.model.specs.Calls.{compare_keys, parse_key, new_number, lent_list, total_size, ends_of, get_range, find_file_call, look_up, Work, needs_compaction, is_trivial_move, deletions_of, counts_up_to, good_cutter, should_stop, good_memory, is_base_level, memtable, overlap_in_level, overlapping_inputs, live, write, or_bad, read}

-- unfolding this name unfolds all definitions, so that examples compute
unfoldable pub computes : Bool
unfolding by_first lexb number bytes push keep any all find insert sort chain join is_empty member distinct sum up_from or_else Option-to_list user trailer sequence kind key good_user good_key parts user_before rank before stands ◌⇒◌ first_of on_answer lent full level pointer seeks total numbers all_files by_smallest good_file in_order no_collision levelwise good_pointer good_counters good_files well_formed fresh set_pointer set_counters empty_edit added deletes adds left_deleted survivors survivors_from pointed logged applied too_many bad_log pointer_refusals deletion_refusals addition_refusals entry_refusals result_refusals edit counted counter_beyond counter lower byte_limit score scored has_greatest level_to_compact due between overlaps inside earlier later stretch sticks_out widen_by widen overlapping is_lowest is_highest low_key high_key range_of older_than follows following completed completed_at inputs spans first_file start_file size_inputs up_to manual_inputs grand_of grows grown_first complete bad_maximum size_pick manual_pick good_level good_picked is_manual trivial input_deletions find_file passed find_index fresh_cutter cut_step holds is_base not_before candidate lookup descend deepest memtable_level live_files by_number write_key write_file entries write_entry section write_level five_of encode onward ◌>>=◌ give times read_bytes read_number read_key read_file read_section read_level read_pointer placed from_five read_state same_bytes accept decode compare_keys parse_key new_number lent_list total_size ends_of get_range find_file_call look_up needs_compaction is_trivial_move deletions_of counts_up_to good_cutter should_stop good_memory is_base_level memtable overlap_in_level overlapping_inputs live write or_bad read
computes = true

-- the key of a one-letter user key, a sequence and type 1 (a value)
abbrev at : ℕ → ℕ → Key
at letter s = key (letter ∷ []) s 1

-- a file by number, size and keys
abbrev file : ℕ → ℕ → Key → Key → File
file n z a b = record { number = n; size = z; smallest = a; largest = b }

-- seven levels, the first three given, with fresh pointers and counters
abbrev with7 : List File → List File → List File → State
with7 l0 l1 l2 = record { files = l0 ∷ l1 ∷ l2 ∷ [] ∷ [] ∷ [] ∷ [] ∷ []; pointers = replicate 7 none; counters = record { next = 2; manifest = 0; last = 0; log = 0; previous = 0 } }

-- an edit with these deletions and additions
abbrev adding : List Deletion → List Addition → Edit
adding ds as' = record { pointers = []; deletions = ds; additions = as'; log = none }

-- an addition of a file at a level
abbrev add : ℕ → File → Addition
add l f = record { level = l; file = f }

-- the maximum file size
abbrev M : ℕ
M = 2097152

-- the letters, as bytes
abbrev a : ℕ
a = 97

abbrev b : ℕ
b = 98

abbrev c : ℕ
c = 99

abbrev d : ℕ
d = 100

abbrev g : ℕ
g = 103

abbrev h : ℕ
h = 104

abbrev k : ℕ
k = 107

abbrev x : ℕ
x = 120

abbrev z : ℕ
z = 122

-- E2, E3: level 1 has one file of n bytes
abbrev sized : ℕ → State
sized n = with7 [] (file 1 n (at a 9) (at b 5) ∷ []) []

-- E3: four files at level 0 and a full level 1
abbrev four : State
four = with7 (file 11 1 (at a 9) (at b 5) ∷ file 12 1 (at a 9) (at b 5) ∷ file 13 1 (at a 9) (at b 5) ∷ file 14 1 (at a 9) (at b 5) ∷ []) (file 1 10485760 (at a 9) (at b 5) ∷ []) []

-- E4, E5: a@9..b@5
abbrev f4 : File
f4 = file 1 1 (at a 9) (at b 5)

-- E4: it begins after f4 ends, by sequence
abbrev f4' : File
f4' = file 2 1 (at b 3) (at c 1)

-- E5: it begins where f4 ends
abbrev f5 : File
f5 = file 2 1 (at b 5) (at c 1)

-- E6: the file with number 7
abbrev seven : File
seven = file 7 1 (at a 9) (at b 5)

-- E7, E9: a size pick at level 1 with one first input and grandparents of n bytes
abbrev moved : ℕ → Picked
moved n = record { level = 1; cause = by_size (reported (record { part = 1; whole = 1 })); maximum = M; first = f4 ∷ []; second = []; grand = file 3 n (at a 9) (at b 5) ∷ [] }

-- E8: a..b and c..d at level 1, a..c of n bytes at level 2. The range asked is a..a, and the grown bytes are n + 2
abbrev grower : ℕ → State
grower n = with7 [] (file 1 1 (at a 9) (at b 5) ∷ file 2 1 (at c 9) (at d 5) ∷ []) (file 3 n (at a 9) (at c 5) ∷ [])

-- the numbers of a pick's first inputs
abbrev first_inputs : Pick → List ℕ
first_inputs p = numbers p.picked.first

-- E9: a memory that has seen a key
abbrev seen : Cutter
seen = record { seen = true; place = 0; count = 0 }

-- E10: a..d, c..h, g..k, x..z
abbrev four0 : List File
four0 = file 1 1 (at a 9) (at d 9) ∷ file 2 1 (at c 9) (at h 9) ∷ file 3 1 (at g 9) (at k 9) ∷ file 4 1 (at x 9) (at z 9) ∷ []

-- E11: level 1 is due, and its pointer is at the last file's largest key. The files share no edge key
abbrev pointed1 : State
pointed1 = set_pointer (with7 [] (file 1 10485760 (at a 9) (at b 5) ∷ file 2 1 (at c 9) (at d 5) ∷ []) []) 1 (at d 5)

-- E1 to E12, each as the result of a public call. E12 is by the rule for allowed seeks
pub record TableE : Type 0 where
  pub e1 : (compare_keys full (at b 5) (at b 4) ≡ gives is_less) × (compare_keys full (at b 4) (at c 9) ≡ gives is_less)
  pub e2 : (on_answer (λ (w : Work). w.is_due) (needs_compaction full (sized 10485760)) ≡ gives true) × (on_answer (λ (w : Work). w.is_due) (needs_compaction full (sized 10485759)) ≡ gives false)
  pub e3 : (on_answer (λ (w : Work). w.level) (needs_compaction full four) ≡ gives 0) × (on_answer (λ (w : Work). w.is_due) (needs_compaction full four) ≡ gives true)
  pub e4 : edit full (fresh full) (adding [] (add 1 f4 ∷ add 1 f4' ∷ [])) ≡ gives (with7 [] (f4 ∷ f4' ∷ []) [])
  pub e5 : edit full (fresh full) (adding [] (add 1 f4 ∷ add 1 f5 ∷ [])) ≡ refused 7
  pub e6 : edit full (with7 [] [] (seven ∷ [])) (adding (record { level = 2; number = 7 } ∷ []) (add 2 seven ∷ [])) ≡ refused 6
  pub e7 : (is_trivial_move full (moved 20971519) ≡ gives true) × (is_trivial_move full (moved 20971520) ≡ gives false)
  pub e8 : (on_answer first_inputs (manual_pick full (grower 52428797) M 1 (at a 9) (at a 9)) ≡ gives (1 ∷ 2 ∷ [])) × (on_answer first_inputs (manual_pick full (grower 52428798) M 1 (at a 9) (at a 9)) ≡ gives (1 ∷ []))
  pub e9 : (on_answer (λ (r : Cut). r.answer) (should_stop full (moved 20971520) seen (at c 9)) ≡ gives false) × (on_answer (λ (r : Cut). r.answer) (should_stop full (moved 20971521) seen (at c 9)) ≡ gives true)
  pub e10 : on_answer numbers (overlapping_inputs full (with7 four0 [] []) 0 (at b 9) (at b 9) 256) ≡ gives (1 ∷ 2 ∷ 3 ∷ [])
  pub e11 : on_answer first_inputs (size_pick full pointed1 M) ≡ gives (1 ∷ [])
  pub e12 : (seeks 1654783 ≡ 100) × (seeks 1654784 ≡ 101)

-- the table holds, by computation
pub table_e : TableE
unfolding computes
table_e = record {
  e1 = (refl, refl);
  e2 = (refl, refl);
  e3 = (refl, refl);
  e4 = refl;
  e5 = refl;
  e6 = refl;
  e7 = (refl, refl);
  e8 = (refl, refl);
  e9 = (refl, refl);
  e10 = refl;
  e11 = refl;
  e12 = (refl, refl);
}

-- ---- files that share an edge key
-- the numbers of a pick's second inputs
abbrev second_inputs : Pick → List ℕ
second_inputs p = numbers p.picked.second

-- level 1 is due: b@5 ends the first file, b@3 begins the second
abbrev edge : State
edge = with7 [] (file 1 10485760 (at a 9) (at b 5) ∷ f4' ∷ file 3 1 (at d 9) (at d 5) ∷ []) []

-- a chain: b@5, b@4..b@3, b@2..c@1, c@0..d@0
abbrev chained : State
chained = with7 [] (file 5 10485760 (at a 9) (at b 5) ∷ file 6 10 (at b 4) (at b 3) ∷ file 7 10 (at b 2) (at c 1) ∷ file 8 10 (at c 0) (at d 0) ∷ file 9 10 (at g 1) (at g 0) ∷ []) []

-- level 0 is due; at level 1 c@3 ends one file and c@2 begins the next
abbrev below : State
below = with7 (file 1 1 (at a 9) (at b 5) ∷ file 2 1 (at a 9) (at b 5) ∷ file 3 1 (at a 9) (at b 5) ∷ file 4 1 (at a 9) (at b 5) ∷ []) (file 6 10 (at b 4) (at c 3) ∷ file 7 10 (at c 2) (at d 1) ∷ []) []

-- growth from c..d to a..b and g..h, and with them h@8..k of n bytes that shares h
abbrev wider : ℕ → State
wider n = with7 [] (file 4 10 (at a 5) (at b 5) ∷ file 5 10 (at c 9) (at d 9) ∷ file 6 10 (at g 9) (at h 9) ∷ file 7 n (at h 8) (at k 9) ∷ []) (file 9 10 (at a 9) (at g 9) ∷ [])

-- with completed lists the file that begins with b@3 goes down with the one that b@5 ends; the start file alone leaves it, and it has the older b in its range
pub record Edges : Type 0 where
  pub together : on_answer first_inputs (size_pick full edge M) ≡ gives (1 ∷ 2 ∷ [])
  pub pointed : on_answer (λ (p : Pick). pointer p.after 1) (size_pick full edge M) ≡ gives (some (at c 1))
  pub alone : numbers (Option-to_list (start_file (pointer edge 1) (level edge 1))) ≡ 1 ∷ []
  pub older : (spans f4' (at b 3) ≡ true) × (older_than (at b 3) (at b 5) ≡ true)
  pub chain_of_four : on_answer first_inputs (size_pick full chained M) ≡ gives (5 ∷ 6 ∷ 7 ∷ 8 ∷ [])
  pub next_level : on_answer second_inputs (size_pick full below M) ≡ gives (6 ∷ 7 ∷ [])
  pub after_stop : on_answer first_inputs (manual_pick full (with7 [] (file 5 11 (at a 9) (at b 5) ∷ file 6 1 (at b 3) (at c 1) ∷ file 7 1 (at c 0) (at d 1) ∷ []) []) 10 1 (at a 1) (at a 1)) ≡ gives (5 ∷ 6 ∷ 7 ∷ [])
  pub too_big : on_answer first_inputs (manual_pick full (wider 24999960) 1000000 1 (at c 1) (at c 1)) ≡ gives (5 ∷ [])
  pub grown : on_answer first_inputs (manual_pick full (wider 24999959) 1000000 1 (at c 1) (at c 1)) ≡ gives (4 ∷ 5 ∷ 6 ∷ 7 ∷ [])
  pub question : on_answer numbers (overlapping_inputs full edge 1 (at a 9) (at a 9) 256) ≡ gives (1 ∷ [])

-- by computation
pub edge_keys : Edges
unfolding computes
edge_keys = record {
  together = refl;
  pointed = refl;
  alone = refl;
  older = (refl, refl);
  chain_of_four = refl;
  next_level = refl;
  after_stop = refl;
  too_big = refl;
  grown = refl;
  question = refl;
}

-- the type is not weighed, and a proper prefix is first
pub record Compared : Type 0 where
  pub kinds : compare_keys full (key (b ∷ []) 5 0) (key (b ∷ []) 5 1) ≡ gives is_equal
  pub prefix : compare_keys full (at a 5) (key (a ∷ b ∷ []) 9 1) ≡ gives is_less
  pub after : compare_keys full (at c 9) (at b 4) ≡ gives is_greater

-- they hold, by computation
pub compared : Compared
unfolding computes
compared = record { kinds = refl; prefix = refl; after = refl }

-- two files that make a well-formed level 1
abbrev two1 : List File
two1 = f4 ∷ f4' ∷ []

-- calls on a lent list and with lent output: 1 before 14 before 2, and 13 last
pub record Lent : Type 0 where
  pub above : find_file_call full 7 (f5 ∷ f4 ∷ []) [] ≡ refused 1
  pub unordered : find_file_call full 1 (f5 ∷ f4 ∷ []) [] ≡ refused 14
  pub no_key_lem : find_file_call full 1 two1 [] ≡ refused 2
  pub second : find_file_call full 1 two1 (at b 4) ≡ gives (some 1)
  pub past : find_file_call full 1 two1 (at d 9) ≡ gives none
  pub totals : total_size full 1 two1 ≡ gives 2
  pub ends : get_range full 1 two1 ≡ gives (some (record { low = at a 9; high = at c 1 }))
  pub no_ends : get_range full 1 [] ≡ gives none
  pub short : live full (with7 [] two1 []) 1 ≡ refused 13
  pub rising : live full (with7 [] two1 (seven ∷ [])) 3 ≡ gives (1 ∷ 2 ∷ 7 ∷ [])
  pub left : lent (live full (with7 [] two1 []) 4) (9 ∷ 9 ∷ 9 ∷ 9 ∷ []) ≡ 1 ∷ 2 ∷ 9 ∷ 9 ∷ []
  pub kept : lent (live full (with7 [] two1 []) 1) (9 ∷ []) ≡ 9 ∷ []

-- they hold, by computation
pub lent_calls : Lent
unfolding computes
lent_calls = record {
  above = refl;
  unordered = refl;
  no_key_lem = refl;
  second = refl;
  past = refl;
  totals = refl;
  ends = refl;
  no_ends = refl;
  short = refl;
  rising = refl;
  left = refl;
  kept = refl;
}

-- a fresh store writes 05 00, 02, thirty-nine 00, then sixteen 00
pub fresh_bytes : encode (fresh full) ≡ (5 ∷ 0 ∷ 2 ∷ []) ++ replicate 39 0 ++ replicate 16 0
unfolding computes
fresh_bytes = refl

-- these bytes read back as a fresh store
pub fresh_reads : decode full (encode (fresh full)) ≡ some (fresh full)
unfolding computes
fresh_reads = refl

-- ---- the same definitions with a smaller profile
-- three levels, 48 files, user keys of 16 bytes
abbrev pub small : Profile
small = record { levels = 3; room = 48; longest = 16; deletions = 256; additions = 64; pointers = 16 }

-- some of its results
pub record Small : Type 0 where
  pub fresh_bytes : encode (fresh small) ≡ encode (fresh full)
  pub above : edit small (fresh small) (adding [] (add 3 f4 ∷ [])) ≡ refused 1
  pub last_level_lem : manual_pick small (fresh small) M 2 (at a 9) (at b 9) ≡ refused 11
  pub deepest : memtable_level small (fresh small) (record { start = a ∷ []; stop = b ∷ [] }) ≡ 1
  pub reads_full : decode full (encode (fresh small)) ≡ some (fresh full)

-- they hold, by computation
pub small_drive : Small
unfolding computes
small_drive = record { fresh_bytes = refl; above = refl; last_level_lem = refl; deepest = refl; reads_full = refl }
