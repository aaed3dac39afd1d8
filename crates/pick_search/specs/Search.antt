-- One search of a pick over a lent store, step by step, and the result of all searches. Assumes nothing.
use Rattle.std.specs.Prelude.{ℕ, ◌+◌, ◌≤◌, ◌<◌, ◌≡◌, Bool, true, false, not, ◌&&◌, cond, List, ◌++◌, eqb, ltb}
use Rattle.lemmas.specs.Lists.{is_empty, take_on}
use Rattle.model.specs.Completion.{follows}
use Rattle.model.specs.File.{File, level, total, level_count, max_bytes, max_files}
use Rattle.model.specs.Key.{user, user_before}
use Rattle.model.specs.Range.{Range, overlapping, high_key}
use Rattle.model.specs.Pick.{largest_maximum}
use Rattle.keys.specs.Key.{key_of, user_of}
use Rattle.records.specs.Record.{file_of}
use Rattle.records.specs.Run.{run}
use Rattle.records.specs.declared.FileRecord.{FileRecord}
use Rattle.store.specs.declared.Store.{Store}
use Rattle.store.specs.Store.{state_of, well_store}
use Rattle.pick_range.specs.declared.Span.{Span}
use Rattle.pick_range.specs.Ranges.{span_of}
use Rattle.pick_found.specs.declared.FoundRun.{FoundRun}
use Rattle.pick_found.specs.FoundRun.{low_with, high_with, reached, Contiguous, Summed}
use Rattle.pick_search.specs.declared.Choice.{Choice}
use Rattle.pick_search.specs.declared.Chosen.{Chosen}
use Rattle.pick_search.specs.declared.Question.{Question}
use Rattle.pick_search.specs.declared.Sweep.{Sweep}
use Rattle.pick_search.specs.Choice.{question_of, filled_with, laid_choice, firsts, SearchInvariant, Widest, Finds}

-- ---- file by file
-- a rule may take files after those found: by the range always, by the edge only if the question completes and there are files
unfoldable pub may_take : Question → Bool → FoundRun → Bool
may_take q edge a = cond edge (q.edges && not (eqb a.count 0)) true

-- a search that goes on from the files found: if the rule may take files, and while a place is left
unfoldable pub sweep_from : Question → Bool → FoundRun → Sweep
sweep_from q edge a = record { found = a; goes = may_take q edge a && ltb (a.from + a.count) q.to }

-- the next file is taken by its record. By the range: the bytes so far are not above the limit, and it does not begin after the range.
-- By the edge: it may take files, and the file's smallest key follows the largest key of the files found with the same user key
unfoldable pub takes_next : Question → Bool → FoundRun → FileRecord → Bool
takes_next q edge a f = cond edge (may_take q edge a && follows (key_of a.ends.high) (file_of f))
    (not (ltb q.most a.bytes) && not (user_before (user_of q.span.stop) (user (key_of f.smallest))))

-- the files found with the next file added
pub record Grows (a : FoundRun) (f : FileRecord) (b : FoundRun) : Type 0 where
  pub from : b.from ≡ a.from
  pub count : b.count ≡ a.count + 1
  pub low : key_of b.ends.low ≡ low_with a.count (key_of a.ends.low) 1 (key_of f.smallest)
  pub high : key_of b.ends.high ≡ high_with a.count (key_of a.ends.high) 1 (key_of f.largest)
  pub bytes : b.bytes ≡ a.bytes + f.size

-- the search after the next file: it is taken and the search goes on if a place is left, or the search ends
pub record Sweeps (w : Sweep) (q : Question) (edge : Bool) (f : FileRecord) (r : Sweep) : Type 0 where
  pub ends : takes_next q edge w.found f ≡ false → r ≡ record { found = w.found; goes = false }
  pub grows : takes_next q edge w.found f ≡ true → Grows w.found f r.found
  pub goes_on : takes_next q edge w.found f ≡ true → r.goes ≡ ltb (w.found.from + w.found.count + 1) q.to

-- ---- all files that a rule takes
-- a file is taken after the files xs. By the range: their bytes are not above the limit, and it does not begin after the range.
-- By the edge: the question completes, and the file's smallest key follows their largest with the same user key
unfoldable pub takes_after : Question → Bool → List File → File → Bool
takes_after q edge xs f = cond edge (q.edges && not (is_empty xs) && follows (high_key xs) f) (not (ltb q.most (total xs)) && reached (user_of q.span.stop) f)

-- files found at places up to an end within the room. Their bytes, with those of the files after them, are bounded
pub record Takable (files : List FileRecord) (to : ℕ) (a : FoundRun) : Type 0 where
  pub fits : a.from + a.count ≤ to
  pub room : to ≤ max_files
  pub sums : Summed (run a.from (a.from + a.count) files) a.ends a.bytes
  pub small : a.bytes + total (run (a.from + a.count) to files) ≤ max_bytes

-- the files found, and of those after them the ones that the rule takes, up to the first that it does not
pub record Takes (files : List FileRecord) (q : Question) (edge : Bool) (a r : FoundRun) : Type 0 where
  pub starts : r.from ≡ a.from
  pub fits : r.from + r.count ≤ q.to
  pub sums : Summed (run r.from (r.from + r.count) files) r.ends r.bytes
  pub takes : run r.from (r.from + r.count) files
      ≡ run a.from (a.from + a.count) files ++ take_on (takes_after q edge) (run a.from (a.from + a.count) files) (run (a.from + a.count) q.to files)

-- ---- one search
-- the question with another range
unfoldable pub spanning : Question → Span → Question
spanning q r = record { from = q.from; to = q.to; widens = q.widens; edges = q.edges; span = r; most = q.most }

-- places within the room, in which the files that overlap the range to search by stand side by side
pub record Findable (files : List FileRecord) (q : Question) : Type 0 where
  pub room : q.to ≤ max_files
  pub side : (w : Range) → Widest q files w → Contiguous files q.from q.to w

-- the files found by the range to search by
pub record Overlaps (files : List FileRecord) (q : Question) (r : FoundRun) : Type 0 where
  pub wide : Range
  pub widest : Widest q files wide
  pub finds : Finds q files wide r

-- M and the bytes found are within their bounds
pub record Weighed (d : Choice) : Type 0 where
  pub maximum : d.maximum ≤ largest_maximum
  pub grown : d.grown.bytes ≤ max_bytes
  pub second : d.second.bytes ≤ max_bytes

-- the pick after its k-th search: the files found by the range, then completed
pub record Searched (s : Store) (d : Choice) (k : ℕ) (r : Choice) : Type 0 where
  pub found : FoundRun
  pub list : FoundRun
  pub overlaps : Overlaps s.files (question_of d k s.counts) found
  pub completes : Takes s.files (question_of d k s.counts) true found list
  pub kept : r ≡ filled_with d k list

-- ---- all searches
-- a pick that is ready for the searches from start on: store, level, M and start are in range, and the invariant holds
pub record Ready (s : Store) (c : Choice) (start : ℕ) : Type 0 where
  pub well : well_store s ≡ true
  pub level : c.level < level_count
  pub maximum : c.maximum ≤ largest_maximum
  pub order : start ≤ 5
  pub stands : SearchInvariant s (firsts s start c) start c

-- the result of these searches
pub record Chooses (s : Store) (c : Choice) (start : ℕ) (r : Choice) : Type 0 where
  pub stands : SearchInvariant s (firsts s start c) 5 r
  pub level : r.level ≡ c.level
  pub maximum : r.maximum ≡ c.maximum

-- the files of a level that overlap a range, not completed, as the first inputs of a choice with no other files
pub record Lists (s : Store) (n : ℕ) (r : Span) (c : Chosen) : Type 0 where
  pub stands : SearchInvariant s (overlapping n (level (state_of s) n) (span_of r)) 1 c.choice
  pub files : c.files ≡ laid_choice s c.choice

-- the choice was made from this store
pub record Placed (s : Store) (c : Choice) : Type 0 where
  pub inputs : List File
  pub search : ℕ
  pub stands : SearchInvariant s inputs search c
