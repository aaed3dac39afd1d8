-- Files found at a level by value, as a run of places: their ends and bytes, what a search over a level finds, and their ranges. Assumes nothing.
use Rattle.std.specs.Prelude.{ℕ, zero, suc, ◌+◌, ◌^◌, ◌≤◌, ◌<◌, ◌≡◌, Bool, true, false, cond, not, List, [], get_or, take}
use Rattle.lemmas.specs.Lists.{sum, keep}
use Rattle.model.specs.File.{File, total, max_bytes, max_files}
use Rattle.model.specs.Key.{Key, user, user_before, before}
use Rattle.model.specs.Range.{Range, between, overlaps, low_key, high_key}
use Rattle.keys.specs.Key.{key_of, key_record}
use Rattle.records.specs.Record.{file_of, past}
use Rattle.records.specs.Run.{run}
use Rattle.records.specs.declared.Ends.{Ends}
use Rattle.records.specs.declared.FileRecord.{FileRecord}
use Rattle.store.specs.declared.Store.{Store}
use Rattle.pick_range.specs.declared.Span.{Span}
use Rattle.pick_range.specs.Ranges.{span_record}
use Rattle.pick_found.specs.declared.FoundRun.{FoundRun}

-- the place where a level starts
abbrev pub start_at : Store → ℕ → ℕ
start_at s n = sum (take n s.counts)

-- the place where it ends
abbrev pub end_at : Store → ℕ → ℕ
end_at s n = start_at s n + get_or s.counts n 0

-- the file at a place
unfoldable pub file_at : List FileRecord → ℕ → File
file_at files i = file_of (get_or files i past)

-- the smallest key of n files and m files after them, by those of both
unfoldable pub low_with : ℕ → Key → ℕ → Key → Key
low_with n a zero b = a
low_with zero a (suc m) b = b
low_with (suc n) a (suc m) b = cond (before b a) b a

-- the largest key of n files and m files after them, by those of both
unfoldable pub high_with : ℕ → Key → ℕ → Key → Key
high_with n a zero b = a
high_with zero a (suc m) b = b
high_with (suc n) a (suc m) b = cond (before a b) b a

-- the ends and bytes are those of the files
pub record Summed (fs : List File) (ends : Ends) (bytes : ℕ) : Type 0 where
  pub low : key_of ends.low ≡ low_key fs
  pub high : key_of ends.high ≡ high_key fs
  pub bytes_are : bytes ≡ total fs

-- no files, at a place
unfoldable pub none_at : ℕ → FoundRun
none_at i = record { from = i; count = 0; ends = record { low = key_record []; high = key_record [] }; bytes = 0 }

-- a file ends before a range begins
unfoldable pub ends_before : Range → File → Bool
ends_before r f = user_before (user f.largest) r.start

-- a file begins after a range ends
unfoldable pub begins_after : Range → File → Bool
begins_after r f = user_before r.stop (user f.smallest)

-- a run of places in which the files that overlap a range stand side by side: after one that overlaps none ends before the range, and after one that begins after it
-- all do. Their bytes are bounded
pub record Contiguous (files : List FileRecord) (from to : ℕ) (r : Range) : Type 0 where
  pub within : from ≤ to
  pub room : to ≤ max_files
  pub small : total (run from to files) ≤ max_bytes
  pub none_before : (i j : ℕ) → from ≤ i → i < j → j < to → overlaps r (file_at files i) ≡ true → ends_before r (file_at files j) ≡ false
  pub all_after : (i j : ℕ) → from ≤ i → i < j → j < to → begins_after r (file_at files i) ≡ true → begins_after r (file_at files j) ≡ true

-- files found in a run, with their ends and bytes
pub record Gathered (files : List FileRecord) (from to : ℕ) (r : FoundRun) : Type 0 where
  pub starts : from ≤ r.from
  pub fits : r.from + r.count ≤ to
  pub sums : Summed (run r.from (r.from + r.count) files) r.ends r.bytes

-- the files found, as a list
unfoldable pub inputs_of : Store → FoundRun → List File
inputs_of s r = run r.from (r.from + r.count) s.files

-- the files found are no more than level n has, at places that hold files
pub record HeldAt (s : Store) (n : ℕ) (r : FoundRun) : Type 0 where
  pub few : r.count ≤ get_or s.counts n 0
  pub below : r.from + r.count ≤ sum s.counts

-- files found at a level of a store, with their ends and bytes
pub record Known (s : Store) (n : ℕ) (r : FoundRun) : Type 0 where
  pub held : HeldAt s n r
  pub sums : Summed (inputs_of s r) r.ends r.bytes

-- the range of files found: from their smallest to their largest key
unfoldable pub range_found : FoundRun → Span
range_found a = span_record (between (key_of a.ends.low) (key_of a.ends.high))

-- the joint range of files found at two levels
unfoldable pub joint_found : FoundRun → FoundRun → Span
joint_found a b =
    span_record (between (low_with a.count (key_of a.ends.low) b.count (key_of b.ends.low)) (high_with a.count (key_of a.ends.high) b.count (key_of b.ends.high)))

-- the file does not begin after the range
abbrev pub reached : List ℕ → File → Bool
reached stop f = not (user_before stop (user f.smallest))

-- no file before lo overlaps, and from lo on a file overlaps exactly if it does not begin after the range
pub record Passed (files : List FileRecord) (from to : ℕ) (r : Range) (lo : ℕ) : Type 0 where
  pub least : from ≤ lo
  pub most : lo ≤ to
  pub kept : keep (overlaps r) (run from to files) ≡ keep (reached r.stop) (run lo to files)
