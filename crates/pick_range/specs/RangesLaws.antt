-- Laws of ranges by value: the files of a run that overlap, turn by turn. Assumes nothing.
use Rattle.std.specs.Prelude.{ℕ, ◌+◌, ◌≤◌, ◌<◌, ◌≡◌, Bool, List, length, get_or}
use Rattle.std.proofs.Math.Path.{refl, ap}
use Rattle.std.proofs.Math.Bool.{true, false, not}
use Rattle.lemmas.specs.Lists.{keep, any, sum}
use Rattle.lemmas.specs.Loops.{any_here, any_later, keep_here, keep_later}
use Rattle.model.specs.File.{File, total}
use Rattle.model.specs.Key.{user, user_before}
use Rattle.model.specs.Range.{Range, between, overlaps, inside, sticks_out}
use Rattle.keys.specs.declared.Key.{Key}
use Rattle.keys.specs.Key.{key_of}
use Rattle.keys.specs.KeyLaws.{user_of_record, user_short}
use Rattle.records.specs.Record.{file_of, past}
use Rattle.records.specs.RecordLaws.{run_turn, run_ended}
use Rattle.records.specs.Run.{run}
use Rattle.records.specs.declared.FileRecord.{FileRecord}
use Rattle.pick_range.specs.Ranges.{span_of, span_record}

-- the kept span of the range of two internal keys stands for it
pub span_between : (a b : Key) → span_of (span_record (between (key_of a) (key_of b))) ≡ between (key_of a) (key_of b)
unfolding span_of span_record between
span_between a b =
    let start = user_of_record (user (key_of a)) (user_short a) in
    let stop = user_of_record (user (key_of b)) (user_short b) in
    λ i. record { start = start i; stop = stop i }

-- ---- a file that overlaps and sticks out, in the order of the tests
module _ (r : Range) (f : File) where
  -- it does not overlap
  pub sticks_none : overlaps r f ≡ false → sticks_out r f ≡ false
  unfolding sticks_out
  sticks_none o = rw o

  -- it begins before the start
  pub sticks_before : overlaps r f ≡ true → user_before (user f.smallest) r.start ≡ true → sticks_out r f ≡ true
  unfolding sticks_out inside
  sticks_before o a = rw (o, a)

  -- it does not: it sticks out if it ends after the stop
  pub sticks_after : overlaps r f ≡ true → user_before (user f.smallest) r.start ≡ false → sticks_out r f ≡ user_before r.stop (user f.largest)
  unfolding sticks_out inside
  sticks_after o a = rw (o, a) (twice (user_before r.stop (user f.largest)))
    where
      twice : (b : Bool) → not (not b) ≡ b
      twice true = refl
      twice false = refl

-- ---- the files of a run that pass a test, turn by turn
module _ (p : File → Bool) (i e : ℕ) (files : List FileRecord) where
  module _ (h : i < e) (k : e ≤ length files) where
    -- the file at i
    abbrev now : File
    now = file_of (get_or files i past)

    -- it passes: some file does
    pub any_run_found : p now ≡ true → any p (run i e files) ≡ true
    any_run_found t = any_here p (run i e files) (run (i + 1) e files) now (run_turn i e files h k) t

    -- it does not: the files after it decide
    pub any_run_passed : p now ≡ false → any p (run i e files) ≡ any p (run (i + 1) e files)
    any_run_passed t = any_later p (run i e files) (run (i + 1) e files) now (run_turn i e files h k) t

    -- bytes: the file at i passes and counts
    pub bytes_kept : p now ≡ true → total (keep p (run i e files)) ≡ (get_or files i past).size + total (keep p (run (i + 1) e files))
    unfolding total sum file_of
    bytes_kept t = ap total (keep_here p (run i e files) (run (i + 1) e files) now (run_turn i e files h k) t)

    -- it does not and does not count
    pub bytes_passed : p now ≡ false → total (keep p (run i e files)) ≡ total (keep p (run (i + 1) e files))
    bytes_passed t = ap total (keep_later p (run i e files) (run (i + 1) e files) now (run_turn i e files h k) t)

  -- none is left
  pub any_run_ended : e ≤ i → any p (run i e files) ≡ false
  unfolding any
  any_run_ended h = rw (run_ended i e files h)

  -- no bytes are left
  pub bytes_ended : e ≤ i → total (keep p (run i e files)) ≡ 0
  unfolding total sum keep
  bytes_ended h = rw (run_ended i e files h)
