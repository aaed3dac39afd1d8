-- The snapshot that a list makes of a left snapshot, made of their bytes alone. Assumes nothing.
use Rattle.std.specs.Prelude.{ℕ, zero, suc, ◌-◌, cond, true, false, ◌&&◌, List, [], ◌∷◌, ◌++◌, eqb, ltb, take, drop}
use Rattle.model.specs.File.{level_count}
use Rattle.model.specs.Snapshot.{section, byte_long, count_long, number_long, counter_count}
use Rattle.snapshot_parse.specs.Parsing.{number_in}
use Rattle.difference_scan.specs.Scan.{after_all}
use Rattle.difference_scan.specs.Listing.{pointers_at, levels_at, counter_bytes, as_is}
use Rattle.patch_scan.specs.Listed.{after_each, over_run, run_long}

-- ---- the sections of a list
-- the entries of pointers follow those of files
unfoldable pub pointers_in : List ℕ → List ℕ
pointers_in ds = after_each false (number_in count_long ds) (drop count_long ds)

-- the entries of counters follow those of pointers
unfoldable pub counters_in : List ℕ → List ℕ
counters_in ds = after_each true (number_in count_long (pointers_in ds)) (drop count_long (pointers_in ds))

-- ---- the sections of the outcome
-- n counters from place i on, with m entries laid over them
unfoldable pub counters_over : ℕ → ℕ → List ℕ → ℕ → List ℕ → List (List ℕ)
counters_over i zero bs m cs = []
counters_over i (suc n) bs m cs =
    cond (ltb 0 m && eqb (number_in byte_long cs) i) (take number_long (drop byte_long cs) ∷ counters_over (suc i) n bs (m - 1) (drop number_long (drop byte_long cs))) (counter_bytes bs i ∷ counters_over (suc i) n bs m cs)

-- the sections of k levels from level l on, with m entries of files laid over them
unfoldable pub levels_over : ℕ → ℕ → List ℕ → ℕ → List ℕ → List ℕ
levels_over zero l bs m cs = []
levels_over (suc k) l bs m cs =
    let n : ℕ = number_in count_long bs in
    let r : ℕ = run_long l m cs in
    section as_is (over_run false n (drop count_long bs) r cs) ++ levels_over k (suc l) (after_all false n (drop count_long bs)) (m - r) (after_each false r cs)

-- all counters, with the entries of counters in these bytes of a list laid over them
abbrev pub all_counters_over : List ℕ → List ℕ → List (List ℕ)
all_counters_over bs ds = counters_over 0 counter_count bs (number_in count_long ds) (drop count_long ds)

-- the pointers, with the entries of pointers in these bytes of a list laid over them
abbrev pub pointers_over : List ℕ → List ℕ → List (List ℕ)
pointers_over bs ds = over_run true (number_in count_long (pointers_at bs)) (drop count_long (pointers_at bs)) (number_in count_long ds) (drop count_long ds)

-- the whole snapshot: counters, pointers, levels
unfoldable pub outcome_of : List ℕ → List ℕ → List ℕ
outcome_of bs ds =
    section as_is (all_counters_over bs (counters_in ds))
    ++ (section as_is (pointers_over bs (pointers_in ds))
    ++ levels_over level_count 0 (levels_at bs) (number_in count_long ds) (drop count_long ds))
