-- Laws of the levels of an outcome, written section by section as far as the output has room. Assumes nothing.
use Prim.Native.Nat.{ℕ, zero, suc, ◌+◌, ◌-◌, ◌≤◌, ◌<◌}
use Rattle.std.specs.Prelude.{◌≡◌, Bool, true, false, cond, List, ◌++◌, eqb, length, drop}
use Rattle.std.proofs.Common.{◌∙◌}
use native.Mathlib.Omega.{arith}
use Rattle.model.specs.File.{level_count}
use Rattle.model.specs.Snapshot.{section, count_long}
use Rattle.snapshot_parse.specs.Parsing.{At, number_in}
use Rattle.difference_scan.specs.Scan.{after_all}
use Rattle.difference_scan.specs.Listing.{as_is}
use Rattle.difference_scan.specs.declared.Places.{Places}
use Rattle.patch_scan.specs.Listed.{level_in, after_listed, after_each, over_run, run_long}
use Rattle.patch_scan.specs.Outcome.{levels_over}
use Rattle.patch_scan.specs.Over.{Fitted, TooLong}
use Rattle.patch_scan.specs.Ends.{RunEnds}
use Rattle.patch_over.specs.CounterLaws.{Begun, begins, begun_done, begun_on, begun_full}

-- of some entries no more than they are of a level
pub run_few : (l m : ℕ) (cs : List ℕ) → run_long l m cs ≤ m
unfolding run_long
run_few l zero cs = omega arith
run_few l (suc m) cs = go (eqb (level_in cs) l) (run_few l m (after_listed false cs))
  where
    go : (t : Bool) → run_long l m (after_listed false cs) ≤ m → cond t (suc (run_long l m (after_listed false cs))) 0 ≤ suc m
    go true h = omega arith
    go false h = omega arith

-- a snapshot and a list
module _ (left list : List ℕ) where
  -- the sections of the levels from l on, which begin at place a of the snapshot, with m entries, which begin at place b of the list, laid over them
  abbrev pub levels_left : ℕ → ℕ → ℕ → ℕ → List ℕ
  levels_left l a m b = levels_over (level_count - l) l (drop a left) m (drop b list)

  -- how far the levels are written: with those that are left they are all, begun at place `at` of the output
  pub record LevelsWritten (out₀ : List ℕ) (at a b m : ℕ) (out : List ℕ) (left_at list_at rest next l : ℕ) : Type 0 where
    pub in_left : left_at ≤ length left
    pub in_list : list_at ≤ length list
    pub few_rest : rest < 65536
    pub begun : Begun out₀ at (levels_left 0 a m b) out next (levels_left l left_at rest list_at)

  -- no level is written yet
  pub levels_begin : (out₀ : List ℕ) (at a b m : ℕ) → a ≤ length left → b ≤ length list → m < 65536 → at ≤ length out₀ → LevelsWritten out₀ at a b m out₀ a b m at 0
  levels_begin out₀ at a b m ha hb hm h = record { in_left = ha; in_list = hb; few_rest = hm; begun = begins out₀ at (levels_left 0 a m b) h }

  -- what a turn found: the count of the level and of its entries, and where both begin
  pub record LevelFound (left_at list_at rest l : ℕ) (p : Places) : Type 0 where
    pub below : l < level_count
    pub lefts : p.lefts ≡ number_in count_long (drop left_at left)
    pub rights : p.rights ≡ run_long l rest (drop list_at list)
    pub at_left : At left p.left (drop count_long (drop left_at left))
    pub at_list : p.right ≡ list_at

-- a turn
module _ {left list : List ℕ} {left_at list_at rest l : ℕ} {p : Places} (f : LevelFound left list left_at list_at rest l p) where
  -- the section that it writes
  abbrev pub level_section : List ℕ
  level_section = section as_is (over_run false p.lefts (drop p.left left) p.rights (drop p.right list))

  -- the sections of the levels after it
  abbrev later : List ℕ
  later = levels_over (level_count - (l + 1)) (l + 1) (after_all false p.lefts (drop p.left left)) (rest - p.rights) (after_each false p.rights (drop p.right list))

  -- what is left is this section and those
  levels_first : levels_left left list l left_at rest list_at ≡ level_section ++ later
  unfolding levels_over
  levels_first =
      let k : level_count - l ≡ suc (level_count - (l + 1)) = omega (arith, f.below) in
      let n : suc l ≡ l + 1 = omega arith in
      rw (k, n, f.lefts, f.rights, f.at_left.rest, f.at_list)

  module _ {out₀ : List ℕ} {at a₀ b₀ m₀ : ℕ} {out : List ℕ} {next : ℕ} (w : LevelsWritten left list out₀ at a₀ b₀ m₀ out left_at list_at rest next l) {out' : List ℕ} where
    -- it is written: how far the levels are written then
    pub level_on : {next' : ℕ} → Fitted out next level_section out' next' → (a b : ℕ) → RunEnds false left list p a b → LevelsWritten left list out₀ at a₀ b₀ m₀ out' a b (rest - p.rights) next' (l + 1)
    level_on g a b e = record {
      in_left = e.at_left.within;
      in_list = e.at_list.within;
      few_rest = omega (arith, w.few_rest);
      begun = begun_on w.begun level_section (levels_left left list (l + 1) a (rest - p.rights) b) (levels_first ∙ rw (e.at_left.rest, e.at_list.rest)) g;
    }

    -- there is no room for it: nor for all levels
    pub level_full : TooLong out next level_section out' → TooLong out₀ at (levels_over level_count 0 (drop a₀ left) m₀ (drop b₀ list)) out'
    level_full g = begun_full w.begun level_section later levels_first g

-- no level is left: all are written
pub levels_done : {left list out₀ : List ℕ} {at a b m : ℕ} {out : List ℕ} {left_at list_at rest next l : ℕ} → LevelsWritten left list out₀ at a b m out left_at list_at rest next l → level_count ≤ l
    → Fitted out₀ at (levels_over level_count 0 (drop a left) m (drop b list)) out next
unfolding levels_over
levels_done {l = l} w h = let k : level_count - l ≡ 0 = omega arith in begun_done w.begun (rw k)
