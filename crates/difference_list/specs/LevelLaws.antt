-- Laws of the entries of pointers, which are one run, and of the levels, written level by level. Assumes nothing.
use Prim.Native.Nat.{ℕ, suc, ◌+◌, ◌-◌, ◌*◌, ◌≤◌, ◌<◌}
use Rattle.std.specs.Prelude.{◌≡◌, refl, true, false, drop}
use Rattle.std.proofs.Math.Path.{sym, ap}
use Rattle.std.proofs.Common.{◌∙◌}
use mathlib.Core.List.{List, [], ◌++◌}
use native.Mathlib.Omega.{arith}
use Rattle.std.proofs.Math.ListN.{length}
use Rattle.lemmas.specs.Lists.{join}
use Rattle.lemmas.specs.Laying.{none_laid, none_length}
use Rattle.lemmas.specs.Slices.{put}
use Rattle.model.specs.File.{level_count}
use Rattle.model.specs.Snapshot.{count_long, counters_long}
use Rattle.snapshot_parse.specs.Parsing.{At, number_in}
use Rattle.difference_scan.specs.Scan.{after_all}
use Rattle.difference_scan.specs.Turns.{entries_of}
use Rattle.difference_scan.specs.Listing.{level_entries, pointer_entries}
use Rattle.difference_scan.specs.declared.Places.{Places}
use Rattle.difference_list.specs.declared.Laid.{Laid}
use Rattle.difference_list.specs.Runs.{RunsAt}
use Rattle.difference_list.specs.RunLaws.{entries_at, entries_few}
use Rattle.difference_list.specs.SectionLaws.{put_keeps, turn_laid, turn_length, turn_count}

-- the pointers, which follow the counters, are one run
pub pointers_run : (left right : List ℕ) (a b : ℕ) (p : Places) → At left a (drop counters_long left) → At right b (drop counters_long right) → RunsAt left a right b p → entries_at true 0 left right p ≡ pointer_entries left right
unfolding pointer_entries
pointers_run left right a b p s t r = rw (r.lefts, r.rights, r.at_left.rest, r.at_right.rest, s.rest, t.rest)

-- both snapshots
module _ (left right : List ℕ) where
  -- the entries of the levels from l on, whose sections begin at these places
  abbrev pub levels_from : ℕ → ℕ → ℕ → List (List ℕ)
  levels_from l a b = level_entries (level_count - l) l (drop a left) (drop b right)

  -- how far the entries of the levels are written: with those of the levels that are left they are all
  pub record LevelsWritten (out₀ : List ℕ) (at a b : ℕ) (out : List ℕ) (here : Laid) (l : ℕ) : Type 0 where
    pub few : l ≤ level_count
    pub in_left : here.left ≤ length left
    pub in_right : here.right ≤ length right
    pub long : length out ≡ length out₀
    pub small : here.listed ≤ l * 131070
    pub room : here.next + length (join (levels_from l here.left here.right)) ≡ at + length (join (levels_from 0 a b))
    pub count : here.listed + length (levels_from l here.left here.right) ≡ length (levels_from 0 a b)
    pub laid : put out here.next (join (levels_from l here.left here.right)) ≡ put out₀ at (join (levels_from 0 a b))

  -- a level's run, at places p, and what is written of it
  module _ (l a b : ℕ) (h : l < level_count) (p : Places) (r : RunsAt left a right b p) where
    -- its entries
    abbrev pub level_run : List (List ℕ)
    level_run = entries_at false l left right p

    -- they are those of the level
    run_is : level_run ≡ entries_of false l (number_in count_long (drop a left)) (drop count_long (drop a left)) (number_in count_long (drop b right)) (drop count_long (drop b right))
    run_is = rw (r.lefts, r.rights, r.at_left.rest, r.at_right.rest)

    -- those of the levels after it
    abbrev later : List (List ℕ)
    later = level_entries (level_count - (l + 1)) (l + 1) (after_all false p.lefts (drop p.left left)) (after_all false p.rights (drop p.right right))

    -- the entries of the levels from here on are its entries and those of the levels after it
    levels_split : levels_from l a b ≡ level_run ++ later
    unfolding level_entries
    levels_split =
        let k : level_count - l ≡ suc (level_count - (l + 1)) = omega arith in
        let n : suc l ≡ l + 1 = omega arith in
        rw (k, run_is, n, r.lefts, r.rights, r.at_left.rest, r.at_right.rest)

    -- they have room
    pub level_fits : (out₀ : List ℕ) (at a₀ b₀ : ℕ) (out : List ℕ) (here : Laid) → LevelsWritten out₀ at a₀ b₀ out here l → here.left ≡ a → here.right ≡ b → at + length (join (levels_from 0 a₀ b₀)) ≤ length out₀
        → here.next + length (join level_run) ≤ length out
    level_fits out₀ at a₀ b₀ out here w ea eb fits =
        let on : levels_from l here.left here.right ≡ level_run ++ later = rw (ea, eb) levels_split in
        omega (arith, w.room, w.long, turn_length level_run later (levels_from l here.left here.right) on)

    module _ (c d : ℕ) (e : At left c (after_all false p.lefts (drop p.left left))) (f : At right d (after_all false p.rights (drop p.right right))) where
      -- the places after it are those of the levels after it
      levels_on : levels_from l a b ≡ level_run ++ levels_from (l + 1) c d
      levels_on = levels_split ∙ rw (e.rest, f.rest)

      -- what is written then
      pub level_on : (out₀ : List ℕ) (at a₀ b₀ : ℕ) (out : List ℕ) (here : Laid) → LevelsWritten out₀ at a₀ b₀ out here l → here.left ≡ a → here.right ≡ b → at + length (join (levels_from 0 a₀ b₀)) ≤ length out₀
          → (made next : Laid) → made.left ≡ c → made.right ≡ d → made.next ≡ here.next + length (join level_run) → made.listed ≡ length level_run → (out' : List ℕ) → out' ≡ put out here.next (join level_run)
          → next ≡ record { left = made.left; right = made.right; next = made.next; listed = here.listed + made.listed } → LevelsWritten out₀ at a₀ b₀ out' next (l + 1)
      level_on out₀ at a₀ b₀ out here w ea eb fits made next ec ed en el out' eo er =
          let on : levels_from l here.left here.right ≡ level_run ++ levels_from (l + 1) c d = rw (ea, eb) levels_on in
          let long = turn_length level_run (levels_from (l + 1) c d) (levels_from l here.left here.right) on in
          let has : here.next + length (join level_run) ≤ length out = omega (arith, w.room, w.long) in
          rw (er, ec, ed, en, el) (record {
            few = omega arith;
            in_left = e.within;
            in_right = f.within;
            long = put_keeps out out' (join level_run) here.next has eo ∙ w.long;
            small = omega (arith, w.small, entries_few false l p.lefts (drop p.left left) p.rights (drop p.right right), r.few_lefts, r.few_rights);
            room = omega (arith, w.room);
            count = omega (arith, w.count, turn_count level_run (levels_from (l + 1) c d) (levels_from l here.left here.right) on);
            laid = turn_laid level_run (levels_from (l + 1) c d) (levels_from l here.left here.right) on out out' here.next (here.next + length (join level_run)) has eo refl ∙ w.laid;
          })

  -- all levels are written
  pub levels_done : (out₀ : List ℕ) (at a b : ℕ) (out : List ℕ) (here : Laid) (l : ℕ) → LevelsWritten out₀ at a b out here l → level_count ≤ l
      → (here.next ≡ at + length (join (levels_from 0 a b))) × (here.listed ≡ length (levels_from 0 a b)) × (out ≡ put out₀ at (join (levels_from 0 a b)))
  unfolding level_entries
  levels_done out₀ at a b out here l w h =
      let k : level_count - l ≡ 0 = omega arith in
      let none : levels_from l here.left here.right ≡ [] = rw k in
      (omega (arith, w.room, none_length (levels_from l here.left here.right) none), omega (arith, w.count, ap length none), sym (none_laid (levels_from l here.left here.right) none out here.next) ∙ w.laid)
