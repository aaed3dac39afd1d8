-- Laws of many searches in one list: what one more adds, the state of a round, its sum, and which lists can be searched. Assumes nothing.
use Prim.Native.Nat.{ℕ, zero, suc, ◌+◌, ◌-◌, ◌*◌, ◌≤◌, ◌<◌}
use Rattle.std.specs.Prelude.{◌≡◌, Bool, true, false, cond, List, [], ◌∷◌, map, length, take}
use Rattle.std.proofs.Math.Path.{refl}
use Rattle.std.proofs.Math.Numerals.{unary_clauses}
use Rattle.std.proofs.Common.{arith, length-take}
use Rattle.std.proofs.lemmas.List.{length-map}
use Rattle.model.specs.Key.{before}
use Rattle.model.specs.File.{File, max_files}
use Rattle.model.specs.Question.{passed}
use Rattle.keys.specs.Key.{key_of}
use Rattle.records.specs.Record.{file_of}
use Rattle.level_list.specs.List.{well_list}
use Rattle.level_list.specs.ListLaws as list
use Rattle.level_list.specs.declared.FileList.{FileList}
use Rattle.ask_find.specs.FindingLaws.{well_deep}
use Rattle.bench_loops.specs.declared.Round.{Round}
use Rattle.bench_loops.specs.Rounds.{turned, asked, Asking, round_most}

-- no more files end before the key than there are
passed_few : (k : List ℕ) (fs : List File) → passed k fs ≤ length fs
unfolding passed
passed_few k [] = omega arith
passed_few k (f ∷ fs) = go (before f.largest k) (passed_few k fs)
  where
    go : (t : Bool) → passed k fs ≤ length fs → cond t (suc (passed k fs)) 0 ≤ suc (length fs)
    go true h = omega arith
    go false h = omega arith

-- the sum that a round will have
abbrev pub comes : List File → Round → ℕ
comes fs r = r.sum + asked r.left (key_of r.next) (key_of r.after) fs

module _ (fs : List File) (r : Round) where
  -- one search adds its place, and the others follow with the keys exchanged
  asked_turn : (n : ℕ) → 0 < n → asked n (key_of r.next) (key_of r.after) fs ≡ passed (key_of r.next) fs + asked (n - 1) (key_of r.after) (key_of r.next) fs
  unfolding asked
  asked_turn zero h = absurd (omega arith)
  asked_turn (suc n) h = simp unary_clauses

  -- no search is left: the sum is 0
  asked_none : (n : ℕ) → n ≤ 0 → asked n (key_of r.next) (key_of r.after) fs ≡ 0
  unfolding asked
  asked_none zero h = refl
  asked_none (suc n) h = absurd (omega arith)

  -- the sum stays small
  pub turn_small : (at : ℕ) → at ≡ passed (key_of r.next) fs → 0 < r.left → Asking fs r → r.sum + at ≤ round_most
  turn_small at e h a = omega (arith, a.few, a.small, passed_few (key_of r.next) fs)

-- the state of a round: it can go on, and will have the same sum
pub record Turning (fs : List File) (start r : Round) : Type 0 where
  pub asking : Asking fs r
  pub same : comes fs r ≡ comes fs start

module _ (fs : List File) (start : Round) where
  -- at first
  pub turning_starts : Asking fs start → Turning fs start start
  turning_starts a = record { asking = a; same = refl }

  -- one more search keeps it
  pub turning_keeps : (r : Round) → Turning fs start r → 0 < r.left → (at : ℕ) → at ≡ passed (key_of r.next) fs → Turning fs start (turned r at)
  turning_keeps r f h at e =
      record {
        asking = record { deep = f.asking.deep; few = f.asking.few; small = omega (arith, f.asking.few, f.asking.small, passed_few (key_of r.next) fs) };
        same = omega (arith, f.same, asked_turn fs r r.left h);
      }

  -- nothing is left to ask
  pub turning_ended : (r : Round) → Turning fs start r → r.left ≤ 0 → r.sum ≡ comes fs start
  turning_ended r f h = omega (arith, f.same, asked_none fs r r.left h)

-- a well-formed list of a level above 0 can be asked each round whose sum stays small
pub well_asking : (n : ℕ) (l : FileList) (r : Round) → (n ≡ 0 → ⊥) → well_list n l ≡ true → r.sum + max_files * r.left ≤ round_most → Asking (map file_of (take l.count l.files)) r
well_asking n l r h w s =
    record {
      deep = well_deep n l h w;
      few = omega (arith, length-map (take l.count l.files) file_of, length-take l.count l.files, list.well_room n l w);
      small = s;
    }
