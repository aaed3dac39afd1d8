-- Laws of gathering the lent records by value, one at each turn. Assumes nothing.
use Prim.Native.Nat.{ℕ, ◌+◌, ◌≤◌, ◌<◌, min}
use Rattle.std.specs.Prelude.{◌≡◌, List, get_or, take, set}
use Rattle.std.proofs.Math.Path.{refl, sym, ap}
use Rattle.std.proofs.Common.{◌∙◌, length-set}
use native.Mathlib.Omega.{arith}
use Rattle.std.proofs.Math.ListN.{length, length-replicate}
use Rattle.std.proofs.Math.Seq.{slice}
use Rattle.lemmas.specs.Slices.{put, put_cons, put_nil, run_cons, run_past, run_within}
use Rattle.model.specs.File.{full, max_files}
use Rattle.records.specs.Record.{blank, vacant, past}
use Rattle.records.specs.declared.FileRecord.{FileRecord}
use Rattle.ask_find.specs.Finding.{gathered}

-- the number of records taken: no more than the room
abbrev pub taken : List FileRecord → ℕ
taken rs = min (length rs) max_files

-- the array after i records: writing the rest gives all
pub record Gathering (rs zs : List FileRecord) (i : ℕ) : Type 0 where
  pub some_of : i ≤ taken rs
  pub room : length zs ≡ max_files
  pub holds : put zs i (slice i (taken rs) rs) ≡ put (vacant max_files) 0 (slice 0 (taken rs) rs)

module _ (rs : List FileRecord) where
  -- at first no record is written
  pub starts : Gathering rs (vacant max_files) 0
  unfolding vacant
  starts = record { some_of = omega arith; room = length-replicate max_files blank; holds = refl }

  -- a turn writes one more
  pub keeps : (zs : List FileRecord) (i : ℕ) → Gathering rs zs i → i < taken rs → Gathering rs (set zs i (get_or rs i past)) (i + 1)
  keeps zs i g h =
      let x = get_or rs i past in
      record {
        some_of = omega arith;
        room = length-set zs i x ∙ g.room;
        holds = put_cons zs i x (slice (i + 1) (taken rs) rs) (omega (arith, g.room)) ∙ ap (put zs i) (sym (run_cons i (taken rs) rs past h (omega arith))) ∙ g.holds;
      }

  -- at the end all that there is room for are written
  pub ends : (zs : List FileRecord) (i : ℕ) → Gathering rs zs i → taken rs ≤ i → record { files = zs; count = length rs } ≡ gathered rs
  unfolding gathered full
  ends zs i g h =
      let swap : min (length rs) max_files ≡ min max_files (length rs) = omega arith in
      let files : zs ≡ put (vacant max_files) 0 (take max_files rs) =
      sym (ap (put zs i) (run_past i (taken rs) rs h) ∙ put_nil zs i) ∙ g.holds ∙ ap (put (vacant max_files) 0) (ap (λ (e : ℕ). slice 0 e rs) swap ∙ run_within 0 max_files (length rs) rs refl) in
      λ j. record { files = files j; count = length rs }
