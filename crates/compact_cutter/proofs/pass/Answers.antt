-- `pass` meets its contract: a turn passes one more grandparent.
use Rattle.std.proofs.Common.{◌≡◌, ℕ, ◌+◌, ◌≤◌, ◌<◌, true, List, ◌∷◌, length, get_or, sym, ap, ◌∙◌, arith}
use Rattle.model.specs.File.{File, max_files}
use Rattle.model.specs.Key.{before}
use Rattle.keys.specs.Key.{key_of}
use Rattle.records.specs.Record.{file_of, past}
use Rattle.records.specs.RecordLaws.{run_turn, run_ended}
use Rattle.records.specs.Run.{run}
use Rattle.records.specs.declared.FileRecord.{FileRecord}
use Rattle.pick_answer.specs.PickedLaws.{well_room}
use Rattle.pick_answer.specs.declared.Picked.{Picked}
use Rattle.pick_answer.proofs.Shape.{shape}
use Rattle.compact_cutter.specs.declared.Passing.{Passing}
use Rattle.compact_cutter.specs.CutterLaws.{passing_with, passing_starts, passing_on, passing_stops, passing_ends, passing_bound}
use Rattle.compact_cutter.proofs.pass.Goals as goal

module _ (p : Picked) (long : length p.files ≡ max_files) (room : p.first + p.second + p.grand ≤ max_files) (at : ℕ) (h : at < p.grand) (bytes : ℕ) (k : List ℕ) where
  -- the file that is read
  abbrev here : FileRecord
  here = get_or p.files (p.first + p.second + at) past

  -- the grandparents from a place on
  abbrev left : ℕ → List File
  left i = run (p.first + p.second + i) (p.first + p.second + p.grand) p.files

  -- the files from here on begin with the one that is read
  step : left at ≡ file_of here ∷ left (at + 1)
  step =
      let n : p.first + p.second + at + 1 ≡ p.first + p.second + (at + 1) = omega arith in
      run_turn (p.first + p.second + at) (p.first + p.second + p.grand) p.files (omega arith) (omega arith)
      ∙ ap (λ (j : ℕ). file_of here ∷ run j (p.first + p.second + p.grand) p.files) n

  -- it is passed: what it adds, and what the key passes after it
  turn : before (key_of here.largest) k ≡ true → passing_with at bytes (left at) k ≡ passing_with (at + 1) (bytes + here.size) (left (at + 1)) k
  unfolding file_of
  turn t = passing_on at bytes k (left at) (left (at + 1)) (file_of here) step t

pub overflow_add-from : goal.overflow_add-from
overflow_add-from c = omega (arith, well_room c.args.c c.requires.0)

pub loop-at-init : goal.loop-at-init
loop-at-init c = passing_starts c.args.c c.requires.0 c.args.place (key_of c.args.k)

pub overflow_add-f : goal.overflow_add-f
overflow_add-f c = omega (arith, well_room c.args.c c.requires.0)

pub offset_bounds-c-from : goal.offset_bounds-c-from
offset_bounds-c-from c = omega (arith, well_room c.args.c c.requires.0)

pub bounds-c-from : goal.bounds-c-from
bounds-c-from c = omega (arith, well_room c.args.c c.requires.0)

pub returns-then-not-is_before : goal.returns-then-not-is_before
unfolding file_of
returns-then-not-is_before c =
    let p = c.args.c in
    let o = c.loop-at in
    let long = (shape p _ c.well_formed.0).files in
    sym (sym o.invariant ∙ passing_stops o.at o.bytes (key_of c.args.k) (left p long (well_room p c.requires.0) o.at c.loop-at-test.true o.bytes (key_of c.args.k) o.at) (left p long (well_room p c.requires.0) o.at c.loop-at-test.true o.bytes (key_of c.args.k) (o.at + 1)) (file_of (get_or p.files (p.first + p.second + o.at) past))
    (step p long (well_room p c.requires.0) o.at c.loop-at-test.true o.bytes (key_of c.args.k)) (sym c.is_before.ensures ∙ c.if-not-is_before.true))

pub overflow_add-bytes : goal.overflow_add-bytes
unfolding passing_with
overflow_add-bytes c =
    let p = c.args.c in
    let o = c.loop-at in
    let long = (shape p _ c.well_formed.0).files in
    let t = turn p long (well_room p c.requires.0) o.at c.loop-at-test.true o.bytes (key_of c.args.k) (sym c.is_before.ensures ∙ c.if-not-is_before.false) in
    omega (arith, ap (λ (x : Passing). x.bytes) (sym t ∙ o.invariant), passing_bound p c.requires.0 c.args.place (key_of c.args.k) long)

pub loop-at-preserved : goal.loop-at-preserved
loop-at-preserved c =
    let p = c.args.c in
    let o = c.loop-at in
    sym (turn p (shape p _ c.well_formed.0).files (well_room p c.requires.0) o.at c.loop-at-test.true o.bytes (key_of c.args.k) (sym c.is_before.ensures ∙ c.if-not-is_before.false)) ∙ o.invariant

pub returns : goal.returns
returns c =
    let p = c.args.c in
    let o = c.loop-at in
    let end : o.at ≡ p.grand = omega arith in
    let from = p.first + p.second in
    let none = run_ended (from + o.at) (from + p.grand) p.files (omega arith) in
    sym (sym o.invariant ∙ passing_ends o.at o.bytes (key_of c.args.k) (run (from + o.at) (from + p.grand) p.files) none ∙ ap (λ (n : ℕ). record { place = n; bytes = o.bytes }) end)
