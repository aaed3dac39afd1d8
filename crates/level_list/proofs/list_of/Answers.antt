-- `level_list::list_of` meets its contract: the run is copied to the front of empty places. Assumes nothing.
use Rattle.std.proofs.Common.{◌≡◌, ℕ, ◌+◌, ◌-◌, ◌++◌, length, drop, map, sym, ap, ◌∙◌, rules, arith}
use Rattle.std.proofs.Math.ListN.{length-map}
use Rattle.std.proofs.Math.Seq.{slice, length-slice}
use Rattle.lemmas.specs.Each.{each_slice}
use Rattle.lemmas.specs.Slices.{put, put_front, take_drop}
use Rattle.model.specs.File.{full, max_files}
use Rattle.records.specs.Record.{file_of, record_of, vacant, Shaped, AllShaped}
use Rattle.records.specs.RecordLaws.{sound_list_lem}
use Rattle.records.specs.Run.{run}
use Rattle.records.proofs.Shape.{shapes}
use Rattle.level_list.specs.List.{list_of}
use Rattle.level_list.proofs.list_of.Goals as goal

pub returns : goal.returns
unfolding list_of run full
returns c =
    let a = c.args in
    let n = a.to - a.from in
    let rs = slice a.from a.to a.files in
    let q : length a.files ≡ max_files = search rules in
    let shaped : AllShaped a.files = search shapes in
    let kept : rs ≡ map record_of (map file_of rs) = sound_list_lem rs (each_slice Shaped a.from a.to a.files shaped) c.requires.2 in
    let until : a.from + n ≡ a.to = omega arith in
    let copied : c.copy_from_slice.new.self ≡ rs = c.copy_from_slice.ensures.after ∙ take_drop a.from n a.files ∙ ap (λ (e : ℕ). slice a.from e a.files) until in
    let count : n ≡ length rs = omega (arith, length-slice a.from a.to a.files (omega arith)) in
    let front : c.copy_from_slice.new.self ++ drop n c.blanks-out.result ≡ put (vacant max_files) 0 rs = rw (copied, c.blanks-out.ensures, count) (sym (put_front (vacant max_files) rs)) in
    let files = front ∙ ap (put (vacant max_files) 0) kept in
    let total : n ≡ length (map file_of rs) = omega (arith, length-map rs file_of, count) in
    λ i. record { files = files i; count = total i }
