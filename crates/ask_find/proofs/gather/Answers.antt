-- `gather` meets its contract: the copy replaces the front of the blank records.
use Rattle.std.proofs.Common.{◌≡◌, ℕ, List, ◌++◌, length, take, drop, refl, length-take-le, sym, ap, ◌∙◌, arith}
use Rattle.std.specs.Prelude.{min}
use Rattle.lemmas.specs.Slices.{put, put_front, run_within}
use Rattle.model.specs.File.{full, max_files}
use Rattle.records.specs.declared.FileRecord.{FileRecord}
use Rattle.ask_find.specs.Finding.{gathered}
use Rattle.ask_find.proofs.gather.Goals as goal

-- as many as there is room for, over the front of blank records
laid : (rs zs : List FileRecord) (stop : ℕ) → stop ≡ min (length rs) max_files → take stop rs ++ drop stop zs ≡ put zs 0 (take max_files rs)
laid rs zs stop e =
    let swap : stop ≡ min max_files (length rs) = omega arith in
    let some : take stop rs ≡ take max_files rs = ap (λ (k : ℕ). take k rs) swap ∙ run_within 0 max_files (length rs) rs refl in
    let long : length (take stop rs) ≡ stop = length-take-le stop rs (omega arith) in
    sym (ap (put zs 0) (sym some) ∙ put_front zs (take stop rs) ∙ ap (λ (k : ℕ). take stop rs ++ drop k zs) long)

pub returns : goal.returns
unfolding gathered full
returns c =
    let rs = c.args.files.now in
    let files = ap (λ (z : List FileRecord). z ++ drop c.within-stop.result c.blanks-out.result) c.copy_from_slice.ensures.after
    ∙ laid rs c.blanks-out.result c.within-stop.result c.within-stop.ensures
    ∙ ap (λ (z : List FileRecord). put z 0 (take max_files rs)) c.blanks-out.ensures in
    λ i. record { files = files i; count = length rs }
