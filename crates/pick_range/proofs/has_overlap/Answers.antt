-- `pick_range::has_overlap` meets its contract: the files of the run are tested. Assumes nothing.
use Rattle.std.proofs.Common.{◌≡◌, Bool, List, [], ◌∷◌, map, refl, ◌∙◌, rules, tests}
use Rattle.std.proofs.lemmas.Iterator.{YieldsList-from_slice}
use Rattle.std.proofs.lemmas.Iterator.Search.{any_from_yields_List}
use Rattle.lemmas.specs.Listed.{any_listed}
use Rattle.lemmas.specs.Lists.{any}
use Rattle.model.specs.File.{File}
use Rattle.model.specs.Range.{overlaps}
use Rattle.records.specs.Record.{file_of}
use Rattle.records.specs.Run.{run}
use Rattle.records.specs.declared.FileRecord.{FileRecord}
use Rattle.pick_range.specs.Ranges.{span_of}
use Rattle.pick_range.proofs.has_overlap.Goals as goal

-- a test of the files that records stand for
of_files : (p : File → Bool) (rs : List FileRecord) → any (λ (r : FileRecord). p (file_of r)) rs ≡ any p (map file_of rs)
unfolding any
of_files p [] = refl
of_files p (r ∷ rs) = rw (of_files p rs)

pub returns : goal.returns
unfolding run
returns c =
    let p : FileRecord → Bool = λ r. overlaps (span_of c.args.span) (file_of r) in
    let rs = c.part.result.now in
    let e = any_from_yields_List p _ _ c.any.result c.any.ensures.ran (YieldsList-from_slice rs cc) (λ x b q k. search (rules, tests)) ∙ any_listed p rs in
    rw (← c.part.ensures) (e ∙ of_files (overlaps (span_of c.args.span)) rs)
