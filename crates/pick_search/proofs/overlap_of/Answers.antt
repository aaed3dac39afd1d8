-- `overlap_of` meets its contract: the law `listed` of the files that overlap a range, not completed. Assumes nothing.
use Rattle.std.proofs.Common.{◌≡◌, ◌<◌, ℕ, arith}
use Rattle.model.specs.File.{level, level_count, max_word}
use Rattle.model.specs.Range.{overlapping}
use Rattle.store.specs.Store.{state_of}
use Rattle.store.proofs.Shape.{shape}
use Rattle.pick_range.specs.Ranges.{span_of}
use Rattle.pick_range.specs.declared.Span.{Span}
use Rattle.pick_found.specs.FoundRun.{none_at}
use Rattle.pick_found.specs.CallsLaws.{files_room}
use Rattle.pick_search.specs.declared.Choice.{Choice}
use Rattle.pick_search.specs.Choice.{begun}
use Rattle.pick_search.specs.Search.{Weighed}
use Rattle.pick_search.specs.ChooseLaws.{search_findable, listed}
use Rattle.pick_search.proofs.overlap_of.Goals as goal

-- ---- the choice before its search
module _ (n : ℕ) (r : Span) (c : Choice) (e : c ≡ begun n 0 r max_word) where
  -- its level is the one given
  begun_level : n < level_count → c.level < level_count
  unfolding begun
  begun_level l = rw e l

  -- M and the bytes are within their bounds
  begun_weighed : Weighed c
  unfolding begun none_at
  begun_weighed = rw e record { maximum = omega arith; grown = omega arith; second = omega arith }

pub asked-q-requires : goal.asked-q-requires
asked-q-requires c =
    (begun_level c.args.level c.args.span c.asking-c.result c.asking-c.ensures c.requires.1, omega arith, files_room c.args.s 0 c.requires.0)

pub overlap-found-requires : goal.overlap-found-requires
overlap-found-requires c =
    let s = shape c.args.s _ c.well_formed.0 in
    (s, search_findable c.args.s c.asking-c.result 0 s c.requires.0 c.asked-q.result c.asked-q.ensures)

pub filled-d-requires : goal.filled-d-requires
filled-d-requires c =
    let w = begun_weighed c.args.level c.args.span c.asking-c.result c.asking-c.ensures in
    (omega arith, w.maximum, w.grown, w.second)

pub laid-files-requires : goal.laid-files-requires
laid-files-requires c =
    let s = shape c.args.s _ c.well_formed.0 in (
      s,
      c.requires.0,
      record {
        inputs = overlapping c.args.level (level (state_of c.args.s) c.args.level) (span_of c.args.span);
        search = 1;
        stands = listed c.args.s s c.requires.0 c.args.level c.requires.1 c.args.span c.asking-c.result c.asking-c.ensures c.asked-q.result c.asked-q.ensures c.overlap-found.result c.overlap-found.ensures c.filled-d.result c.filled-d.ensures;
      },
    )

pub returns : goal.returns
returns c = record {
  stands = listed c.args.s (shape c.args.s _ c.well_formed.0) c.requires.0 c.args.level c.requires.1 c.args.span c.asking-c.result c.asking-c.ensures c.asked-q.result c.asked-q.ensures c.overlap-found.result c.overlap-found.ensures c.filled-d.result c.filled-d.ensures;
  files = c.laid-files.ensures;
}
