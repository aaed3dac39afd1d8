-- `laid` meets its contract: the laws of the chosen files copied one by one. Assumes nothing.
use Rattle.std.proofs.Common.{◌≤◌, ◌<◌, ◌+◌, arith, subst, sym, get_or, set, ap, ◌∙◌}
use Rattle.model.specs.File.{max_files}
use Rattle.records.specs.Record.{past}
use Rattle.records.specs.declared.FileRecord.{FileRecord}
use Rattle.pick_search.specs.Choice.{place_in}
use Rattle.pick_search.specs.declared.Runs.{Runs}
use Rattle.pick_search.specs.PlacedLaws.{Laying, laying_starts, counts_room, three_room, starts_room, place_room, laying_turn, laying_ended}
use Rattle.pick_search.proofs.laid.Goals as goal

pub runs_of-runs-requires : goal.runs_of-runs-requires
runs_of-runs-requires c = counts_room c.args.s.now c.args.c c.requires.1 c.requires.2

pub loop-j-init : goal.loop-j-init
loop-j-init c = subst (λ (fs : _). Laying c.args.s.now c.args.c fs 0) (sym c.blanks-out.ensures) (laying_starts c.args.s.now c.args.c)

-- a place before the end of the runs
pub place_of-requires : goal.place_of-requires
place_of-requires c =
    let starts = starts_room c.args.s.now c.args.c c.requires.1 c.requires.2 in
    let few : c.loop-j.j < c.runs_of-runs.result.three = c.loop-j-test.true in
    let room = subst (λ (r : Runs). r.three ≤ max_files) (sym c.runs_of-runs.ensures) (three_room c.args.s.now c.args.c c.requires.1 c.requires.2) in
    let all = subst (λ (r : Runs). (r.first ≤ max_files) × (r.second ≤ max_files) × (r.third ≤ max_files)) (sym c.runs_of-runs.ensures) starts in
    (omega arith, all.0, all.1, all.2)

pub file_at-requires : goal.file_at-requires
file_at-requires c =
    let few = subst (λ (r : Runs). c.loop-j.j < r.three) c.runs_of-runs.ensures c.loop-j-test.true in
    rw (c.place_of.ensures, c.runs_of-runs.ensures) (place_room c.args.s.now c.args.c c.requires.1 c.requires.2 c.loop-j.j few)

pub offset_bounds-out-j : goal.offset_bounds-out-j
offset_bounds-out-j c =
    let few = subst (λ (r : Runs). c.loop-j.j < r.three) c.runs_of-runs.ensures c.loop-j-test.true in
    omega (arith, few, three_room c.args.s.now c.args.c c.requires.1 c.requires.2)

pub bounds-out-j : goal.bounds-out-j
bounds-out-j c =
    let few = subst (λ (r : Runs). c.loop-j.j < r.three) c.runs_of-runs.ensures c.loop-j-test.true in
    omega (arith, few, three_room c.args.s.now c.args.c c.requires.1 c.requires.2)

pub loop-j-preserved : goal.loop-j-preserved
loop-j-preserved c =
    let few = subst (λ (r : Runs). c.loop-j.j < r.three) c.runs_of-runs.ensures c.loop-j-test.true in
    let e = c.file_at.ensures ∙ ap (λ i. get_or c.args.s.now.files i past) (c.place_of.ensures ∙ ap (λ (r : Runs). place_in r c.loop-j.j) c.runs_of-runs.ensures) in
    subst (λ (t : FileRecord). Laying c.args.s.now c.args.c (set c.loop-j.out c.loop-j.j t) (c.loop-j.j + 1)) (sym e)
    (laying_turn c.args.s.now c.args.c c.requires.1 c.requires.2 c.loop-j.out c.loop-j.j c.loop-j.invariant few)

pub returns : goal.returns
returns c =
    let all = subst (λ (r : Runs). r.three ≤ c.loop-j.j) c.runs_of-runs.ensures c.loop-j-test.false in
    laying_ended c.args.s.now c.args.c c.requires.1 c.requires.2 c.requires.0 c.loop-j.out c.loop-j.j c.loop-j.invariant all
