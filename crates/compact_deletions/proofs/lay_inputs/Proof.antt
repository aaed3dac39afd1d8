-- `compact_deletions::lay_inputs` meets its contract. Assumes nothing.
use Prim.Native.Nat.{ℕ, ◌+◌}
use mathlib.Core.Path.{◌≡◌, sym, ap, ◌∙◌}
use mathlib.Core.List.{List, map}
use native.Mathlib.Omega.{arith}
use lib.ListN.{length, replicate}
use Rattle.lemmas.specs.Laying.{put_next}
use Rattle.lemmas.specs.Slices.{put, length_of_map}
use Rattle.model.specs.File.{numbers, max_files, max_deletions}
use Rattle.records.specs.Run.{run}
use Rattle.compact_deletions.specs.Deletions.{deletion_at}
use Rattle.pick_answer.specs.PickedLaws.{well_level}
use Rattle.compact_deletions.specs.DeletionsLaws.{column_lent, deletion_records, named_length}
use Rattle.pick_answer.proofs.Shape.{shape}
use borrow.Author.Rules.{rules}
use Rattle.compact_deletions.proofs.lay_inputs.Statement.{statement}
use Rattle.compact_deletions.proofs.lay_inputs.Tie as tie

add-inputs : tie.Need-overflow_add-inputs
add-inputs c = search rules

numbers-of-requires : tie.Need-numbers_of-column-requires
numbers-of-requires c κs = search rules

sub-lay-deletions : tie.Need-slice_bounds-lay_deletions-count
sub-lay-deletions c = search rules

part-lay-deletions-start : tie.Need-slice_bounds-lay_deletions-start
part-lay-deletions-start c = search rules

part-lay-deletions-end : tie.Need-slice_bounds-lay_deletions-end
part-lay-deletions-end c = search rules

lay-deletions-requires : tie.Need-lay_deletions-some-requires
lay-deletions-requires c κs = search rules

add-lay-deletions : tie.Need-overflow_add-at
add-lay-deletions c = search rules

add-lay-deletions-2 : tie.Need-overflow_add-c
add-lay-deletions-2 c =
    let s = c in
    omega (arith, well_level s.args.c s.requires.0)

mul-lay-deletions : tie.Need-offset_bounds-column-first
mul-lay-deletions c = search rules

sub-lay-deletions-2 : tie.Need-slice_bounds-lay_deletions-count-2
sub-lay-deletions-2 c = search rules

part-lay-deletions-start-2 : tie.Need-slice_bounds-lay_deletions-start-2
part-lay-deletions-start-2 c = search rules

part-lay-deletions-end-2 : tie.Need-slice_bounds-lay_deletions-end-2
part-lay-deletions-end-2 c = search rules

lay-deletions-requires-2 : tie.Need-lay_deletions-requires
lay-deletions-requires-2 c κs = search rules

returns : tie.Need-returns
returns c =
    let l = c in
    let m = l in
    let s = m in
    let p = s.args.c in
    let n = p.first + p.second in
    let q = (shape p _ s.well_formed.0).files in
    let room : length s.args.out ≡ max_deletions = search (rules, length_of_map) in
    let firsts = map (deletion_at p.level) (numbers (run 0 p.first p.files)) in
    let seconds = map (deletion_at (p.level + 1)) (numbers (run p.first n p.files)) in
    let laid : l.lay_deletions-some.result ≡ put s.args.out s.args.at firsts =
    l.lay_deletions-some.ensures ∙ ap (λ (ns : List ℕ). put s.args.out s.args.at (map (deletion_at p.level) ns))
    (column_lent n 0 p.first p.files (replicate max_files 0) m.numbers_of-column.result (omega arith) (omega arith) (omega arith) m.numbers_of-column.ensures) in
    let both : c.lay_deletions.result ≡ put l.lay_deletions-some.result (s.args.at + p.first) seconds =
    c.lay_deletions.ensures ∙ ap (λ (ns : List ℕ). put l.lay_deletions-some.result (s.args.at + p.first) (map (deletion_at (p.level + 1)) ns))
    (column_lent n p.first n p.files (replicate max_files 0) m.numbers_of-column.result (omega arith) (omega arith) (omega arith) m.numbers_of-column.ensures) in
    let size : length firsts ≡ p.first = named_length p.level 0 p.first p.files (omega arith) ∙ omega arith in
    put_next s.args.out l.lay_deletions-some.result c.lay_deletions.result s.args.at (s.args.at + p.first) firsts seconds (omega arith) laid (omega arith) both
    ∙ ap (put s.args.out s.args.at) (sym (deletion_records p))

pub lay_inputs_spec : {M : Type 1} → statement M
lay_inputs_spec = tie.close (tie.spec add-inputs numbers-of-requires sub-lay-deletions part-lay-deletions-start part-lay-deletions-end lay-deletions-requires add-lay-deletions add-lay-deletions-2 mul-lay-deletions sub-lay-deletions-2 part-lay-deletions-start-2 part-lay-deletions-end-2 lay-deletions-requires-2 returns)
