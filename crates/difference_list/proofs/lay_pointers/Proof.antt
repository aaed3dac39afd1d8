-- `lay_pointers` meets its contract: the entries are written after the place of their count, then the count. Assumes nothing.
use Prim.Native.Nat.{◌+◌, ◌≤◌}
use mathlib.Core.Path.{◌≡◌, ap}
use mathlib.Core.Bool.{true}
use mathlib.Core.List.{List}
use Prim.Native.Nat.{ℕ}
use native.Mathlib.Omega.{arith}
use borrow.Author.Rules.{rules}
use lib.ListN.{length}
use Rattle.lemmas.specs.Lists.{join}
use Rattle.lemmas.specs.Slices.{put}
use Rattle.difference_scan.specs.Listing.{pointer_entries}
use Rattle.difference_list.specs.RunLaws.{entries_at}
use Rattle.difference_list.specs.SectionLaws.{put_keeps, section_long, front_laid}
use Rattle.difference_list.specs.LevelLaws.{pointers_run}
use Rattle.difference_list.proofs.lay_pointers.Statement.{statement}
use Rattle.difference_list.proofs.lay_pointers.Tie as tie

-- the run that is found is that of the pointers
run : (c : tie.After-runs_at-from) → let a = c.args in entries_at true 0 a.left.now a.right.now c.runs_at-from.result ≡ pointer_entries a.left.now a.right.now
run c =
    let q = c.before in
    let p = q.before in
    let a = p.args in
    pointers_run a.left.now a.right.now p.after-a.result q.after-b.result c.runs_at-from.result p.after-a.ensures.1 q.after-b.ensures.1 c.runs_at-from.ensures

-- its entries are written, and there is room for their count
laid : (c : tie.After-lay_run-made) → let s = c.before.before.before.before.before.before.before.before in let a = s.args in let es = pointer_entries a.left.now a.right.now in
    (c.lay_run-made.new.out ≡ put a.out.now (a.at + 2) (join es)) × (length c.lay_run-made.new.out ≡ length a.out.now) × (a.at + 2 + length (join es) ≤ length a.out.now) × (c.lay_run-made.result.next ≡ a.at + 2 + length (join es)) × (c.lay_run-made.result.listed ≡ length es)
laid c =
    let g = c.before.before in
    let s = g.before.before.before.before.before.before in
    let a = s.args in
    let es = pointer_entries a.left.now a.right.now in
    let h = s.requires in
    let has : a.at + 2 + length (join es) ≤ length a.out.now = omega (arith, section_long es) in
    let e = rw (run g) at c.lay_run-made.ensures in
    (e.4, put_keeps a.out.now c.lay_run-made.new.out (join es) (a.at + 2) has e.4, has, e.2, e.3)

after-requires : tie.Need-after-a-requires
after-requires c κs = search rules

after-requires-2 : tie.Need-after-b-requires
after-requires-2 c κs = search rules

runs-at-requires : tie.Need-runs_at-from-requires
runs-at-requires c κs = search rules

add-lay-run : tie.Need-overflow_add-at
add-lay-run c = search rules

lay-run-requires : tie.Need-lay_run-made-requires
lay-run-requires c κs =
    let g = c.before in
    let r = g.runs_at-from.ensures in
    let s = g in
    let a = s.args in
    let h = s.requires in
    (r.at_left.within, r.at_right.within, r.few_lefts, r.few_rights, omega (arith, section_long (pointer_entries a.left.now a.right.now), ap (λ (es : List (List ℕ)). length (join es)) (run g)))

put-number-requires : tie.Need-put_number-requires
put-number-requires c κs = let l = laid c.before.before.before in omega (arith, l.1, l.2)

same_length : tie.Need-shape_of-out
same_length c = search rules

returns : tie.Need-returns
returns c =
    let d = c in
    let m = d.before.before.before.before.before.before in
    let s = m in
    let a = s.args in
    let es = pointer_entries a.left.now a.right.now in
    let l = laid m in
    (omega (arith, l.3, section_long es), front_laid es a.out.now m.lay_run-made.new.out d.put_number.new.out a.at m.lay_run-made.result.listed s.requires l.0 l.4 d.put_number.ensures)

pub lay_pointers_spec : {M : Type 1} → statement M
lay_pointers_spec = tie.close (tie.spec after-requires after-requires-2 runs-at-requires add-lay-run lay-run-requires put-number-requires same_length returns)
