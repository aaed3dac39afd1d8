-- `lay_list` meets its contract: its sections are written one after another. Assumes nothing.
use Prim.Native.Nat.{ℕ, ◌+◌, ◌≤◌}
use mathlib.Core.Path.{◌≡◌, ap, ◌∙◌}
use mathlib.Core.List.{List, ◌++◌}
use native.Mathlib.Omega.{arith}
use borrow.Author.Rules.{rules}
use lib.ListN.{length, length-append}
use Rattle.lemmas.specs.Slices.{put}
use Rattle.model.specs.File.{level_count}
use Rattle.model.specs.Snapshot.{section, counter_count}
use Rattle.difference_scan.specs.Listing.{level_entries, pointer_entries, levels_at, counter_entries, as_is, list_of}
use Rattle.difference_list.specs.SectionLaws.{put_keeps, three_laid}
use Rattle.difference_list.proofs.lay_list.Statement.{statement}
use Rattle.difference_list.proofs.lay_list.Tie as tie

-- the three sections
abbrev files : tie.Start → List ℕ
files s = let a = s.args in section as_is (level_entries level_count 0 (levels_at a.left.now) (levels_at a.right.now))

abbrev pointers : tie.Start → List ℕ
pointers s = let a = s.args in section as_is (pointer_entries a.left.now a.right.now)

abbrev counters : tie.Start → List ℕ
counters s = let a = s.args in section as_is (counter_entries 0 counter_count a.left.now a.right.now)

-- there is room for them
room : (s : tie.Start) → length (files s ++ (pointers s ++ counters s)) ≤ length s.args.out.now
unfolding list_of
room s = s.requires

-- how long they are
long : (s : tie.Start) → length (files s ++ (pointers s ++ counters s)) ≡ length (files s) + (length (pointers s) + length (counters s))
long s = length-append (files s) (pointers s ++ counters s) ∙ ap (λ (n : ℕ). length (files s) + n) (length-append (pointers s) (counters s))

levels-at-requires : tie.Need-levels_at-a-requires
levels-at-requires c κs = search rules

levels-at-requires-2 : tie.Need-levels_at-b-requires
levels-at-requires-2 c κs = search rules

lay-files-requires : tie.Need-lay_files-pointers-requires
lay-files-requires c κs =
    let q = c in
    let p = q in
    let s = p.before.before.before.before.before.before in
    let a = p.levels_at-a.ensures in
    let b = q.levels_at-b.ensures in
    (a.within, b.within, rw (a.rest, b.rest) (omega (arith, room s, long s)))

-- the files are written
files_laid : (c : tie.After-lay_files-pointers) → let s = c.before.before.before.before.before.before.before in (c.lay_files-pointers.result ≡ length (files s)) × (c.lay_files-pointers.new.out ≡ put s.args.out.now 0 (files s))
files_laid c =
    let q = c.before.before in
    let p = q.before in
    let a = p.levels_at-a.ensures in
    let b = q.levels_at-b.ensures in
    let e = rw (a.rest, b.rest) at c.lay_files-pointers.ensures in
    (omega (arith, e.0), e.1)

lay-pointers-requires : tie.Need-lay_pointers-counters-requires
lay-pointers-requires c κs =
    let m = c.before.before.before in
    let s = m.before.before.before.before.before.before.before in
    let f = files_laid m in
    omega (arith, room s, long s, f.0, put_keeps s.args.out.now m.lay_files-pointers.new.out (files s) 0 (omega (arith, room s, long s)) f.1)

-- the pointers are written, and the output is as long as it was
pointers_laid : (c : tie.After-lay_pointers-counters) → let s = c.before.before.before.before.before.before.before.before.before.before.before in length c.lay_pointers-counters.new.out ≡ length s.args.out.now
pointers_laid c =
    let m = c.before.before.before.before in
    let s = m.before.before.before.before.before.before.before in
    let f = files_laid m in
    let k = put_keeps s.args.out.now m.lay_files-pointers.new.out (files s) 0 (omega (arith, room s, long s)) f.1 in
    put_keeps m.lay_files-pointers.new.out c.lay_pointers-counters.new.out (pointers s) m.lay_files-pointers.result (omega (arith, room s, long s, f.0, k)) c.lay_pointers-counters.ensures.1 ∙ k

lay-counters-requires : tie.Need-lay_counters-requires
lay-counters-requires c κs =
    let n = c.before.before.before in
    let m = n.before.before.before.before in
    let s = m.before.before.before.before.before.before.before in
    omega (arith, room s, long s, (files_laid m).0, n.lay_pointers-counters.ensures.0, pointers_laid n)

same_length : tie.Need-shape_of-out
same_length c = search rules

returns : tie.Need-returns
unfolding list_of
returns c =
    let o = c in
    let n = o in
    let m = n.before.before.before.before.before.before.before.before.before.before in
    let s = m.before.before.before.before.before.before.before in
    let f = files_laid m in
    let g = n.lay_pointers-counters.ensures in
    let h = o.lay_counters.ensures in (
      omega (arith, long s, f.0, g.0, h.0),
      three_laid s.args.out.now m.lay_files-pointers.new.out n.lay_pointers-counters.new.out o.lay_counters.new.out (files s) (pointers s) (counters s) m.lay_files-pointers.result n.lay_pointers-counters.result (room s) f.1 f.0 g.1 g.0 h.1,
    )

pub lay_list_spec : {M : Type 1} → statement M
lay_list_spec = tie.close (tie.spec levels-at-requires levels-at-requires-2 lay-files-requires lay-pointers-requires lay-counters-requires same_length returns)
