-- `lay_files` meets its contract: the entries are written after the place of their count, then the count. Assumes nothing.
use Prim.Native.Nat.{ℕ, ◌+◌, ◌≤◌}
use mathlib.Core.List.{List}
use native.Mathlib.Omega.{arith}
use borrow.Author.Rules.{rules}
use lib.ListN.{length, drop}
use Rattle.lemmas.specs.Lists.{join}
use Rattle.model.specs.File.{level_count}
use Rattle.difference_scan.specs.Listing.{level_entries}
use Rattle.difference_list.specs.SectionLaws.{put_keeps, section_long, front_laid}
use Rattle.difference_list.proofs.lay_files.Statement.{statement}
use Rattle.difference_list.proofs.lay_files.Tie as tie

-- the entries of all levels
abbrev entries : tie.Start → List (List ℕ)
entries s = let a = s.args in level_entries level_count 0 (drop a.a a.left.now) (drop a.b a.right.now)

-- there is room for them after their count
room : (s : tie.Start) → s.args.at + 2 + length (join (entries s)) ≤ length s.args.out.now
room s = let h = s.requires.2 in omega (arith, section_long (entries s))

add-lay-levels : tie.Need-overflow_add-at
add-lay-levels c = search rules

lay-levels-requires : tie.Need-lay_levels-made-requires
lay-levels-requires c κs = let s = c.before.before.before.before in (s.requires.0, s.requires.1, room s)

put-number-requires : tie.Need-put_number-requires
put-number-requires c κs =
    let m = c in
    let s = m.before.before.before.before.before.before.before.before in
    omega (arith, room s, put_keeps s.args.out.now m.lay_levels-made.new.out (join (entries s)) (s.args.at + 2) (room s) m.lay_levels-made.ensures.2)

same_length : tie.Need-shape_of-out
same_length c = search rules

returns : tie.Need-returns
returns c =
    let d = c in
    let m = d in
    let s = m.before.before.before.before.before.before.before.before.before.before.before in
    let a = s.args in
    let e = m.lay_levels-made.ensures in
    (omega (arith, e.0, section_long (entries s)), front_laid (entries s) a.out.now m.lay_levels-made.new.out d.put_number.new.out a.at m.lay_levels-made.result.listed s.requires.2 e.2 e.1 d.put_number.ensures)

pub lay_files_spec : {M : Type 1} → statement M
lay_files_spec = tie.close (tie.spec add-lay-levels lay-levels-requires put-number-requires same_length returns)
