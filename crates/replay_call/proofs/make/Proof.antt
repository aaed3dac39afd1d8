-- `make` meets its contract: the tag says which call. Assumes nothing.
use borrow.Author.Rules.{rules}
use Rattle.replay_call.specs.StepLaws.{edit_begins, range_begins, count_begins, edit_asked, size_asked, range_asked, count_asked}
use Rattle.replay_call.proofs.make.Statement.{statement}
use Rattle.replay_call.proofs.make.Tie as tie

-- the start, from where the tag is read
abbrev start : tie.After-get_number-tag → tie.Start
start c = c.before.before.before

get-number-requires : tie.Need-get_number-tag-requires
get-number-requires c κs = search rules

add_start : tie.Need-overflow_add-start
add_start c = search rules

make-edit-requires : tie.Need-make_edit-requires
make-edit-requires c κs =
    let i = c in
    let g = i.before.before in
    let s = start g in
    (s.requires.0, edit_begins s.requires.1 g.get_number-tag.ensures i.if-tag-eq-EDIT.true, s.requires.2)

same_length : tie.Need-shape_of-room-then-tag-eq-EDIT
same_length c = search rules

returns : tie.Need-returns-then-tag-eq-EDIT
returns c =
    let d = c in
    let i = d in
    let g = i.before.before.before.before.before in
    let s = start g in
    rw (edit_asked s.requires.1 g.get_number-tag.ensures s.args.maximum i.if-tag-eq-EDIT.true) d.make_edit.ensures

make-size-requires : tie.Need-make_size-requires
make-size-requires c κs = search rules

same_length_2 : tie.Need-shape_of-room-then-tag-eq-SIZE
same_length_2 c = search rules

returns_2 : tie.Need-returns-then-tag-eq-SIZE
returns_2 c =
    let d = c in
    let i = d in
    let g = i.before.before.before.before.before.before in
    let s = start g in
    rw (size_asked s.requires.1 g.get_number-tag.ensures s.args.maximum i.if-tag-eq-SIZE.true) d.make_size.ensures

make-range-requires : tie.Need-make_range-requires
make-range-requires c κs =
    let i = c in
    let g = i.before.before.before.before in
    let s = start g in
    (s.requires.0, range_begins s.requires.1 g.get_number-tag.ensures i.if-tag-eq-RANGE.true, s.requires.2)

same_length_3 : tie.Need-shape_of-room-then-tag-eq-RANGE
same_length_3 c = search rules

returns_3 : tie.Need-returns-then-tag-eq-RANGE
returns_3 c =
    let d = c in
    let i = d in
    let g = i.before.before.before.before.before.before.before in
    let s = start g in
    rw (range_asked s.requires.1 g.get_number-tag.ensures s.args.maximum i.if-tag-eq-RANGE.true) d.make_range.ensures

make-count-requires : tie.Need-make_count-requires
make-count-requires c κs =
    let third = c in
    let second = third in
    let first = second in
    let g = first.before.before.before.before in
    let s = start g in
    (s.requires.0, count_begins s.requires.1 g.get_number-tag.ensures first.if-tag-eq-EDIT.false second.if-tag-eq-SIZE.false third.if-tag-eq-RANGE.false, s.requires.2)

same_length_4 : tie.Need-shape_of-room
same_length_4 c = search rules

returns-4 : tie.Need-returns
returns-4 c =
    let d = c in
    let third = d in
    let second = third in
    let first = second in
    let g = first.before.before.before.before.before.before.before in
    let s = start g in
    rw (count_asked s.requires.1 g.get_number-tag.ensures s.args.maximum first.if-tag-eq-EDIT.false second.if-tag-eq-SIZE.false third.if-tag-eq-RANGE.false) d.make_count.ensures

pub make_spec : {M : Type 1} → statement M
make_spec = tie.close (tie.spec get-number-requires add_start make-edit-requires same_length returns make-size-requires same_length_2 returns_2 make-range-requires same_length_3 returns_3 make-count-requires same_length_4 returns-4)
