-- `shell_reply::put_files` meets its contract. Assumes nothing.
use Rattle.shell_reply.specs.ReplyLaws.{files_back, files_past, files_in_lem}
use borrow.Author.Rules.{rules}
use Rattle.shell_reply.proofs.put_files.Statement.{statement}
use Rattle.shell_reply.proofs.put_files.Tie as tie

put-byte-requires : tie.Need-put_byte-requires
put-byte-requires c κs = search rules

same_length : tie.Need-shape_of-out-then-to-from
same_length c = search rules

returns : tie.Need-returns-then-to-from
returns c = rw (files_back _ _ _ c.if-to-from.true) c.put_byte.ensures

put-byte-requires-2 : tie.Need-put_byte-requires-then-to-gt-ROOM
put-byte-requires-2 c κs = search rules

same_length_2 : tie.Need-shape_of-out-then-to-gt-ROOM
same_length_2 c = search rules

returns_2 : tie.Need-returns-then-to-gt-ROOM
returns_2 c = rw (files_past _ _ _ c.if-to-from.false c.if-to-gt-ROOM.true) c.put_byte-then-to-gt-ROOM.ensures

numbers-of-requires : tie.Need-numbers_of-column-requires
numbers-of-requires c κs = search rules

mul-put-column : tie.Need-offset_bounds-column-from
mul-put-column c = search rules

part-put-column-start : tie.Need-slice_bounds-put_column-start
part-put-column-start c = search rules

part-put-column-end : tie.Need-slice_bounds-put_column-end
part-put-column-end c = search rules

put-column-requires : tie.Need-put_column-requires
put-column-requires c κs = search rules

same_length_3 : tie.Need-shape_of-out
same_length_3 c = search rules

returns_3 : tie.Need-returns
returns_3 c = rw (files_in_lem _ _ _ c.if-to-from.false c.if-to-gt-ROOM.false, ← c.numbers_of-column.ensures) c.put_column.ensures

pub put_files_spec : {M : Type 1} → statement M
put_files_spec = tie.close (tie.spec put-byte-requires same_length returns put-byte-requires-2 same_length_2 returns_2 numbers-of-requires mul-put-column part-put-column-start part-put-column-end put-column-requires same_length_3 returns_3)
