-- `script_lines::put_user_key` meets its contract. The bytes that the record holds. Assumes nothing.
use mathlib.Core.Path.{◌≡◌}
use native.Mathlib.Omega.{arith}
use lib.ListN.{length}
use borrow.Author.Rules.{rules}
use Rattle.model.specs.File.{longest_user}
use Rattle.script_lines.specs.LineLaws.{user_in, user_out}
use Rattle.script_lines.proofs.put_user_key.Statement.{statement}
use Rattle.script_lines.proofs.put_user_key.Tie as tie

put-byte-requires : tie.Need-put_byte-requires
put-byte-requires c κs = search rules

same_length : tie.Need-shape_of-out-then-n-gt-ROOM
same_length c = search rules

returns : tie.Need-returns-then-n-gt-ROOM
returns c = rw (user_out c.args.u c.if-n-gt-ROOM.true) c.put_byte.ensures

sub-put-hex : tie.Need-slice_bounds-put_hex-count
sub-put-hex c = search rules

part-put-hex-start : tie.Need-slice_bounds-put_hex-start
part-put-hex-start c = search rules

part-put-hex-end : tie.Need-slice_bounds-put_hex-end
part-put-hex-end c =
    let s = c in
    let full : length s.args.u.bytes ≡ longest_user = search rules in
    omega arith

put-hex-requires : tie.Need-put_hex-requires
put-hex-requires c κs = search rules

same_length_2 : tie.Need-shape_of-out
same_length_2 c = search rules

returns_2 : tie.Need-returns
returns_2 c = rw (user_in c.args.u c.if-n-gt-ROOM.false) c.put_hex.ensures

pub put_user_key_spec : {M : Type 1} → statement M
put_user_key_spec = tie.close (tie.spec put-byte-requires same_length returns sub-put-hex part-put-hex-start part-put-hex-end put-hex-requires same_length_2 returns_2)
