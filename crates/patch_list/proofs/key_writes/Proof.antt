-- `key_writes` meets its contract: the key is written into room for the longest, and compared. Assumes nothing.
use Prim.Native.Nat.{ℕ, ◌+◌, ◌≤◌}
use mathlib.Core.Path.{ap, ◌∙◌}
use mathlib.Core.List.{List}
use native.Mathlib.Omega.{arith}
use borrow.Author.Rules.{rules}
use lib.ListN.{length, replicate}
use Rattle.model.specs.File.{key_room}
use Rattle.model.specs.Snapshot.{same_bytes, write_key, byte_long}
use Rattle.model.proofs.SnapshotLaws.{write_key_length}
use Rattle.keys.specs.Key.{key_of}
use Rattle.keys.specs.KeyLaws.{key_of_length}
use Rattle.patch_list.specs.FoundLaws.{laid_front}
use Rattle.patch_list.proofs.key_writes.Statement.{statement}
use Rattle.patch_list.proofs.key_writes.Tie as tie

-- it is within the room
short : (s : tie.Start) → length (write_key (key_of s.args.k)) ≤ byte_long + key_room
short s = omega (arith, write_key_length (key_of s.args.k), key_of_length s.args.k)

slice-aggregate-put-key : tie.Need-slice_bounds-put_key-end
slice-aggregate-put-key c = search rules

put-key-requires : tie.Need-put_key-n-requires
put-key-requires c κs = let s = c.before.before in (s.requires, omega (arith, short s))

sub_same : tie.Need-slice_bounds-same-count
sub_same c = search rules

part-same-start : tie.Need-slice_bounds-same-start
part-same-start c = search rules

part-same-end : tie.Need-slice_bounds-same-end
part-same-end c =
    let p = c in
    let s = p.before.before.before.before in
    omega (arith, short s, p.put_key-n.ensures.0)

same-requires : tie.Need-same-requires
same-requires c κs = search rules

returns : tie.Need-returns
returns c =
    let p = c in
    let s = p in
    c.same.ensures
    ∙ ap (λ (bs : List ℕ). same_bytes bs s.args.src.now) (laid_front (replicate (byte_long + key_room) 0) p.put_key-n.new.out (write_key (key_of s.args.k)) p.put_key-n.result p.put_key-n.ensures.1 p.put_key-n.ensures.0)

pub key_writes_spec : {M : Type 1} → statement M
key_writes_spec = tie.close (tie.spec slice-aggregate-put-key put-key-requires sub_same part-same-start part-same-end same-requires returns)
