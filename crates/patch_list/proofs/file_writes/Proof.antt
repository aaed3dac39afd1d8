-- `file_writes` meets its contract: the file is written into room for the longest, and compared. Assumes nothing.
use Prim.Native.Nat.{ℕ, ◌+◌, ◌*◌, ◌≤◌}
use mathlib.Core.Path.{ap, ◌∙◌}
use mathlib.Core.List.{List}
use native.Mathlib.Omega.{arith}
use borrow.Author.Rules.{rules}
use lib.ListN.{length, replicate}
use Rattle.model.specs.File.{full, key_room}
use Rattle.model.specs.Snapshot.{same_bytes, write_file, file_long}
use Rattle.model.proofs.SnapshotLaws.{file_most}
use Rattle.records.specs.Record.{file_of}
use Rattle.records.specs.RecordLaws.{well_says}
use Rattle.patch_list.specs.FoundLaws.{laid_front}
use Rattle.patch_list.proofs.file_writes.Statement.{statement}
use Rattle.patch_list.proofs.file_writes.Tie as tie

-- it is within the room
short : (s : tie.Start) → length (write_file (file_of s.args.f)) ≤ file_long + 2 * key_room
unfolding full
short s = file_most full (file_of s.args.f) ((well_says s.args.f).0 s.requires).1

slice-aggregate-put-file : tie.Need-slice_bounds-put_file-end
slice-aggregate-put-file c = search rules

put-file-requires : tie.Need-put_file-n-requires
put-file-requires c κs = let s = c.before.before in (s.requires, omega (arith, short s))

sub_same : tie.Need-slice_bounds-same-count
sub_same c = search rules

part-same-start : tie.Need-slice_bounds-same-start
part-same-start c = search rules

part-same-end : tie.Need-slice_bounds-same-end
part-same-end c =
    let p = c in
    let s = p.before.before.before.before in
    omega (arith, short s, p.put_file-n.ensures.0)

same-requires : tie.Need-same-requires
same-requires c κs = search rules

returns : tie.Need-returns
returns c =
    let p = c in
    let s = p in
    c.same.ensures
    ∙ ap (λ (bs : List ℕ). same_bytes bs s.args.src.now) (laid_front (replicate (file_long + 2 * key_room) 0) p.put_file-n.new.out (write_file (file_of s.args.f)) p.put_file-n.result p.put_file-n.ensures.1 p.put_file-n.ensures.0)

pub file_writes_spec : {M : Type 1} → statement M
file_writes_spec = tie.close (tie.spec slice-aggregate-put-file put-file-requires sub_same part-same-start part-same-end same-requires returns)
