-- `writes` meets its contract: the snapshot is written into room for the longest, and compared. Assumes nothing.
use Rattle.std.proofs.Common.{◌≡◌, ℕ, List, length, sym, ap, ◌∙◌, arith, rules}
use Rattle.model.specs.Snapshot.{same_bytes, longest_snapshot}
use Rattle.snapshot_read.specs.ReadingLaws.{ill, well, refused_ill, bytes_well, bytes_most, bytes_written}
use Rattle.snapshot_read.proofs.writes.Goals as goal

pub slice_bounds-same-end : goal.slice_bounds-same-end
slice_bounds-same-end c =
    let full : length c.room-out.result ≡ longest_snapshot = search rules in
    omega (arith, c.write.auto.out, bytes_most c.args.s (length c.room-out.result) full c.in-Ok.n c.in-Ok.ensures.0)

pub returns-in-Err : goal.returns-in-Err
returns-in-Err c =
    let a = c.args in
    sym (ill a.s a.src.now (refused_ill a.s (length c.room-out.result) (search rules) c.in-Err.field-0 c.in-Err.ensures.0))

pub returns-in-Ok : goal.returns-in-Ok
returns-in-Ok c =
    let a = c.args in
    let r = c.room-out.result in
    let n = c.in-Ok.n in
    let full : length r ≡ longest_snapshot = search rules in
    let part = bytes_written a.s (length r) full n c.in-Ok.ensures.0 r c.write.new.out c.in-Ok.ensures.1 in
    c.same.ensures ∙ ap (λ (bs : List ℕ). same_bytes bs a.src.now) part ∙ sym (well a.s a.src.now (bytes_well a.s (length r) full n c.in-Ok.ensures.0))
