-- `put_bytes` meets its contract: the part of the output holds the bytes. Assumes nothing.
use Rattle.std.proofs.Common.{refl, ap, ◌∙◌, arith}
use Rattle.lemmas.specs.Slices.{put}
use Rattle.snapshot_parts.specs.LayingLaws.{part_put}
use Rattle.snapshot_parts.proofs.put_bytes.Goals as goal

pub returns : goal.returns
returns c =
    let out = c.args.out.now in
    let at = c.args.at in
    (refl, part_put at _ out c.copy_from_slice.new.self (omega arith) ∙ ap (put out at) c.copy_from_slice.ensures.after)
