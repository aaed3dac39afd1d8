-- `front` meets its contract: the first bytes are copied. Assumes nothing.
use Rattle.std.proofs.Common.{ℕ, ◌≡◌, arith, rules, length, length-take}
use Rattle.model.specs.File.{key_room}
use Rattle.script_words.proofs.front.Goals as goal

pub slice_bounds-copy_from_slice-end-2 : goal.slice_bounds-copy_from_slice-end-2
slice_bounds-copy_from_slice-end-2 c =
    let long : length c.args.bytes ≡ key_room = search rules in
    omega (arith, length-take {A = ℕ})

pub copy_from_slice-requires : goal.copy_from_slice-requires
copy_from_slice-requires c =
    let long : length c.args.bytes ≡ key_room = search rules in
    omega (arith, length-take {A = ℕ})
