-- `put_key` meets its contract: the length byte, then the bytes of the key. Assumes nothing.
use Rattle.std.proofs.Common.{ℕ, ◌≡◌, ◌+◌, ◌∙◌, sym, ap, arith, rules, length, length-take}
use Rattle.lemmas.specs.Little.{bytes, bytes_length}
use Rattle.lemmas.specs.Slices.{put}
use Rattle.lemmas.specs.Laying.{put_next}
use Rattle.model.specs.File.{key_room}
use Rattle.model.specs.Snapshot.{write_key, byte_long}
use Rattle.model.proofs.SnapshotLaws.{write_key_length}
use Rattle.keys.specs.Key.{key_of}
use Rattle.keys.specs.KeyLaws.{held_in}
use Rattle.snapshot_parts.specs.LayingLaws.{key_long}
use Rattle.snapshot_parts.proofs.put_key.Goals as goal

pub put_number-requires : goal.put_number-requires
put_number-requires c = omega (arith, write_key_length (key_of c.args.k))

pub put_bytes-requires : goal.put_bytes-requires
put_bytes-requires c =
    let k = c.args.k in
    let long : length k.bytes ≡ key_room = search rules in
    omega (arith, length-take {A = ℕ}, key_long k long c.requires.0, write_key_length (key_of k))

pub returns : goal.returns
unfolding key_of write_key
returns c =
    let a = c.args in
    let k = key_of a.k in
    let room : length a.k.bytes ≡ key_room = search rules in
    let long = key_long a.k room c.requires.0 in
    let held = held_in key_room a.k.bytes a.k.len c.requires.0 in
    let first : c.put_number.new.out ≡ put a.out.now a.at (bytes byte_long (length k)) = c.put_number.ensures ∙ ap (λ (n : ℕ). put a.out.now a.at (bytes byte_long n)) (sym long) in
    let rest : c.put_bytes.new.out ≡ put c.put_number.new.out (a.at + 1) k = c.put_bytes.ensures.1 ∙ ap (put c.put_number.new.out (a.at + 1)) (sym held) in
    let one = bytes_length 1 (length k) in
    let all = write_key_length k in
    (omega (arith, length-take {A = ℕ}), put_next a.out.now c.put_number.new.out c.put_bytes.new.out a.at (a.at + 1) (bytes byte_long (length k)) k (omega arith) first (omega arith) rest)
