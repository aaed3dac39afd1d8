-- `put_file` meets its contract: number, size, smallest and largest key, one after another. Assumes nothing.
use Prim.Native.Nat.{◌+◌}
use mathlib.Core.Path.{◌≡◌}
use native.Mathlib.Omega.{arith}
use borrow.Author.Rules.{rules}
use lib.ListN.{length}
use Rattle.model.specs.Snapshot.{write_key, write_file}
use Rattle.keys.specs.Key.{key_of}
use Rattle.records.specs.Record.{file_of}
use Rattle.snapshot_parts.specs.LayingLaws.{record_short, write_file_parts, file_laid}
use Rattle.snapshot_parts.proofs.put_file.Statement.{statement}
use Rattle.snapshot_parts.proofs.put_file.Tie as tie

-- how long what is written is
long : (s : tie.Start) → let f = s.args.f in length (write_file (file_of f)) ≡ 16 + length (write_key (key_of f.smallest)) + length (write_key (key_of f.largest))
unfolding file_of
long s = write_file_parts (file_of s.args.f)

put-number-requires : tie.Need-put_number-requires
put-number-requires c κs =
    let n = long c.before.before in
    omega arith

add-put-number : tie.Need-overflow_add-at
add-put-number c =
    let n = long c.before.before.before.before.before.before in
    omega arith

put-number-requires-2 : tie.Need-put_number-requires-2
put-number-requires-2 c κs =
    let n = long c.before.before.before.before.before.before in
    omega arith

add-put-key : tie.Need-overflow_add-at-2
add-put-key c =
    let n = long c.before.before.before.before.before.before.before.before.before.before in
    omega arith

put-key-requires : tie.Need-put_key-next-requires
put-key-requires c κs =
    let s = c.before.before.before.before.before.before.before.before.before.before.before in
    let n = long s in
    ((record_short s.args.f s.requires.0).0, omega arith)

put-key-requires-2 : tie.Need-put_key-requires
put-key-requires-2 c κs =
    let s = c.before.before.before.before.before.before.before.before.before.before.before.before.before.before.before.before in
    let n = long s in
    ((record_short s.args.f s.requires.0).1, omega arith)

same_length : tie.Need-shape_of-out
same_length c = search rules

returns : tie.Need-returns
unfolding file_of
returns c =
    let k₂ = c in
    let k₁ = k₂ in
    let p₂ = k₁ in
    let p₁ = p₂ in
    let s = p₁.before.before.before.before.before.before.before.before.before.before.before.before.before.before.before.before.before.before.before in
    let a = s.args in
    let n = long s in
    let e₁ = k₁.put_key-next.ensures in
    let e₂ = k₂.put_key.ensures in (
      omega arith,
      file_laid (file_of a.f) a.out.now p₁.put_number.new.out p₂.put_number-2.new.out k₁.put_key-next.new.out k₂.put_key.new.out a.at k₁.put_key-next.result s.requires.1
          p₁.put_number.ensures p₂.put_number-2.ensures e₁.1 e₁.0 e₂.1,
    )

pub put_file_spec : {M : Type 1} → statement M
put_file_spec = tie.close (tie.spec put-number-requires add-put-number put-number-requires-2 add-put-key put-key-requires put-key-requires-2 same_length returns)
