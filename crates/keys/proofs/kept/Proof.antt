-- `keys::kept` meets its contract. Assumes nothing.
use mathlib.Core.Path.{◌≡◌, ◌∙◌}
use native.Mathlib.Omega.{arith}
use lib.ListN.{length}
use borrow.Author.Rules.{rules}
use Rattle.model.specs.File.{key_room}
use Rattle.keys.specs.Key.{key_of, padded, key_record}
use Rattle.keys.specs.KeyLaws.{key_of_front, key_of_length}
use Rattle.keys.proofs.Laid.{front_laid}
use Rattle.keys.proofs.kept.Statement.{statement}
use Rattle.keys.proofs.kept.Tie as tie

key-len-requires : tie.Need-key_len-n-requires
key-len-requires c κs = search rules

sub-copy-into : tie.Need-slice_bounds-copy_into-count
sub-copy-into c = search rules

part-copy-into-start : tie.Need-slice_bounds-copy_into-start
part-copy-into-start c = search rules

part-copy-into-end : tie.Need-slice_bounds-copy_into-end
part-copy-into-end c =
    let k = c.args.k in
    let full : length k.bytes ≡ key_room = search rules in
    omega (arith, key_of_length k)

slice-aggregate-copy-into : tie.Need-slice_bounds-copy_into-end-2
slice-aggregate-copy-into c = search rules

copy-into-requires : tie.Need-copy_into-requires
copy-into-requires c κs = search rules

returns : tie.Need-returns
unfolding key_record
returns c =
    let k = c.args.k in
    let full : length k.bytes ≡ key_room = search rules in
    let n : c.key_len-n.result ≡ length (key_of k) = c.key_len-n.ensures in
    let e : c.copy_into.new.out ≡ padded key_room (key_of k) =
    c.copy_into.ensures ∙ front_laid key_room (key_of k) k.bytes c.key_len-n.result (key_of_length k) (key_of_front k full) n in
    λ i. record { bytes = e i; len = n i }

pub kept_spec : {M : Type 1} → statement M
kept_spec = tie.close (tie.spec key-len-requires sub-copy-into part-copy-into-start part-copy-into-end slice-aggregate-copy-into copy-into-requires returns)
