-- `keys::user_key` meets its contract. Assumes nothing.
use mathlib.Core.Path.{◌≡◌, ◌∙◌}
use native.Mathlib.Omega.{arith}
use lib.ListN.{length}
use borrow.Author.Rules.{rules}
use Rattle.model.specs.File.{key_room, longest_user}
use Rattle.model.specs.Key as model
use Rattle.keys.specs.Key.{key_of, padded, user_record}
use Rattle.keys.specs.KeyLaws.{user_front, user_short}
use Rattle.keys.proofs.Laid.{front_laid}
use Rattle.keys.proofs.user_key.Statement.{statement}
use Rattle.keys.proofs.user_key.Tie as tie

user-len-requires : tie.Need-user_len-n-requires
user-len-requires c κs = search rules

sub-copy-into : tie.Need-slice_bounds-copy_into-count
sub-copy-into c = search rules

part-copy-into-start : tie.Need-slice_bounds-copy_into-start
part-copy-into-start c = search rules

part-copy-into-end : tie.Need-slice_bounds-copy_into-end
part-copy-into-end c =
    let k = c.args.k in
    let full : length k.bytes ≡ key_room = search rules in
    omega (arith, user_short k)

slice-aggregate-copy-into : tie.Need-slice_bounds-copy_into-end-2
slice-aggregate-copy-into c = search rules

copy-into-requires : tie.Need-copy_into-requires
copy-into-requires c κs = search rules

returns : tie.Need-returns
unfolding user_record
returns c =
    let k = c.args.k in
    let full : length k.bytes ≡ key_room = search rules in
    let n : c.user_len-n.result ≡ length (model.user (key_of k)) = c.user_len-n.ensures in
    let e : c.copy_into.new.out ≡ padded longest_user (model.user (key_of k)) =
    c.copy_into.ensures ∙ front_laid longest_user (model.user (key_of k)) k.bytes c.user_len-n.result (user_short k) (user_front k full) n in
    λ i. record { bytes = e i; len = n i }

pub user_key_spec : {M : Type 1} → statement M
user_key_spec = tie.close (tie.spec user-len-requires sub-copy-into part-copy-into-start part-copy-into-end slice-aggregate-copy-into copy-into-requires returns)
