-- `keys::kept_user` meets its contract. Assumes nothing.
use mathlib.Core.Path.{◌≡◌, ◌∙◌}
use native.Mathlib.Omega.{arith}
use lib.ListN.{length}
use borrow.Author.Rules.{rules}
use Rattle.model.specs.File.{longest_user}
use Rattle.keys.specs.Key.{user_of, padded, user_record}
use Rattle.keys.specs.KeyLaws.{user_of_front, user_of_length}
use Rattle.keys.proofs.Laid.{front_laid}
use Rattle.keys.proofs.kept_user.Statement.{statement}
use Rattle.keys.proofs.kept_user.Tie as tie

user-key-len-requires : tie.Need-user_key_len-n-requires
user-key-len-requires c κs = search rules

sub-copy-into : tie.Need-slice_bounds-copy_into-count
sub-copy-into c = search rules

part-copy-into-start : tie.Need-slice_bounds-copy_into-start
part-copy-into-start c = search rules

part-copy-into-end : tie.Need-slice_bounds-copy_into-end
part-copy-into-end c =
    let u = c.args.u in
    let full : length u.bytes ≡ longest_user = search rules in
    omega (arith, user_of_length u)

slice-aggregate-copy-into : tie.Need-slice_bounds-copy_into-end-2
slice-aggregate-copy-into c = search rules

copy-into-requires : tie.Need-copy_into-requires
copy-into-requires c κs = search rules

returns : tie.Need-returns
unfolding user_record
returns c =
    let u = c.args.u in
    let full : length u.bytes ≡ longest_user = search rules in
    let n : c.user_key_len-n.result ≡ length (user_of u) = c.user_key_len-n.ensures in
    let e : c.copy_into.new.out ≡ padded longest_user (user_of u) =
    c.copy_into.ensures ∙ front_laid longest_user (user_of u) u.bytes c.user_key_len-n.result (user_of_length u) (user_of_front u full) n in
    λ i. record { bytes = e i; len = n i }

pub kept_user_spec : {M : Type 1} → statement M
kept_user_spec = tie.close (tie.spec user-key-len-requires sub-copy-into part-copy-into-start part-copy-into-end slice-aggregate-copy-into copy-into-requires returns)
