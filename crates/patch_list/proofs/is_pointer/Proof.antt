-- `is_pointer` meets its contract. Assumes nothing.
use mathlib.Core.Path.{◌≡◌, sym, ◌∙◌}
use borrow.Author.Rules.{rules}
use lib.ListN.{length}
use Rattle.model.specs.File.{key_room}
use Rattle.patch_list.specs.FoundLaws.{unset_pointer, set_pointer_lem}
use Rattle.patch_list.proofs.is_pointer.Statement.{statement}
use Rattle.patch_list.proofs.is_pointer.Tie as tie

returns : tie.Need-returns-then-k-eq0
returns c = sym (unset_pointer c.args.k c.if-k-eq0.true)

is-good-requires : tie.Need-is_good-requires
is-good-requires c κs = search rules

returns_2 : tie.Need-returns
returns_2 c =
    let s = c in
    let q : length s.args.k.bytes ≡ key_room = search rules in
    c.is_good.ensures ∙ set_pointer_lem s.args.k q s.requires c.if-k-eq0.false

pub is_pointer_spec : {M : Type 1} → statement M
is_pointer_spec = tie.close (tie.spec returns is-good-requires returns_2)
