-- `named_of` meets its contract. Assumes nothing.
use borrow.Author.Rules.{rules}
use lib.ListN.{drop}
use Rattle.patch_scan.specs.ListedLaws.{pointer_named, file_named}
use Rattle.patch_scan.proofs.named_of.Statement.{statement}
use Rattle.patch_scan.proofs.named_of.Tie as tie

get-number-requires : tie.Need-get_number-requires
get-number-requires c κs = search rules

returns : tie.Need-returns-then-pointer
returns c =
    let i = c in
    let a = i.args in
    pointer_named a.pointer c.get_number.result (drop a.at a.src.now) i.if-pointer.true c.get_number.ensures

after-requires : tie.Need-after-start-requires
after-requires c κs = search rules

get-number-requires-2 : tie.Need-get_number-requires-2
get-number-requires-2 c κs = search rules

returns_2 : tie.Need-returns
returns_2 c =
    let s = c in
    let i = s in
    let a = i.args in
    file_named a.pointer a.src.now a.at s.after-start.result c.get_number-2.result i.if-pointer.false s.after-start.ensures.1 c.get_number-2.ensures

pub named_of_spec : {M : Type 1} → statement M
named_of_spec = tie.close (tie.spec get-number-requires returns after-requires get-number-requires-2 returns_2)
