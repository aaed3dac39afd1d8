-- `pick_answer::is_manual` meets its contract. Assumes nothing.
use Rattle.model.specs.Pick.{is_manual}
use Rattle.pick_answer.specs.Picked.{cause_of}
use borrow.Author.Rules.{rules}
use Rattle.pick_answer.proofs.is_manual.Statement.{statement}
use Rattle.pick_answer.proofs.is_manual.Tie as tie

enum_told : tie.Need-enum_told-1
enum_told c = search rules

enum-told-2 : tie.Need-enum_told-in-Manual
enum-told-2 c = search rules

returns : tie.Need-returns-in-Size
unfolding is_manual cause_of
returns c = rw c.in-Size.is

returns_2 : tie.Need-returns-in-Manual
unfolding is_manual cause_of
returns_2 c = rw c.in-Manual.is

pub is_manual_spec : {M : Type 1} → statement M
is_manual_spec = tie.close (tie.spec enum_told enum-told-2 returns returns_2)
