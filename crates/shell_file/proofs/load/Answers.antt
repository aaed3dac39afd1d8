-- `load` meets its contract: the store is that of the bytes, or the one before. Assumes nothing.
use Rattle.std.proofs.Common.{ap, ◌∙◌, rules, Result}
use Rattle.answers.specs.declared.Refusal.{Refusal}
use Rattle.store.specs.declared.Store.{Store}
use Rattle.shell_edit.specs.declared.Changed.{Changed}
use Rattle.shell_edit.specs.Changes.{read_of, told_by}
use Rattle.shell_file.proofs.load.Goals as goal

pub returns : goal.returns
unfolding read_of
returns c =
    (search rules, ap (λ (x : Changed). x.store) c.told-said.ensures ∙ ap (λ (r : Result Store Refusal). (told_by c.args.s r).store) c.read.ensures)
