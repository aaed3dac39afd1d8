-- `read_hex` meets its contract. Assumes nothing.
use Rattle.std.proofs.Common.{ap, ◌∙◌, rules}
use Rattle.shell_edit.specs.Changes.{read_of}
use Rattle.shell_edit.specs.ChangeLaws.{bytes_are}
use Rattle.shell_edit.proofs.read_hex.Goals as goal

pub returns : goal.returns
returns c =
    let s = c.args in
    let h = c.lay_hex-n in
    c.read_front.ensures ∙ ap read_of (bytes_are s.line.now s.from s.to h.result _ (search rules) h.ensures.1)
