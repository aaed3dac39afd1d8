-- `file_entry` meets its contract. Assumes nothing.
use Rattle.std.proofs.Common.{sym, ◌∙◌}
use Rattle.patch_list.specs.FoundLaws.{files_left, files_whole}
use Rattle.patch_list.proofs.file_entry.Goals as goal

pub returns-then-kind-byte : goal.returns-then-kind-byte
returns-then-kind-byte c =
    let a = c.args in
    let k = c.get_number-kind in
    let m = c.after-level_at in
    let l = c.get_number-level in
    let b = c.after-body in
    files_left a.src.now a.at m.result b.result k.result l.result k.ensures m.ensures.1 l.ensures b.ensures.1 (c.if-kind-byte.true ∙ c.byte.ensures) c.number_only.result c.number_only.ensures

pub returns : goal.returns
returns c =
    let a = c.args in
    let k = c.get_number-kind in
    let m = c.after-level_at in
    let l = c.get_number-level in
    let b = c.after-body in
    files_whole a.src.now a.at m.result b.result k.result l.result k.ensures m.ensures.1 l.ensures b.ensures.1 (λ h. c.if-kind-byte.false (h ∙ sym c.byte.ensures)) c.whole_file.result c.whole_file.ensures
