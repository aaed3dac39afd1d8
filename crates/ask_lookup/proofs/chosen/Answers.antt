-- `chosen` meets its contract: nobody if the file begins after the key, else its number. Assumes nothing.
use Rattle.std.proofs.Common.{◌≡◌, true, false, sym, ◌∙◌}
use Rattle.model.specs.Key.{user_before, user}
use Rattle.keys.specs.Key.{key_of}
use Rattle.records.specs.Record.{file_of}
use Rattle.ask_lookup.specs.Lookup.{candidate_of}
use Rattle.ask_lookup.proofs.chosen.Goals as goal

pub returns-then-begins_after : goal.returns-then-begins_after
unfolding candidate_of
returns-then-begins_after c =
    let a = c.args in
    let e : user_before (user (key_of a.k)) (user (file_of a.f).smallest) ≡ true = sym c.begins_after.ensures ∙ c.if-begins_after.true in
    rw e

pub returns-else-begins_after : goal.returns-else-begins_after
unfolding candidate_of file_of
returns-else-begins_after c =
    let a = c.args in
    let e : user_before (user (key_of a.k)) (user (file_of a.f).smallest) ≡ false = sym c.begins_after.ensures ∙ c.if-begins_after.false in
    rw e
