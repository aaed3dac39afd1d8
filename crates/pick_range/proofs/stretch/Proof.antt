-- `pick_range::stretch` meets its contract. Assumes nothing.
use mathlib.Core.Path.{ap, ◌∙◌}
use mathlib.Core.Bool.{Bool, cond}
use Rattle.model.specs.Key.{user}
use Rattle.model.specs.Range.{earlier, later, stretch}
use Rattle.keys.specs.Key.{key_of, user_of}
use Rattle.records.specs.Record.{file_of}
use Rattle.pick_range.specs.Ranges.{span_of}
use borrow.Author.Rules.{rules}
use Rattle.pick_range.proofs.stretch.Statement.{statement}
use Rattle.pick_range.proofs.stretch.Tie as tie

user-is-after-requires : tie.Need-user_is_after-before-requires
user-is-after-requires c κs = search rules

user-if-requires : tie.Need-user_if-start-requires
user-if-requires c κs = search rules

user-is-before-requires : tie.Need-user_is_before-after-requires
user-is-before-requires c κs = search rules

user-if-requires-2 : tie.Need-user_if-stop-requires
user-if-requires-2 c κs = search rules

returns : tie.Need-returns
unfolding span_of stretch file_of earlier later
returns c =
    let h = c in
    let l = h in
    let t = l in
    let a = t.args in
    let start = l.user_if-start.ensures ∙ ap (λ (b : Bool). cond b (user (key_of a.f.smallest)) (user_of a.span.start)) t.user_is_after-before.ensures in
    let stop = c.user_if-stop.ensures ∙ ap (λ (b : Bool). cond b (user (key_of a.f.largest)) (user_of a.span.stop)) h.user_is_before-after.ensures in
    λ i. record { start = start i; stop = stop i }

pub stretch_spec : {M : Type 1} → statement M
stretch_spec = tie.close (tie.spec user-is-after-requires user-if-requires user-is-before-requires user-if-requires-2 returns)
