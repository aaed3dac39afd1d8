-- `pass_entry` meets its contract. Assumes nothing.
use borrow.Author.Rules.{rules}
use Rattle.model_replay.specs.Takes.{asked_takes, given_takes, entry_takes}
use Rattle.replay_scan.specs.ScanLaws.{passes, told, stops, Whole, goes_on, whole_part}
use Rattle.replay_scan.proofs.pass_entry.Statement.{statement}
use Rattle.replay_scan.proofs.pass_entry.Tie as tie

pass-asked-requires : tie.Need-pass_asked-asked-requires
pass-asked-requires c κs = search rules

returns : tie.Need-returns-then-not-asked
unfolding entry_takes
returns c =
    let s₁ = c in
    let a = s₁.args in
    told (stops (passes a.src.now a.at asked_takes s₁.pass_asked-asked.ensures) _ c.if-not-asked.true)

-- the call is whole
asked : (c : tie.Else-not-asked) → let s₁ = c in let a = s₁.args in Whole a.src.now a.at asked_takes s₁.pass_asked-asked.result
asked c =
    let s₁ = c in
    let a = s₁.args in
    whole_part a.src.now a.at asked_takes s₁.pass_asked-asked.ensures c.if-not-asked.false

pass-given-requires : tie.Need-pass_given-requires
pass-given-requires c κs = search rules

returns_2 : tie.Need-returns
unfolding entry_takes
returns_2 c =
    let s₁ = c in
    let a = s₁.args in
    told (goes_on (asked c.before) (passes a.src.now s₁.pass_asked-asked.result.at given_takes c.pass_given.ensures))

pub pass_entry_spec : {M : Type 1} → statement M
pass_entry_spec = tie.close (tie.spec pass-asked-requires returns pass-given-requires returns_2)
