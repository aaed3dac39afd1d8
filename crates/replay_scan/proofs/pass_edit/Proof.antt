-- `pass_edit` meets its contract. Assumes nothing.
use borrow.Author.Rules.{rules}
use Rattle.model_replay.specs.Takes.{section_takes, log_takes, edit_takes}
use Rattle.replay_scan.specs.ScanLaws.{passes, told, stops, Whole, goes_on, whole_part}
use Rattle.replay_scan.proofs.pass_edit.Statement.{statement}
use Rattle.replay_scan.proofs.pass_edit.Tie as tie

pass-section-requires : tie.Need-pass_section-pointers-requires
pass-section-requires c κs = search rules

returns : tie.Need-returns-then-not-pointers
unfolding edit_takes
returns c =
    let s₁ = c in
    let a = s₁.args in
    told (stops (passes a.src.now a.at (section_takes 8 1) s₁.pass_section-pointers.ensures) _ c.if-not-pointers.true)

-- the pointers are whole
pointers : (c : tie.Else-not-pointers) → let s₁ = c in let a = s₁.args in Whole a.src.now a.at (section_takes 8 1) s₁.pass_section-pointers.result
pointers c =
    let s₁ = c in
    let a = s₁.args in
    whole_part a.src.now a.at (section_takes 8 1) s₁.pass_section-pointers.ensures c.if-not-pointers.false

pass-section-requires-2 : tie.Need-pass_section-deletions-requires
pass-section-requires-2 c κs = search rules

returns_2 : tie.Need-returns-then-not-deletions
unfolding edit_takes
returns_2 c =
    let s₂ = c in
    let s₁ = s₂ in
    let a = s₁.args in
    told (goes_on (pointers s₂.before.before.before) (stops (passes a.src.now s₁.pass_section-pointers.result.at (section_takes 16 0) s₂.pass_section-deletions.ensures) _ c.if-not-deletions.true))

-- the deletions are whole
deletions : (c : tie.Else-not-deletions) → let s₂ = c in let s₁ = s₂ in let a = s₁.args in Whole a.src.now s₁.pass_section-pointers.result.at (section_takes 16 0) s₂.pass_section-deletions.result
deletions c =
    let s₂ = c in
    let s₁ = s₂ in
    let a = s₁.args in
    whole_part a.src.now s₁.pass_section-pointers.result.at (section_takes 16 0) s₂.pass_section-deletions.ensures c.if-not-deletions.false

add-pass-section : tie.Need-overflow_add-pass_section
add-pass-section c = search rules

pass-section-requires-3 : tie.Need-pass_section-additions-requires
pass-section-requires-3 c κs = search rules

returns_3 : tie.Need-returns-then-not-additions
unfolding edit_takes
returns_3 c =
    let s₃ = c in
    let s₂ = s₃ in
    let s₁ = s₂ in
    let a = s₁.args in
    told (goes_on (pointers s₂.before.before.before.before.before.before) (goes_on (deletions s₃.before.before.before) (stops (passes a.src.now s₂.pass_section-deletions.result.at (section_takes 24 2) s₃.pass_section-additions.ensures) _ c.if-not-additions.true)))

-- the additions are whole
additions : (c : tie.Else-not-additions) → let s₃ = c in let s₂ = s₃ in let s₁ = s₂ in let a = s₁.args in Whole a.src.now s₂.pass_section-deletions.result.at (section_takes 24 2) s₃.pass_section-additions.result
additions c =
    let s₃ = c in
    let s₂ = s₃ in
    let s₁ = s₂ in
    let a = s₁.args in
    whole_part a.src.now s₂.pass_section-deletions.result.at (section_takes 24 2) s₃.pass_section-additions.ensures c.if-not-additions.false

pass-log-requires : tie.Need-pass_log-requires
pass-log-requires c κs = search rules

returns-4 : tie.Need-returns
unfolding edit_takes
returns-4 c =
    let s₃ = c in
    let s₂ = s₃ in
    let s₁ = s₂ in
    let a = s₁.args in
    told (goes_on (pointers s₂.before.before.before.before.before.before.before) (goes_on (deletions s₃.before.before.before.before) (goes_on (additions c.before) (passes a.src.now s₃.pass_section-additions.result.at log_takes c.pass_log.ensures))))

pub pass_edit_spec : {M : Type 1} → statement M
pass_edit_spec = tie.close (tie.spec pass-section-requires returns pass-section-requires-2 returns_2 add-pass-section pass-section-requires-3 returns_3 pass-log-requires returns-4)
