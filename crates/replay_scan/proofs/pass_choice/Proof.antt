-- `pass_choice` meets its contract. Assumes nothing.
use borrow.Author.Rules.{rules}
use Rattle.model_replay.specs.Takes.{takes, section_takes, why_takes, choice_takes}
use Rattle.replay_scan.specs.ScanLaws.{passes, told, stops, Whole, goes_on, whole_part}
use Rattle.replay_scan.proofs.pass_choice.Statement.{statement}
use Rattle.replay_scan.proofs.pass_choice.Tie as tie

pass-requires : tie.Need-pass-level-requires
pass-requires c κs = search rules

returns : tie.Need-returns-then-not-level
unfolding choice_takes
returns c =
    let s₁ = c in
    let a = s₁.args in
    told (stops (passes a.src.now a.at (takes 8) s₁.pass-level.ensures) _ c.if-not-level.true)

-- the level is whole
level : (c : tie.Else-not-level) → let s₁ = c in let a = s₁.args in Whole a.src.now a.at (takes 8) s₁.pass-level.result
level c =
    let s₁ = c in
    let a = s₁.args in
    whole_part a.src.now a.at (takes 8) s₁.pass-level.ensures c.if-not-level.false

pass-why-requires : tie.Need-pass_why-why-requires
pass-why-requires c κs = search rules

returns_2 : tie.Need-returns-then-not-why
unfolding choice_takes
returns_2 c =
    let s₂ = c in
    let s₁ = s₂ in
    let a = s₁.args in
    told (goes_on (level s₂.before.before.before) (stops (passes a.src.now s₁.pass-level.result.at why_takes s₂.pass_why-why.ensures) _ c.if-not-why.true))

-- the cause is whole
cause : (c : tie.Else-not-why) → let s₂ = c in let s₁ = s₂ in let a = s₁.args in Whole a.src.now s₁.pass-level.result.at why_takes s₂.pass_why-why.result
cause c =
    let s₂ = c in
    let s₁ = s₂ in
    let a = s₁.args in
    whole_part a.src.now s₁.pass-level.result.at why_takes s₂.pass_why-why.ensures c.if-not-why.false

pass-requires-2 : tie.Need-pass-maximum-requires
pass-requires-2 c κs = search rules

returns_3 : tie.Need-returns-then-not-maximum
unfolding choice_takes
returns_3 c =
    let s₃ = c in
    let s₂ = s₃ in
    let s₁ = s₂ in
    let a = s₁.args in
    told (goes_on (level s₂.before.before.before.before.before.before) (goes_on (cause s₃.before.before.before) (stops (passes a.src.now s₂.pass_why-why.result.at (takes 8) s₃.pass-maximum.ensures) _ c.if-not-maximum.true)))

-- the maximum is whole
maximum : (c : tie.Else-not-maximum) → let s₃ = c in let s₂ = s₃ in let s₁ = s₂ in let a = s₁.args in Whole a.src.now s₂.pass_why-why.result.at (takes 8) s₃.pass-maximum.result
maximum c =
    let s₃ = c in
    let s₂ = s₃ in
    let s₁ = s₂ in
    let a = s₁.args in
    whole_part a.src.now s₂.pass_why-why.result.at (takes 8) s₃.pass-maximum.ensures c.if-not-maximum.false

pass-section-requires : tie.Need-pass_section-first-requires
pass-section-requires c κs = search rules

returns-4 : tie.Need-returns-then-not-first
unfolding choice_takes
returns-4 c =
    let s₄ = c in
    let s₃ = s₄ in
    let s₂ = s₃ in
    let s₁ = s₂ in
    let a = s₁.args in
    told (goes_on (level s₂.before.before.before.before.before.before.before.before.before) (goes_on (cause s₃.before.before.before.before.before.before) (goes_on (maximum s₄.before.before.before) (stops (passes a.src.now s₃.pass-maximum.result.at (section_takes 16 2) s₄.pass_section-first.ensures) _ c.if-not-first.true))))

-- the files of the first level are whole
first : (c : tie.Else-not-first) → let s₄ = c in let s₃ = s₄ in let s₂ = s₃ in let s₁ = s₂ in let a = s₁.args in Whole a.src.now s₃.pass-maximum.result.at (section_takes 16 2) s₄.pass_section-first.result
first c =
    let s₄ = c in
    let s₃ = s₄ in
    let s₂ = s₃ in
    let s₁ = s₂ in
    let a = s₁.args in
    whole_part a.src.now s₃.pass-maximum.result.at (section_takes 16 2) s₄.pass_section-first.ensures c.if-not-first.false

pass-section-requires-2 : tie.Need-pass_section-second-requires
pass-section-requires-2 c κs = search rules

returns-5 : tie.Need-returns-then-not-second
unfolding choice_takes
returns-5 c =
    let s₅ = c in
    let s₄ = s₅ in
    let s₃ = s₄ in
    let s₂ = s₃ in
    let s₁ = s₂ in
    let a = s₁.args in
    told (goes_on (level s₂.before.before.before.before.before.before.before.before.before.before.before.before) (goes_on (cause s₃.before.before.before.before.before.before.before.before.before) (goes_on (maximum s₄.before.before.before.before.before.before) (goes_on (first s₅.before.before.before) (stops (passes a.src.now s₄.pass_section-first.result.at (section_takes 16 2) s₅.pass_section-second.ensures) _ c.if-not-second.true)))))

-- the files of the second level are whole
second : (c : tie.Else-not-second) → let s₅ = c in let s₄ = s₅ in let s₃ = s₄ in let s₂ = s₃ in let s₁ = s₂ in let a = s₁.args in Whole a.src.now s₄.pass_section-first.result.at (section_takes 16 2) s₅.pass_section-second.result
second c =
    let s₅ = c in
    let s₄ = s₅ in
    let s₃ = s₄ in
    let s₂ = s₃ in
    let s₁ = s₂ in
    let a = s₁.args in
    whole_part a.src.now s₄.pass_section-first.result.at (section_takes 16 2) s₅.pass_section-second.ensures c.if-not-second.false

pass-section-requires-3 : tie.Need-pass_section-requires
pass-section-requires-3 c κs = search rules

returns-6 : tie.Need-returns
unfolding choice_takes
returns-6 c =
    let s₅ = c in
    let s₄ = s₅ in
    let s₃ = s₄ in
    let s₂ = s₃ in
    let s₁ = s₂ in
    let a = s₁.args in
    told (goes_on (level s₂.before.before.before.before.before.before.before.before.before.before.before.before.before) (goes_on (cause s₃.before.before.before.before.before.before.before.before.before.before) (goes_on (maximum s₄.before.before.before.before.before.before.before) (goes_on (first s₅.before.before.before.before) (goes_on (second c.before) (passes a.src.now s₅.pass_section-second.result.at (section_takes 16 2) c.pass_section.ensures))))))

pub pass_choice_spec : {M : Type 1} → statement M
pass_choice_spec = tie.close (tie.spec pass-requires returns pass-why-requires returns_2 pass-requires-2 returns_3 pass-section-requires returns-4 pass-section-requires-2 returns-5 pass-section-requires-3 returns-6)
