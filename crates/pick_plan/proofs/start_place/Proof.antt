-- `pick_plan::start_place` meets its contract. Assumes nothing.
use mathlib.Core.Path.{sym}
use mathlib.Core.Logic.{⊎_elim}
use Rattle.pick_plan.specs.StartLaws.{among_none, among_found, among_unset, among_wraps}
use Rattle.pick_plan.proofs.start_place.Statement.{statement}
use Rattle.pick_plan.proofs.start_place.Tie as tie

returns : tie.Need-returns-then-p
returns c =
    let a = c.args in
    sym (among_none a.p a.pointed a.i c.if-p.true)

returns_2 : tie.Need-returns-then-i-p
returns_2 c =
    let t = c in
    let e = t in
    let a = e.args in
    sym (among_found a.p a.pointed a.i e.if-p.false t.if-pointed.true c.if-i-p.true)

returns_3 : tie.Need-returns
returns_3 c =
    let e = c in
    let a = e.args in
    ⊎_elim (λ w. sym (among_wraps a.p a.pointed a.i e.if-p.false w.if-i-p.false)) (λ w. sym (among_unset a.p a.pointed a.i e.if-p.false w.if-pointed.false)) c.else-pointed.branch-raw

pub start_place_spec : {M : Type 1} → statement M
start_place_spec = tie.close (tie.spec returns returns_2 returns_3)
