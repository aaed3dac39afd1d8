-- `first_after` meets its contract: the laws of the places that are left. Assumes nothing.
use Rattle.std.proofs.Common.{◌≡◌, Bool, true, false, sym, ◌∙◌, subst, arith}
use Rattle.model.specs.Key.{before}
use Rattle.keys.specs.Key.{key_of}
use Rattle.pick_plan.specs.Starts.{nearer_by}
use Rattle.pick_plan.specs.FirstLaws.{Left, left_all, left_nearer, left_none}
use Rattle.pick_plan.proofs.first_after.Goals as goal

pub loop-at-init : goal.loop-at-init
loop-at-init c = left_all (key_of c.args.key) c.args.s.now.files c.args.p c.requires.1 c.requires.2

pub returns-then-after : goal.returns-then-after
unfolding nearer_by
returns-then-after c =
    let k = key_of c.args.key in
    let files = c.args.s.now.files in
    let p = c.args.p in
    let left = left_nearer k files c.requires.0.files p (record { lo = c.loop-at.at; hi = p.hi }) c.loop-at.invariant c.loop-at-test.true c.file_at-f.result c.file_at-f.ensures in
    let b : before k (key_of c.file_at-f.result.largest) ≡ true = cc in
    left_none k files p (record { lo = c.loop-at.at; hi = c.loop-at.at })
    (subst (λ (t : Bool). Left k files p (nearer_by (record { lo = c.loop-at.at; hi = p.hi }) t)) b left) (omega arith)

pub loop-at-preserved : goal.loop-at-preserved
unfolding nearer_by
loop-at-preserved c =
    let k = key_of c.args.key in
    let files = c.args.s.now.files in
    let p = c.args.p in
    let left = left_nearer k files c.requires.0.files p (record { lo = c.loop-at.at; hi = p.hi }) c.loop-at.invariant c.loop-at-test.true c.file_at-f.result c.file_at-f.ensures in
    let b : before k (key_of c.file_at-f.result.largest) ≡ false = cc in
    subst (λ (t : Bool). Left k files p (nearer_by (record { lo = c.loop-at.at; hi = p.hi }) t)) b left

pub returns : goal.returns
returns c =
    let p = c.args.p in
    let at : c.loop-at.at ≡ p.hi = omega arith in
    sym at ∙ left_none (key_of c.args.key) c.args.s.now.files p (record { lo = c.loop-at.at; hi = p.hi }) c.loop-at.invariant (omega arith)
