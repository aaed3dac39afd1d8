-- `put_pick` meets its contract: the parts of a pick one after another. Assumes nothing.
use Rattle.std.proofs.Common.{◌≡◌, ℕ, ◌+◌, ◌≤◌, true, length, ap, refl, Ok, arith}
use Rattle.model.specs.Answer.{gives}
use Rattle.model_replay.specs.Given.{picked, choice_of}
use Rattle.pick_answer.specs.declared.Picked.{Picked}
use Rattle.pick_answer.specs.Picked.{picked_of, well_picked}
use Rattle.replay_given.specs.Given.{picked_given, given_bytes, why_bytes, lists_bytes, is_number, can_tell}
use Rattle.replay_given.specs.GivenLaws.{picked_given_lem, picked_long, picked_laid, can_tell_says}
use Rattle.replay_given.proofs.put_pick.Goals as goal

-- an accepted pick: what was picked
done : (c : Picked) → given_bytes (picked_given (Ok c)) ≡ given_bytes (gives (picked (choice_of (picked_of c))))
done c = ap given_bytes (picked_given_lem (Ok c) c refl)

-- it is well-formed and its score a number, and what has room for it has room for its parts
told : (c : Picked) (at n : ℕ) → (can_tell (Ok c) ≡ true) × (at + length (given_bytes (picked_given (Ok c))) ≤ n)
    → (well_picked c ≡ true) × (is_number c.cause ≡ true) × (at + 17 + length (why_bytes c.cause) + length (lists_bytes c) ≤ n)
told c at n h =
    let t = can_tell_says (Ok c) c refl h.0 in
    (t.0, t.1, omega (arith, ap length (done c), picked_long c, h.1))

pub put_number-requires : goal.put_number-requires
put_number-requires c =
    let t = told c.args.c c.args.at (length c.args.out.now) c.requires in
    omega (arith, t.2)

pub put_number-requires-2 : goal.put_number-requires-2
put_number-requires-2 c =
    let t = told c.args.c c.args.at (length c.args.out.now) c.requires in
    omega (arith, t.2)

pub put_why-why-requires : goal.put_why-why-requires
put_why-why-requires c =
    let t = told c.args.c c.args.at (length c.args.out.now) c.requires in
    (t.1, omega (arith, t.2))

pub put_number-requires-3 : goal.put_number-requires-3
put_number-requires-3 c =
    let t = told c.args.c c.args.at (length c.args.out.now) c.requires in
    omega (arith, t.2, c.put_why-why.ensures.0)

pub overflow_add-why : goal.overflow_add-why
overflow_add-why c =
    let t = told c.args.c c.args.at (length c.args.out.now) c.requires in
    omega (arith, t.2, c.put_why-why.ensures.0)

pub put_lists-requires : goal.put_lists-requires
put_lists-requires c =
    let t = told c.args.c c.args.at (length c.args.out.now) c.requires in
    (t.0, omega (arith, t.2, c.put_why-why.ensures.0))

pub returns : goal.returns
returns c =
    let a = c.args in
    let x = a.c in
    let e = done x in
    let w = c.put_why-why in
    let l = c.put_lists in
    rw e
    (picked_laid x a.out.now c.put_number.new.out c.put_number-2.new.out w.new.out c.put_number-3.new.out l.new.out a.at w.result l.result
    (rw e at c.requires.1) c.put_number.ensures c.put_number-2.ensures w.ensures.1 w.ensures.0 c.put_number-3.ensures l.ensures.1 l.ensures.0)
