-- `point` meets its contract: each turn sets one more pointer of the edit.
use Rattle.std.proofs.Common.{◌≡◌, ℕ, ◌+◌, ◌<◌, true, List, [], length, get_or, set, take, drop, add-one, drop-cons, drop_of_length-le, sym, ap, ◌∙◌, arith}
use Rattle.std.proofs.Math.ListN.{length-set}
use Rattle.std.proofs.Math.Seq.{set_out}
use Rattle.keys.specs.Key.{key_of, key_record}
use Rattle.keys.specs.declared.Key.{Key}
use Rattle.edit.specs.EditLaws.{past_pointing}
use Rattle.edit.specs.declared.Pointing.{Pointing}
use Rattle.store.specs.declared.Pointer.{Pointer}
use Rattle.edit_apply.specs.Apply.{pointed_by}
use Rattle.edit_apply.proofs.point.Goals as goal
use Rattle.edit_apply.proofs.point.Goals.{then-p-lt-COUNT, else-p-lt-COUNT}

-- one pointer of the edit more
pointed_turn : (qs : List Pointing) (i : ℕ) (out : List Pointer) → i < length qs
    → pointed_by (drop i qs) out ≡ pointed_by (drop (i + 1) qs) (set out (get_or qs i past_pointing).level (record { set = true; key = key_record (key_of (get_or qs i past_pointing).key) }))
unfolding pointed_by
pointed_turn qs i out h = rw (drop-cons qs i past_pointing h, add-one i)

pub loop-p-preserved : goal.loop-p-preserved
loop-p-preserved c =
    let a = c.args in
    let l = c.loop-p in
    let qs = take a.count a.pointings in
    let q = get_or qs l.p-index past_pointing in
    let it : Pointer = record { set = true; key = key_record (key_of q.key) } in
    let turn = pointed_turn qs l.p-index l.out (omega arith) in
    let stored : c.if-p-lt-COUNT.out ≡ set l.out q.level it =
    elim c.if-p-lt-COUNT.branch [
      | then-p-lt-COUNT w ↦ w.out-is ∙ ap (λ (x : Key). set l.out q.level (record { set = true; key = x })) c.kept-kept.ensures
      | else-p-lt-COUNT w ↦ w.out-is ∙ sym (set_out l.out q.level it (omega arith))
    ] in
    rw stored (length-set l.out q.level it ∙ l.invariant.0, sym turn ∙ l.invariant.1)

pub returns : goal.returns
unfolding pointed_by
returns c =
    let qs = take c.args.count c.args.pointings in
    let none : drop c.loop-p.p-index qs ≡ [] = drop_of_length-le qs (omega arith) in
    sym (ap (λ (z : List Pointing). pointed_by z c.loop-p.out) none) ∙ c.loop-p.invariant.1
