-- `patching` meets its contract: both are tested, the outcome is laid in room of its own and tested, and copied if it fits. Assumes nothing.
use Rattle.std.proofs.Common.{◌≡◌, ◌≤◌, true, length, sym, ap, ◌∙◌, arith, rules}
use Rattle.std.proofs.Math.Pow.{are_bytes}
use Rattle.lemmas.specs.AreBytes.{bytes_all}
use Rattle.model.specs.File.{full}
use Rattle.model.specs.Snapshot.{longest_snapshot}
use Rattle.model.specs.DifferenceBytes as model
use Rattle.answers.specs.declared.Refusal.TheVariants.{Form, Output}
use Rattle.snapshot_read.specs.Reading.{is_snapshot}
use Rattle.snapshot_write.specs.WritingLaws.{said_refused, said_gives, copied}
use Rattle.patch_scan.specs.Outcome.{outcome_of}
use Rattle.patch.specs.CallLaws.{no_left, no_list, too_long_lem, no_outcome, outcome_short, outcome_given, laid_long, laid_within, laid_cut}
use Rattle.patch.proofs.patching.Goals as goal

pub returns-then-not-is_snapshot : goal.returns-then-not-is_snapshot
returns-then-not-is_snapshot c =
    let a = c.args in
    let n = length a.out.now in
    said_refused (model.patching full a.left.now a.list.now n) Form a.out.now (no_left a.left.now a.list.now n (sym c.is_snapshot.ensures ∙ c.if-not-is_snapshot.true))

pub returns-then-not-is_list : goal.returns-then-not-is_list
returns-then-not-is_list c =
    let a = c.args in
    let n = length a.out.now in
    let left_is = sym c.is_snapshot.ensures ∙ c.if-not-is_snapshot.false in
    said_refused (model.patching full a.left.now a.list.now n) Form a.out.now (no_list a.left.now a.list.now n left_is (sym c.is_list.ensures ∙ c.if-not-is_list.true))

pub returns-in_default : goal.returns-in_default
returns-in_default c =
    let a = c.args in
    let n = length a.out.now in
    let left_is = sym c.is_snapshot.ensures ∙ c.if-not-is_snapshot.false in
    let list_is = sym c.is_list.ensures ∙ c.if-not-is_list.false in
    let bytes_are : are_bytes a.list.now ≡ true = bytes_all a.list.now (λ i. omega (arith, c.type_inv.list i)) in
    let full_room : length c.room-made.result ≡ longest_snapshot = search rules in
    let over = c.in_default.ensures in
    said_refused (model.patching full a.left.now a.list.now n) Form a.out.now (too_long_lem a.left.now a.list.now n left_is list_is bytes_are (omega (arith, full_room, over.over)))

pub returns-then-not-is_snapshot-2 : goal.returns-then-not-is_snapshot-2
returns-then-not-is_snapshot-2 c =
    let a = c.args in
    let n = length a.out.now in
    let left_is = sym c.is_snapshot.ensures ∙ c.if-not-is_snapshot.false in
    let list_is = sym c.is_list.ensures ∙ c.if-not-is_list.false in
    let bytes_are : are_bytes a.list.now ≡ true = bytes_all a.list.now (λ i. omega (arith, c.type_inv.list i)) in
    let full_room : length c.room-made.result ≡ longest_snapshot = search rules in
    let x = outcome_of a.left.now a.list.now in
    let w = c.in-Some.ensures in
    let most : length x ≤ longest_snapshot = omega (arith, full_room, laid_within w) in
    let none = sym (c.is_snapshot-2.ensures ∙ ap is_snapshot (laid_cut w)) ∙ c.if-not-is_snapshot-2.true in
    said_refused (model.patching full a.left.now a.list.now n) Form a.out.now (no_outcome a.left.now a.list.now n left_is list_is bytes_are most none)

pub returns-then-out-n : goal.returns-then-out-n
returns-then-out-n c =
    let a = c.args in
    let n = length a.out.now in
    let left_is = sym c.is_snapshot.ensures ∙ c.if-not-is_snapshot.false in
    let list_is = sym c.is_list.ensures ∙ c.if-not-is_list.false in
    let bytes_are : are_bytes a.list.now ≡ true = bytes_all a.list.now (λ i. omega (arith, c.type_inv.list i)) in
    let full_room : length c.room-made.result ≡ longest_snapshot = search rules in
    let x = outcome_of a.left.now a.list.now in
    let w = c.in-Some.ensures in
    let most : length x ≤ longest_snapshot = omega (arith, full_room, laid_within w) in
    let one = sym (c.is_snapshot-2.ensures ∙ ap is_snapshot (laid_cut w)) ∙ c.if-not-is_snapshot-2.false in
    said_refused (model.patching full a.left.now a.list.now n) Output a.out.now (outcome_short a.left.now a.list.now n left_is list_is bytes_are most one (omega (arith, laid_long w, c.if-out-n.true)))

pub returns : goal.returns
returns c =
    let a = c.args in
    let n = length a.out.now in
    let left_is = sym c.is_snapshot.ensures ∙ c.if-not-is_snapshot.false in
    let list_is = sym c.is_list.ensures ∙ c.if-not-is_list.false in
    let bytes_are : are_bytes a.list.now ≡ true = bytes_all a.list.now (λ i. omega (arith, c.type_inv.list i)) in
    let full_room : length c.room-made.result ≡ longest_snapshot = search rules in
    let x = outcome_of a.left.now a.list.now in
    let w = c.in-Some.ensures in
    let most : length x ≤ longest_snapshot = omega (arith, full_room, laid_within w) in
    let one = sym (c.is_snapshot-2.ensures ∙ ap is_snapshot (laid_cut w)) ∙ c.if-not-is_snapshot-2.false in
    let p = c.put_bytes in
    said_gives (model.patching full a.left.now a.list.now n) x a.out.now p.new.out c.in-Some.n
    (outcome_given a.left.now a.list.now n left_is list_is bytes_are most one (omega (arith, laid_long w, c.if-out-n.false))) (laid_long w)
    (copied x c.room-made.result c.lay_outcome.new.out a.out.now p.new.out c.in-Some.n (laid_within w) w.laid (laid_long w) p.ensures.1)
