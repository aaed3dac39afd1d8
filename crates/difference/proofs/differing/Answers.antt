-- `differing` meets its contract: both are tested, the list is laid in room of its own, and copied if it fits. Assumes nothing.
use Rattle.std.proofs.Common.{◌≡◌, ◌≤◌, length, sym, ◌∙◌, arith, rules}
use Rattle.model.specs.File.{full}
use Rattle.model.specs.DifferenceBytes as model
use Rattle.model.specs.DifferenceBytes.{longest_list}
use Rattle.answers.specs.declared.Refusal.TheVariants.{Form, Output}
use Rattle.snapshot_write.specs.WritingLaws.{said_refused, said_gives, copied}
use Rattle.difference_scan.specs.Listing.{list_of}
use Rattle.difference.specs.CallLaws.{no_left, no_right, list_most, list_short, list_given}
use Rattle.difference.proofs.differing.Goals as goal

pub returns-then-not-is_snapshot : goal.returns-then-not-is_snapshot
returns-then-not-is_snapshot c =
    let a = c.args in
    let n = length a.out.now in
    said_refused (model.differing full a.left.now a.right.now n) Form a.out.now (no_left a.left.now a.right.now n (sym c.is_snapshot.ensures ∙ c.if-not-is_snapshot.true))

pub returns-then-not-is_snapshot-2 : goal.returns-then-not-is_snapshot-2
returns-then-not-is_snapshot-2 c =
    let a = c.args in
    let n = length a.out.now in
    let left_is = sym c.is_snapshot.ensures ∙ c.if-not-is_snapshot.false in
    said_refused (model.differing full a.left.now a.right.now n) Form a.out.now (no_right a.left.now a.right.now n left_is (sym c.is_snapshot-2.ensures ∙ c.if-not-is_snapshot-2.true))

pub lay_list-n-requires : goal.lay_list-n-requires
lay_list-n-requires c =
    let a = c.args in
    let left_is = sym c.is_snapshot.ensures ∙ c.if-not-is_snapshot.false in
    let right_is = sym c.is_snapshot-2.ensures ∙ c.if-not-is_snapshot-2.false in
    let full_room : length c.room-list.result ≡ longest_list = search rules in
    omega (arith, full_room, list_most a.left.now a.right.now (length a.out.now) left_is right_is)

pub returns-then-out-n : goal.returns-then-out-n
returns-then-out-n c =
    let a = c.args in
    let n = length a.out.now in
    let left_is = sym c.is_snapshot.ensures ∙ c.if-not-is_snapshot.false in
    let right_is = sym c.is_snapshot-2.ensures ∙ c.if-not-is_snapshot-2.false in
    said_refused (model.differing full a.left.now a.right.now n) Output a.out.now (list_short a.left.now a.right.now n left_is right_is (omega (arith, c.if-out-n.true, c.lay_list-n.ensures.0)))

pub slice_bounds-put_bytes-end : goal.slice_bounds-put_bytes-end
slice_bounds-put_bytes-end c =
    let a = c.args in
    let left_is = sym c.is_snapshot.ensures ∙ c.if-not-is_snapshot.false in
    let right_is = sym c.is_snapshot-2.ensures ∙ c.if-not-is_snapshot-2.false in
    let full_room : length c.room-list.result ≡ longest_list = search rules in
    omega (arith, c.lay_list-n.ensures.0, c.lay_list-n.auto.out, full_room, list_most a.left.now a.right.now (length a.out.now) left_is right_is)

pub returns : goal.returns
returns c =
    let a = c.args in
    let n = length a.out.now in
    let left_is = sym c.is_snapshot.ensures ∙ c.if-not-is_snapshot.false in
    let right_is = sym c.is_snapshot-2.ensures ∙ c.if-not-is_snapshot-2.false in
    let full_room : length c.room-list.result ≡ longest_list = search rules in
    let d = list_of a.left.now a.right.now in
    let fits : length d ≤ length c.room-list.result = omega (arith, full_room, list_most a.left.now a.right.now n left_is right_is) in
    let l = c.lay_list-n.ensures in
    said_gives (model.differing full a.left.now a.right.now n) d a.out.now c.put_bytes.new.out c.lay_list-n.result
    (list_given a.left.now a.right.now n left_is right_is (omega (arith, l.0, c.if-out-n.false))) l.0
    (copied d c.room-list.result c.lay_list-n.new.out a.out.now c.put_bytes.new.out c.lay_list-n.result fits l.1 l.0 c.put_bytes.ensures.1)
