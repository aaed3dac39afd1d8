-- `play` meets its contract: each turn makes one call more, or stops at an answer that differs. Assumes nothing.
use Rattle.std.proofs.Common.{◌≡◌, true, arith}
use Rattle.std.proofs.Math.Pow.{are_bytes}
use Rattle.lemmas.specs.AreBytes.{bytes_all}
use Rattle.store.proofs.Shape.{shape}
use Rattle.replay.specs.ReplayingLaws.{head_within, play_begins, play_ends, call_begins, in_order_lem, answer_within, play_turns, play_halts}
use Rattle.replay.proofs.play.Goals as goal

pub get_number-maximum-requires : goal.get_number-maximum-requires
get_number-maximum-requires c =
    let bytes : are_bytes c.args.recording.now ≡ true = bytes_all c.args.recording.now (λ i. omega (arith, c.type_inv.recording i)) in
    (omega (arith, head_within c.args.recording.now bytes c.requires.1), omega arith)

pub get_number-n-requires : goal.get_number-n-requires
get_number-n-requires c =
    let bytes : are_bytes c.args.recording.now ≡ true = bytes_all c.args.recording.now (λ i. omega (arith, c.type_inv.recording i)) in
    (omega (arith, head_within c.args.recording.now bytes c.requires.1), omega arith)

pub loop-i-init : goal.loop-i-init
loop-i-init c =
    let a = c.args in
    let bytes : are_bytes a.recording.now ≡ true = bytes_all a.recording.now (λ i. omega (arith, c.type_inv.recording i)) in
    play_begins a.recording.now a.s c.get_number-maximum.result c.get_number-n.result a.room.now bytes (shape a.s _ c.well_formed.0) c.requires c.get_number-maximum.ensures c.get_number-n.ensures

pub pass_asked-asked-requires : goal.pass_asked-asked-requires
pass_asked-asked-requires c = c.loop-i.invariant.stands.within

pub make-made-requires : goal.make-made-requires
make-made-requires c =
    let l = c.loop-i.invariant in
    (l.stands.well, call_begins l (omega arith), l.has_room)

pub slice_bounds-same-count : goal.slice_bounds-same-count
slice_bounds-same-count c = in_order_lem c.loop-i.invariant (omega arith) c.pass_asked-asked.ensures.0 c.pass_given-answer.ensures.0

pub slice_bounds-same-start : goal.slice_bounds-same-start
slice_bounds-same-start c = in_order_lem c.loop-i.invariant (omega arith) c.pass_asked-asked.ensures.0 c.pass_given-answer.ensures.0

pub slice_bounds-same-end-in-loop-i : goal.slice_bounds-same-end-in-loop-i
slice_bounds-same-end-in-loop-i c = answer_within c.loop-i.invariant (omega arith) c.pass_asked-asked.ensures.0 c.pass_given-answer.ensures.0 c.make-made.ensures

pub returns-then-not-same : goal.returns-then-not-same
returns-then-not-same c = play_halts c.loop-i.invariant (omega arith) c.pass_asked-asked.ensures.0 c.pass_given-answer.ensures.0 c.make-made.ensures c.same.ensures c.if-not-same.true

pub loop-i-preserved : goal.loop-i-preserved
loop-i-preserved c = play_turns c.loop-i.invariant (omega arith) c.pass_asked-asked.ensures.0 c.pass_given-answer.ensures.0 c.make-made.ensures c.same.ensures c.if-not-same.false

pub returns : goal.returns
returns c = let l = c.loop-i.invariant in play_ends l (omega (arith, l.stands.few, l.count))
