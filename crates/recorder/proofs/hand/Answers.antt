-- `hand` meets its contract: 13, or the bytes at the start of the output. Assumes nothing.
use Rattle.std.proofs.Common.{refl, ◌∙◌, length}
use Rattle.answers.specs.declared.Refusal.TheVariants.{Output}
use Rattle.lemmas.specs.Slices.{put_front}
use Rattle.snapshot_write.specs.WritingLaws.{said_refused, said_gives}
use Rattle.recorder.specs.Recorder.{roomed}
use Rattle.recorder.specs.RecorderLaws.{roomed_short, roomed_gives}
use Rattle.recorder.proofs.hand.Goals as goal

pub returns-then-out-n : goal.returns-then-out-n
returns-then-out-n c =
    let out = c.args.out.now in
    let bs = c.args.laid.now in
    said_refused (roomed bs (length out)) Output out (roomed_short bs (length out) c.if-out-n.true)

pub returns : goal.returns
returns c =
    let out = c.args.out.now in
    let bs = c.args.laid.now in
    said_gives (roomed bs (length out)) bs out c.put_bytes.new.out (length bs) (roomed_gives bs (length out) c.if-out-n.false) refl (c.put_bytes.ensures.1 ∙ put_front out bs)
