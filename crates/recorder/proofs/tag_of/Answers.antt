-- `tag_of` meets its contract: each name has its tag. Assumes nothing.
use Rattle.recorder.specs.Recorder.{tag_of}
use Rattle.recorder.proofs.tag_of.Goals as goal

pub returns-in-Reuse : goal.returns-in-Reuse
unfolding tag_of
returns-in-Reuse c = rw c.in-Reuse.is

pub returns-in-Mark : goal.returns-in-Mark
unfolding tag_of
returns-in-Mark c = rw c.in-Mark.is

pub returns-in-LastSequence : goal.returns-in-LastSequence
unfolding tag_of
returns-in-LastSequence c = rw c.in-LastSequence.is

pub returns-in-Manifest : goal.returns-in-Manifest
unfolding tag_of
returns-in-Manifest c = rw c.in-Manifest.is

pub returns-in-PreviousLog : goal.returns-in-PreviousLog
unfolding tag_of
returns-in-PreviousLog c = rw c.in-PreviousLog.is
