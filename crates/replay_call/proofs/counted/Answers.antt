-- `counted` meets its contract. Assumes nothing.
use Rattle.std.proofs.Common.{◌∙◌, arith}
use Rattle.model_replay.specs.Recording.{reuse_tag, mark_tag, last_tag, manifest_tag, previous_tag}
use Rattle.replay_call.specs.Call.{count_of}
use Rattle.replay_call.specs.StepLaws.{counted_is}
use Rattle.replay_call.proofs.counted.Goals as goal

pub returns-then-tag-eq-REUSE : goal.returns-then-tag-eq-REUSE
unfolding count_of
returns-then-tag-eq-REUSE c = let a = c.args in c.reuse_file_number.ensures ∙ counted_is a.s a.tag a.n reuse_tag c.if-tag-eq-REUSE.true

pub returns-then-tag-eq-MARK : goal.returns-then-tag-eq-MARK
unfolding count_of
returns-then-tag-eq-MARK c = let a = c.args in c.mark_file_number_used.ensures ∙ counted_is a.s a.tag a.n mark_tag c.if-tag-eq-MARK.true

pub returns-then-tag-eq-LAST : goal.returns-then-tag-eq-LAST
unfolding count_of
returns-then-tag-eq-LAST c = let a = c.args in c.set_last_sequence.ensures ∙ counted_is a.s a.tag a.n last_tag c.if-tag-eq-LAST.true

pub returns-then-tag-eq-MANIFEST : goal.returns-then-tag-eq-MANIFEST
unfolding count_of
returns-then-tag-eq-MANIFEST c = let a = c.args in c.set_manifest_number.ensures ∙ counted_is a.s a.tag a.n manifest_tag c.if-tag-eq-MANIFEST.true

pub returns : goal.returns
unfolding count_of
returns c = let a = c.args in c.set_previous_log.ensures ∙ counted_is a.s a.tag a.n previous_tag (omega arith)
