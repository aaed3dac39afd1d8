-- `record_of_text` meets its contract: each turn lays one byte more. Assumes nothing.
use Rattle.std.proofs.Common.{◌++◌, ◌∙◌, refl, arith}
use Rattle.model.specs.File.{key_room}
use Rattle.lemmas.specs.Little.{bytes}
use Rattle.script_words.specs.Words.{word_of, forty}
use Rattle.script_words.specs.WordLaws.{fill_turn, fill_done, forty_whole}
use Rattle.script_words.proofs.record_of_text.Goals as goal

pub loop-i-preserved : goal.loop-i-preserved
loop-i-preserved c = fill_turn (word_of c.args.line.now c.args.from c.args.to ++ bytes c.args.width c.args.x) _ c.loop-i.b-items c.loop-i.i c.text_byte.result refl (omega arith) c.loop-i.invariant c.text_byte.ensures

pub returns : goal.returns
returns c = c.loop-i.invariant ∙ fill_done (forty (word_of c.args.line.now c.args.from c.args.to ++ bytes c.args.width c.args.x)) _ c.loop-i.i key_room (omega arith) refl ∙ forty_whole (word_of c.args.line.now c.args.from c.args.to ++ bytes c.args.width c.args.x)
