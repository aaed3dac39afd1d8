-- `record_of_hex` meets its contract: each turn lays one byte more. Assumes nothing.
use Rattle.std.proofs.Common.{◌∙◌, refl, arith}
use Rattle.model.specs.File.{key_room}
use Rattle.script_words.specs.Words.{hex_bytes, forty}
use Rattle.script_words.specs.WordLaws.{fill_turn, fill_done, forty_whole}
use Rattle.script_words.proofs.record_of_hex.Goals as goal

pub loop-i-preserved : goal.loop-i-preserved
loop-i-preserved c = fill_turn (hex_bytes c.args.line.now c.args.from c.args.to) _ c.loop-i.b-items c.loop-i.i c.digits_byte.result refl (omega arith) c.loop-i.invariant c.digits_byte.ensures

pub returns : goal.returns
returns c = c.loop-i.invariant ∙ fill_done (forty (hex_bytes c.args.line.now c.args.from c.args.to)) _ c.loop-i.i key_room (omega arith) refl ∙ forty_whole (hex_bytes c.args.line.now c.args.from c.args.to)
