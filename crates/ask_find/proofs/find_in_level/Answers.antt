-- `find_in_level` meets its contract. Assumes nothing.
use Rattle.std.proofs.Common.{◌∙◌}
use Rattle.keys.specs.Key.{key_of}
use Rattle.ask_find.specs.SearchLaws.{halved_passed}
use Rattle.ask_find.proofs.find_in_level.Goals as goal

pub returns : goal.returns
returns c = c.search.ensures ∙ halved_passed (key_of c.args.k) c.args.files.now c.requires
