-- The results of calls on keys by value. Assumes nothing.
use Rattle.std.specs.Prelude.{Result}
use Rattle.std.specs.declared.cmp.Ordering.{Ordering}
use Rattle.std.specs.declared.cmp.Ordering.TheVariants.{Less, Equal, Greater}
use Rattle.model.specs.Answer.{Answer}
use Rattle.model.specs.Key as model
use Rattle.answers.specs.Outcome.{result_of}
use Rattle.answers.specs.declared.Refusal.{Refusal}
use Rattle.keys.specs.Key.{user_record}
use Rattle.key_calls.specs.declared.Parsed.{Parsed}

-- how two keys stand, by value
unfoldable pub ordering_of : model.Ordering → Ordering
ordering_of model.is_less = Less
ordering_of model.is_equal = Equal
ordering_of model.is_greater = Greater

-- how the keys stand, or the refusal
unfoldable pub compared : Answer model.Ordering → Result Ordering Refusal
compared a = result_of ordering_of a

-- the parts of a key by value
unfoldable pub parsed_record : model.Parts → Parsed
parsed_record p = record { kind = p.kind; sequence = record { 0 = p.sequence }; user = user_record p.user }

-- the parts of a key, or the refusal
unfoldable pub parsed : Answer model.Parts → Result Parsed Refusal
parsed a = result_of parsed_record a
