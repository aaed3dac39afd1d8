-- Ranges of user keys by value. Assumes nothing.
use Rattle.model.specs.Range.{Range}
use Rattle.keys.specs.Key.{user_of, user_record}
use Rattle.pick_range.specs.declared.Span.{Span}

-- the range that a span stands for
unfoldable pub span_of : Span → Range
span_of s = record { start = user_of s.start; stop = user_of s.stop }

-- the span that is kept of a range
unfoldable pub span_record : Range → Span
span_record r = record { start = user_record r.start; stop = user_record r.stop }
