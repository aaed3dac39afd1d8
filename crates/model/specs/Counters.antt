-- The five counters of a store: the calls on them, and when a counter would go beyond 2^56 - 1. Assumes nothing.
use Rattle.std.specs.Prelude.{ℕ, suc, Bool, cond, false, not, [], ◌∷◌, eqb, ltb, leb}
use Rattle.model.specs.Answer.{Answer, ◌⇒◌, first_of}
use Rattle.model.specs.File.{Profile, Counters, State, max_counter, well_formed, set_counters}

-- the calls on counters: new, reuse and mark for file numbers, and plain setters for last sequence, manifest and previous log number
pub data CounterCall : Type 0 where
  new : CounterCall
  reuse : ℕ → CounterCall
  mark : ℕ → CounterCall
  last : ℕ → CounterCall
  manifest : ℕ → CounterCall
  previous : ℕ → CounterCall

-- the counters after a call. new adds 1 to next, reuse n sets next to n if n + 1 = next, mark n sets next to n + 1 if next ≤ n
unfoldable pub counted : CounterCall → Counters → Counters
counted new c = record { next = suc c.next; manifest = c.manifest; last = c.last; log = c.log; previous = c.previous }
counted (reuse n) c = record { next = cond (eqb (suc n) c.next) n c.next; manifest = c.manifest; last = c.last; log = c.log; previous = c.previous }
counted (mark n) c = record { next = cond (leb c.next n) (suc n) c.next; manifest = c.manifest; last = c.last; log = c.log; previous = c.previous }
counted (last n) c = record { next = c.next; manifest = c.manifest; last = n; log = c.log; previous = c.previous }
counted (manifest n) c = record { next = c.next; manifest = n; last = c.last; log = c.log; previous = c.previous }
counted (previous n) c = record { next = c.next; manifest = c.manifest; last = c.last; log = c.log; previous = n }

-- a counter would be beyond 2^56 - 1: new when next is 2^56 - 1, mark when n is 2^56 - 1 or more, a setter when its number is above it. reuse never is
unfoldable pub counter_beyond : CounterCall → Counters → Bool
counter_beyond new c = leb max_counter c.next
counter_beyond (reuse n) c = false
counter_beyond (mark n) c = leb max_counter n
counter_beyond (last n) c = ltb max_counter n
counter_beyond (manifest n) c = ltb max_counter n
counter_beyond (previous n) c = ltb max_counter n

-- a counter call on a state
unfoldable pub counter : Profile → State → CounterCall → Answer State
counter p s c = first_of ((not (well_formed p s) ⇒ 14) ∷ (counter_beyond c s.counters ⇒ 9) ∷ []) (set_counters s (counted c s.counters))
