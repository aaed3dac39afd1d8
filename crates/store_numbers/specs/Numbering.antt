-- The answers of the counter calls on a store. Assumes nothing.
use Rattle.std.specs.Prelude.{ℕ, cond, ltb, Result, Ok, Err}
use Rattle.model.specs.Answer.{Answer}
use Rattle.model.specs.File.{max_counter}
use Rattle.model.specs.Calls as calls
use Rattle.answers.specs.Outcome.{result_of}
use Rattle.answers.specs.declared.Refusal.{Refusal}
use Rattle.answers.specs.declared.Refusal.TheVariants.{Counter, Form}
use Rattle.counters.specs.declared.Counters.{Counters}
use Rattle.store.specs.declared.Store.{Store}
use Rattle.store.specs.Store.{store_of, well_store}
use Rattle.store_numbers.specs.declared.Handed.{Handed}

-- the same store with other counters
abbrev pub counting : Store → Counters → Store
counting s c = record { files = s.files; counts = s.counts; pointers = s.pointers; counters = c }

-- the same store with other counters, one of them set to n: 14 if the store is not well-formed, 9 if n is beyond a counter's bound
unfoldable pub setting : Store → ℕ → Counters → Result Store Refusal
setting s n c = cond (well_store s) (cond (ltb max_counter n) (Err Counter) (Ok (counting s c))) (Err Form)

-- the number that `new` hands out, and the store that it leaves, by value
unfoldable pub handed_record : calls.Handed → Handed
handed_record h = record { number = record { 0 = h.number }; store = store_of h.after }

-- the result of `new`
unfoldable pub handed : Answer calls.Handed → Result Handed Refusal
handed a = result_of handed_record a
