-- `records::total_size` meets its contract: sizes added with the largest u64 as a bound. Assumes nothing.
use Rattle.std.proofs.Common.{◌≡◌, ℕ, ◌+◌, ◌≤◌, min, List, [], ◌∷◌, map, fold, rules, arith}
use Rattle.lemmas.specs.Lists.{sum}
use Rattle.model.specs.File.{total, max_word}
use Rattle.records.specs.Record.{file_of}
use Rattle.records.specs.declared.FileRecord.{FileRecord}
use Rattle.records.specs.Run.{run}
use Rattle.records.proofs.total_size.Goals as goal

-- the sum is bounded at the end, or at each step
bounded : (a : ℕ) (rs : List FileRecord) → a ≤ max_word → fold (λ s (r : FileRecord). min (s + r.size) max_word) a rs ≡ min (a + total (map file_of rs)) max_word
unfolding total sum file_of
bounded a [] h = omega arith
bounded a (r ∷ rs) h = let e = bounded (min (a + r.size) max_word) rs (omega arith) in omega (arith, e)

pub returns : goal.returns
unfolding run
returns c =
    let e : c.fold.result ≡ fold (λ s (r : FileRecord). min (s + r.size) max_word) 0 c.part.result.now = search rules in
    let none = bounded 0 c.part.result.now (omega arith) in
    rw (← c.part.ensures) (omega (arith, e, none))
