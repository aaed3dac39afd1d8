-- `pick_search::edge_question` meets its contract. Assumes nothing.
use mathlib.Core.Path.{◌≡◌, ap, ◌∙◌}
use mathlib.Core.List.{List, []}
use Prim.Native.Nat.{ℕ}
use native.Mathlib.Omega.{arith}
use borrow.Author.Rules.{rules}
use Rattle.model.specs.Range.{between}
use Rattle.keys.specs.Key.{key_of}
use Rattle.keys.specs.KeyLaws.{key_of_record}
use Rattle.pick_range.specs.Ranges.{span_record}
use Rattle.pick_search.specs.Choice.{edge_question}
use Rattle.pick_search.proofs.edge_question.Statement.{statement}
use Rattle.pick_search.proofs.edge_question.Tie as tie

blank-key-requires : tie.Need-blank_key-key-requires
blank-key-requires c κs = search rules

between-requires : tie.Need-between-span-requires
between-requires c κs = search rules

asked-edges-requires : tie.Need-asked_edges-requires
asked-edges-requires c κs = search rules

returns : tie.Need-returns
unfolding edge_question
returns c =
    let b = c in
    let none : key_of b.blank_key-key.result ≡ [] = ap key_of b.blank_key-key.ensures ∙ key_of_record [] (omega arith) in
    let span : b.between-span.result ≡ span_record (between [] []) = b.between-span.ensures ∙ ap (λ (k : List ℕ). span_record (between k k)) none in
    rw (span, c.asked_edges.ensures)

pub edge_question_spec : {M : Type 1} → statement M
edge_question_spec = tie.close (tie.spec blank-key-requires between-requires asked-edges-requires returns)
