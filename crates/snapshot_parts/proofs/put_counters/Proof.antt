-- `put_counters` meets its contract: the six numbers one after another. Assumes nothing.
use mathlib.Core.Path.{refl}
use borrow.Author.Rules.{rules}
use Rattle.model.specs.Snapshot.{five_of}
use Rattle.counters.specs.Counters.{counters_of}
use Rattle.snapshot_parts.specs.LayingLaws.{counters_laid}
use Rattle.snapshot_parts.proofs.put_counters.Statement.{statement}
use Rattle.snapshot_parts.proofs.put_counters.Tie as tie

put-number-requires : tie.Need-put_number-requires
put-number-requires c κs = search rules

add-put-number : tie.Need-overflow_add-at
add-put-number c = search rules

put-number-requires-2 : tie.Need-put_number-requires-2
put-number-requires-2 c κs = search rules

add-put-number-2 : tie.Need-overflow_add-at-2
add-put-number-2 c = search rules

put-number-requires-3 : tie.Need-put_number-requires-3
put-number-requires-3 c κs = search rules

add-put-number-3 : tie.Need-overflow_add-at-3
add-put-number-3 c = search rules

put-number-requires-4 : tie.Need-put_number-requires-4
put-number-requires-4 c κs = search rules

add-put-number-4 : tie.Need-overflow_add-at-4
add-put-number-4 c = search rules

put-number-requires-5 : tie.Need-put_number-requires-5
put-number-requires-5 c κs = search rules

add-put-number-5 : tie.Need-overflow_add-at-5
add-put-number-5 c = search rules

put-number-requires-6 : tie.Need-put_number-requires-6
put-number-requires-6 c κs = search rules

add-result : tie.Need-overflow_add-result
add-result c = search rules

same_length : tie.Need-shape_of-out
same_length c = search rules

returns : tie.Need-returns
unfolding five_of counters_of
returns c =
    let p₆ = c in
    let p₅ = p₆ in
    let p₄ = p₅ in
    let p₃ = p₄ in
    let p₂ = p₃ in
    let p₁ = p₂ in
    let s = p₁ in
    let a = s.args in (
      refl,
      counters_laid a.out.now p₁.put_number.new.out p₂.put_number-2.new.out p₃.put_number-3.new.out p₄.put_number-4.new.out p₅.put_number-5.new.out p₆.put_number-6.new.out a.at
          a.c.next.0 a.c.manifest.0 a.c.last.0 a.c.log.0 a.c.previous.0 s.requires
          p₁.put_number.ensures p₂.put_number-2.ensures p₃.put_number-3.ensures p₄.put_number-4.ensures p₅.put_number-5.ensures p₆.put_number-6.ensures,
    )

pub put_counters_spec : {M : Type 1} → statement M
put_counters_spec = tie.close (tie.spec put-number-requires add-put-number put-number-requires-2 add-put-number-2 put-number-requires-3 add-put-number-3 put-number-requires-4 add-put-number-4 put-number-requires-5 add-put-number-5 put-number-requires-6 add-result same_length returns)
