-- `lay_rising` meets its contract: a turn writes the number at the next of the sorted places.
use Rattle.std.proofs.Common.{◌≡◌, ℕ, ◌+◌, ltb, [], ◌∷◌, length, get_or, drop, replicate, get_or-take, length-take-le, drop_of_length-le, sym, ap, ◌∙◌, arith}
use Rattle.std.proofs.Math.ListN.{length-set}
use Rattle.lemmas.specs.Lists.{sort}
use Rattle.lemmas.specs.ListLaws.{sort_length}
use Rattle.lemmas.specs.Slices.{put, put_cons, put_nil, rest_cons}
use Rattle.model.specs.File.{max_files}
use Rattle.ask_lookup.specs.FallingLaws.{rising_below, rising_at}
use Rattle.ask_lookup.proofs.lay_rising.Goals as goal

pub offset_bounds-numbers-p : goal.offset_bounds-numbers-p
offset_bounds-numbers-p c =
    let ns = c.args.numbers.now in
    let long = length-take-le (length ns) c.by_number-places.result (omega arith) in
    let here = get_or-take (length ns) c.by_number-places.result c.loop-j.j 0 (omega arith) in
    omega (arith, rising_below ns (replicate max_files 0) c.by_number-places.result c.by_number-places.ensures c.requires.0 c.loop-j.j (omega arith))

pub bounds-numbers-p : goal.bounds-numbers-p
bounds-numbers-p c =
    let ns = c.args.numbers.now in
    let long = length-take-le (length ns) c.by_number-places.result (omega arith) in
    let here = get_or-take (length ns) c.by_number-places.result c.loop-j.j 0 (omega arith) in
    omega (arith, rising_below ns (replicate max_files 0) c.by_number-places.result c.by_number-places.ensures c.requires.0 c.loop-j.j (omega arith))

pub loop-j-preserved : goal.loop-j-preserved
loop-j-preserved c =
    let o = c.loop-j in
    let ns = c.args.numbers.now in
    let sorted = sort ltb ns in
    let long = length-take-le (length ns) c.by_number-places.result (omega arith) in
    let x = get_or ns (get_or c.by_number-places.result o.j 0) 0 in
    let at : x ≡ get_or sorted o.j 0 = rising_at ns (replicate max_files 0) c.by_number-places.result c.by_number-places.ensures c.requires.0 o.j (omega arith) in
    let rest : drop o.j sorted ≡ x ∷ drop (o.j + 1) sorted = rest_cons sorted o.j 0 (omega (arith, sort_length ltb ns)) ∙ ap (λ (y : ℕ). y ∷ drop (o.j + 1) sorted) (sym at) in
    rw (get_or-take (length ns) c.by_number-places.result o.j 0 (omega arith)) (
      length-set o.out o.j x ∙ o.invariant.0,
      put_cons o.out o.j x (drop (o.j + 1) sorted) (omega (arith, o.invariant.0)) ∙ ap (put o.out o.j) (sym rest) ∙ o.invariant.1,
    )

pub returns : goal.returns
returns c =
    let o = c.loop-j in
    let ns = c.args.numbers.now in
    let long = length-take-le (length ns) c.by_number-places.result (omega arith) in
    let ended : drop o.j (sort ltb ns) ≡ [] = drop_of_length-le (sort ltb ns) (omega (arith, sort_length ltb ns)) in
    sym (ap (put o.out o.j) ended ∙ put_nil o.out o.j) ∙ o.invariant.1
