-- `stay` meets its contract: each turn of the inner loop keeps or passes a place, each turn of the outer one finishes a level.
use Rattle.std.proofs.Common.{◌≡◌, ℕ, ◌+◌, ◌-◌, ◌≤◌, ◌<◌, Bool, true, false, length, get_or, set, drop, replicate, refl, sym, ap, ◌∙◌, List, arith, rules}
use Rattle.std.specs.Prelude.{map}
use Rattle.std.proofs.Math.ListN.{length-set, length-append, length-map}
use Rattle.std.proofs.Math.Seq.{slice}
use Rattle.lemmas.specs.Lists.{keep, join, up_from}
use Rattle.lemmas.specs.Slices.{put, put_cons, put_nil, put_append, put_whole, parts, length_parts, sum_turn}
use Rattle.lemmas.specs.Loops.{keep_kept, keep_passed, keep_ended, laid_kept, laid_passed, laid_ended}
use Rattle.lemmas.specs.UpFrom.{up_from_length, up_from_at}
use Rattle.model.specs.File.{full, level_count, max_files}
use Rattle.edit_stayers.specs.Stayers.{stays_by, stayers_by, number_at, places_of, kept_of}
use Rattle.edit_stayers.specs.StayLaws.{stayers_length}
use Rattle.edit_stayers.proofs.Staying.{stayers_turn, stayers_over}
use Rattle.edit_stayers.proofs.stay.Goals as goal
use Rattle.edit_stayers.proofs.stay.Goals.{then-stays, else-stays}

-- the places of a version
abbrev every : List ℕ
every = up_from 0 max_files

-- at each of them stands itself
at_place : (i : ℕ) → i < max_files → get_or every i 0 ≡ i
at_place i h = omega (arith, up_from_at 0 max_files i 0 h)

pub loop-level-init : goal.loop-level-init
loop-level-init c =
    let a = c.args in
    let test = stays_by a.deleted_levels.now a.deleted.now a.added_levels.now a.added.now in
    let all = stayers_by (number_at a.numbers.now) test 0 (parts every a.counts) in (
      omega arith,
      omega arith,
      refl,
      refl,
      refl,
      omega arith,
      put_whole (replicate level_count 0) (map length all) (length-map all length ∙ stayers_length (number_at a.numbers.now) test 0 (parts every a.counts) ∙ length_parts every a.counts ∙ search rules),
    )

pub overflow_add-to : goal.overflow_add-to
overflow_add-to c = omega (arith, sum_turn c.args.counts c.loop-level.level (omega arith))

pub loop-i-init : goal.loop-i-init
loop-i-init c =
    let t = sum_turn c.args.counts c.loop-level.level (omega arith) in
    (omega arith, omega arith, c.loop-level.invariant.2, refl, refl)

pub loop-i-preserved : goal.loop-i-preserved
loop-i-preserved c =
    let l = c.loop-i in
    let o = c.loop-level in
    let a = c.args in
    let to = o.from + get_or a.counts o.level 0 in
    let p : ℕ → Bool = λ q. stays_by a.deleted_levels.now a.deleted.now a.added_levels.now a.added.now o.level (number_at a.numbers.now q) in
    let h = c.requires.1 in
    let long = up_from_length 0 max_files in
    let here = at_place l.i (omega arith) in
    elim c.if-stays.branch [
      | then-stays w ↦
          let t : p (get_or every l.i 0) ≡ true = ap p here ∙ sym c.stays.ensures ∙ w.if-stays.true in
          let kept = keep_kept p l.i to every 0 (omega arith) (omega arith) t in (
            omega arith,
            omega (arith, w.n-is),
            ap length w.places-is ∙ length-set l.places l.n l.i ∙ l.invariant.2,
            rw (w.places-is, w.n-is) (ap (λ (v : ℕ). put (set l.places l.n v) (l.n + 1) (keep p (slice (l.i + 1) to every))) (sym here)
                ∙ laid_kept p l.i to every 0 l.places l.n (omega arith) (omega arith) (omega arith) t
                ∙ l.invariant.3),
            omega (arith, w.n-is, ap length kept),
          )
      | else-stays w ↦
          let t : p (get_or every l.i 0) ≡ false = ap p here ∙ sym c.stays.ensures ∙ w.if-stays.false in
          let passed = keep_passed p l.i to every 0 (omega arith) (omega arith) t in (
            omega arith,
            omega (arith, w.n-is),
            ap length w.places-is ∙ l.invariant.2,
            rw (w.places-is, w.n-is) (laid_passed p l.i to every 0 l.places l.n (omega arith) (omega arith) t ∙ l.invariant.3),
            omega (arith, w.n-is, ap length passed),
          )
    ]

-- a level is done: what the inner loop has laid down
level_done : (c : goal.After-loop-i)
    → let o = c.loop-level in let a = c.args in
    let s = keep (λ (q : ℕ). stays_by a.deleted_levels.now a.deleted.now a.added_levels.now a.added.now o.level (number_at a.numbers.now q))
    (slice o.from (o.from + get_or a.counts o.level 0) every) in
    (c.loop-i.places ≡ put o.places o.n s) × (c.loop-i.n ≡ o.n + length s)
level_done c =
    let l = c.loop-i in
    let o = c.loop-level in
    let a = c.args in
    let to = o.from + get_or a.counts o.level 0 in
    let p : ℕ → Bool = λ q. stays_by a.deleted_levels.now a.deleted.now a.added_levels.now a.added.now o.level (number_at a.numbers.now q) in
    let none = keep_ended p l.i to every 0 (omega arith) (omega arith) in
    (sym (laid_ended p l.i to every 0 l.places l.n (omega arith) (omega arith)) ∙ l.invariant.3, omega (arith, ap length none))

pub overflow_sub-made : goal.overflow_sub-made
overflow_sub-made c = omega (arith, (level_done c).1)

pub loop-level-preserved : goal.loop-level-preserved
unfolding join
loop-level-preserved c =
    let l = c.loop-i in
    let a = c.args in
    let q = c.loop-level in
    let room_for = c.requires.1 in
    let d = level_done c in
    let n = get_or a.counts q.level 0 in
    let number = number_at a.numbers.now in
    let test = stays_by a.deleted_levels.now a.deleted.now a.added_levels.now a.added.now in
    let s : List ℕ = keep (λ r. test q.level (number r)) (slice q.from (q.from + n) every) in
    let left = stayers_by number test (q.level + 1) (parts (drop (q.from + n) every) (drop (q.level + 1) a.counts)) in
    let turn = stayers_turn number test every a.counts q.level q.from (omega arith) in
    let t = sum_turn a.counts q.level (omega arith) in
    let size : l.n - q.n ≡ length s = omega (arith, d.1) in
    let fits : q.n + length s ≤ length q.places = omega (arith, d.1) in (
      omega arith,
      omega arith,
      l.invariant.2,
      length-set q.made q.level (l.n - q.n) ∙ q.invariant.3,
      rw (d.0, d.1) (put_append q.places q.n s (join left) fits)
          ∙ ap (λ (z : List (List ℕ)). put q.places q.n (join z)) (sym turn)
          ∙ q.invariant.4,
      omega (arith, d.1, length-append s (join left), ap (λ (z : List (List ℕ)). length (join z)) turn, q.invariant.5),
      ap (λ (v : ℕ). put (set q.made q.level v) (q.level + 1) (map length left)) size
          ∙ put_cons q.made q.level (length s) (map length left) (omega arith)
          ∙ ap (λ (z : List (List ℕ)). put q.made q.level (map length z)) (sym turn)
          ∙ q.invariant.6,
    )

pub returns : goal.returns
unfolding join kept_of places_of full
returns c =
    let l = c.loop-level in
    let a = c.args in
    let number = number_at a.numbers.now in
    let test = stays_by a.deleted_levels.now a.deleted.now a.added_levels.now a.added.now in
    let none = stayers_over number test every a.counts l.level l.from (omega arith) in
    let places = sym (put_nil l.places l.n) ∙ ap (λ (z : List (List ℕ)). put l.places l.n (join z)) (sym none) ∙ l.invariant.4 in
    let counts = sym (put_nil l.made l.level) ∙ ap (λ (z : List (List ℕ)). put l.made l.level (map length z)) (sym none) ∙ l.invariant.6 in
    let size : l.n ≡ length (join (stayers_by number test 0 (parts every a.counts))) =
    omega (arith, l.invariant.5, ap (λ (z : List (List ℕ)). length (join z)) none) in
    λ i. record { places = places i; counts = counts i; total = size i }
