-- `edit_plan::planned` meets its contract. Assumes nothing.
use Prim.Native.Nat.{ℕ, ◌+◌, ◌≤◌}
use mathlib.Core.Path.{◌≡◌, sym, ap, ◌∙◌}
use mathlib.Core.Bool.{Bool, not}
use mathlib.Core.List.{List, [], ◌∷◌, ◌++◌, map}
use native.Mathlib.Omega.{arith}
use borrow.Author.Rules.{rules}
use lib.Dec.{ltb}
use lib.ListN.{length, take, replicate, length-append, length-map}
use lib.Seq.{length-take-le}
use Rattle.lemmas.specs.Lists.{distinct, join, sum, up_from}
use Rattle.lemmas.specs.Slices.{put, length_of_map}
use Rattle.lemmas.specs.Merge.{front_laid}
use Rattle.model.specs.Answer.{◌⇒◌}
use Rattle.model.specs.File.{full, max_additions, max_files, max_deletions}
use Rattle.keys.specs.declared.Key.{Key}
use Rattle.edit.specs.declared.Deletion.{Deletion}
use Rattle.edit.specs.declared.Addition.{Addition}
use Rattle.answers.specs.Outcome.{passed}
use Rattle.edit_stayers.specs.Stayers.{stays_by, stayers_by, number_at, places_of, is_below, kept_of}
use Rattle.edit_stayers.specs.declared.Kept.{Kept}
use Rattle.edit_stayers.specs.PlaceLaws.{below_of}
use Rattle.edit_order.specs.Arrangement.{key_before, sorted_levels, are_levels, arranged_of}
use Rattle.edit_plan.specs.Planning.{levels_gone, numbers_gone, levels_in, numbers_in, keys_in, stay_places, new_places, crowding, plan_of}
use Rattle.edit_plan.specs.PlanLaws.{stay_few, stay_below}
use Rattle.edit_plan.proofs.planned.Statement.{statement}
use Rattle.edit_plan.proofs.planned.Tie as tie

-- the deletions
abbrev gone : tie.Start → List Deletion
gone s = take s.args.m s.args.deletions

-- the additions
abbrev new : tie.Start → List Addition
new s = take s.args.k s.args.additions

-- as many deletions as there are to be
gone_length : (s : tie.Start) → s.args.m ≡ length (gone s)
gone_length s =
    let q : length s.args.deletions ≡ max_deletions = search (rules, length_of_map) in
    sym (length-take-le s.args.m s.args.deletions (omega arith))

-- as many additions
new_length : (s : tie.Start) → s.args.k ≡ length (new s)
new_length s =
    let q : length s.args.additions ≡ max_additions = search (rules, length_of_map) in
    sym (length-take-le s.args.k s.args.additions (omega arith))

-- the places that stay
abbrev stay : tie.Start → List (List ℕ)
stay s = stay_places s.args.column.now s.args.counts (gone s) (new s)

-- where the columns have been made: those of the deletions
abbrev gone_made : tie.After-new_numbers-2-1 → tie.After-deletion_columns
gone_made c = c.before.before.before.before.before.before.before

-- those of the additions
abbrev new_made : tie.After-new_numbers-2-1 → tie.After-new_columns-new_keys
new_made c = c.before.before

-- the start, from there
abbrev start : tie.After-new_numbers-2-1 → tie.Start
start c = (gone_made c).before.before.before.before

-- the levels of the deletions, zeros past them
abbrev gone_levels : tie.After-new_numbers-2-1 → List ℕ
gone_levels c = (gone_made c).deletion_columns.new.levels

-- their numbers
abbrev gone_numbers : tie.After-new_numbers-2-1 → List ℕ
gone_numbers c = (gone_made c).deletion_columns.new.numbers

-- the levels of the additions
abbrev new_levels : tie.After-new_numbers-2-1 → List ℕ
new_levels c = (new_made c).new_columns-new_keys.new.levels

-- their numbers
abbrev new_numbers : tie.After-new_numbers-2-1 → List ℕ
new_numbers c = (new_made c).new_columns-new_keys.new.numbers

-- there are so many deletions
gone_room : (c : tie.After-new_numbers-2-1) → ((start c).args.m ≤ length (gone_levels c)) × ((start c).args.m ≤ length (gone_numbers c))
gone_room c =
    let p : length (gone_levels c) ≡ max_deletions = search rules in
    let q : length (gone_numbers c) ≡ max_deletions = search rules in
    let h = (start c).requires.3 in
    (omega arith, omega arith)

-- and so many additions
new_room : (c : tie.After-new_numbers-2-1) → ((start c).args.k ≤ length (new_levels c)) × ((start c).args.k ≤ length (new_numbers c))
new_room c =
    let p : length (new_levels c) ≡ max_additions = search rules in
    let q : length (new_numbers c) ≡ max_additions = search rules in
    let h = (start c).requires.4 in
    (omega arith, omega arith)

-- the levels of the deletions, as they are lent
lent_gone_levels : (c : tie.After-new_numbers-2-1) → take (start c).args.m (gone_levels c) ≡ levels_gone (gone (start c))
unfolding levels_gone
lent_gone_levels c =
    let s = start c in
    front_laid (replicate max_deletions 0) (gone_levels c) (levels_gone (gone s)) s.args.m (length-map (gone s) (λ (d : Deletion). d.level) ∙ sym (gone_length s)) (gone_made c).deletion_columns.ensures.0

-- their numbers
lent_gone_numbers : (c : tie.After-new_numbers-2-1) → take (start c).args.m (gone_numbers c) ≡ numbers_gone (gone (start c))
unfolding numbers_gone
lent_gone_numbers c =
    let s = start c in
    front_laid (replicate max_deletions 0) (gone_numbers c) (numbers_gone (gone s)) s.args.m (length-map (gone s) (λ (d : Deletion). d.number.0) ∙ sym (gone_length s)) (gone_made c).deletion_columns.ensures.1

-- the levels of the additions, as they are lent
lent_levels : (c : tie.After-new_numbers-2-1) → take (start c).args.k (new_levels c) ≡ levels_in (new (start c))
unfolding levels_in
lent_levels c =
    let s = start c in
    front_laid (replicate max_additions 0) (new_levels c) (levels_in (new s)) s.args.k (length-map (new s) (λ (a : Addition). a.level) ∙ sym (new_length s)) (new_made c).new_columns-new_keys.ensures.1

-- their numbers
lent_numbers : (c : tie.After-new_numbers-2-1) → take (start c).args.k (new_numbers c) ≡ numbers_in (new (start c))
unfolding numbers_in
lent_numbers c =
    let s = start c in
    front_laid (replicate max_additions 0) (new_numbers c) (numbers_in (new s)) s.args.k (length-map (new s) (λ (a : Addition). a.number.0) ∙ sym (new_length s)) (new_made c).new_columns-new_keys.ensures.2

-- what stays
kept : (c : tie.After-stay-kept) → c.stay-kept.result ≡ kept_of (stay (start c.before.before.before.before.before))
unfolding stay_places
kept c =
    let n = c.before.before.before.before.before in
    let s = start n in
    let m = s.args.m in
    let k = s.args.k in
    let test : stays_by (take m (gone_levels n)) (take m (gone_numbers n)) (take k (new_levels n)) (take k (new_numbers n))
    ≡ stays_by (levels_gone (gone s)) (numbers_gone (gone s)) (levels_in (new s)) (numbers_in (new s)) = rw (lent_gone_levels n, lent_gone_numbers n, lent_levels n, lent_numbers n) in
    c.stay-kept.ensures ∙ ap (λ (t : ℕ → ℕ → Bool). kept_of (stayers_by (number_at s.args.column.now) t 0 (places_of s.args.counts))) test

-- how many stay
total : (c : tie.After-stay-kept) → c.stay-kept.result.total ≡ length (join (stay (start c.before.before.before.before.before)))
unfolding kept_of
total c = ap (λ (x : Kept). x.total) (kept c)

-- they have room
few : (c : tie.After-stay-kept) → c.stay-kept.result.total ≤ max_files
few c =
    let s = start c.before.before.before.before.before in
    let h = s.requires.0 in
    let n = s.requires.1 in
    let room : sum s.args.counts ≤ max_files = omega arith in
    omega (arith, total c, stay_few s.args.column.now s.args.counts (gone s) (new s) room)

-- their places, as they are lent
lent_places : (c : tie.After-stay-kept) → take c.stay-kept.result.total c.stay-kept.result.places ≡ join (stay (start c.before.before.before.before.before))
unfolding kept_of
lent_places c =
    front_laid (replicate full.room 0) c.stay-kept.result.places (join (stay (start c.before.before.before.before.before))) c.stay-kept.result.total (sym (total c)) (ap (λ (x : Kept). x.places) (kept c))

-- the numbers there, as they are lent
kept_numbers : (c : tie.After-numbers_at-kept_numbers) → let k = c.before.before.before.before in let s = start k.before.before.before.before.before in
    take k.stay-kept.result.total c.numbers_at-kept_numbers.result ≡ map (number_at s.args.column.now) (join (stay s))
kept_numbers c =
    let k = c.before.before.before.before in
    let s = start k.before.before.before.before.before in
    let number = number_at s.args.column.now in
    front_laid (replicate max_files 0) c.numbers_at-kept_numbers.result (map number (join (stay s))) k.stay-kept.result.total (length-map (join (stay s)) number ∙ sym (total k))
    (c.numbers_at-kept_numbers.ensures ∙ ap (λ (z : List ℕ). put (replicate max_files 0) 0 (map number z)) (lent_places k))

slice-aggregate-deletion-columns : tie.Need-slice_bounds-deletion_columns-end
slice-aggregate-deletion-columns c = search rules

slice-aggregate-deletion-columns-2 : tie.Need-slice_bounds-deletion_columns-end-2
slice-aggregate-deletion-columns-2 c = search rules

deletion-columns-requires : tie.Need-deletion_columns-requires
deletion-columns-requires c κs = search rules

slice-aggregate-new-columns : tie.Need-slice_bounds-new_columns-end
slice-aggregate-new-columns c = search rules

slice-aggregate-new-columns-2 : tie.Need-slice_bounds-new_columns-end-2
slice-aggregate-new-columns-2 c = search rules

new-columns-requires : tie.Need-new_columns-new_keys-requires
new-columns-requires c κs = search rules

array-share-prefix-gone-levels : tie.Need-slice_bounds-gone_levels-end
array-share-prefix-gone-levels c = (gone_room c).0

slice-aggregate-stay : tie.Need-slice_bounds-stay-end
slice-aggregate-stay c = sym (length-take-le (start c.before).args.m (gone_levels c.before) (gone_room c.before).0)

array-share-prefix-gone-numbers : tie.Need-slice_bounds-gone_numbers-end
array-share-prefix-gone-numbers c = (gone_room c.before).1

slice-aggregate-stay-2 : tie.Need-slice_bounds-stay-end-2
slice-aggregate-stay-2 c = sym (length-take-le (start c.before.before).args.m (gone_numbers c.before.before) (gone_room c.before.before).1)

array-share-prefix-new-levels : tie.Need-slice_bounds-new_levels-end
array-share-prefix-new-levels c = (new_room c.before.before).0

slice-aggregate-stay-3 : tie.Need-slice_bounds-stay-end-3
slice-aggregate-stay-3 c = sym (length-take-le (start c.before.before.before).args.k (new_levels c.before.before.before) (new_room c.before.before.before).0)

array-share-prefix-new-numbers : tie.Need-slice_bounds-new_numbers-end
array-share-prefix-new-numbers c = (new_room c.before.before.before).1

slice-aggregate-stay-4 : tie.Need-slice_bounds-stay-end-4
slice-aggregate-stay-4 c = sym (length-take-le (start c.before.before.before.before).args.k (new_numbers c.before.before.before.before) (new_room c.before.before.before.before).1)

stay-requires : tie.Need-stay-kept-requires
stay-requires c κs = search rules

array-share-prefix-places : tie.Need-slice_bounds-places-end
array-share-prefix-places c =
    let q : length c.stay-kept.result.places ≡ max_files = search rules in
    omega (arith, few c.before.before)

slice-aggregate-numbers-at : tie.Need-slice_bounds-numbers_at-end
slice-aggregate-numbers-at c = sym (ap length (lent_places c.before.before.before) ∙ sym (total c.before.before.before))

numbers-at-requires : tie.Need-numbers_at-kept_numbers-requires
numbers-at-requires c κs =
    let k = c.before.before.before in
    let s = start k.before.before.before.before.before in
    let h = s.requires.0 in
    let n = s.requires.1 in
    let room : sum s.args.counts ≤ max_files = omega arith in
    let lent = lent_places k in (
      omega (arith, ap length lent, total k, few k),
      ap (is_below (length s.args.column.now)) lent ∙ below_of (length s.args.column.now) (join (stay s)) (λ p i. omega (arith, stay_below s.args.column.now s.args.counts (gone s) (new s) room p i)),
    )

array-share-prefix-kept-numbers : tie.Need-slice_bounds-kept_numbers-end
array-share-prefix-kept-numbers c =
    let q : length c.numbers_at-kept_numbers.result ≡ max_files = search rules in
    omega (arith, few c.before.before.before.before)

slice-aggregate-has-twice : tie.Need-slice_bounds-has_twice-end
slice-aggregate-has-twice c =
    let q : length c.numbers_at-kept_numbers.result ≡ max_files = search rules in
    sym (length-take-le c.stay-kept.result.total c.numbers_at-kept_numbers.result (omega (arith, few c.before.before.before.before.before)))

array-share-prefix-new-numbers-2 : tie.Need-slice_bounds-new_numbers-end-2
array-share-prefix-new-numbers-2 c = (new_room c.before.before.before.before.before.before.before.before.before.before).1

slice-aggregate-has-twice-2 : tie.Need-slice_bounds-has_twice-end-2
slice-aggregate-has-twice-2 c = sym (length-take-le (start c.before.before.before.before.before.before.before.before.before.before.before).args.k (new_numbers c.before.before.before.before.before.before.before.before.before.before.before) (new_room c.before.before.before.before.before.before.before.before.before.before.before).1)

has-twice-requires : tie.Need-has_twice-twice-requires
has-twice-requires c κs = ap distinct (kept_numbers c.before.before) ∙ (start c.before.before.before.before.before.before.before.before.before.before.before).requires.2

-- 6 is asked of all survivors
twice : (c : tie.After-has_twice-twice) → let s = start c.before.before.before.before.before.before.before.before.before.before.before.before in c.has_twice-twice.result ≡ not (distinct (map (number_at s.args.column.now) (join (stay s)) ++ numbers_in (new s)))
twice c =
    let n = c.before.before.before.before.before.before.before.before.before.before.before.before in
    let s = start n in
    c.has_twice-twice.ensures
    ∙ ap (λ (z : List ℕ). not (distinct (z ++ take s.args.k (new_numbers n)))) (kept_numbers c.before.before.before)
    ∙ ap (λ (z : List ℕ). not (distinct (map (number_at s.args.column.now) (join (stay s)) ++ z))) (lent_numbers n)

add-crowded : tie.Need-overflow_add-n
add-crowded c =
    let h = (start c.before.before.before.before.before.before.before.before.before.before.before.before).requires.4 in
    omega (arith, few c.before.before.before.before.before.before.before)

crowded-requires : tie.Need-crowded-outcome-requires
crowded-requires c κs = search rules

-- so are both, 6 and 8
asked : (c : tie.After-crowded-outcome) → let s = start c.before.before.before.before.before.before.before.before.before.before.before.before.before in c.crowded-outcome.result ≡ passed (crowding (map (number_at s.args.column.now) (join (stay s)) ++ numbers_in (new s)))
unfolding crowding full numbers_in
asked c =
    let k = c.before.before.before.before.before.before.before.before in
    let s = start c.before.before.before.before.before.before.before.before.before.before.before.before.before in
    let number = number_at s.args.column.now in
    let all = map number (join (stay s)) ++ numbers_in (new s) in
    let size : k.stay-kept.result.total + s.args.k ≡ length all = omega (arith, length-append (map number (join (stay s))) (numbers_in (new s)), length-map (join (stay s)) number, length-map (new s) (λ (a : Addition). a.number.0), total k, new_length s) in
    c.crowded-outcome.ensures
    ∙ ap (λ (b : Bool). passed ((b ⇒ 6) ∷ (ltb max_files (k.stay-kept.result.total + s.args.k) ⇒ 8) ∷ [])) (twice c.before)
    ∙ ap (λ (n : ℕ). passed ((not (distinct all) ⇒ 6) ∷ (ltb max_files n ⇒ 8) ∷ [])) size

array-share-prefix-new-levels-2 : tie.Need-slice_bounds-new_levels-end-2
array-share-prefix-new-levels-2 c = (new_room c.before.before.before.before.before.before.before.before.before.before.before.before.before).0

slice-aggregate-arrange : tie.Need-slice_bounds-arrange-end
slice-aggregate-arrange c = sym (length-take-le (start c.before.before.before.before.before.before.before.before.before.before.before.before.before.before).args.k (new_levels c.before.before.before.before.before.before.before.before.before.before.before.before.before.before) (new_room c.before.before.before.before.before.before.before.before.before.before.before.before.before.before).0)

arrange-requires : tie.Need-arrange-arranged-requires
arrange-requires c κs =
    let n = c.before.before.before.before.before.before.before.before.before.before.before.before.before.before in
    let s = start n in
    let h = s.requires.4 in
    (omega (arith, length-take-le s.args.k (new_levels n) (new_room n).0), ap are_levels (lent_levels n) ∙ s.requires.5)

-- the additions in order
arranged : (c : tie.After-arrange-arranged) → c.arrange-arranged.result ≡ arranged_of (new_places (new (start c.before.before.before.before.before.before.before.before.before.before.before.before.before.before.before)))
unfolding new_places levels_in
arranged c =
    let n = c.before.before.before.before.before.before.before.before.before.before.before.before.before.before.before in
    let s = start n in
    let levels = lent_levels n in
    let keys = (new_made n).new_columns-new_keys.ensures.0 in
    c.arrange-arranged.ensures
    ∙ ap (λ (z : List ℕ). arranged_of (sorted_levels (key_before (new_made n).new_columns-new_keys.result) z (up_from 0 (length z)))) levels
    ∙ ap (λ (z : List Key). arranged_of (sorted_levels (key_before z) (levels_in (new s)) (up_from 0 (length (levels_in (new s)))))) keys
    ∙ ap (λ (j : ℕ). arranged_of (sorted_levels (key_before (keys_in (new s))) (levels_in (new s)) (up_from 0 j))) (length-map (new s) (λ (a : Addition). a.level))

returns : tie.Need-returns
unfolding plan_of
returns c =
    let r = c.before.before in
    let h = r.before.before in
    let k = h.before.before.before.before.before.before.before.before in
    let stays = kept k in
    let adds = arranged r in
    λ i. record {
      outcome = asked h i;
      places = (stays i).places;
      counts = (stays i).counts;
      order = (adds i).order;
      new_counts = (adds i).counts;
    }

pub planned_spec : {M : Type 1} → statement M
planned_spec = tie.close (tie.spec slice-aggregate-deletion-columns slice-aggregate-deletion-columns-2 deletion-columns-requires slice-aggregate-new-columns slice-aggregate-new-columns-2 new-columns-requires array-share-prefix-gone-levels slice-aggregate-stay array-share-prefix-gone-numbers slice-aggregate-stay-2 array-share-prefix-new-levels slice-aggregate-stay-3 array-share-prefix-new-numbers slice-aggregate-stay-4 stay-requires array-share-prefix-places slice-aggregate-numbers-at numbers-at-requires array-share-prefix-kept-numbers slice-aggregate-has-twice array-share-prefix-new-numbers-2 slice-aggregate-has-twice-2 has-twice-requires add-crowded crowded-requires array-share-prefix-new-levels-2 slice-aggregate-arrange arrange-requires returns)
