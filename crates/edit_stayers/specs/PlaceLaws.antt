-- Laws from places to the records there: the places of the stayers hold the records that stay. Assumes nothing.
use Rattle.std.specs.Prelude.{ℕ, zero, suc, ◌-◌, ◌≤◌, ◌<◌, ◌≡◌, refl, Bool, true, ltb, length, take, replicate}
use Rattle.std.proofs.Math.Path.{sym, ap}
use Rattle.std.proofs.Common.{◌∙◌, arith, get_or-take, ltb-true, lt-ltb}
use mathlib.Core.List.Memᴰ.{append_left as in_left}
use mathlib.Core.List.Memᴰ.{append_right as in_right}
use mathlib.Core.List.{List, [], ◌∷◌, map, map-map, Memᴰ as In}
use Rattle.std.proofs.Math.ListN
use Rattle.std.proofs.Math.ListN.{get_or}
use Rattle.std.proofs.lemmas.List.{length-map}
use Rattle.lemmas.specs.Lists.{join, sum, up_from}
use Rattle.lemmas.specs.ListLaws.{all_in, sub_in, up_from_in, in_replicate}
use Rattle.lemmas.specs.Slices.{put, put_front, put_parts, parts, parts_map, join_parts, drop_replicate, get_or_map}
use Rattle.lemmas.specs.UpFrom.{up_from_length, up_from_whole}
use Rattle.lemmas.specs.Maps.{map_same_in, keep_map, keep_same, join_map}
use Rattle.lemmas.specs.Merge.{all_at, all_both}
use Rattle.model.specs.File.{full, max_files}
use Rattle.records.specs.Record.{past}
use Rattle.records.specs.declared.FileRecord.{FileRecord}
use Rattle.edit_stayers.specs.Stayers.{stayers_by, stayers_from, number_at, places_of, is_below, records_at}
use Rattle.edit_stayers.specs.StayLaws.{stayers_sub}

-- ---- places below n

-- if all are, each is
pub below_at : (n : ℕ) (ps : List ℕ) (i : ℕ) → is_below n ps ≡ true → i < length ps → get_or ps i 0 < n
unfolding is_below
below_at n ps i h g = ltb-true (get_or ps i 0) n (all_at (λ p. ltb p n) ps i 0 h g)

-- if each is, all are
pub below_of : (n : ℕ) (ps : List ℕ) → ((p : ℕ) → In p ps → p < n) → is_below n ps ≡ true
unfolding is_below
below_of n ps h = (all_in (λ p. ltb p n) ps).1 (λ p m. lt-ltb p n (h p m))

-- written at the front of zeros they are still below n
pub below_laid : (n m : ℕ) (ps : List ℕ) → 0 < n → is_below n ps ≡ true → is_below n (put (replicate m 0) 0 ps) ≡ true
unfolding is_below
below_laid n m ps h b =
    let zeros : is_below n (replicate (m - length ps) 0) ≡ true = below_of n (replicate (m - length ps) 0) (λ p i. omega (arith, in_replicate (m - length ps) 0 p i)) in
    rw (put_front (replicate m 0) ps, drop_replicate {A = ℕ} (length ps) m 0) (all_both (λ p. ltb p n) ps (replicate (m - length ps) 0) b zeros)

-- ---- the places of each level

-- the first n of m consecutive places
pub take_places : (k n m : ℕ) → n ≤ m → take n (up_from k m) ≡ up_from k n
unfolding up_from
take_places k zero m h = refl
take_places k (suc n) zero h = absurd (omega arith)
take_places k (suc n) (suc m) h = ap (λ (z : List ℕ). k ∷ z) (take_places (suc k) n m (omega arith))

module _ (counts : List ℕ) (room : sum counts ≤ max_files) where
  -- joined they are the first places
  pub places_joined : join (places_of counts) ≡ up_from 0 (sum counts)
  unfolding places_of full
  places_joined = join_parts (up_from 0 max_files) counts (omega (arith, up_from_length 0 max_files)) ∙ take_places 0 (sum counts) max_files room

  -- so each is below the number of files
  pub places_below : (p : ℕ) → In p (join (places_of counts)) → p < sum counts
  places_below p i = omega (arith, ((up_from_in 0 (sum counts) p).0 (rw places_joined at i)).1)

-- the records there are the levels
pub placed_records_lem : (files : List FileRecord) (counts : List ℕ) → length files ≡ max_files → map (records_at files) (places_of counts) ≡ parts files counts
unfolding places_of records_at full
placed_records_lem files counts h =
    sym (parts_map (λ p. get_or files p past) (up_from 0 max_files) counts)
    ∙ ap (λ (n : ℕ). parts (map (λ p. get_or files p past) (up_from 0 n)) counts) (sym h)
    ∙ ap (λ (l : List FileRecord). parts l counts) (up_from_whole files past)

-- there are as many records as places
pub records_length : (files : List FileRecord) (ps : List ℕ) → length (records_at files ps) ≡ length ps
unfolding records_at
records_length files ps = length-map ps (λ p. get_or files p past)

-- the same at each level
pub lengths_at : (files : List FileRecord) (ls : List (List ℕ)) → map length (map (records_at files) ls) ≡ map length ls
lengths_at files [] = refl
lengths_at files (ps ∷ ls) = cc (records_length files ps, lengths_at files ls)

-- the record of the place at i
pub record_at : (files : List FileRecord) (ps : List ℕ) (i : ℕ) → i < length ps → get_or (records_at files ps) i past ≡ get_or files (get_or ps i 0) past
unfolding records_at
record_at files ps i h = get_or_map (λ p. get_or files p past) ps i 0 past h

-- levels of places written to an array and cut again
pub laid_records : (files : List FileRecord) (v : List ℕ) (ls : List (List ℕ)) → parts (records_at files (put v 0 (join ls))) (map length ls) ≡ map (records_at files) ls
unfolding records_at
laid_records files v ls = parts_map (λ p. get_or files p past) (put v 0 (join ls)) (map length ls) ∙ ap (map (map (λ p. get_or files p past))) (put_parts v ls)

-- ---- the stayers

-- the stayers by a number that is read from the mapped item
stayers_map : {A B : Type 0} (f : A → B) (number : B → ℕ) (test : ℕ → ℕ → Bool) (l : ℕ) (xss : List (List A))
    → map (map f) (stayers_by (λ x. number (f x)) test l xss) ≡ stayers_by number test l (map (map f) xss)
unfolding stayers_by
stayers_map f number test l [] = refl
stayers_map f number test l (xs ∷ xss) = cc (keep_map f (λ y. test l (number y)) xs, stayers_map f number test (suc l) xss)

-- the stayers by two numbers that agree
stayers_same : {A : Type 0} (number other : A → ℕ) (test : ℕ → ℕ → Bool) (l : ℕ) (xss : List (List A)) → ((x : A) → In x (join xss) → number x ≡ other x)
    → stayers_by number test l xss ≡ stayers_by other test l xss
unfolding stayers_by join
stayers_same number other test l [] h = refl
stayers_same number other test l (xs ∷ xss) h =
    cc (
      keep_same (λ x. test l (number x)) (λ x. test l (other x)) xs (λ x m. ap (test l) (h x (in_left (join xss) m))),
      stayers_same number other test (suc l) xss (λ x m. h x (in_right xs m)),
    )

-- the places of the stayers are below the number of files
pub stay_below : (number : ℕ → ℕ) (test : ℕ → ℕ → Bool) (counts : List ℕ) → sum counts ≤ max_files → (p : ℕ) → In p (join (stayers_by number test 0 (places_of counts))) → p < sum counts
stay_below number test counts room p i = places_below counts room p (sub_in p (stayers_sub number test 0 (places_of counts)) i)

-- the stayers by the column of the records' numbers
module _ (files : List FileRecord) (counts column : List ℕ) (test : ℕ → ℕ → Bool) (long : length files ≡ max_files) (room : sum counts ≤ max_files)
    (numbers : column ≡ map (λ (r : FileRecord). r.number.0) (take (sum counts) files)) where
  -- the places of the stayers
  abbrev stay : List (List ℕ)
  stay = stayers_by (number_at column) test 0 (places_of counts)

  -- the number at a place is that of the record there
  number_there : (p : ℕ) → In p (join (places_of counts)) → number_at column p ≡ (get_or files p past).number.0
  number_there p i =
      ap (λ (c : List ℕ). get_or c p 0) numbers ∙ ListN.get_or-map (λ (r : FileRecord). r.number.0) (take (sum counts) files) p past
      ∙ ap (λ (r : FileRecord). r.number.0) (get_or-take (sum counts) files p past (places_below counts room p i))

  -- the records there are those that stay
  pub stay_records : map (records_at files) stay ≡ stayers_from test 0 (parts files counts)
  unfolding records_at
  stay_records =
      ap (map (records_at files)) (stayers_same (number_at column) (λ p. (get_or files p past).number.0) test 0 (places_of counts) number_there)
      ∙ stayers_map (λ p. get_or files p past) (λ (r : FileRecord). r.number.0) test 0 (places_of counts)
      ∙ ap (stayers_from test 0) (placed_records_lem files counts long)

  -- their numbers are those of the records that stay
  pub stay_numbers : map (number_at column) (join stay) ≡ map (λ (r : FileRecord). r.number.0) (join (stayers_from test 0 (parts files counts)))
  unfolding records_at
  stay_numbers =
      map_same_in (number_at column) (λ p. (get_or files p past).number.0) (join stay) (λ p i. number_there p (sub_in p (stayers_sub (number_at column) test 0 (places_of counts)) i))
      ∙ sym (map-map (λ (r : FileRecord). r.number.0) (λ p. get_or files p past) (join stay))
      ∙ ap (map (λ (r : FileRecord). r.number.0)) (sym (join_map (λ p. get_or files p past) stay) ∙ ap join stay_records)
