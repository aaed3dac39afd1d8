-- The stayers are the base files that the edit does not leave deleted. How many there are, that no number stands twice, and that they are in order. Assumes nothing.
use Rattle.std.specs.Prelude.{ℕ, zero, suc, ◌+◌, ◌≤◌, ◌<◌, ◌≡◌, true, false, ◌&&◌, ◌||◌, eqb, length}
use Rattle.std.proofs.Common.{zero-le, ◌∙◌, arith, zero-add}
use Rattle.std.proofs.Math.Path.{refl, sym, ap}
use Rattle.std.proofs.Math.Bool.{Bool, not}
use mathlib.Core.List.Memᴰ.{append_left as in_left}
use mathlib.Core.List.Memᴰ.{append_right as in_right}
use mathlib.Core.List.{List, [], ◌∷◌, ◌++◌, map, Memᴰ as In}
use Rattle.lemmas.specs.Lists.{keep, any, sort, join, distinct, up_from}
use Rattle.lemmas.specs.ListLaws.{Sub, end, sub_keep, sub_append, sub_length, and_left, and_right, both, tally, tally_append, tally_map, sort_tally, spread, tally_spread}
use Rattle.lemmas.specs.Distinct.{distinct_tallies}
use Rattle.lemmas.specs.Maps.{any_map, any_keep, keep_map, keep_same}
use Rattle.model.specs.Key.{before}
use Rattle.model.specs.File.{File, numbers, by_smallest, in_order, levelwise}
use Rattle.model.specs.Edit.{Deletion, Addition, Edit, added, deletes, adds, left_deleted, survivors, survivors_from}
use Rattle.model.proofs.PickedLaws.{sub_ordered, sub_distinct}
use Rattle.records.specs.Record.{file_of}
use Rattle.records.specs.declared.FileRecord.{FileRecord}
use Rattle.edit_stayers.specs.Stayers.{has_pair, stays_by, stayers_by, stayers_from}

-- ---- an edit's entries as columns

-- looking for a pair in two columns is looking for an item with both numbers
pub pair_columns : {A : Type 0} (f g : A → ℕ) (l n : ℕ) (xs : List A) → has_pair l n (map f xs) (map g xs) ≡ any (λ x. eqb (f x) l && eqb (g x) n) xs
unfolding has_pair any
pair_columns f g l n [] = refl
pair_columns f g l n (x ∷ xs) = ap (λ (b : Bool). (eqb (f x) l && eqb (g x) n) || b) (pair_columns f g l n xs)

-- a number stays at a level, by the columns of the edit's deletions and additions
abbrev pub stays_in : Edit → ℕ → ℕ → Bool
stays_in e =
    stays_by (map (λ (d : Deletion). d.level) e.deletions) (map (λ (d : Deletion). d.number) e.deletions)
    (map (λ (a : Addition). a.level) e.additions) (map (λ (a : Addition). a.file.number) e.additions)

-- the edit adds a number at a level, by the columns of its additions
adds_columns : (e : Edit) (l n : ℕ) → has_pair l n (map (λ (a : Addition). a.level) e.additions) (map (λ (a : Addition). a.file.number) e.additions) ≡ adds e l n
unfolding adds added
adds_columns e l n =
    let q : Addition → Bool = λ a. eqb a.level l in
    let p : Addition → Bool = λ a. eqb a.file.number n in
    pair_columns (λ (a : Addition). a.level) (λ (a : Addition). a.file.number) l n e.additions
    ∙ sym (any_keep p q e.additions)
    ∙ sym (any_map (λ (a : Addition). a.file) (λ f. eqb f.number n) (keep q e.additions))

-- a number stays at a level exactly if it is not left deleted there
pub stays_left : (e : Edit) (l n : ℕ) → stays_in e l n ≡ not (left_deleted e l n)
unfolding stays_by left_deleted deletes
stays_left e l n = rw (pair_columns (λ (d : Deletion). d.level) (λ (d : Deletion). d.number) l n e.deletions, adds_columns e l n)

-- ---- the base files not left deleted

-- those of one level
unfoldable pub remaining : Edit → ℕ → List File → List File
remaining e l base = keep (λ f. not (left_deleted e l f.number)) base

-- those of each level, from level l on
unfoldable pub remaining_from : Edit → ℕ → List (List File) → List (List File)
remaining_from e l [] = []
remaining_from e l (fs ∷ rest) = remaining e l fs ∷ remaining_from e (suc l) rest

-- the survivors are these and the added files, sorted
pub survivors_of : (e : Edit) (l : ℕ) (base : List File) → survivors e l base ≡ sort by_smallest (remaining e l base ++ added e l)
unfolding survivors remaining
survivors_of e l base = refl

-- a test that tells which numbers are not left deleted
module _ (e : Edit) (test : ℕ → ℕ → Bool) (same : (l n : ℕ) → test l n ≡ not (left_deleted e l n)) where
  -- it keeps the stayers of one level
  pub stayers_level : (l : ℕ) (rs : List FileRecord) → map file_of (keep (λ r. test l r.number.0) rs) ≡ remaining e l (map file_of rs)
  unfolding remaining file_of
  stayers_level l rs =
      let p : File → Bool = λ f. not (left_deleted e l f.number) in
      ap (map file_of) (keep_same (λ r. test l r.number.0) (λ r. p (file_of r)) rs (λ r m. same l r.number.0)) ∙ sym (keep_map file_of p rs)

  -- it keeps the stayers of each level
  pub stayers_remain : (l : ℕ) (rss : List (List FileRecord)) → map (map file_of) (stayers_from test l rss) ≡ remaining_from e l (map (map file_of) rss)
  unfolding stayers_by remaining_from
  stayers_remain l [] = refl
  stayers_remain l (rs ∷ rss) = rw (stayers_level l rs, stayers_remain (suc l) rss)

-- ---- how many

-- there are as many levels as before
pub stayers_length : {A : Type 0} (number : A → ℕ) (test : ℕ → ℕ → Bool) (l : ℕ) (xss : List (List A)) → length (stayers_by number test l xss) ≡ length xss
unfolding stayers_by
stayers_length number test l [] = refl
stayers_length number test l (xs ∷ xss) = ap suc (stayers_length number test (suc l) xss)

-- the stayers of all levels are the files of all levels with some left out
pub stayers_sub : {A : Type 0} (number : A → ℕ) (test : ℕ → ℕ → Bool) (l : ℕ) (xss : List (List A)) → Sub (join (stayers_by number test l xss)) (join xss)
unfolding stayers_by join
stayers_sub number test l [] = end
stayers_sub number test l (xs ∷ xss) = sub_append (sub_keep (λ x. test l (number x)) xs) (stayers_sub number test (suc l) xss)

-- there are no more than before
pub stayers_few : {A : Type 0} (number : A → ℕ) (test : ℕ → ℕ → Bool) (l : ℕ) (xss : List (List A)) → length (join (stayers_by number test l xss)) ≤ length (join xss)
stayers_few number test l xss = sub_length (stayers_sub number test l xss)

-- ---- no number twice, and in order

-- what stays of a level is the level with some files left out
pub remaining_part : (e : Edit) (l : ℕ) (fs : List File) → Sub (remaining e l fs) fs
unfolding remaining
remaining_part e l fs = sub_keep (λ f. not (left_deleted e l f.number)) fs

-- the same for all levels
pub remaining_sub : (e : Edit) (l : ℕ) (fss : List (List File)) → Sub (join (remaining_from e l fss)) (join fss)
unfolding remaining_from join
remaining_sub e l [] = end
remaining_sub e l (fs ∷ fss) = sub_append (remaining_part e l fs) (remaining_sub e (suc l) fss)

-- if no number stood twice, none does among the stayers
pub remaining_distinct : (e : Edit) (l : ℕ) (fss : List (List File)) → distinct (numbers (join fss)) ≡ true → distinct (numbers (join (remaining_from e l fss))) ≡ true
remaining_distinct e l fss h = sub_distinct (remaining_sub e l fss) h

-- what remains of a level in order
module _ (e : Edit) (l : ℕ) (fs : List File) (good : (f : File) → In f fs → before f.largest f.smallest ≡ false) (h : in_order l fs ≡ true) where
  -- what stays of it is in order
  pub remaining_ordered : in_order l (remaining e l fs) ≡ true
  remaining_ordered = sub_ordered l good (remaining_part e l fs) h

-- the same for each level
pub remaining_levels : (e : Edit) (l : ℕ) (fss : List (List File)) → ((f : File) → In f (join fss) → before f.largest f.smallest ≡ false)
    → levelwise in_order l fss ≡ true → levelwise in_order l (remaining_from e l fss) ≡ true
unfolding remaining_from levelwise join
remaining_levels e l [] good h = refl
remaining_levels e l (fs ∷ fss) good h =
    both (in_order l (remaining e l fs)) (levelwise in_order (suc l) (remaining_from e (suc l) fss))
    (remaining_ordered e l fs (λ f m. good f (in_left (join fss) m)) (and_left (in_order l fs) (levelwise in_order (suc l) fss) h))
    (remaining_levels e (suc l) fss (λ f m. good f (in_right fs m)) (and_right (in_order l fs) (levelwise in_order (suc l) fss) h))

-- ---- one number twice among all survivors

-- the survivors are counted as stayers and added files
survivors_count : (e : Edit) (p : File → Bool) (l : ℕ) (fss : List (List File))
    → tally p (join (survivors_from e l fss)) ≡ tally p (join (remaining_from e l fss)) + tally p (join (map (added e) (up_from l (length fss))))
unfolding survivors_from remaining_from join up_from
survivors_count e p l [] = tally_append p [] []
survivors_count e p l (fs ∷ fss) =
    let stay = remaining e l fs in
    let one : tally p (survivors e l fs) ≡ tally p stay + tally p (added e l) = rw (survivors_of e l fs) (sort_tally by_smallest p (stay ++ added e l) ∙ tally_append p stay (added e l)) in
    omega (
      arith,
      one,
      survivors_count e p (suc l) fss,
      tally_append p (survivors e l fs) (join (survivors_from e (suc l) fss)),
      tally_append p stay (join (remaining_from e (suc l) fss)),
      tally_append p (added e l) (join (map (added e) (up_from (suc l) (length fss)))),
    )

-- the added files of each level are counted as the additions
added_count : (e : Edit) (p : File → Bool) (l n : ℕ) → tally p (join (map (added e) (up_from l n))) ≡ tally (λ a. p a.file) (spread (λ (a : Addition). a.level) l n e.additions)
unfolding added spread join up_from
added_count e p l zero = tally_map p (λ (a : Addition). a.file) []
added_count e p l (suc n) =
    let here = keep (λ (a : Addition). eqb a.level l) e.additions in
    omega (
      arith,
      added_count e p (suc l) n,
      tally_map p (λ (a : Addition). a.file) here,
      tally_append p (map (λ (a : Addition). a.file) here) (join (map (added e) (up_from (suc l) n))),
      tally_append (λ (a : Addition). p a.file) here (spread (λ (a : Addition). a.level) (suc l) n e.additions),
    )

-- if the additions have right levels, a number stands twice among the survivors exactly if it does among the stayers and the additions
pub survivors_distinct : (e : Edit) (fss : List (List File)) → ((a : Addition) → In a e.additions → a.level < length fss)
    → distinct (numbers (join (survivors_from e 0 fss))) ≡ distinct (numbers (join (remaining_from e 0 fss)) ++ map (λ (a : Addition). a.file.number) e.additions)
unfolding numbers
survivors_distinct e fss h = distinct_tallies (numbers (join (survivors_from e 0 fss))) (numbers stay ++ new) each
  where
    stay : List File
    stay = join (remaining_from e 0 fss)

    new : List ℕ
    new = map (λ (a : Addition). a.file.number) e.additions

    each : (n : ℕ) → tally (λ m. eqb m n) (numbers (join (survivors_from e 0 fss))) ≡ tally (λ m. eqb m n) (numbers stay ++ new)
    each n =
        let q : ℕ → Bool = λ m. eqb m n in
        let p : File → Bool = λ f. eqb f.number n in
        let number : File → ℕ = λ f. f.number in
        omega (
          arith,
          tally_map q number (join (survivors_from e 0 fss)),
          tally_map q number stay,
          tally_map q (λ (a : Addition). a.file.number) e.additions,
          tally_append q (numbers stay) new,
          survivors_count e p 0 fss,
          added_count e p 0 (length fss),
          tally_spread (λ (a : Addition). a.level) (λ a. p a.file) 0 (length fss) e.additions (λ a m. (zero-le, rw zero-add (h a m))),
        )
