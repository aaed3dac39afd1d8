-- Laws of the merge: how many records it has, and that their files are an edit's survivors. Assumes nothing.
use Rattle.std.specs.Prelude.{ℕ, suc, ◌+◌, ◌≤◌, ◌<◌, ◌≡◌, cond, eqb, length, drop}
use Rattle.std.proofs.Math.Path.{refl, sym, ap}
use Rattle.std.proofs.Common.{◌∙◌, arith, length-append, drop_of_length-le}
use Rattle.std.proofs.Math.Bool.{Bool, true, false, not}
use mathlib.Core.List.Memᴰ.{append_left as in_left}
use mathlib.Core.List.Memᴰ.{append_right as in_right}
use mathlib.Core.List.{List, [], ◌∷◌, ◌++◌, map, map-append, Memᴰ as In}
use borrow.Author.Tests.{ltb-true, ltb-false}
use Rattle.std.proofs.Math.Dec.{ltb}
use Rattle.std.proofs.Math.ListN.{get_or}
use Rattle.std.proofs.Math.Seq.{slice}
use Rattle.lemmas.specs.Lists.{push, keep, chain, join, sort, up_from}
use Rattle.lemmas.specs.ListLaws.{and_left, and_right, sub_keep, sub_in}
use Rattle.lemmas.specs.Slices.{run_cons, run_end, rest_cons, parts, parts_turn, parts_over}
use Rattle.lemmas.specs.Maps.{chain_map, sort_map, keep_map, keep_same, sort_sorted}
use Rattle.lemmas.specs.Merge.{merge, merge_first, merge_second, merge_nil, merge_length, sort_append}
use Rattle.model.specs.Key.{before}
use Rattle.model.specs.File.{File, full, by_smallest, in_order, levelwise}
use Rattle.model.specs.Edit.{Addition, Edit, added, left_deleted, survivors, survivors_from}
use Rattle.model.proofs.Formed.{levels_sorted}
use Rattle.model.proofs.PickedLaws.{sub_ordered}
use Rattle.records.specs.declared.FileRecord.{FileRecord}
use Rattle.records.specs.Record.{file_of}
use Rattle.edit_stayers.specs.Stayers.{stayers_by, stayers_from}
use Rattle.edit_order.specs.Arrangement.{record_before, at_level, sorted_levels}
use Rattle.edit_order.specs.ArrangeLaws.{record_order}
use Rattle.edit_merge.specs.Builder.{merges, sums}

-- ---- the runs of l from i to e and of r from j to f, merged: which item is next
module _ {A : Type 0} (lt : A → A → Bool) (l r : List A) (i e j f : ℕ) (d : A) where
  -- that of r: none of l is left, or it is strictly before
  pub takes_second : i ≤ e → e ≤ length l → j < f → f ≤ length r → (i < e → lt (get_or r j d) (get_or l i d) ≡ true)
      → merge lt (slice i e l) (slice j f r) ≡ get_or r j d ∷ merge lt (slice i e l) (slice (j + 1) f r)
  unfolding merge
  takes_second h g p q t = go (ltb i e) refl
    where
      go : (b : Bool) → ltb i e ≡ b → merge lt (slice i e l) (slice j f r) ≡ get_or r j d ∷ merge lt (slice i e l) (slice (j + 1) f r)
      go true b =
          let less : i < e = ltb-true i e b in
          merge_second lt (slice i e l) (slice j f r) (slice (i + 1) e l) (slice (j + 1) f r) (get_or l i d) (get_or r j d) (run_cons i e l d less g) (run_cons j f r d p q) (t less)
      go false b = rw (run_end i e l h (ltb-false i e b)) (run_cons j f r d p q)

  -- that of l: none of r is left, or that of r is not strictly before
  pub takes_first : i < e → e ≤ length l → j ≤ f → f ≤ length r → (j < f → lt (get_or r j d) (get_or l i d) ≡ false)
      → merge lt (slice i e l) (slice j f r) ≡ get_or l i d ∷ merge lt (slice (i + 1) e l) (slice j f r)
  takes_first h g p q t = go (ltb j f) refl
    where
      go : (b : Bool) → ltb j f ≡ b → merge lt (slice i e l) (slice j f r) ≡ get_or l i d ∷ merge lt (slice (i + 1) e l) (slice j f r)
      go true b =
          let less : j < f = ltb-true j f b in
          merge_first lt (slice i e l) (slice j f r) (slice (i + 1) e l) (slice (j + 1) f r) (get_or l i d) (get_or r j d) (run_cons i e l d h g) (run_cons j f r d less q) (t less)
      go false b =
          rw (run_end j f r p (ltb-false j f b), merge_nil lt (slice i e l), merge_nil lt (slice (i + 1) e l)) (run_cons i e l d h g)

  -- none: nothing is left of either
  pub takes_none : i ≤ e → e ≤ i → j ≤ f → f ≤ j → merge lt (slice i e l) (slice j f r) ≡ []
  unfolding merge
  takes_none h g p q = rw (run_end i e l h g, run_end j f r p q)

-- ---- levels merged level by level

-- there are as many records as both have
pub merges_length : (as' bs : List (List FileRecord)) → length as' ≡ length bs → length (join (merges as' bs)) ≡ length (join as') + length (join bs)
unfolding merges join
merges_length [] [] h = refl
merges_length [] (b ∷ bs) h = absurd (omega arith)
merges_length (a ∷ as') [] h = absurd (omega arith)
merges_length (a ∷ as') (b ∷ bs) h =
    omega (arith, merges_length as' bs (omega arith), merge_length record_before a b, length-append (merge record_before a b) (join (merges as' bs)), length-append a (join as'), length-append b (join bs))

-- the count of each level is the sum of both
pub merges_sums : (as' bs : List (List FileRecord)) → map length (merges as' bs) ≡ sums (map length as') (map length bs)
unfolding merges sums
merges_sums [] bs = refl
merges_sums (a ∷ as') [] = ap (λ (z : List ℕ). length a ∷ z) (merges_sums as' [])
merges_sums (a ∷ as') (b ∷ bs) = cc (merge_length record_before a b, merges_sums as' bs)

-- there is one sum for each level
pub sums_length : (ms ns : List ℕ) → length (sums ms ns) ≡ length ms
unfolding sums
sums_length [] ns = refl
sums_length (m ∷ ms) [] = ap suc (sums_length ms [])
sums_length (m ∷ ms) (n ∷ ns) = ap suc (sums_length ms ns)

-- two lists of counts from a level on
module _ (ms ns : List ℕ) (level : ℕ) where
  -- a turn: the sum of this level, then the others
  pub sums_turn : level < length ms → level < length ns → sums (drop level ms) (drop level ns) ≡ (get_or ms level 0 + get_or ns level 0) ∷ sums (drop (level + 1) ms) (drop (level + 1) ns)
  unfolding sums
  sums_turn h g = rw (rest_cons ms level 0 h, rest_cons ns level 0 g)

  -- no level is left
  pub sums_over : length ms ≤ level → sums (drop level ms) (drop level ns) ≡ []
  unfolding sums
  sums_over h = rw (drop_of_length-le ms h)

-- two arrays from a level on
module _ (files news : List FileRecord) (counts counts' : List ℕ) (level i j : ℕ) where
  -- a turn: this level merged, then the others
  pub merges_turn : level < length counts → level < length counts'
      → merges (parts (drop i files) (drop level counts)) (parts (drop j news) (drop level counts'))
      ≡ merge record_before (slice i (i + get_or counts level 0) files) (slice j (j + get_or counts' level 0) news)
      ∷ merges (parts (drop (i + get_or counts level 0) files) (drop (level + 1) counts)) (parts (drop (j + get_or counts' level 0) news) (drop (level + 1) counts'))
  unfolding merges
  merges_turn h g = rw (parts_turn files counts level i h, parts_turn news counts' level j g)

  -- no level is left
  pub merges_over : length counts ≤ level → merges (parts (drop i files) (drop level counts)) (parts (drop j news) (drop level counts')) ≡ []
  unfolding merges
  merges_over h = rw (parts_over files counts level i h)

-- ---- the files of the merged records

-- merging sorted additions into sorted stayers is sorting both, with the stayers first among equal keys
pub merge_sorts : (kept new : List FileRecord) → chain (λ a b. not (record_before b a)) kept ≡ true → merge record_before kept (sort record_before new) ≡ sort record_before (kept ++ new)
merge_sorts kept new h =
    ap (λ (z : List FileRecord). merge record_before z (sort record_before new)) (sym (sort_sorted record_before kept h)) ∙ sym (sort_append record_before record_order kept new)

-- the same for the files
pub merge_files : (kept new : List FileRecord) → chain (λ f g. not (by_smallest g f)) (map file_of kept) ≡ true
    → map file_of (merge record_before kept (sort record_before new)) ≡ sort by_smallest (map file_of kept ++ map file_of new)
unfolding record_before
merge_files kept new h =
    ap (map file_of) (merge_sorts kept new (sym (chain_map file_of (λ f g. not (by_smallest g f)) kept) ∙ h))
    ∙ sym (sort_map file_of by_smallest (kept ++ new))
    ∙ ap (sort by_smallest) (map-append file_of kept new)

-- the additions of a level, by the columns, are the files that the edit adds there
pub added_at : (l : ℕ) (new : List Addition) (ks : List ℕ) (rs : List FileRecord) → ks ≡ map (λ (a : Addition). a.level) new → map file_of rs ≡ map (λ (a : Addition). a.file) new
    → map file_of (at_level l ks rs) ≡ map (λ (a : Addition). a.file) (keep (λ a. eqb a.level l) new)
unfolding at_level keep push
added_at l [] ks rs e f = rw e
added_at l (a ∷ new) ks [] e f = absurd (omega (arith, ap length f))
added_at l (a ∷ new) ks (r ∷ rs) e f =
    let first : file_of r ≡ a.file = cc in
    let rest : map file_of rs ≡ map (λ (a : Addition). a.file) new = cc in
    rw e (go (eqb a.level l) first (added_at l new (map (λ (a : Addition). a.level) new) rs refl rest))
  where
    go : (t : Bool) → file_of r ≡ a.file
        → map file_of (at_level l (map (λ (a : Addition). a.level) new) rs) ≡ map (λ (a : Addition). a.file) (keep (λ a. eqb a.level l) new)
        → map file_of (cond t (r ∷ at_level l (map (λ (a : Addition). a.level) new) rs) (at_level l (map (λ (a : Addition). a.level) new) rs))
        ≡ map (λ (a : Addition). a.file) (push t a (keep (λ a. eqb a.level l) new))
    go true p ih = rw (p, ih)
    go false p ih = ih

-- ---- an edit's survivors: the stayers, by a test that tells what is left deleted, merged with the additions in order
module _ (e : Edit) (test : ℕ → ℕ → Bool) (same : (l n : ℕ) → test l n ≡ not (left_deleted e l n)) (ks : List ℕ) (rs : List FileRecord)
    (levels : ks ≡ map (λ (a : Addition). a.level) e.additions) (files : map file_of rs ≡ map (λ (a : Addition). a.file) e.additions) where
  -- the stayers are the base files that are not left deleted
  kept_files : (l : ℕ) (fs : List FileRecord) → map file_of (keep (λ r. test l r.number.0) fs) ≡ keep (λ f. not (left_deleted e l f.number)) (map file_of fs)
  unfolding file_of
  kept_files l fs =
      ap (map file_of) (keep_same (λ r. test l r.number.0) (λ r. not (left_deleted e l (file_of r).number)) fs (λ r m. same l r.number.0))
      ∙ sym (keep_map file_of (λ f. not (left_deleted e l f.number)) fs)

  -- for one level
  level_merged : (l : ℕ) (fs : List FileRecord) → ((f : File) → In f (map file_of fs) → before f.largest f.smallest ≡ false) → in_order l (map file_of fs) ≡ true
      → map file_of (merge record_before (keep (λ r. test l r.number.0) fs) (sort record_before (at_level l ks rs))) ≡ survivors e l (map file_of fs)
  unfolding survivors added
  level_merged l fs good h =
      let stay : File → Bool = λ f. not (left_deleted e l f.number) in
      let part = sub_keep stay (map file_of fs) in
      let order : chain (λ f g. not (by_smallest g f)) (keep stay (map file_of fs)) ≡ true = levels_sorted l (keep stay (map file_of fs)) (λ f m. good f (sub_in f part m)) (sub_ordered l good part h) in
      merge_files (keep (λ r. test l r.number.0) fs) (at_level l ks rs) (rw (kept_files l fs) order)
      ∙ rw (kept_files l fs, added_at l e.additions ks rs levels files)

  -- for the levels from l on
  levels_merged : (l : ℕ) (ls : List (List FileRecord)) → ((f : File) → In f (join (map (map file_of) ls)) → before f.largest f.smallest ≡ false)
      → levelwise in_order l (map (map file_of) ls) ≡ true
      → map (map file_of) (merges (stayers_from test l ls) (map (λ l. sort record_before (at_level l ks rs)) (up_from l (length ls)))) ≡ survivors_from e l (map (map file_of) ls)
  unfolding merges stayers_by survivors_from up_from levelwise join
  levels_merged l [] good h = refl
  levels_merged l (fs ∷ ls) good h =
      let a = in_order l (map file_of fs) in
      let b = levelwise in_order (suc l) (map (map file_of) ls) in
      cc (level_merged l fs (λ f m. good f (in_left (join (map (map file_of) ls)) m)) (and_left a b h), levels_merged (suc l) ls (λ f m. good f (in_right (map file_of fs) m)) (and_right a b h))

  -- for all levels
  pub survivors_merged : (ls : List (List FileRecord)) → length ls ≡ full.levels → ((f : File) → In f (join (map (map file_of) ls)) → before f.largest f.smallest ≡ false)
      → levelwise in_order 0 (map (map file_of) ls) ≡ true → map (map file_of) (merges (stayers_from test 0 ls) (sorted_levels record_before ks rs)) ≡ survivors_from e 0 (map (map file_of) ls)
  unfolding sorted_levels
  survivors_merged ls n good h =
      ap (λ (k : ℕ). map (map file_of) (merges (stayers_from test 0 ls) (map (λ l. sort record_before (at_level l ks rs)) (up_from 0 k)))) (sym n) ∙ levels_merged 0 ls good h
