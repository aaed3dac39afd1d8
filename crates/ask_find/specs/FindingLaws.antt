-- Laws of finding files: a call on a lent list answers as on the gathered list, and the answers of find_file. Assumes nothing.
use Rattle.std.specs.Prelude.{ℕ, zero, suc, ◌-◌, ◌≤◌, ◌<◌, ◌≡◌, true, false, not, ◌&&◌, ltb, leb, take, drop}
use Rattle.std.specs.Bool.{then_some}
use Rattle.std.proofs.Math.Path.{refl, ap}
use Rattle.std.proofs.Common.{sym, ◌∙◌, arith, take_all, take_at, drop_at}
use Rattle.std.proofs.Math.Bool.{Bool, cond}
use mathlib.Core.List.{List, [], ◌∷◌, ◌++◌, map}
use Rattle.std.proofs.Math.Option.{none, some}
use Rattle.std.proofs.Math.Decide.{dec_le}
use Rattle.std.proofs.Math.ListN.{length}
use Rattle.std.proofs.lemmas.Bool.{lt-leb}
use Rattle.lemmas.specs.Lists.{all}
use Rattle.lemmas.specs.ListLaws.{and_true}
use Rattle.lemmas.specs.Slices.{put, put_front, drop_replicate}
use Rattle.model.specs.Answer.{Answer, gives, refused, Refusal, ◌⇒◌, first_of}
use Rattle.model.specs.Key.{good_key}
use Rattle.model.specs.File.{File, full, in_order, level_count, max_files}
use Rattle.model.specs.Pick.{good_level}
use Rattle.model.proofs.PickedLaws.{good_level_says}
use Rattle.model.specs.Question.{find_index, passed}
use Rattle.model.proofs.QuestionLaws.{find_index_is}
use Rattle.model.specs.Calls.{lent_list, find_file_call}
use Rattle.records.specs.Record.{file_of, blank, vacant, sound_record, is_blank}
use Rattle.records.specs.RecordLaws.{vacant_blank}
use Rattle.records.specs.declared.FileRecord.{FileRecord}
use Rattle.level_list.specs.List.{files_of, sound_list, well_list, on_list}
use Rattle.level_list.specs.ListLaws as list
use Rattle.level_list.specs.declared.FileList.{FileList}
use Rattle.ask_find.specs.SearchLaws.{halved_passed}
use Rattle.ask_find.specs.Finding.{on_lent, index_of, gathered, halved, Deep}

-- ---- a lent list and the gathered list

-- no more records than there is room for
module _ (rs : List FileRecord) (h : length rs ≤ max_files) where
  -- they are in front, blank records past them
  laid : (gathered rs).files ≡ rs ++ drop (length rs) (vacant max_files)
  unfolding gathered full
  laid = ap (put (vacant max_files) 0) (take_all max_files rs h) ∙ put_front (vacant max_files) rs

  -- the front is the lent records
  pub gathered_front : take (length rs) (gathered rs).files ≡ rs
  gathered_front = ap (take (length rs)) laid ∙ take_at rs (drop (length rs) (vacant max_files)) (length rs) refl

  -- the rest is blank
  gathered_back : all is_blank (drop (length rs) (gathered rs).files) ≡ true
  unfolding vacant
  gathered_back =
      ap (λ (l : List FileRecord). all is_blank (drop (length rs) l)) laid ∙ ap (all is_blank) (drop_at rs (drop (length rs) (vacant max_files)) (length rs) refl ∙ drop_replicate (length rs) max_files blank) ∙ vacant_blank (max_files - length rs)

-- the gathered list is sound exactly if the lent records are, and are within the room
gathered_sound : (rs : List FileRecord) → sound_list (gathered rs) ≡ (leb (length rs) max_files && all sound_record rs)
unfolding sound_list gathered full
gathered_sound rs = go (dec_le (length rs) max_files)
  where
    go : Dec (length rs ≤ max_files) → (leb (length rs) max_files && all sound_record (take (length rs) (gathered rs).files) && all is_blank (drop (length rs) (gathered rs).files)) ≡ (leb (length rs) max_files && all sound_record rs)
    go (yes h) = rw (gathered_front rs h, gathered_back rs h) (and_true (leb (length rs) max_files && all sound_record rs))
    go (no h) = rw (lt-leb (length rs) max_files (omega arith))

-- a call on a lent list answers as on the gathered list
pub on_gathered : {A : Type 0} (n : ℕ) (rs : List FileRecord) (call : List File → Answer A) → on_list n (gathered rs) call ≡ on_lent n rs call
unfolding on_list on_lent full files_of gathered
on_gathered {A} n rs call = rw (gathered_sound rs) (go (dec_le (length rs) max_files))
  where
    go : Dec (length rs ≤ max_files) → ◌≡◌ {A = Answer A}
        (cond (leb (length rs) max_files && all sound_record rs) (call (map file_of (take (gathered rs).count (gathered rs).files))) (cond (ltb n level_count) (refused 14) (refused 1)))
        (cond (leb (length rs) max_files && all sound_record rs) (call (map file_of rs)) (cond (ltb n level_count) (refused 14) (refused 1)))
    go (yes h) = ap (λ (l : List FileRecord). cond (leb (length rs) max_files && all sound_record rs) (call (map file_of l)) (cond (ltb n level_count) (refused 14) (refused 1))) (gathered_front rs h)
    go (no h) = rw (lt-leb (length rs) max_files (omega arith))

-- the search on the lent list is that on the gathered one
pub gathered_halved : (k : List ℕ) (rs : List FileRecord) (at : ℕ) → at ≡ halved k rs → (gathered rs).count ≤ max_files → at ≡ halved k (take (gathered rs).count (gathered rs).files)
unfolding gathered
gathered_halved k rs at e h = e ∙ ap (halved k) (sym (gathered_front rs h))

-- a well-formed level above 0 is strictly apart
pub good_deep : (n : ℕ) (fs : List File) → (n ≡ 0 → ⊥) → good_level full n fs ≡ true → Deep fs
unfolding in_order
good_deep zero fs h g = absurd (h refl)
good_deep (suc n) fs h g = let t = (good_level_says full (suc n) fs).0 g in record { good = t.good; apart = t.ordered }

-- so is a well-formed list of such a level
pub well_deep : (n : ℕ) (l : FileList) → (n ≡ 0 → ⊥) → well_list n l ≡ true → Deep (map file_of (take l.count l.files))
unfolding files_of
well_deep n l h w = good_deep n (files_of l) h ((list.well_says n l).0 w).good

-- on such a list the search by halves ends after the files that end before the key
pub well_passed : (n : ℕ) (l : FileList) (k : List ℕ) (at : ℕ) → (n ≡ 0 → ⊥) → well_list n l ≡ true → (l.count ≤ max_files → at ≡ halved k (take l.count l.files)) → at ≡ passed k (files_of l)
unfolding files_of
well_passed n l k at h w e = e (list.well_room n l w) ∙ halved_passed k (take l.count l.files) (well_deep n l h w)

-- ---- find_file on a list

-- an index that is given if it is below a bound
pub index_given : (i p n : ℕ) → i ≡ p → then_some (ltb i n) i ≡ index_of (cond (ltb p n) (some p) none)
unfolding index_of
index_given i p n e = rw e (go (ltb p n))
  where
    go : (t : Bool) → then_some t p ≡ index_of (cond t (some p) none)
    go true = refl
    go false = refl

module _ (n : ℕ) (l : FileList) (k : List ℕ) where
  -- the refusal of a bad key
  abbrev key_test : List File → List Refusal
  key_test fs = (not (good_key full.longest k) ⇒ 2) ∷ []

  -- a level above 6: 1
  pub find_beyond : level_count ≤ n → on_list n l (λ fs. find_file_call full n fs k) ≡ refused 1
  unfolding find_file_call lent_list
  find_beyond h = list.lent_beyond n l key_test (find_index k) h

  -- not well-formed: 14
  pub find_bad : n < level_count → well_list n l ≡ false → on_list n l (λ fs. find_file_call full n fs k) ≡ refused 14
  unfolding find_file_call lent_list
  find_bad h w = list.lent_bad n l key_test (find_index k) h w

  -- a bad key: 2
  pub find_key : n < level_count → well_list n l ≡ true → good_key full.longest k ≡ false → on_list n l (λ fs. find_file_call full n fs k) ≡ refused 2
  unfolding find_file_call lent_list first_of ◌⇒◌
  find_key h w g = list.lent_good n l key_test (find_index k) h w ∙ rw g

  -- else the index of the first file that does not end before the key, if there is one
  pub find_good : length l.files ≡ max_files → n < level_count → well_list n l ≡ true → good_key full.longest k ≡ true
      → on_list n l (λ fs. find_file_call full n fs k) ≡ gives (cond (ltb (passed k (files_of l)) l.count) (some (passed k (files_of l))) none)
  unfolding find_file_call lent_list first_of ◌⇒◌
  find_good q h w g =
      list.lent_good n l key_test (find_index k) h w ∙ rw g
      (ap gives (find_index_is k (files_of l) ∙ ap (λ (m : ℕ). cond (ltb (passed k (files_of l)) m) (some (passed k (files_of l))) none) (list.files_count n l q w)))
