-- Laws of an edit's entries as columns. Assumes nothing.
use Rattle.std.specs.Prelude.{ℕ, ◌≡◌, refl, length, get_or, take, replicate}
use Rattle.std.proofs.Math.Path.{sym, ap}
use Rattle.std.proofs.Common.{◌∙◌, arith, length-take-le}
use mathlib.Core.List.{List, [], map, map-map}
use Rattle.std.proofs.lemmas.List.{length-map}
use Rattle.std.proofs.Math.ListN.{get_or-map}
use Rattle.lemmas.specs.Slices.{put, put_map}
use Rattle.lemmas.specs.Maps.{map_same, map_replicate}
use Rattle.lemmas.specs.Merge.{front_laid}
use Rattle.model.specs.File.{full}
use Rattle.model.specs.Edit as model
use Rattle.keys.specs.Key.{key_of, key_record}
use Rattle.keys.specs.KeyLaws.{key_of_length, key_of_record}
use Rattle.keys.specs.declared.Key.{Key}
use Rattle.records.specs.Record.{record_of, blank, vacant, past}
use Rattle.records.specs.declared.FileRecord.{FileRecord}
use Rattle.edit.specs.Edit.{edit_of, deletion_of, addition_of}
use Rattle.edit.specs.EditLaws.{HasRoom, Few, deletions_are, additions_are}
use Rattle.edit.specs.declared.Edit.{Edit}
use Rattle.edit.specs.declared.Deletion.{Deletion}
use Rattle.edit.specs.declared.Addition.{Addition}
use Rattle.edit_stayers.specs.Stayers.{stays_by}
use Rattle.edit_stayers.specs.StayLaws.{stays_in}
use Rattle.edit_order.specs.Arrangement.{key_at}
use Rattle.edit_plan.specs.Planning.{levels_gone, numbers_gone, no_keys, levels_in, numbers_in, keys_in, news_of, level_in, file_in, number_in}

-- the front of the kept records of additions
pub new_files : (as' : List Addition) (k : ℕ) → k ≡ length as' → take k (news_of as') ≡ map (λ (a : Addition). record_of (addition_of a).file) as'
unfolding news_of
new_files as' k q =
    let kept : Addition → FileRecord = λ a. record_of (addition_of a).file in
    front_laid (vacant full.additions) (news_of as') (map kept as') k (omega (arith, length-map as' kept)) refl

-- the kept smallest key of an addition stands for it
kept : (a : Addition) → key_of a.smallest ≡ key_of (record_of (addition_of a).file).smallest
unfolding record_of addition_of
kept a = sym (key_of_record (key_of a.smallest) (key_of_length a.smallest))

-- the key at each place of the column is the smallest key of the record there
pub keys_are : (as' : List Addition) (p : ℕ) → key_at (keys_in as') p ≡ key_of (get_or (news_of as') p past).smallest
unfolding key_at keys_in news_of no_keys vacant blank
keys_are as' p =
    let low : FileRecord → List ℕ = λ r. key_of r.smallest in
    let none : Key = record { bytes = []; len = 0 } in
    let n = full.additions in
    let keys = map (λ (a : Addition). a.smallest) as' in
    let rs = map (λ (a : Addition). record_of (addition_of a).file) as' in
    let same : map key_of keys ≡ map low rs = map-map key_of (λ (a : Addition). a.smallest) as' ∙ map_same (λ (a : Addition). key_of a.smallest) (λ (a : Addition). low (record_of (addition_of a).file)) as' kept ∙ sym (map-map low (λ (a : Addition). record_of (addition_of a).file) as') in
    sym (get_or-map key_of (put (replicate n (key_record [])) 0 keys) p none)
    ∙ ap (λ (z : List (List ℕ)). get_or z p (key_of none)) (put_map key_of (replicate n (key_record [])) 0 keys)
    ∙ ap (λ (z : List (List ℕ)). get_or (put z 0 (map key_of keys)) p (key_of none)) (map_replicate key_of n (key_record []) ∙ sym (map_replicate low n blank))
    ∙ ap (λ (z : List (List ℕ)). get_or (put (map low (replicate n blank)) 0 z) p (key_of none)) same
    ∙ ap (λ (z : List (List ℕ)). get_or z p (key_of none)) (sym (put_map low (replicate n blank) 0 rs))
    ∙ get_or-map low (put (replicate n blank) 0 rs) p past

-- ---- an edit's own columns
module _ (e : Edit) (r : HasRoom e) (w : Few e) where
  -- its deletions
  abbrev pub gone : List Deletion
  gone = take e.deletion_count e.deletions

  -- its additions
  abbrev pub new : List Addition
  new = take e.addition_count e.additions

  -- there are as many as the count says
  pub new_length : length new ≡ e.addition_count
  new_length = let a = r.additions in let b = w.additions in length-take-le e.addition_count e.additions (omega arith)

  -- the same for the edit of the model
  pub additions_length : length (edit_of e).additions ≡ e.addition_count
  additions_length = ap length (additions_are e w) ∙ length-map new addition_of ∙ new_length

  -- the levels of its additions
  pub levels_are : levels_in new ≡ map level_in (edit_of e).additions
  unfolding levels_in addition_of
  levels_are = sym (ap (map level_in) (additions_are e w) ∙ map-map level_in addition_of new)

  -- their numbers
  pub numbers_are : numbers_in new ≡ map number_in (edit_of e).additions
  unfolding numbers_in addition_of
  numbers_are = sym (ap (map number_in) (additions_are e w) ∙ map-map number_in addition_of new)

  -- their records
  pub records_are : map (λ (a : Addition). record_of (addition_of a).file) new ≡ map record_of (map file_in (edit_of e).additions)
  records_are =
      sym (ap (λ (as' : List model.Addition). map record_of (map file_in as')) (additions_are e w) ∙ ap (map record_of) (map-map file_in addition_of new)
      ∙ map-map record_of (λ (a : Addition). (addition_of a).file) new)

  -- so a file stays by the columns exactly if it stays by the edit
  pub stays_is : stays_by (levels_gone gone) (numbers_gone gone) (levels_in new) (numbers_in new) ≡ stays_in (edit_of e)
  unfolding deletion_of levels_gone numbers_gone
  stays_is =
      let a = ap (map (λ (d : model.Deletion). d.level)) (deletions_are e w) ∙ map-map (λ (d : model.Deletion). d.level) deletion_of gone in
      let b = ap (map (λ (d : model.Deletion). d.number)) (deletions_are e w) ∙ map-map (λ (d : model.Deletion). d.number) deletion_of gone in
      rw (levels_are, numbers_are, a, b)
