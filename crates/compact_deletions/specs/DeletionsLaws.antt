-- Laws of the deletions of a picked answer's inputs: how many there are, as records, in an edit, and in two columns. Assumes nothing.
use Prim.Native.Nat.{ℕ, suc, ◌+◌, ◌-◌, ◌≤◌, ◌<◌, min}
use Rattle.std.specs.Prelude.{◌≡◌, refl, true, false, ltb, drop, replicate, Result, Ok, Err, IsOkAnd}
use Rattle.std.proofs.Common.{sym, ◌∙◌, add-one, lt-ltb, le-ltb, length-take-le, take_at}
use Rattle.std.proofs.Math.Path.{ap}
use mathlib.Core.List.{List, [], ◌∷◌, ◌++◌, map, map-map, map-append, append-nil, append_assoc}
use native.Mathlib.Omega.{arith}
use Rattle.std.proofs.Math.ListN.{length, take, length-map, length-append}
use Rattle.std.proofs.Math.Seq.{slice}
use Rattle.lemmas.specs.ListLaws.{map_same}
use Rattle.lemmas.specs.Slices.{put, put_front, run_join, length_view}
use Rattle.model.specs.Answer.{Answer, gives, refused, ◌⇒◌, first_of, on_answer, lent}
use Rattle.model.specs.File.{File, full, numbers, max_files, max_deletions}
use Rattle.model.specs.File as file
use Rattle.model.specs.Edit as model_edit
use Rattle.model.specs.Pick as model
use Rattle.model.specs.Pick.{input_deletions}
use Rattle.model.specs.Calls as calls
use Rattle.answers.specs.declared.Refusal.{Refusal}
use Rattle.answers.specs.Outcome.{number_of, result_of, answer_of, filling}
use Rattle.answers.specs.OutcomeLaws.{one_number}
use Rattle.records.specs.Record.{file_of}
use Rattle.records.specs.RecordLaws.{column_run}
use Rattle.records.specs.Run.{run}
use Rattle.records.specs.declared.FileRecord.{FileRecord}
use Rattle.edit.specs.declared.Edit.{Edit}
use Rattle.edit.specs.Edit.{entries, deletion_of, edit_of}
use Rattle.pick_answer.specs.declared.Picked.{Picked}
use Rattle.pick_answer.specs.Picked.{picked_of, well_picked, on_picked}
use Rattle.pick_answer.specs.PickedLaws.{first_run, second_run, well_room, first_length, second_length, lent_slice, asked_ill, asked_well, well_some}
use Rattle.compact_deletions.specs.Deletions.{deletion_at, deletion_record, room_in, with_deletions, deleted_by, naming, Names}

-- ---- the deletions of the inputs

-- the numbers of a run of files, as lent from the column of all
pub column_lent : (n from to : ℕ) (files : List FileRecord) (d column : List ℕ) → n ≤ length files → from ≤ to → to ≤ n → column ≡ put d 0 (numbers (run 0 n files))
    → take (to - from) (drop from column) ≡ numbers (run from to files)
column_lent n from to files d column q h k e = lent_slice from to column h ∙ column_run n from to files d column q h k e

module _ (c : Picked) (room : ℕ) where
  -- the call on a picked answer
  abbrev deleting : model.Picked → Answer (List model_edit.Deletion)
  deleting p = calls.deletions_of full p room

  -- not well-formed: 14
  pub deletions_ill : well_picked c ≡ false → on_picked c deleting ≡ refused 14
  unfolding calls.deletions_of
  deletions_ill h = asked_ill c (λ p. (ltb room (length (input_deletions p)) ⇒ 13) ∷ []) input_deletions h

  module _ (h : well_picked c ≡ true) (q : length c.files ≡ max_files) where
    -- there is one for each input
    pub deletions_length : length (input_deletions (picked_of c)) ≡ c.first + c.second
    unfolding input_deletions
    deletions_length =
        let p = picked_of c in
        let r = well_room c h in
        let at : ℕ → File → model_edit.Deletion = λ l f. record { level = l; number = f.number } in
        omega (
          arith,
          length-append (map (at p.level) p.first) (map (at (suc p.level)) p.second),
          length-map p.first (at p.level),
          length-map p.second (at (suc p.level)),
          first_length c q r,
          second_length c q r,
        )

    -- well-formed: 13 decides
    passing : on_picked c deleting ≡ first_of ((ltb room (length (input_deletions (picked_of c))) ⇒ 13) ∷ []) (input_deletions (picked_of c))
    unfolding calls.deletions_of
    passing = asked_well c (λ p. (ltb room (length (input_deletions p)) ⇒ 13) ∷ []) input_deletions h

    -- more than the room: 13
    pub deletions_short : room < c.first + c.second → on_picked c deleting ≡ refused 13
    unfolding first_of ◌⇒◌
    deletions_short k = passing ∙ rw (lt-ltb room (length (input_deletions (picked_of c))) (omega (arith, deletions_length)))

    -- else the deletions of the inputs
    pub deletions_done : c.first + c.second ≤ room → on_picked c deleting ≡ gives (input_deletions (picked_of c))
    unfolding first_of ◌⇒◌
    deletions_done k = passing ∙ rw (le-ltb room (length (input_deletions (picked_of c))) (omega (arith, deletions_length)))

-- as records: the first inputs' numbers at the level, then the second inputs' one level deeper
pub deletion_records : (c : Picked) → map deletion_record (input_deletions (picked_of c))
    ≡ map (deletion_at c.level) (numbers (run 0 c.first c.files)) ++ map (deletion_at (c.level + 1)) (numbers (run c.first (c.first + c.second) c.files))
unfolding input_deletions picked_of deletion_record deletion_at numbers
deletion_records c =
    let p = picked_of c in
    let at : ℕ → File → model_edit.Deletion = λ l f. record { level = l; number = f.number } in
    let number : File → ℕ = λ f. f.number in
    let named : (l : ℕ) (fs : List File) → map deletion_record (map (at l) fs) ≡ map (deletion_at l) (map number fs) = λ l fs. map-map deletion_record (at l) fs ∙ sym (map-map (deletion_at l) number fs) in
    map-append deletion_record (map (at c.level) p.first) (map (at (suc c.level)) p.second)
    ∙ rw (named c.level p.first, named (suc c.level) p.second, first_run c, second_run c, add-one)

-- the deletions of a run are one for each file
pub named_length : (l from to : ℕ) (files : List FileRecord) → to ≤ length files → length (map (deletion_at l) (numbers (run from to files))) ≡ to - from
unfolding numbers run
named_length l from to files h =
    let number : File → ℕ = λ f. f.number in
    let fs = map file_of (slice from to files) in
    length-map (map number fs) (deletion_at l) ∙ length-map fs number ∙ length_view file_of from to files h

-- the front of a list with another written over it, up to that one's end
put_upto : {A : Type 0} (d : List A) (at : ℕ) (s : List A) → at ≤ length d → take (at + length s) (put d at s) ≡ take at d ++ s
unfolding put
put_upto d at s h =
    let k : length (take at d ++ s) ≡ at + length s = length-append (take at d) s ∙ ap (λ (n : ℕ). n + length s) (length-take-le at d h) in
    rw (← append_assoc (take at d) s (drop (at + length s) d)) (take_at (take at d ++ s) (drop (at + length s) d) (at + length s) k)

-- the records of deletions stand for them
named_back : (ds : List model_edit.Deletion) → map deletion_of (map deletion_record ds) ≡ ds
unfolding deletion_of deletion_record
named_back ds = map-map deletion_of deletion_record ds ∙ map_same ds

-- an edit with deletions after its own, within its room
module _ (e : Edit) (q : length e.deletions ≡ max_deletions) (ds : List model_edit.Deletion) (h : e.deletion_count + length ds ≤ max_deletions) where
  -- its deletions are its own, then these
  pub deletions_follow : (edit_of (with_deletions e (map deletion_record ds))).deletions ≡ (edit_of e).deletions ++ ds
  unfolding edit_of with_deletions entries
  deletions_follow =
      let n = e.deletion_count in
      let rs = map deletion_record ds in
      let size : length rs ≡ length ds = length-map ds deletion_record in
      let k : n + length rs - max_deletions ≡ 0 = omega arith in
      let z : n - max_deletions ≡ 0 = omega arith in
      let front : take (n + length rs) (put e.deletions n rs) ≡ take n e.deletions ++ rs = put_upto e.deletions n rs (omega arith) in
      simp (k, z, append-nil) (rw front (map-append deletion_of (take n e.deletions) rs ∙ ap (λ (xs : List model_edit.Deletion). map deletion_of (take n e.deletions) ++ xs) (named_back ds)))

-- an edit with the inputs' deletions added: its own deletions, then exactly both input lists in order. Nothing else has changed
pub inputs_added : (c : Picked) (e : Edit) → length c.files ≡ max_files → length e.deletions ≡ max_deletions → well_picked c ≡ true → c.first + c.second ≤ room_in e
    → IsOkAnd (deleted_by e (on_picked c (λ p. calls.deletions_of full p (room_in e)))) (λ x. edit_of x
    ≡ record { pointers = (edit_of e).pointers; deletions = (edit_of e).deletions ++ input_deletions (picked_of c); additions = (edit_of e).additions; log = (edit_of e).log })
unfolding deleted_by result_of room_in full edit_of with_deletions
inputs_added c e q l h k =
    let ds = input_deletions (picked_of c) in
    let room : e.deletion_count + length ds ≤ max_deletions = omega (arith, deletions_length c (room_in e) h q, well_some c h q) in
    let f = deletions_follow e l ds room in
    rw (deletions_done c (max_deletions - e.deletion_count) h q k) (λ i. record { pointers = (edit_of e).pointers; deletions = f i; additions = (edit_of e).additions; log = (edit_of e).log })

-- ---- the deletions of the inputs in two columns

-- mapping to one value repeats it
map_one : {A B : Type 0} (b : B) (xs : List A) → map (λ x. b) xs ≡ replicate (length xs) b
map_one b [] = refl
map_one b (x ∷ xs) = ap (λ (r : List _). b ∷ r) (map_one b xs)

-- their levels: the level for each first input, one deeper for each second
pub levels_named : (c : Picked) → length c.files ≡ max_files → well_picked c ≡ true
    → map (λ (d : model_edit.Deletion). d.level) (input_deletions (picked_of c)) ≡ replicate c.first c.level ++ replicate c.second (c.level + 1)
unfolding input_deletions picked_of
levels_named c q h =
    let p = picked_of c in
    let r = well_room c h in
    let at : ℕ → File → model_edit.Deletion = λ l f. record { level = l; number = f.number } in
    let level : model_edit.Deletion → ℕ = λ d. d.level in
    map-append level (map (at c.level) p.first) (map (at (suc c.level)) p.second)
    ∙ rw (map-map level (at c.level) p.first, map-map level (at (suc c.level)) p.second, map_one c.level p.first, map_one (suc c.level) p.second, first_length c q r, second_length c q r, add-one)

-- their numbers: those of the inputs, in order
pub numbers_named : (c : Picked) → length c.files ≡ max_files → well_picked c ≡ true
    → map (λ (d : model_edit.Deletion). d.number) (input_deletions (picked_of c)) ≡ numbers (run 0 (c.first + c.second) c.files)
unfolding input_deletions picked_of numbers run
numbers_named c q h =
    let p = picked_of c in
    let r = well_room c h in
    let at : ℕ → File → model_edit.Deletion = λ l f. record { level = l; number = f.number } in
    let number : model_edit.Deletion → ℕ = λ d. d.number in
    let own : File → ℕ = λ f. f.number in
    let a = slice 0 c.first c.files in
    let b = slice c.first (c.first + c.second) c.files in
    map-append number (map (at c.level) p.first) (map (at (suc c.level)) p.second)
    ∙ rw (map-map number (at c.level) p.first, map-map number (at (suc c.level)) p.second, first_run c, second_run c)
    (sym (map-append own (map file_of a) (map file_of b)) ∙ ap (map own) (sym (map-append file_of a b)) ∙ ap (λ (rs : List FileRecord). map own (map file_of rs)) (sym (run_join 0 c.first (c.first + c.second) c.files (omega arith) (omega arith) (omega arith))))

module _ (c : Picked) (levels numbers : List ℕ) where
  -- the shorter column
  abbrev room : ℕ
  room = min (length levels) (length numbers)

  -- a refusal leaves both columns as they were
  pub names_refused : (r : Refusal) → naming c room ≡ refused (number_of r) → Names c levels numbers (Err r) levels numbers
  unfolding answer_of filling on_answer lent
  names_refused r e = record { answer = rw e; levels_after = rw e; numbers_after = rw e }

  -- else they are filled from the front
  pub names_done : length c.files ≡ max_files → well_picked c ≡ true → c.first + c.second ≤ room → (levels' numbers' : List ℕ)
      → levels' ≡ put levels 0 (replicate c.first c.level ++ replicate c.second (c.level + 1)) → numbers' ≡ put numbers 0 (file.numbers (run 0 (c.first + c.second) c.files))
      → Names c levels numbers (Ok (c.first + c.second)) levels' numbers'
  unfolding answer_of filling on_answer lent naming
  names_done q h k levels' numbers' l n =
      let e = deletions_done c room h q k in
      let ds = input_deletions (picked_of c) in
      record {
        answer = rw e (ap gives (sym (deletions_length c room h q)));
        levels_after = rw e (l ∙ ap (put levels 0) (sym (levels_named c q h)) ∙ put_front levels (map (λ (d : model_edit.Deletion). d.level) ds));
        numbers_after = rw e (n ∙ ap (put numbers 0) (sym (numbers_named c q h)) ∙ put_front numbers (map (λ (d : model_edit.Deletion). d.number) ds));
      }

-- an answer has one form
answer_one : (s t : Result ℕ Refusal) → answer_of s ≡ answer_of t → s ≡ t
unfolding answer_of
answer_one (Ok n) (Ok m) e = cc
answer_one (Ok n) (Err q) e = cc
answer_one (Err r) (Ok m) e = cc
answer_one (Err r) (Err q) e = ap Err (one_number r q cc)

-- any two outcomes of the call are equal
pub names_one : (c : Picked) (levels numbers : List ℕ) (s t : Result ℕ Refusal) (l l' n n' : List ℕ) → Names c levels numbers s l n → Names c levels numbers t l' n' → (s ≡ t) × (l ≡ l') × (n ≡ n')
names_one c levels numbers s t l l' n n' p q =
    (answer_one s t (p.answer ∙ sym q.answer), p.levels_after ∙ sym q.levels_after, p.numbers_after ∙ sym q.numbers_after)
