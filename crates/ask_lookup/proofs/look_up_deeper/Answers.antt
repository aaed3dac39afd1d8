-- `look_up_deeper` meets its contract: no file, 13, or the number of the file there. Assumes nothing.
use Rattle.std.proofs.Common.{◌≡◌, ◌≤◌, ◌<◌, ℕ, Bool, true, false, List, [], ◌∷◌, length, get_or, set, refl, sym, ap, ◌∙◌, arith, rules}
use Rattle.lemmas.specs.Slices.{put_nil, put_cons}
use Rattle.model.specs.File.{File, max_files}
use Rattle.model.specs.Key.{user_before, user}
use Rattle.model.specs.Key as model_key
use Rattle.model.specs.Question.{candidate, passed}
use Rattle.answers.specs.declared.Refusal.TheVariants.{Output}
use Rattle.keys.specs.Key.{key_of}
use Rattle.records.specs.Record.{file_of, past}
use Rattle.records.specs.Run.{run}
use Rattle.records.specs.declared.FileRecord.{FileRecord}
use Rattle.ask_lookup.specs.Lookup.{fitting}
use Rattle.ask_lookup.specs.LookupLaws.{fitting_short, fitting_gives, run_long_lem, run_file, candidate_none, candidate_above, candidate_is, answered_refused, answered_gives, answered_none}
use Rattle.ask_lookup.proofs.look_up_deeper.Goals as goal

module _ (k : model_key.Key) (n : ℕ) (files : List FileRecord) (h : n ≤ length files) (at : ℕ) (e : at ≡ passed k (run 0 n files)) where
  -- no place is left: nobody
  past_end : n ≤ at → candidate k (run 0 n files) ≡ []
  past_end l = candidate_none k (run 0 n files) (omega (arith, run_long_lem n files h, e))

  module _ (l : at < n) where
    -- a place is left
    below : passed k (run 0 n files) < length (run 0 n files)
    below = omega (arith, run_long_lem n files h, e)

    -- the file there
    there : get_or (run 0 n files) (passed k (run 0 n files)) (file_of past) ≡ file_of (get_or files at past)
    there = ap (λ (i : ℕ). get_or (run 0 n files) i (file_of past)) (sym e) ∙ run_file n files h at l

    module _ (b : Bool) (t : b ≡ user_before (user k) (user (file_of (get_or files at past)).smallest)) where
      -- the test is of its smallest user key
      seen : user_before (user k) (user (get_or (run 0 n files) (passed k (run 0 n files)) (file_of past)).smallest) ≡ b
      seen = ap (λ (f : File). user_before (user k) (user f.smallest)) there ∙ sym t

      -- it begins after the key: nobody
      above : b ≡ true → candidate k (run 0 n files) ≡ []
      above y = candidate_above k (run 0 n files) (file_of past) below (seen ∙ y)

      -- it does not: its number
      one : b ≡ false → candidate k (run 0 n files) ≡ (get_or files at past).number.0 ∷ []
      unfolding file_of
      one y = candidate_is k (run 0 n files) (file_of past) below (seen ∙ y) ∙ ap (λ (f : File). f.number ∷ []) there

pub returns-then-n-at : goal.returns-then-n-at
returns-then-n-at c =
    let a = c.args in
    let q : length a.files ≡ max_files = search rules in
    let room = length a.out.now in
    let none = past_end (key_of a.k) a.n a.files (omega (arith, c.requires.0)) a.at c.requires.1 c.if-n-at.true in
    answered_none (fitting room (candidate (key_of a.k) (run 0 a.n a.files))) a.out.now (ap (fitting room) none ∙ fitting_gives room [] (omega arith))

pub returns-then-begins_after : goal.returns-then-begins_after
returns-then-begins_after c =
    let a = c.args in
    let q : length a.files ≡ max_files = search rules in
    let room = length a.out.now in
    let none = above (key_of a.k) a.n a.files (omega (arith, c.requires.0)) a.at c.requires.1 c.if-n-at.false c.begins_after.result c.begins_after.ensures c.if-begins_after.true in
    answered_none (fitting room (candidate (key_of a.k) (run 0 a.n a.files))) a.out.now (ap (fitting room) none ∙ fitting_gives room [] (omega arith))

pub returns-then-out-lt1 : goal.returns-then-out-lt1
returns-then-out-lt1 c =
    let a = c.args in
    let q : length a.files ≡ max_files = search rules in
    let room = length a.out.now in
    let xs = (get_or a.files a.at past).number.0 ∷ [] in
    let alone = one (key_of a.k) a.n a.files (omega (arith, c.requires.0)) a.at c.requires.1 c.if-n-at.false c.begins_after.result c.begins_after.ensures c.if-begins_after.false in
    answered_refused (fitting room (candidate (key_of a.k) (run 0 a.n a.files))) a.out.now Output (ap (fitting room) alone ∙ fitting_short room xs c.if-out-lt1.true)

pub returns : goal.returns
returns c =
    let a = c.args in
    let q : length a.files ≡ max_files = search rules in
    let room = length a.out.now in
    let x = (get_or a.files a.at past).number.0 in
    let alone = one (key_of a.k) a.n a.files (omega (arith, c.requires.0)) a.at c.requires.1 c.if-n-at.false c.begins_after.result c.begins_after.ensures c.if-begins_after.false in
    answered_gives (fitting room (candidate (key_of a.k) (run 0 a.n a.files))) a.out.now (x ∷ []) 1 (set a.out.now 0 x) (ap (fitting room) alone ∙ fitting_gives room (x ∷ []) c.if-out-lt1.false) refl
    (sym (put_nil (set a.out.now 0 x) 1) ∙ put_cons a.out.now 0 x [] c.if-out-lt1.false)
