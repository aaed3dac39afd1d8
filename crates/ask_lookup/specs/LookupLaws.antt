-- Laws of lookups: the answer of a lookup on a list, the files that hold a user key, and the one that may. Assumes nothing.
use Rattle.std.specs.Prelude.{ℕ, zero, suc, ◌+◌, ◌-◌, ◌^◌, ◌≤◌, ◌<◌, ◌≡◌, Bool, cond, ltb, get_or, take, set, replicate, Result, Ok, Err}
use Rattle.std.proofs.Math.Path.{refl, sym, ap}
use Rattle.std.proofs.Common.{◌∙◌, lt-ltb, le-ltb}
use Rattle.std.proofs.Math.Bool.{true, false, not}
use mathlib.Core.List.{List, [], ◌∷◌, map, Option-to_list}
use Rattle.std.proofs.Math.Option.{Option, none, some}
use native.Mathlib.Omega.{arith}
use Rattle.std.proofs.Math.ListN.{length, length-set, length-map}
use Rattle.std.proofs.Math.Seq.{slice}
use Rattle.lemmas.specs.Each.{Each, each_slice}
use Rattle.lemmas.specs.Lists.{all, keep, push, sort}
use Rattle.lemmas.specs.ListLaws.{both, keep_length}
use Rattle.lemmas.specs.Loops.{keep_map_kept, keep_map_passed, keep_map_ended}
use Rattle.lemmas.specs.Merge.{front_laid}
use Rattle.lemmas.specs.Order.{clash}
use Rattle.lemmas.specs.Slices.{put, put_cons, put_nil, put_front, length_put, length_view, at_view, get_or_map}
use Rattle.model.specs.Answer.{Answer, gives, refused, Refusal, ◌⇒◌, first_of, on_answer, lent}
use Rattle.model.specs.Key.{user_before, user, good_key}
use Rattle.model.specs.File.{File, full, numbers, level_count, max_files, max_word}
use Rattle.model.specs.Question.{find_file, passed, holds, lookup, candidate}
use Rattle.model.proofs.QuestionLaws.{found_at, find_neither, find_index_is}
use Rattle.model.specs.Calls.{lent_list, look_up}
use Rattle.answers.specs.Outcome.{number_of, answer_of, filling}
use Rattle.answers.specs.declared.Refusal as code
use Rattle.records.specs.Record.{file_of, past}
use Rattle.records.specs.RecordLaws.{AllWords}
use Rattle.records.specs.Run.{run}
use Rattle.records.specs.declared.FileRecord.{FileRecord}
use Rattle.level_list.specs.List.{files_of, well_list, on_list}
use Rattle.level_list.specs.ListLaws as list
use Rattle.level_list.specs.declared.FileList.{FileList}
use Rattle.ask_lookup.specs.FallingLaws.{small, falling_is}
use Rattle.ask_lookup.specs.declared.Column.{Column}
use Rattle.ask_lookup.specs.Lookup.{fitting, flip, column_of}

-- ---- lookups on a list

module _ (n : ℕ) (l : FileList) (k : List ℕ) (room : ℕ) where
  -- its refusals 2 and 13
  abbrev look_tests : List File → List Refusal
  look_tests fs = (not (good_key full.longest k) ⇒ 2) ∷ (ltb room (length (lookup n fs k)) ⇒ 13) ∷ []

  -- its result
  abbrev look : List File → List ℕ
  look fs = lookup n fs k

  -- a level above 6: 1
  pub look_beyond : level_count ≤ n → on_list n l (λ fs. look_up full n fs k room) ≡ refused 1
  unfolding look_up lent_list
  look_beyond h = list.lent_beyond n l look_tests look h

  -- not well-formed: 14
  pub look_bad : n < level_count → well_list n l ≡ false → on_list n l (λ fs. look_up full n fs k room) ≡ refused 14
  unfolding look_up lent_list
  look_bad h w = list.lent_bad n l look_tests look h w

  -- a bad key: 2
  pub look_key : n < level_count → well_list n l ≡ true → good_key full.longest k ≡ false → on_list n l (λ fs. look_up full n fs k room) ≡ refused 2
  unfolding look_up lent_list first_of ◌⇒◌
  look_key h w g = list.lent_good n l look_tests look h w ∙ rw g

  -- else the result, if it fits the output
  pub look_good : n < level_count → well_list n l ≡ true → good_key full.longest k ≡ true → on_list n l (λ fs. look_up full n fs k room) ≡ fitting room (lookup n (files_of l) k)
  unfolding look_up lent_list first_of ◌⇒◌ fitting
  look_good h w g = list.lent_good n l look_tests look h w ∙ rw g

-- at level 0 it gives the files that hold the user key
pub lookup_first : (n : ℕ) (fs : List File) (k : List ℕ) → n ≡ 0 → lookup n fs k ≡ lookup 0 fs k
lookup_first n fs k e = ap (λ (m : ℕ). lookup m fs k) e

-- above level 0 the one file that may hold the key
pub lookup_deeper : (n : ℕ) (fs : List File) (k : List ℕ) → (n ≡ 0 → ⊥) → lookup n fs k ≡ candidate k fs
unfolding lookup
lookup_deeper zero fs k h = absurd (h refl)
lookup_deeper (suc n) fs k h = refl

-- ---- answers that fit lent output

module _ {A : Type 0} (room : ℕ) (xs : List A) where
  -- the output is shorter than the answer: 13
  pub fitting_short : room < length xs → fitting room xs ≡ refused 13
  unfolding fitting first_of ◌⇒◌
  fitting_short h = rw (lt-ltb room (length xs) h)

  -- it is not: the answer
  pub fitting_gives : length xs ≤ room → fitting room xs ≡ gives xs
  unfolding fitting first_of ◌⇒◌
  fitting_gives h = rw (le-ltb room (length xs) h)

-- a call with lent output
module _ (a : Answer (List ℕ)) (out : List ℕ) where
  -- its count and the output after it are as the answer says
  abbrev pub Answered : Result ℕ code.Refusal → List ℕ → Type 0
  Answered r after = (answer_of r ≡ filling a) × (after ≡ lent a out)

  -- after a refusal the output is as it was
  pub answered_refused : (r : code.Refusal) → a ≡ refused (number_of r) → Answered (Err r) out
  unfolding answer_of filling on_answer lent
  answered_refused r e = (rw e, rw e)

  -- else the answer is at the front
  pub answered_gives : (xs : List ℕ) (n : ℕ) (after : List ℕ) → a ≡ gives xs → length xs ≡ n → after ≡ put out 0 xs → Answered (Ok n) after
  unfolding answer_of filling on_answer lent
  answered_gives xs n after e k f = (rw e (ap gives (sym k)), rw e (f ∙ put_front out xs))

  -- an empty answer leaves it as it was
  pub answered_none : a ≡ gives [] → Answered (Ok 0) out
  answered_none e = answered_gives [] 0 out e refl (sym (put_nil out 0))

-- the same for an equal answer
pub answered_as : (a b : Answer (List ℕ)) (out : List ℕ) (r : Result ℕ code.Refusal) (after : List ℕ) → a ≡ b → Answered b out r after → Answered a out r after
answered_as a b out r after e h = rw e h

-- ---- the files of a run by their places

module _ (n : ℕ) (files : List FileRecord) (h : n ≤ length files) where
  -- there are n files
  pub run_long_lem : length (run 0 n files) ≡ n
  unfolding run
  run_long_lem = let e : n - 0 ≡ n = omega arith in length_view file_of 0 n files h ∙ e

  -- the file at place i
  pub run_file : (i : ℕ) → i < n → get_or (run 0 n files) i (file_of past) ≡ file_of (get_or files i past)
  unfolding run
  run_file i k =
      let e : 0 + i ≡ i = omega arith in
      at_view file_of 0 n files i past (file_of past) (omega arith) h ∙ ap (λ (j : ℕ). file_of (get_or files j past)) e

-- ---- the files that hold a user key

module _ (p : File → Bool) where
  -- their numbers as distances
  abbrev pub turned : List File → List ℕ
  turned fs = map flip (numbers (keep p fs))

  module _ (i e : ℕ) (files : List FileRecord) (h : i < e) (k : e ≤ length files) where
    -- the file at i passes and counts
    pub turned_kept : p (file_of (get_or files i past)) ≡ true → turned (run i e files) ≡ flip (get_or files i past).number.0 ∷ turned (run (i + 1) e files)
    unfolding run numbers file_of
    turned_kept t = ap (λ (fs : List File). map flip (map (λ (f : File). f.number) fs)) (keep_map_kept file_of p i e files past h k t)

    -- it does not and is left out
    pub turned_passed : p (file_of (get_or files i past)) ≡ false → turned (run i e files) ≡ turned (run (i + 1) e files)
    unfolding run
    turned_passed t = ap (λ (fs : List File). map flip (numbers fs)) (keep_map_passed file_of p i e files past h k t)

  -- no file is left
  pub turned_ended : (i e : ℕ) (files : List FileRecord) → i ≤ e → e ≤ i → turned (run i e files) ≡ []
  unfolding run numbers
  turned_ended i e files h k = ap (λ (fs : List File). map flip (numbers fs)) (keep_map_ended file_of p i e files past h k)

  -- their numbers fit 64 bits
  small_kept : (rs : List FileRecord) → AllWords rs → all small (numbers (keep p (map file_of rs))) ≡ true
  unfolding all keep numbers push Each file_of
  small_kept [] w = refl
  small_kept (r ∷ rs) w = go (p (file_of r)) (small_kept rs w.1)
    where
      go : (t : Bool) → all small (numbers (keep p (map file_of rs))) ≡ true → all small (map (λ (f : File). f.number) (push t (file_of r) (keep p (map file_of rs)))) ≡ true
      go true ih = both (small r.number.0) (all small (numbers (keep p (map file_of rs)))) (lt-ltb r.number.0 (2 ^ 64) w.0) ih
      go false ih = ih

  -- the same for a run
  pub small_numbers : (i e : ℕ) (files : List FileRecord) → AllWords files → all small (numbers (keep p (run i e files))) ≡ true
  unfolding run
  small_numbers i e files w = small_kept (slice i e files) (each_slice (λ (r : FileRecord). r.number.0 < 2 ^ 64) i e files w)

-- ---- the file that may hold the key

module _ (k : List ℕ) (fs : List File) where
  -- all files end before the key: nobody
  pub candidate_none : length fs ≤ passed k fs → candidate k fs ≡ []
  unfolding candidate Option-to_list keep numbers
  candidate_none h = go (find_file k fs) refl
    where
      go : (o : Option File) → find_file k fs ≡ o → numbers (keep (λ f. not (user_before (user k) (user f.smallest))) (Option-to_list (find_file k fs))) ≡ []
      go none e = rw e
      go (some f) e = absurd (omega (arith, (found_at k fs f e).below))

  -- else the first that does not is `find_file`'s
  first_left : (d : File) → passed k fs < length fs → find_file k fs ≡ some (get_or fs (passed k fs) d)
  first_left d h = go (find_file k fs) refl
    where
      go : (o : Option File) → find_file k fs ≡ o → find_file k fs ≡ some (get_or fs (passed k fs) d)
      go (some f) e = e ∙ ap some (sym ((found_at k fs f e).at d))
      go none e =
          let a : some (passed k fs) ≡ none = sym (find_index_is k fs ∙ rw (lt-ltb (passed k fs) (length fs) h)) ∙ find_neither k fs e in
          let z : true ≡ false = cc in clash refl z

  module _ (d : File) (h : passed k fs < length fs) where
    -- its smallest user key is above the key's: nobody
    pub candidate_above : user_before (user k) (user (get_or fs (passed k fs) d).smallest) ≡ true → candidate k fs ≡ []
    unfolding candidate Option-to_list keep push numbers
    candidate_above t = rw (first_left d h, t)

    -- it is not: its number
    pub candidate_is : user_before (user k) (user (get_or fs (passed k fs) d).smallest) ≡ false → candidate k fs ≡ (get_or fs (passed k fs) d).number ∷ []
    unfolding candidate Option-to_list keep push numbers
    candidate_is t = rw (first_left d h, t)

-- ---- the numbers of the files that pass, written one after another

-- the array after i files: writing the rest gives all
pub record Laying (p : File → Bool) (n : ℕ) (files : List FileRecord) (out : List ℕ) (count i : ℕ) : Type 0 where
  pub some_of : i ≤ n
  pub fewer : count ≤ i
  pub room : length out ≡ max_files
  pub lays : put out count (turned p (run i n files)) ≡ put (replicate max_files 0) 0 (turned p (run 0 n files))
  pub counts : count + length (turned p (run i n files)) ≡ length (turned p (run 0 n files))

module _ (p : File → Bool) (n : ℕ) (files : List FileRecord) (h : n ≤ length files) where
  -- at first none is written
  pub lay_starts : Laying p n files (replicate max_files 0) 0 0
  lay_starts = record { some_of = omega arith; fewer = omega arith; room = refl; lays = refl; counts = omega arith }

  -- the file at i passes and is written
  pub lay_kept : (out : List ℕ) (count i : ℕ) → Laying p n files out count i → i < n → n ≤ max_files → p (file_of (get_or files i past)) ≡ true
      → Laying p n files (set out count (max_word - (get_or files i past).number.0)) (count + 1) (i + 1)
  unfolding flip
  lay_kept out count i l k few t =
      let x = max_word - (get_or files i past).number.0 in
      let e = turned_kept p i n files k h t in
      record {
        some_of = omega arith;
        fewer = omega (arith, l.fewer);
        room = length-set out count x ∙ l.room;
        lays = put_cons out count x (turned p (run (i + 1) n files)) (omega (arith, l.fewer, l.room)) ∙ ap (put out count) (sym e) ∙ l.lays;
        counts = omega (arith, l.counts, ap length e);
      }

  -- it does not and is left out
  pub lay_passed : (out : List ℕ) (count i : ℕ) → Laying p n files out count i → i < n → p (file_of (get_or files i past)) ≡ false → Laying p n files out count (i + 1)
  lay_passed out count i l k t =
      let e = turned_passed p i n files k h t in
      record { some_of = omega arith; fewer = omega (arith, l.fewer); room = l.room; lays = ap (put out count) (sym e) ∙ l.lays; counts = omega (arith, l.counts, ap length e) }

  -- at the end all are written
  pub lay_ends : (out : List ℕ) (count i : ℕ) → Laying p n files out count i → n ≤ i → record { numbers = out; count = count } ≡ column_of (turned p (run 0 n files))
  unfolding column_of
  lay_ends out count i l k =
      let e = turned_ended p i n files l.some_of k in
      let laid_all : out ≡ put (replicate max_files 0) 0 (turned p (run 0 n files)) = sym (ap (put out count) e ∙ put_nil out count) ∙ l.lays in
      let counted : count ≡ length (turned p (run 0 n files)) = omega (arith, l.counts, ap length e) in
      λ j. record { numbers = laid_all j; count = counted j }

  -- there are no more than places
  pub few_turned : n ≤ max_files → length (turned p (run 0 n files)) ≤ max_files
  unfolding numbers
  few_turned few =
      let kept = keep p (run 0 n files) in
      let a = length-map (map (λ (f : File). f.number) kept) flip in
      let b = length-map kept (λ (f : File). f.number) in
      omega (arith, a, b, keep_length p (run 0 n files), run_long_lem n files h)

-- reading a column of numbers
module _ (c : Column) (ns : List ℕ) (e : c ≡ column_of ns) (few : length ns ≤ max_files) where
  -- its count
  pub column_count : c.count ≡ length ns
  unfolding column_of
  column_count = ap (λ (d : Column). d.count) e

  -- its room
  pub column_room : length c.numbers ≡ max_files
  unfolding column_of
  column_room =
      let zeros : length {A = ℕ} (replicate max_files 0) ≡ max_files = refl in
      ap (λ (d : Column). length d.numbers) e ∙ length_put (replicate max_files 0) 0 ns (omega (arith, zeros))

  -- its front is the numbers
  pub column_front : take (c.count - 0) c.numbers ≡ ns
  unfolding column_of
  column_front =
      let n : c.count - 0 ≡ length ns = omega (arith, column_count) in
      rw n (front_laid (replicate max_files 0) c.numbers ns (length ns) refl (ap (λ (d : Column). d.numbers) e))

-- sorted by distance they are the lookup of level 0
pub first_is : (k : List ℕ) (fs : List File) → all small (numbers (keep (holds (user k)) fs)) ≡ true → map flip (sort ltb (turned (holds (user k)) fs)) ≡ lookup 0 fs k
unfolding lookup
first_is k fs h = falling_is (numbers (keep (holds (user k)) fs)) h

-- the file that may hold the key, by its place
module _ (k : List ℕ) (rs : List FileRecord) where
  -- the file there, unless it begins after the key
  pub candidate_at : (at : ℕ) → at ≡ passed k (map file_of rs) → at < length rs
      → cond (user_before (user k) (user (file_of (get_or rs at past)).smallest)) [] ((file_of (get_or rs at past)).number ∷ []) ≡ candidate k (map file_of rs)
  candidate_at at e h =
      let fs = map file_of rs in
      let here : get_or fs (passed k fs) (file_of past) ≡ file_of (get_or rs at past) = ap (λ (i : ℕ). get_or fs i (file_of past)) (sym e) ∙ get_or_map file_of rs at past (file_of past) h in
      let below : passed k fs < length fs = omega (arith, length-map rs file_of) in
      ap (λ (f : File). cond (user_before (user k) (user f.smallest)) [] (f.number ∷ [])) (sym here) ∙ go (user_before (user k) (user (get_or fs (passed k fs) (file_of past)).smallest)) refl below
    where
      go : (t : Bool) → user_before (user k) (user (get_or (map file_of rs) (passed k (map file_of rs)) (file_of past)).smallest) ≡ t → passed k (map file_of rs) < length (map file_of rs)
          → cond (user_before (user k) (user (get_or (map file_of rs) (passed k (map file_of rs)) (file_of past)).smallest)) [] ((get_or (map file_of rs) (passed k (map file_of rs)) (file_of past)).number ∷ []) ≡ candidate k (map file_of rs)
      go true t b = rw t (sym (candidate_above k (map file_of rs) (file_of past) b t))
      go false t b = rw t (sym (candidate_is k (map file_of rs) (file_of past) b t))

  -- past the end: nobody
  pub candidate_past : (at : ℕ) → at ≡ passed k (map file_of rs) → length rs ≤ at → [] ≡ candidate k (map file_of rs)
  candidate_past at e h = sym (candidate_none k (map file_of rs) (omega (arith, length-map rs file_of)))
