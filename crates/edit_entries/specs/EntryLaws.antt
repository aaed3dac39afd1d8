-- Laws of the tests of an edit's entries: their order, and what is known of an edit that passes them. Assumes nothing.
use Rattle.std.specs.Prelude.{ℕ, ◌+◌, ◌≤◌, ◌<◌, ◌≡◌, refl, true, false, not, ◌&&◌, List, [], ◌∷◌, ◌++◌, map, ltb, leb, length, get_or, take, Result, Ok, Err}
use Rattle.std.proofs.Common.{sym, ◌∙◌, append_assoc, arith, lt-ltb, le-leb}
use Rattle.std.proofs.Math.Path.{ap}
use mathlib.Core.List.Memᴰ.{append_left as in_left}
use mathlib.Core.List.Memᴰ.{append_right as in_right}
use mathlib.Core.List.Memᴰ.{head as here}
use mathlib.Core.List.Memᴰ.{tail as there}
use Rattle.std.proofs.Math.Seq.{slice}
use Rattle.lemmas.specs.Lists.{all, join}
use Rattle.lemmas.specs.ListLaws.{both, all_in}
use Rattle.lemmas.specs.Slices.{drop_view, view_end}
use Rattle.model.specs.Answer.{Refusal, ◌⇒◌}
use Rattle.model.specs.AnswerLaws.{NoneApplies}
use Rattle.model.specs.Key.{good_key, before}
use Rattle.model.specs.File.{full, good_file, max_size}
use Rattle.model.specs.File as model_file
use Rattle.model.specs.Edit as model
use Rattle.model.specs.Edit.{too_many, bad_log, pointer_refusals, deletion_refusals, addition_refusals, entry_refusals}
use Rattle.model.proofs.EditLaws.{AdditionFits, pointers_fit, deletions_fit, additions_fit}
use Rattle.answers.specs.Outcome.{passed}
use Rattle.answers.specs.OutcomeLaws.{passed_nil, passed_here, passed_later, passed_refused, passed_done, passed_none}
use Rattle.answers.specs.declared.Refusal as code
use Rattle.answers.specs.declared.Refusal.TheVariants.{Entries, Counter}
use Rattle.edit.specs.declared.Addition.{Addition}
use Rattle.edit.specs.declared.Deletion.{Deletion}
use Rattle.edit.specs.declared.Pointing.{Pointing}
use Rattle.edit.specs.Edit.{addition_of, deletion_of, pointing_of}
use Rattle.edit.specs.EditLaws.{past_addition, past_deletion, past_pointing}
use Rattle.edit_entries.specs.Entries.{checks}

-- ---- a loop that tests entries in turn
-- a kind of entries: what a record stands for, the tests of a list of them, and the record that is read past the end
pub record Kind (A B : Type 0) : Type 0 where
  pub read : A → B
  pub tests : List B → List Refusal
  pub past : A
  pub none : tests [] ≡ []
  pub turn : (x : B) (xs : List B) → tests (x ∷ xs) ≡ tests (x ∷ []) ++ tests xs

module _ {A B : Type 0} (k : Kind A B) (count : ℕ) (l : List A) where
  -- the outcome of the tests of the first `count` entries
  abbrev pub all_tests : Result Unit code.Refusal
  all_tests = passed (k.tests (map k.read (take count l)))

  -- the outcome of the tests of those from i on
  abbrev pub tests_from : ℕ → Result Unit code.Refusal
  tests_from i = passed (k.tests (map k.read (slice i count l)))

  -- the loop's invariant: both outcomes are the same
  abbrev pub Tested : ℕ → Type 0
  Tested i = (i ≤ count) × (all_tests ≡ tests_from i)

  module _ (i : ℕ) (now : Tested i) where
    -- no entry is left
    pub entries_done : count ≤ i → Ok tt ≡ all_tests
    entries_done h = sym (now.1 ∙ ap (λ (xs : List B). passed (k.tests xs)) (view_end k.read i count l now.0 h) ∙ ap passed k.none ∙ passed_nil)

    module _ (h : i < count) (room : count ≤ length l) where
      -- the tests of the entry at i
      abbrev pub here_tests : List Refusal
      here_tests = k.tests (k.read (get_or l i k.past) ∷ [])

      -- the tests of the entries after it
      abbrev pub later_tests : List Refusal
      later_tests = k.tests (map k.read (slice (i + 1) count l))

      -- the tests from i on begin with those of the entry at i
      begins : all_tests ≡ passed (here_tests ++ later_tests)
      begins =
          now.1 ∙ ap (λ (xs : List B). passed (k.tests xs)) (drop_view k.read i count l k.past h room)
          ∙ ap passed (k.turn (k.read (get_or l i k.past)) (map k.read (slice (i + 1) count l)))

      -- the entry at i is refused: so is the edit
      pub entry_refused : (r : code.Refusal) → passed here_tests ≡ Err r → Err r ≡ all_tests
      entry_refused r q = sym (begins ∙ passed_refused later_tests here_tests r q)

      -- it is not: the entries after it decide
      pub entry_done : passed here_tests ≡ Ok tt → Tested (i + 1)
      entry_done q = (omega arith, begins ∙ passed_done later_tests here_tests q)

-- ---- the three kinds
-- no pointer, no test
pub pointings_none : pointer_refusals full [] ≡ []
unfolding pointer_refusals
pointings_none = refl

-- the tests of pointers are those of each pointer in turn
pub pointings_turn : (x : model.Pointer) (xs : List model.Pointer) → pointer_refusals full (x ∷ xs) ≡ pointer_refusals full (x ∷ []) ++ pointer_refusals full xs
unfolding pointer_refusals
pointings_turn x xs = refl

-- pointers as a kind of entries
abbrev pub pointings : Kind Pointing model.Pointer
pointings = record { read = pointing_of; tests = pointer_refusals full; past = past_pointing; none = pointings_none; turn = pointings_turn }

-- no deletion, no test
pub deletions_none : deletion_refusals full [] ≡ []
unfolding deletion_refusals
deletions_none = refl

-- the tests of deletions are those of each deletion in turn
pub deletions_turn : (x : model.Deletion) (xs : List model.Deletion) → deletion_refusals full (x ∷ xs) ≡ deletion_refusals full (x ∷ []) ++ deletion_refusals full xs
unfolding deletion_refusals
deletions_turn x xs = refl

-- deletions as a kind of entries
abbrev pub deletions : Kind Deletion model.Deletion
deletions = record { read = deletion_of; tests = deletion_refusals full; past = past_deletion; none = deletions_none; turn = deletions_turn }

-- no addition, no test
pub additions_none : addition_refusals full [] ≡ []
unfolding addition_refusals
additions_none = refl

-- the tests of additions are those of each addition in turn
pub additions_turn : (x : model.Addition) (xs : List model.Addition) → addition_refusals full (x ∷ xs) ≡ addition_refusals full (x ∷ []) ++ addition_refusals full xs
unfolding addition_refusals
additions_turn x xs = refl

-- additions as a kind of entries
abbrev pub additions : Kind Addition model.Addition
additions = record { read = addition_of; tests = addition_refusals full; past = past_addition; none = additions_none; turn = additions_turn }

-- the tests of entries of a kind, one entry after another, are those of all
pub each_in_turn : {A B : Type 0} (k : Kind A B) (l : List A) → join (map (λ (x : A). k.tests (k.read x ∷ [])) l) ≡ k.tests (map k.read l)
unfolding join
each_in_turn k [] = sym k.none
each_in_turn k (x ∷ xs) = ap (λ (rs : List Refusal). k.tests (k.read x ∷ []) ++ rs) (each_in_turn k xs) ∙ sym (k.turn (k.read x) (map k.read xs))

-- ---- the tests of an edit, in their order
module _ (c : model_file.Counters) (e : model.Edit) where
  -- too many entries: 3
  pub checks_many : too_many full e ≡ true → passed (checks c e) ≡ Err Entries
  unfolding checks
  checks_many h = passed_here (too_many full e) 3 ((bad_log c e.log ⇒ 9) ∷ entry_refusals full e) h

  module _ (few : too_many full e ≡ false) where
    -- then a bad log number: 9
    pub checks_log : bad_log c e.log ≡ true → passed (checks c e) ≡ Err Counter
    unfolding checks
    checks_log h =
        passed_later (too_many full e) 3 ((bad_log c e.log ⇒ 9) ∷ entry_refusals full e) few ∙ passed_here (bad_log c e.log) 9 (entry_refusals full e) h

    -- then the pointers, the deletions and the additions
    pub checks_entries : bad_log c e.log ≡ false
        → passed (checks c e) ≡ passed (pointer_refusals full e.pointers ++ (deletion_refusals full e.deletions ++ addition_refusals full e.additions))
    unfolding checks entry_refusals
    checks_entries h =
        passed_later (too_many full e) 3 ((bad_log c e.log ⇒ 9) ∷ entry_refusals full e) few
        ∙ passed_later (bad_log c e.log) 9 (entry_refusals full e) h
        ∙ ap passed (append_assoc (pointer_refusals full e.pointers) (deletion_refusals full e.deletions) (addition_refusals full e.additions))

-- ---- what is known of an edit that passes the tests
-- no test applies, by the numbers of the refusals
pub record Checked (c : model_file.Counters) (e : model.Edit) : Type 0 where
  -- 3
  pub few : too_many full e ≡ false
  -- 9
  pub log : bad_log c e.log ≡ false
  -- 1 and 2 of pointers
  pub pointer_levels : all (λ q. ltb q.level full.levels) e.pointers ≡ true
  pub pointer_keys : all (λ q. good_key full.longest q.key) e.pointers ≡ true
  -- 1 of deletions
  pub deletion_levels : all (λ d. ltb d.level full.levels) e.deletions ≡ true
  -- 1 of additions, and 2, 4, 5 of them
  pub addition_levels : all (λ a. ltb a.level full.levels) e.additions ≡ true
  pub files : all (λ a. good_file full a.file) e.additions ≡ true

-- the file of an addition to which no refusal applies is good
fits_file : (a : model.Addition) → AdditionFits full a → good_file full a.file ≡ true
unfolding good_file
fits_file a f =
    let s = good_key full.longest a.file.smallest in
    let t = good_key full.longest a.file.largest in
    let o = not (before a.file.largest a.file.smallest) in
    both (s && t && o) (leb a.file.size max_size) (both (s && t) o (both s t f.smallest f.largest) (rw f.order)) (le-leb a.file.size max_size f.size)

-- if the tests are passed, each of them is
pub checks_say : (c : model_file.Counters) (e : model.Edit) → passed (checks c e) ≡ Ok tt → Checked c e
unfolding checks entry_refusals ◌⇒◌
checks_say c e h =
    let none = passed_none (checks c e) h in
    let ps = pointer_refusals full e.pointers in
    let ds = deletion_refusals full e.deletions in
    let xs = addition_refusals full e.additions in
    let at : NoneApplies (entry_refusals full e) = λ r m. none r (there (there m)) in
    let pointers = (pointers_fit full e.pointers).0 (λ r m. at r (in_left xs (in_left ds m))) in
    let deletions = (deletions_fit full e.deletions).0 (λ r m. at r (in_left xs (in_right ps m))) in
    let additions = (additions_fit full e.additions).0 (λ r m. at r (in_right (ps ++ ds) m)) in
    record {
      few = none (too_many full e ⇒ 3) (here refl);
      log = none (bad_log c e.log ⇒ 9) (there (here refl));
      pointer_levels = (all_in (λ q. ltb q.level full.levels) e.pointers).1 (λ q m. lt-ltb q.level full.levels (pointers q m).level);
      pointer_keys = (all_in (λ q. good_key full.longest q.key) e.pointers).1 (λ q m. (pointers q m).key);
      deletion_levels = (all_in (λ d. ltb d.level full.levels) e.deletions).1 (λ d m. lt-ltb d.level full.levels (deletions d m).level);
      addition_levels = (all_in (λ a. ltb a.level full.levels) e.additions).1 (λ a m. lt-ltb a.level full.levels (additions a m).level);
      files = (all_in (λ a. good_file full a.file) e.additions).1 (λ a m. fits_file a (additions a m));
    }
