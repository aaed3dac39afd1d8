-- What the words of a line read as. Assumes nothing.
use Rattle.std.specs.Prelude.{ℕ, ◌≡◌, List, length, get_or, take, Result}
use Rattle.std.proofs.Common.{refl, ap, ◌∙◌}
use Rattle.model.specs.Answer.{Answer, gives, refused}
use Rattle.model.specs.File.{State}
use Rattle.answers.specs.Outcome.{result_of}
use Rattle.answers.specs.declared.Refusal.{Refusal}
use Rattle.store.specs.declared.Store.{Store}
use Rattle.store.specs.Store.{store_of, leaves, stored}
use Rattle.script_words.specs.declared.NumberWord.{NumberWord}
use Rattle.script_words.specs.Words.{word_of, number_word, hex_bytes}
use Rattle.script_parts.specs.declared.Parts.{Parts}
use Rattle.script_parts.specs.declared.Run.{Run}
use Rattle.script_parts.specs.Parts.{words_of, run_of}
use Rattle.shell_edit.specs.declared.Changed.{Changed}
use Rattle.shell_edit.specs.Changes.{told_by, counted_by, read_of, set_by, count_by, word_at, number_at, bytes_in}

module _ (line : List ℕ) (w : Parts) (e : w ≡ words_of line) where
  -- a number
  pub number_is : (i : ℕ) (n : NumberWord) → n ≡ number_word (word_of line (run_of line w i).from (run_of line w i).to) → n.value ≡ number_at line i
  number_is i n h = ap (λ (x : NumberWord). x.value) h ∙ ap (λ (p : Parts). (number_word (word_of line (run_of line p i).from (run_of line p i).to)).value) e

  -- a run
  pub run_is : (i : ℕ) (r : Run) → r ≡ run_of line w i → r ≡ word_at line i
  run_is i r h = h ∙ ap (λ (p : Parts). run_of line p i) e

-- what the shell keeps after a call is the store that the call leaves: of an accepted one that of the new state, of a refused one the store before it
module _ (s : Store) (a : Answer State) where
  -- the store after a call that is told by `ok`
  pub told_leaves : (told_by s (stored a)).store ≡ leaves s a
  unfolding stored result_of leaves
  told_leaves = go a
    where
      go : (x : Answer State) → (told_by s (result_of store_of x)).store ≡ leaves s x
      go (gives t) = refl
      go (refused n) = refl

  -- the store after one that is told by the next file number
  pub counted_leaves : (counted_by s (stored a)).store ≡ leaves s a
  unfolding stored result_of leaves
  counted_leaves = go a
    where
      go : (x : Answer State) → (counted_by s (result_of store_of x)).store ≡ leaves s x
      go (gives t) = refl
      go (refused n) = refl

-- a number given back or marked, of the line's number
pub count_is : (s : Store) (line : List ℕ) (which n : ℕ) (r : Result Store Refusal) (x : Changed) → n ≡ number_at line 1 → r ≡ count_by s which n → x ≡ counted_by s r
    → x ≡ counted_by s (count_by s which (number_at line 1))
count_is s line which n r x h p q = q ∙ ap (counted_by s) (p ∙ ap (count_by s which) h)

-- a counter set, of the line's name and number
pub set_is : (s : Store) (line : List ℕ) (run : Run) (mark n : ℕ) (r : Result Store Refusal) (x : Changed) → run ≡ word_at line 1 → mark ≡ get_or line run.from 0 → n ≡ number_at line 2
    → r ≡ set_by s mark n → x ≡ told_by s r → x ≡ told_by s (set_by s (get_or line (word_at line 1).from 0) (number_at line 2))
set_is s line run mark n r x h k m p q =
    let name : mark ≡ get_or line (word_at line 1).from 0 = k ∙ ap (λ (y : Run). get_or line y.from 0) h in
    q ∙ ap (told_by s) (p ∙ ap (λ (y : ℕ). set_by s y n) name ∙ ap (set_by s (get_or line (word_at line 1).from 0)) m)

-- a snapshot read, of the line's bytes
pub load_is : (s : Store) (line : List ℕ) (run : Run) (r : Result Store Refusal) (x : Changed) → run ≡ word_at line 1 → r ≡ read_of (bytes_in line run.from run.to) → x ≡ told_by s r
    → x ≡ told_by s (read_of (bytes_in line (word_at line 1).from (word_at line 1).to))
load_is s line run r x h p q = q ∙ ap (told_by s) (p ∙ ap (λ (y : Run). read_of (bytes_in line y.from y.to)) h)

-- bytes that fill the shell's room
pub bytes_are : (line : List ℕ) (from to n : ℕ) (room : List ℕ) → length room ≡ 65536 → take n room ≡ take (length room) (hex_bytes line from to) → take n room ≡ bytes_in line from to
unfolding bytes_in
bytes_are line from to n room h e = e ∙ ap (λ (k : ℕ). take k (hex_bytes line from to)) h
