-- The edit that the items of a line are: what each reads as, added one after another. Assumes nothing.
use Rattle.std.specs.Prelude.{ℕ, zero, suc, ◌+◌, cond, List, ltb, eqb, length, get_or, Option, Some}
use Rattle.keys.specs.declared.FileNumber.{FileNumber}
use Rattle.keys.specs.declared.Key.{Key}
use Rattle.edit.specs.declared.Edit.{Edit}
use Rattle.edit.specs.declared.Deletion.{Deletion}
use Rattle.edit.specs.declared.Addition.{Addition}
use Rattle.edit.specs.declared.Pointing.{Pointing}
use Rattle.edit.specs.Edit.{empty_record, with_deletion, with_addition, with_pointing, with_log}
use Rattle.script_words.specs.Words.{word_of, number_word, internal_key}
use Rattle.script_parts.specs.declared.Parts.{Parts}
use Rattle.script_parts.specs.Parts.{words_of, next_end, run_of}

-- the number that part i is; 0 for what is none
abbrev pub number_at : List ℕ → Parts → ℕ → ℕ
number_at line p i = (number_word (word_of line (run_of line p i).from (run_of line p i).to)).value

-- the key that part i is; no bytes for what is none
abbrev pub key_at : List ℕ → Parts → ℕ → Key
key_at line p i = (internal_key line (run_of line p i).from (run_of line p i).to).key

-- d,L,N
abbrev pub deletion_of : List ℕ → Parts → Deletion
deletion_of line p = record { level = number_at line p 1; number = record { 0 = number_at line p 2 } }

-- p,L,IKEY
abbrev pub pointing_of : List ℕ → Parts → Pointing
pointing_of line p = record { level = number_at line p 1; key = key_at line p 2 }

-- a,L,N,SIZE,SMALLEST,LARGEST
abbrev pub addition_of : List ℕ → Parts → Addition
addition_of line p =
    record {
      level = number_at line p 1;
      number = record { 0 = number_at line p 2 };
      size = number_at line p 3;
      smallest = key_at line p 4;
      largest = key_at line p 5;
    }

-- l,N
abbrev pub log_of : List ℕ → Parts → Option FileNumber
log_of line p = Some (record { 0 = number_at line p 1 })

-- the parts of an item: a comma between two
abbrev pub item_parts : ℕ → ℕ → Parts
item_parts from to = record { from = from; to = to; mark = 44 }

-- the edit with the item of a run more, by its first byte: a, d, p, or else a log number
unfoldable pub item_of : List ℕ → Edit → ℕ → ℕ → Edit
item_of line e from to =
    cond (eqb (get_or line from 0) 97) (with_addition e (addition_of line (item_parts from to)))
    (cond (eqb (get_or line from 0) 100) (with_deletion e (deletion_of line (item_parts from to)))
    (cond (eqb (get_or line from 0) 112) (with_pointing e (pointing_of line (item_parts from to)))
    (with_log e (log_of line (item_parts from to)))))

-- the edit with the words after a place more, where the word before them ends; at most so many words
unfoldable pub items_after : ℕ → List ℕ → Edit → ℕ → Edit
items_after zero line e at = e
items_after (suc k) line e at =
    cond (ltb at (length line))
    (items_after k line (item_of line e (at + 1) (next_end line (words_of line) (at + 1))) (next_end line (words_of line) (at + 1)))
    e

-- the edit of the words after the first; a line has no more words than bytes
unfoldable pub edit_of_line : List ℕ → Edit
edit_of_line line = items_after (length line) line empty_record (next_end line (words_of line) 0)
