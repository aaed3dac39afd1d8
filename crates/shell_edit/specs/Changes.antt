-- The commands that change the store and no pick: the store that each leaves, and what is said of it. Assumes nothing.
use Rattle.std.specs.Prelude.{ℕ, cond, List, eqb, get_or, take, Result, Ok, Err}
use Rattle.model.specs.File.{full}
use Rattle.model.specs.Edit as edits
use Rattle.model.specs.Counters as counts
use Rattle.model.specs.Calls as calls
use Rattle.answers.specs.declared.Refusal.{Refusal}
use Rattle.store.specs.declared.Store.{Store}
use Rattle.store.specs.Store.{on_store, stored}
use Rattle.store_numbers.specs.declared.Handed.{Handed}
use Rattle.store_numbers.specs.Numbering.{handed}
use Rattle.edit.specs.Edit.{edit_of}
use Rattle.script_words.specs.Words.{word_of, number_word, hex_bytes}
use Rattle.script_parts.specs.declared.Run.{Run}
use Rattle.script_parts.specs.Parts.{words_of, run_of}
use Rattle.script_edit.specs.Items.{edit_of_line}
use Rattle.shell_reply.specs.declared.Said.TheVariants.{Agreed, Number, Next, Denied}
use Rattle.shell_edit.specs.declared.Changed.{Changed}

-- after a refused call: the store before it, and the refusal
abbrev pub refused_by : Store → Refusal → Changed
refused_by s r = record { store = s; said = Denied r }

-- the store after a call on one, and `ok` or the refusal
abbrev pub told_by : Store → Result Store Refusal → Changed
told_by s (Ok t) = record { store = t; said = Agreed }
told_by s (Err r) = refused_by s r

-- the store after a call on one, and its next file number or the refusal
abbrev pub counted_by : Store → Result Store Refusal → Changed
counted_by s (Ok t) = record { store = t; said = Next t.counters.next.0 }
counted_by s (Err r) = refused_by s r

-- the store after a number is handed out of one, and the number or the refusal
abbrev pub handed_by : Store → Result Handed Refusal → Changed
handed_by s (Ok h) = record { store = h.store; said = Number h.number.0 }
handed_by s (Err r) = refused_by s r

-- what bytes read as
unfoldable pub read_of : List ℕ → Result Store Refusal
read_of bytes = stored (calls.read full bytes)

-- a counter set, by the first byte of its name: s, m, or else the previous log number
unfoldable pub set_by : Store → ℕ → ℕ → Result Store Refusal
set_by s mark n =
    cond (eqb mark 115) (stored (on_store s (λ t. counts.counter full t (counts.last n))))
    (cond (eqb mark 109) (stored (on_store s (λ t. counts.counter full t (counts.manifest n))))
    (stored (on_store s (λ t. counts.counter full t (counts.previous n)))))

-- r a number given back, any other letter one marked as used
unfoldable pub count_by : Store → ℕ → ℕ → Result Store Refusal
count_by s which n =
    cond (eqb which 114) (stored (on_store s (λ t. counts.counter full t (counts.reuse n))))
    (stored (on_store s (λ t. counts.counter full t (counts.mark n))))

-- word i of a line, the command's name being word 0
abbrev pub word_at : List ℕ → ℕ → Run
word_at line i = run_of line (words_of line) i

-- the number that word i is
abbrev pub number_at : List ℕ → ℕ → ℕ
number_at line i = (number_word (word_of line (word_at line i).from (word_at line i).to)).value

-- the bytes that a run of hex digits stands for, as far as the shell has room
unfoldable pub bytes_in : List ℕ → ℕ → ℕ → List ℕ
bytes_in line from to = take 65536 (hex_bytes line from to)

-- by the command's letter: e an edit, n a new number, l a snapshot, s a counter, any other a number given back or marked
unfoldable pub changed_by : Store → List ℕ → ℕ → Changed
changed_by s line which =
    cond (eqb which 101) (told_by s (stored (on_store s (λ t. edits.edit full t (edit_of (edit_of_line line))))))
    (cond (eqb which 110) (handed_by s (handed (on_store s (calls.new_number full))))
    (cond (eqb which 108) (told_by s (read_of (bytes_in line (word_at line 1).from (word_at line 1).to)))
    (cond (eqb which 115) (told_by s (set_by s (get_or line (word_at line 1).from 0) (number_at line 2))) (counted_by s (count_by s which (number_at line 1))))))
