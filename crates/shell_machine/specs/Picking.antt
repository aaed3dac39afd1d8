-- The pick that a line asks for. Assumes nothing.
use Rattle.std.specs.Prelude.{ℕ, cond, List, eqb, Result}
use Rattle.model.specs.File.{full}
use Rattle.model.specs.Pick as model
use Rattle.answers.specs.declared.Refusal.{Refusal}
use Rattle.keys.specs.Key.{key_of}
use Rattle.store.specs.declared.Store.{Store}
use Rattle.store.specs.Store.{on_store}
use Rattle.pick_answer.specs.declared.Pick.{Pick}
use Rattle.pick_answer.specs.Picked.{pick_of}
use Rattle.script_words.specs.Words.{word_of, number_word, internal_key}
use Rattle.script_parts.specs.declared.Run.{Run}
use Rattle.script_parts.specs.Parts.{words_of, run_of}

-- word i of a line, the command's name being word 0
abbrev pub word_at : List ℕ → ℕ → Run
word_at line i = run_of line (words_of line) i

-- a pick by size
unfoldable pub size_pick : Store → ℕ → Result Pick Refusal
size_pick s maximum = pick_of (on_store s (λ t. model.size_pick full t maximum))

-- a pick of the range that a line names: its level and its two keys
unfoldable pub range_pick : Store → ℕ → List ℕ → Result Pick Refusal
range_pick s maximum line =
    pick_of (on_store s (λ t. model.manual_pick full t maximum
    (number_word (word_of line (word_at line 1).from (word_at line 1).to)).value
    (key_of (internal_key line (word_at line 2).from (word_at line 2).to).key)
    (key_of (internal_key line (word_at line 3).from (word_at line 3).to).key)))

-- the maximum file size that a line names: its first word after the command's name
abbrev pub named_maximum : List ℕ → ℕ
named_maximum line = (number_word (word_of line (word_at line 1).from (word_at line 1).to)).value

-- p: by size; any other letter: of a range
unfoldable pub picked_by : Store → ℕ → List ℕ → ℕ → Result Pick Refusal
picked_by s maximum line which = cond (eqb which 112) (size_pick s maximum) (range_pick s maximum line)
