-- The parts of a text: a run of a line with a mark between two parts. Assumes nothing.
use Rattle.std.specs.Prelude.{ℕ, zero, suc, ◌+◌, cond, List, ltb, length}
use Rattle.lemmas.specs.Loops.{before_first}
use Rattle.script_words.specs.Words.{word_of, is_byte}
use Rattle.script_parts.specs.declared.Parts.{Parts}
use Rattle.script_parts.specs.declared.Run.{Run}

-- the words of a line: all of it, one blank between two
abbrev pub words_of : List ℕ → Parts
words_of line = record { from = 0; to = length line; mark = 32 }

-- where the part that begins at a place ends: at the next mark, or where the text ends
abbrev pub next_end : List ℕ → Parts → ℕ → ℕ
next_end line p from = from + before_first (is_byte p.mark) (word_of line from p.to)

-- where the part after one that ends at a place begins: past the mark; where there is none, where the text ends
unfoldable pub start_after : Parts → ℕ → ℕ
start_after p end = cond (ltb end p.to) (end + 1) p.to

-- where part i ends, counted from 0
unfoldable pub part_end : List ℕ → Parts → ℕ → ℕ
part_end line p zero = next_end line p p.from
part_end line p (suc i) = next_end line p (start_after p (part_end line p i))

-- where part i begins, counted from 0
unfoldable pub part_start : List ℕ → Parts → ℕ → ℕ
part_start line p zero = p.from
part_start line p (suc i) = start_after p (part_end line p i)

-- the run of part i, counted from 0; no bytes at the text's end where there is none
unfoldable pub run_of : List ℕ → Parts → ℕ → Run
run_of line p i = record { from = part_start line p i; to = part_end line p i }
