-- The range that a line names, from what the code has read. Assumes nothing.
use Rattle.std.specs.Prelude.{ℕ, ◌≡◌, List}
use Rattle.model.specs.File.{full}
use Rattle.model.specs.Pick as model
use Rattle.keys.specs.Key.{key_of}
use Rattle.store.specs.declared.Store.{Store}
use Rattle.store.specs.Store.{on_store}
use Rattle.pick_answer.specs.Picked.{pick_of}
use Rattle.script_words.specs.declared.NumberWord.{NumberWord}
use Rattle.script_words.specs.declared.KeyWord.{KeyWord}
use Rattle.script_words.specs.Words.{word_of, number_word, internal_key}
use Rattle.script_parts.specs.declared.Parts.{Parts}
use Rattle.script_parts.specs.Parts.{words_of, run_of}
use Rattle.shell_machine.specs.Picking.{range_pick}

-- its words read as the level and the two keys
pub range_is : (s : Store) (maximum : ℕ) (line : List ℕ) (w : Parts) (l : NumberWord) (a b : KeyWord) → w ≡ words_of line
    → l ≡ number_word (word_of line (run_of line w 1).from (run_of line w 1).to) → a ≡ internal_key line (run_of line w 2).from (run_of line w 2).to
    → b ≡ internal_key line (run_of line w 3).from (run_of line w 3).to
    → pick_of (on_store s (λ t. model.manual_pick full t maximum l.value (key_of a.key) (key_of b.key))) ≡ range_pick s maximum line
unfolding range_pick
range_is s maximum line w l a b p q r t = rw (q, r, t, p)
