-- The memory of the model that the cutter's record stands for, and the answer of a step. Assumes nothing.
use Rattle.std.specs.Prelude.{ℕ, ◌+◌, Bool, true, cond, List, ltb, take, drop, Result}
use Rattle.model.specs.Answer.{Answer, gives, refused}
use Rattle.model.specs.Key as model_key
use Rattle.model.specs.File.{File, full, total}
use Rattle.model.specs.Question as model
use Rattle.model.specs.Question.{passed}
use Rattle.model.specs.Calls as calls
use Rattle.answers.specs.Outcome.{result_of}
use Rattle.answers.specs.declared.Refusal.{Refusal}
use Rattle.keys.specs.Key.{key_of}
use Rattle.keys.specs.declared.Key.{Key}
use Rattle.pick_answer.specs.declared.Picked.{Picked}
use Rattle.pick_answer.specs.Picked.{picked_of, on_picked}
use Rattle.compact_cutter.specs.declared.Cutter.{Cutter}
use Rattle.compact_cutter.specs.declared.Cut.{Cut}
use Rattle.compact_cutter.specs.declared.Passing.{Passing}

-- the memory that a record stands for
unfoldable pub cutter_of : Cutter → model.Cutter
cutter_of m = record { seen = m.seen; place = m.place; count = m.count }

-- the record of a memory
unfoldable pub cutter_record : model.Cutter → Cutter
cutter_record m = record { seen = m.seen; place = m.place; count = m.count }

-- the memory is well-formed for this picked answer
unfoldable pub good_memory : Picked → Cutter → Bool
good_memory c m = calls.good_cutter (picked_of c) (cutter_of m)

-- the answer of should_stop_before: 14 for a picked answer or a memory that is not well-formed, 2 for a bad key, else whether to cut and the memory after the key
unfoldable pub stopping : Picked → Cutter → Key → Answer model.Cut
stopping c m k = on_picked c (λ p. calls.should_stop full p (cutter_of m) (key_of k))

-- the record of a step's answer: whether to cut, and the memory after the key
unfoldable pub cut_record : model.Cut → Cut
cut_record x = record { cut = x.answer; memory = cutter_record x.memory }

-- the result of a step
unfoldable pub cut_by : Answer model.Cut → Result Cut Refusal
cut_by a = result_of cut_record a

-- the memory that a step leaves: the one after the key, unchanged if the step is refused
unfoldable pub left_by : Cutter → Answer model.Cut → Cutter
left_by m (gives x) = cutter_record x.memory
left_by m (refused n) = m

-- the place after a key and the bytes that it passes: from this place on, the grandparents at the front whose largest is before the key
unfoldable pub passing_from : ℕ → List File → model_key.Key → Passing
passing_from place gs k = record { place = place + passed k (drop place gs); bytes = total (take (passed k (drop place gs)) (drop place gs)) }

-- the count with the bytes passed, unless the key is the first
unfoldable pub counted_with : Cutter → ℕ → ℕ
counted_with m bytes = m.count + cond m.seen bytes 0

-- the cut after these grandparents are passed: if the count is above the most, it becomes 0 and the answer is yes
unfoldable pub cut_after : Cutter → ℕ → Passing → Cut
cut_after m most p = record {
  cut = ltb most (counted_with m p.bytes);
  memory = record { seen = true; place = p.place; count = cond (ltb most (counted_with m p.bytes)) 0 (counted_with m p.bytes) };
}
