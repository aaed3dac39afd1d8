-- Laws of a step on lent memory: one that is refused or done, and any two outcomes are equal. Assumes nothing.
use Rattle.std.specs.Prelude.{Bool, Result, Ok, Err}
use Rattle.std.proofs.Math.Path.{◌≡◌}
use Rattle.std.proofs.Common.{sym, ◌∙◌}
use Rattle.model.specs.Answer.{Answer, gives, refused}
use Rattle.model.specs.Question as model
use Rattle.answers.specs.declared.Refusal.{Refusal}
use Rattle.answers.specs.Outcome.{result_of}
use Rattle.keys.specs.declared.Key.{Key}
use Rattle.pick_answer.specs.declared.Picked.{Picked}
use Rattle.compact_cutter.specs.declared.Cutter.{Cutter}
use Rattle.compact_cutter.specs.declared.Cut.{Cut}
use Rattle.compact_cutter.specs.Cutter.{cut_record, stopping, cut_by, left_by}
use Rattle.compact_cutter.specs.CutterLaws.{step_leaves}
use Rattle.compact_cutter_lent.specs.Stopping.{told_of, Stops}

module _ (c : Picked) (m : Cutter) (k : Key) where
  -- a step that is refused
  pub stops_refused : (r : Refusal) → cut_by (stopping c m k) ≡ Err r → Stops c m k (Err r) m
  unfolding told_of left_by cut_by result_of
  stops_refused r e = record { answer = told (stopping c m k) e; memory = left (stopping c m k) e }
    where
      told : (a : Answer model.Cut) → cut_by a ≡ Err r → ◌≡◌ {A = Result Bool Refusal} (Err r) (told_of a)
      told (gives y) q = cc
      told (refused n) q = cc

      left : (a : Answer model.Cut) → cut_by a ≡ Err r → m ≡ left_by m a
      left (gives y) q = cc
      left (refused n) q = cc

  -- a step that is done
  pub stops_done : (x : Cut) → cut_by (stopping c m k) ≡ Ok x → Stops c m k (Ok x.cut) x.memory
  unfolding told_of cut_by cut_record result_of
  stops_done x e = record { answer = go (stopping c m k) e; memory = step_leaves m (stopping c m k) x e }
    where
      go : (a : Answer model.Cut) → cut_by a ≡ Ok x → Ok x.cut ≡ told_of a
      go (gives y) q = cc
      go (refused n) q = cc

-- any two outcomes of a call on lent memory are equal
pub stops_one : (c : Picked) (m : Cutter) (k : Key) (s t : Result Bool Refusal) (a b : Cutter) → Stops c m k s a → Stops c m k t b → (s ≡ t) × (a ≡ b)
stops_one c m k s t a b p q = (p.answer ∙ sym q.answer, p.memory ∙ sym q.memory)
