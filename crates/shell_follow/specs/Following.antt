-- The last pick with its memories. Assumes nothing.
use Rattle.std.specs.Prelude.{◌≡◌, Option, Some, None}
use Rattle.std.proofs.Math.Option as math
use Rattle.model.specs.Question.{fresh_cutter}
use Rattle.pick_answer.specs.declared.Picked.{Picked}
use Rattle.compact_cutter.specs.Cutter.{cutter_record}
use Rattle.compact_base.specs.Base.{asked_record}
use Rattle.shell_follow.specs.declared.Last.{Last}

-- a pick with fresh memories
abbrev pub begun_with : Picked → Last
begun_with c = record { picked = c; cutter = cutter_record fresh_cutter; asked = asked_record math.none }

-- the picked answer of the last pick, if there is one
abbrev pub picked_in : Option Last → Option Picked
picked_in (Some l) = Some l.picked
picked_in None = None

-- only memories have changed
pub record Stays (p q : Option Last) : Type 0 where
  pub picked : picked_in q ≡ picked_in p
