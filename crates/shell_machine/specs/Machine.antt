-- What a script works on. Assumes nothing.
use Rattle.std.specs.Prelude.{ℕ, ◌≡◌, Option, Some, None, Result, Ok, Err}
use Rattle.model.specs.File.{full, fresh}
use Rattle.answers.specs.declared.Refusal.{Refusal}
use Rattle.pick_answer.specs.declared.Pick.{Pick}
use Rattle.store.specs.declared.Store.{Store}
use Rattle.store.specs.Store.{store_of}
use Rattle.shell_follow.specs.declared.Last.{Last}
use Rattle.shell_follow.specs.Following.{begun_with}
use Rattle.shell_machine.specs.declared.Machine.{Machine}

-- a fresh store with no pick, and the maximum file size that the next one takes
pub record Fresh (maximum : ℕ) (m : Machine) : Type 0 where
  pub store : m.store ≡ store_of (fresh full)
  pub maximum_is : m.maximum ≡ maximum
  pub none_yet : m.last ≡ None

-- the store that a pick leaves, on a refusal the store as it was
abbrev pub store_by : Store → Result Pick Refusal → Store
store_by s (Ok p) = p.store
store_by s (Err r) = s

-- the new pick with fresh memories, or on a refusal the last pick as it was
abbrev pub last_by : Option Last → Result Pick Refusal → Option Last
last_by l (Ok p) = Some (begun_with p.picked)
last_by l (Err r) = l
