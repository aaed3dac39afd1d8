-- What code holds of a recorded call: keys and entries as far as there is room for them. It answers alike. Assumes nothing.
use Rattle.std.specs.Prelude.{ℕ, ◌+◌, ◌-◌, cond, List, [], ◌++◌, map, leb, length, take, replicate}
use Rattle.std.proofs.Math.Option.{none}
use Rattle.model.specs.Key.{Key, trailer_bytes}
use Rattle.model.specs.File.{Profile, File}
use Rattle.model.specs.Edit.{Pointer, Deletion, Addition, Edit}

-- a key longer than the room is no good key, and nothing is held of it
unfoldable pub held_key : Profile → Key → Key
held_key p k = cond (leb (length k) (p.longest + trailer_bytes)) k []

-- a pointer
unfoldable pub held_pointer : Profile → Pointer → Pointer
held_pointer p q = record { level = q.level; key = held_key p q.key }

-- an addition
unfoldable pub held_addition : Profile → Addition → Addition
held_addition p a = record {
  level = a.level;
  file = record { number = a.file.number; size = a.file.size; smallest = held_key p a.file.smallest; largest = held_key p a.file.largest };
}

-- blank entries
abbrev pub blank_pointer : Pointer
blank_pointer = record { level = 0; key = [] }

abbrev pub blank_deletion : Deletion
blank_deletion = record { level = 0; number = 0 }

abbrev pub blank_addition : Addition
blank_addition = record { level = 0; file = record { number = 0; size = 0; smallest = []; largest = [] } }

module _ {A : Type 0} where
  -- the entries that there is room for, then blank ones, so that there are as many
  unfoldable pub held_entries : ℕ → A → List A → List A
  held_entries room blank l = take room l ++ replicate (length l - room) blank

-- an edit
unfoldable pub held_edit : Profile → Edit → Edit
held_edit p e = record {
  pointers = held_entries p.pointers blank_pointer (map (held_pointer p) e.pointers);
  deletions = held_entries p.deletions blank_deletion e.deletions;
  additions = held_entries p.additions blank_addition (map (held_addition p) e.additions);
  log = e.log;
}
