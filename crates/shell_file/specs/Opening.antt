-- The store after a file is opened. Assumes nothing.
use Rattle.std.specs.Prelude.{ℕ, ◌≡◌, ◌⊎◌, List}
use Rattle.store.specs.declared.Store.{Store}
use Rattle.shell_edit.specs.Changes.{read_of, told_by}

-- it is the store before, or what loading some bytes leaves: those of the file, which no contract knows
abbrev pub Left : Store → Store → Type 0
Left s t = (t ≡ s) ⊎ ((bytes : List ℕ) × (t ≡ (told_by s (read_of bytes)).store))
