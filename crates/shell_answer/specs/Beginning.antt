-- What is known of a line before a store is asked. Assumes nothing.
use Rattle.std.specs.Prelude.{ℕ}
use Rattle.shell_answer.specs.declared.Begun.{Begun}
use Rattle.shell_answer.specs.declared.Begun.TheVariants.{Silent, Laid, Asks, Turns}

-- where the answer that is laid ends, 0 if none is
abbrev pub end_of : Begun → ℕ
end_of Silent = 0
end_of (Laid at) = at
end_of (Asks c) = 0
end_of (Turns c) = 0
