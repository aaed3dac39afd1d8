-- The loop of `section_at`: what is left of the section decides. Assumes nothing.
use Rattle.std.proofs.Common.{◌-◌}
use Rattle.patch_list.specs.Entries.{place_of}
use Rattle.patch_list.specs.TurnLaws.{Left}
use Rattle.patch_list.proofs.section_at.Given as goal

abbrev pub invariant-loop : goal.invariant-loop
invariant-loop l = Left (place_of l.section) l.src l.at (l.n - l.counter) l.next l.last
