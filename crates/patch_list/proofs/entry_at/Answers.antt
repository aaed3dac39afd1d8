-- `entry_at` meets its contract. Assumes nothing.
use Rattle.patch_list.specs.Entries.{entry_in}
use Rattle.patch_list.proofs.entry_at.Goals as goal

pub returns-in-Files : goal.returns-in-Files
unfolding entry_in
returns-in-Files c = rw c.in-Files.is c.file_entry.ensures

pub returns-in-Pointers : goal.returns-in-Pointers
unfolding entry_in
returns-in-Pointers c = rw c.in-Pointers.is c.pointer_entry.ensures

pub returns-in-Counters : goal.returns-in-Counters
unfolding entry_in
returns-in-Counters c = rw c.in-Counters.is c.counter_entry.ensures
