-- The edit of the model that an edit by value stands for. Assumes nothing.
use Rattle.std.specs.Prelude.{ℕ, ◌+◌, ◌-◌, cond, List, [], map, ◌++◌, ltb, take, set, replicate, Option, Some, None}
use Rattle.std.proofs.Math.Option as math
use Rattle.model.specs.File.{max_additions, max_deletions, max_pointers, max_word}
use Rattle.model.specs.Edit as model
use Rattle.keys.specs.Key.{key_of, key_record}
use Rattle.edit.specs.declared.Deletion.{Deletion}
use Rattle.edit.specs.declared.Addition.{Addition}
use Rattle.edit.specs.declared.Pointing.{Pointing}
use Rattle.keys.specs.declared.FileNumber.{FileNumber}
use Rattle.edit.specs.declared.Edit.{Edit}

-- the entries that a count names: those of the array, and for a count beyond the room blank ones more, so that the edit has too many
unfoldable pub entries : {A : Type 0} → ℕ → A → ℕ → List A → List A
entries room blank count l = take count l ++ replicate (count - room) blank

-- the blank deletion, which an empty edit has in each place
unfoldable pub blank_deletion : Deletion
blank_deletion = record { level = 0; number = record { 0 = 0 } }

-- the blank addition
unfoldable pub blank_addition : Addition
blank_addition = record { level = 0; number = record { 0 = 0 }; size = 0; smallest = key_record []; largest = key_record [] }

-- the blank pointer
unfoldable pub blank_pointing : Pointing
blank_pointing = record { level = 0; key = key_record [] }

-- the deletion that a record stands for
unfoldable pub deletion_of : Deletion → model.Deletion
deletion_of d = record { level = d.level; number = d.number.0 }

-- the addition that a record stands for
unfoldable pub addition_of : Addition → model.Addition
addition_of a = record { level = a.level; file = record { number = a.number.0; size = a.size; smallest = key_of a.smallest; largest = key_of a.largest } }

-- the pointer that a record stands for
unfoldable pub pointing_of : Pointing → model.Pointer
pointing_of p = record { level = p.level; key = key_of p.key }

-- the log number that an edit names, if any
unfoldable pub log_of : Option FileNumber → math.Option ℕ
log_of None = math.none
log_of (Some n) = math.some n.0

-- the edit that a record stands for
unfoldable pub edit_of : Edit → model.Edit
edit_of e = record {
  pointers = map pointing_of (entries max_pointers blank_pointing e.pointing_count e.pointings);
  deletions = map deletion_of (entries max_deletions blank_deletion e.deletion_count e.deletions);
  additions = map addition_of (entries max_additions blank_addition e.addition_count e.additions);
  log = log_of e.log;
}

-- the edit with no entry and no log number
unfoldable pub empty_record : Edit
empty_record = record {
  pointings = replicate max_pointers blank_pointing;
  pointing_count = 0;
  deletions = replicate max_deletions blank_deletion;
  deletion_count = 0;
  additions = replicate max_additions blank_addition;
  addition_count = 0;
  log = None;
}

-- one more than a count. At the largest number it stays
unfoldable pub one_more : ℕ → ℕ
one_more n = cond (ltb n max_word) (n + 1) n

-- one deletion more. If the array is full only the count grows
unfoldable pub with_deletion : Edit → Deletion → Edit
with_deletion e d = record {
  pointings = e.pointings;
  pointing_count = e.pointing_count;
  deletions = set e.deletions e.deletion_count d;
  deletion_count = one_more e.deletion_count;
  additions = e.additions;
  addition_count = e.addition_count;
  log = e.log;
}

-- one addition more. If the array is full only the count grows
unfoldable pub with_addition : Edit → Addition → Edit
with_addition e a = record {
  pointings = e.pointings;
  pointing_count = e.pointing_count;
  deletions = e.deletions;
  deletion_count = e.deletion_count;
  additions = set e.additions e.addition_count a;
  addition_count = one_more e.addition_count;
  log = e.log;
}

-- one pointer more. If the array is full only the count grows
unfoldable pub with_pointing : Edit → Pointing → Edit
with_pointing e p = record {
  pointings = set e.pointings e.pointing_count p;
  pointing_count = one_more e.pointing_count;
  deletions = e.deletions;
  deletion_count = e.deletion_count;
  additions = e.additions;
  addition_count = e.addition_count;
  log = e.log;
}

-- the same edit with another log number, or none
unfoldable pub with_log : Edit → Option FileNumber → Edit
with_log e n = record {
  pointings = e.pointings;
  pointing_count = e.pointing_count;
  deletions = e.deletions;
  deletion_count = e.deletion_count;
  additions = e.additions;
  addition_count = e.addition_count;
  log = n;
}
