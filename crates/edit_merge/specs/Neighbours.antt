-- The collision test within a level, file by file. Assumes nothing.
use Rattle.std.specs.Prelude.{ℕ, Bool, false, not, ◌&&◌, ◌||◌, cond, [], ltb}
use Rattle.model.specs.Key.{before}
use Rattle.keys.specs.Key.{key_of, key_record}
use Rattle.keys.specs.declared.Key.{Key}
use Rattle.records.specs.declared.FileRecord.{FileRecord}
use Rattle.edit_merge.specs.declared.Seen.{Seen}

-- none have collided so far and, if it is to be tested, the last key is strictly before the file's smallest
unfoldable pub clear_of : Bool → Bool → Key → FileRecord → Bool
clear_of fits tested end f = fits && (not tested || before (key_of end) (key_of f.smallest))

-- the state at the start of a level. Files can collide above level 0
unfoldable pub level_begun : Bool → ℕ → Seen
level_begun fits level = record { end = key_record []; fits = fits; deep = ltb 0 level; follows = false; fresh = false }

-- the state after one file more. An added file is tested with the one before it, a stayer only if that one was added
unfoldable pub seen_after : Seen → FileRecord → Bool → Seen
seen_after s f added = record {
  end = f.largest;
  fits = clear_of s.fits (cond added s.follows s.fresh) s.end f;
  deep = s.deep;
  follows = s.deep;
  fresh = cond added s.deep false;
}
