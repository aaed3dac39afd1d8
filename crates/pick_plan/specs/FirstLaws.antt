-- Laws of the loop that looks for the first file after a key: the places that are left give the same answer, and are fewer at each turn. Assumes nothing.
use Rattle.std.specs.Prelude.{◌-◌, ◌≤◌, ◌<◌, ◌≡◌, refl, Bool, List, length, get_or}
use Rattle.std.proofs.Common.{sym, ◌∙◌, arith}
use Rattle.std.proofs.Math.Bool.{true, false}
use Rattle.model.specs.File.{max_files}
use Rattle.model.specs.Key.{Key, before}
use Rattle.keys.specs.Key.{key_of}
use Rattle.records.specs.Record.{past}
use Rattle.records.specs.declared.FileRecord.{FileRecord}
use Rattle.bisect.specs.declared.Window.{Window}
use Rattle.pick_plan.specs.Starts.{nearer_by, first_after}
use Rattle.pick_plan.specs.StartLaws.{after_nearer, after_ended}

-- the places q that are left of p are within the room and give the same answer
pub record Left (k : Key) (files : List FileRecord) (p q : Window) : Type 0 where
  pub order : q.lo ≤ q.hi
  pub room : q.hi ≤ max_files
  pub same : first_after k q files ≡ first_after k p files

-- at first all are left
pub left_all : (k : Key) (files : List FileRecord) (p : Window) → p.lo ≤ p.hi → p.hi ≤ max_files → Left k files p p
left_all k files p order room = record { order = order; room = room; same = refl }

-- after the first of them is seen
module _ (k : Key) (files : List FileRecord) (long : length files ≡ max_files) (p q : Window) (left : Left k files p q) (some : q.lo < q.hi) where
  -- the places that are left give the same answer
  pub left_nearer : (f : FileRecord) → f ≡ get_or files q.lo past → Left k files p (nearer_by q (before k (key_of f.largest)))
  unfolding nearer_by
  left_nearer f e =
      let room = left.room in
      rw e (go (before k (key_of (get_or files q.lo past).largest)) (after_nearer k q files some (omega arith) ∙ left.same))
    where
      go : (b : Bool) → first_after k (nearer_by q b) files ≡ first_after k p files → Left k files p (nearer_by q b)
      go true z = let room = left.room in record { order = omega arith; room = omega arith; same = z }
      go false z = record { order = omega arith; room = left.room; same = z }

-- they are fewer
pub fewer_left : (q : Window) (b : Bool) → q.lo < q.hi → (nearer_by q b).hi - (nearer_by q b).lo < q.hi - q.lo
unfolding nearer_by
fewer_left q true h = omega arith
fewer_left q false h = omega arith

-- if none is left, the answer is where they end
pub left_none : (k : Key) (files : List FileRecord) (p q : Window) → Left k files p q → q.hi ≤ q.lo → q.lo ≡ first_after k p files
left_none k files p q left h =
    let order = left.order in
    let end : q.lo ≡ q.hi = omega arith in
    end ∙ sym (after_ended k q files h) ∙ left.same
