-- Forms: how a value stands in bytes, how it is read back, and which values fit. Assumes nothing.
use Rattle.std.specs.Prelude.{ℕ, ◌^◌, Bool, cond, ◌&&◌, List, ◌++◌, map, ltb, length, get_or}
use Rattle.std.proofs.Math.Option.{Option, none, some}
use Rattle.lemmas.specs.Lists.{all, join}
use Rattle.lemmas.specs.Little.{bytes}
use Rattle.model.specs.Key.{Key}
use Rattle.model.specs.File.{File}
use Rattle.model.specs.Snapshot.{byte_long, number_long, write_key, write_file, Read, Reader, ◌>>=◌, give, times, read_number, read_key, read_file, same_bytes}

-- a form: what a value writes, its reader, and whether the value fits the widths
pub record Form (A : Type 0) : Type 0 where
  pub write : A → List ℕ
  pub read : Reader A
  pub fits : A → Bool

-- ---- the parts of which forms are made
-- a number of so many bytes, little-endian
unfoldable pub num : ℕ → Form ℕ
num w = record { write = bytes w; read = read_number w; fits = λ n. ltb n (256 ^ w) }

-- a length byte, then the key
unfoldable pub key_form : Form Key
key_form = record { write = write_key; read = read_key; fits = λ k. ltb (length k) (256 ^ byte_long) }

-- a file as a snapshot has it: number 8, size 8, length 1, smallest, length 1, largest
unfoldable pub file_form : Form File
file_form = record {
  write = write_file;
  read = read_file;
  fits = λ f. ltb f.number (256 ^ number_long) && ltb f.size (256 ^ number_long) && ltb (length f.smallest) (256 ^ byte_long) && ltb (length f.largest) (256 ^ byte_long);
}

module _ {A B : Type 0} where
  -- a reader's value in another shape
  unfoldable pub got : (A → B) → Reader A → Reader B
  got g r = r >>= λ a. give (g a)

module _ {A B : Type 0} where
  -- one after another
  unfoldable pub pair : Form A → Form B → Form (A × B)
  pair f g = record {
    write = λ t. f.write t.0 ++ g.write t.1;
    read = f.read >>= λ a. got (λ b. (a, b)) g.read;
    fits = λ t. f.fits t.0 && g.fits t.1;
  }

  -- a value written as another that stands for it
  unfoldable pub shaped : (B → A) → (A → B) → Form A → Form B
  shaped out back f = record {
    write = λ b. f.write (out b);
    read = got back f.read;
    fits = λ b. f.fits (out b);
  }

module _ {A : Type 0} where
  -- a section: its count in so many bytes, then its parts
  unfoldable pub many : ℕ → Form A → Form (List A)
  many w f = record {
    write = λ xs. bytes w (length xs) ++ join (map f.write xs);
    read = read_number w >>= λ n. times n f.read;
    fits = λ xs. ltb (length xs) (256 ^ w) && all f.fits xs;
  }

  -- nothing is read
  unfoldable pub unread : Reader A
  unread bs = none

  -- a value that passes, or nothing
  unfoldable pub guarded : (A → Bool) → Reader A → Reader A
  guarded q r = r >>= λ a. cond (q a) (give a) unread

  -- fewer values fit, and fewer are read
  unfoldable pub only : (A → Bool) → Form A → Form A
  only q f = record { write = f.write; read = guarded q f.read; fits = λ a. f.fits a && q a }

  -- a tag byte says which reader follows; there is none past the last
  unfoldable pub tagged : List (Reader A) → Reader A
  tagged rs = read_number byte_long >>= λ t. get_or rs t unread

-- the tag, then the rest
unfoldable pub tag : ℕ → List ℕ → List ℕ
tag t w = bytes byte_long t ++ w

-- ---- reading all of it
module _ {A : Type 0} where
  -- what was read is taken if it fits and writes those very bytes, so that nothing follows it
  unfoldable pub taken : Form A → List ℕ → Option (Read A) → Option A
  taken f bs none = none
  taken f bs (some r) = cond (f.fits r.value && same_bytes (f.write r.value) bs) (some r.value) none

  -- what bytes read as, if they are of the form
  unfoldable pub parsed : Form A → List ℕ → Option A
  parsed f bs = taken f bs (f.read bs)
