-- The keys that records stand for: lists of bytes, as in the model. Assumes nothing.
use Rattle.std.specs.Prelude.{ℕ, ◌-◌, Bool, ◌&&◌, cond, List, [], ◌++◌, leb, length, take, drop, replicate}
use Rattle.lemmas.specs.Lists.{all}
use Rattle.model.specs.File.{key_room, longest_user}
use Rattle.keys.specs.declared.Key.{Key}
use Rattle.keys.specs.declared.UserKey.{UserKey}
-- `is_zero`, for other crates
unfoldable pub use Rattle.octets.specs.Octets.{is_zero}

-- the bytes that a record holds: the first `len` of its room. A length beyond the room leaves none, so no such record stands for a good key
unfoldable pub held : ℕ → List ℕ → ℕ → List ℕ
held room bytes len = cond (leb len room) (take len bytes) []

-- the key that a record stands for
unfoldable pub key_of : Key → List ℕ
key_of k = held key_room k.bytes k.len

-- the user key that a record stands for
unfoldable pub user_of : UserKey → List ℕ
user_of u = held longest_user u.bytes u.len

-- the key with zeros past its end, filling the room
unfoldable pub padded : ℕ → List ℕ → List ℕ
padded room k = k ++ replicate (room - length k) 0

-- the record that is kept of a key: zeros past its end
unfoldable pub key_record : List ℕ → Key
key_record k = record { bytes = padded key_room k; len = length k }

-- the record that is kept of a user key
unfoldable pub user_record : List ℕ → UserKey
user_record u = record { bytes = padded longest_user u; len = length u }

-- the length is within the room, with zeros past the end
unfoldable pub sound : ℕ → List ℕ → ℕ → Bool
sound room bytes len = leb len room && all is_zero (drop len bytes)

-- the record of a key is sound
unfoldable pub sound_key : Key → Bool
sound_key k = sound key_room k.bytes k.len

-- the record of a user key is sound
unfoldable pub sound_user : UserKey → Bool
sound_user u = sound longest_user u.bytes u.len

-- one list copied to the start of another, as much as fits
unfoldable pub laid : List ℕ → List ℕ → List ℕ
laid src out = take (length out) src ++ drop (length src) out
