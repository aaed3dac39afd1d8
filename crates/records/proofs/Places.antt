-- The bytes that keys and file records take in memory. Walks by hand use them to find an element. Assumes nothing.
use Prim.Native.Nat.{ℕ, ◌+◌, ◌*◌}
use Rattle.model.specs.File.{longest_user, key_room}

-- a number
abbrev pub word_bytes : ℕ
word_bytes = 8

-- a user key: its room and its length
abbrev pub user_bytes : ℕ
user_bytes = longest_user + word_bytes

-- an internal key
abbrev pub key_bytes : ℕ
key_bytes = key_room + word_bytes

-- a file: number, size, two keys, seeks
abbrev pub record_bytes : ℕ
record_bytes = 3 * word_bytes + 2 * key_bytes
