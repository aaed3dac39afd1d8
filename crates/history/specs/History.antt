-- Histories of the code's calls on a store, and the bytes that the store they leave writes and reads. Assumes nothing.
use Rattle.std.specs.Prelude.{ℕ, ◌<◌, ◌^◌, Result, Ok, Err}
use mathlib.Core.List.{List, [], ◌∷◌, Memᴰ as In}
use Rattle.model.specs.Snapshot.{longest_snapshot}
use Rattle.model.specs.Answer.{Answer}
use Rattle.model.specs.File.{full, fresh}
use Rattle.model.specs.Edit.{edit}
use Rattle.model.specs.Counters.{new, reuse, mark, last, manifest, previous, counter}
use Rattle.model.specs.Calls as calls
use Rattle.model.specs.Pick.{size_pick, manual_pick}
use Rattle.model.specs.History as model
use Rattle.std.specs.Result.{result_unwrap_or}
use Rattle.answers.specs.declared.Refusal.{Refusal}
use Rattle.keys.specs.Key.{key_of}
use Rattle.keys.specs.declared.Key.{Key}
use Rattle.keys.specs.declared.FileNumber.{FileNumber}
use Rattle.keys.specs.declared.SequenceNumber.{SequenceNumber}
use Rattle.edit.specs.declared.Addition.{Addition}
use Rattle.edit.specs.declared.Edit.{Edit}
use Rattle.edit.specs.Edit.{edit_of}
use Rattle.pick_answer.specs.Picked.{pick_of}
use Rattle.store.specs.declared.Store.{Store}
use Rattle.store.specs.Store.{store_of, on_store, stored}
use Rattle.store_numbers.specs.Numbering.{handed}
use Rattle.snapshot_write.specs.Writing.{snapshot_of}

-- the code's calls that change a store: edits, size picks with a maximum file size, manual picks also with their level and range, and counter calls
pub data Call : Type 0 where
  apply : Edit → Call
  pick_size : ℕ → Call
  pick_range : ℕ → ℕ → Key → Key → Call
  new_number : Call
  reuse_number : FileNumber → Call
  mark_number : FileNumber → Call
  set_last : SequenceNumber → Call
  set_manifest : FileNumber → Call
  set_previous : FileNumber → Call

-- the store after a call that returns more than a store: the one in what it returns, or after a refusal the caller's own
abbrev pub left : {A : Type 0} → (A → Store) → Result A Refusal → Store → Store
left f (Ok a) s = f a
left f (Err r) s = s

-- the store after a call, accepted or refused, by the right side of the call's contract
unfoldable pub called : Store → Call → Store
called s (apply e) = result_unwrap_or (stored (on_store s (λ t. edit full t (edit_of e)))) s
called s (pick_size m) = left (λ k. k.store) (pick_of (on_store s (λ t. size_pick full t m))) s
called s (pick_range m l a b) = left (λ k. k.store) (pick_of (on_store s (λ t. manual_pick full t m l (key_of a) (key_of b)))) s
called s new_number = left (λ h. h.store) (handed (on_store s (calls.new_number full))) s
called s (reuse_number n) = result_unwrap_or (stored (on_store s (λ t. counter full t (reuse n.0)))) s
called s (mark_number n) = result_unwrap_or (stored (on_store s (λ t. counter full t (mark n.0)))) s
called s (set_last n) = result_unwrap_or (stored (on_store s (λ t. counter full t (last n.0)))) s
called s (set_manifest n) = result_unwrap_or (stored (on_store s (λ t. counter full t (manifest n.0)))) s
called s (set_previous n) = result_unwrap_or (stored (on_store s (λ t. counter full t (previous n.0)))) s

-- the call of the model that a call of the code stands for
unfoldable pub call_of : Call → model.Call
call_of (apply e) = model.edits (edit_of e)
call_of (pick_size m) = model.picks_size m
call_of (pick_range m l a b) = model.picks_range m l (key_of a) (key_of b)
call_of new_number = model.counts new
call_of (reuse_number n) = model.counts (reuse n.0)
call_of (mark_number n) = model.counts (mark n.0)
call_of (set_last n) = model.counts (last n.0)
call_of (set_manifest n) = model.counts (manifest n.0)
call_of (set_previous n) = model.counts (previous n.0)

-- a fact that every call of code has by its types: the numbers of the files that an edit adds fit 64 bits
abbrev pub Passable : Call → Type 0
Passable (apply e) = (a : Addition) → In a e.additions → a.number.0 < 2 ^ 64
Passable (pick_size m) = Unit {0}
Passable (pick_range m l a b) = Unit {0}
Passable new_number = Unit {0}
Passable (reuse_number n) = Unit {0}
Passable (mark_number n) = Unit {0}
Passable (set_last n) = Unit {0}
Passable (set_manifest n) = Unit {0}
Passable (set_previous n) = Unit {0}

-- a fresh store
unfoldable pub fresh_store : Store
fresh_store = store_of (fresh full)

-- the store after a history: each call is made on the store that the one before has left
unfoldable pub ran : Store → List Call → Store
ran s [] = s
ran s (c ∷ cs) = ran (called s c) cs

-- the snapshot that a store writes into output with room for the longest
unfoldable pub written : Store → Answer (List ℕ)
written s = snapshot_of s longest_snapshot

-- the result of reading bytes: the store that they hold, or refusal 14
unfoldable pub read_back : List ℕ → Result Store Refusal
read_back bs = stored (calls.read full bs)
