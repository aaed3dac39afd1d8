-- `make_range` meets its contract. Assumes nothing.
use Rattle.std.proofs.Common.{◌≡◌, ℕ, ◌+◌, true, List, [], drop, Result, Ok, Err, sym, ◌∙◌}
use Rattle.model.specs.Snapshot.{number_long, read_key}
use Rattle.model.specs.File.{full}
use Rattle.model.specs.Pick.{manual_pick}
use Rattle.model_replay.specs.Held.{held_key}
use Rattle.model_replay.specs.Takes.{key_takes, part_takes}
use Rattle.answers.specs.Outcome.{number_of}
use Rattle.answers.specs.declared.Refusal.{Refusal}
use Rattle.keys.specs.Key.{key_of, key_record}
use Rattle.pick_answer.specs.declared.Pick.{Pick}
use Rattle.pick_answer.specs.Picked.{pick_of}
use Rattle.snapshot_parse.specs.Parsing.{number_in}
use Rattle.snapshot_parse.specs.declared.KeyAt.{KeyAt}
use Rattle.replay_scan.specs.Scan.{passed_by}
use Rattle.store.specs.declared.Store.{Store}
use Rattle.store.specs.Store.{well_store, on_store, StoreShape}
use Rattle.store.proofs.Shape.{shape}
use Rattle.replay_given.specs.Given.{said_by, plain_given, picked_given}
use Rattle.replay_call.specs.Call.{value_or, Begins, range_in}
use Rattle.replay_call.specs.MadeLaws.{MakesPick}
use Rattle.replay_call.specs.StepLaws.{range_start, range_stop, range_is, plain_fits, picked_fits, made_laid, range_makes}
use Rattle.replay_call.proofs.make_range.Goals as goal

-- what a key's reading says: the key, and the place after it
abbrev Reads : List ℕ → ℕ → KeyAt → Type 0
Reads src at k = (k.key ≡ key_record (held_key full (value_or [] (read_key (drop at src))))) × (k.next ≡ (passed_by at (key_takes (drop at src))).at)

-- the pick of the level and the two keys that were read is made, and its answer can be kept
made : (s : Store) → StoreShape s → well_store s ≡ true → (src : List ℕ) (at m l : ℕ) → Begins (part_takes number_long 2) src at → l ≡ number_in number_long (drop at src) → (x y : KeyAt) → Reads src (at + number_long) x → Reads src x.next y
    → (r : Result Pick Refusal) → r ≡ pick_of (on_store s (λ t. manual_pick full t m l (key_of x.key) (key_of y.key))) → MakesPick s (range_in m (drop at src)) r
made s q w src at m l b e x y h k r g =
    let low = value_or [] (read_key (drop (at + number_long) src)) in
    let high = value_or [] (read_key (drop x.next src)) in
    rw (range_is b m l x.next e h.1) (range_makes s q w m l low high x.key y.key r h.0 k.0 g)

pub key_at-start-requires : goal.key_at-start-requires
key_at-start-requires c = range_start c.requires.1

pub key_at-stop-requires : goal.key_at-stop-requires
key_at-stop-requires c = rw c.key_at-start.ensures.1 (range_stop c.requires.1)

pub put_pick-requires : goal.put_pick-requires
put_pick-requires c =
    let a = c.args in
    let p = c.in-Ok.p in
    let m = made a.s (shape a.s _ c.well_formed.0) c.requires.0 a.src.now a.at a.maximum c.get_number-level.result c.requires.1 c.get_number-level.ensures c.key_at-start.result c.key_at-stop.result c.key_at-start.ensures c.key_at-stop.ensures
    (Ok p) (sym c.in-Ok.is ∙ c.compact_range.ensures) in
    (m.tells, picked_fits (Ok p.picked) a.room.now m.tells c.requires.2)

pub put_plain-requires : goal.put_plain-requires
put_plain-requires c = plain_fits (Err c.number.result) c.args.room.now c.requires.2

pub returns-in-Ok : goal.returns-in-Ok
returns-in-Ok c =
    let a = c.args in
    let p = c.in-Ok.p in
    let m = made a.s (shape a.s _ c.well_formed.0) c.requires.0 a.src.now a.at a.maximum c.get_number-level.result c.requires.1 c.get_number-level.ensures c.key_at-start.result c.key_at-stop.result c.key_at-start.ensures c.key_at-stop.ensures
    (Ok p) (sym c.in-Ok.is ∙ c.compact_range.ensures) in
    made_laid a.s (range_in a.maximum (drop a.at a.src.now)) p.store (picked_given (Ok p.picked)) a.room.now c.put_pick.new.out c.put_pick.result m.made c.put_pick.ensures

pub returns-in-Err : goal.returns-in-Err
unfolding said_by
returns-in-Err c =
    let a = c.args in
    let r = c.in-Err.r in
    let m = made a.s (shape a.s _ c.well_formed.0) c.requires.0 a.src.now a.at a.maximum c.get_number-level.result c.requires.1 c.get_number-level.ensures c.key_at-start.result c.key_at-stop.result c.key_at-start.ensures c.key_at-stop.ensures
    (Err r) (sym c.in-Err.is ∙ c.compact_range.ensures) in
    made_laid a.s (range_in a.maximum (drop a.at a.src.now)) a.s (plain_given (Err (number_of r))) a.room.now c.put_plain.new.out c.put_plain.result m.made (rw c.number.ensures at c.put_plain.ensures)
