-- `make_count` meets its contract. Assumes nothing.
use Rattle.std.proofs.Common.{◌≡◌, ℕ, ◌+◌, true, List, drop, Result, Ok, Err, arith}
use Rattle.model.specs.Snapshot.{byte_long, number_long}
use Rattle.model.specs.History.{counts}
use Rattle.model_replay.specs.Recording.{new_tag}
use Rattle.model_replay.specs.Takes.{count_takes}
use Rattle.answers.specs.Outcome.{number_of}
use Rattle.answers.specs.declared.Refusal.{Refusal}
use Rattle.snapshot_parse.specs.Parsing.{number_in}
use Rattle.std.specs.Result.{result_unwrap_or}
use Rattle.store.specs.declared.Store.{Store}
use Rattle.store.specs.Store.{well_store, StoreShape}
use Rattle.store.proofs.Shape.{shape}
use Rattle.replay_given.specs.Given.{plain_given, handed_given}
use Rattle.replay_call.specs.Call.{Begins, count_in, counted_by}
use Rattle.replay_call.specs.MadeLaws.{Makes, numbered}
use Rattle.replay_call.specs.StepLaws.{new_is, count_known, number_begins, count_is, plain_fits, handed_fits, made_laid, new_makes, count_makes}
use Rattle.replay_call.proofs.make_count.Goals as goal

-- the other call is made, by the tag and the number that were read
made : (s : Store) → StoreShape s → well_store s ≡ true → (src : List ℕ) (at tag n : ℕ) → Begins count_takes src at → tag ≡ number_in byte_long (drop at src) → (tag ≡ new_tag → ⊥) → n ≡ number_in number_long (drop (at + byte_long) src)
    → (r : Result Store Refusal) → r ≡ counted_by s tag n → Makes s (counts (count_in (drop at src))) (result_unwrap_or r s) (plain_given (numbered (λ t. tt) r))
made s q w src at tag n b e h f r g = rw (count_is b e h, ← f) (count_makes s q w tag n r (count_known b e h) g)

pub put_handed-requires : goal.put_handed-requires
put_handed-requires c = handed_fits (Ok c.in-Ok.h.number) c.args.room.now c.requires.2

pub put_handed-requires-in-Err : goal.put_handed-requires-in-Err
put_handed-requires-in-Err c = handed_fits (Err c.number.result) c.args.room.now c.requires.2

pub returns-in-Ok : goal.returns-in-Ok
returns-in-Ok c =
    let a = c.args in
    let h = c.in-Ok.h in
    let m = new_makes a.s (shape a.s _ c.well_formed.0) c.requires.0 (Ok h) c.in-Ok.ensures in
    rw (new_is c.requires.1 c.get_number-tag.ensures c.if-tag-eq-NEW.true)
    (made_laid a.s _ h.store (handed_given (Ok h.number)) a.room.now c.put_handed.new.out c.put_handed.result m c.put_handed.ensures)

pub returns-in-Err : goal.returns-in-Err
returns-in-Err c =
    let a = c.args in
    let r = c.in-Err.r in
    let m = new_makes a.s (shape a.s _ c.well_formed.0) c.requires.0 (Err r) c.in-Err.ensures in
    rw (new_is c.requires.1 c.get_number-tag.ensures c.if-tag-eq-NEW.true)
    (made_laid a.s _ a.s (handed_given (Err (number_of r))) a.room.now c.put_handed-in-Err.new.out c.put_handed-in-Err.result m (rw c.number.ensures at c.put_handed-in-Err.ensures))

pub get_number-number-requires : goal.get_number-number-requires
get_number-number-requires c = ((number_begins c.requires.1 c.get_number-tag.ensures c.if-tag-eq-NEW.false).within, omega arith)

pub counted-requires : goal.counted-requires
counted-requires c = count_known c.requires.1 c.get_number-tag.ensures c.if-tag-eq-NEW.false

pub put_plain-requires : goal.put_plain-requires
put_plain-requires c = plain_fits (Ok tt) c.args.room.now c.requires.2

pub put_plain-requires-in-Err-counted : goal.put_plain-requires-in-Err-counted
put_plain-requires-in-Err-counted c = plain_fits (Err c.number-in-Err-counted.result) c.args.room.now c.requires.2

pub returns-in-Ok-counted : goal.returns-in-Ok-counted
returns-in-Ok-counted c =
    let a = c.args in
    let t = c.in-Ok-counted.store in
    let m = made a.s (shape a.s _ c.well_formed.0) c.requires.0 a.src.now a.at c.get_number-tag.result c.get_number-number.result c.requires.1 c.get_number-tag.ensures c.if-tag-eq-NEW.false c.get_number-number.ensures
    (Ok t) c.in-Ok-counted.ensures in
    made_laid a.s (counts (count_in (drop a.at a.src.now))) t (plain_given (Ok tt)) a.room.now c.put_plain.new.out c.put_plain.result m c.put_plain.ensures

pub returns-in-Err-counted : goal.returns-in-Err-counted
returns-in-Err-counted c =
    let a = c.args in
    let r = c.in-Err-counted.r in
    let m = made a.s (shape a.s _ c.well_formed.0) c.requires.0 a.src.now a.at c.get_number-tag.result c.get_number-number.result c.requires.1 c.get_number-tag.ensures c.if-tag-eq-NEW.false c.get_number-number.ensures
    (Err r) c.in-Err-counted.ensures in
    made_laid a.s (counts (count_in (drop a.at a.src.now))) a.s (plain_given (Err (number_of r))) a.room.now c.put_plain-in-Err-counted.new.out c.put_plain-in-Err-counted.result m (rw c.number-in-Err-counted.ensures at c.put_plain-in-Err-counted.ensures)
