-- `write` meets its contract: 14, then 13, then counters, pointers and levels one after another. Assumes nothing.
use Rattle.std.proofs.Common.{◌≤◌, length, sym, ◌∙◌, arith}
use Rattle.model.specs.Snapshot.{encode}
use Rattle.answers.specs.declared.Refusal.TheVariants.{Form, Output}
use Rattle.store.specs.Store.{state_of}
use Rattle.store.proofs.Shape.{shape}
use Rattle.snapshot_write.specs.Writing.{snapshot_of}
use Rattle.snapshot_write.specs.WritingLaws.{encode_parts, encode_laid, written_ill, written_short, written_well, said_refused, said_gives, store_pointers, store_levels}
use Rattle.snapshot_write.proofs.write.Goals as goal

pub returns-then-not-is_well_formed : goal.returns-then-not-is_well_formed
returns-then-not-is_well_formed c =
    let a = c.args in
    let n = length a.out.now in
    said_refused (snapshot_of a.s n) Form a.out.now (written_ill a.s n (sym c.is_well_formed.ensures ∙ c.if-not-is_well_formed.true))

pub returns-then-out-n : goal.returns-then-out-n
returns-then-out-n c =
    let a = c.args in
    let n = length a.out.now in
    let well = sym c.is_well_formed.ensures ∙ c.if-not-is_well_formed.false in
    said_refused (snapshot_of a.s n) Output a.out.now (written_short a.s n well (omega (arith, c.snapshot_length-n.ensures)))

pub put_counters-pointers_at-requires : goal.put_counters-pointers_at-requires
put_counters-pointers_at-requires c =
    let size = encode_parts c.args.s (shape c.args.s _ c.well_formed.0).counts in
    omega (arith, size, c.snapshot_length-n.ensures, c.if-out-n.false)

pub put_pointers-levels_at-requires : goal.put_pointers-levels_at-requires
put_pointers-levels_at-requires c =
    let s = c.args.s in
    let q = shape s _ c.well_formed.0 in
    let size = encode_parts s q.counts in
    (store_pointers s q.pointers (sym c.is_well_formed.ensures ∙ c.if-not-is_well_formed.false), omega arith)

pub put_levels-requires : goal.put_levels-requires
put_levels-requires c =
    let s = c.args.s in
    let q = shape s _ c.well_formed.0 in
    let size = encode_parts s q.counts in
    (store_levels s q.pointers (sym c.is_well_formed.ensures ∙ c.if-not-is_well_formed.false), omega arith)

pub returns : goal.returns
returns c =
    let a = c.args in
    let out = a.out.now in
    let well = sym c.is_well_formed.ensures ∙ c.if-not-is_well_formed.false in
    let fits : length (encode (state_of a.s)) ≤ length out = omega (arith, c.if-out-n.false, c.snapshot_length-n.ensures) in
    let p = c.put_counters-pointers_at in
    let q = c.put_pointers-levels_at in
    let laid = encode_laid a.s (shape a.s _ c.well_formed.0).counts out p.new.out q.new.out c.put_levels.new.out p.result q.result fits p.ensures.1 p.ensures.0 q.ensures.1 q.ensures.0 c.put_levels.ensures.1 in
    said_gives (snapshot_of a.s (length out)) (encode (state_of a.s)) out c.put_levels.new.out c.snapshot_length-n.result (written_well a.s (length out) well fits) c.snapshot_length-n.ensures laid
