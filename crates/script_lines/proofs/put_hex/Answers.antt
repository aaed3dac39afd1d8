-- `put_hex` meets its contract: each turn writes the two digits of one byte more. Assumes nothing.
use Rattle.std.proofs.Common.{refl, arith, get_or, Fits, w8}
use Rattle.script_lines.specs.LineLaws.{hex_begun, hex_next, hex_all, hex_text_none}
use Rattle.script_lines.proofs.put_hex.Goals as goal

pub returns-then-bytes-eq0 : goal.returns-then-bytes-eq0
returns-then-bytes-eq0 c = rw (hex_text_none c.args.bytes.now c.if-bytes-eq0.true) c.put_byte.ensures

pub loop-b-init : goal.loop-b-init
loop-b-init c = hex_begun c.args.out.now c.args.at c.args.bytes.now

pub loop-b-preserved : goal.loop-b-preserved
loop-b-preserved c =
    let bytes = c.args.bytes.now in
    let i = c.loop-b.b-index in
    let fits : Fits w8 (get_or bytes i 0) = c.type_inv.bytes i in
    hex_next bytes i (get_or bytes i 0) c.hex_digit.result c.hex_digit-in-loop-b.result (omega arith) refl (omega arith)
    (c.hex_digit.ensures (omega arith)) (c.hex_digit-in-loop-b.ensures (omega arith)) c.loop-b.invariant c.put_byte-to.ensures c.put_byte-to-in-loop-b.ensures

pub returns : goal.returns
returns c = hex_all c.args.bytes.now c.loop-b.b-index (omega arith) (omega arith) c.loop-b.invariant
