-- `flip_front` meets its contract: a turn replaces one more number of the front.
use Rattle.std.proofs.Common.{◌≡◌, ℕ, List, ◌++◌, length, take, drop, length-take-le, take_all, sym, ap, ◌∙◌, arith}
use Rattle.std.specs.Prelude.{map}
use Rattle.std.proofs.Math.ListN.{length-map}
use Rattle.lemmas.specs.Slices.{put, put_front, put_whole}
use Rattle.ask_lookup.specs.Lookup.{flip}
use Rattle.ask_lookup.specs.FallingLaws.{turn_keeps, turn_ends}
use Rattle.ask_lookup.proofs.flip_front.Goals as goal

pub loop-x-preserved : goal.loop-x-preserved
loop-x-preserved c =
    let front = take c.args.n c.args.out.now in
    let long = length-take-le c.args.n c.args.out.now c.requires in
    turn_keeps front c.args.n (omega arith) c.loop-x.x-items c.loop-x.x-index c.loop-x.invariant (omega arith)

pub returns : goal.returns
returns c =
    let out = c.args.out.now in
    let front = take c.args.n out in
    let long = length-take-le c.args.n out c.requires in
    let all : take c.args.n front ≡ front = take_all c.args.n front (omega arith) in
    let size : length (map flip front) ≡ c.args.n = length-map front flip ∙ long in
    let turned : c.loop-x.x-items ≡ map flip front =
    turn_ends front c.args.n (omega arith) c.loop-x.x-items c.loop-x.x-index c.loop-x.invariant (omega arith)
    ∙ ap (λ (z : List ℕ). put front 0 (map flip z)) all ∙ put_whole front (map flip front) (length-map front flip) in
    ap (λ (z : List ℕ). z ++ drop c.args.n out) turned ∙ sym (put_front out (map flip front) ∙ ap (λ (k : ℕ). map flip front ++ drop k out) size)
