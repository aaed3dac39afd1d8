-- `records::numbers_of` meets its contract: one number more is written, until none is left. Assumes nothing.
use Rattle.std.proofs.Common.{◌≡◌, ℕ, ◌+◌, ◌≤◌, ◌<◌, List, ◌∷◌, refl, sym, ap, ◌∙◌, length, drop, map, get_or, length-set, length-drop, length-take, drop_of_length-le, rules, arith}
use Rattle.lemmas.specs.Slices.{put, put_cons, put_nil, rest_cons}
use Rattle.model.specs.File.{numbers, max_files}
use Rattle.records.specs.Record.{file_of, past}
use Rattle.records.specs.Run.{run}
use Rattle.records.specs.declared.FileRecord.{FileRecord}
use Rattle.records.proofs.numbers_of.Goals as goal

-- the numbers from place n on: the first and those after it
numbers_on : (rs : List FileRecord) (n : ℕ) → n < length rs → numbers (map file_of (drop n rs)) ≡ (get_or rs n past).number.0 ∷ numbers (map file_of (drop (n + 1) rs))
unfolding numbers file_of
numbers_on rs n h = rw (rest_cons rs n past h)

pub loop-n-init : goal.loop-n-init
loop-n-init c =
    let q : length c.args.files ≡ max_files = search rules in
    record {
      room = refl;
      few = rw c.part-f-items.ensures (omega (arith, length-drop {A = FileRecord}, length-take {A = FileRecord}));
      same = refl;
    }

pub loop-n-preserved : goal.loop-n-preserved
loop-n-preserved c =
    let g = c.loop-n.invariant in
    let rs = c.part-f-items.result.now in
    let n = c.loop-n.n in
    let x = (get_or rs n past).number.0 in
    record {
      room = length-set c.loop-n.out n x ∙ g.room;
      few = g.few;
      same = put_cons c.loop-n.out n x (numbers (map file_of (drop (n + 1) rs))) (omega arith) ∙ ap (put c.loop-n.out n) (sym (numbers_on rs n (omega arith))) ∙ g.same;
    }

pub returns : goal.returns
unfolding run numbers
returns c =
    let g = c.loop-n.invariant in
    let rs = c.part-f-items.result.now in
    let end : length rs ≤ c.loop-n.n = omega arith in
    rw (← c.part-f-items.ensures) (sym (put_nil c.loop-n.out c.loop-n.n) ∙ rw (drop_of_length-le rs end) at g.same)
