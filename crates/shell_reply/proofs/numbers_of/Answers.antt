-- `numbers_of` meets its contract: one number more is written, until none is left. Assumes nothing.
use Rattle.std.proofs.Common.{◌≡◌, ℕ, ◌+◌, ◌≤◌, ◌<◌, List, ◌∷◌, refl, sym, ap, ◌∙◌, length, drop, map, get_or, replicate, length-set, drop_of_length-le, rules, arith}
use Rattle.std.proofs.lemmas.List.{length-map, length-replicate}
use Rattle.lemmas.specs.Slices.{put, put_cons, put_nil, put_whole, rest_cons, length_of_map}
use Rattle.model.specs.File.{max_files}
use Rattle.records.specs.Record.{past}
use Rattle.records.specs.declared.FileRecord.{FileRecord}
use Rattle.shell_reply.specs.Replies.{number_of}
use Rattle.shell_reply.proofs.numbers_of.Goals as goal

-- the numbers from place n on: the first and those after it
numbers_on : (rs : List FileRecord) (n : ℕ) → n < length rs → map number_of (drop n rs) ≡ number_of (get_or rs n past) ∷ map number_of (drop (n + 1) rs)
numbers_on rs n h = rw (rest_cons rs n past h)

pub loop-n-init : goal.loop-n-init
loop-n-init c =
    let q : length c.args.files ≡ max_files = search (rules, length_of_map) in
    record { room = refl; few = q; same = refl }

pub loop-n-preserved : goal.loop-n-preserved
unfolding number_of
loop-n-preserved c =
    let g = c.loop-n.invariant in
    let rs = c.args.files in
    let n = c.loop-n.n in
    let x = number_of (get_or rs n past) in
    record {
      room = length-set c.loop-n.column n x ∙ g.room;
      few = g.few;
      same = put_cons c.loop-n.column n x (map number_of (drop (n + 1) rs)) (omega arith) ∙ ap (put c.loop-n.column n) (sym (numbers_on rs n (omega arith))) ∙ g.same;
    }

pub returns : goal.returns
returns c =
    let g = c.loop-n.invariant in
    let rs = c.args.files in
    let end : length rs ≤ c.loop-n.n = omega arith in
    let left = rw (drop_of_length-le rs end) at g.same in
    let zeros : List ℕ = replicate max_files 0 in
    let whole : length (map number_of rs) ≡ length zeros = length-map rs number_of ∙ g.few ∙ sym (length-replicate {A = ℕ} max_files 0) in
    sym (put_nil c.loop-n.column c.loop-n.n) ∙ left ∙ put_whole zeros (map number_of rs) whole
