-- `put_lists` meets its contract: each list's count, then its files. Assumes nothing.
use Rattle.std.proofs.Common.{ℕ, ◌≡◌, ◌+◌, ◌-◌, ◌∙◌, sym, ap, arith, List, length, get_or, get_or-take, get_or-drop, take, drop, drop_of_length-le, length-take, length-drop}
use Rattle.lemmas.specs.Lists.{join}
use Rattle.lemmas.specs.Slices.{put}
use Rattle.lemmas.specs.Laying.{part_laid, none_laid, none_length}
use Rattle.model.specs.File.{max_files}
use Rattle.model.specs.Snapshot.{write_file}
use Rattle.records.specs.Record.{file_of, well_record, past}
use Rattle.pick_answer.proofs.Shape.{shape, words}
use Rattle.replay_given.specs.GivenLaws.{counted, files_from, list_at, lists_from, lists_whole, lists_turn, lists_over, list_laid, picked_record_lem, list_room, list_long, files_of, files_part, file_first, file_first_long}
use Rattle.replay_given.proofs.put_lists.Goals as goal

pub loop-n-init : goal.loop-n-init
loop-n-init c =
    let whole = lists_whole c.args.c in
    record { starts = omega arith; to_come = ap (λ (x : List ℕ). c.args.at + length x) whole; written = ap (put c.args.out.now c.args.at) whole }

pub put_number-requires : goal.put_number-requires
put_number-requires c =
    let all = list_long c.args.c c.loop-n.from c.loop-n.n-index (omega arith) in
    omega arith

pub overflow_add-next : goal.overflow_add-next
overflow_add-next c =
    let all = list_long c.args.c c.loop-n.from c.loop-n.n-index (omega arith) in
    omega arith

pub overflow_add-to : goal.overflow_add-to
overflow_add-to c =
    let r = list_room c.args.c c.loop-n.from c.loop-n.n-index (omega arith) c.requires.0 c.loop-n.invariant.starts in
    omega arith

pub offset_bounds-c-from : goal.offset_bounds-c-from
offset_bounds-c-from c =
    let r = list_room c.args.c c.loop-n.from c.loop-n.n-index (omega arith) c.requires.0 c.loop-n.invariant.starts in
    omega arith

pub slice_bounds-f-items-end : goal.slice_bounds-f-items-end
slice_bounds-f-items-end c =
    let r = list_room c.args.c c.loop-n.from c.loop-n.n-index (omega arith) c.requires.0 c.loop-n.invariant.starts in
    omega arith

pub put_file-next-requires : goal.put_file-next-requires
put_file-next-requires c =
    let p = c.args.c in
    let l = c.loop-n in
    let n = get_or (counted p) l.n-index 0 in
    let r = list_room p l.from l.n-index (omega arith) c.requires.0 l.invariant.starts in
    let long : length p.files ≡ max_files = (shape p _ c.well_formed.1.1.0).files in
    let all = list_long p l.from l.n-index (omega arith) in
    let fs = take (l.from + n - l.from) (drop l.from p.files) in
    let few = length-take (l.from + n - l.from) (drop l.from p.files) in
    let rest = length-drop l.from p.files in
    let part = ap (λ (xs : List (List ℕ)). length (join xs)) (files_part p.files l.from n) in
    let j = c.loop-f.f-index in
    let here = get_or-take (l.from + n - l.from) (drop l.from p.files) j past (omega arith) ∙ get_or-drop l.from p.files j past in
    let left = file_first_long fs j (omega arith) in (
      ap well_record here ∙ picked_record_lem p long (words p _ c.well_formed.1.1.0) c.requires.0 (l.from + j) (omega arith),
      omega (arith, c.loop-f.invariant.to_come),
    )

pub loop-f-preserved : goal.loop-f-preserved
loop-f-preserved c =
    let p = c.args.c in
    let l = c.loop-n in
    let n = get_or (counted p) l.n-index 0 in
    let r = list_room p l.from l.n-index (omega arith) c.requires.0 l.invariant.starts in
    let long : length p.files ≡ max_files = (shape p _ c.well_formed.1.1.0).files in
    let all = list_long p l.from l.n-index (omega arith) in
    let fs = take (l.from + n - l.from) (drop l.from p.files) in
    let few = length-take (l.from + n - l.from) (drop l.from p.files) in
    let rest = length-drop l.from p.files in
    let part = ap (λ (xs : List (List ℕ)). length (join xs)) (files_part p.files l.from n) in
    let j = c.loop-f.f-index in
    let left = file_first_long fs j (omega arith) in
    let m = c.loop-f in
    let f = c.put_file-next in
    let x = write_file (file_of (get_or fs j past)) in
    let laid = part_laid x (files_of (drop (j + 1) fs)) (files_of (drop j fs)) (file_first fs j (omega arith)) m.out f.new.out m.next f.result (omega (arith, m.invariant.to_come)) f.ensures.1 f.ensures.0 in
    record { to_come = omega (arith, f.ensures.0, m.invariant.to_come); written = laid ∙ m.invariant.written }

pub loop-n-preserved : goal.loop-n-preserved
loop-n-preserved c =
    let p = c.args.c in
    let l = c.loop-n in
    let n = get_or (counted p) l.n-index 0 in
    let r = list_room p l.from l.n-index (omega arith) c.requires.0 l.invariant.starts in
    let long : length p.files ≡ max_files = (shape p _ c.well_formed.1.1.0).files in
    let all = list_long p l.from l.n-index (omega arith) in
    let fs = take (l.from + n - l.from) (drop l.from p.files) in
    let few = length-take (l.from + n - l.from) (drop l.from p.files) in
    let rest = length-drop l.from p.files in
    let part = ap (λ (xs : List (List ℕ)). length (join xs)) (files_part p.files l.from n) in
    let j = c.loop-f.f-index in
    let m = c.loop-f in
    let o = c.put_number in
    let to = l.from + n in
    let over = ap files_of (drop_of_length-le fs {i = j} (omega arith)) in
    let none = none_length (files_of (drop j fs)) over in
    let files_laid : m.out ≡ put o.new.out (l.next + 2) (join (files_from p.files l.from to)) =
    sym (none_laid (files_of (drop j fs)) over m.out m.next) ∙ m.invariant.written ∙ ap (λ (xs : List (List ℕ)). put o.new.out (l.next + 2) (join xs)) (files_part p.files l.from n) in
    let whole = list_laid p.files l.from n l.out o.new.out m.out l.next (omega arith) (omega arith) o.ensures files_laid in
    let next : m.next ≡ l.next + length (list_at p.files l.from to) = omega (arith, m.invariant.to_come) in
    let laid = part_laid (list_at p.files l.from to) (lists_from p.files (counted p) to (l.n-index + 1)) (lists_from p.files (counted p) l.from l.n-index) (lists_turn p.files (counted p) l.n-index l.from (omega arith))
    l.out m.out l.next m.next (omega arith) whole next in
    record { starts = omega arith; to_come = omega arith; written = laid ∙ l.invariant.written }

pub returns : goal.returns
returns c =
    let p = c.args.c in
    let l = c.loop-n in
    let over = lists_over p.files (counted p) l.n-index l.from (omega arith) in
    let none = none_length (lists_from p.files (counted p) l.from l.n-index) over in
    (omega (arith, l.invariant.to_come), sym (none_laid (lists_from p.files (counted p) l.from l.n-index) over l.out l.next) ∙ l.invariant.written)
