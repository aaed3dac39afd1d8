-- `advance` meets its contract: what the key passes, then the cut. Assumes nothing.
use Rattle.std.proofs.Common.{◌≡◌, ◌*◌, length, ap, ◌∙◌, arith, rules}
use Rattle.model.specs.File.{max_files}
use Rattle.keys.specs.Key.{key_of}
use Rattle.pick_answer.specs.Picked.{picked_of}
use Rattle.pick_answer.specs.PickedLaws.{well_maximum}
use Rattle.compact_cutter.specs.declared.Passing.{Passing}
use Rattle.compact_cutter.specs.Cutter.{cut_after}
use Rattle.compact_cutter.specs.CutterLaws.{good_within, passing_bound, cut_is}
use Rattle.compact_cutter.proofs.advance.Goals as goal

pub pass-p-requires : goal.pass-p-requires
pass-p-requires c =
    let long : length c.args.c.files ≡ max_files = search rules in
    (c.requires.0, (good_within c.args.c c.args.m long c.requires.0 c.requires.1).0)

pub overflow_mul-c : goal.overflow_mul-c
overflow_mul-c c =
    let long : length c.args.c.files ≡ max_files = search rules in
    omega (arith, (well_maximum c.args.c c.requires.0 long).1)

pub cut_after-requires : goal.cut_after-requires
cut_after-requires c =
    let a = c.args in
    let long : length a.c.files ≡ max_files = search rules in
    let w = good_within a.c a.m long c.requires.0 c.requires.1 in
    omega (arith, ap (λ (x : Passing). x.bytes) c.pass-p.ensures, passing_bound a.c c.requires.0 a.m.place (key_of a.k) long, (well_maximum a.c c.requires.0 long).1)

pub returns : goal.returns
returns c =
    let a = c.args in
    c.cut_after.ensures ∙ ap (cut_after a.m (10 * a.c.maximum)) c.pass-p.ensures ∙ cut_is a.m a.c.maximum (picked_of a.c).grand (key_of a.k)
