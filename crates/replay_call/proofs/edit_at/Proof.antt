-- `edit_at` meets its contract. Assumes nothing.
use Prim.Native.Nat.{◌+◌}
use mathlib.Core.Path.{ap, sym, ◌∙◌}
use borrow.Author.Rules.{rules}
use Rattle.model.specs.File.{max_pointers, max_deletions, max_additions}
use Rattle.model.specs.Snapshot.{number_long, keys_at}
use Rattle.model_replay.specs.Recording.{pointer_form, deletion_form, addition_form}
use Rattle.model_replay.specs.Takes.{section_takes}
use Rattle.model_replay.proofs.TakesLaws.{pointer_measured, deletion_measured, addition_measured}
use Rattle.replay_scan.specs.ScanLaws.{Passes, passes}
use Rattle.edit.specs.Edit.{blank_pointing, blank_deletion, blank_addition}
use Rattle.replay_call.specs.Call.{Begins, pointing_record, deletion_record, addition_record, edit_record}
use Rattle.replay_call.specs.ReadLaws.{section_fewer, section_long, section_filled, edit_pointers, edit_deletions, edit_additions, edit_log, edit_value}
use Rattle.replay_call.proofs.edit_at.Statement.{statement}
use Rattle.replay_call.proofs.edit_at.Tie as tie

-- ---- the pointers
get-number-requires : tie.Need-get_number-n-requires
get-number-requires c κs = search rules

add-pointings-at : tie.Need-overflow_add-at
add-pointings-at c = search rules

min-requires : tie.Need-min-requires
min-requires c κs = search rules

pointings-at-requires : tie.Need-pointings_at-pointings-requires
pointings-at-requires c κs =
    let g = c in
    section_fewer number_long 1 (edit_pointers g.requires) max_pointers g.get_number-n.result g.get_number-n.ensures c.min.ensures

pass-section-requires : tie.Need-pass_section-a-requires
pass-section-requires c κs = search rules

-- they are passed
past_pointers_lem : (c : tie.After-pass_section-a) → let a = c.args in Passes a.src.now a.at (section_takes number_long 1) c.pass_section-a.result
past_pointers_lem c = let a = c.args in passes a.src.now a.at (section_takes number_long 1) c.pass_section-a.ensures

-- ---- the deletions
deletions : (c : tie.After-pass_section-a) → let a = c.args in Begins (section_takes keys_at 0) a.src.now c.pass_section-a.result.at
deletions c = edit_deletions c.requires (past_pointers_lem c)

get-number-requires-2 : tie.Need-get_number-m-requires
get-number-requires-2 c κs = search rules

add-deletions-at : tie.Need-overflow_add-a
add-deletions-at c = search rules

min-requires-2 : tie.Need-min-requires-2
min-requires-2 c κs = search rules

deletions-at-requires : tie.Need-deletions_at-deletions-requires
deletions-at-requires c κs =
    let g = c in
    section_fewer keys_at 0 (deletions g.before.before.before) max_deletions g.get_number-m.result g.get_number-m.ensures c.min-2.ensures

pass-section-requires-2 : tie.Need-pass_section-b-requires
pass-section-requires-2 c κs = search rules

-- they are passed
past_deletions_lem : (c : tie.After-pass_section-b) → let p = c in let a = p.args in
    Passes a.src.now p.pass_section-a.result.at (section_takes keys_at 0) c.pass_section-b.result
past_deletions_lem c =
    let p = c in
    passes p.args.src.now p.pass_section-a.result.at (section_takes keys_at 0) c.pass_section-b.ensures

-- ---- the additions
additions : (c : tie.After-pass_section-b) → let a = c.args in Begins (section_takes (number_long + keys_at) 2) a.src.now c.pass_section-b.result.at
additions c =
    let p = c.before.before.before.before.before in
    edit_additions p.requires (past_pointers_lem p) (past_deletions_lem c)

get-number-requires-3 : tie.Need-get_number-k-requires
get-number-requires-3 c κs = search rules

add-additions-at : tie.Need-overflow_add-b
add-additions-at c = search rules

min-requires-3 : tie.Need-min-requires-3
min-requires-3 c κs = search rules

additions-at-requires : tie.Need-additions_at-additions-requires
additions-at-requires c κs =
    let g = c in
    section_fewer (number_long + keys_at) 2 (additions g.before.before.before) max_additions g.get_number-k.result g.get_number-k.ensures c.min-3.ensures

add-pass-section : tie.Need-overflow_add-pass_section
add-pass-section c = search rules

pass-section-requires-3 : tie.Need-pass_section-c-requires
pass-section-requires-3 c κs = search rules

-- they are passed
past_additions : (c : tie.After-pass_section-c) → let q = c in let a = q.args in
    Passes a.src.now q.pass_section-b.result.at (section_takes (number_long + keys_at) 2) c.pass_section-c.result
past_additions c =
    let q = c in
    let a = q.args in
    passes a.src.now q.pass_section-b.result.at (section_takes (number_long + keys_at) 2) c.pass_section-c.ensures

-- ---- the log number, and all of it
log-at-requires : tie.Need-log_at-log-requires
log-at-requires c κs =
    let q = c.before.before.before.before.before in
    let p = q.before.before.before.before.before in
    edit_log p.requires (past_pointers_lem p) (past_deletions_lem q) (past_additions c)

returns : tie.Need-returns
unfolding edit_record
returns c =
    let r = c.before in
    let x = r in
    let h = x in
    let q = h.before.before.before.before.before in
    let y = q in
    let g = y in
    let p = g.before.before.before.before.before in
    let z = p in
    let f = z in
    let b = f.requires in
    let ps = section_filled number_long 1 (edit_pointers b) pointer_form pointer_measured max_pointers blank_pointing pointing_record f.get_number-n.result f.get_number-n.ensures z.min.ensures z.pointings_at-pointings.ensures in
    let np = section_long number_long 1 (edit_pointers b) pointer_form pointer_measured f.get_number-n.ensures in
    let ds = section_filled keys_at 0 (deletions p) deletion_form deletion_measured max_deletions blank_deletion deletion_record g.get_number-m.result g.get_number-m.ensures y.min-2.ensures y.deletions_at-deletions.ensures in
    let nd = section_long keys_at 0 (deletions p) deletion_form deletion_measured g.get_number-m.ensures in
    let xs = section_filled (number_long + keys_at) 2 (additions q) addition_form addition_measured max_additions blank_addition addition_record h.get_number-k.result h.get_number-k.ensures x.min-3.ensures x.additions_at-additions.ensures in
    let nx = section_long (number_long + keys_at) 2 (additions q) addition_form addition_measured h.get_number-k.ensures in
    let l = c.log_at-log.ensures in
    (λ i. record {
      pointings = ps i;
      pointing_count = np i;
      deletions = ds i;
      deletion_count = nd i;
      additions = xs i;
      addition_count = nx i;
      log = l i;
    })
    ∙ ap edit_record (sym (edit_value b (past_pointers_lem p) (past_deletions_lem q) (past_additions r)))

pub edit_at_spec : {M : Type 1} → statement M
edit_at_spec = tie.close (tie.spec get-number-requires add-pointings-at min-requires pointings-at-requires pass-section-requires get-number-requires-2 add-deletions-at min-requires-2 deletions-at-requires pass-section-requires-2 get-number-requires-3 add-additions-at min-requires-3 additions-at-requires add-pass-section pass-section-requires-3 log-at-requires returns)
