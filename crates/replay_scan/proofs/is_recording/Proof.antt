-- `is_recording` meets its contract. Assumes nothing.
use mathlib.Core.Path.{◌≡◌}
use mathlib.Core.Bool.{true}
use native.Mathlib.Omega.{arith}
use borrow.Author.Rules.{rules}
use lib.Pow.{are_bytes}
use Rattle.lemmas.specs.AreBytes.{bytes_all}
use Rattle.model_replay.specs.Takes.{takes, repeated, entry_takes, settings_take}
use Rattle.replay_scan.specs.ScanLaws.{passes, Whole, Counts, whole_part, whole_number}
use Rattle.replay_scan.specs.RecordLaws.{no_settings, place_within, no_count, no_calls, too_far, record_ends}
use Rattle.replay_scan.proofs.is_recording.Statement.{statement}
use Rattle.replay_scan.proofs.is_recording.Tie as tie

-- the bytes are bytes
bytes_here : (c : tie.After-shared_slice_known-1) → are_bytes c.args.src.now ≡ true
bytes_here c = bytes_all c.args.src.now (λ i. omega (arith, c.shared_slice_known-1.given i))

pass-settings-requires : tie.Need-pass_settings-settings-requires
pass-settings-requires c κs = search rules

returns : tie.Need-returns-then-not-settings
returns c =
    let s = c in
    let k = s.before.before.before in
    no_settings (bytes_here k) (passes k.args.src.now 0 settings_take s.pass_settings-settings.ensures) c.if-not-settings.true

-- the settings are whole
settings : (c : tie.Else-not-settings) → let s = c in Whole s.args.src.now 0 settings_take s.pass_settings-settings.result
settings c =
    let s = c in
    whole_part s.args.src.now 0 settings_take s.pass_settings-settings.ensures c.if-not-settings.false

pass-requires : tie.Need-pass-start-requires
pass-requires c κs = search rules

returns_2 : tie.Need-returns-then-not-start
returns_2 c =
    let t = c in
    let i = t.before.before.before in
    let s = i in
    let k = s.before.before.before in
    no_count (bytes_here k) (settings i) (passes k.args.src.now s.pass_settings-settings.result.at (takes 4) t.pass-start.ensures) c.if-not-start.true

get-number-requires : tie.Need-get_number-place-requires
get-number-requires c κs =
    let i = c.before.before.before in
    (place_within (bytes_here i.before.before.before) (settings i), omega arith)

get-number-requires-2 : tie.Need-get_number-n-requires
get-number-requires-2 c κs = search rules

sub-if3 : tie.Need-overflow_sub-place
sub-if3 c = search rules

-- so is the count of calls
count : (c : tie.After-get_number-n)
    → let t = c in let s = t in Counts s.args.src.now s.pass_settings-settings.result.at 4 t.pass-start.result c.get_number-n.result
count c =
    let j = c in
    let t = j in
    let s = t in
    whole_number s.args.src.now s.pass_settings-settings.result.at 4 t.pass-start.ensures j.if-not-start.false c.get_number-n.ensures

returns_3 : tie.Need-returns-then-place-n
returns_3 c =
    let n = c.before in
    let p = n.get_number-place in
    let i = n.before.before.before.before.before in
    too_far (bytes_here i.before.before.before) (settings i) (count n) p.result p.ensures (omega arith)

pass-entries-requires : tie.Need-pass_entries-end-requires
pass-entries-requires c κs = search rules

returns-4 : tie.Need-returns-then-not-end
returns-4 c =
    let e = c in
    let n = e.before.before.before.before in
    let t = n in
    let i = t.before.before.before.before.before in
    let k = i.before.before.before in
    no_calls (bytes_here k) (settings i) (count n) (passes k.args.src.now t.pass-start.result.at (repeated n.get_number-n.result entry_takes) e.pass_entries-end.ensures)
    c.if-not-end.true

returns-5 : tie.Need-returns
returns-5 c =
    let l = c in
    let e = l in
    let n = e.before.before.before.before.before in
    let p = n.get_number-place in
    let t = n in
    let i = t.before.before.before.before.before in
    let k = i.before.before.before in
    record_ends (bytes_here k) (settings i) (count n) p.result p.ensures
    (whole_part k.args.src.now t.pass-start.result.at (repeated n.get_number-n.result entry_takes) e.pass_entries-end.ensures l.if-not-end.false)
    (omega arith)

pub is_recording_spec : {M : Type 1} → statement M
is_recording_spec = tie.close (tie.spec pass-settings-requires returns pass-requires returns_2 get-number-requires get-number-requires-2 sub-if3 returns_3 pass-entries-requires returns-4 returns-5)
