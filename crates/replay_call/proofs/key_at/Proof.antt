-- `key_at` meets its contract. Assumes nothing.
use Prim.Native.Nat.{ℕ, ◌+◌, ◌-◌, ◌≤◌}
use mathlib.Core.Path.{◌≡◌, ap, sym, ◌∙◌, subst}
use mathlib.Core.List.{List}
use native.Mathlib.Omega.{arith}
use borrow.Author.Rules.{rules}
use lib.ListN.{length, drop, take, replicate}
use Rattle.model.specs.File.{full, key_room}
use Rattle.model_replay.specs.Held.{held_key}
use Rattle.keys.specs.Key.{key_record, padded, laid}
use Rattle.keys.specs.KeyLaws.{laid_zeros}
use Rattle.replay_call.specs.ReadLaws.{key_at, key_within, key_end, key_held, held_long, key_dropped}
use Rattle.replay_call.proofs.key_at.Statement.{statement}
use Rattle.replay_call.proofs.key_at.Tie as tie

get-number-requires : tie.Need-get_number-n-requires
get-number-requires c κs = search rules

add_start : tie.Need-overflow_add-start
add_start c = search rules

add-end : tie.Need-overflow_add-end
add-end c = let n = c.get_number-n.ensures in let h = key_within c.requires in omega arith

blank-key-requires : tie.Need-blank_key-blank-requires
blank-key-requires c κs = search rules

returns : tie.Need-returns-then-n-gt-ROOM
returns c =
    let g = c in
    let s = g in
    let n = g.get_number-n.ensures in (
      c.blank_key-blank.ensures ∙ ap key_record (sym (key_dropped s.requires (omega arith))),
      ap (λ (k : ℕ). s.args.at + 1 + k) n ∙ sym (key_end s.requires),
    )

sub-copy-into : tie.Need-slice_bounds-copy_into-count
sub-copy-into c = search rules

part-copy-into-start : tie.Need-slice_bounds-copy_into-start
part-copy-into-start c = search rules

part-copy-into-end : tie.Need-slice_bounds-copy_into-end
part-copy-into-end c = let n = c.get_number-n.ensures in let h = key_within c.requires in omega arith

slice-aggregate-copy-into : tie.Need-slice_bounds-copy_into-end-2
slice-aggregate-copy-into c = search rules

copy-into-requires : tie.Need-copy_into-requires
copy-into-requires c κs = search rules

returns_2 : tie.Need-returns
unfolding key_record
returns_2 c =
    let g = c in
    let s = g in
    let b = s.requires in
    let n = g.get_number-n.ensures in
    let at = s.args.at in
    let src = s.args.src.now in
    let h : g.get_number-n.result ≤ key_room = omega arith in
    let few = subst (λ (k : ℕ). k ≤ key_room) n h in
    let k = held_key full (key_at src at) in
    let m : at + 1 + g.get_number-n.result - (at + 1) ≡ g.get_number-n.result = omega arith in
    let part : take (at + 1 + g.get_number-n.result - (at + 1)) (drop (at + 1) src) ≡ k = ap (λ (j : ℕ). take j (drop (at + 1) src)) (m ∙ n) ∙ sym (key_held b few) in
    let long = held_long b few in
    let short : length k ≤ key_room = omega arith in
    let e : c.copy_into.new.out ≡ padded key_room k = c.copy_into.ensures ∙ ap (λ (x : List ℕ). laid x (replicate key_room 0)) part ∙ laid_zeros key_room k short in
    let l = n ∙ sym long in (
      λ i. record { bytes = e i; len = l i },
      ap (λ (k : ℕ). at + 1 + k) n ∙ sym (key_end b),
    )

pub key_at_spec : {M : Type 1} → statement M
key_at_spec = tie.close (tie.spec get-number-requires add_start add-end blank-key-requires returns sub-copy-into part-copy-into-start part-copy-into-end slice-aggregate-copy-into copy-into-requires returns_2)
