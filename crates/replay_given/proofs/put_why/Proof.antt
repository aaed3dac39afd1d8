-- `put_why` meets its contract: a tag and the bits of the score, or a tag. Assumes nothing.
use Prim.Native.Nat.{ℕ, ◌+◌}
use mathlib.Core.Path.{◌≡◌, ap, ◌∙◌}
use mathlib.Core.List.{[]}
use native.Mathlib.Omega.{arith}
use borrow.Author.Rules.{rules}
use lib.Ieee.{binary64, to_bits}
use lib.ListN.{length}
use Rattle.lemmas.specs.Little.{bytes}
use Rattle.lemmas.specs.Slices.{put}
use Rattle.model.specs.Snapshot.{number_long}
use Rattle.model_replay.specs.Form.{tag}
use Rattle.model_replay.specs.Recording.{scored_tag, by_hand_tag}
use Rattle.replay_given.specs.Given.{why_bytes}
use Rattle.replay_given.specs.GivenLaws.{scored_is, by_hand_is, score_number, bare_long, bare_laid, numbered_long, numbered_laid}
use Rattle.replay_given.proofs.put_why.Statement.{statement}
use Rattle.replay_given.proofs.put_why.Tie as tie

enum-known-c : tie.Need-enum_known-c
enum-known-c c = search rules

-- by size: its tag, then the bits of its score
scored : (t : tie.In-Size) → why_bytes t.args.c ≡ tag scored_tag (bytes number_long (to_bits binary64 t.in-Size.x))
scored t = scored_is t.args.c t.in-Size.x t.in-Size.is

-- nine bytes
long : (t : tie.In-Size) → length (why_bytes t.args.c) ≡ 1 + 8
long t = numbered_long (why_bytes t.args.c) scored_tag number_long (to_bits binary64 t.in-Size.x) (scored t)

put-number-requires : tie.Need-put_number-requires
put-number-requires c κs =
    let n = long c.before in
    omega arith

add-put-number : tie.Need-overflow_add-at
add-put-number c = search rules

bits-of-requires : tie.Need-bits_of-requires
bits-of-requires c κs =
    let t = c in
    let s = t in
    score_number s.args.c t.in-Size.x t.in-Size.is s.requires.0

put-number-requires-2 : tie.Need-put_number-requires-in-Size
put-number-requires-2 c κs =
    let n = long c.before.before.before.before.before.before in
    omega arith

add-result : tie.Need-overflow_add-result
add-result c = search rules

enum_told : tie.Need-enum_told-1
enum_told c = search rules

-- manual: a tag
by_hand_lem : (t : tie.In-Manual) → why_bytes t.args.c ≡ tag by_hand_tag []
by_hand_lem t = by_hand_is t.args.c t.in-Manual.is

put-number-requires-3 : tie.Need-put_number-requires-in-Manual
put-number-requires-3 c κs =
    let t = c.before in
    let n = bare_long (why_bytes t.args.c) by_hand_tag (by_hand_lem t) in
    omega arith

add-result-2 : tie.Need-overflow_add-result-in-Manual
add-result-2 c = search rules

same_length : tie.Need-shape_of-out-in-Size
same_length c = search rules

returns : tie.Need-returns-in-Size
returns c =
    let p₂ = c in
    let b = p₂ in
    let p₁ = b in
    let t = p₁.before.before.before.before.before.before.before.before.before in
    let a = t.args in
    let n = long t in
    let e : p₂.put_number-in-Size.new.out ≡ put p₁.put_number.new.out (a.at + 1) (bytes number_long (to_bits binary64 t.in-Size.x)) =
    p₂.put_number-in-Size.ensures ∙ ap (λ (m : ℕ). put p₁.put_number.new.out (a.at + 1) (bytes number_long m)) b.bits_of.ensures in (
      omega arith,
      numbered_laid (why_bytes a.c) scored_tag number_long (to_bits binary64 t.in-Size.x) (scored t) a.out.now p₁.put_number.new.out p₂.put_number-in-Size.new.out a.at (omega arith)
          p₁.put_number.ensures e,
    )

same_length_2 : tie.Need-shape_of-out-in-Manual
same_length_2 c = search rules

returns_2 : tie.Need-returns-in-Manual
returns_2 c =
    let p = c in
    let t = p.before.before.before.before in
    let a = t.args in
    let n = bare_long (why_bytes a.c) by_hand_tag (by_hand_lem t) in
    (omega arith, bare_laid (why_bytes a.c) by_hand_tag (by_hand_lem t) a.out.now p.put_number-in-Manual.new.out a.at p.put_number-in-Manual.ensures)

pub put_why_spec : {M : Type 1} → statement M
put_why_spec = tie.close (tie.spec enum-known-c put-number-requires add-put-number bits-of-requires put-number-requires-2 add-result enum_told put-number-requires-3 add-result-2 same_length returns same_length_2 returns_2)
