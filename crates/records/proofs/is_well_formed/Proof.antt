-- `records::is_well_formed` meets its contract. Assumes nothing.
use Prim.Native.Nat.{◌≤◌}
use mathlib.Core.Path.{◌≡◌, refl, sym, ◌∙◌}
use mathlib.Core.Bool.{Bool, true, false, not, ◌&&◌, and-false}
use native.Mathlib.Omega.{arith}
use lib.Dec.{leb, eqb}
use lib.ListN.{length, take}
use borrow.Author.Rules.{rules}
use borrow.Author.Tests.{le-leb, lt-leb}
use Rattle.lemmas.specs.ListLaws.{and_left, and_true}
use Rattle.model.specs.Key.{good_key, before}
use Rattle.model.specs.File.{full, seeks, good_file, max_size}
use Rattle.keys.specs.declared.Key.{Key}
use Rattle.keys.specs.Key.{key_of, sound_key}
use Rattle.keys.specs.KeyLaws.{sound_front, whole_is}
use Rattle.records.specs.declared.FileRecord.{FileRecord}
use Rattle.records.specs.Record.{sound_record, well_record, file_of, Shaped}
use Rattle.records.proofs.Shape.{shapes}
use Rattle.records.proofs.is_well_formed.Statement.{statement}
use Rattle.records.proofs.is_well_formed.Tie as tie

-- ---- the tests in the order in which they are made
-- two tests in either order
swap : (a b : Bool) → a && b ≡ b && a
swap true b = sym (and_true b)
swap false b = sym (and-false b)

-- three tests of soundness and four of the file: each key's two together, the seeks last
in_turn : (a b c p q o s : Bool) → a && b && c && (p && q && o && s) ≡ a && p && (b && q) && o && s && c
in_turn false b c p q o s = refl
in_turn true b c false q o s = and-false (b && c)
in_turn true false c true q o s = refl
in_turn true true c true q o s = swap c (q && o && s)

-- a key's record is sound, and the key good
abbrev whole : Key → Bool
whole k = sound_key k && good_key full.longest (key_of k)

-- a record is well-formed if the tests pass in that order
well : (r : FileRecord) → well_record r ≡ whole r.smallest && whole r.largest && not (before (key_of r.largest) (key_of r.smallest)) && leb r.size max_size && eqb r.seeks (seeks r.size)
unfolding well_record sound_record good_file file_of
well r =
    in_turn (sound_key r.smallest) (sound_key r.largest) (eqb r.seeks (seeks r.size)) (good_key full.longest (key_of r.smallest)) (good_key full.longest (key_of r.largest))
    (not (before (key_of r.largest) (key_of r.smallest))) (leb r.size max_size)

-- ---- the smallest key
abbrev at_low : tie.After-is_whole → tie.Start
at_low c = c.before.before.before.before.before

is-whole-requires : tie.Need-is_whole-requires
is-whole-requires c κs = search rules

-- what the test of the smallest key says
low : (c : tie.After-is_whole) → c.is_whole.result ≡ whole (at_low c).args.r.smallest
low c = c.is_whole.ensures ∙ whole_is full.longest (at_low c).args.r.smallest

returns : tie.Need-returns-then-not-is_whole
returns c = rw (well (at_low c.before).args.r, sym (low c.before) ∙ c.if-not-is_whole.true)

-- it passed
low_whole : (c : tie.Else-not-is_whole) → whole (at_low c.before).args.r.smallest ≡ true
low_whole c = sym (low c.before) ∙ c.if-not-is_whole.false

-- ---- the largest key
abbrev past_low : tie.After-is_whole-2 → tie.Else-not-is_whole
past_low c = c.before.before.before

abbrev at_high : tie.After-is_whole-2 → tie.Start
at_high c = at_low (past_low c).before

is-whole-requires-2 : tie.Need-is_whole-requires-2
is-whole-requires-2 c κs = search rules

-- what the test of the largest key says
high : (c : tie.After-is_whole-2) → c.is_whole-2.result ≡ whole (at_high c).args.r.largest
high c = c.is_whole-2.ensures ∙ whole_is full.longest (at_high c).args.r.largest

returns_2 : tie.Need-returns-then-not-is_whole-2
returns_2 c = rw (well (at_high c.before).args.r, low_whole (past_low c.before), sym (high c.before) ∙ c.if-not-is_whole-2.true)

-- it passed
high_whole : (c : tie.Else-not-is_whole-2) → whole (at_high c.before).args.r.largest ≡ true
high_whole c = sym (high c.before) ∙ c.if-not-is_whole-2.false

-- ---- the order of the two
abbrev lent : tie.After-precedes-arg-4-1 → tie.Else-not-is_whole-2
lent c = c.before.before.before.before

abbrev start : tie.Else-not-is_whole-2 → tie.Start
start d = at_high d.before

-- the keys have their room
shape : (d : tie.Else-not-is_whole-2) → Shaped (start d).args.r
shape d = search shapes

-- the first bytes that are compared are the keys
smallest : (d : tie.Else-not-is_whole-2) → let k = (start d).args.r.smallest in (k.len ≤ length k.bytes) × (take k.len k.bytes ≡ key_of k)
smallest d =
    let k = (start d).args.r.smallest in
    sound_front k (shape d).smallest (and_left (sound_key k) (good_key full.longest (key_of k)) (low_whole (past_low d.before)))

largest : (d : tie.Else-not-is_whole-2) → let k = (start d).args.r.largest in (k.len ≤ length k.bytes) × (take k.len k.bytes ≡ key_of k)
largest d =
    let k = (start d).args.r.largest in
    sound_front k (shape d).largest (and_left (sound_key k) (good_key full.longest (key_of k)) (high_whole d))

precedes-requires : tie.Need-precedes-requires
precedes-requires c κs =
    let d = lent c in
    let w = shape d in
    ((largest d).0, omega arith, (smallest d).0, omega arith)

-- what the test of their order says
order : (c : tie.After-precedes) → let r = (start (lent c.before)).args.r in c.precedes.result ≡ before (key_of r.largest) (key_of r.smallest)
order c =
    let d = lent c.before in
    rw (← (largest d).1, ← (smallest d).1) c.precedes.ensures

returns_3 : tie.Need-returns-then-precedes
returns_3 c =
    let d = lent c.before.before in
    rw (well (start d).args.r, low_whole (past_low d.before), high_whole d, sym (order c.before) ∙ c.if-precedes.true)

-- ---- size and seeks
-- where the order is right, the rest decides
rest : (c : tie.Else-precedes) → let r = (start (lent c.before.before)).args.r in well_record r ≡ leb r.size max_size && eqb r.seeks (seeks r.size)
rest c =
    let d = lent c.before.before in
    rw (well (start d).args.r, low_whole (past_low d.before), high_whole d, sym (order c.before) ∙ c.if-precedes.false)

returns-4 : tie.Need-returns-then-r-gt-LARGEST_SIZE
returns-4 c =
    let e = c.before.before in
    let r = (start (lent e.before.before)).args.r in
    rw (rest e, lt-leb r.size max_size (omega arith))

allowed-seeks-requires : tie.Need-allowed_seeks-requires
allowed-seeks-requires c κs = search rules

returns-5 : tie.Need-returns
returns-5 c =
    let f = c in
    let e = f.before.before.before.before in
    let r = (start (lent e.before.before)).args.r in
    rw (rest e, le-leb r.size max_size (omega arith), ← c.allowed_seeks.ensures)

pub is_well_formed_spec : {M : Type 1} → statement M
is_well_formed_spec = tie.close (tie.spec is-whole-requires returns is-whole-requires-2 returns_2 precedes-requires returns_3 returns-4 allowed-seeks-requires returns-5)
