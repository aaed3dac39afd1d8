-- `ask_store::memtable_output_level` meets its contract. Assumes nothing.
use Prim.Native.Nat.{ℕ, ◌+◌, ◌≤◌, min}
use mathlib.Core.Bool.{true, false}
use mathlib.Core.Path.{◌≡◌, sym, ap, ◌∙◌}
use mathlib.Core.List.{List}
use native.Mathlib.Omega.{arith}
use borrow.Author.Rules.{rules}
use lib.ListN.{get_or, take}
use Rattle.lemmas.specs.Lists.{any, keep, sum}
use Rattle.model.specs.File.{File, State, full, level, total, level_count, max_word}
use Rattle.model.specs.Range.{Range, overlaps}
use Rattle.records.specs.Run.{run}
use Rattle.store.specs.Store.{state_of}
use Rattle.store.proofs.Shape.{shape}
use Rattle.pick_range.specs.Ranges.{span_of}
use Rattle.model.specs.Question.{memtable_level}
use Rattle.ask_store.specs.QuestionLaws.{level_at, starts_first, ends_first, ends_next, ends_within, meets, heavy, table_stays, table_next, table_heavy, table_second, table_heavier, table_deepest, heavy_yes, heavy_no}
use Rattle.ask_store.proofs.memtable_output_level.Statement.{statement}
use Rattle.ask_store.proofs.memtable_output_level.Tie as tie

-- the state, the range, and where the first four levels end
abbrev state : tie.Start → State
state s = state_of s.args.s

abbrev range : tie.Start → Range
range s = span_of s.args.span

abbrev files : tie.Start → ℕ → ℕ → List File
files s from to = run from to s.args.s.files

abbrev first : tie.Start → ℕ
first s = get_or s.args.s.counts 0 0

abbrev second : tie.Start → ℕ
second s = first s + get_or s.args.s.counts 1 0

abbrev third : tie.Start → ℕ
third s = second s + get_or s.args.s.counts 2 0

abbrev fourth : tie.Start → ℕ
fourth s = third s + get_or s.args.s.counts 3 0

ends_second : (s : tie.Start) → sum (take 2 s.args.s.counts) ≡ second s
ends_second s = ends_next s.args.s 1 (first s) (ends_first s.args.s)

ends_third : (s : tie.Start) → sum (take 3 s.args.s.counts) ≡ third s
ends_third s = ends_next s.args.s 2 (second s) (ends_second s)

-- a level is the run between two of these
at : (s : tie.Start) (l a b : ℕ) → l + 1 ≤ level_count → sum (take l s.args.s.counts) ≡ a → a + get_or s.args.s.counts l 0 ≡ b → level (state s) l ≡ files s a b
at s l a b h = level_at s.args.s (shape s.args.s _ s.well_formed.0).counts l a b (omega arith)

array-read-first : tie.Need-bounds-counts-0
array-read-first c = search rules

has-overlap-requires : tie.Need-has_overlap-requires
has-overlap-requires c κs = search rules

-- whether level 0 overlaps
seen_0 : (c : tie.After-has_overlap) → let s = c.before.before.before in meets (state s) (range s) 0 ≡ c.has_overlap.result
seen_0 c =
    let s = c.before.before.before in
    ap (any (overlaps (range s))) (at s 0 0 (first s) (omega arith) (starts_first s.args.s) (omega arith)) ∙ sym c.has_overlap.ensures

returns : tie.Need-returns-then-has_overlap
returns c =
    let o = c.before in
    let s = o.before.before.before in
    sym (table_stays (state s) (range s) (seen_0 o ∙ c.if-has_overlap.true))

array-read-second : tie.Need-bounds-counts-1
array-read-second c = search rules

add-second : tie.Need-overflow_add-second
add-second c = let s = c.before.before.before.before in omega (arith, ends_within s.args.s s.requires 1 (first s) (ends_first s.args.s))

has-overlap-requires-2 : tie.Need-has_overlap-requires-2
has-overlap-requires-2 c κs = search rules

-- whether level 1 does
seen_1 : (c : tie.After-has_overlap-2) → let s = c.before.before.before.before.before in meets (state s) (range s) 1 ≡ c.has_overlap-2.result
seen_1 c =
    let s = c.before.before.before.before.before in
    ap (any (overlaps (range s))) (at s 1 (first s) (second s) (omega arith) (ends_first s.args.s) (omega arith)) ∙ sym c.has_overlap-2.ensures

returns_2 : tie.Need-returns-then-has_overlap-2
returns_2 c =
    let o = c.before in
    let e = o in
    let s = e.before.before.before.before.before in
    sym (table_next (state s) (range s) (seen_0 e.before.before ∙ e.if-has_overlap.false) (seen_1 o ∙ c.if-has_overlap-2.true))

array-read-third : tie.Need-bounds-counts-2
array-read-third c = search rules

add-third : tie.Need-overflow_add-third
add-third c = let s = c.before.before.before.before.before.before in omega (arith, ends_within s.args.s s.requires 2 (second s) (ends_second s))

overlapping-bytes-requires : tie.Need-overlapping_bytes-requires
overlapping-bytes-requires c κs = search rules

-- the overlapping bytes of level 2
bytes_2 : (c : tie.After-overlapping_bytes) → let s = c.before.before.before.before.before.before.before in c.overlapping_bytes.result ≡ min (total (keep (overlaps (range s)) (level (state s) 2))) max_word
bytes_2 c =
    let s = c.before.before.before.before.before.before.before in
    c.overlapping_bytes.ensures ∙ ap (λ (fs : List File). min (total (keep (overlaps (range s)) fs)) max_word) (sym (at s 2 (second s) (third s) (omega arith) (ends_second s) (omega arith)))

returns_3 : tie.Need-returns-then-overlapping_bytes-gt-MOST_OVERLAP
returns_3 c =
    let b = c.before in
    let d = b in
    let o = d.before.before in
    let e = o in
    let s = e.before.before.before.before.before in
    sym (table_heavy (state s) (range s) (seen_0 e.before.before ∙ e.if-has_overlap.false) (seen_1 o ∙ d.if-has_overlap-2.false) (heavy_yes _ b.overlapping_bytes.result (bytes_2 b) c.if-overlapping_bytes-gt-MOST_OVERLAP.true))

has-overlap-requires-3 : tie.Need-has_overlap-requires-3
has-overlap-requires-3 c κs = search rules

-- whether level 2 overlaps
seen_2 : (c : tie.After-has_overlap-3) → let s = c.before.before.before.before.before.before.before.before.before in meets (state s) (range s) 2 ≡ c.has_overlap-3.result
seen_2 c =
    let s = c.before.before.before.before.before.before.before.before.before in
    ap (any (overlaps (range s))) (at s 2 (second s) (third s) (omega arith) (ends_second s) (omega arith)) ∙ sym c.has_overlap-3.ensures

returns-4 : tie.Need-returns-then-has_overlap-3
returns-4 c =
    let p = c.before in
    let f = p in
    let b = f.before.before in
    let d = b in
    let o = d.before.before in
    let e = o in
    let s = e.before.before.before.before.before in
    sym (table_second (state s) (range s) (seen_0 e.before.before ∙ e.if-has_overlap.false) (seen_1 o ∙ d.if-has_overlap-2.false) (heavy_no _ b.overlapping_bytes.result (bytes_2 b) f.if-overlapping_bytes-gt-MOST_OVERLAP.false) (seen_2 p ∙ c.if-has_overlap-3.true))

array-read-fourth : tie.Need-bounds-counts-3
array-read-fourth c = search rules

add-fourth : tie.Need-overflow_add-fourth
add-fourth c =
    let s = c.before.before.before.before.before.before.before.before.before.before in
    omega (arith, ends_within s.args.s s.requires 3 (third s) (ends_third s))

overlapping-bytes-requires-2 : tie.Need-overlapping_bytes-requires-2
overlapping-bytes-requires-2 c κs = search rules

-- the overlapping bytes of level 3
bytes_3 : (c : tie.After-overlapping_bytes-2) → let s = c.before.before.before.before.before.before.before.before.before.before.before in c.overlapping_bytes-2.result ≡ min (total (keep (overlaps (range s)) (level (state s) 3))) max_word
bytes_3 c =
    let s = c.before.before.before.before.before.before.before.before.before.before.before in
    c.overlapping_bytes-2.ensures ∙ ap (λ (fs : List File). min (total (keep (overlaps (range s)) fs)) max_word) (sym (at s 3 (third s) (fourth s) (omega arith) (ends_third s) (omega arith)))

-- levels 0 to 2 let it through: the bytes of level 3 decide
decides : (h : tie.After-overlapping_bytes-2)
    → let s = h.before.before.before.before.before.before.before.before.before.before.before in
    (heavy (state s) (range s) 3 ≡ true → memtable_level full (state s) (range s) ≡ 1) × (heavy (state s) (range s) 3 ≡ false → memtable_level full (state s) (range s) ≡ 2)
decides h =
    let g = h.before in
    let p = g.before in
    let f = p.before in
    let b = f.before in
    let d = b.before in
    let o = d.before in
    let e = o.before in
    let s = e.before.before.before.before in
    let none_0 = seen_0 e.before ∙ e.if-has_overlap.false in
    let none_1 = seen_1 o ∙ d.if-has_overlap-2.false in
    let few_2 = heavy_no _ b.overlapping_bytes.result (bytes_2 b) f.if-overlapping_bytes-gt-MOST_OVERLAP.false in
    let none_2 = seen_2 p ∙ g.if-has_overlap-3.false in
    (table_heavier (state s) (range s) none_0 none_1 few_2 none_2, table_deepest (state s) (range s) none_0 none_1 few_2 none_2)

returns-5 : tie.Need-returns-then-overlapping_bytes-gt-MOST_OVERLAP-2
returns-5 c = let h = c.before in sym ((decides h).0 (heavy_yes _ h.overlapping_bytes-2.result (bytes_3 h) c.if-overlapping_bytes-gt-MOST_OVERLAP-2.true))

returns-6 : tie.Need-returns
returns-6 c = let h = c.before in sym ((decides h).1 (heavy_no _ h.overlapping_bytes-2.result (bytes_3 h) c.if-overlapping_bytes-gt-MOST_OVERLAP-2.false))

pub memtable_output_level_spec : {M : Type 1} → statement M
memtable_output_level_spec = tie.close (tie.spec array-read-first has-overlap-requires returns array-read-second add-second has-overlap-requires-2 returns_2 array-read-third add-third overlapping-bytes-requires returns_3 has-overlap-requires-3 returns-4 array-read-fourth add-fourth overlapping-bytes-requires-2 returns-5 returns-6)
