-- `counters::are_bounded` meets its contract. Assumes nothing.
use mathlib.Core.Path.{sym}
use borrow.Author.Tests.{le-leb, lt-leb}
use Rattle.lemmas.specs.Lists.{all}
use Rattle.lemmas.specs.ListLaws.{and_true}
use Rattle.model.specs.File.{good_counters, max_counter}
use Rattle.counters.specs.Counters.{counters_of}
use Rattle.counters.proofs.are_bounded.Statement.{statement}
use Rattle.counters.proofs.are_bounded.Tie as tie

returns : tie.Need-returns-then-next-gt-LARGEST
unfolding good_counters all counters_of
returns c = rw (lt-leb _ max_counter c.if-next-gt-LARGEST.true)

returns_2 : tie.Need-returns-then-manifest-gt-LARGEST
unfolding good_counters all counters_of
returns_2 c =
    let e = c in
    rw (le-leb _ max_counter e.if-next-gt-LARGEST.false, lt-leb _ max_counter c.if-manifest-gt-LARGEST.true)

returns_3 : tie.Need-returns-then-last-gt-LARGEST
unfolding good_counters all counters_of
returns_3 c =
    let g = c in
    let e = g in
    rw (le-leb _ max_counter e.if-next-gt-LARGEST.false, le-leb _ max_counter g.if-manifest-gt-LARGEST.false, lt-leb _ max_counter c.if-last-gt-LARGEST.true)

returns-4 : tie.Need-returns-then-log-gt-LARGEST
unfolding good_counters all counters_of
returns-4 c =
    let h = c in
    let g = h in
    let e = g in
    rw (le-leb _ max_counter e.if-next-gt-LARGEST.false, le-leb _ max_counter g.if-manifest-gt-LARGEST.false, le-leb _ max_counter h.if-last-gt-LARGEST.false, lt-leb _ max_counter c.if-log-gt-LARGEST.true)

returns-5 : tie.Need-returns
unfolding good_counters all counters_of
returns-5 c =
    let k = c in
    let h = k in
    let g = h in
    let e = g in
    rw (le-leb _ max_counter e.if-next-gt-LARGEST.false, le-leb _ max_counter g.if-manifest-gt-LARGEST.false, le-leb _ max_counter h.if-last-gt-LARGEST.false, le-leb _ max_counter k.if-log-gt-LARGEST.false) (sym (and_true _))

pub are_bounded_spec : {M : Type 1} → statement M
are_bounded_spec = tie.close (tie.spec returns returns_2 returns_3 returns-4 returns-5)
