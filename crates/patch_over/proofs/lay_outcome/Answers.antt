-- `lay_outcome` meets its contract: its sections are written one after another. Assumes nothing.
use Rattle.std.proofs.Common.{◌≡◌, ◌++◌, true, ℕ, List, drop, arith}
use Rattle.std.proofs.Math.Pow.{are_bytes}
use Rattle.lemmas.specs.AreBytes.{bytes_all}
use Rattle.model.specs.File.{level_count}
use Rattle.model.specs.Snapshot.{section, count_long}
use Rattle.snapshot_parse.specs.Parsing.{number_in}
use Rattle.difference_scan.specs.Listing.{levels_at, as_is}
use Rattle.difference_list.specs.SectionLaws.{count_few}
use Rattle.patch_scan.specs.Outcome.{pointers_in, counters_in, all_counters_over, pointers_over, levels_over, outcome_of}
use Rattle.patch_scan.specs.Over.{Fitted, TooLong}
use Rattle.patch_over.specs.PieceLaws.{by_cases, fitted_within, both_over, second_over, both_fit}
use Rattle.patch_over.proofs.lay_outcome.Goals as goal

-- the three sections
abbrev counters : List ℕ → List ℕ → List ℕ
counters left list = section as_is (all_counters_over left (counters_in list))

abbrev pointers : List ℕ → List ℕ → List ℕ
pointers left list = section as_is (pointers_over left (pointers_in list))

abbrev levels : List ℕ → List ℕ → List ℕ
levels left list = levels_over level_count 0 (levels_at left) (number_in count_long list) (drop count_long list)

pub returns-in_err-counters_end : goal.returns-in_err-counters_end
unfolding outcome_of pointers_in counters_in
returns-in_err-counters_end c =
    let a = c.args in
    let left = a.left.now in
    let list = a.list.now in
    let over : TooLong a.out.now 0 (counters left list) c.lay_counters.new.out = rw (c.section_end-counters_in.ensures.rest, c.section_end-pointers_in.ensures.rest) at c.in_err-counters_end.ensures in
    rw c.from_residual.ensures (both_over a.out.now 0 (counters left list) (pointers left list ++ levels left list) over)

pub returns-in_err-pointers : goal.returns-in_err-pointers
unfolding outcome_of pointers_in counters_in
returns-in_err-pointers c =
    let a = c.args in
    let left = a.left.now in
    let list = a.list.now in
    let n = c.in_ok-counters_end.counters_end in
    let first : Fitted a.out.now 0 (counters left list) c.lay_counters.new.out n = rw (c.section_end-counters_in.ensures.rest, c.section_end-pointers_in.ensures.rest) at c.in_ok-counters_end.ensures in
    let over : TooLong c.lay_counters.new.out n (pointers left list) c.lay_pointers.new.out = rw c.section_end-pointers_in.ensures.rest at c.in_err-pointers.ensures in
    rw c.from_residual-in_err-pointers.ensures (second_over a.out.now 0 (counters left list) (pointers left list ++ levels left list) first c.lay_pointers.new.out (both_over c.lay_counters.new.out n (pointers left list) (levels left list) over))

pub lay_levels-requires : goal.lay_levels-requires
lay_levels-requires c =
    let list = c.args.list.now in
    let are : are_bytes list ≡ true = bytes_all list (λ i. omega (arith, c.type_inv.list i)) in
    let w = c.in_ok-pointers.ensures in
    (w.2.within, c.after-files_in.ensures.1.within, omega (arith, c.get_number-n.ensures, count_few list 0 are), fitted_within _ _ _ _ _ w.0)

pub returns : goal.returns
unfolding outcome_of pointers_in counters_in
returns c =
    let a = c.args in
    let left = a.left.now in
    let list = a.list.now in
    let n = c.in_ok-counters_end.counters_end in
    let first : Fitted a.out.now 0 (counters left list) c.lay_counters.new.out n = rw (c.section_end-counters_in.ensures.rest, c.section_end-pointers_in.ensures.rest) at c.in_ok-counters_end.ensures in
    let m = c.in_ok-pointers.pointers.next in
    let second : Fitted c.lay_counters.new.out n (pointers left list) c.lay_pointers.new.out m = rw c.section_end-pointers_in.ensures.rest at c.in_ok-pointers.ensures.0 in
    let laid = rw (c.in_ok-pointers.ensures.2.rest, c.get_number-n.ensures, c.after-files_in.ensures.1.rest) at c.lay_levels.ensures in
    let out = c.lay_levels.new.out in
    by_cases c.lay_levels.result
    (λ v. second_over a.out.now 0 (counters left list) (pointers left list ++ levels left list) first out (second_over c.lay_counters.new.out n (pointers left list) (levels left list) second out v))
    (λ e v. both_fit a.out.now 0 (counters left list) (pointers left list ++ levels left list) first out e (both_fit c.lay_counters.new.out n (pointers left list) (levels left list) second out e v))
    laid
