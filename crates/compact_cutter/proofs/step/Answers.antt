-- `step` meets its contract: 14, then 2, then whether to cut and the memory after the key. Assumes nothing.
use Rattle.std.proofs.Common.{sym, ap, ◌∙◌, Ok}
use Rattle.answers.specs.Outcome.{result_of}
use Rattle.compact_cutter.specs.Cutter.{cut_by}
use Rattle.compact_cutter.specs.CutterLaws.{stop_ill, stop_bad, stop_key, stop_done}
use Rattle.compact_cutter.proofs.step.Goals as goal

pub returns-then-not-is_well_formed : goal.returns-then-not-is_well_formed
unfolding cut_by result_of
returns-then-not-is_well_formed c =
    let a = c.args in
    ap cut_by (sym (stop_ill a.c a.m a.k (sym c.is_well_formed.ensures ∙ c.if-not-is_well_formed.true)))

pub returns-then-not-is_good_memory : goal.returns-then-not-is_good_memory
unfolding cut_by result_of
returns-then-not-is_good_memory c =
    let a = c.args in
    let well = sym c.is_well_formed.ensures ∙ c.if-not-is_well_formed.false in
    ap cut_by (sym (stop_bad a.c a.m a.k well (sym c.is_good_memory.ensures ∙ c.if-not-is_good_memory.true)))

pub returns-then-not-is_good : goal.returns-then-not-is_good
unfolding cut_by result_of
returns-then-not-is_good c =
    let a = c.args in
    let well = sym c.is_well_formed.ensures ∙ c.if-not-is_well_formed.false in
    let good = sym c.is_good_memory.ensures ∙ c.if-not-is_good_memory.false in
    ap cut_by (sym (stop_key a.c a.m a.k well good (sym c.is_good.ensures ∙ c.if-not-is_good.true)))

pub returns : goal.returns
unfolding cut_by result_of
returns c =
    let a = c.args in
    let well = sym c.is_well_formed.ensures ∙ c.if-not-is_well_formed.false in
    let good = sym c.is_good_memory.ensures ∙ c.if-not-is_good_memory.false in
    ap Ok c.advance.ensures ∙ ap cut_by (sym (stop_done a.c a.m a.k well good (sym c.is_good.ensures ∙ c.if-not-is_good.false)))
