-- `store::passes` meets its contract: counters, pointers and levels are tested, the first test that fails decides. Assumes nothing.
use Rattle.std.proofs.Common.{◌≡◌, sym, ◌∙◌, rules, tests}
use Rattle.std.proofs.lemmas.Iterator.{YieldsList-from_slice}
use Rattle.std.proofs.lemmas.Iterator.Search.{all_from_yields_List}
use Rattle.lemmas.specs.Listed.{all_listed}
use Rattle.lemmas.specs.Lists.{all}
use Rattle.store.specs.Store.{well_pointer}
use Rattle.store.proofs.passes.Goals as goal

pub returns-then-not-are_bounded : goal.returns-then-not-are_bounded
returns-then-not-are_bounded c = sym (rw (sym c.are_bounded.ensures ∙ c.if-not-are_bounded.true))

pub returns-then-not-all : goal.returns-then-not-all
returns-then-not-all c =
    let t = sym c.are_bounded.ensures ∙ c.if-not-are_bounded.false in
    let e : c.all.result ≡ all well_pointer c.args.pointers =
    all_from_yields_List well_pointer _ _ c.all.result c.all.ensures.ran (YieldsList-from_slice c.args.pointers cc) (λ x b p k. search (rules, tests)) ∙ all_listed well_pointer c.args.pointers in
    sym (rw (t, sym e ∙ c.if-not-all.true))

pub returns : goal.returns
returns c =
    let t = sym c.are_bounded.ensures ∙ c.if-not-are_bounded.false in
    let e : c.all.result ≡ all well_pointer c.args.pointers =
    all_from_yields_List well_pointer _ _ c.all.result c.all.ensures.ran (YieldsList-from_slice c.args.pointers cc) (λ x b p k. search (rules, tests)) ∙ all_listed well_pointer c.args.pointers in
    sym (rw (t, sym e ∙ c.if-not-all.false) (sym c.are_well_formed.ensures))
