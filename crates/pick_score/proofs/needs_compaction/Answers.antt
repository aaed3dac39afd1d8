-- `pick_score::needs_compaction` meets its contract. Assumes nothing.
use Rattle.std.proofs.Common.{◌≡◌, length, rules, sym, ap, ◌∙◌, Ok}
use Rattle.std.proofs.lemmas.Bool.{not-true, not-false}
use Rattle.lemmas.specs.Slices.{length_of_map}
use Rattle.model.specs.File.{max_files}
use Rattle.store.specs.declared.Looked.{Looked}
use Rattle.store.specs.declared.Store.{Store}
use Rattle.store.specs.Store.{well_store, look_of}
use Rattle.pick_score.specs.Scores.{scored_by, amounts_by}
use Rattle.pick_score.specs.ScoresLaws.{look_amounts, look_scored, work_ill, work_done}
use Rattle.pick_score.proofs.needs_compaction.Goals as goal

-- the look tells whether the store is well-formed
tells : (k : Looked) (s : Store) → k ≡ look_of s → well_store s ≡ k.well
unfolding look_of
tells k s e = sym (ap (λ (x : Looked). x.well) e)

pub returns-then-not-look : goal.returns-then-not-look
returns-then-not-look c =
    work_ill c.args.s (tells _ _ c.look-look.ensures ∙ not-true _ c.if-not-look.true)

pub finalize-requires : goal.finalize-requires
finalize-requires c =
    let n : length c.args.s.files ≡ max_files = search (rules, length_of_map) in
    rw c.look-look.ensures (look_amounts c.args.s (tells _ _ c.look-look.ensures ∙ not-false _ c.if-not-look.false) n)

pub returns : goal.returns
returns c =
    let s = c.args.s in
    let n : length s.files ≡ max_files = search (rules, length_of_map) in
    let well = tells _ _ c.look-look.ensures ∙ not-false _ c.if-not-look.false in
    let same = ap (λ (k : Looked). scored_by (amounts_by k.bytes s.counts)) c.look-look.ensures in
    ap Ok (c.finalize.ensures ∙ same ∙ look_scored s well n) ∙ work_done s well
