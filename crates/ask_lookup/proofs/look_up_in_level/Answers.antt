-- `look_up_in_level` meets its contract: the search by halves ends at the number of files that end before the key. Assumes nothing.
use Rattle.std.proofs.Common.{ap, ◌∙◌, ◌≡◌, cond, [], ◌∷◌, map}
use Rattle.model.specs.Key.{user_before, user}
use Rattle.model.specs.Question.{passed}
use Rattle.keys.specs.Key.{key_of}
use Rattle.records.specs.Record.{file_of}
use Rattle.records.specs.declared.FileRecord.{FileRecord}
use Rattle.ask_find.specs.SearchLaws.{halved_passed}
use Rattle.ask_lookup.specs.Lookup.{candidate_of}
use Rattle.ask_lookup.specs.LookupLaws.{candidate_at, candidate_past}
use Rattle.ask_lookup.proofs.look_up_in_level.Goals as goal

pub returns-then-at-files : goal.returns-then-at-files
returns-then-at-files c =
    let k = key_of c.args.k in
    let rs = c.args.files.now in
    let at : c.search-at.result ≡ passed k (map file_of rs) = c.search-at.ensures ∙ halved_passed k rs c.requires in
    c.chosen.ensures
    ∙ ap (λ (f : FileRecord). cond (user_before (user k) (user (file_of f).smallest)) [] ((file_of f).number ∷ [])) c.nth.ensures
    ∙ candidate_at k rs c.search-at.result at c.if-at-files.true

pub returns-else-at-files : goal.returns-else-at-files
unfolding candidate_of
returns-else-at-files c =
    let k = key_of c.args.k in
    let rs = c.args.files.now in
    let at : c.search-at.result ≡ passed k (map file_of rs) = c.search-at.ensures ∙ halved_passed k rs c.requires in
    candidate_past k rs c.search-at.result at c.if-at-files.false
