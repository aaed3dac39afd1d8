-- `scan` meets its contract: it counts the files at the front that end before the key.
use Rattle.std.proofs.Common.{◌≡◌, ◌+◌, Bool, true, false, cond, suc, List, [], ◌∷◌, take, refl, ◌∙◌, arith, rules, tests}
use Rattle.std.specs.Prelude.{map}
use Rattle.std.specs.List.{prefix_len}
use Rattle.std.proofs.lemmas.Iterator.{YieldsList-from_slice}
use Rattle.std.proofs.lemmas.Iterator.Consumers.{count_from_yields_List}
use Rattle.std.proofs.lemmas.Iterator.Search.{YieldsList-from_take_while}
use Rattle.std.proofs.lemmas.List.Folds.{length-prefix_len}
use Rattle.model.specs.Key as model_key
use Rattle.model.specs.Key.{before}
use Rattle.model.specs.Question.{passed}
use Rattle.keys.specs.Key.{key_of}
use Rattle.records.specs.Record.{file_of}
use Rattle.records.specs.Run.{run}
use Rattle.records.specs.declared.FileRecord.{FileRecord}
use Rattle.ask_find.proofs.scan.Goals as goal

-- the files at the front that end before a key
passed-prefix : (k : model_key.Key) (fs : List FileRecord) → prefix_len (λ (f : FileRecord). before (key_of f.largest) k) fs ≡ passed k (map file_of fs)
unfolding passed file_of
passed-prefix k [] = refl
passed-prefix k (f ∷ fs) = go (passed-prefix k fs) (before (key_of f.largest) k)
  where
    go : prefix_len (λ (g : FileRecord). before (key_of g.largest) k) fs ≡ passed k (map file_of fs) → (t : Bool)
        → cond t (1 + prefix_len (λ (g : FileRecord). before (key_of g.largest) k) fs) 0 ≡ cond t (suc (passed k (map file_of fs))) 0
    go e true = omega arith
    go e false = refl

pub returns : goal.returns
unfolding run
returns c =
    let a = c.args in
    let fs = take a.n a.files in
    let test : FileRecord → Bool = λ f. before (key_of f.largest) (key_of a.k) in
    count_from_yields_List _ _ c.count.ensures.ran (YieldsList-from_take_while _ test (YieldsList-from_slice fs cc) c.take_while.ensures.closure c.take_while.ensures.done (λ x b q k. search (rules, tests)))
    ∙ length-prefix_len test fs ∙ passed-prefix (key_of a.k) fs
