-- `store::fresh_store` meets its contract. Assumes nothing.
use mathlib.Core.Path.{sym, ◌∙◌}
use mathlib.Core.Bool.{false}
use borrow.Author.Rules.{rules}
use lib.ListN.{replicate}
use Rattle.model.specs.File.{full, fresh, level_count}
use Rattle.counters.specs.Counters.{counters_record}
use Rattle.levels.specs.Levels.{counts_of}
use Rattle.levels.specs.LevelsLaws.{laid_none}
use Rattle.store.specs.Store.{store_of, pointer_record}
use Rattle.store.proofs.fresh_store.Statement.{statement}
use Rattle.store.proofs.fresh_store.Tie as tie

blank-key-requires : tie.Need-blank_key-key-requires
blank-key-requires c κs = search rules

blanks-requires : tie.Need-blanks-files-requires
blanks-requires c κs = search rules

returns : tie.Need-returns
unfolding store_of fresh full counts_of pointer_record counters_record
returns c =
    let files = c.blanks-files.ensures ∙ sym (laid_none level_count) in
    let key = c.blank_key-key.ensures in
    λ i. record {
      files = files i;
      counts = replicate level_count 0;
      pointers = replicate level_count (record { set = false; key = key i });
      counters = record { next = record { 0 = 2 }; manifest = record { 0 = 0 }; last = record { 0 = 0 }; log = record { 0 = 0 }; previous = record { 0 = 0 } };
    }

pub fresh_store_spec : {M : Type 1} → statement M
fresh_store_spec = tie.close (tie.spec blank-key-requires blanks-requires returns)
