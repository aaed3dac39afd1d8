-- `level_list::level_files` meets its contract: the level's places are within the room, and the records there are sound. Assumes nothing.
use Rattle.std.proofs.Common.{◌≡◌, ℕ, ◌+◌, ◌≤◌, ◌<◌, true, take, sym, ap, ◌∙◌, length, get_or, arith, Ok}
use Rattle.model.specs.File.{level_count, max_files}
use Rattle.records.specs.Run.{run}
use Rattle.levels.specs.LevelsLaws as levels
use Rattle.lemmas.specs.Lists.{sum}
use Rattle.store.specs.declared.Store.{Store}
use Rattle.store.specs.Store.{well_store}
use Rattle.store.specs.StoreLaws.{well_levels_lem}
use Rattle.store.proofs.Shape as store_shape
use Rattle.answers.specs.Outcome.{result_of}
use Rattle.level_list.specs.List.{list_of, listed}
use Rattle.level_list.specs.ListLaws.{level_ill, level_beyond, level_done, level_within, level_sound}
use Rattle.level_list.proofs.level_files.Goals as goal

pub returns-then-not-is_well_formed : goal.returns-then-not-is_well_formed
unfolding listed result_of
returns-then-not-is_well_formed c = ap listed (sym (level_ill c.args.s c.args.level (sym c.is_well_formed.ensures ∙ c.if-not-is_well_formed.true)))

-- the level ends within the room
ends : (s : Store) (level from : ℕ) → well_store s ≡ true → length s.counts ≡ level_count → level < level_count → from ≡ sum (take level s.counts)
    → from + get_or s.counts level 0 ≤ max_files
ends s level from w q k e = rw e (level_within s level w q k)

pub returns-then-level-ge-COUNT : goal.returns-then-level-ge-COUNT
unfolding listed result_of
returns-then-level-ge-COUNT c =
    ap listed (sym (level_beyond c.args.s c.args.level (sym c.is_well_formed.ensures ∙ c.if-not-is_well_formed.false) c.if-level-ge-COUNT.true))

pub start_of-from-requires : goal.start_of-from-requires
start_of-from-requires c =
    let s = c.args.s in
    let well : well_store s ≡ true = sym c.is_well_formed.ensures ∙ c.if-not-is_well_formed.false in
    (omega arith, ((levels.well_says s.files s.counts).0 (well_levels_lem s well)).sound.room)

pub overflow_add-to : goal.overflow_add-to
overflow_add-to c =
    let s = c.args.s in
    let well : well_store s ≡ true = sym c.is_well_formed.ensures ∙ c.if-not-is_well_formed.false in
    omega (arith, ends s c.args.level c.start_of-from.result well (store_shape.shape s _ c.well_formed.0).counts c.if-level-ge-COUNT.false c.start_of-from.ensures)

pub list_of-requires : goal.list_of-requires
list_of-requires c =
    let s = c.args.s in
    let well : well_store s ≡ true = sym c.is_well_formed.ensures ∙ c.if-not-is_well_formed.false in
    let seven = (store_shape.shape s _ c.well_formed.0).counts in (
      omega arith,
      ends s c.args.level c.start_of-from.result well seven c.if-level-ge-COUNT.false c.start_of-from.ensures,
      rw c.start_of-from.ensures (level_sound s c.args.level well seven c.if-level-ge-COUNT.false),
    )

pub returns : goal.returns
unfolding listed result_of
returns c =
    let s = c.args.s in
    let n = c.args.level in
    let well : well_store s ≡ true = sym c.is_well_formed.ensures ∙ c.if-not-is_well_formed.false in
    let seven = (store_shape.shape s _ c.well_formed.0).counts in
    let files = c.list_of.ensures ∙ ap (λ (from : ℕ). list_of (run from (from + get_or s.counts n 0) s.files)) c.start_of-from.ensures in
    ap Ok files ∙ ap listed (sym (level_done s n well seven c.if-level-ge-COUNT.false))
