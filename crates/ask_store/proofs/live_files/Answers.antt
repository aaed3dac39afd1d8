-- `ask_store::live_files` meets its contract. Assumes nothing.
use Rattle.std.proofs.Common.{arith, ◌≡◌, sym, ap, ◌∙◌, true, ◌+◌, ◌-◌, ◌≤◌, min, length, take, replicate, rules, ℕ, List}
use lib.Dec.{ltb}
use Rattle.lemmas.specs.Lists.{sum, sort}
use Rattle.lemmas.specs.ListLaws.{sort_length}
use Rattle.lemmas.specs.Slices.{put}
use Rattle.model.specs.Answer.{Answer}
use Rattle.model.specs.File.{full, numbers, max_files}
use Rattle.model.specs.Calls as calls
use Rattle.answers.specs.declared.Refusal.TheVariants.{Form, Output}
use Rattle.records.specs.Run.{run}
use Rattle.levels.specs.LevelsLaws as levels
use Rattle.store.specs.declared.Store.{Store}
use Rattle.store.specs.Store.{well_store, on_store}
use Rattle.store.specs.StoreLaws.{well_levels_lem}
use Rattle.store.proofs.Shape.{shape}
use Rattle.ask_lookup.specs.Lookup.{fitting}
use Rattle.ask_lookup.specs.LookupLaws.{fitting_short, fitting_gives, answered_refused, answered_gives}
use Rattle.ask_store.specs.QuestionLaws.{live_ill, live_is, numbers_long, numbers_front}
use Rattle.ask_store.proofs.live_files.Goals as goal

-- what is asked, in room for so many
abbrev asked : Store → ℕ → Answer (List ℕ)
asked s room = on_store s (λ t. calls.live full t room)

-- a store that passed its test, and the count of its files
module _ (s : Store) (n : ℕ) (well : well_store s ≡ true) (places : length s.files ≡ max_files) (counted : n ≡ min (sum s.counts) (max_files + 1)) where
  few : n ≤ max_files
  few = let r = ((levels.well_says s.files s.counts).0 (well_levels_lem s well)).sound.room in omega (arith, counted)

  -- the numbers, and how many they are
  abbrev column : List ℕ
  column = numbers (run 0 n s.files)

  all : length column ≡ n
  all = numbers_long n s.files (omega (arith, few, places))

  long : length (sort ltb column) ≡ n
  long = sort_length ltb column ∙ all

  -- the answer is these, sorted
  answer : (room : ℕ) → asked s room ≡ fitting room (sort ltb column)
  answer room = live_is s room well places ∙ ap (λ (k : ℕ). fitting room (sort ltb (numbers (run 0 k s.files)))) (sym counted)

  -- the part of a column that is lent
  front : (c : List ℕ) → c ≡ put (replicate max_files 0) 0 column → take (n - 0) c ≡ column
  front c e = numbers_front n s.files (omega (arith, few, places)) c e

pub returns-then-not-is_well_formed : goal.returns-then-not-is_well_formed
returns-then-not-is_well_formed c =
    let room = length c.args.out.now in
    answered_refused (asked c.args.s room) c.args.out.now Form (live_ill c.args.s room (sym c.is_well_formed.ensures ∙ c.if-not-is_well_formed.true))

pub returns-then-out-n : goal.returns-then-out-n
returns-then-out-n c =
    let s = c.args.s in
    let n = c.counted-n.result in
    let room = length c.args.out.now in
    let w = sym c.is_well_formed.ensures ∙ c.if-not-is_well_formed.false in
    let q = (shape s _ c.well_formed.0).files in
    answered_refused (asked s room) c.args.out.now Output
    (answer s n w q c.counted-n.ensures room ∙ fitting_short room (sort ltb (column s n w q c.counted-n.ensures)) (omega (arith, long s n w q c.counted-n.ensures, c.if-out-n.true)))

pub slice_bounds-lay_rising-end : goal.slice_bounds-lay_rising-end
slice_bounds-lay_rising-end c =
    let room : length c.numbers_of-column.result ≡ max_files = search rules in
    omega (arith, few c.args.s c.counted-n.result (sym c.is_well_formed.ensures ∙ c.if-not-is_well_formed.false) (shape c.args.s _ c.well_formed.0).files c.counted-n.ensures, room)

pub lay_rising-requires : goal.lay_rising-requires
lay_rising-requires c =
    let s = c.args.s in
    let n = c.counted-n.result in
    let w = sym c.is_well_formed.ensures ∙ c.if-not-is_well_formed.false in
    let q = (shape s _ c.well_formed.0).files in
    rw (front s n w q c.counted-n.ensures c.numbers_of-column.result c.numbers_of-column.ensures)
    (omega (arith, few s n w q c.counted-n.ensures, all s n w q c.counted-n.ensures), omega (arith, c.if-out-n.false, all s n w q c.counted-n.ensures))

pub returns : goal.returns
returns c =
    let s = c.args.s in
    let n = c.counted-n.result in
    let room = length c.args.out.now in
    let w = sym c.is_well_formed.ensures ∙ c.if-not-is_well_formed.false in
    let q = (shape s _ c.well_formed.0).files in
    let xs = sort ltb (column s n w q c.counted-n.ensures) in
    answered_gives (asked s room) c.args.out.now xs n c.lay_rising.new.out
    (answer s n w q c.counted-n.ensures room ∙ fitting_gives room xs (omega (arith, long s n w q c.counted-n.ensures, c.if-out-n.false)))
    (long s n w q c.counted-n.ensures)
    (c.lay_rising.ensures ∙ ap (λ (l : List ℕ). put c.args.out.now 0 (sort ltb l)) (front s n w q c.counted-n.ensures c.numbers_of-column.result c.numbers_of-column.ensures))
