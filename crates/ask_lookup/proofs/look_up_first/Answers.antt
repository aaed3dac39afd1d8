-- `look_up_first` meets its contract: 13, else the numbers as distances, sorted and turned back. Assumes nothing.
use Rattle.std.proofs.Common.{◌≡◌, ℕ, List, map, length, ltb, sym, ap, ◌∙◌, arith, rules}
use Rattle.std.proofs.Math.ListN.{length-map}
use Rattle.lemmas.specs.Lists.{sort}
use Rattle.lemmas.specs.ListLaws.{sort_length}
use Rattle.lemmas.specs.Slices.{put}
use Rattle.model.specs.File.{max_files}
use Rattle.model.specs.Key.{user}
use Rattle.model.specs.Question.{holds, lookup}
use Rattle.answers.specs.declared.Refusal.TheVariants.{Output}
use Rattle.keys.specs.declared.Key.{Key}
use Rattle.keys.specs.declared.UserKey.{UserKey}
use Rattle.keys.specs.Key.{key_of, user_of, user_record}
use Rattle.keys.specs.KeyLaws.{user_of_record, user_short}
use Rattle.records.specs.RecordLaws.{AllWords}
use Rattle.records.specs.Run.{run}
use Rattle.records.specs.declared.FileRecord.{FileRecord}
use Rattle.records.proofs.Shape.{all_words}
use Rattle.ask_lookup.specs.declared.Column.{Column}
use Rattle.ask_lookup.specs.Lookup.{fitting, flip, column_of}
use Rattle.ask_lookup.specs.FallingLaws.{laid_turned}
use Rattle.ask_lookup.specs.LookupLaws.{fitting_short, fitting_gives, answered_refused, answered_gives, turned, small_numbers, few_turned, column_count, column_front, first_is}
use Rattle.ask_lookup.proofs.look_up_first.Goals as goal

module _ (files : List FileRecord) (n : ℕ) (k : Key) where
  -- the numbers of the files that hold the key's user key, as distances
  abbrev column : List ℕ
  column = turned (holds (user (key_of k))) (run 0 n files)

  -- the column of a call is theirs
  held : (u : UserKey) (d : Column) → u ≡ user_record (user (key_of k)) → d ≡ column_of (turned (holds (user_of u)) (run 0 n files)) → d ≡ column_of column
  held u d e h =
      h ∙ ap (λ (v : UserKey). column_of (turned (holds (user_of v)) (run 0 n files))) e
      ∙ ap (λ (v : List ℕ). column_of (turned (holds v) (run 0 n files))) (user_of_record (user (key_of k)) (user_short k))

  module _ (w : AllWords files) where
    -- the answer is the column, sorted and turned
    answer : map flip (sort ltb column) ≡ lookup 0 (run 0 n files) (key_of k)
    answer = first_is (key_of k) (run 0 n files) (small_numbers (holds (user (key_of k))) 0 n files w)

    -- it is as long as the column
    as_long : length (lookup 0 (run 0 n files) (key_of k)) ≡ length column
    as_long = sym (ap length answer) ∙ length-map (sort ltb column) flip ∙ sort_length ltb column

pub returns-then-out-count : goal.returns-then-out-count
returns-then-out-count c =
    let a = c.args in
    let q : length a.files ≡ max_files = search rules in
    let few = few_turned (holds (user (key_of a.k))) a.n a.files (omega arith) c.requires in
    let h = held a.files a.n a.k c.user_key.result c.holding-c.result c.user_key.ensures c.holding-c.ensures in
    let xs = lookup 0 (run 0 a.n a.files) (key_of a.k) in
    let room = length a.out.now in
    let count = column_count c.holding-c.result (column a.files a.n a.k) h few in
    answered_refused (fitting room xs) a.out.now Output (fitting_short room xs (omega (arith, as_long a.files a.n a.k (all_words max_files a.files _ c.well_formed.0), count)))

pub slice_bounds-lay_rising-end : goal.slice_bounds-lay_rising-end
slice_bounds-lay_rising-end c =
    let a = c.args in
    let q : length a.files ≡ max_files = search rules in
    let few = few_turned (holds (user (key_of a.k))) a.n a.files (omega arith) c.requires in
    let h = held a.files a.n a.k c.user_key.result c.holding-c.result c.user_key.ensures c.holding-c.ensures in
    omega (arith, column_count c.holding-c.result (column a.files a.n a.k) h few)

pub returns : goal.returns
returns c =
    let a = c.args in
    let q : length a.files ≡ max_files = search rules in
    let few = few_turned (holds (user (key_of a.k))) a.n a.files (omega arith) c.requires in
    let d = c.holding-c.result in
    let h = held a.files a.n a.k c.user_key.result d c.user_key.ensures c.holding-c.ensures in
    let words = all_words max_files a.files _ c.well_formed.0 in
    let ns = column a.files a.n a.k in
    let xs = lookup 0 (run 0 a.n a.files) (key_of a.k) in
    let room = length a.out.now in
    let count = column_count d ns h few in
    let long = as_long a.files a.n a.k words in
    let rising : c.lay_rising.new.out ≡ put a.out.now 0 (sort ltb ns) = c.lay_rising.ensures ∙ ap (λ (l : List ℕ). put a.out.now 0 (sort ltb l)) (column_front d ns h few) in
    let falling : c.flip_front.new.out ≡ put a.out.now 0 (map flip (sort ltb ns)) =
    laid_turned a.out.now c.lay_rising.new.out c.flip_front.new.out (sort ltb ns) d.count (sort_length ltb ns ∙ sym count) rising c.flip_front.ensures in
    answered_gives (fitting room xs) a.out.now xs d.count c.flip_front.new.out (fitting_gives room xs (omega (arith, long, count))) (long ∙ sym count)
    (falling ∙ ap (put a.out.now 0) (answer a.files a.n a.k words))
