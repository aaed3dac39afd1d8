-- Laws of scores: fractions over a common denominator, the level to compact by the amounts, and the answer's cases. Assumes nothing.
use Prim.Native.Nat.{ℕ, zero, suc, ◌+◌, ◌*◌, ◌-◌, ◌^◌, ◌<◌, ◌≤◌}
use Rattle.std.specs.Prelude.{◌≡◌, refl, Bool, true, false, cond, ltb, length, set, Ok, Err}
use Rattle.std.proofs.Common.{sym, subst, ◌∙◌, add-one, lt-ltb, le-leb}
use Rattle.std.proofs.Math.Path.{ap}
use mathlib.Core.List.{List, [], map}
use native.Mathlib.Omega.{arith}
use Rattle.std.proofs.Math.ListN.{get_or, length-map, get_or-map}
use Rattle.std.proofs.Math.Seq.{get_or-set_same, get_or-set_other}
use Rattle.std.specs.Float.{binary64}
use Rattle.std.specs.Float.Ieee.{of_int, div, to_bits, round, units, odd, size, span, climb}
use Rattle.lemmas.specs.Fractions.{over_one}
use Rattle.lemmas.specs.Lists.{sum}
use Rattle.lemmas.specs.ListLaws.{join_in, join_length}
use Rattle.model.specs.Answer.{refused, first_of, ◌⇒◌}
use Rattle.model.specs.File.{State, full, level, total, well_formed, last_level, level_count, max_files, max_bytes}
use Rattle.model.proofs.Formed.{WF, good_file_says, formed_says}
use Rattle.model.specs.Score.{Score, lower, byte_limit, score, level_to_compact, reported, best_from, Lossless}
use Rattle.model.proofs.ScoreLaws.{best_level, level_is, total_most}
use Rattle.model.specs.Calls as calls
use Rattle.records.specs.Record.{limit_of}
use Rattle.store.specs.Store.{state_of, well_store, look_of, on_store}
use Rattle.store.specs.StoreLaws as store
use Rattle.store.specs.declared.Store.{Store}
use Rattle.answers.specs.Outcome.{result_of}
use Rattle.answers.specs.declared.Refusal.TheVariants.{Form}
use Rattle.pick_score.specs.Scores.{whole_of, score_at, scores_by, times, Amounts, scored_as, amounts_by, scored_by, scored_of, work_record, work_of}

-- ---- fractions over a common denominator

-- each limit times its table entry is 104857600000
pub one_whole : (l : ℕ) → l < last_level → whole_of l * get_or times l 0 ≡ 104857600000
unfolding whole_of times byte_limit
one_whole zero h = refl
one_whole (suc zero) h = refl
one_whole (suc (suc zero)) h = refl
one_whole (suc (suc (suc zero))) h = refl
one_whole (suc (suc (suc (suc zero)))) h = refl
one_whole (suc (suc (suc (suc (suc zero))))) h = refl
one_whole (suc (suc (suc (suc (suc (suc l)))))) h = absurd (omega arith)

-- so scores compare as their amounts times the table entries
pub compares : (amounts : List ℕ) (i j : ℕ) → i < last_level → j < last_level
    → lower (scores_by amounts i) (scores_by amounts j) ≡ ltb (get_or amounts i 0 * get_or times i 0) (get_or amounts j 0 * get_or times j 0)
unfolding lower score_at scores_by
compares amounts i j hi hj =
    over_one (get_or amounts i 0) (whole_of i) (get_or amounts j 0) (whole_of j) (get_or times i 0) (get_or times j 0) 104857600000 (one_whole i hi) (one_whole j hj) (omega arith)

-- the limit of level 0
pub whole_first : (l : ℕ) → l ≡ 0 → 4 ≡ whole_of l
unfolding whole_of
whole_first zero e = refl
whole_first (suc l) e = absurd (omega arith)

-- the limit of a deeper level
pub whole_deeper : (l : ℕ) → (l ≡ 0 → ⊥) → l < last_level → limit_of l ≡ whole_of l
unfolding whole_of limit_of full
whole_deeper zero e h = absurd (e refl)
whole_deeper (suc l) e h =
    let small : suc l + 1 < level_count = omega arith in
    let back : suc l - 1 ≡ l = omega arith in
    rw (le-leb 1 (suc l) (omega arith), lt-ltb (suc l + 1) level_count small, back)

-- amounts within their bounds times the table entries fit 64 bits
pub top_fits : (amounts : List ℕ) (l : ℕ) → Amounts amounts → l < last_level → get_or amounts l 0 * get_or times l 0 < 2 ^ 64
unfolding times
top_fits amounts zero b h = let f = b.files in omega arith
top_fits amounts (suc zero) b h = omega (arith, b.bytes 1)
top_fits amounts (suc (suc zero)) b h = omega (arith, b.bytes 2)
top_fits amounts (suc (suc (suc zero))) b h = omega (arith, b.bytes 3)
top_fits amounts (suc (suc (suc (suc zero)))) b h = omega (arith, b.bytes 4)
top_fits amounts (suc (suc (suc (suc (suc zero))))) b h = omega (arith, b.bytes 5)
top_fits amounts (suc (suc (suc (suc (suc (suc l)))))) b h = absurd (omega arith)

-- the limit of a level with a score is below 2^53
whole_small : (l : ℕ) → l < last_level → whole_of l < 2 ^ 53
unfolding whole_of byte_limit
whole_small zero h = omega arith
whole_small (suc zero) h = omega arith
whole_small (suc (suc zero)) h = omega arith
whole_small (suc (suc (suc zero))) h = omega arith
whole_small (suc (suc (suc (suc zero)))) h = omega arith
whole_small (suc (suc (suc (suc (suc zero))))) h = omega arith
whole_small (suc (suc (suc (suc (suc (suc l)))))) h = absurd (omega arith)

-- so both numbers of a score are below 2^53, for amounts within their bounds
pub amounts_lossless : (amounts : List ℕ) (l : ℕ) → Amounts amounts → l < last_level → Lossless (score_at l (get_or amounts l 0))
unfolding score_at
amounts_lossless amounts l b h = record { part = omega (arith, b.bytes l); whole = whole_small l h }

-- ---- the best level, in one pass up to level n

-- the best level is one of those passed
pub best_below : (sc : ℕ → Score) (n best l : ℕ) → best < l → best_from sc best l n < l + n
unfolding best_from
best_below sc zero best l h = omega arith
best_below sc (suc n) best l h = omega (arith, best_below sc n (cond (lower (sc best) (sc l)) l best) (suc l) (go (lower (sc best) (sc l))))
  where
    go : (t : Bool) → cond t l best < suc l
    go true = omega arith
    go false = omega arith

module _ (sc : ℕ → Score) (n best l : ℕ) where
  -- the level has a greater score than the best so far
  pub best_here : l < n → lower (sc best) (sc l) ≡ true → best_from sc best l (n - l) ≡ best_from sc l (l + 1) (n - (l + 1))
  unfolding best_from
  best_here h t =
      let e : n - l ≡ suc (n - (l + 1)) = omega arith in
      ap (best_from sc best l) e ∙ ap (λ (b : Bool). best_from sc (cond b l best) (suc l) (n - (l + 1))) t ∙ ap (λ (k : ℕ). best_from sc l k (n - (l + 1))) (sym (add-one l))

  -- it has not
  pub best_kept : l < n → lower (sc best) (sc l) ≡ false → best_from sc best l (n - l) ≡ best_from sc best (l + 1) (n - (l + 1))
  unfolding best_from
  best_kept h t =
      let e : n - l ≡ suc (n - (l + 1)) = omega arith in
      ap (best_from sc best l) e ∙ ap (λ (b : Bool). best_from sc (cond b l best) (suc l) (n - (l + 1))) t ∙ ap (λ (k : ℕ). best_from sc best k (n - (l + 1))) (sym (add-one l))

  -- no level is left
  pub best_ended : n ≤ l → best_from sc best l (n - l) ≡ best
  unfolding best_from
  best_ended h = let e : n - l ≡ 0 = omega arith in rw e

-- ---- the amounts of a state: files at level 0, bytes deeper

-- the amounts of all levels: files at level 0, bytes deeper
abbrev pub amounts_of : State → List ℕ
amounts_of t = set (map total t.files) 0 (length (level t 0))

module _ (t : State) (w : WF full t) where
  -- each amount over its limit is the level's score
  pub amounts_score : (l : ℕ) → scores_by (amounts_of t) l ≡ score t l
  unfolding scores_by score_at whole_of score total sum level full
  amounts_score zero =
      let n = w.levels in
      let e = get_or-set_same (map total t.files) 0 (length (level t 0)) 0 (omega (arith, length-map t.files total)) in
      λ i. record { part = e i; whole = 4 }
  amounts_score (suc l) =
      let e = get_or-set_other (map total t.files) 0 (suc l) (length (level t 0)) 0 (λ z. absurd (omega arith)) ∙ get_or-map total t.files (suc l) [] in
      λ i. record { part = e i; whole = byte_limit l }

  -- so the best level by the amounts is the level to compact
  pub amounts_best : best_from (scores_by (amounts_of t)) 0 1 5 ≡ level_to_compact full t
  unfolding full
  amounts_best = (λ i. best_from (λ l. amounts_score l i) 0 1 5) ∙ best_level full t (omega arith)

  -- it is below the last level
  pub level_below : level_to_compact full t < last_level
  unfolding full
  level_below = (level_is full t (omega arith)).among

  -- its score by the amounts is the state's
  pub amounts_scored : scored_by (amounts_of t) ≡ scored_of t
  unfolding scored_by scored_of
  amounts_scored =
      ap (λ (l : ℕ). scored_as l (scores_by (amounts_of t) l)) amounts_best ∙ ap (scored_as (level_to_compact full t)) (amounts_score (level_to_compact full t))

  -- each amount is the numerator of the level's score
  part_is : (l : ℕ) → get_or (amounts_of t) l 0 ≡ (score t l).part
  unfolding score_at scores_by
  part_is l = ap (λ (c : Score). c.part) (amounts_score l)

  -- no level has more files than the room
  few : (l : ℕ) → length (level t l) ≤ max_files
  unfolding full level
  few l = omega (arith, join_length t.files l, w.room)

  -- no level has more bytes than a full version
  level_bytes : (l : ℕ) → total (level t l) ≤ max_bytes
  unfolding full level
  level_bytes l =
      let fs = level t l in
      let most = total_most fs (λ f m. ((good_file_says full f).0 (w.good f (join_in t.files l f m))).size) in
      omega (arith, few l)

  -- the amounts are within their bounds
  pub amounts_bounded : Amounts (amounts_of t)
  unfolding score
  amounts_bounded = record { files = rw (part_is 0) (few 0); bytes = bound }
    where
      bound : (l : ℕ) → get_or (amounts_of t) l 0 ≤ max_bytes
      bound zero = rw (part_is 0) (omega (arith, few 0))
      bound (suc l) = rw (part_is (suc l)) (level_bytes (suc l))

-- ---- a look at a well-formed store

module _ (s : Store) (h : well_store s ≡ true) (q : length s.files ≡ max_files) where
  -- the amounts that it gives are those of the state
  look_state : amounts_by (look_of s).bytes s.counts ≡ amounts_of (state_of s)
  unfolding amounts_by state_of
  look_state = cc ((store.look_bytes s h q).1, store.level_count_lem s h q 0)

  -- the state is well-formed
  formed : WF full (state_of s)
  formed = (formed_says full (state_of s)).0 ((store.well_says s).0 h).formed

  -- so they are within their bounds
  pub look_amounts : Amounts (amounts_by (look_of s).bytes s.counts)
  look_amounts = subst Amounts (sym look_state) (amounts_bounded (state_of s) formed)

  -- the level to compact by them is that of the state, with its score
  pub look_scored : scored_by (amounts_by (look_of s).bytes s.counts) ≡ scored_of (state_of s)
  look_scored = ap scored_by look_state ∙ amounts_scored (state_of s) formed

-- ---- the answer

-- a state that is not well-formed: 14
state_ill : (t : State) → well_formed full t ≡ false → calls.needs_compaction full t ≡ refused 14
unfolding calls.needs_compaction first_of ◌⇒◌
state_ill t e = rw e

-- a store that is not well-formed: 14
pub work_ill : (s : Store) → well_store s ≡ false → Err Form ≡ work_of (on_store s (calls.needs_compaction full))
unfolding work_of result_of
work_ill s h = ap work_of (sym (store.on_store_ill s (calls.needs_compaction full) (state_ill (state_of s)) h))

-- a well-formed store: the level to compact and its score
pub work_done : (s : Store) → well_store s ≡ true → Ok (scored_of (state_of s)) ≡ work_of (on_store s (calls.needs_compaction full))
unfolding work_of work_record result_of scored_of scored_as calls.needs_compaction first_of ◌⇒◌
work_done s h = rw (store.on_store_well s (calls.needs_compaction full) h, ((store.well_says s).0 h).formed)

-- ---- examples

-- E2's level 1 with 10485760 bytes has the score 1.0
pub score_one : to_bits binary64 (reported (score_at 1 10485760)) ≡ 0x3ff0_0000_0000_0000
unfolding score_at whole_of byte_limit reported to_bits div of_int round units odd size span climb
score_one = refl

-- with one byte less the quotient is rounded
pub score_below : to_bits binary64 (reported (score_at 1 10485759)) ≡ 0x3fef_ffff_cccc_cccd
unfolding score_at whole_of byte_limit reported to_bits div of_int round units odd size span climb
score_below = refl

-- three files at level 0 have the score 0.75
pub score_files : to_bits binary64 (reported (score_at 0 3)) ≡ 0x3fe8_0000_0000_0000
unfolding score_at whole_of reported to_bits div of_int round units odd size span climb
score_files = refl
