-- Laws of bytes that are written piece by piece as far as the output has room, and of the counters of an outcome, written so. Assumes nothing.
use Prim.Native.Nat.{ℕ, zero, suc, ◌+◌, ◌-◌, ◌*◌, ◌≤◌, ◌<◌}
use Rattle.std.specs.Prelude.{◌≡◌, refl, Bool, true, false, cond, ◌&&◌, eqb, ltb, length, take, drop}
use Rattle.std.proofs.Common.{sym, ap, ◌∙◌, lt-ltb, le-ltb, ltb-true, length-append}
use mathlib.Core.List.{List, [], ◌∷◌, ◌++◌, map-id}
use native.Mathlib.Omega.{arith}
use Rattle.lemmas.specs.Order.{clash}
use Rattle.lemmas.specs.Lists.{join}
use Rattle.lemmas.specs.Little.{bytes, bytes_length}
use Rattle.lemmas.specs.Slices.{put, put_nil}
use Rattle.lemmas.specs.Laying.{put_next}
use Rattle.model.specs.Snapshot.{section, byte_long, count_long, number_long, counter_count, next_at}
use Rattle.snapshot_parse.specs.Parsing.{At, number_in}
use Rattle.snapshot_parse.specs.ParsingLaws.{lent_part}
use Rattle.difference_scan.specs.Listing.{counter_bytes, as_is}
use Rattle.difference_list.specs.SectionLaws.{put_keeps, counter_lent}
use Rattle.patch_scan.specs.Outcome.{counters_over, all_counters_over}
use Rattle.patch_scan.specs.Over.{Fitted, TooLong}
use Rattle.patch_scan.specs.FittedLaws.{fitted_in}

-- ---- bytes written piece by piece
-- how far bytes are written: with what is left they are all, begun at place `at` of the output
pub record Begun (out₀ : List ℕ) (at : ℕ) (all out : List ℕ) (next : ℕ) (left : List ℕ) : Type 0 where
  pub within : next ≤ length out
  pub long : length out ≡ length out₀
  pub room : next + length left ≡ at + length all
  pub laid : put out next left ≡ put out₀ at all

-- nothing is written yet
pub begins : (out : List ℕ) (at : ℕ) (all : List ℕ) → at ≤ length out → Begun out at all out at all
begins out at all h = record { within = h; long = refl; room = refl; laid = refl }

module _ {out₀ : List ℕ} {at : ℕ} {all out : List ℕ} {next : ℕ} {left : List ℕ} (w : Begun out₀ at all out next left) where
  -- nothing is left: all is written
  pub begun_done : left ≡ [] → Fitted out₀ at all out next
  begun_done e =
      let none : length left ≡ 0 = ap length e in
      fitted_in out₀ at all out next (omega (arith, w.within, w.long, w.room)) (omega (arith, w.room)) (sym (ap (put out next) e ∙ put_nil out next) ∙ w.laid)

  -- what is left begins with the bytes x
  module _ (x more : List ℕ) (e : left ≡ x ++ more) where
    -- they are written: what is after them is left
    pub begun_on : {out' : List ℕ} {next' : ℕ} → Fitted out next x out' next' → Begun out₀ at all out' next' more
    begun_on {out' = out'} {next' = next'} g = record {
      within = omega (arith, g.place, g.room, g.long);
      long = g.long ∙ w.long;
      room = omega (arith, w.room, g.place, ap length e, length-append x more);
      laid = put_next out out' (put out' next' more) next next' x more g.room g.laid g.place refl ∙ ap (put out next) (sym e) ∙ w.laid;
    }

    -- there is no room for them: nor for all
    pub begun_full : {out' : List ℕ} → TooLong out next x out' → TooLong out₀ at all out'
    begun_full g = record { over = omega (arith, w.room, w.long, g.over, ap length e, length-append x more); long = g.long ∙ w.long }

  -- the bytes x were written right before: with them more is begun
  begun_before : (d : List ℕ) (n : ℕ) (x : List ℕ) → n + length x ≤ length d → out₀ ≡ put d n x → at ≡ n + length x → Begun d n (x ++ all) out next left
  begun_before d n x h e f = record {
    within = w.within;
    long = w.long ∙ put_keeps d out₀ x n h e;
    room = omega (arith, w.room, length-append x all);
    laid = w.laid ∙ put_next d out₀ (put out₀ at all) n at x all h e f refl;
  }

-- ---- a section
-- its count, then its entries
section_count : (es : List (List ℕ)) (n : ℕ) → length es ≡ n → section as_is es ≡ bytes count_long n ++ join es
unfolding section
section_count es n e = rw (e, map-id es)

-- ---- the counters
-- there are as many as are asked for
pub counters_many : (i n : ℕ) (bs : List ℕ) (m : ℕ) (cs : List ℕ) → length (counters_over i n bs m cs) ≡ n
unfolding counters_over
counters_many i zero bs m cs = refl
counters_many i (suc n) bs m cs =
    let cs' = drop number_long (drop byte_long cs) in
    go (ltb 0 m && eqb (number_in byte_long cs) i) (take number_long (drop byte_long cs)) (counters_over (suc i) n bs (m - 1) cs') (counter_bytes bs i) (counters_over (suc i) n bs m cs) (counters_many (suc i) n bs (m - 1) cs') (counters_many (suc i) n bs m cs)
  where
    go : (t : Bool) (x : List ℕ) (xs : List (List ℕ)) (y : List ℕ) (ys : List (List ℕ)) → length xs ≡ n → length ys ≡ n → length (cond t (x ∷ xs) (y ∷ ys)) ≡ suc n
    go true x xs y ys e f = ap suc e
    go false x xs y ys e f = ap suc f

-- whether the first of some entries is of counter i: `place` is what it names
module _ (rest place i : ℕ) (cs : List ℕ) (named : Bool) where
  -- there is one
  pub named_some : 0 < rest → place ≡ number_in byte_long cs → named ≡ eqb place i → named ≡ (ltb 0 rest && eqb (number_in byte_long cs) i)
  named_some h e f = rw (lt-ltb 0 rest h, ← e) f

  -- there is none
  pub named_none : rest ≤ 0 → named ≡ ltb 0 rest → named ≡ (ltb 0 rest && eqb (number_in byte_long cs) i)
  named_none h f = f ∙ rw (le-ltb 0 rest h)

-- a snapshot and a list
module _ (left list : List ℕ) where
  -- the counters from place i on, with the entries that are left laid over them
  abbrev pub counters_left : ℕ → ℕ → ℕ → List (List ℕ)
  counters_left i rest at = counters_over i (counter_count - i) left rest (drop at list)

  -- how far the counters are written: with those that are left they are all, begun at place n₀ of the output
  pub record CountersWritten (o : List ℕ) (n₀ rest₀ list_at₀ : ℕ) (out : List ℕ) (rest list_at next i : ℕ) : Type 0 where
    pub in_list : list_at ≤ length list
    pub begun : Begun o n₀ (join (counters_left 0 rest₀ list_at₀)) out next (join (counters_left i rest list_at))

  -- what a turn found: whether the first entry that is left is of counter i, where its bytes are in the entry, and where the counter is in the snapshot
  pub record CounterFound (i rest list_at : ℕ) (named : Bool) (y y' x x' : ℕ) : Type 0 where
    pub below : i < counter_count
    pub in_list : list_at ≤ length list
    pub says : named ≡ (ltb 0 rest && eqb (number_in byte_long (drop list_at list)) i)
    pub at_list : At list y (drop byte_long (drop list_at list))
    pub up_list : y ≤ y'
    pub end_list : At list y' (drop number_long (drop y list))
    pub at_left : At left x (drop (next_at + i * number_long) left)
    pub up_left : x ≤ x'
    pub end_left : At left x' (drop number_long (drop x left))

-- a turn
module _ {left list : List ℕ} {i rest list_at : ℕ} {named : Bool} {y y' x x' : ℕ} (f : CounterFound left list i rest list_at named y y' x x') where
  -- the bytes that it writes
  abbrev pub counter : List ℕ
  counter = cond named (take (y' - y) (drop y list)) (take (x' - x) (drop x left))

  -- if the list has the counter, an entry is left
  pub some_left : named ≡ true → 0 < rest
  some_left e = go (ltb 0 rest) refl (sym f.says ∙ e)
    where
      go : (t : Bool) → ltb 0 rest ≡ t → (t && eqb (number_in byte_long (drop list_at list)) i) ≡ true → 0 < rest
      go true g h = ltb-true 0 rest g
      go false g h = clash h refl

  -- the list has the counter: its bytes, then the counters after it with the entries after it
  named_first : named ≡ true → counters_left left list i rest list_at ≡ counter ∷ counters_left left list (i + 1) (rest - 1) y'
  unfolding counters_over
  named_first e =
      let k : counter_count - i ≡ suc (counter_count - (i + 1)) = omega (arith, f.below) in
      let n : suc i ≡ i + 1 = omega arith in
      rw (k, ← f.says, e, n, lent_part list y y' number_long f.up_list f.end_list, f.end_list.rest, f.at_list.rest)

  -- it does not: the snapshot's bytes, then the counters after it with the same entries
  kept_first : named ≡ false → counters_left left list i rest list_at ≡ counter ∷ counters_left left list (i + 1) rest list_at
  unfolding counters_over
  kept_first e =
      let k : counter_count - i ≡ suc (counter_count - (i + 1)) = omega (arith, f.below) in
      let n : suc i ≡ i + 1 = omega arith in
      rw (k, ← f.says, e, n, counter_lent left i x x' f.at_left f.up_left f.end_left)

  -- either way it is one piece, then counters: what follows from that holds
  counter_first : (A : Type 0) → ((more : List (List ℕ)) → counters_left left list i rest list_at ≡ counter ∷ more → A) → A
  counter_first A k = go named refl
    where
      go : (b : Bool) → named ≡ b → A
      go true e = k (counters_left left list (i + 1) (rest - 1) y') (named_first e)
      go false e = k (counters_left left list (i + 1) rest list_at) (kept_first e)

  -- it is written
  module _ {o : List ℕ} {n₀ rest₀ list_at₀ : ℕ} {out : List ℕ} {next : ℕ} (w : CountersWritten left list o n₀ rest₀ list_at₀ out rest list_at next i) {out' : List ℕ} {next' : ℕ} (g : Fitted out next counter out' next') where
    -- the counters that are left then
    counter_on : (more : List (List ℕ)) → counters_left left list i rest list_at ≡ counter ∷ more → Begun o n₀ (join (counters_left left list 0 rest₀ list_at₀)) out' next' (join more)
    unfolding join
    counter_on more e = begun_on w.begun counter (join more) (ap join e) g

    -- it is of the list: how far the counters are written then
    pub counter_named : named ≡ true → CountersWritten left list o n₀ rest₀ list_at₀ out' (rest - 1) y' next' (i + 1)
    counter_named e = record { in_list = f.end_list.within; begun = counter_on (counters_left left list (i + 1) (rest - 1) y') (named_first e) }

    -- it is of the snapshot
    pub counter_kept : named ≡ false → CountersWritten left list o n₀ rest₀ list_at₀ out' rest list_at next' (i + 1)
    counter_kept e = record { in_list = f.in_list; begun = counter_on (counters_left left list (i + 1) rest list_at) (kept_first e) }

-- before the counters: their count was written at place `at` of the output, which is o then, and the entries follow their own count, at place b of the list
pub record Counted (list out₀ : List ℕ) (at b : ℕ) (o : List ℕ) (rest₀ list_at₀ : ℕ) : Type 0 where
  pub room : at + count_long ≤ length out₀
  pub count : o ≡ put out₀ at (bytes count_long counter_count)
  pub reads : rest₀ ≡ number_in count_long (drop b list)
  pub starts : At list list_at₀ (drop count_long (drop b list))

module _ (left : List ℕ) {list out₀ : List ℕ} {at b : ℕ} {o : List ℕ} {rest₀ list_at₀ : ℕ} (s : Counted list out₀ at b o rest₀ list_at₀) where
  -- no counter is written yet
  pub counters_begin : CountersWritten left list o (at + count_long) rest₀ list_at₀ o rest₀ list_at₀ (at + count_long) 0
  counters_begin =
      let two = bytes_length count_long counter_count in
      let long = put_keeps out₀ o (bytes count_long counter_count) at (omega (arith, s.room)) s.count in
      record { in_list = s.starts.within; begun = begins o (at + count_long) (join (counters_left left list 0 rest₀ list_at₀)) (omega (arith, s.room)) }

  -- the section of the counters
  abbrev counters_section : List ℕ
  counters_section = section as_is (all_counters_over left (drop b list))

  -- it is their count, then the counters
  section_is : counters_section ≡ bytes count_long counter_count ++ join (counters_left left list 0 rest₀ list_at₀)
  section_is =
      let z : counter_count - 0 ≡ counter_count = omega arith in
      let m = number_in count_long (drop b list) in
      let cs = drop count_long (drop b list) in
      rw (z, s.reads, s.starts.rest) (section_count (counters_over 0 counter_count left m cs) counter_count (counters_many 0 counter_count left m cs))

  module _ {out : List ℕ} {rest list_at next i : ℕ} (w : CountersWritten left list o (at + count_long) rest₀ list_at₀ out rest list_at next i) where
    -- so far the section is written
    section_begun : Begun out₀ at counters_section out next (join (counters_left left list i rest list_at))
    section_begun =
        let two = bytes_length count_long counter_count in
        rw section_is (begun_before w.begun out₀ at (bytes count_long counter_count) (omega (arith, s.room)) s.count (omega arith))

    -- there is no room for a counter: nor for the section
    pub counter_full : {named : Bool} {y y' x x' : ℕ} (f : CounterFound left list i rest list_at named y y' x x') {out' : List ℕ} → TooLong out next (counter f) out' → TooLong out₀ at counters_section out'
    unfolding join
    counter_full f {out' = out'} g = counter_first f (TooLong out₀ at counters_section out') (λ more e. begun_full section_begun (counter f) (join more) (ap join e) g)

    -- no counter is left: the section is written
    pub counters_done : counter_count ≤ i → Fitted out₀ at counters_section out next
    unfolding counters_over join
    counters_done h =
        let z : counter_count - i ≡ 0 = omega arith in
        let none : counters_left left list i rest list_at ≡ [] = rw z in
        begun_done section_begun (ap join none)
