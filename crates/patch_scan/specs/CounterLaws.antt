-- The entries of counters, which stand by place, laid over the counters of a snapshot. Assumes nothing.
use Prim.Native.Nat.{ℕ, zero, suc, ◌+◌, ◌-◌, ◌≤◌, ◌<◌}
use Rattle.std.specs.Prelude.{◌≡◌, Bool, true, false, cond, eqb, ltb, leb}
use Rattle.std.proofs.Math.Path.{refl}
use Rattle.std.proofs.Common.{ap, sym, ◌∙◌}
use mathlib.Core.List.Memᴰ.{head as here}
use mathlib.Core.List.Memᴰ.{not-nil}
use mathlib.Core.List.Memᴰ.{tail as there}
use mathlib.Core.List.{List, [], ◌∷◌, ◌++◌, map, append_assoc, Memᴰ as In}
use native.Mathlib.Omega.{arith}
use borrow.Author.Tests.{eqb-true, eqb-false, ne_eqb, ltb-true, lt-ltb}
use Rattle.std.proofs.Math.ListN.{length}
use Rattle.std.proofs.Math.Seq.{take_at}
use Rattle.lemmas.specs.Lists.{chain, join, up_from}
use Rattle.lemmas.specs.ListLaws.{and_left, chain_rest, up_from_in}
use Rattle.lemmas.specs.Maps.{map_same_in}
use Rattle.lemmas.specs.Once.{strict_first}
use Rattle.lemmas.specs.Little.{bytes, bytes_length}
use Rattle.model.specs.File.{State, full, max_counter}
use Rattle.model.proofs.Formed.{WF}
use Rattle.model.specs.Snapshot.{encode, byte_long, number_long, counter_count}
use Rattle.model.specs.Difference.{Difference, only_left, only_right, changed, pointer_is, counter_is, earlier, counter_at, good_difference}
use Rattle.model.specs.DifferenceBytes.{section_of, write_difference}
use Rattle.model.proofs.DifferenceOrderLaws.{earlier_order, in_turn}
use Rattle.model.specs.Patched.{counter_by, counter_after}
use Rattle.model.proofs.PatchedLaws.{counter_kept}
use Rattle.snapshot_parse.specs.BackLaws.{number_back, number_past}
use Rattle.difference_scan.specs.Listing.{counter_bytes}
use Rattle.difference_scan.specs.ListingLaws.{counter_back}
use Rattle.patch_scan.specs.Outcome.{counters_over}

module _ (s : State) (w : WF full s) where
  -- these entries laid over n counters from place i on
  abbrev over : ℕ → ℕ → List Difference → List ℕ → List (List ℕ)
  over i n es y = counters_over i n (encode s) (length es) (join (map write_difference es) ++ y)

  -- those counters after these entries
  abbrev after : ℕ → ℕ → List Difference → List (List ℕ)
  after i n es = map (λ k. bytes number_long (counter_after k es (counter_at s k))) (up_from i n)

  -- a turn where there is an entry: it is for this place, or it waits
  turn_over : (i n j v : ℕ) (es : List Difference) (y : List ℕ) → j < 256 → over i (suc n) (counter_is j v ∷ es) y ≡ cond (eqb j i) (bytes number_long v ∷ over (suc i) n es y) (counter_bytes (encode s) i ∷ over (suc i) n (counter_is j v ∷ es) y)
  unfolding counters_over join write_difference
  turn_over i n j v es y h =
      let z = join (map write_difference es) ++ y in
      let x = bytes number_long v ++ z in
      let all : join (map write_difference (counter_is j v ∷ es)) ++ y ≡ bytes byte_long j ++ x = simp append_assoc in
      let less : length (counter_is j v ∷ es) - 1 ≡ length es = omega arith in
      rw (all, number_back 1 j x (omega arith), number_past 1 j x, take_at (bytes number_long v) z 8 (bytes_length 8 v), number_past 8 v z, less, lt-ltb 0 (length (counter_is j v ∷ es)) (omega arith))

  -- entries of counters in order, none of them for an earlier place, give the counters after them
  pub counters_over_lem : (n i : ℕ) (es : List Difference) (y : List ℕ) → i + n ≤ counter_count → chain earlier es ≡ true → ((d : Difference) → In d es → (section_of d ≡ 2) × (good_difference full d ≡ true))
      → ((k u : ℕ) → In (counter_is k u) es → i ≤ k) → over i n es y ≡ after i n es
  unfolding counters_over up_from join counter_after counter_by section_of good_difference write_difference
  counters_over_lem zero i es y h c a b = refl
  counters_over_lem (suc n) i [] y h c a b = rw (counter_back s w i (omega arith), counters_over_lem n (suc i) [] y (omega arith) c a (λ k u m. absurd (not-nil m)))
  counters_over_lem (suc n) i (only_left l m ∷ es) y h c a b = absurd (omega (arith, (a (only_left l m) (here refl)).0))
  counters_over_lem (suc n) i (only_right l f ∷ es) y h c a b = absurd (omega (arith, (a (only_right l f) (here refl)).0))
  counters_over_lem (suc n) i (changed l f ∷ es) y h c a b = absurd (omega (arith, (a (changed l f) (here refl)).0))
  counters_over_lem (suc n) i (pointer_is l o ∷ es) y h c a b = absurd (omega (arith, (a (pointer_is l o) (here refl)).0))
  counters_over_lem (suc n) i (counter_is j v ∷ es) y h c a b =
      let small = ltb-true j counter_count (and_left (ltb j counter_count) (leb v max_counter) (a (counter_is j v) (here refl)).1) in
      turn_over i n j v es y (omega arith)
      ∙ go (eqb j i) refl (counters_over_lem n (suc i) es y (omega arith) (chain_rest earlier (counter_is j v) es c) (λ d m. a d (there m))) (counters_over_lem n (suc i) (counter_is j v ∷ es) y (omega arith) c a)
    where
      -- the entries after the first are for later places
      later : (k u : ℕ) → In (counter_is k u) es → j < k
      later k u m = ltb-true j k (sym (in_turn.counters_by_place j k v u) ∙ strict_first earlier earlier_order (counter_is j v) (counter_is k u) es c m)

      -- so are all, where the first is
      waits : i < j → (k u : ℕ) → In (counter_is k u) (counter_is j v ∷ es) → suc i ≤ k
      waits q k u (here e) = let r : k ≡ j = cc in omega arith
      waits q k u (there m) = omega (arith, later k u m)

      -- those after the first say nothing of this place
      stays : (old : ℕ) → counter_after i es old ≡ old
      stays old = counter_kept (λ u. u ≡ old) i es old (λ u m. absurd (omega (arith, later i u m, b j v (here refl)))) refl

      -- the first says nothing of later places
      passed : j ≡ i → after (suc i) n es ≡ after (suc i) n (counter_is j v ∷ es)
      passed q = map_same_in (λ k. bytes number_long (counter_after k es (counter_at s k))) (λ k. bytes number_long (counter_after k (counter_is j v ∷ es) (counter_at s k))) (up_from (suc i) n)
          (λ k m. let r : eqb j k ≡ false = ne_eqb j k (λ p. omega (arith, ((up_from_in (suc i) n k).0 m).0)) in rw r)

      go : (t : Bool) → eqb j i ≡ t → (((k u : ℕ) → In (counter_is k u) es → suc i ≤ k) → over (suc i) n es y ≡ after (suc i) n es)
          → (((k u : ℕ) → In (counter_is k u) (counter_is j v ∷ es) → suc i ≤ k) → over (suc i) n (counter_is j v ∷ es) y ≡ after (suc i) n (counter_is j v ∷ es))
          → cond t (bytes number_long v ∷ over (suc i) n es y) (counter_bytes (encode s) i ∷ over (suc i) n (counter_is j v ∷ es) y) ≡ after i (suc n) (counter_is j v ∷ es)
      go true e next on =
          let q = eqb-true j i e in
          rw (e, stays v) (ap (λ (ns : List (List ℕ)). bytes number_long v ∷ ns) (next (λ k u m. omega (arith, later k u m)) ∙ passed q))
      go false e next on = rw (e, stays (counter_at s i), counter_back s w i (omega arith)) (ap (λ (ns : List (List ℕ)). bytes number_long (counter_at s i) ∷ ns) (on (waits (omega (arith, eqb-false j i e, b j v (here refl))))))
