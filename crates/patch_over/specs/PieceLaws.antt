-- Laws of what is written if it fits: bytes, what a turn leaves, a section. Assumes nothing.
use Rattle.std.specs.Prelude.{ℕ, ◌+◌, ◌-◌, ◌≤◌, ◌<◌, min, ◌≡◌, refl, Bool, length, take, Option, Some, None, MatchOption}
use Rattle.std.proofs.Common.{sym, ◌∙◌, arith, eq-eqb, ne_eqb, length-append, length-drop, drop_of_length-le, take_all}
use Rattle.std.proofs.Math.Path.{ap}
use Rattle.std.proofs.Math.Bool.{true, false}
use mathlib.Core.List.{List, [], ◌∷◌, ◌++◌}
use Rattle.std.proofs.Math.Decide.{dec_lt}
use Rattle.std.proofs.Math.ListN.{drop}
use Rattle.std.proofs.Math.Seq.{drop-length}
use Rattle.lemmas.specs.Lists.{join}
use Rattle.lemmas.specs.Little.{bytes}
use Rattle.lemmas.specs.Laying.{put_next}
use Rattle.lemmas.specs.Slices.{put, put_nil}
use Rattle.model.specs.Snapshot.{section, count_long, counters_long}
use Rattle.model.specs.DifferenceBytes.{left_kind}
use Rattle.snapshot_parse.specs.Parsing.{At}
use Rattle.difference_scan.specs.Scan.{after_all}
use Rattle.difference_scan.specs.Listing.{levels_at, as_is}
use Rattle.difference_scan.specs.declared.Places.{Places}
use Rattle.difference_list.specs.Runs.{RunsAt}
use Rattle.difference_list.specs.SectionLaws.{section_long, front_laid}
use Rattle.patch_scan.specs.Listed.{brought_by, over_run}
use Rattle.patch_scan.specs.Outcome.{pointers_over}
use Rattle.patch_scan.specs.Over.{is_bare, brought_at, piece_of, Fitted, TooLong}
use Rattle.patch_scan.specs.FittedLaws.{fitted_in}

-- ---- what is returned
-- what is said of it follows by cases
pub by_cases : {A : Type 0} {P P' : Type 0} {Q Q' : A → Type 0} (r : Option A) → (P → P') → ((x : A) → Q x → Q' x) → MatchOption r P Q → MatchOption r P' Q'
by_cases None f g h = f h
by_cases (Some x) f g h = g x h

-- ---- bytes
-- where the next bytes begin is within the output
pub fitted_within : (out₀ : List ℕ) (at : ℕ) (x out : List ℕ) (next : ℕ) → Fitted out₀ at x out next → next ≤ length out
fitted_within out₀ at x out next w = omega (arith, w.place, w.long, w.room)

-- no bytes are written
pub nothing_fits : (out₀ : List ℕ) (at : ℕ) → at ≤ length out₀ → Fitted out₀ at (join []) out₀ at
unfolding join
nothing_fits out₀ at h = fitted_in out₀ at [] out₀ at (omega arith) (omega arith) (sym (put_nil out₀ at))

-- ---- what a turn leaves
module _ (p : Bool) (k : ℕ) (x y : List ℕ) where
  -- the part
  pub left_piece : k ≡ left_kind → piece_of p k x y ≡ x ∷ []
  unfolding piece_of
  left_piece h = rw (eq-eqb k left_kind h)

  -- nothing, of an entry that brings nothing
  pub bare_piece : (k ≡ left_kind → ⊥) → is_bare p y ≡ true → piece_of p k x y ≡ []
  unfolding piece_of brought_by is_bare
  bare_piece h b = rw (ne_eqb k left_kind h) (go p b)
    where
      go : (q : Bool) → is_bare q y ≡ true → brought_by q y ≡ []
      go true e = rw e
      go false e = rw e

  -- what the entry brings
  pub brought_piece : (k ≡ left_kind → ⊥) → is_bare p y ≡ false → (start : ℕ) → start ≡ min (brought_at p) (length y) → piece_of p k x y ≡ take (length y - start) (drop start y) ∷ []
  unfolding piece_of brought_by is_bare brought_at
  brought_piece h b start e = rw (ne_eqb k left_kind h) (go p b ∙ ap (λ (z : List ℕ). z ∷ []) (sym cut))
    where
      go : (q : Bool) → is_bare q y ≡ false → brought_by q y ≡ drop (brought_at q) y ∷ []
      go true e = rw e
      go false e = rw e

      rest : Dec (length y < brought_at p) → drop start y ≡ drop (brought_at p) y
      rest (yes l) =
          let q : start ≡ length y = omega (arith, e) in
          let k : length y ≤ brought_at p = omega arith in
          rw q (drop-length y ∙ sym (drop_of_length-le y k))
      rest (no l) = let q : start ≡ brought_at p = omega (arith, e) in rw q

      cut : take (length y - start) (drop start y) ≡ drop (brought_at p) y
      cut = take_all (length y - start) (drop start y) (omega (arith, length-drop start y)) ∙ rest (dec_lt (length y) (brought_at p))

-- ---- a section: two bytes for its count, then its pieces
module _ (out₀ : List ℕ) (at : ℕ) (es : List (List ℕ)) where
  -- there is no room for the count
  pub no_count : length out₀ < at + 2 → TooLong out₀ at (section as_is es) out₀
  no_count h = record { over = omega (arith, section_long es); long = refl }

  -- the pieces do not fit
  pub no_pieces : (out : List ℕ) → TooLong out₀ (at + 2) (join es) out → TooLong out₀ at (section as_is es) out
  no_pieces out w = record { over = omega (arith, section_long es, w.over); long = w.long }

  -- they fit, and the count is written in front
  pub section_fits : (out out' : List ℕ) (next count : ℕ) → Fitted out₀ (at + 2) (join es) out next → count ≡ length es → out' ≡ put out at (bytes count_long count) → Fitted out₀ at (section as_is es) out' next
  section_fits out out' next count w many e =
      let long = section_long es in
      let room : at + length (section as_is es) ≤ length out₀ = omega (arith, long, w.room) in
      fitted_in out₀ at (section as_is es) out' next room (omega (arith, long, w.place)) (front_laid es out₀ out out' at count room w.laid many e)

-- ---- the pointers, which follow the counters of a snapshot
module _ (left list : List ℕ) (a b : ℕ) (p : Places) (s : At left a (drop counters_long left)) (r : RunsAt left a list b p) where
  -- their run, with the entries of a list laid over it
  pub pointers_run : over_run true p.lefts (drop p.left left) p.rights (drop p.right list) ≡ pointers_over left (drop b list)
  pointers_run = rw (r.lefts, r.rights, r.at_left.rest, r.at_right.rest, s.rest)

  -- the levels follow it
  pub levels_follow : after_all true p.lefts (drop p.left left) ≡ levels_at left
  unfolding levels_at
  levels_follow = rw (r.lefts, r.at_left.rest, s.rest)

-- ---- bytes one after another
module _ (out₀ : List ℕ) (at : ℕ) (x y : List ℕ) where
  -- there is no room for the first: nor for both
  pub both_over : {out : List ℕ} → TooLong out₀ at x out → TooLong out₀ at (x ++ y) out
  both_over w = record { over = omega (arith, w.over, length-append x y); long = w.long }

  -- the first is written
  module _ {out : List ℕ} {next : ℕ} (w : Fitted out₀ at x out next) where
    -- there is no room for the second after it: nor for both
    pub second_over : (out' : List ℕ) → TooLong out next y out' → TooLong out₀ at (x ++ y) out'
    second_over out' v = record { over = omega (arith, v.over, w.place, w.long, length-append x y); long = v.long ∙ w.long }

    -- the second is written after it: both are
    pub both_fit : (out' : List ℕ) (next' : ℕ) → Fitted out next y out' next' → Fitted out₀ at (x ++ y) out' next'
    both_fit out' next' v =
        let laid = put_next out₀ out out' at next x y w.room w.laid w.place v.laid in
        fitted_in out₀ at (x ++ y) out' next' (omega (arith, v.room, w.place, w.long, length-append x y)) (omega (arith, v.place, w.place, length-append x y)) laid
