-- Laws of a run of a snapshot with one of a list laid over it, written turn by turn. Assumes nothing.
use Rattle.std.specs.Prelude.{ℕ, ◌+◌, ◌-◌, ◌≤◌, ◌<◌, ◌≡◌, Bool, List, [], ◌∷◌, ◌++◌, take, drop}
use Rattle.std.proofs.Math.Path.{refl, sym, ap}
use Rattle.std.proofs.Common.{◌∙◌, subst, arith}
use Rattle.std.proofs.Math.Bool.{true, false, cond}
use borrow.Author.Tests.{eqb-true}
use Rattle.std.proofs.Math.Dec.{eqb}
use Rattle.std.proofs.Math.ListN.{length, length-append}
use Rattle.lemmas.specs.Lists.{join}
use Rattle.lemmas.specs.Laying.{none_laid, none_length}
use Rattle.lemmas.specs.Slices.{put, put_append, join_append}
use Rattle.model.specs.Snapshot.{byte_long}
use Rattle.model.specs.DifferenceBytes.{left_kind, right_kind, head_long}
use Rattle.snapshot_parse.specs.Parsing.{At, number_in}
use Rattle.difference_scan.specs.Scan.{after_part, after_all, byte_of}
use Rattle.difference_scan.specs.ScanLaws.{cut_lent, part_lent}
use Rattle.difference_scan.specs.Turns.{left_over, place_after, bytes_after}
use Rattle.difference_scan.specs.TurnLaws.{place_after_lem, over_less, all_none}
use Rattle.difference_scan.specs.Listing.{advanced_by}
use Rattle.difference_scan.specs.declared.Places.{Places}
use Rattle.difference_scan.specs.declared.Turn.{Turn}
use Rattle.patch_scan.specs.Listed.{kind_in, brought_by, after_listed, listed_bytes, after_each, over_run}
use Rattle.patch_scan.specs.Over.{over_kind, piece_of, listed_after, Fitted, TooLong}
use Rattle.patch_scan.specs.Ends.{RunEnds}
use Rattle.patch_scan.specs.OverLaws.{OverTurned, over_turned, each_none, over_none}
use Rattle.patch_scan.specs.FittedLaws.{fitted_in}

-- the bytes between an entry's place and its end are the entry
pub listed_lent : (p : Bool) (src : List ℕ) (at end : ℕ) → at ≤ end → At src end (after_listed p (drop at src)) → take (end - at) (drop at src) ≡ listed_bytes p (drop at src)
unfolding listed_bytes
listed_lent p src at end h t = cut_lent src at end (after_listed p (drop at src)) h t

-- the place of the entries after a turn is that of the bytes that are left
list_side : (p : Bool) (o k at end : ℕ) (src : List ℕ) → at ≤ length src → At src end (after_listed p (drop at src)) → At src (place_after o k at end) (listed_after p o k (drop at src))
unfolding listed_after
list_side p o k at end src h t = place_after_lem o k at end src (after_listed p (drop at src)) h t

-- a turn writes one piece, or none
piece_one : (p : Bool) (k : ℕ) (x y : List ℕ) → length (piece_of p k x y) ≤ 1
unfolding piece_of brought_by
piece_one p k x y = go (eqb k left_kind) p
  where
    one : (b : Bool) (z : List ℕ) → length (cond b [] (z ∷ [])) ≤ 1
    one true z = omega arith
    one false z = omega arith

    go : (b q : Bool) → length (cond b (x ∷ []) (brought_by q y)) ≤ 1
    go true q = omega arith
    go false true = one (eqb (number_in byte_long (drop byte_long y)) 0) y
    go false false = one (eqb (kind_in y) left_kind) (drop head_long y)

-- a snapshot and a list
module _ (p : Bool) (left list : List ℕ) where
  -- what is left to write at these places
  abbrev pub over_at : Places → List (List ℕ)
  over_at q = over_run p q.lefts (drop q.left left) q.rights (drop q.right list)

  -- how far a run is written: with what is left it is all, begun at place `at` of the output
  pub record OverWritten (out₀ : List ℕ) (at : ℕ) (q₀ : Places) (out : List ℕ) (q : Places) (next count : ℕ) : Type 0 where
    pub in_left : q.left ≤ length left
    pub in_list : q.right ≤ length list
    pub few_lefts : q.lefts < 65536
    pub few_rights : q.rights < 65536
    pub within : next ≤ length out
    pub long : length out ≡ length out₀
    pub room : next + length (join (over_at q)) ≡ at + length (join (over_at q₀))
    pub number : count + length (over_at q) ≡ length (over_at q₀)
    pub small : count + (q.lefts + q.rights) ≤ q₀.lefts + q₀.rights
    pub laid : put out next (join (over_at q)) ≡ put out₀ at (join (over_at q₀))
    pub after_left : after_all p q.lefts (drop q.left left) ≡ after_all p q₀.lefts (drop q₀.left left)
    pub after_list : after_each p q.rights (drop q.right list) ≡ after_each p q₀.rights (drop q₀.right list)

  -- what a turn found at these places, where one side has something left
  pub record OverFound (q : Places) (t : Turn) : Type 0 where
    pub some : 0 < q.lefts + q.rights
    pub in_left : q.left ≤ length left
    pub in_list : q.right ≤ length list
    pub kind : byte_of t.kind ≡ over_kind p q.lefts (drop q.left left) q.rights (drop q.right list)
    pub up_left : q.left ≤ t.left
    pub end_left : At left t.left (after_part p (drop q.left left))
    pub up_list : q.right ≤ t.right
    pub end_list : At list t.right (after_listed p (drop q.right list))

  module _ (q : Places) (t : Turn) (f : OverFound q t) where
    -- what it says
    pub over_finds : OverTurned p q.lefts (drop q.left left) q.rights (drop q.right list) f.some (byte_of t.kind)
    over_finds = subst (λ (k : ℕ). OverTurned p q.lefts (drop q.left left) q.rights (drop q.right list) f.some k) (sym f.kind) (over_turned p q.lefts (drop q.left left) q.rights (drop q.right list) f.some)

    -- one part or entry fewer is left, or two
    pub over_fewer : (advanced_by q t).lefts + (advanced_by q t).rights < q.lefts + q.rights
    unfolding advanced_by left_over
    over_fewer = go (eqb (byte_of t.kind) right_kind) refl (eqb (byte_of t.kind) left_kind) refl
      where
        go : (a : Bool) → eqb (byte_of t.kind) right_kind ≡ a → (b : Bool) → eqb (byte_of t.kind) left_kind ≡ b → cond a q.lefts (q.lefts - 1) + cond b q.rights (q.rights - 1) < q.lefts + q.rights
        go true e true g = absurd (omega (arith, eqb-true (byte_of t.kind) right_kind e, eqb-true (byte_of t.kind) left_kind g))
        go true e false g = omega (arith, over_finds.rights g)
        go false e true g = omega (arith, over_finds.lefts e)
        go false e false g = omega (arith, over_finds.lefts e, over_finds.rights g)

    -- what it writes
    abbrev pub piece : List (List ℕ)
    piece = piece_of p (byte_of t.kind) (take (t.left - q.left) (drop q.left left)) (take (t.right - q.right) (drop q.right list))

    -- each side after it
    left_on : At left (advanced_by q t).left (bytes_after p right_kind (byte_of t.kind) (drop q.left left))
    unfolding advanced_by bytes_after
    left_on = place_after_lem right_kind (byte_of t.kind) q.left t.left left (after_part p (drop q.left left)) f.in_left f.end_left

    list_on : At list (advanced_by q t).right (listed_after p left_kind (byte_of t.kind) (drop q.right list))
    unfolding advanced_by
    list_on = list_side p left_kind (byte_of t.kind) q.right t.right list f.in_list f.end_list

    -- all that is left is this and what is left then
    pieces_on : over_at q ≡ piece ++ over_at (advanced_by q t)
    unfolding advanced_by
    pieces_on =
        over_finds.pieces
        ∙ rw (part_lent p left q.left t.left f.up_left f.end_left, listed_lent p list q.right t.right f.up_list f.end_list, left_on.rest, list_on.rest)

    -- it is written: how far the run is written then
    pub over_on : {out₀ : List ℕ} {at : ℕ} {q₀ : Places} {out : List ℕ} {next count : ℕ} → OverWritten out₀ at q₀ out q next count → (out' : List ℕ) (next' more : ℕ) → Fitted out next (join piece) out' next' → more ≡ length piece
        → OverWritten out₀ at q₀ out' (advanced_by q t) next' (count + more)
    unfolding advanced_by
    over_on {out₀ = out₀} {at = at} {q₀ = q₀} {out = out} {next = next} {count = count} w out' next' more g many =
        let after = over_at (advanced_by q t) in
        let all : join (over_at q) ≡ join piece ++ join after = ap join pieces_on ∙ join_append piece after in
        let long : length (join (over_at q)) ≡ length (join piece) + length (join after) = ap length all ∙ length-append (join piece) (join after) in
        record {
          in_left = left_on.within;
          in_list = list_on.within;
          few_lefts = omega (arith, w.few_lefts, over_less right_kind (byte_of t.kind) q.lefts);
          few_rights = omega (arith, w.few_rights, over_less left_kind (byte_of t.kind) q.rights);
          within = omega (arith, g.place, g.room, g.long);
          long = g.long ∙ w.long;
          room = omega (arith, w.room, long, g.place);
          number = omega (arith, w.number, many, ap length pieces_on, length-append piece after);
          small = omega (arith, w.small, many, piece_few, fewer);
          laid = rw (g.place, g.laid) (put_append out next (join piece) (join after) g.room) ∙ ap (put out next) (sym all) ∙ w.laid;
          after_left = ap (after_all p (left_over right_kind (byte_of t.kind) q.lefts)) left_on.rest ∙ sym over_finds.left_after ∙ w.after_left;
          after_list = ap (after_each p (left_over left_kind (byte_of t.kind) q.rights)) list_on.rest ∙ sym over_finds.list_after ∙ w.after_list;
        }
      where
        piece_few : length piece ≤ 1
        piece_few = piece_one p (byte_of t.kind) (take (t.left - q.left) (drop q.left left)) (take (t.right - q.right) (drop q.right list))

        fewer : (advanced_by q t).lefts + (advanced_by q t).rights < q.lefts + q.rights
        fewer = over_fewer

    -- it does not fit: nor does the run
    pub over_full : {out₀ : List ℕ} {at : ℕ} {q₀ : Places} {out : List ℕ} {next count : ℕ} → OverWritten out₀ at q₀ out q next count → (out' : List ℕ) → TooLong out next (join piece) out'
        → TooLong out₀ at (join (over_at q₀)) out'
    over_full w out' g =
        let after = over_at (advanced_by q t) in
        record {
          over = omega (arith, w.room, w.long, g.over, ap length (ap join pieces_on ∙ join_append piece after), length-append (join piece) (join after));
          long = g.long ∙ w.long;
        }

  -- all is written
  pub over_done : (out₀ : List ℕ) (at : ℕ) (q₀ : Places) (out : List ℕ) (q : Places) (next count : ℕ) → OverWritten out₀ at q₀ out q next count → q.lefts + q.rights ≤ 0
      → Fitted out₀ at (join (over_at q₀)) out next × (count ≡ length (over_at q₀)) × RunEnds p left list q₀ q.left q.right
  over_done out₀ at q₀ out q next count w h =
      let n : q.lefts ≡ 0 = omega arith in
      let m : q.rights ≡ 0 = omega arith in
      let none : over_at q ≡ [] = ap (λ (k : ℕ). over_run p k (drop q.left left) q.rights (drop q.right list)) n ∙ ap (λ (k : ℕ). over_run p 0 (drop q.left left) k (drop q.right list)) m ∙ over_none p (drop q.left left) (drop q.right list) in
      let zero_long = none_length (over_at q) none in (
        fitted_in out₀ at (join (over_at q₀)) out next (omega (arith, w.room, w.within, w.long)) (omega (arith, w.room)) (sym (none_laid (over_at q) none out next) ∙ w.laid),
        omega (arith, w.number, ap length none),
        record {
          at_left = record { within = w.in_left; rest = sym (ap (λ (k : ℕ). after_all p k (drop q.left left)) n ∙ all_none p (drop q.left left)) ∙ w.after_left };
          at_list = record { within = w.in_list; rest = sym (ap (λ (k : ℕ). after_each p k (drop q.right list)) m ∙ each_none p (drop q.right list)) ∙ w.after_list };
        },
      )
