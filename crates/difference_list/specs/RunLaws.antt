-- Laws of two runs of parts whose entries are written turn by turn. Assumes nothing.
use Rattle.std.specs.Prelude.{ℕ, ◌+◌, ◌-◌, ◌≤◌, ◌<◌, ◌≡◌, Bool, take, drop}
use Rattle.std.proofs.Math.Path.{refl, sym, ap}
use Rattle.std.proofs.Common.{◌∙◌, subst, arith}
use Rattle.std.proofs.Math.Bool.{true, false, cond}
use mathlib.Core.List.{List, [], ◌∷◌, ◌++◌}
use borrow.Author.Tests.{ne_eqb, eqb-true}
use Rattle.std.proofs.Math.Dec.{eqb}
use Rattle.std.proofs.Math.ListN.{length, length-append}
use Rattle.lemmas.specs.Lists.{join}
use Rattle.lemmas.specs.Compare.{compare_few}
use Rattle.lemmas.specs.Laying.{none_laid, none_length}
use Rattle.lemmas.specs.Slices.{put, length_put, put_append, join_append}
use Rattle.model.specs.Snapshot.{same_bytes}
use Rattle.model.specs.DifferenceBytes.{left_kind, right_kind, changed_kind}
use Rattle.snapshot_parse.specs.Parsing.{At}
use Rattle.snapshot_parse.specs.ParsingLaws.{parts_length}
use Rattle.difference_scan.specs.Scan.{after_part, part_bytes, rise_of, parts_at, run_entries, after_all, left_entry, right_entry, same_kind, byte_of, kind_at, entry_of}
use Rattle.difference_scan.specs.ScanLaws.{part_lent}
use Rattle.difference_scan.specs.Turns.{entries_of, left_over, place_after, bytes_after}
use Rattle.difference_scan.specs.TurnLaws.{place_after_lem, over_less, Turned, turned, entries_none, all_none}
use Rattle.difference_scan.specs.Listing.{advanced_by, counted_by}
use Rattle.difference_scan.specs.declared.Places.{Places}
use Rattle.difference_scan.specs.declared.Turn.{Turn}

-- ---- a turn
-- it lays one entry, or none where both are the same
pub one_counted : (p : Bool) (k l listed : ℕ) (x y : List ℕ) → counted_by listed k ≡ listed + length (entry_of p k l x y)
unfolding counted_by entry_of
one_counted p k l listed x y = go (eqb k same_kind) (eqb k left_kind)
  where
    go : (a b : Bool) → cond a listed (listed + 1) ≡ listed + length (cond a [] (cond b (left_entry p l x ∷ []) (right_entry p k l y ∷ [])))
    go true b = omega arith
    go false true = refl
    go false false = refl

-- ---- the places after a turn, by its kind
module _ (q : Places) (t : Turn) where
  -- the left is passed by
  pub advanced_right : byte_of t.kind ≡ right_kind → ◌≡◌ {A = Places} (record { left = q.left; lefts = q.lefts; right = t.right; rights = q.rights - 1 }) (advanced_by q t)
  unfolding advanced_by place_after left_over
  advanced_right e = rw (e)

  -- the right is passed by
  pub advanced_left : byte_of t.kind ≡ left_kind → ◌≡◌ {A = Places} (record { left = t.left; lefts = q.lefts - 1; right = q.right; rights = q.rights }) (advanced_by q t)
  unfolding advanced_by place_after left_over
  advanced_left e = rw (e)

  -- neither is
  pub advanced_both : (byte_of t.kind ≡ right_kind → ⊥) → (byte_of t.kind ≡ left_kind → ⊥) → ◌≡◌ {A = Places} (record { left = t.left; lefts = q.lefts - 1; right = t.right; rights = q.rights - 1 }) (advanced_by q t)
  unfolding advanced_by place_after left_over
  advanced_both h k = rw (ne_eqb (byte_of t.kind) right_kind h, ne_eqb (byte_of t.kind) left_kind k)

-- ---- the turns of a run
-- both snapshots, whether the parts are pointers, and the level of files
module _ (p : Bool) (l : ℕ) (left right : List ℕ) where
  -- the entries of what is left at these places
  abbrev pub entries_at : Places → List (List ℕ)
  entries_at q = entries_of p l q.lefts (drop q.left left) q.rights (drop q.right right)

  -- how far the entries of two runs are written: with what is left they are all, begun at place `at` of the output
  pub record Written (out₀ : List ℕ) (at : ℕ) (q₀ : Places) (out : List ℕ) (q : Places) (next listed : ℕ) : Type 0 where
    pub in_left : q.left ≤ length left
    pub in_right : q.right ≤ length right
    pub few_lefts : q.lefts < 65536
    pub few_rights : q.rights < 65536
    pub long : length out ≡ length out₀
    pub room : next + length (join (entries_at q)) ≡ at + length (join (entries_at q₀))
    pub count : listed + length (entries_at q) ≡ length (entries_at q₀)
    pub laid : put out next (join (entries_at q)) ≡ put out₀ at (join (entries_at q₀))
    pub after_left : after_all p q.lefts (drop q.left left) ≡ after_all p q₀.lefts (drop q₀.left left)
    pub after_right : after_all p q.rights (drop q.right right) ≡ after_all p q₀.rights (drop q₀.right right)

  -- what a turn found at these places, where one side has a part
  pub record FoundAt (q : Places) (t : Turn) : Type 0 where
    pub some : 0 < q.lefts + q.rights
    pub in_left : q.left ≤ length left
    pub in_right : q.right ≤ length right
    pub kind : byte_of t.kind ≡ kind_at p q.lefts (drop q.left left) q.rights (drop q.right right)
    pub up_left : q.left ≤ t.left
    pub end_left : At left t.left (after_part p (drop q.left left))
    pub up_right : q.right ≤ t.right
    pub end_right : At right t.right (after_part p (drop q.right right))

  module _ (q : Places) (t : Turn) (f : FoundAt q t) where
    -- what it says
    abbrev found : Type 0
    found = Turned p l q.lefts (drop q.left left) q.rights (drop q.right right) f.some (byte_of t.kind)

    -- it does
    pub finds : found
    finds = subst (λ (k : ℕ). Turned p l q.lefts (drop q.left left) q.rights (drop q.right right) f.some k) (sym f.kind) (turned p l q.lefts (drop q.left left) q.rights (drop q.right right) f.some)

    -- the entry that it writes
    abbrev pub entry : List (List ℕ)
    entry = entry_of p (byte_of t.kind) l (take (t.left - q.left) (drop q.left left)) (take (t.right - q.right) (drop q.right right))

    -- each side after it
    left_side : At left (advanced_by q t).left (bytes_after p right_kind (byte_of t.kind) (drop q.left left))
    unfolding advanced_by bytes_after
    left_side = place_after_lem right_kind (byte_of t.kind) q.left t.left left (after_part p (drop q.left left)) f.in_left f.end_left

    right_side : At right (advanced_by q t).right (bytes_after p left_kind (byte_of t.kind) (drop q.right right))
    unfolding advanced_by bytes_after
    right_side = place_after_lem left_kind (byte_of t.kind) q.right t.right right (after_part p (drop q.right right)) f.in_right f.end_right

    -- all entries are this one and those that are left
    pub entries_on : entries_at q ≡ entry ++ entries_at (advanced_by q t)
    unfolding advanced_by
    entries_on =
        finds.entries
        ∙ rw (part_lent p left q.left t.left f.up_left f.end_left, part_lent p right q.right t.right f.up_right f.end_right, left_side.rest, right_side.rest)

    -- it is written: how far the entries are written then
    pub turn_on : {out₀ : List ℕ} {at : ℕ} {q₀ : Places} {out : List ℕ} {next listed : ℕ} → Written out₀ at q₀ out q next listed → next + length (join entry) ≤ length out → (out' : List ℕ) → out' ≡ put out next (join entry)
        → Written out₀ at q₀ out' (advanced_by q t) (next + length (join entry)) (counted_by listed (byte_of t.kind))
    unfolding advanced_by
    turn_on {out₀ = out₀} {at = at} {q₀ = q₀} {out = out} {next = next} {listed = listed} w fits out' e =
        let after = entries_at (advanced_by q t) in
        let all : join (entries_at q) ≡ join entry ++ join after = ap join entries_on ∙ join_append entry after in
        let long : length (join (entries_at q)) ≡ length (join entry) + length (join after) = ap length all ∙ length-append (join entry) (join after) in
        record {
          in_left = left_side.within;
          in_right = right_side.within;
          few_lefts = omega (arith, w.few_lefts, over_less right_kind (byte_of t.kind) q.lefts);
          few_rights = omega (arith, w.few_rights, over_less left_kind (byte_of t.kind) q.rights);
          long = ap length e ∙ length_put out next (join entry) fits ∙ w.long;
          room = omega (arith, w.room, long);
          count = omega (arith, w.count, one_counted p (byte_of t.kind) l listed (take (t.left - q.left) (drop q.left left)) (take (t.right - q.right) (drop q.right right)), ap length entries_on, length-append entry after);
          laid = ap (λ (o : List ℕ). put o (next + length (join entry)) (join after)) e ∙ put_append out next (join entry) (join after) fits ∙ ap (put out next) (sym all) ∙ w.laid;
          after_left = ap (after_all p (left_over right_kind (byte_of t.kind) q.lefts)) left_side.rest ∙ sym finds.left_after ∙ w.after_left;
          after_right = ap (after_all p (left_over left_kind (byte_of t.kind) q.rights)) right_side.rest ∙ sym finds.right_after ∙ w.after_right;
        }

    -- the output has room for the entry
    pub entry_fits : {out₀ : List ℕ} {at : ℕ} {q₀ : Places} {out : List ℕ} {next listed : ℕ} → Written out₀ at q₀ out q next listed → at + length (join (entries_at q₀)) ≤ length out₀ → next + length (join entry) ≤ length out
    entry_fits {out₀ = out₀} {at = at} {q₀ = q₀} {out = out} {next = next} {listed = listed} w fits =
        let after = entries_at (advanced_by q t) in
        omega (arith, w.room, w.long, ap length (ap join entries_on ∙ join_append entry after), length-append (join entry) (join after))

    -- one part fewer is left, or two
    pub fewer : (advanced_by q t).lefts + (advanced_by q t).rights < q.lefts + q.rights
    unfolding advanced_by left_over
    fewer = go (eqb (byte_of t.kind) right_kind) refl (eqb (byte_of t.kind) left_kind) refl
      where
        go : (a : Bool) → eqb (byte_of t.kind) right_kind ≡ a → (b : Bool) → eqb (byte_of t.kind) left_kind ≡ b → cond a q.lefts (q.lefts - 1) + cond b q.rights (q.rights - 1) < q.lefts + q.rights
        go true e true g = absurd (omega (arith, eqb-true (byte_of t.kind) right_kind e, eqb-true (byte_of t.kind) left_kind g))
        go true e false g = omega (arith, finds.rights g)
        go false e true g = omega (arith, finds.lefts e)
        go false e false g = omega (arith, finds.lefts e, finds.rights g)

-- there are at most as many entries as parts
pub entries_few : (p : Bool) (l n : ℕ) (bs : List ℕ) (m : ℕ) (cs : List ℕ) → length (entries_of p l n bs m cs) ≤ n + m
unfolding entries_of run_entries parts_at
entries_few p l n bs m cs = omega (
  arith,
  compare_few (rise_of p) same_bytes (left_entry p l) (right_entry p right_kind l) (right_entry p changed_kind l) (parts_at p n bs) (parts_at p m cs),
  parts_length (part_bytes p) (after_part p) n bs,
  parts_length (part_bytes p) (after_part p) m cs,
)

-- all is written
pub run_done : (p : Bool) (l : ℕ) (left right : List ℕ) (out₀ : List ℕ) (at : ℕ) (q₀ : Places) (out : List ℕ) (q : Places) (next listed : ℕ) → Written p l left right out₀ at q₀ out q next listed → q.lefts + q.rights ≤ 0
    → At left q.left (after_all p q₀.lefts (drop q₀.left left)) × At right q.right (after_all p q₀.rights (drop q₀.right right))
    × (next ≡ at + length (join (entries_at p l left right q₀))) × (listed ≡ length (entries_at p l left right q₀)) × (out ≡ put out₀ at (join (entries_at p l left right q₀)))
run_done p l left right out₀ at q₀ out q next listed w h =
    let n : q.lefts ≡ 0 = omega arith in
    let m : q.rights ≡ 0 = omega arith in
    let none : entries_at p l left right q ≡ [] = ap (λ (k : ℕ). entries_of p l k (drop q.left left) q.rights (drop q.right right)) n ∙ ap (λ (k : ℕ). entries_of p l 0 (drop q.left left) k (drop q.right right)) m ∙ entries_none p l (drop q.left left) (drop q.right right) in (
      record { within = w.in_left; rest = sym (ap (λ (k : ℕ). after_all p k (drop q.left left)) n ∙ all_none p (drop q.left left)) ∙ w.after_left },
      record { within = w.in_right; rest = sym (ap (λ (k : ℕ). after_all p k (drop q.right right)) m ∙ all_none p (drop q.right right)) ∙ w.after_right },
      omega (arith, w.room, none_length (entries_at p l left right q) none),
      omega (arith, w.count, ap length none),
      sym (none_laid (entries_at p l left right q) none out next) ∙ w.laid,
    )
