-- Laws of a section read entry by entry: at each turn what is left decides. Assumes nothing.
use Prim.Native.Nat.{ℕ, suc, ◌+◌, ◌-◌, ◌≤◌, ◌<◌}
use Rattle.std.specs.Prelude.{◌≡◌, Bool, ◌&&◌, Option, Some, None, List, [], ◌∷◌, length}
use Rattle.std.proofs.Math.Path.{sym, ap}
use Rattle.std.proofs.Common.{◌∙◌, drop-drop}
use Rattle.std.proofs.Math.Bool.{true, false}
use native.Mathlib.Omega.{arith}
use borrow.Author.Tests.{le-leb, lt-leb}
use Rattle.std.proofs.Math.Dec.{leb}
use Rattle.std.proofs.Math.ListN.{drop, length-drop}
use Rattle.lemmas.specs.Order.{lexb}
use Rattle.model.specs.Snapshot.{count_long}
use Rattle.snapshot_parse.specs.Parsing.{At, number_in, after_parts}
use Rattle.patch_list.specs.Entries.{entry_in, standing, right_from, after_from, section_right, after_section, Reading, Kept, last_standing}
use Rattle.patch_list.specs.declared.Entry.{Entry}

-- a section at a place of the bytes
module _ (s : ℕ) (src : List ℕ) (at : ℕ) where
  -- its count is not there
  pub section_short : length src - at < count_long → section_right s (drop at src) ≡ false
  unfolding section_right
  section_short h = let none : leb count_long (length (drop at src)) ≡ false = lt-leb count_long (length (drop at src)) (omega (arith, length-drop at src)) in rw none

  -- how far it is read: n entries are left from a place on, after the last one
  pub record Left (n next : ℕ) (last : Option Entry) : Type 0 where
    pub within : next ≤ length src
    pub right : right_from s n (last_standing last) (drop next src) ≡ section_right s (drop at src)
    pub after : after_from s n (drop next src) ≡ after_section s (drop at src)

  -- at first all are
  pub section_begun : at ≤ length src → count_long ≤ length src - at → (n : ℕ) → n ≡ number_in count_long (drop at src) → Left n (at + count_long) None
  unfolding section_right after_section last_standing
  section_begun h k n e =
      let there : leb count_long (length (drop at src)) ≡ true = le-leb count_long (length (drop at src)) (omega (arith, length-drop at src)) in
      let on : drop (at + count_long) src ≡ drop count_long (drop at src) = sym (drop-drop count_long at src) in
      record { within = omega arith; right = rw (there, on, e); after = rw (on, e) }

  -- a turn: one more entry is read
  module _ (n next : ℕ) (last : Option Entry) (some : 0 < n) (w : Left n next last) where
    -- the entry
    abbrev here : Reading
    here = entry_in s (drop next src)

    -- it and those after it
    turn : right_from s n (last_standing last) (drop next src) ≡ (here.right && lexb (last_standing last) (standing here.entry)) && right_from s (n - 1) (standing here.entry) here.rest
    unfolding right_from
    turn = let k : n ≡ suc (n - 1) = omega arith in ap (λ (m : ℕ). right_from s m (last_standing last) (drop next src)) k

    -- it is not right: the section is not
    pub entry_wrong : here.right ≡ false → section_right s (drop at src) ≡ false
    entry_wrong q = sym w.right ∙ turn ∙ rw q

    -- it is
    module _ (e : Entry) (f : Kept src here e) (b : Bool) (t : b ≡ lexb (last_standing last) (e.level ∷ e.number ∷ [])) where
      -- it stands by its level and its number
      by : e.level ∷ e.number ∷ [] ≡ standing here.entry
      unfolding standing
      by = rw (f.level, f.number)

      -- it does not stand after the last one: the section is not right
      pub turn_wrong : b ≡ false → section_right s (drop at src) ≡ false
      turn_wrong q =
          let none : lexb (last_standing last) (standing here.entry) ≡ false = ap (lexb (last_standing last)) (sym by) ∙ sym t ∙ q in
          sym w.right ∙ turn ∙ rw (f.right, none)

      -- it does: those after it are left
      pub turn_right : b ≡ true → Left (n - 1) e.next (Some e)
      unfolding last_standing after_from after_parts
      turn_right q =
          let k : n ≡ suc (n - 1) = omega arith in
          let one : lexb (last_standing last) (standing here.entry) ≡ true = ap (lexb (last_standing last)) (sym by) ∙ sym t ∙ q in
          let rest : after_from s n (drop next src) ≡ after_from s (n - 1) (drop e.next src) = rw f.next.rest (ap (λ (m : ℕ). after_from s m (drop next src)) k) in
          record { within = f.next.within; right = rw (by, f.next.rest) (sym (turn ∙ rw (f.right, one)) ∙ w.right); after = sym rest ∙ w.after }

  -- all are read: it is right, and the bytes after it are left
  pub section_done : (n next : ℕ) (last : Option Entry) → Left n next last → n ≡ 0 → (section_right s (drop at src) ≡ true) × At src next (after_section s (drop at src))
  unfolding right_from after_from after_parts
  section_done n next last w e =
      let bs = drop next src in (
        sym w.right ∙ ap (λ (m : ℕ). right_from s m (last_standing last) bs) e,
        record { within = w.within; rest = ap (λ (m : ℕ). after_from s m bs) (sym e) ∙ w.after },
      )
