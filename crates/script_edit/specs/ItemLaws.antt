-- Items added one after another: what a loop over them says at each turn. Assumes nothing.
use Prim.Native.Nat.{ℕ, zero, suc, ◌+◌, ◌-◌, ◌≤◌, ◌<◌}
use Rattle.std.specs.Prelude.{◌≡◌, Bool, true, false, List, ltb, length}
use Rattle.std.proofs.Math.Path.{refl}
use Rattle.std.proofs.Common.{sym, ap, ◌∙◌, arith, lt-ltb, le-ltb, ltb-true, ltb-false}
use Rattle.edit.specs.declared.Edit.{Edit}
use Rattle.script_parts.specs.Parts.{words_of, next_end}
use Rattle.script_edit.specs.Items.{item_of, items_after}

module _ (line : List ℕ) where
  -- no word is left
  pub items_end : (k : ℕ) (e : Edit) (at : ℕ) → length line ≤ at → items_after k line e at ≡ e
  unfolding items_after
  items_end zero e at h = refl
  items_end (suc k) e at h = rw (le-ltb at (length line) h)

  -- a word more
  items_turn : (k : ℕ) (e : Edit) (at : ℕ) → at < length line
      → items_after (suc k) line e at ≡ items_after k line (item_of line e (at + 1) (next_end line (words_of line) (at + 1))) (next_end line (words_of line) (at + 1))
  unfolding items_after
  items_turn k e at h = rw (lt-ltb at (length line) h)

  -- as many words as are allowed do not matter, where there are no more
  items_any : (k j : ℕ) (e : Edit) (at : ℕ) → length line - at ≤ k → length line - at ≤ j → items_after k line e at ≡ items_after j line e at
  items_any zero j e at h g = items_end zero e at (omega arith) ∙ sym (items_end j e at (omega arith))
  items_any (suc k) zero e at h g = items_end (suc k) e at (omega arith) ∙ sym (items_end zero e at (omega arith))
  items_any (suc k) (suc j) e at h g =
      go (ltb at (length line)) refl
      (λ l. items_any k j (item_of line e (at + 1) (next_end line (words_of line) (at + 1))) (next_end line (words_of line) (at + 1)) (omega arith) (omega arith))
    where
      go : (t : Bool) → ltb at (length line) ≡ t
          → (at < length line → items_after k line (item_of line e (at + 1) (next_end line (words_of line) (at + 1))) (next_end line (words_of line) (at + 1)) ≡ items_after j line (item_of line e (at + 1) (next_end line (words_of line) (at + 1))) (next_end line (words_of line) (at + 1)))
          → items_after (suc k) line e at ≡ items_after (suc j) line e at
      go true q same = items_turn k e at (ltb-true at (length line) q) ∙ same (ltb-true at (length line) q) ∙ sym (items_turn j e at (ltb-true at (length line) q))
      go false q same = items_end (suc k) e at (ltb-false at (length line) q) ∙ sym (items_end (suc j) e at (ltb-false at (length line) q))

  -- a word more, as the loop has it
  pub items_next : (e f : Edit) (at to : ℕ) → at < length line → to ≡ next_end line (words_of line) (at + 1) → f ≡ item_of line e (at + 1) to
      → items_after (length line) line f to ≡ items_after (length line) line e at
  items_next e f at to h p q =
      ap (λ (x : Edit). items_after (length line) line x to) (q ∙ ap (item_of line e (at + 1)) p)
      ∙ ap (items_after (length line) line (item_of line e (at + 1) (next_end line (words_of line) (at + 1)))) p
      ∙ sym (items_turn (length line) e at h)
      ∙ items_any (suc (length line)) (length line) e at (omega arith) (omega arith)
