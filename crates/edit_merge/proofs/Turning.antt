-- What the loop of `merge` needs at each turn in a level: what holds of the files laid and of those left, and that it holds again with one file more. Assumes nothing.
use Prim.Native.Nat.{ℕ, ◌+◌, ◌≤◌, ◌<◌}
use mathlib.Core.Path.{◌≡◌, sym, ap, ◌∙◌}
use mathlib.Core.Bool.{true, false, ◌&&◌}
use mathlib.Core.List.{List, ◌∷◌, map}
use native.Mathlib.Omega.{arith}
use lib.ListN.{length, get_or, set, length-set}
use lib.Seq.{slice}
use Rattle.lemmas.specs.Merge.{merge}
use Rattle.lemmas.specs.Slices.{put, put_cons}
use Rattle.model.specs.File.{in_order, no_collision, max_additions, max_files}
use Rattle.records.specs.Record.{file_of, past}
use Rattle.records.specs.declared.FileRecord.{FileRecord}
use Rattle.edit_order.specs.Arrangement.{record_before}
use Rattle.edit_merge.specs.declared.Seen.{Seen}
use Rattle.edit_merge.specs.Neighbours.{seen_after}
use Rattle.edit_merge.specs.NeighbourLaws.{Sees, rest, sees_new, sees_old, rest_new, rest_old, next_apart}
use Rattle.edit_merge.specs.MergeLaws.{takes_second, takes_first}

-- a level, of which what stays ends at e and what is added at f
module _ (level : ℕ) (old new : List FileRecord) (e f : ℕ) where
  -- both from i and j on, merged
  abbrev merged : ℕ → ℕ → List FileRecord
  merged i j = merge record_before (slice i e old) (slice j f new)

  -- the level was begun at i₀ and j₀, when out₀ was laid down
  module _ (out₀ : List FileRecord) (seen₀ : Seen) (i₀ j₀ : ℕ) where
    -- where it stands: what is laid down, with what is left, is the whole; what is seen, with what is left to be asked, is whether any collide
    abbrev pub MergeInvariant : List FileRecord → Seen → ℕ → ℕ → Type 0
    MergeInvariant out s i j =
        (i₀ ≤ i) × (i ≤ e) × (j ≤ f) × (e + f ≤ max_files) × (f ≤ max_additions) × (length out ≡ max_files)
        × (put out (i + j) (merged i j) ≡ put out₀ (i₀ + j₀) (merged i₀ j₀))
        × (in_order level (map file_of (slice i₀ e old)) ≡ true)
        × Sees level s (i < e) (get_or old i past)
        × ((s.fits && rest level s (merged i j)) ≡ (seen₀.fits && no_collision level (map file_of (merged i₀ j₀))))

    module _ (out : List FileRecord) (s : Seen) (i j : ℕ) (now : MergeInvariant out s i j) (g : e ≤ length old) (q : f ≤ length new) (x : FileRecord) (t : Seen) where
      -- x is laid down, and is the first of what was left
      laid : (k l : ℕ) → k + l ≡ i + j + 1 → i₀ ≤ k → k ≤ e → l ≤ f → merged i j ≡ x ∷ merged k l → Sees level t (k < e) (get_or old k past) → ((t.fits && rest level t (merged k l)) ≡ (s.fits && rest level s (merged i j)))
          → MergeInvariant (set out (i + j) x) t k l
      laid k l next from h p takes sees asks = (
        from,
        h,
        p,
        now.3,
        now.4,
        length-set out (i + j) x ∙ now.5,
        rw next (put_cons out (i + j) x (merged k l) (omega arith)) ∙ ap (put out (i + j)) (sym takes) ∙ now.6,
        now.7,
        sees,
        asks ∙ now.9,
      )

      -- it is an added one
      pub turn_new : t ≡ seen_after s x true → get_or new j past ≡ x → j < f → (i < e → record_before (get_or new j past) (get_or old i past) ≡ true) → MergeInvariant (set out (i + j) x) t i (j + 1)
      turn_new u here p first =
          let more = merged i (j + 1) in
          let next = takes_second record_before old new i e j f past now.1 g p q first ∙ ap (λ (y : FileRecord). y ∷ more) here in
          laid i (j + 1) (omega arith) now.0 now.1 (omega arith) next (rw u (sees_new level s x (i < e) (get_or old i past) now.8))
          (rw u (rest_new level s x (i < e) (get_or old i past) now.8 more) ∙ ap (λ (z : List FileRecord). s.fits && rest level s z) (sym next))

      -- it is one that stays
      pub turn_old : t ≡ seen_after s x false → get_or old i past ≡ x → i < e → (j < f → record_before (get_or new j past) (get_or old i past) ≡ false) → MergeInvariant (set out (i + j) x) t (i + 1) j
      turn_old u here h first =
          let more = merged (i + 1) j in
          let next = takes_first record_before old new i e j f past h g now.2 q first ∙ ap (λ (y : FileRecord). y ∷ more) here in
          let known : Sees level s (i < e) x = rw here at now.8 in
          laid (i + 1) j (omega arith) (omega arith) (omega arith) now.2 next
          (rw u (sees_old level s x (i < e) (get_or old i past) now.8 (i + 1 < e) (get_or old (i + 1) past) (λ m d. rw here at (next_apart level i₀ e old i d g now.7 now.0 m))))
          (rw u (rest_old level s x (i < e) known h more) ∙ ap (λ (z : List FileRecord). s.fits && rest level s z) (sym next))
