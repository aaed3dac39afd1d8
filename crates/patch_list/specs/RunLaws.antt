-- Laws of a section: where it is right its entries are good and in order and write these very bytes, and what good entries in order wrote is right. Assumes nothing.
use Prim.Native.Nat.{ℕ, zero, suc, ◌^◌, ◌≤◌, ◌<◌}
use Rattle.std.specs.Prelude.{◌≡◌, Bool, ◌&&◌, take}
use Rattle.std.proofs.Math.Path.{refl, ap, subst}
use Rattle.std.proofs.Common.{sym, ◌∙◌, arith, length-take}
use Rattle.std.proofs.Math.Bool.{true}
use mathlib.Core.List.Memᴰ.{head as here}
use mathlib.Core.List.Memᴰ.{not-nil}
use mathlib.Core.List.Memᴰ.{tail as there}
use mathlib.Core.List.{List, [], ◌∷◌, ◌++◌, map, append_assoc, Memᴰ as In}
use Rattle.std.proofs.Math.Nat.{pow-le-pow_right}
use borrow.Author.Tests.{leb-true, le-leb}
use Rattle.std.proofs.Math.Dec.{leb}
use Rattle.std.proofs.Math.ListN.{length, drop, length-append}
use Rattle.std.proofs.Math.Pow.{are_bytes}
use Rattle.lemmas.specs.AreBytes.{bytes_take, bytes_drop}
use Rattle.lemmas.specs.ListLaws.{and_left, and_right, both}
use Rattle.lemmas.specs.Lists.{chain, join}
use Rattle.lemmas.specs.Little.{bytes, number_bound}
use Rattle.lemmas.specs.Order.{lexb, by_first}
use Rattle.model.specs.File.{full}
use Rattle.model.specs.Snapshot.{section, count_long}
use Rattle.model.proofs.SnapshotLaws.{section_length}
use Rattle.model.specs.Difference.{Difference, only_left, only_right, changed, pointer_is, counter_is, place, earlier, good_difference}
use Rattle.model.specs.DifferenceBytes.{section_of, write_difference}
use Rattle.snapshot_parse.specs.Parsing.{number_in, parts_in, after_parts}
use Rattle.snapshot_parse.specs.ParsingLaws.{parts_length}
use Rattle.snapshot_parse.specs.BackLaws.{parts_back, count_back, count_rest}
use Rattle.patch_list.specs.Entries.{Reading, entry_in, level_of, number_of, standing, right_from, after_from, section_right, after_section}
use Rattle.patch_list.specs.EntryLaws.{Sure, rest_bytes, number_stands}

-- a count is below 65536
count_few : (bs : List ℕ) → are_bytes bs ≡ true → number_in count_long bs < 65536
unfolding number_in
count_few bs h =
    let l = take count_long bs in
    let few : length l ≤ 2 = omega (arith, length-take count_long bs) in
    let p : 256 ^ length l ≤ 256 ^ 2 = pow-le-pow_right (omega arith) few in
    omega (arith, number_bound l (bytes_take count_long bs h))

-- ---- the order within a section
-- of files: by level and number
files_stand : (l n : ℕ) (e : Difference) → 0 ≡ section_of e → lexb (0 ∷ l ∷ n ∷ []) (place e) ≡ lexb (l ∷ n ∷ []) (standing e)
unfolding section_of place standing level_of number_of lexb by_first
files_stand l n (only_left m k) q = refl
files_stand l n (only_right m f) q = refl
files_stand l n (changed m f) q = refl
files_stand l n (pointer_is m o) q = absurd (omega arith)
files_stand l n (counter_is i v) q = absurd (omega arith)

-- of pointers and counters: by level, or by place
others_stand : (s l : ℕ) (e : Difference) → s ≡ section_of e → (s ≡ 0 → ⊥) → lexb (s ∷ l ∷ []) (place e) ≡ lexb (l ∷ 0 ∷ []) (standing e)
unfolding section_of place standing level_of number_of lexb by_first
others_stand s l (only_left m k) q z = absurd (z q)
others_stand s l (only_right m f) q z = absurd (z q)
others_stand s l (changed m f) q z = absurd (z q)
others_stand s l (pointer_is m o) q z = rw q
others_stand s l (counter_is i v) q z = rw q

-- so within a section entries stand by level, then number
earlier_stands : (d e : Difference) → section_of d ≡ section_of e → earlier d e ≡ lexb (standing d) (standing e)
unfolding earlier section_of place standing level_of number_of
earlier_stands (only_left l n) e q = files_stand l n e q
earlier_stands (only_right l f) e q = files_stand l f.number e q
earlier_stands (changed l f) e q = files_stand l f.number e q
earlier_stands (pointer_is l o) e q = others_stand 1 l e q (λ z. omega arith)
earlier_stands (counter_is i v) e q = others_stand 2 i e q (λ z. omega arith)

-- entries in order, after one that stands by p, or after none
unfoldable rises : List ℕ → List Difference → Bool
rises p [] = true
rises p (d ∷ ds) = lexb p (standing d) && rises (standing d) ds

-- ---- a section
-- its entries: good, and of this section
abbrev pub OfSection : ℕ → List Difference → Type 0
OfSection s ds = (d : Difference) → In d ds → (good_difference full d ≡ true) × (section_of d ≡ s)

module _ (s : ℕ) where
  -- without the first
  later : (d : Difference) (ds : List Difference) → OfSection s (d ∷ ds) → OfSection s ds
  later d ds m e k = m e (there k)

  -- two neighbours
  neighbours : (d e : Difference) (ds : List Difference) → OfSection s (d ∷ e ∷ ds) → earlier d e ≡ lexb (standing d) (standing e)
  neighbours d e ds m = earlier_stands d e ((m d (here refl)).1 ∙ sym (m e (there (here refl))).1)

  -- rising entries are in the order of the list
  rises_chain : (p : List ℕ) (ds : List Difference) → OfSection s ds → rises p ds ≡ true → chain earlier ds ≡ true
  unfolding rises chain
  rises_chain p [] m h = refl
  rises_chain p (d ∷ []) m h = refl
  rises_chain p (d ∷ e ∷ ds) m h =
      let r = and_right (lexb p (standing d)) (rises (standing d) (e ∷ ds)) h in
      both (earlier d e) (chain earlier (e ∷ ds)) (neighbours d e ds m ∙ and_left (lexb (standing d) (standing e)) (rises (standing e) ds) r) (rises_chain (standing d) (e ∷ ds) (later d (e ∷ ds) m) r)

  -- entries in the order of the list rise
  chain_rises : (d : Difference) (ds : List Difference) → OfSection s (d ∷ ds) → chain earlier (d ∷ ds) ≡ true → rises (standing d) ds ≡ true
  unfolding rises chain
  chain_rises d [] m h = refl
  chain_rises d (e ∷ ds) m h =
      both (lexb (standing d) (standing e)) (rises (standing e) ds) (sym (neighbours d e ds m) ∙ and_left (earlier d e) (chain earlier (e ∷ ds)) h) (chain_rises e ds (later d (e ∷ ds) m) (and_right (earlier d e) (chain earlier (e ∷ ds)) h))

  -- from the first on
  all_rise : (ds : List Difference) → OfSection s ds → chain earlier ds ≡ true → rises [] ds ≡ true
  unfolding rises lexb standing
  all_rise [] m h = refl
  all_rise (d ∷ ds) m h = chain_rises d ds m h

-- a section whose readings are sure
module _ (s : ℕ) (sure : Sure s) where
  -- the entries that are read
  abbrev pub entries_in : ℕ → List ℕ → List Difference
  entries_in n bs = parts_in (λ cs. (entry_in s cs).entry) (λ cs. (entry_in s cs).rest) n bs

  -- n of them after one that stands by p: good, in order, and the bytes are just what they write
  record RightRun (n : ℕ) (p bs : List ℕ) : Type 0 where
    members : OfSection s (entries_in n bs)
    ordered : rises p (entries_in n bs) ≡ true
    written : join (map write_difference (entries_in n bs)) ++ after_from s n bs ≡ bs

  -- right entries are
  run_right : (n : ℕ) (p bs : List ℕ) → are_bytes bs ≡ true → right_from s n p bs ≡ true → RightRun n p bs
  unfolding right_from rises parts_in after_from after_parts join
  run_right zero p bs h t = record { members = λ d m. absurd (not-nil m); ordered = refl; written = refl }
  run_right (suc n) p bs h t =
      let r = entry_in s bs in
      let d = r.entry in
      let first = lexb p (standing d) in
      let now = and_left (r.right && first) (right_from s n (standing d) r.rest) t in
      let e = sure.right bs h (and_left r.right first now) in
      let w = run_right n (standing d) r.rest (rest_bytes (write_difference d) r.rest bs e.written h) (and_right (r.right && first) (right_from s n (standing d) r.rest) t) in
      let ds = entries_in n r.rest in
      record {
        members = λ c m. of c e.good e.section w.members m;
        ordered = both first (rises (standing d) ds) (and_right r.right first now) w.ordered;
        written = append_assoc (write_difference d) (join (map write_difference ds)) (after_from s n r.rest) ∙ ap (λ (y : List ℕ). write_difference d ++ y) w.written ∙ e.written;
      }
    where
      of : (c : Difference) → good_difference full (entry_in s bs).entry ≡ true → section_of (entry_in s bs).entry ≡ s → OfSection s (entries_in n (entry_in s bs).rest) → In c ((entry_in s bs).entry ∷ entries_in n (entry_in s bs).rest)
          → (good_difference full c ≡ true) × (section_of c ≡ s)
      of c g q w (here e) = subst (λ (x : Difference). (good_difference full x ≡ true) × (section_of x ≡ s)) (sym e) (g, q)
      of c g q w (there m) = w c m

  -- what rising entries wrote is right, whatever follows
  run_back : (ds : List Difference) (p y : List ℕ) → OfSection s ds → rises p ds ≡ true → right_from s (length ds) p (join (map write_difference ds) ++ y) ≡ true
  unfolding right_from rises join
  run_back [] p y m h = refl
  run_back (d ∷ ds) p y m h =
      let z = join (map write_difference ds) ++ y in
      let g = m d (here refl) in
      let first = lexb p (standing d) in
      rw (append_assoc (write_difference d) (join (map write_difference ds)) y, sure.back d z g.1 g.0)
      (both first (right_from s (length ds) (standing d) z) (and_left first (rises (standing d) ds) h) (run_back ds (standing d) y (later s d ds m) (and_right first (rises (standing d) ds) h)))

  -- the bytes after it are those that follow
  run_rest : (ds : List Difference) (y : List ℕ) → OfSection s ds → after_from s (length ds) (join (map write_difference ds) ++ y) ≡ y
  unfolding after_from
  run_rest ds y m =
      (parts_back write_difference (λ cs. (entry_in s cs).entry) (λ cs. (entry_in s cs).rest) ds y
      (λ d k z. let g = m d k in let e = sure.back d z g.1 g.0 in (ap (λ (r : Reading). r.entry) e, ap (λ (r : Reading). r.rest) e))).1

  -- a section that is right: its entries are good and in order, there are not too many, and the bytes are just what it writes
  pub record RightSection (bs : List ℕ) (ds : List Difference) : Type 0 where
    pub members : OfSection s ds
    pub ordered : chain earlier ds ≡ true
    pub few : length ds < 65536
    pub written : section write_difference ds ++ after_section s bs ≡ bs

  -- its entries
  abbrev pub section_entries : List ℕ → List Difference
  section_entries bs = entries_in (number_in count_long bs) (drop count_long bs)

  -- so it is
  pub section_right_lem : (bs : List ℕ) → are_bytes bs ≡ true → section_right s bs ≡ true → RightSection bs (section_entries bs)
  unfolding section_right after_section section
  section_right_lem bs h t =
      let n = number_in count_long bs in
      let body = drop count_long bs in
      let there' = leb count_long (length bs) in
      let long = leb-true 2 (length bs) (and_left there' (right_from s n [] body) t) in
      let w = run_right n [] body (bytes_drop 2 bs h) (and_right there' (right_from s n [] body) t) in
      let ds = entries_in n body in
      let count : length ds ≡ n = parts_length (λ cs. (entry_in s cs).entry) (λ cs. (entry_in s cs).rest) n body in
      record {
        members = w.members;
        ordered = rises_chain s [] ds w.members w.ordered;
        few = omega (arith, count_few bs h);
        written = append_assoc (bytes count_long (length ds)) (join (map write_difference ds)) (after_from s n body) ∙ rw (w.written, count) (number_stands 2 bs h long);
      }

  -- what a section of good entries in order wrote is right, whatever follows
  pub section_back : (ds : List Difference) (y : List ℕ) → OfSection s ds → chain earlier ds ≡ true → length ds < 65536
      → (section_right s (section write_difference ds ++ y) ≡ true) × (after_section s (section write_difference ds ++ y) ≡ y)
  unfolding section_right after_section
  section_back ds y m c few =
      let n = count_back write_difference ds y few in
      let r = count_rest write_difference ds y in
      let long = le-leb 2 (length (section write_difference ds ++ y)) (omega (arith, length-append (section write_difference ds) y, section_length write_difference ds)) in
      (rw (n, r, long) (run_back ds [] y m (all_rise s ds m c)), rw (n, r) (run_rest ds y m))
