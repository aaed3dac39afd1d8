-- Loops that lay an answer: what is laid so far, with what is left after it, is the whole. Assumes nothing.
use Rattle.std.specs.Prelude.{ℕ, zero, suc, ◌+◌, ◌-◌, ◌≤◌, ◌<◌, ◌≡◌, refl, List, [], ◌∷◌, ◌++◌, map, length, get_or, take, drop}
use Rattle.std.proofs.Common.{sym, ap, ◌∙◌, add-one, drop_of_length-le}
use native.Mathlib.Omega.{arith}
use Rattle.std.proofs.lemmas.List.{length-map}
use Rattle.std.proofs.Math.Seq.{slice}
use borrow.Author.Tests.{le-leb, lt-leb}
use Rattle.model.specs.File.{max_files}
use Rattle.lemmas.specs.Slices.{put, drop_next, run_rest, put_whole}
use Rattle.records.specs.declared.FileRecord.{FileRecord}
use Rattle.script_lines.specs.Lines.{Laid, decimal, hex_text}
use Rattle.script_lines.specs.LineLaws.{laid_none, laid_then}
use Rattle.shell_reply.specs.Replies.{mark_text, next_place, form_text, more_text, more_texts, numbers_text, number_of, files_text, front_text}

-- laying what is left after a place ends the whole
abbrev pub Ends : List ℕ → ℕ → List ℕ → List ℕ → ℕ → List ℕ → Type 0
Ends out at rest start-out start whole = (o : List ℕ) (r : ℕ) → Laid out at rest o r → Laid start-out start whole o r

-- nothing is left
pub ends : {out : List ℕ} {at : ℕ} {rest o : List ℕ} {start : ℕ} {whole : List ℕ} → Ends out at rest o start whole → rest ≡ [] → Laid o start whole out at
ends {out} {at} h e = h out at (rw e (laid_none out at))

-- one text more
pub ends_next : {out : List ℕ} {at : ℕ} {rest o : List ℕ} {start : ℕ} {whole : List ℕ} (text more : List ℕ) {out' : List ℕ} {at' : ℕ}
    → Ends out at rest o start whole → rest ≡ text ++ more → Laid out at text out' at' → Ends out' at' more o start whole
ends_next text more h e l o r k = h o r (rw e (laid_then l k))

-- ---- forms
module _ (numbers form : List ℕ) (i k : ℕ) where
  -- one byte of a form
  pub form_next : i < length form → form_text numbers (drop i form) k ≡ mark_text (get_or form i 0) (get_or numbers k 0) ++ form_text numbers (drop (i + 1) form) (next_place (get_or form i 0) k)
  unfolding form_text
  form_next h = rw (drop_next form i (i + 1) 0 (sym (add-one i)) h)

  -- no byte is left
  pub form_end : length form ≤ i → form_text numbers (drop i form) k ≡ []
  unfolding form_text
  form_end h = rw (drop_of_length-le form h)

  -- one byte of a form laid
  pub form_turn : (n j : ℕ) {out : List ℕ} {at : ℕ} {o : List ℕ} {start : ℕ} {whole out' : List ℕ} {at' : ℕ} → i < length form → n ≡ get_or numbers k 0 → j ≡ next_place (get_or form i 0) k
      → Ends out at (form_text numbers (drop i form) k) o start whole → Laid out at (mark_text (get_or form i 0) n) out' at' → Ends out' at' (form_text numbers (drop (i + 1) form) j) o start whole
  form_turn n j h p q e l =
      let m = get_or form i 0 in
      let t : form_text numbers (drop i form) k ≡ mark_text m n ++ form_text numbers (drop (i + 1) form) j = rw (p, q) (form_next h) in
      ends_next (mark_text m n) (form_text numbers (drop (i + 1) form) j) e t l

-- ---- lists of numbers
module _ (ns : List ℕ) (i : ℕ) where
  -- a number more
  pub more_next : i < length ns → more_texts (drop i ns) ≡ more_text (get_or ns i 0) ++ more_texts (drop (i + 1) ns)
  unfolding more_texts
  more_next h = rw (drop_next ns i (i + 1) 0 (sym (add-one i)) h)

  -- no number is left
  pub more_end : length ns ≤ i → more_texts (drop i ns) ≡ []
  unfolding more_texts
  more_end h = rw (drop_of_length-le ns h)

  -- a number more laid
  pub more_turn : (n : ℕ) {out : List ℕ} {at : ℕ} {o : List ℕ} {start : ℕ} {whole out' : List ℕ} {at' : ℕ} → i < length ns → n ≡ get_or ns i 0
      → Ends out at (more_texts (drop i ns)) o start whole → Laid out at (more_text n) out' at' → Ends out' at' (more_texts (drop (i + 1) ns)) o start whole
  more_turn n h p e l = ends_next (more_text n) (more_texts (drop (i + 1) ns)) e (rw p (more_next h)) l

-- no number
pub numbers_none : (ns : List ℕ) → length ns ≡ 0 → numbers_text ns ≡ 45 ∷ []
unfolding numbers_text
numbers_none [] h = refl
numbers_none (n ∷ ns) h = absurd (omega arith)

-- the first number, and a comma before each other
pub numbers_first : (ns : List ℕ) → 0 < length ns → numbers_text ns ≡ decimal (get_or ns 0 0) ++ more_texts (drop 1 ns)
unfolding numbers_text
numbers_first [] h = absurd (omega arith)
numbers_first (n ∷ ns) h = refl

-- the first number laid, and the rest
pub first_laid : (ns : List ℕ) (n : ℕ) {o : List ℕ} {start : ℕ} {out : List ℕ} {at : ℕ} {out' : List ℕ} {r : ℕ} → 0 < length ns → n ≡ get_or ns 0 0 → Laid o start (decimal n) out at
    → Laid out at (more_texts (drop 1 ns)) out' r → Laid o start (numbers_text ns) out' r
first_laid ns n h p l k = rw (numbers_first ns h, ← p) (laid_then l k)

-- ---- the numbers of records
module _ (files : List FileRecord) (from to : ℕ) where
  -- no run
  pub files_back : to < from → files_text files from to ≡ 45 ∷ []
  unfolding files_text
  files_back h = rw (lt-leb from to h)

  pub files_past : from ≤ to → max_files < to → files_text files from to ≡ 45 ∷ []
  unfolding files_text
  files_past g h = rw (le-leb from to g, lt-leb to max_files h)

  -- a run
  pub files_in_lem : from ≤ to → to ≤ max_files → files_text files from to ≡ numbers_text (take (to - from) (drop from (map number_of files)))
  unfolding files_text
  files_in_lem g h = rw (le-leb from to g, le-leb to max_files h)

-- the column of a run of records, at the beginning
pub column_begun : (files : List FileRecord) (d : List ℕ) → length files ≡ max_files → length d ≡ max_files → put d 0 (map number_of (slice 0 max_files files)) ≡ map number_of files
column_begun files d h g =
    let e : slice 0 max_files files ≡ files = ap (λ (n : ℕ). slice 0 n files) (sym h) ∙ run_rest 0 files in
    rw e (put_whole d (map number_of files) (length-map files number_of ∙ h ∙ sym g))

-- past the end a number is 0
pub number_past : (ns : List ℕ) (k : ℕ) → length ns ≤ k → get_or ns k 0 ≡ 0
number_past [] k h = refl
number_past (n ∷ ns) zero h = absurd (omega arith)
number_past (n ∷ ns) (suc k) h = number_past ns k (omega arith)

-- ---- the first bytes
module _ (n : ℕ) (bytes : List ℕ) where
  -- there are so many
  pub front_in : n ≤ length bytes → front_text n bytes ≡ hex_text (take (n - 0) bytes)
  unfolding front_text
  front_in h = let e : n - 0 ≡ n = omega arith in rw (le-leb n (length bytes) h, e)

  -- there are not
  pub front_out : length bytes < n → front_text n bytes ≡ []
  unfolding front_text
  front_out h = rw (lt-leb n (length bytes) h)
