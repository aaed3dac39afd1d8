-- Laws of the collision test: after all files of a level it tells whether none collide. Assumes nothing.
use Rattle.std.specs.Prelude.{ℕ, zero, suc, ◌+◌, ◌-◌, ◌≤◌, ◌<◌, ◌≡◌, Bool, not, ◌&&◌, ◌||◌, List, [], ◌∷◌, map, length, get_or}
use Rattle.std.proofs.Math.Path.{refl, ap}
use Rattle.std.proofs.Common.{sym, ◌∙◌, arith, add-one, ltb-true, lt-ltb}
use Rattle.std.proofs.Math.Bool.{true, false, cond}
use Rattle.std.proofs.Math.Dec.{ltb}
use Rattle.std.proofs.Math.Seq.{slice}
use Rattle.lemmas.specs.Order.{clash}
use Rattle.lemmas.specs.Lists.{chain}
use Rattle.lemmas.specs.ListLaws.{and_true}
use Rattle.lemmas.specs.Slices.{at_view, length_view}
use Rattle.lemmas.specs.Loops.{chain_at}
use Rattle.model.specs.Key.{before}
use Rattle.model.specs.File.{File, apart, in_order, no_collision, levelwise}
use Rattle.keys.specs.Key.{key_of}
use Rattle.keys.specs.declared.Key.{Key}
use Rattle.records.specs.Record.{file_of, past}
use Rattle.records.specs.declared.FileRecord.{FileRecord}
use Rattle.edit_merge.specs.Builder.{files_of}
use Rattle.edit_merge.specs.Neighbours.{clear_of, level_begun, seen_after}
use Rattle.edit_merge.specs.declared.Seen.{Seen}

-- the files are apart, and the first begins after the key `end`
apart_from : Key → List FileRecord → Bool
apart_from end [] = true
apart_from end (x ∷ xs) = before (key_of end) (key_of x.smallest) && apart (map file_of (x ∷ xs))

-- what the rest of the level must still meet
pub rest : ℕ → Seen → List FileRecord → Bool
rest level s xs = cond s.follows (apart_from s.end xs) (no_collision level (map file_of xs))

-- what is known between two files. Files can collide above level 0, an added last file is one to test with, and if the last file stayed the next stayer is apart
-- from it
pub record Sees (level : ℕ) (s : Seen) (more : Type 0) (next : FileRecord) : Type 0 where
  pub deep : s.deep ≡ ltb 0 level
  pub follows : s.follows ≡ true → s.deep ≡ true
  pub fresh : s.fresh ≡ true → s.follows ≡ true
  pub known : more → s.follows ≡ true → s.fresh ≡ false → before (key_of s.end) (key_of next.smallest) ≡ true

-- ---- at the start of a level
module _ (s : Seen) (fits : Bool) (level : ℕ) (e : s ≡ level_begun fits level) where
  -- the answer is the one from before
  pub fits_begun : s.fits ≡ fits
  unfolding level_begun
  fits_begun = ap (λ (t : Seen). t.fits) e

  -- nothing is known yet
  pub sees_begun : (more : Type 0) (next : FileRecord) → Sees level s more next
  unfolding level_begun
  sees_begun more next = rw e record { deep = refl; follows = λ t. clash t refl; fresh = λ t. clash t refl; known = λ m t f. clash t refl }

  -- the whole level must be tested
  pub rest_begun : (xs : List FileRecord) → (s.fits && rest level s xs) ≡ (s.fits && no_collision level (map file_of xs))
  unfolding level_begun rest
  rest_begun xs = rw e

-- ---- one file more

-- a file before others: they must begin after it and be apart
apart_cons : (x : FileRecord) (xs : List FileRecord) → apart_from x.largest xs ≡ apart (map file_of (x ∷ xs))
unfolding apart_from chain file_of
apart_cons x [] = refl
apart_cons x (y ∷ ys) = refl

-- the same, at level 0 or above
none_collide : (level : ℕ) (x : FileRecord) (xs : List FileRecord) → cond (ltb 0 level) (apart_from x.largest xs) (no_collision level (map file_of xs)) ≡ no_collision level (map file_of (x ∷ xs))
unfolding no_collision
none_collide zero x xs = refl
none_collide (suc l) x xs = rw (lt-ltb 0 (suc l) (omega arith)) (apart_cons x xs)

module _ (level : ℕ) (s : Seen) (x : FileRecord) (more : Type 0) (next : FileRecord) (w : Sees level s more next) where
  -- after an added file
  pub sees_new : Sees level (seen_after s x true) more next
  unfolding seen_after
  sees_new = record { deep = w.deep; follows = λ t. t; fresh = λ t. t; known = λ m t f. clash t f }

  -- after a stayer: above level 0 the next stayer is strictly after it
  pub sees_old : (again : Type 0) (then : FileRecord) → (again → 0 < level → before (key_of x.largest) (key_of then.smallest) ≡ true) → Sees level (seen_after s x false) again then
  unfolding seen_after
  sees_old again then h = record { deep = w.deep; follows = λ t. t; fresh = λ t. clash t refl; known = λ m t f. h m (ltb-true 0 level (sym w.deep ∙ t)) }

  -- the answer stays the same, whether the file is tested with the last one or known to be apart from it
  left_asked : (tested : Bool) → (tested ≡ true → s.follows ≡ true) → (s.follows ≡ true → tested ≡ false → before (key_of s.end) (key_of x.smallest) ≡ true) → (xs : List FileRecord)
      → (clear_of s.fits tested s.end x && cond s.deep (apart_from x.largest xs) (no_collision level (map file_of xs))) ≡ (s.fits && rest level s (x ∷ xs))
  unfolding clear_of rest apart_from
  left_asked tested a b xs = go s.fits s.follows tested (before (key_of s.end) (key_of x.smallest)) s.deep w.deep w.follows a b
    where
      go : (fits follows tested apart_here deep : Bool) → deep ≡ ltb 0 level → (follows ≡ true → deep ≡ true) → (tested ≡ true → follows ≡ true) → (follows ≡ true → tested ≡ false → apart_here ≡ true)
          → ((fits && (not tested || apart_here)) && cond deep (apart_from x.largest xs) (no_collision level (map file_of xs)))
          ≡ (fits && cond follows (apart_here && apart (map file_of (x ∷ xs))) (no_collision level (map file_of (x ∷ xs))))
      go false follows tested h deep d f a b = refl
      go true false true h deep d f a b = clash (a refl) refl
      go true false false h deep d f a b = rw d (none_collide level x xs)
      go true true tested h false d f a b = clash (f refl) refl
      go true true true false true d f a b = refl
      go true true true true true d f a b = apart_cons x xs
      go true true false false true d f a b = clash (b refl refl) refl
      go true true false true true d f a b = apart_cons x xs

  -- an added file is tested if there was a last file
  pub rest_new : (xs : List FileRecord) → ((seen_after s x true).fits && rest level (seen_after s x true) xs) ≡ (s.fits && rest level s (x ∷ xs))
  unfolding seen_after rest
  rest_new xs = left_asked s.follows (λ t. t) (λ t f. clash t f) xs

-- a stayer is tested if the last file was added
pub rest_old : (level : ℕ) (s : Seen) (x : FileRecord) (more : Type 0) (w : Sees level s more x) → more → (xs : List FileRecord)
    → ((seen_after s x false).fits && rest level (seen_after s x false) xs) ≡ (s.fits && rest level s (x ∷ xs))
unfolding seen_after rest
rest_old level s x more w m xs = left_asked level s x more x w s.fresh w.fresh (w.known m) xs

-- ---- no file is left
-- the answer is the one so far
pub rest_ended : (level : ℕ) (s : Seen) → (s.fits && rest level s []) ≡ s.fits
unfolding rest apart_from no_collision chain
rest_ended level s = ap (λ (b : Bool). s.fits && b) (go s.follows level) ∙ and_true s.fits
  where
    go : (t : Bool) (l : ℕ) → cond t true (no_collision l []) ≡ true
    go true l = refl
    go false zero = refl
    go false (suc l) = refl

-- ---- stayers

-- a level above 0 in order is apart
deeper : (l : ℕ) (fs : List File) → 0 < l → in_order l fs ≡ true → apart fs ≡ true
unfolding in_order
deeper zero fs h o = absurd (omega arith)
deeper (suc l) fs h o = o

-- so each stayer ends strictly before the next begins
pub next_apart : (level i e : ℕ) (files : List FileRecord) (k : ℕ) → 0 < level → e ≤ length files → in_order level (map file_of (slice i e files)) ≡ true → i ≤ k → k + 1 < e
    → before (key_of (get_or files k past).largest) (key_of (get_or files (k + 1) past).smallest) ≡ true
unfolding file_of
next_apart level i e files k h n o a b =
    let fs = map file_of (slice i e files) in
    let r : File → File → Bool = λ f g. before f.largest g.smallest in
    let here : get_or fs (k - i) (file_of past) ≡ file_of (get_or files k past) = at_view file_of i e files (k - i) past (file_of past) (omega arith) n ∙ ap (λ (j : ℕ). file_of (get_or files j past)) (omega arith) in
    let there : get_or fs (k - i + 1) (file_of past) ≡ file_of (get_or files (k + 1) past) = at_view file_of i e files (k - i + 1) past (file_of past) (omega arith) n ∙ ap (λ (j : ℕ). file_of (get_or files j past)) (omega arith) in
    let two = chain_at r fs (k - i) (file_of past) (deeper level fs h o) (omega (arith, length_view file_of i e files n)) in
    rw (here, there) at two

-- ---- level after level
module _ (p : ℕ → List File → Bool) (level : ℕ) (rs : List FileRecord) (rss : List (List FileRecord)) where
  -- the first level, then the others
  pub levelwise_turn : levelwise p level (files_of (rs ∷ rss)) ≡ (p level (map file_of rs) && levelwise p (level + 1) (files_of rss))
  unfolding levelwise
  levelwise_turn = rw (add-one level)

  -- the same with the answer so far
  pub levelwise_found : (fits found : Bool) → found ≡ (fits && p level (map file_of rs)) → (found && levelwise p (level + 1) (files_of rss)) ≡ (fits && levelwise p level (files_of (rs ∷ rss)))
  levelwise_found fits found e = rw (e, levelwise_turn) (go fits)
    where
      go : (b : Bool) → ((b && p level (map file_of rs)) && levelwise p (level + 1) (files_of rss)) ≡ (b && (p level (map file_of rs) && levelwise p (level + 1) (files_of rss)))
      go true = refl
      go false = refl
