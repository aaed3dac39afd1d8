-- Laws of the entries of a list as runs of bytes: where each ends, what it stands by and brings, and one turn over them. Assumes nothing.
use Prim.Native.Nat.{ℕ, zero, suc, ◌+◌, ◌-◌, ◌≤◌, ◌<◌}
use Rattle.std.specs.Prelude.{◌≡◌, Bool, true, false, List, eqb, drop}
use Rattle.std.proofs.Math.Path.{ap}
use Rattle.std.proofs.Common.{◌∙◌}
use native.Mathlib.Omega.{arith}
use borrow.Author.Tests.{eq-eqb, ne_eqb}
use Rattle.model.specs.Snapshot.{byte_long, count_long, number_long}
use Rattle.model.specs.DifferenceBytes.{left_kind, head_long}
use Rattle.snapshot_parse.specs.Parsing.{At, number_in, after_parts}
use Rattle.difference_scan.specs.Scan.{after_part, rise_of, kind_by}
use Rattle.patch_scan.specs.Listed.{kind_in, level_in, after_listed, named_of, after_each, run_long}
use Rattle.patch_scan.specs.Over.{is_bare, brought_at, over_kind}

-- ---- places
module _ (p : Bool) (src : List ℕ) (at : ℕ) where
  -- an entry of pointers ends as a pointer of a snapshot does
  pub pointer_ends : (next : ℕ) → p ≡ true → At src next (after_part true (drop at src)) → At src next (after_listed p (drop at src))
  unfolding after_listed after_part
  pointer_ends next e t = rw e (record { within = t.within; rest = t.rest })

  -- an entry of files, read as far as its level: `kind` is its kind, and it goes on at `start`
  module _ (e : p ≡ false) (start kind : ℕ) (s : At src start (drop head_long (drop at src))) (f : kind ≡ number_in byte_long (drop at src)) where
    -- that of a file that only the left has ends after the file's number
    pub left_ends : (next : ℕ) → kind ≡ left_kind → At src next (drop number_long (drop start src)) → At src next (after_listed p (drop at src))
    unfolding after_listed kind_in
    left_ends next k t = rw (e, ← f, eq-eqb kind left_kind k) (record { within = t.within; rest = t.rest ∙ ap (drop number_long) s.rest })

    -- that of a file of the right ends as a file of a snapshot does
    pub file_ends : (next : ℕ) → (kind ≡ left_kind → ⊥) → At src next (after_part false (drop start src)) → At src next (after_listed p (drop at src))
    unfolding after_listed kind_in after_part
    file_ends next k t = rw (e, ← f, ne_eqb kind left_kind k) (record { within = t.within; rest = t.rest ∙ ap (after_part false) s.rest })

-- ---- what an entry stands by, and what it brings
module _ (p : Bool) where
  -- a pointer stands by its level
  pub pointer_named : (x : ℕ) (bs : List ℕ) → p ≡ true → x ≡ number_in byte_long bs → x ≡ named_of p bs
  unfolding named_of
  pointer_named x bs e f = rw e f

  -- a file stands by its number, after kind and level
  pub file_named : (src : List ℕ) (at start x : ℕ) → p ≡ false → At src start (drop head_long (drop at src)) → x ≡ number_in number_long (drop start src) → x ≡ named_of p (drop at src)
  unfolding named_of
  file_named src at start x e s f = rw e (f ∙ ap (number_in number_long) s.rest)

  -- a pointer brings nothing if its key has no bytes
  pub pointer_bare : (y : List ℕ) (start x : ℕ) → p ≡ true → At y start (drop byte_long (drop 0 y)) → x ≡ number_in byte_long (drop start y) → eqb x 0 ≡ is_bare p y
  unfolding is_bare
  pointer_bare y start x e s f = rw (e, f, s.rest)

  -- an entry of files brings nothing if only the left has the file
  pub file_bare : (y : List ℕ) (x : ℕ) → p ≡ false → x ≡ number_in byte_long (drop 0 y) → eqb x left_kind ≡ is_bare p y
  unfolding is_bare kind_in
  file_bare y x e f = rw (e, f)

  -- a pointer is brought whole
  pub pointer_brought : p ≡ true → 0 ≡ brought_at p
  unfolding brought_at
  pointer_brought e = rw e

  -- a file is brought without kind and level
  pub file_brought : p ≡ false → head_long ≡ brought_at p
  unfolding brought_at
  file_brought e = rw e

  -- what goes first, by the numbers that were read
  pub over_read : (n x m y k : ℕ) (bs cs : List ℕ) → x ≡ rise_of p bs → y ≡ named_of p cs → k ≡ kind_by n x m y false → k ≡ over_kind p n bs m cs
  unfolding over_kind
  over_read n x m y k bs cs e f g = g ∙ rw (e, f)

-- ---- entries of one level, counted
-- the level of an entry, read after its kind
pub level_read : (list : List ℕ) (next start x : ℕ) → At list start (drop byte_long (drop next list)) → x ≡ number_in byte_long (drop start list) → x ≡ level_in (drop next list)
unfolding level_in
level_read list next start x s f = f ∙ ap (number_in byte_long) s.rest

-- none is counted yet
pub run_begins : (level n : ℕ) (bs : List ℕ) → 0 + run_long level (n - 0) bs ≡ run_long level n bs
run_begins level n bs = let d : n - 0 ≡ n = omega arith in rw d (omega arith)

-- i of n are counted, and the next entry is at `next`
module _ (list : List ℕ) (level n i next : ℕ) where
  -- it is of the level: it counts, and the count of all stays
  pub run_on : (end : ℕ) → i < n → level_in (drop next list) ≡ level → At list end (after_listed false (drop next list)) → i + 1 + run_long level (n - (i + 1)) (drop end list) ≡ i + run_long level (n - i) (drop next list)
  unfolding run_long
  run_on end h e t =
      let d : n - i ≡ suc (n - (i + 1)) = omega arith in
      rw (d, eq-eqb (level_in (drop next list)) level e, t.rest) (omega arith)

  -- it is of another level: nothing of the rest counts
  pub run_stops : i < n → (level_in (drop next list) ≡ level → ⊥) → i ≡ i + run_long level (n - i) (drop next list)
  unfolding run_long
  run_stops h k =
      let d : n - i ≡ suc (n - (i + 1)) = omega arith in
      rw (d, ne_eqb (level_in (drop next list)) level k) (omega arith)

  -- no entry is left: all count
  pub run_over : i ≤ n → n ≤ i → n ≡ i + run_long level (n - i) (drop next list)
  unfolding run_long
  run_over h k = let d : n - i ≡ 0 = omega arith in rw d (omega arith)

-- ---- entries passed by
module _ (p : Bool) where
  -- the bytes after some entries are those after the others
  pub each_first : (n : ℕ) (bs : List ℕ) → 0 < n → after_each p n bs ≡ after_each p (n - 1) (after_listed p bs)
  unfolding after_each after_parts
  each_first zero bs h = absurd (omega arith)
  each_first (suc n) bs h = let e : suc n - 1 ≡ n = omega arith in rw e

  -- the entries follow their count
  pub each_begins : (src : List ℕ) (at n next : ℕ) → n ≡ number_in count_long (drop at src) → At src next (drop count_long (drop at src))
      → after_each p n (drop next src) ≡ after_each p (number_in count_long (drop at src)) (drop count_long (drop at src))
  each_begins src at n next e t = rw (t.rest, e)

  -- one entry more is passed
  pub each_passed : (src : List ℕ) (n next end : ℕ) → 0 < n → At src end (after_listed p (drop next src)) → after_each p (n - 1) (drop end src) ≡ after_each p n (drop next src)
  each_passed src n next end h t = rw (each_first n (drop next src) h, t.rest)

  -- no entry is left
  pub each_over : (n : ℕ) (bs : List ℕ) → n ≡ 0 → bs ≡ after_each p n bs
  unfolding after_each after_parts
  each_over n bs e = rw e
