-- Laws of passing: one part after another, a number and the part that it asks for, a tag and its part, so many parts. Assumes nothing.
use Prim.Native.Nat.{ℕ, zero, suc, ◌+◌, ◌-◌, ◌<◌, ◌≤◌}
use Rattle.std.specs.Prelude.{◌≡◌, Bool, cond, not, true, false, List, ◌∷◌, length, drop, replicate}
use Rattle.std.proofs.Math.Path.{refl, ap, sym}
use Rattle.std.proofs.Common.{◌∙◌, subst, le-leb, drop-drop}
use Rattle.std.proofs.Math.Option.{Option, none, some}
use native.Mathlib.Omega.{arith}
use Rattle.std.proofs.Math.Nat.{sub-zero}
use Rattle.std.proofs.lemmas.Bool.{lt-leb, not-true, not-false}
use Rattle.std.proofs.Math.ListN.{get_or, get_or-eq_default, length-drop}
use Rattle.std.proofs.lemmas.List.{get_or-replicate}
use Rattle.lemmas.specs.Order.{clash}
use Rattle.model.specs.Snapshot.{byte_long, number_long}
use Rattle.model_replay.specs.Takes.{Takes, more, on_taken, never, takes, and_then, repeated, counted, tag_takes, count_takes}
use Rattle.snapshot_parse.specs.Parsing.{number_in}
use Rattle.replay_scan.specs.declared.Passed.{Passed}
use Rattle.replay_scan.specs.Scan.{passed_by}

-- r is what passing a part at a place returns, and its place is within the bytes
pub record Passes (src : List ℕ) (at : ℕ) (f : Takes) (r : Passed) : Type 0 where
  pub is : r ≡ passed_by at (f (drop at src))
  pub within : r.at ≤ length src

-- as contracts say it
pub passes : (src : List ℕ) (at : ℕ) (f : Takes) {r : Passed} → (r ≡ passed_by at (f (drop at src))) × (r.at ≤ length src) → Passes src at f r
passes src at f t = record { is = t.0; within = t.1 }

-- and back
pub told : {src : List ℕ} {at : ℕ} {f : Takes} {r : Passed} → Passes src at f r → (r ≡ passed_by at (f (drop at src))) × (r.at ≤ length src)
told p = (p.is, p.within)

-- ---- what is returned
-- a part that is not whole takes nothing
pub missed : {src : List ℕ} {at : ℕ} {f : Takes} {r : Passed} → Passes src at f r → not r.good ≡ true → f (drop at src) ≡ none
unfolding passed_by
missed {src} {at} {f} {r} p b = go (f (drop at src)) p.is
  where
    go : (o : Option ℕ) → r ≡ passed_by at o → o ≡ none
    go none e = refl
    go (some n) e = clash (ap (λ (q : Passed). q.good) e) (not-true r.good b)

-- a part is whole: r is what passing it returned
pub record Whole (src : List ℕ) (at : ℕ) (f : Takes) (r : Passed) : Type 0 where
  pub part : Passes src at f r
  pub good : r.good ≡ true

-- as contracts and tests say it
pub whole_part : (src : List ℕ) (at : ℕ) (f : Takes) {r : Passed} → (r ≡ passed_by at (f (drop at src))) × (r.at ≤ length src) → not r.good ≡ false → Whole src at f r
whole_part src at f {r} t b = record { part = passes src at f t; good = not-false r.good b }

-- a whole part takes the bytes up to the place after it
pub taken : {src : List ℕ} {at : ℕ} {f : Takes} {r : Passed} → Whole src at f r → (n : ℕ) × (f (drop at src) ≡ some n) × (r.at ≡ at + n)
unfolding passed_by
taken {src} {at} {f} {r} w = go (f (drop at src)) refl
  where
    go : (o : Option ℕ) → f (drop at src) ≡ o → (n : ℕ) × (f (drop at src) ≡ some n) × (r.at ≡ at + n)
    go none e = let q : r ≡ passed_by at none = w.part.is ∙ ap (passed_by at) e in clash w.good (ap (λ (q : Passed). q.good) q)
    go (some n) e = let q : r ≡ passed_by at (some n) = w.part.is ∙ ap (passed_by at) e in (n, e, ap (λ (q : Passed). q.at) q)

-- a part after n bytes, seen from before them and from after them
further : (at n : ℕ) (o : Option ℕ) → passed_by at (more n o) ≡ passed_by (at + n) o
unfolding passed_by more
further at n none = refl
further at n (some m) = let k : at + (n + m) ≡ at + n + m = omega arith in rw k

-- ---- bytes
module _ (src : List ℕ) (at : ℕ) where
  -- no part is there
  pub absent : {r : Passed} → r ≡ passed_by 0 none → Passes src at never r
  unfolding passed_by never
  absent e = record { is = e; within = omega (arith, ap (λ (q : Passed). q.at) e) }

  -- n bytes, where there are fewer
  pub bytes_short : (n : ℕ) {r : Passed} → length src - at < n → r ≡ passed_by 0 none → Passes src at (takes n) r
  unfolding takes passed_by
  bytes_short n h e = record { is = e ∙ rw (lt-leb n (length (drop at src)) (omega (arith, length-drop at src))); within = (absent e).within }

  -- n bytes, where there are as many
  pub bytes_whole : (n : ℕ) → at + n ≤ length src → Passes src at (takes n) (record { good = true; at = at + n })
  unfolding takes passed_by
  bytes_whole n h = record { is = rw (le-leb n (length (drop at src)) (omega (arith, length-drop at src))); within = h }

  -- no bytes
  bytes_none : at ≤ length src → Passes src at (takes 0) (record { good = true; at = at })
  bytes_none h =
      let k : at + 0 ≡ at = omega arith in
      subst (λ (n : ℕ). Passes src at (takes 0) (record { good = true; at = n })) k (bytes_whole 0 (omega arith))

-- ---- one part after another
-- the part after n bytes begins at the place after them
pub next_at_lem : (src : List ℕ) (at n k : ℕ) (f g : Takes) → f (drop at src) ≡ some n → k ≡ at + n → passed_by at (and_then f g (drop at src)) ≡ passed_by k (g (drop k src))
unfolding and_then on_taken
next_at_lem src at n k f g e d = rw (e, d, ← drop-drop n at src) (further at n (g (drop n (drop at src))))

-- after a part that is not whole nothing is passed
pub stops : {src : List ℕ} {at : ℕ} {f : Takes} {r : Passed} → Passes src at f r → (g : Takes) → not r.good ≡ true → Passes src at (and_then f g) r
unfolding and_then on_taken
stops p g b = let e = missed p b in record { is = p.is ∙ rw e; within = p.within }

module _ {src : List ℕ} {at : ℕ} {f : Takes} {r : Passed} (w : Whole src at f r) where
  -- the next part begins at its end
  next_from : (g : Takes) → passed_by at (and_then f g (drop at src)) ≡ passed_by r.at (g (drop r.at src))
  next_from g = let t = taken w in next_at_lem src at t.0 r.at f g t.1 t.2

  -- both are passed where the next is
  pub goes_on : {g : Takes} {s : Passed} → Passes src r.at g s → Passes src at (and_then f g) s
  goes_on {g} q = record { is = q.is ∙ sym (next_from g); within = q.within }

  -- no byte is passed after it
  pub stays : Passes src r.at (takes 0) r
  stays = subst (λ (t : Bool). Passes src r.at (takes 0) (record { good = t; at = r.at })) (sym w.good) (bytes_none src r.at w.part.within)

-- ---- a number, then the part that it asks for
-- where the number is not whole nothing is passed
pub count_stops : (w : ℕ) {src : List ℕ} {at : ℕ} {r : Passed} → Passes src at (takes w) r → (f : ℕ → Takes) → not r.good ≡ true → Passes src at (counted w f) r
unfolding counted and_then number_in
count_stops w {src} {at} p f b = let q = stops p (f (number_in w (drop at src))) b in record { is = q.is; within = q.within }

-- a number of w bytes is whole: r is what passing it returned, and n is the number
pub record Counts (src : List ℕ) (at w : ℕ) (r : Passed) (n : ℕ) : Type 0 where
  pub whole : Whole src at (takes w) r
  pub value : n ≡ number_in w (drop at src)

-- as contracts and tests say it
pub whole_number : (src : List ℕ) (at w : ℕ) {r : Passed} {n : ℕ} → (r ≡ passed_by at (takes w (drop at src))) × (r.at ≤ length src) → not r.good ≡ false → n ≡ number_in w (drop at src) → Counts src at w r n
whole_number src at w t b e = record { whole = whole_part src at (takes w) t b; value = e }

module _ {src : List ℕ} {at w : ℕ} {r : Passed} {n : ℕ} (c : Counts src at w r n) where
  -- its part begins at its end
  pub count_goes_on : (f : ℕ → Takes) {s : Passed} → Passes src r.at (f n) s → Passes src at (counted w f) s
  unfolding counted and_then number_in
  count_goes_on f q =
      let t = goes_on c.whole q in
      record { is = t.is ∙ ap (λ (n : ℕ). passed_by at (and_then (takes w) (f n) (drop at src))) c.value; within = t.within }

  -- a number that passes its test
  pub count_allowed : (t : ℕ → Bool) (f : ℕ → Takes) {s : Passed} → t n ≡ true → Passes src r.at (f n) s → Passes src at (counted w (λ n. cond (t n) (f n) never)) s
  count_allowed t f e q = count_goes_on (λ n. cond (t n) (f n) never) (rw e q)

  -- a number that fails it
  pub count_refused : (t : ℕ → Bool) (f : ℕ → Takes) {s : Passed} → t n ≡ false → s ≡ passed_by 0 none → Passes src at (counted w (λ n. cond (t n) (f n) never)) s
  count_refused t f e d = count_goes_on (λ n. cond (t n) (f n) never) (rw e (absent src r.at d))

-- what follows the tag of a counter call, but the first: a number
pub number_part : (t : ℕ) → (t ≡ 0 → ⊥) → t ≤ 5 → get_or (takes 0 ∷ replicate 5 (takes number_long)) t never ≡ takes number_long
number_part zero h k = absurd (h refl)
number_part (suc t) h k = get_or-replicate 5 t (takes number_long) never (omega arith)

-- a tag, then the part that it stands for
module _ {src : List ℕ} {at : ℕ} {r : Passed} {t : ℕ} (c : Counts src at byte_long r t) where
  -- the part at the tag's place
  pub tag_goes_on : (fs : List Takes) (k : ℕ) {s : Passed} → t ≡ k → Passes src r.at (get_or fs k never) s → Passes src at (tag_takes fs) s
  unfolding tag_takes
  tag_goes_on fs k e q = count_goes_on c (λ t. get_or fs t never) (rw e q)

  -- past the last no part stands
  pub tag_unknown : (fs : List Takes) {s : Passed} → length fs ≤ t → s ≡ passed_by 0 none → Passes src at (tag_takes fs) s
  tag_unknown fs h d = tag_goes_on fs t refl (rw (get_or-eq_default fs never h) (absent src r.at d))

  -- a counter call with a number: all but the first
  pub number_call : {s : Passed} → (t ≡ 0 → ⊥) → t ≤ 5 → Passes src r.at (takes number_long) s → Passes src at count_takes s
  unfolding count_takes
  number_call h k q = tag_goes_on _ t refl (rw (number_part t h k) q)

-- ---- so many parts
-- i of n parts are passed: the pass of the rest from here is the pass of all
pub record PassedTo (src : List ℕ) (at n : ℕ) (f : Takes) (next i : ℕ) : Type 0 where
  pub some_left : i ≤ n
  pub within : next ≤ length src
  pub same : passed_by next (repeated (n - i) f (drop next src)) ≡ passed_by at (repeated n f (drop at src))

-- none is passed yet
pub parts_begin : (src : List ℕ) (at n : ℕ) (f : Takes) → at ≤ length src → PassedTo src at n f at 0
parts_begin src at n f h = record { some_left = omega arith; within = h; same = rw sub-zero }

module _ {src : List ℕ} {at n : ℕ} {f : Takes} {next i : ℕ} (l : PassedTo src at n f next i) where
  -- one more is passed
  pub parts_turn : {r : Passed} → i < n → Whole src next f r → PassedTo src at n f r.at (i + 1)
  unfolding repeated
  parts_turn {r} h w =
      let e : n - i ≡ suc (n - (i + 1)) = omega arith in
      let d : passed_by next (repeated (n - i) f (drop next src)) ≡ passed_by r.at (repeated (n - (i + 1)) f (drop r.at src)) = rw e (next_from w (repeated (n - (i + 1)) f)) in
      record { some_left = omega arith; within = w.part.within; same = sym d ∙ l.same }

  -- one is not whole
  pub parts_stop : {r : Passed} → i < n → Passes src next f r → not r.good ≡ true → Passes src at (repeated n f) r
  unfolding repeated
  parts_stop {r} h p b =
      let e : n - i ≡ suc (n - (i + 1)) = omega arith in
      let d : r ≡ passed_by next (repeated (n - i) f (drop next src)) = rw e (stops p (repeated (n - (i + 1)) f) b).is in
      record { is = d ∙ l.same; within = p.within }

  -- all are passed
  pub parts_over : n ≤ i → Passes src at (repeated n f) (record { good = true; at = next })
  unfolding repeated
  parts_over h =
      let e : n - i ≡ 0 = omega arith in
      let d : record { good = true; at = next } ≡ passed_by next (repeated (n - i) f (drop next src)) = rw e (bytes_none src next l.within).is in
      record { is = d ∙ l.same; within = l.within }
