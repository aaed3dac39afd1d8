-- What code holds of a recorded call answers alike. Assumes nothing.
use Rattle.std.specs.Prelude.{ℕ, suc, ◌+◌, ◌-◌, ◌≤◌, ◌≡◌, Bool, ◌&&◌, eqb, leb, take, replicate}
use Rattle.std.proofs.Math.Path.{refl, ap}
use Rattle.std.proofs.Common.{sym, ◌∙◌, leb-true, le-leb, length-append, length-take, take_all, arith}
use Rattle.std.proofs.Math.Bool.{true, false, not}
use mathlib.Core.List.{List, [], ◌∷◌, ◌++◌, map, append-nil, append_assoc}
use Rattle.std.proofs.lemmas.Bool.{not-false}
use Rattle.std.proofs.Math.Dec.{ltb}
use Rattle.std.proofs.Math.ListN.{length}
use Rattle.std.proofs.lemmas.List.{length-replicate, length-map}
use Rattle.lemmas.specs.Lists.{is_empty}
use Rattle.lemmas.specs.ListLaws.{and_left, and_right}
use Rattle.lemmas.specs.Distinct.{same_test}
use Rattle.model.specs.Key.{Key, trailer_bytes, good_key, before}
use Rattle.model.specs.KeyLaws.{good_key_says}
use Rattle.model.specs.Answer.{Refusal, ◌⇒◌, first_of}
use Rattle.model.specs.File.{Profile, File, State, level, max_size, well_formed}
use Rattle.model.specs.Edit.{Pointer, Addition, Edit, survivors_from, applied, too_many, bad_log, pointer_refusals, deletion_refusals, addition_refusals, entry_refusals, result_refusals, edit}
use Rattle.model.specs.Range.{between}
use Rattle.model.specs.Pick.{Pick, manual, manual_inputs, complete, bad_maximum, manual_pick}
use Rattle.model_replay.specs.Held.{held_key, held_pointer, held_addition, blank_pointer, blank_deletion, blank_addition, held_entries, held_edit}

-- ---- refusals in turn
module _ {A : Type 0} (a b : A) where
  -- two lists of refusals answer alike if their first tests agree, and if the rest answers alike where these do not apply
  alike_cons : (s t : Bool) (n : ℕ) (rs qs : List Refusal) → s ≡ t → (t ≡ false → first_of rs a ≡ first_of qs b) → first_of ((s ⇒ n) ∷ rs) a ≡ first_of ((t ⇒ n) ∷ qs) b
  unfolding first_of ◌⇒◌
  alike_cons s true n rs qs e h = rw e
  alike_cons s false n rs qs e h = rw e (h refl)

  -- the same refusals before what answers alike
  alike_after : (xs rs qs : List Refusal) → first_of rs a ≡ first_of qs b → first_of (xs ++ rs) a ≡ first_of (xs ++ qs) b
  unfolding ◌⇒◌
  alike_after [] rs qs h = h
  alike_after (x ∷ xs) rs qs h = alike_cons x.applies x.applies x.code (xs ++ rs) (xs ++ qs) refl (λ f. alike_after xs rs qs h)

-- ---- keys
-- a good key is held whole
key_whole : (p : Profile) (k : Key) → good_key p.longest k ≡ true → held_key p k ≡ k
unfolding held_key
key_whole p k h = rw (le-leb (length k) (p.longest + trailer_bytes) ((good_key_says p.longest k).0 h).few_bytes)

-- a key is good exactly if what is held of it is
key_good : (p : Profile) (k : Key) → good_key p.longest (held_key p k) ≡ good_key p.longest k
key_good p k = same_test (good_key p.longest (held_key p k)) (good_key p.longest k) (λ h. from h (leb (length k) (p.longest + trailer_bytes)) refl) (λ h. rw (key_whole p k h) h)
  where
    from : good_key p.longest (held_key p k) ≡ true → (t : Bool) → leb (length k) (p.longest + trailer_bytes) ≡ t → good_key p.longest k ≡ true
    from h true e = let w : held_key p k ≡ k = unfold held_key in rw e in rw w at h
    from h false e = let w : held_key p k ≡ [] = unfold held_key in rw e in absurd (omega (arith, ((good_key_says p.longest (held_key p k)).0 h).some_byte, ap (λ (x : Key). length x) w))

-- two keys are held whole if the test on both holds
keys_whole : (p : Profile) (j k : Key) → not (good_key p.longest j && good_key p.longest k) ≡ false → (held_key p j ≡ j) × (held_key p k ≡ k)
keys_whole p j k h =
    let s = good_key p.longest j in
    let t = good_key p.longest k in
    let g = not-false (s && t) h in
    (key_whole p j (and_left s t g), key_whole p k (and_right s t g))

-- the test on both is the same on what is held of them
keys_good : (p : Profile) (j k : Key) → not (good_key p.longest (held_key p j) && good_key p.longest (held_key p k)) ≡ not (good_key p.longest j && good_key p.longest k)
keys_good p j k = rw (key_good p j, key_good p k)

-- ---- entries
-- as many are held
entries_many : {A : Type 0} (n : ℕ) (blank : A) (l : List A) → length (held_entries n blank l) ≡ length l
unfolding held_entries
entries_many n blank l = omega (arith, length-append (take n l) (replicate (length l - n) blank), length-take n l, length-replicate (length l - n) blank)

-- if there is room for all, all are held
entries_whole : {A : Type 0} (n : ℕ) (blank : A) (l : List A) → length l ≤ n → held_entries n blank l ≡ l
unfolding held_entries
entries_whole n blank l h =
    let none : length l - n ≡ 0 = omega arith in
    rw (take_all n l h, none) (append-nil l)

-- ---- how many entries an edit has
-- not too many, part by part
pub record Few (p : Profile) (e : Edit) : Type 0 where
  pub pointers : length e.pointers ≤ p.pointers
  pub deletions : length e.deletions ≤ p.deletions
  pub additions : length e.additions ≤ p.additions

-- an edit that passes the test has so few
pub few_says : (p : Profile) (e : Edit) → too_many p e ≡ false → Few p e
unfolding too_many
few_says p e h =
    let a = leb (length e.deletions) p.deletions in
    let b = leb (length e.additions) p.additions in
    let c = leb (length e.pointers) p.pointers in
    let t = not-false (a && b && c) h in
    let ab = and_left (a && b) c t in
    record {
      pointers = leb-true (length e.pointers) p.pointers (and_right (a && b) c t);
      deletions = leb-true (length e.deletions) p.deletions (and_left a b ab);
      additions = leb-true (length e.additions) p.additions (and_right a b ab);
    }

-- an edit has too many entries exactly if what is held of it has
held_many : (p : Profile) (e : Edit) → too_many p (held_edit p e) ≡ too_many p e
unfolding too_many held_edit
held_many p e = rw (
  entries_many p.pointers blank_pointer (map (held_pointer p) e.pointers),
  entries_many p.deletions blank_deletion e.deletions,
  entries_many p.additions blank_addition (map (held_addition p) e.additions),
  length-map e.pointers (held_pointer p),
  length-map e.additions (held_addition p),
)

-- an edit as it is held if it has not too many entries: only keys are cut
unfoldable held_keys : Profile → Edit → Edit
held_keys p e = record { pointers = map (held_pointer p) e.pointers; deletions = e.deletions; additions = map (held_addition p) e.additions; log = e.log }

-- it is held so
held_few : (p : Profile) (e : Edit) → too_many p e ≡ false → held_edit p e ≡ held_keys p e
unfolding held_edit held_keys
held_few p e h =
    let few = few_says p e h in
    let qs = entries_whole p.pointers blank_pointer (map (held_pointer p) e.pointers) (omega (arith, length-map e.pointers (held_pointer p), few.pointers)) in
    let ds = entries_whole p.deletions blank_deletion e.deletions few.deletions in
    let xs = entries_whole p.additions blank_addition (map (held_addition p) e.additions) (omega (arith, length-map e.additions (held_addition p), few.additions)) in
    λ i. record { pointers = qs i; deletions = ds i; additions = xs i; log = e.log }

-- ---- entries in turn
module _ {A : Type 0} (p : Profile) (a b : A) (rs qs : List Refusal) where
  -- pointers as they are held are refused alike, if what comes after them answers alike where all are held whole
  pointers_alike : (l : List Pointer) → (map (held_pointer p) l ≡ l → first_of rs a ≡ first_of qs b) → first_of (pointer_refusals p (map (held_pointer p) l) ++ rs) a ≡ first_of (pointer_refusals p l ++ qs) b
  unfolding pointer_refusals held_pointer
  pointers_alike [] h = h refl
  pointers_alike (x ∷ l) h =
      let held = pointer_refusals p (map (held_pointer p) l) ++ rs in
      let rest = pointer_refusals p l ++ qs in
      let far = not (ltb x.level p.levels) in
      let s = not (good_key p.longest (held_key p x.key)) in
      let t = not (good_key p.longest x.key) in
      alike_cons a b far far 1 ((s ⇒ 2) ∷ held) ((t ⇒ 2) ∷ rest) refl
      (λ f. alike_cons a b s t 2 held rest (ap not (key_good p x.key))
      (λ g. pointers_alike l (λ w. h (λ i. record { level = x.level; key = key_whole p x.key (not-false (good_key p.longest x.key) g) i } ∷ w i))))

  -- additions as they are held are too
  additions_alike : (l : List Addition) → (map (held_addition p) l ≡ l → first_of rs a ≡ first_of qs b) → first_of (addition_refusals p (map (held_addition p) l) ++ rs) a ≡ first_of (addition_refusals p l ++ qs) b
  unfolding addition_refusals held_addition
  additions_alike [] h = h refl
  additions_alike (x ∷ l) h =
      let j = x.file.smallest in
      let k = x.file.largest in
      let far = not (ltb x.level p.levels) in
      let big = ltb max_size x.file.size in
      let s = not (good_key p.longest (held_key p j) && good_key p.longest (held_key p k)) in
      let t = not (good_key p.longest j && good_key p.longest k) in
      let u = before (held_key p k) (held_key p j) in
      let v = before k j in
      let r₅ = addition_refusals p (map (held_addition p) l) ++ rs in
      let r₄ = (big ⇒ 5) ∷ r₅ in
      let r₂ = (u ⇒ 4) ∷ r₄ in
      let q₅ = addition_refusals p l ++ qs in
      let q₄ = (big ⇒ 5) ∷ q₅ in
      let q₂ = (v ⇒ 4) ∷ q₄ in
      alike_cons a b far far 1 ((s ⇒ 2) ∷ r₂) ((t ⇒ 2) ∷ q₂) refl (λ f. alike_cons a b s t 2 r₂ q₂ (keys_good p j k)
      (λ g. let w = keys_whole p j k g in
      alike_cons a b u v 4 r₄ q₄ (λ i. before (w.1 i) (w.0 i)) (λ f. alike_cons a b big big 5 r₅ q₅ refl
      (λ f. additions_alike l (λ c. h (λ i. record { level = x.level; file = record { number = x.file.number; size = x.file.size; smallest = w.0 i; largest = w.1 i } } ∷ c i))))))

-- the refusals of all entries before others, part by part
entries_apart : (p : Profile) (e : Edit) (rs : List Refusal) → entry_refusals p e ++ rs ≡ pointer_refusals p e.pointers ++ (deletion_refusals p e.deletions ++ (addition_refusals p e.additions ++ rs))
unfolding entry_refusals
entries_apart p e rs =
    let qs = pointer_refusals p e.pointers in
    let ds = deletion_refusals p e.deletions in
    let xs = addition_refusals p e.additions in
    append_assoc (qs ++ ds) xs rs ∙ append_assoc qs ds (xs ++ rs)

-- entries with keys as they are held are refused alike, and if none is refused they are the same
keys_alike : (p : Profile) (s : State) (e : Edit)
    → first_of (entry_refusals p (held_keys p e) ++ result_refusals p (survivors_from (held_keys p e) 0 s.files)) (applied (held_keys p e) s)
    ≡ first_of (entry_refusals p e ++ result_refusals p (survivors_from e 0 s.files)) (applied e s)
unfolding held_keys
keys_alike p s e =
    let x = held_keys p e in
    let a = applied x s in
    let b = applied e s in
    let rs = result_refusals p (survivors_from x 0 s.files) in
    let qs = result_refusals p (survivors_from e 0 s.files) in
    let ds = deletion_refusals p e.deletions in
    let rs₁ = addition_refusals p x.additions ++ rs in
    let qs₁ = addition_refusals p e.additions ++ qs in
    let same : map (held_pointer p) e.pointers ≡ e.pointers → map (held_addition p) e.additions ≡ e.additions → x ≡ e = λ u v i. record { pointers = u i; deletions = e.deletions; additions = v i; log = e.log } in
    ap (λ (l : List Refusal). first_of l a) (entries_apart p x rs)
    ∙ pointers_alike p a b (ds ++ rs₁) (ds ++ qs₁) e.pointers (λ u. alike_after a b ds rs₁ qs₁
    (additions_alike p a b rs qs e.additions (λ v. ap (λ (y : Edit). first_of (result_refusals p (survivors_from y 0 s.files)) (applied y s)) (same u v))))
    ∙ ap (λ (l : List Refusal). first_of l b) (sym (entries_apart p e qs))

-- an edit as it is held answers and leaves alike
pub held_alike : (p : Profile) (s : State) (e : Edit) → edit p s (held_edit p e) ≡ edit p s e
unfolding edit held_keys
held_alike p s e =
    let h = held_edit p e in
    let ill = not (well_formed p s) in
    let bad = bad_log s.counters e.log in
    alike_cons (applied h s) (applied e s) ill ill 14 ((too_many p h ⇒ 3) ∷ late h) ((too_many p e ⇒ 3) ∷ late e) refl
    (λ f. alike_cons (applied h s) (applied e s) (too_many p h) (too_many p e) 3 (late h) (late e) (held_many p e)
    (λ g. ap (λ (x : Edit). first_of (late x) (applied x s)) (held_few p e g)
    ∙ alike_cons (applied (held_keys p e) s) (applied e s) bad bad 9 (later (held_keys p e)) (later e) refl (λ f. keys_alike p s e)))
  where
    later : Edit → List Refusal
    later x = entry_refusals p x ++ result_refusals p (survivors_from x 0 s.files)

    late : Edit → List Refusal
    late x = (bad_log s.counters x.log ⇒ 9) ∷ later x

-- a manual pick for keys as they are held does too
pub held_range : (p : Profile) (s : State) (m l : ℕ) (a b : Key) → manual_pick p s m l (held_key p a) (held_key p b) ≡ manual_pick p s m l a b
unfolding manual_pick
held_range p s m l a b =
    let j = held_key p a in
    let k = held_key p b in
    let ill = not (well_formed p s) in
    let far = not (ltb l p.levels) in
    let u = not (good_key p.longest j && good_key p.longest k) in
    let v = not (good_key p.longest a && good_key p.longest b) in
    alike_cons (answer j k) (answer a b) ill ill 14 ((far ⇒ 1) ∷ (u ⇒ 2) ∷ last j k) ((far ⇒ 1) ∷ (v ⇒ 2) ∷ last a b) refl
    (λ f. alike_cons (answer j k) (answer a b) far far 1 ((u ⇒ 2) ∷ last j k) ((v ⇒ 2) ∷ last a b) refl
    (λ f. alike_cons (answer j k) (answer a b) u v 2 (last j k) (last a b) (keys_good p a b)
    (λ g. let w = keys_whole p a b g in λ i. first_of (last (w.0 i) (w.1 i)) (answer (w.0 i) (w.1 i)))))
  where
    first : Key → Key → List File
    first x y = manual_inputs m l (level s l) (between x y)

    last : Key → Key → List Refusal
    last x y = (bad_maximum m ⇒ 9) ∷ (eqb (suc l) p.levels ⇒ 11) ∷ (is_empty (first x y) ⇒ 10) ∷ []

    answer : Key → Key → Pick
    answer x y = complete p s m manual l (first x y)
