-- The parts of a call where they begin: what readers find there, and arrays that are filled with parts. Assumes nothing.
use Prim.Native.Nat.{ℕ, zero, suc, ◌+◌, ◌-◌, ◌<◌, ◌≤◌, min}
use Rattle.std.specs.Prelude.{◌≡◌, Bool, length, take, set, replicate}
use Rattle.std.proofs.Math.Path.{refl, ap, sym, subst}
use Rattle.std.proofs.Common.{◌∙◌, length-take, length-drop, length-set, take-take}
use Rattle.std.proofs.Math.Bool.{cond, true, false}
use mathlib.Core.List.{List, [], ◌∷◌, ◌++◌, map}
use Rattle.std.proofs.Math.Option.{Option, none, some}
use native.Mathlib.Omega.{arith}
use Rattle.std.proofs.Math.Nat.{sub-zero}
use borrow.Author.Tests.{leb-true, leb-false, le-leb, lt-leb}
use Rattle.std.proofs.Math.Dec.{leb}
use Rattle.std.proofs.Math.ListN.{drop, length-replicate}
use Rattle.std.proofs.Math.Seq.{drop-drop, take_all}
use Rattle.std.proofs.lemmas.List.{take-replicate, length-map}
use Rattle.lemmas.specs.Order.{clash}
use Rattle.lemmas.specs.Little.{number}
use Rattle.lemmas.specs.Slices.{put, put_cons, put_nil, put_whole, put_front}
use Rattle.model.specs.Key as key
use Rattle.model.specs.File.{full, key_room}
use Rattle.model.specs.Edit.{empty_edit}
use Rattle.model.specs.Snapshot.{byte_long, count_long, number_long, keys_at, Read, Reader, onward, ◌>>=◌, give, times, read_bytes, read_number, read_key, read_file}
use Rattle.model_replay.specs.Form.{Form, num, key_form, file_form, got, pair, shaped, many, unread, guarded, only}
use Rattle.model_replay.proofs.FormExactLaws.{bind_says, got_says, times_long}
use Rattle.model_replay.specs.Held.{held_key}
use Rattle.model_replay.specs.Recording.{pointer_form, deletion_form, addition_form, first_number, log_form, edit_form}
use Rattle.model_replay.specs.Takes.{Takes, more, on_taken, never, takes, and_then, repeated, counted, key_takes, part_takes, section_takes, log_takes, edit_takes}
use Rattle.model_replay.proofs.TakesLaws.{Measures, ended, number_measured, key_measured, times_measured, pointer_measured, deletion_measured, addition_measured, log_measured}
use Rattle.snapshot_parse.specs.Parsing.{number_in}
use Rattle.replay_scan.specs.Scan.{passed_by}
use Rattle.replay_scan.specs.declared.Passed.{Passed}
use Rattle.replay_scan.specs.ScanLaws.{Passes, next_at_lem}
use Rattle.replay_scan.specs.RecordLaws.{takes_says, then_says}
use Rattle.replay_call.specs.Call.{value_or, Begins, filled, edit_in}

-- ---- parts
-- the place after a part
abbrev pub end_of : Takes → List ℕ → ℕ → ℕ
end_of f src at = (passed_by at (f (drop at src))).at

module _ {f : Takes} {src : List ℕ} {at : ℕ} (b : Begins f src at) where
  -- it is so many bytes on
  end_is : end_of f src at ≡ at + b.long
  unfolding passed_by
  end_is = ap (λ (o : Option ℕ). (passed_by at o).at) b.whole

  -- a part that a reader measures ends within the bytes
  pub end_within : {A : Type 0} {r : Reader A} → Measures f r → end_of f src at ≤ length src
  end_within m =
      let l = (m.finds (drop at src) b.long b.whole).3 in
      omega (arith, l, end_is, length-drop at src, b.within)

-- one part after another
module _ (f g : Takes) {src : List ℕ} {at : ℕ} (b : Begins (and_then f g) src at) where
  -- the first begins
  pub first_begins : Begins f src at
  first_begins = let t = then_says f g (drop at src) b.long b.whole in record { within = b.within; long = t.0; whole = t.2 }

  -- the next begins at its end
  pub next_begins : {k : ℕ} → k ≡ end_of f src at → k ≤ length src → Begins g src k
  unfolding first_begins
  next_begins {k} e h =
      let t = then_says f g (drop at src) b.long b.whole in
      let d : drop k src ≡ drop t.0 (drop at src) = ap (λ (n : ℕ). drop n src) (e ∙ end_is first_begins) ∙ sym (drop-drop t.0 at src) in
      record { within = h; long = t.1; whole = ap g d ∙ t.3 }

  -- both end where the next ends
  pub next_end_lem : {k : ℕ} → k ≡ end_of f src at → end_of (and_then f g) src at ≡ end_of g src k
  next_end_lem {k} e = ap (λ (p : Passed). p.at) (next_at_lem src at first_begins.long k f g first_begins.whole (e ∙ end_is first_begins))

-- a part that was passed ends at the place after it
passed_end : {f : Takes} {src : List ℕ} {at : ℕ} {r : Passed} → Passes src at f r → end_of f src at ≡ r.at
passed_end p = sym (ap (λ (q : Passed). q.at) p.is)

-- there the next begins
pub passed_begins : (f g : Takes) {src : List ℕ} {at : ℕ} {r : Passed} → Begins (and_then f g) src at → Passes src at f r → Begins g src r.at
passed_begins f g b p = next_begins f g b (sym (passed_end p)) p.within

-- w bytes, where there are as many
pub bytes_begin : (w : ℕ) {src : List ℕ} {at : ℕ} → at + w ≤ length src → Begins (takes w) src at
unfolding takes
bytes_begin w {src} {at} h = record { within = omega arith; long = w; whole = rw (le-leb w (length (drop at src)) (omega (arith, length-drop at src))) }

-- w bytes
module _ (w : ℕ) {src : List ℕ} {at : ℕ} (b : Begins (takes w) src at) where
  -- the place after them
  bytes_end : end_of (takes w) src at ≡ at + w
  bytes_end = end_is b ∙ ap (λ (n : ℕ). at + n) (takes_says w (drop at src) b.long b.whole).0

  -- it is within the bytes
  pub bytes_within : at + w ≤ length src
  bytes_within = omega (arith, bytes_end, end_within b (number_measured w))

-- bytes, then a part
module _ (w : ℕ) (g : Takes) {src : List ℕ} {at : ℕ} (b : Begins (and_then (takes w) g) src at) where
  -- the place after the bytes is within all bytes
  pub before_within : at + w ≤ length src
  before_within = bytes_within w (first_begins (takes w) g b)

  -- the part begins there
  pub after_begins : Begins g src (at + w)
  after_begins = next_begins (takes w) g b (sym (bytes_end w (first_begins (takes w) g b))) before_within

  -- both end where it ends
  pub after_end : end_of (and_then (takes w) g) src at ≡ end_of g src (at + w)
  after_end = next_end_lem (takes w) g b (sym (bytes_end w (first_begins (takes w) g b)))

-- a number, then the part that it asks for
pub asked_begins : (w : ℕ) (f : ℕ → Takes) {src : List ℕ} {at : ℕ} → Begins (counted w f) src at → Begins (and_then (takes w) (f (number_in w (drop at src)))) src at
unfolding counted and_then number_in
asked_begins w f b = record { within = b.within; long = b.long; whole = b.whole }

-- it ends where both end
pub asked_end : (w : ℕ) (f : ℕ → Takes) (src : List ℕ) (at : ℕ) → end_of (counted w f) src at ≡ end_of (and_then (takes w) (f (number_in w (drop at src)))) src at
unfolding counted and_then number_in
asked_end w f src at = refl

-- no byte after a part
pub last_begins : (f : Takes) {src : List ℕ} {at : ℕ} → Begins (repeated 1 f) src at → Begins f src at
unfolding repeated
last_begins f b = first_begins f (takes 0) b

-- it ends where the part ends
pub last_end : (f : Takes) (src : List ℕ) (at : ℕ) → end_of (repeated 1 f) src at ≡ end_of f src at
unfolding repeated
last_end f src at = ap (λ (o : Option ℕ). (passed_by at o).at) (ended f (drop at src))

-- the first m of n parts one after another
pub fewer_begin : (f : Takes) (m n : ℕ) {src : List ℕ} {at : ℕ} → m ≤ n → Begins (repeated n f) src at → Begins (repeated m f) src at
unfolding repeated and_then on_taken more takes
fewer_begin f m n {src} {at} h b = let t = go m n (drop at src) b.long h b.whole in record { within = b.within; long = t.0; whole = t.1 }
  where
    go : (m n : ℕ) (bs : List ℕ) (x : ℕ) → m ≤ n → repeated n f bs ≡ some x → (y : ℕ) × (repeated m f bs ≡ some y)
    go zero n bs x h e = (0, rw (le-leb 0 (length bs) (omega arith)))
    go (suc m) zero bs x h e = absurd (omega arith)
    go (suc m) (suc n) bs x h e =
        let t = then_says f (repeated n f) bs x e in
        let u = go m n (drop t.0 bs) t.1 (omega arith) t.3 in
        (t.0 + u.0, rw (t.2, u.1))

-- ---- what readers find
-- a reader finds a value at a place, and leaves the bytes from another place on
pub record Finds {A : Type 0} (r : Reader A) (src : List ℕ) (at : ℕ) (v : A) (k : ℕ) : Type 0 where
  pub found : r (drop at src) ≡ some (record { value = v; rest = drop k src })

module _ {A : Type 0} where
  -- it is the value there
  pub finds_value : {r : Reader A} {src : List ℕ} {at : ℕ} {v : A} {k : ℕ} → Finds r src at v k → (d : A) → value_or d (r (drop at src)) ≡ v
  unfolding value_or
  finds_value p d = rw p.found

  -- a place that is the same
  pub found_to : {r : Reader A} {src : List ℕ} {at : ℕ} {v : A} {k l : ℕ} → k ≡ l → Finds r src at v k → Finds r src at v l
  found_to {r} {src} {at} {v} e p = subst (λ (n : ℕ). Finds r src at v n) e p

  -- a part that is measured is found
  pub part_found : {f : Takes} {r : Reader A} {src : List ℕ} {at : ℕ} → Measures f r → Begins f src at → (d : A) → Finds r src at (value_or d (r (drop at src))) (end_of f src at)
  unfolding value_or
  part_found {f} {r} {src} {at} m b d =
      let q = m.finds (drop at src) b.long b.whole in
      let e : q.0.rest ≡ drop (end_of f src at) src = q.2 ∙ drop-drop b.long at src ∙ ap (λ (n : ℕ). drop n src) (sym (end_is b)) in
      let v : value_or d (r (drop at src)) ≡ q.0.value = rw q.1 in
      record { found = q.1 ∙ rw (v, ← e) refl }

-- w bytes are found
pub bytes_found : (w : ℕ) {src : List ℕ} {at : ℕ} → Begins (takes w) src at → Finds (read_bytes w) src at (take w (drop at src)) (at + w)
unfolding read_bytes
bytes_found w {src} {at} b =
    let h : w ≤ length (drop at src) = omega (arith, bytes_within w b, length-drop at src) in
    record { found = rw (le-leb w (length (drop at src)) h, drop-drop w at src) refl }

module _ {A B : Type 0} {src : List ℕ} {at k : ℕ} {a : A} where
  -- one reader after another
  pub next_found : {r : Reader A} (s : A → Reader B) {b : B} {e : ℕ} → Finds r src at a k → Finds (s a) src k b e → Finds (r >>= s) src at b e
  unfolding ◌>>=◌ onward
  next_found s p q = record { found = rw p.found q.found }

  -- a value in another shape
  pub got_found : (g : A → B) {r : Reader A} → Finds r src at a k → Finds (got g r) src at (g a) k
  unfolding got ◌>>=◌ onward give
  got_found g p = record { found = rw p.found refl }

  -- a value that is written as another
  pub shaped_found : (out : B → A) (back : A → B) (f : Form A) → Finds f.read src at a k → Finds (shaped out back f).read src at (back a) k
  unfolding shaped
  shaped_found out back f p = got_found back p

-- a number of w bytes is found
pub number_found : (w : ℕ) {src : List ℕ} {at : ℕ} → Begins (takes w) src at → Finds (read_number w) src at (number_in w (drop at src)) (at + w)
unfolding read_number number_in got
number_found w b = got_found number (bytes_found w b)

-- a pair
pub pair_found : {A B : Type 0} {src : List ℕ} {at k e : ℕ} {a : A} {b : B} (f : Form A) (g : Form B) → Finds f.read src at a k → Finds g.read src k b e → Finds (pair f g).read src at (a, b) e
unfolding pair
pair_found {a} f g p q = next_found (λ a. got (λ b. (a, b)) g.read) p (got_found (λ b. (a, b)) q)

-- ---- keys
-- the key at a place
abbrev pub key_at : List ℕ → ℕ → key.Key
key_at src at = value_or [] (read_key (drop at src))

module _ {src : List ℕ} {at : ℕ} (b : Begins key_takes src at) where
  -- how long it is
  abbrev long : ℕ
  long = number_in byte_long (drop at src)

  -- its length, then its bytes
  key_parts : Begins (and_then (takes byte_long) (takes long)) src at
  unfolding key_takes
  key_parts = asked_begins byte_long takes b

  -- its bytes
  key_bytes_lem : Begins (takes long) src (at + byte_long)
  key_bytes_lem = after_begins byte_long (takes long) key_parts

  -- they end within all bytes
  pub key_within : at + byte_long + long ≤ length src
  key_within = bytes_within long key_bytes_lem

  -- there it ends
  pub key_end : end_of key_takes src at ≡ at + byte_long + long
  unfolding key_takes
  key_end = asked_end byte_long takes src at ∙ after_end byte_long (takes long) key_parts ∙ bytes_end long key_bytes_lem

  -- it is read
  pub key_value : key_at src at ≡ take long (drop (at + byte_long) src)
  unfolding read_key
  key_value = finds_value (next_found (λ n. read_bytes n) (number_found byte_long (first_begins (takes byte_long) (takes long) key_parts)) (bytes_found long key_bytes_lem)) []

  -- it has that length
  pub key_long : length (key_at src at) ≡ long
  key_long = ap (λ (k : key.Key). length k) key_value ∙ omega (arith, length-take long (drop (at + byte_long) src), length-drop (at + byte_long) src, key_within)

  -- a key that has room is held
  pub key_held : long ≤ key_room → held_key full (key_at src at) ≡ take long (drop (at + byte_long) src)
  unfolding held_key full
  key_held h = rw (key_long, le-leb long key_room h) key_value

  -- at its length
  pub held_long : long ≤ key_room → length (held_key full (key_at src at)) ≡ long
  held_long h = ap (λ (k : key.Key). length k) (key_held h ∙ sym key_value) ∙ key_long

  -- of a longer one nothing is held
  pub key_dropped : key_room < long → held_key full (key_at src at) ≡ []
  unfolding held_key full
  key_dropped h = rw (key_long, lt-leb long key_room h)

-- ---- the parts of an edit
-- bytes, then keys
module _ (w n : ℕ) {src : List ℕ} {at : ℕ} (b : Begins (part_takes w n) src at) where
  -- the bytes end within all bytes
  pub part_within : at + w ≤ length src
  unfolding part_takes
  part_within = before_within w (repeated n key_takes) b

  -- the keys begin there
  pub part_keys : Begins (repeated n key_takes) src (at + w)
  unfolding part_takes
  part_keys = after_begins w (repeated n key_takes) b

  -- the part ends where they end
  pub part_end_lem : end_of (part_takes w n) src at ≡ end_of (repeated n key_takes) src (at + w)
  unfolding part_takes
  part_end_lem = after_end w (repeated n key_takes) b

-- two keys
module _ {src : List ℕ} {at : ℕ} (b : Begins (repeated 2 key_takes) src at) where
  -- the first
  pub low_begins : Begins key_takes src at
  unfolding repeated
  low_begins = first_begins key_takes (repeated 1 key_takes) b

  -- the second begins at its end
  pub high_begins : Begins key_takes src (end_of key_takes src at)
  unfolding repeated
  high_begins = last_begins key_takes (next_begins key_takes (repeated 1 key_takes) b refl (end_within low_begins key_measured))

  -- both end where the second ends
  pub high_end : end_of (repeated 2 key_takes) src at ≡ end_of key_takes src (end_of key_takes src at)
  unfolding repeated
  high_end = next_end_lem key_takes (repeated 1 key_takes) b refl ∙ last_end key_takes src (end_of key_takes src at)

-- a pointer: its level, then its key
module _ {src : List ℕ} {at : ℕ} (b : Begins (part_takes number_long 1) src at) where
  -- its key begins after its level
  pub pointer_key : Begins key_takes src (at + number_long)
  pointer_key = last_begins key_takes (part_keys number_long 1 b)

  -- it ends where its key ends
  pub pointer_end : end_of (part_takes number_long 1) src at ≡ end_of key_takes src (at + number_long)
  pointer_end = part_end_lem number_long 1 b ∙ last_end key_takes src (at + number_long)

  -- it is found
  pub pointer_found : Finds pointer_form.read src at (record { level = number_in number_long (drop at src); key = key_at src (at + number_long) }) (end_of key_takes src (at + number_long))
  unfolding pointer_form num key_form
  pointer_found = shaped_found _ _ _ (pair_found (num number_long) key_form (number_found number_long (bytes_begin number_long (part_within number_long 1 b))) (part_found key_measured pointer_key []))

-- two numbers one after another
pub numbers_found : {src : List ℕ} {at : ℕ} → at + keys_at ≤ length src
    → Finds (read_number number_long) src at (number_in number_long (drop at src)) (at + number_long) × Finds (read_number number_long) src (at + number_long) (number_in number_long (drop (at + number_long) src)) (at + keys_at)
numbers_found {src} {at} h =
    let e : at + number_long + number_long ≡ at + keys_at = omega arith in
    (number_found number_long (bytes_begin number_long (omega arith)), found_to e (number_found number_long (bytes_begin number_long (omega arith))))

-- a deletion: its level, then its number
module _ {src : List ℕ} {at : ℕ} (b : Begins (part_takes keys_at 0) src at) where
  -- it ends after them
  pub deletion_end : end_of (part_takes keys_at 0) src at ≡ at + keys_at
  unfolding repeated
  deletion_end = let e : at + keys_at + 0 ≡ at + keys_at = omega arith in part_end_lem keys_at 0 b ∙ bytes_end 0 (part_keys keys_at 0 b) ∙ e

  -- it is found
  pub deletion_found : Finds deletion_form.read src at (record { level = number_in number_long (drop at src); number = number_in number_long (drop (at + number_long) src) }) (at + keys_at)
  unfolding deletion_form num
  deletion_found = let n = numbers_found (part_within keys_at 0 b) in shaped_found _ _ _ (pair_found (num number_long) (num number_long) n.0 n.1)

-- a file: its number, its size, then its keys
pub file_found : {src : List ℕ} {at : ℕ} → at + keys_at ≤ length src → Begins (repeated 2 key_takes) src (at + keys_at) → let k = end_of key_takes src (at + keys_at) in
    Finds read_file src at (record { number = number_in number_long (drop at src); size = number_in number_long (drop (at + number_long) src); smallest = key_at src (at + keys_at); largest = key_at src k }) (end_of key_takes src k)
unfolding read_file give
file_found h b =
    let n = numbers_found h in
    next_found _ n.0 (next_found _ n.1 (next_found _ (part_found key_measured (low_begins b) []) (next_found _ (part_found key_measured (high_begins b) []) (record { found = refl }))))

-- an addition: its level, then its file
module _ {src : List ℕ} {at : ℕ} (b : Begins (part_takes (number_long + keys_at) 2) src at) where
  -- the place of its keys
  keys_at_lem : at + (number_long + keys_at) ≡ at + number_long + keys_at
  keys_at_lem = omega arith

  -- it is within the bytes
  pub addition_within : at + number_long + keys_at ≤ length src
  addition_within = omega (arith, part_within (number_long + keys_at) 2 b)

  -- they begin there
  pub addition_keys : Begins (repeated 2 key_takes) src (at + number_long + keys_at)
  addition_keys = subst (Begins (repeated 2 key_takes) src) keys_at_lem (part_keys (number_long + keys_at) 2 b)

  -- it ends where they end
  pub addition_end : end_of (part_takes (number_long + keys_at) 2) src at ≡ end_of key_takes src (end_of key_takes src (at + number_long + keys_at))
  addition_end = part_end_lem (number_long + keys_at) 2 b ∙ ap (end_of (repeated 2 key_takes) src) keys_at_lem ∙ high_end addition_keys

  -- it is found
  pub addition_found : let k = at + number_long + keys_at in let l = end_of key_takes src k in
      Finds addition_form.read src at (record {
        level = number_in number_long (drop at src);
        file = record { number = number_in number_long (drop (at + number_long) src); size = number_in number_long (drop (at + number_long + number_long) src); smallest = key_at src k; largest = key_at src l };
      }) (end_of key_takes src l)
  unfolding addition_form num file_form
  addition_found =
      let h = addition_within in
      shaped_found _ _ _ (pair_found (num number_long) file_form (number_found number_long (bytes_begin number_long (omega arith))) (file_found h addition_keys))

-- ---- parts one after another
module _ {A : Type 0} (r : Reader A) where
  -- the first, then the others
  parts_found : {src : List ℕ} {at k : ℕ} {v : A} (n : ℕ) (q : Read (List A)) → Finds r src at v k → times n r (drop k src) ≡ some q → value_or [] (times (suc n) r (drop at src)) ≡ v ∷ value_or [] (times n r (drop k src))
  unfolding times ◌>>=◌ onward give value_or
  parts_found n q p e = rw (p.found, e)

  -- one part
  one_found_lem : {src : List ℕ} {at k : ℕ} {v : A} → Finds r src at v k → Finds (times 1 r) src at (v ∷ []) k
  unfolding times ◌>>=◌ onward give
  one_found_lem p = record { found = rw p.found refl }

  -- the first m of n parts
  fewer_found : (m n : ℕ) (bs : List ℕ) (q : Read (List A)) → m ≤ n → times n r bs ≡ some q → (p : Read (List A)) × (times m r bs ≡ some p) × (p.value ≡ take m q.value)
  unfolding times got ◌>>=◌ onward give
  fewer_found zero n bs q h e = (record { value = []; rest = bs }, refl, refl)
  fewer_found (suc m) zero bs q h e = absurd (omega arith)
  fewer_found (suc m) (suc n) bs q h e =
      let s = bind_says r (λ a. got (λ as'. a ∷ as') (times n r)) bs q e in
      let t = got_says (λ as'. s.0.value ∷ as') (times n r) s.0.rest q s.2 in
      let u = fewer_found m n s.0.rest t.0 (omega arith) t.1 in
      (record { value = s.0.value ∷ u.0.value; rest = u.0.rest }, rw (s.1, u.1), ap (λ (l : List A). s.0.value ∷ l) u.2 ∙ ap (take (suc m)) t.2)

module _ {A : Type 0} {f : Takes} {r : Reader A} (M : Measures f r) {src : List ℕ} {at : ℕ} where
  -- so many parts are found
  found_many : (n : ℕ) → Begins (repeated n f) src at → (q : Read (List A)) × (times n r (drop at src) ≡ some q)
  found_many n b = let q = (times_measured n M).finds (drop at src) b.long b.whole in (q.0, q.1)

  -- they are as many
  pub many_long : (n : ℕ) → Begins (repeated n f) src at → length (value_or [] (times n r (drop at src))) ≡ n
  unfolding value_or
  many_long n b = let q = found_many n b in rw q.1 (times_long r n (drop at src) q.0 q.1)

-- ---- an array that is filled with parts
-- i of n parts are put: those that are left, put from there on, make the array whole
pub record FilledTo {A B : Type 0} (f : Takes) (r : Reader A) (g : A → B) (blank : B) (src : List ℕ) (at room n : ℕ) (out : List B) (next i : ℕ) : Type 0 where
  pub some_left : i ≤ n
  pub fits : n ≤ room
  pub long : length out ≡ room
  pub begins : Begins (repeated (n - i) f) src next
  pub same : put out i (map g (value_or [] (times (n - i) r (drop next src)))) ≡ filled room blank g (value_or [] (times n r (drop at src)))

module _ {A B : Type 0} {f : Takes} {r : Reader A} (M : Measures f r) (g : A → B) {src : List ℕ} where
  -- none is put yet
  pub fill_begins : {room n at : ℕ} {blank x : B} → n ≤ room → Begins (repeated n f) src at → x ≡ blank → FilledTo f r g blank src at room n (replicate room x) at 0
  unfolding filled
  fill_begins {room} {n} {at} {blank} {x} h b e = record {
    some_left = omega arith;
    fits = h;
    long = length-replicate room x;
    begins = rw sub-zero b;
    same = rw (e, sub-zero, take_all room (value_or [] (times n r (drop at src))) (omega (arith, many_long M n b)));
  }

  module _ {blank : B} {at room n : ℕ} {out : List B} {next i : ℕ} (l : FilledTo f r g blank src at room n out next i) where
    -- those that are left begin with one
    left : i < n → Begins (and_then f (repeated (n - (i + 1)) f)) src next
    unfolding repeated
    left h = let e : n - i ≡ suc (n - (i + 1)) = omega arith in subst (λ (m : ℕ). Begins (repeated m f) src next) e l.begins

    -- there it begins
    pub fill_part : i < n → Begins f src next
    fill_part h = first_begins f (repeated (n - (i + 1)) f) (left h)

    -- one more is put
    pub fill_turn : {x : B} {v : A} {k : ℕ} → i < n → Finds r src next v k → k ≡ end_of f src next → x ≡ g v → FilledTo f r g blank src at room n (set out i x) k (i + 1)
    fill_turn {x} {v} {k} h p e d =
        let m = n - (i + 1) in
        let b : Begins (repeated m f) src k = next_begins f (repeated m f) (left h) e (omega (arith, e, end_within (fill_part h) M)) in
        let j : n - i ≡ suc m = omega arith in
        let q = found_many M m b in
        let all : value_or [] (times (n - i) r (drop next src)) ≡ v ∷ value_or [] (times m r (drop k src)) = ap (λ (n : ℕ). value_or [] (times n r (drop next src))) j ∙ parts_found r m q.0 p q.1 in
        record {
          some_left = omega arith;
          fits = l.fits;
          long = length-set out i x ∙ l.long;
          begins = b;
          same = put_cons out i x (map g (value_or [] (times m r (drop k src)))) (omega (arith, l.long, l.fits))
              ∙ ap (λ (y : B). put out i (y ∷ map g (value_or [] (times m r (drop k src))))) d ∙ ap (λ (vs : List A). put out i (map g vs)) (sym all) ∙ l.same;
        }

    -- all are put
    pub fill_over : n ≤ i → out ≡ filled room blank g (value_or [] (times n r (drop at src)))
    unfolding times give value_or
    fill_over h = let e : n - i ≡ 0 = omega arith in sym (put_nil out i) ∙ rw e at l.same

  -- the same for the front of an array that has room for more
  module _ {room n at : ℕ} {blank x : B} (h : n ≤ room) (b : Begins (repeated n f) src at) (e : x ≡ blank) where
    -- none is put yet
    pub front_begins : FilledTo f r g blank src at n n (take n (replicate room x)) at 0
    front_begins =
        let front : replicate n x ≡ take n (replicate room x) = sym (take-replicate n room x h) in
        subst (λ (out : List B). FilledTo f r g blank src at n n out at 0) front (fill_begins {room = n} {n = n} {at = at} {blank = blank} {x = x} (omega arith) b e)

    -- all are put: the array is that which they fill
    pub front_over : {out : List B} {next i : ℕ} → FilledTo f r g blank src at n n out next i → n ≤ i → out ++ drop n (replicate room x) ≡ filled room blank g (value_or [] (times n r (drop at src)))
    unfolding filled
    front_over {out} l k =
        let vs = value_or [] (times n r (drop at src)) in
        let long = many_long M n b in
        let size = length-map vs g in
        let all : take n vs ≡ vs = take_all n vs (omega arith) in
        let put_all : out ≡ map g vs =
        fill_over l k ∙ ap (λ (ws : List A). put (replicate n blank) 0 (map g ws)) all ∙ put_whole (replicate n blank) (map g vs) (omega (arith, length-replicate {A = B} n blank)) in
        let rest : drop n (replicate room x) ≡ drop (length (map g vs)) (replicate room blank) = rw (e, size, long) in
        rw (put_all, rest, take_all room vs (omega arith)) (sym (put_front (replicate room blank) (map g vs)))

  -- as many as there is room for make the same array as all
  pub filled_fewer : {at : ℕ} (room n : ℕ) (blank : B) → Begins (repeated n f) src at → filled room blank g (value_or [] (times (min n room) r (drop at src))) ≡ filled room blank g (value_or [] (times n r (drop at src)))
  unfolding filled value_or
  filled_fewer {at} room n blank b = ap (λ (l : List A). put (replicate room blank) 0 (map g l)) (go (leb n room) refl)
    where
      bs : List ℕ
      bs = drop at src

      go : (t : Bool) → leb n room ≡ t → take room (value_or [] (times (min n room) r bs)) ≡ take room (value_or [] (times n r bs))
      go true e =
          let h = leb-true n room e in
          let m : min n room ≡ n = omega arith in
          ap (λ (k : ℕ). take room (value_or [] (times k r bs))) m
      go false e =
          let h = leb-false n room e in
          let m : min n room ≡ room = omega arith in
          let q = found_many M n b in
          let u = fewer_found r room n bs q.0 (omega arith) q.1 in
          let v : value_or [] (times room r bs) ≡ take room q.0.value = rw u.1 u.2 in
          let w : value_or [] (times n r bs) ≡ q.0.value = rw q.1 in
          ap (λ (k : ℕ). take room (value_or [] (times k r bs))) m ∙ ap (take room) v ∙ take-take room room q.0.value (omega arith) ∙ ap (take room) (sym w)

-- ---- an edit
-- a section: its count, then its parts
module _ (w k : ℕ) {src : List ℕ} {at : ℕ} (b : Begins (section_takes w k) src at) where
  -- how many there are
  abbrev count : ℕ
  count = number_in count_long (drop at src)

  -- its count, then so many parts
  section_parts : Begins (and_then (takes count_long) (repeated count (part_takes w k))) src at
  unfolding section_takes
  section_parts = asked_begins count_long (λ n. repeated n (part_takes w k)) b

  -- they begin after the count
  section_begins : Begins (repeated count (part_takes w k)) src (at + count_long)
  section_begins = after_begins count_long (repeated count (part_takes w k)) section_parts

  -- where they end it ends
  section_end : end_of (section_takes w k) src at ≡ end_of (repeated count (part_takes w k)) src (at + count_long)
  unfolding section_takes
  section_end = asked_end count_long (λ n. repeated n (part_takes w k)) src at ∙ after_end count_long (repeated count (part_takes w k)) section_parts

  -- those that there is room for
  pub section_fewer : (room n : ℕ) {m : ℕ} → n ≡ count → m ≡ min n room → (m ≤ room) × Begins (repeated m (part_takes w k)) src (at + count_long)
  section_fewer room n {m} e d = (omega arith, fewer_begin (part_takes w k) m count (omega arith) section_begins)

  module _ {A : Type 0} (F : Form A) (M : Measures (part_takes w k) F.read) where
    -- its parts
    abbrev parts : List A
    parts = value_or [] (times count F.read (drop (at + count_long) src))

    -- they are found
    section_found : Finds (many count_long F).read src at parts (end_of (section_takes w k) src at)
    unfolding many
    section_found =
        let n = number_found count_long (first_begins (takes count_long) (repeated count (part_takes w k)) section_parts) in
        found_to (sym section_end) (next_found (λ n. times n F.read) n (part_found (times_measured count M) section_begins []))

    -- they are as many as the count says
    pub section_long : {n : ℕ} → n ≡ count → n ≡ length parts
    section_long e = e ∙ sym (many_long M count section_begins)

    -- an array that is filled with those that there is room for
    pub section_filled : {B : Type 0} (room : ℕ) (blank : B) (g : A → B) (n : ℕ) {m : ℕ} {out : List B} → n ≡ count → m ≡ min n room
        → out ≡ filled room blank g (value_or [] (times m F.read (drop (at + count_long) src))) → out ≡ filled room blank g parts
    section_filled room blank g n e d o =
        let j = d ∙ ap (λ (n : ℕ). min n room) e in
        o ∙ ap (λ (m : ℕ). filled room blank g (value_or [] (times m F.read (drop (at + count_long) src)))) j ∙ filled_fewer M g room count blank section_begins

-- a log number: a section of no number or one
module _ {src : List ℕ} {at : ℕ} (b : Begins log_takes src at) where
  -- how many there are
  abbrev logs : ℕ
  logs = number_in count_long (drop at src)

  -- the numbers, if they are not too many
  abbrev log_part : Takes
  log_part = cond (leb logs 1) (repeated logs (part_takes number_long 0)) never

  -- its count, then they
  log_parts : Begins (and_then (takes count_long) log_part) src at
  unfolding log_takes
  log_parts = asked_begins count_long (λ n. cond (leb n 1) (repeated n (part_takes number_long 0)) never) b

  -- the count ends within the bytes
  pub log_within : at + count_long ≤ length src
  log_within = before_within count_long log_part log_parts

  -- there is at most one, and it begins after the count
  log_begins : (logs ≤ 1) × Begins (repeated logs (part_takes number_long 0)) src (at + count_long)
  unfolding never
  log_begins = go (leb logs 1) refl (after_begins count_long log_part log_parts)
    where
      go : (t : Bool) → leb logs 1 ≡ t → Begins (cond t (repeated logs (part_takes number_long 0)) never) src (at + count_long) → (logs ≤ 1) × Begins (repeated logs (part_takes number_long 0)) src (at + count_long)
      go true e c = (leb-true logs 1 e, c)
      go false e c = let z : true ≡ false = cc c.whole in clash refl z

  -- it is the first of the numbers that are found
  log_first : (n : ℕ) (ns : List ℕ) {k : ℕ} → logs ≡ n → Finds (times n (read_number number_long)) src (at + count_long) ns k → leb (length ns) 1 ≡ true → value_or none (log_form.read (drop at src)) ≡ first_number ns
  unfolding log_form only guarded many num give
  log_first n ns {k} e p t =
      let c = number_found count_long (first_begins (takes count_long) log_part log_parts) in
      let q = next_found (λ n. times n (read_number number_long)) (subst (λ (m : ℕ). Finds (read_number count_long) src at m (at + count_long)) e c) p in
      let few : Finds (cond (leb (length ns) 1) (give ns) unread) src k ns k = record { found = rw t refl } in
      finds_value (shaped_found _ first_number _ (next_found (λ as'. cond (leb (length as') 1) (give as') unread) q few)) none

  -- there is none
  pub log_none : logs ≡ 0 → value_or none (log_form.read (drop at src)) ≡ none
  unfolding times give first_number
  log_none e = log_first 0 [] {k = at + count_long} e (record { found = refl }) refl

  -- there is one
  pub log_some : (logs ≡ 0 → ⊥) → value_or none (log_form.read (drop at src)) ≡ some (number_in number_long (drop (at + count_long) src))
  unfolding first_number
  log_some h =
      let l = log_begins in
      let few = l.0 in
      let e : logs ≡ 1 = omega arith in
      let one : Begins (part_takes number_long 0) src (at + count_long) = last_begins (part_takes number_long 0) (subst (λ (n : ℕ). Begins (repeated n (part_takes number_long 0)) src (at + count_long)) e l.1) in
      log_first 1 (number_in number_long (drop (at + count_long) src) ∷ []) e (one_found_lem (read_number number_long) (number_found number_long (bytes_begin number_long (part_within number_long 0 one)))) refl

-- what follows the deletions of an edit
abbrev past_deletions : Takes
past_deletions = and_then (section_takes (number_long + keys_at) 2) log_takes

-- what follows its pointers
abbrev past_pointers : Takes
past_pointers = and_then (section_takes keys_at 0) past_deletions

-- an edit: three sections, each from the end of the one before it, then the log number
module _ {src : List ℕ} {at : ℕ} (b : Begins edit_takes src at) where
  -- the pointers
  pub edit_pointers : Begins (section_takes number_long 1) src at
  unfolding edit_takes
  edit_pointers = first_begins (section_takes number_long 1) past_pointers b

  module _ {p : Passed} (P : Passes src at (section_takes number_long 1) p) where
    -- the rest follows them
    after_pointers : Begins past_pointers src p.at
    unfolding edit_takes
    after_pointers = passed_begins (section_takes number_long 1) past_pointers b P

    -- the deletions
    pub edit_deletions : Begins (section_takes keys_at 0) src p.at
    edit_deletions = first_begins (section_takes keys_at 0) past_deletions after_pointers

    module _ {q : Passed} (Q : Passes src p.at (section_takes keys_at 0) q) where
      -- the rest follows them
      after_deletions : Begins past_deletions src q.at
      after_deletions = passed_begins (section_takes keys_at 0) past_deletions after_pointers Q

      -- the additions
      pub edit_additions : Begins (section_takes (number_long + keys_at) 2) src q.at
      edit_additions = first_begins (section_takes (number_long + keys_at) 2) log_takes after_deletions

      module _ {r : Passed} (R : Passes src q.at (section_takes (number_long + keys_at) 2) r) where
        -- the log number
        pub edit_log : Begins log_takes src r.at
        edit_log = passed_begins (section_takes (number_long + keys_at) 2) log_takes after_deletions R

        -- they are read
        pub edit_value : edit_in (drop at src) ≡ record {
          pointers = value_or [] (times (number_in count_long (drop at src)) pointer_form.read (drop (at + count_long) src));
          deletions = value_or [] (times (number_in count_long (drop p.at src)) deletion_form.read (drop (p.at + count_long) src));
          additions = value_or [] (times (number_in count_long (drop q.at src)) addition_form.read (drop (q.at + count_long) src));
          log = value_or none (log_form.read (drop r.at src));
        }
        unfolding edit_in edit_form
        edit_value =
            let ps = found_to (passed_end P) (section_found number_long 1 edit_pointers pointer_form pointer_measured) in
            let ds = found_to (passed_end Q) (section_found keys_at 0 edit_deletions deletion_form deletion_measured) in
            let xs = found_to (passed_end R) (section_found (number_long + keys_at) 2 edit_additions addition_form addition_measured) in
            finds_value (shaped_found _ _ _ (pair_found _ _ ps (pair_found _ _ ds (pair_found _ _ xs (part_found log_measured edit_log none))))) empty_edit
