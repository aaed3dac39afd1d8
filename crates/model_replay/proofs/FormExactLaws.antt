-- Forms are exact: of bytes, a reader takes only what the form writes. So one pass to the last byte is enough to read. Assumes nothing.
use Rattle.std.specs.Prelude.{ℕ, zero, suc, ◌+◌, ◌*◌, ◌/◌, ◌%◌, ◌^◌, ◌<◌, ◌≤◌, Bool, ◌&&◌, ltb, leb, length, take, drop}
use Rattle.std.proofs.Math.Path.{◌≡◌, refl, ap, sym, subst}
use Rattle.std.proofs.Common.{◌∙◌, ltb-true, lt-ltb, leb-true, length-append, length-take, take-append-drop, arith}
use Rattle.std.proofs.Math.Bool.{cond, true, false}
use mathlib.Core.List.{List, [], ◌∷◌, ◌++◌, map, append_assoc, append-nil}
use Rattle.std.proofs.Math.Option.{Option, none, some}
use Rattle.std.proofs.Math.ListN.{get_or, get_or-eq_default}
use Rattle.std.proofs.Math.Pow.{are_bytes}
use Rattle.lemmas.specs.Order.{clash}
use Rattle.lemmas.specs.Lists.{all, join, is_empty}
use Rattle.lemmas.specs.ListLaws.{and_left, and_right, both}
use Rattle.lemmas.specs.Little.{number, bytes, number_bound}
use Rattle.model.specs.Key.{Key}
use Rattle.model.specs.File.{File}
use Rattle.model.specs.Snapshot.{write_key, write_file, Read, Reader, onward, ◌>>=◌, give, times, read_bytes, read_number, read_key, read_file, same_bytes}
use Rattle.model.proofs.Reading.{same_eq, eq_same}
use Rattle.model_replay.specs.Form.{Form, num, key_form, file_form, got, pair, shaped, many, unread, guarded, only, tagged, tag, taken, parsed}

-- ---- bytes, generic
-- the bytes of the number that bytes are
number_again : (l : List ℕ) → are_bytes l ≡ true → bytes (length l) (number l) ≡ l
unfolding bytes number
number_again [] h = refl
number_again (b ∷ l) h =
    let k : b < 256 = ltb-true b 256 (and_left (ltb b 256) (are_bytes l) h) in
    let p : (b + 256 * number l) % 256 ≡ b = omega arith in
    let q : (b + 256 * number l) / 256 ≡ number l = omega arith in
    rw (p, q, number_again l (and_right (ltb b 256) (are_bytes l) h))

-- both parts of bytes are bytes
bytes_parts : (a b : List ℕ) → are_bytes (a ++ b) ≡ true → (are_bytes a ≡ true) × (are_bytes b ≡ true)
bytes_parts [] b h = (refl, h)
bytes_parts (x ∷ a) b h =
    let r = bytes_parts a b (and_right (ltb x 256) (are_bytes (a ++ b)) h) in
    (both (ltb x 256) (are_bytes a) (and_left (ltb x 256) (are_bytes (a ++ b)) h) r.0, r.1)

-- one part after another
joined : {A : Type 0} (a b x y whole : List A) → a ++ x ≡ whole → b ++ y ≡ x → a ++ b ++ y ≡ whole
joined a b x y whole e f = append_assoc a b y ∙ ap (λ (l : List _). a ++ l) f ∙ e

-- ---- readers that found a value
-- one after another: both did
pub bind_says : {A B : Type 0} (m : Reader A) (f : A → Reader B) (bs : List ℕ) (r : Read B) → (m >>= f) bs ≡ some r → (q : Read A) × (m bs ≡ some q) × (f q.value q.rest ≡ some r)
unfolding ◌>>=◌ onward
bind_says {A} {B} m f bs r e = go (m bs) refl e
  where
    go : (o : Option (Read A)) → m bs ≡ o → onward o f ≡ some r → (q : Read A) × (m bs ≡ some q) × (f q.value q.rest ≡ some r)
    go none h k = let z : true ≡ false = cc in clash refl z
    go (some q) h k = (q, h, k)

-- a value in another shape
pub got_says : {A B : Type 0} (g : A → B) (m : Reader A) (bs : List ℕ) (r : Read B) → got g m bs ≡ some r → (q : Read A) × (m bs ≡ some q) × (g q.value ≡ r.value) × (q.rest ≡ r.rest)
unfolding got give
got_says g m bs r e =
    let w = bind_says m (λ a. give (g a)) bs r e in
    let q = w.0 in
    let k : ◌≡◌ {A = Option (Read _)} (some (record { value = g q.value; rest = q.rest })) (some r) = w.2 in
    let j : ◌≡◌ {A = Read _} (record { value = g q.value; rest = q.rest }) r = cc in
    (q, w.1, ap (λ (x : Read _). x.value) j, ap (λ (x : Read _). x.rest) j)

-- so many bytes
bytes_says : (n : ℕ) (bs : List ℕ) (q : Read (List ℕ)) → read_bytes n bs ≡ some q → (length q.value ≡ n) × (q.value ++ q.rest ≡ bs)
unfolding read_bytes
bytes_says n bs q e = go (leb n (length bs)) refl e
  where
    go : (b : Bool) → leb n (length bs) ≡ b → cond b (some (record { value = take n bs; rest = drop n bs })) none ≡ some q → (length q.value ≡ n) × (q.value ++ q.rest ≡ bs)
    go true h k =
        let j : ◌≡◌ {A = Read (List ℕ)} (record { value = take n bs; rest = drop n bs }) q = cc in
        subst (λ (x : Read (List ℕ)). (length x.value ≡ n) × (x.value ++ x.rest ≡ bs)) j (omega (arith, length-take n bs, leb-true n (length bs) h), take-append-drop n bs)
    go false h k = let z : true ≡ false = cc in clash refl z

-- n parts: a list of n
pub times_long : {A : Type 0} (m : Reader A) (n : ℕ) (bs : List ℕ) (r : Read (List A)) → times n m bs ≡ some r → length r.value ≡ n
unfolding times give got
times_long {A} m zero bs r e =
    let k : ◌≡◌ {A = Option (Read (List A))} (some (record { value = []; rest = bs })) (some r) = e in
    let j : ◌≡◌ {A = Read (List A)} (record { value = []; rest = bs }) r = cc in
    ap (λ (z : Read (List A)). length z.value) (sym j)
times_long {A} m (suc n) bs r e =
    let s = bind_says m (λ a. times n m >>= λ as'. give (a ∷ as')) bs r e in
    let t = got_says (λ as'. s.0.value ∷ as') (times n m) s.0.rest r s.2 in
    ap (λ (l : List A). length l) (sym t.2) ∙ ap suc (times_long m n s.0.rest t.0 t.1)

-- a number of a width
number_says : (w : ℕ) (bs : List ℕ) (q : Read ℕ) → are_bytes bs ≡ true → read_number w bs ≡ some q → (q.value < 256 ^ w) × (bytes w q.value ++ q.rest ≡ bs)
unfolding read_number give
number_says w bs q h e =
    let r = bind_says (read_bytes w) (λ bs. give (number bs)) bs q e in
    let v = r.0.value in
    let s = bytes_says w bs r.0 r.1 in
    let n = s.0 in
    let k : ◌≡◌ {A = Option (Read ℕ)} (some (record { value = number v; rest = r.0.rest })) (some q) = r.2 in
    let j : ◌≡◌ {A = Read ℕ} (record { value = number v; rest = r.0.rest }) q = cc in
    let a = (bytes_parts v r.0.rest (rw s.1 h)).0 in
    let small : number v < 256 ^ w = rw n at (number_bound v a) in
    let again : bytes w (number v) ≡ v = rw n at (number_again v a) in
    subst (λ (x : Read ℕ). (x.value < 256 ^ w) × (bytes w x.value ++ x.rest ≡ bs)) j (small, rw again s.1)

-- a key
key_says : (bs : List ℕ) (q : Read Key) → are_bytes bs ≡ true → read_key bs ≡ some q → (length q.value < 256) × (write_key q.value ++ q.rest ≡ bs)
unfolding read_key write_key
key_says bs q h e =
    let r = bind_says (read_number 1) (λ n. read_bytes n) bs q e in
    let n = number_says 1 bs r.0 h r.1 in
    let s = bytes_says r.0.value r.0.rest q r.2 in
    let i = n.0 in
    let j = s.0 in
    (omega arith, rw (append_assoc, s.0, s.1) n.1)

-- ---- exact forms
-- of bytes, what is read fits, and it and what is left are those bytes
pub record Exact {A : Type 0} (f : Form A) : Type 0 where
  pub exact : (bs : List ℕ) (r : Read A) → are_bytes bs ≡ true → f.read bs ≡ some r → (f.fits r.value ≡ true) × (f.write r.value ++ r.rest ≡ bs)

-- what is left of bytes is bytes
rest_bytes : (w rest bs : List ℕ) → w ++ rest ≡ bs → are_bytes bs ≡ true → are_bytes rest ≡ true
rest_bytes w rest bs e h = (bytes_parts w rest (rw e h)).1

-- a number
pub num_exact : (w : ℕ) → Exact (num w)
unfolding num
num_exact w = record { exact = λ bs r h e. let s = number_says w bs r h e in (lt-ltb r.value (256 ^ w) s.0, s.1) }

-- a key
pub key_exact : Exact key_form
unfolding key_form
key_exact = record { exact = λ bs r h e. let s = key_says bs r h e in (lt-ltb (length r.value) 256 s.0, s.1) }

-- one after another
pub pair_exact : {A B : Type 0} (f : Form A) (g : Form B) → Exact f → Exact g → Exact (pair f g)
unfolding pair
pair_exact {A} {B} f g F G = record {
  exact = λ bs r h e.
      let s = bind_says f.read (λ a. got (λ b. (a, b)) g.read) bs r e in
      let x = F.exact bs s.0 h s.1 in
      let t = got_says (λ b. (s.0.value, b)) g.read s.0.rest r s.2 in
      let y = G.exact s.0.rest t.0 (rest_bytes (f.write s.0.value) s.0.rest bs x.1 h) t.1 in
      let v : (s.0.value, t.0.value) ≡ r.value = t.2 in
      let whole : f.write s.0.value ++ g.write t.0.value ++ r.rest ≡ bs = joined (f.write s.0.value) (g.write t.0.value) s.0.rest r.rest bs x.1 (ap (λ (l : List ℕ). g.write t.0.value ++ l) (sym t.3) ∙ y.1) in
      subst (λ (z : A × B). (f.fits z.0 && g.fits z.1 ≡ true) × (f.write z.0 ++ g.write z.1 ++ r.rest ≡ bs)) v
      (both (f.fits s.0.value) (g.fits t.0.value) x.0 y.0, whole);
}

-- a value written as another, to which it goes back
pub shaped_exact : {A B : Type 0} (out : B → A) (back : A → B) (f : Form A) → Exact f → ((a : A) → f.fits a ≡ true → out (back a) ≡ a) → Exact (shaped out back f)
unfolding shaped
shaped_exact {A} {B} out back f F i = record {
  exact = λ bs r h e.
      let t = got_says back f.read bs r e in
      let x = F.exact bs t.0 h t.1 in
      let v : out r.value ≡ t.0.value = ap out (sym t.2) ∙ i t.0.value x.0 in
      (ap (λ (a : A). f.fits a) v ∙ x.0, ap (λ (a : A). f.write a ++ r.rest) v ∙ ap (λ (l : List ℕ). f.write t.0.value ++ l) (sym t.3) ∙ x.1);
}

-- fewer values
pub only_exact : {A : Type 0} (q : A → Bool) (f : Form A) → Exact f → Exact (only q f)
unfolding only guarded give unread
only_exact {A} q f F = record {
  exact = λ bs r h e.
      let s = bind_says f.read (λ a. cond (q a) (give a) unread) bs r e in
      let x = F.exact bs s.0 h s.1 in
      go bs r s.0 x.0 x.1 (q s.0.value) refl s.2;
}
  where
    go : (bs : List ℕ) (r p : Read A) → f.fits p.value ≡ true → f.write p.value ++ p.rest ≡ bs → (b : Bool) → q p.value ≡ b
        → (cond b (give p.value) unread) p.rest ≡ some r → (f.fits r.value && q r.value ≡ true) × (f.write r.value ++ r.rest ≡ bs)
    go bs r p x y true t k =
        let j : ◌≡◌ {A = Read A} (record { value = p.value; rest = p.rest }) r = cc in
        subst (λ (z : Read A). (f.fits z.value && q z.value ≡ true) × (f.write z.value ++ z.rest ≡ bs)) j (both (f.fits p.value) (q p.value) x t, y)
    go bs r p x y false t k = let z : true ≡ false = cc in clash refl z

-- n parts
record Parts {A : Type 0} (f : Form A) (bs : List ℕ) (r : Read (List A)) : Type 0 where
  fit : all f.fits r.value ≡ true
  whole : join (map f.write r.value) ++ r.rest ≡ bs

-- one after another
times_says : {A : Type 0} (f : Form A) → Exact f → (n : ℕ) (bs : List ℕ) (r : Read (List A)) → are_bytes bs ≡ true → times n f.read bs ≡ some r → Parts f bs r
unfolding times give all join
times_says {A} f F zero bs r h e =
    let k : ◌≡◌ {A = Option (Read (List A))} (some (record { value = []; rest = bs })) (some r) = e in
    let j : ◌≡◌ {A = Read (List A)} (record { value = []; rest = bs }) r = cc in
    subst (λ (z : Read (List A)). Parts f bs z) j record { fit = refl; whole = refl }
times_says {A} f F (suc n) bs r h e =
    let s = bind_says f.read (λ a. times n f.read >>= λ as'. give (a ∷ as')) bs r e in
    let a = s.0.value in
    let x = F.exact bs s.0 h s.1 in
    let t = bind_says (times n f.read) (λ as'. give (a ∷ as')) s.0.rest r s.2 in
    let p = times_says f F n s.0.rest t.0 (rest_bytes (f.write a) s.0.rest bs x.1 h) t.1 in
    let k : ◌≡◌ {A = Option (Read (List A))} (some (record { value = a ∷ t.0.value; rest = t.0.rest })) (some r) = t.2 in
    let j : ◌≡◌ {A = Read (List A)} (record { value = a ∷ t.0.value; rest = t.0.rest }) r = cc in
    subst (λ (z : Read (List A)). Parts f bs z) j record {
      fit = both (f.fits a) (all f.fits t.0.value) x.0 p.fit;
      whole = rw (append_assoc, p.whole) x.1;
    }

-- a section
pub many_exact : {A : Type 0} (w : ℕ) (f : Form A) → Exact f → Exact (many w f)
unfolding many
many_exact w f F = record {
  exact = λ bs r h e.
      let s = bind_says (read_number w) (λ n. times n f.read) bs r e in
      let x = number_says w bs s.0 h s.1 in
      let p = times_says f F s.0.value s.0.rest r (rest_bytes (bytes w s.0.value) s.0.rest bs x.1 h) s.2 in
      let n = times_long f.read s.0.value s.0.rest r s.2 in
      (both (ltb (length r.value) (256 ^ w)) (all f.fits r.value) (rw n (lt-ltb s.0.value (256 ^ w) x.0)) p.fit, rw (append_assoc, n, p.whole) x.1);
}

-- the four parts of a file, one after another
file_whole : (n z : ℕ) (a b : Key) (bs x₁ x₂ x₃ x₄ : List ℕ) → (n < 256 ^ 8) × (bytes 8 n ++ x₁ ≡ bs) → (z < 256 ^ 8) × (bytes 8 z ++ x₂ ≡ x₁) → (length a < 256) × (write_key a ++ x₃ ≡ x₂) → (length b < 256) × (write_key b ++ x₄ ≡ x₃)
    → (r : Read File) → give (record { number = n; size = z; smallest = a; largest = b }) x₄ ≡ some r → (file_form.fits r.value ≡ true) × (write_file r.value ++ r.rest ≡ bs)
unfolding file_form write_file give
file_whole n z a b bs x₁ x₂ x₃ x₄ e₁ e₂ e₃ e₄ r e =
    let f : File = record { number = n; size = z; smallest = a; largest = b } in
    let k : ◌≡◌ {A = Option (Read File)} (some (record { value = f; rest = x₄ })) (some r) = e in
    let j : ◌≡◌ {A = Read File} (record { value = f; rest = x₄ }) r = cc in
    let j₂ = joined (bytes 8 n) (bytes 8 z) x₁ x₂ bs e₁.1 e₂.1 in
    let j₃ = joined (bytes 8 n ++ bytes 8 z) (write_key a) x₂ x₃ bs j₂ e₃.1 in
    let p = ltb n (256 ^ 8) in
    let q = ltb z (256 ^ 8) in
    subst (λ (t : Read File). (file_form.fits t.value ≡ true) × (write_file t.value ++ t.rest ≡ bs)) j (
      both (p && q && ltb (length a) 256) (ltb (length b) 256) (both (p && q) (ltb (length a) 256) (both p q (lt-ltb n (256 ^ 8) e₁.0) (lt-ltb z (256 ^ 8) e₂.0)) (lt-ltb (length a) 256 e₃.0)) (lt-ltb (length b) 256 e₄.0),
      joined (bytes 8 n ++ bytes 8 z ++ write_key a) (write_key b) x₃ x₄ bs j₃ e₄.1,
    )

-- a file
file_says : (bs : List ℕ) (r : Read File) → are_bytes bs ≡ true → read_file bs ≡ some r → (file_form.fits r.value ≡ true) × (write_file r.value ++ r.rest ≡ bs)
unfolding read_file
file_says bs r h e = number (bind_says (read_number 8) (λ n. read_number 8 >>= λ z. read_key >>= λ a. read_key >>= λ b. give (record { number = n; size = z; smallest = a; largest = b })) bs r e)
  where
    Goal : Type 0
    Goal = (file_form.fits r.value ≡ true) × (write_file r.value ++ r.rest ≡ bs)

    largest : (n z : ℕ) (a : Key) (x₁ x₂ x₃ : List ℕ) → (n < 256 ^ 8) × (bytes 8 n ++ x₁ ≡ bs) → (z < 256 ^ 8) × (bytes 8 z ++ x₂ ≡ x₁) → (length a < 256) × (write_key a ++ x₃ ≡ x₂) → are_bytes x₃ ≡ true
        → (q : Read Key) × (read_key x₃ ≡ some q) × (give (record { number = n; size = z; smallest = a; largest = q.value }) q.rest ≡ some r) → Goal
    largest n z a x₁ x₂ x₃ e₁ e₂ e₃ h₃ s = file_whole n z a s.0.value bs x₁ x₂ x₃ s.0.rest e₁ e₂ e₃ (key_says x₃ s.0 h₃ s.1) r s.2

    smallest : (n z : ℕ) (x₁ x₂ : List ℕ) → (n < 256 ^ 8) × (bytes 8 n ++ x₁ ≡ bs) → (z < 256 ^ 8) × (bytes 8 z ++ x₂ ≡ x₁) → are_bytes x₂ ≡ true
        → (q : Read Key) × (read_key x₂ ≡ some q) × ((read_key >>= λ b. give (record { number = n; size = z; smallest = q.value; largest = b })) q.rest ≡ some r) → Goal
    smallest n z x₁ x₂ e₁ e₂ h₂ s =
        let e₃ = key_says x₂ s.0 h₂ s.1 in
        largest n z s.0.value x₁ x₂ s.0.rest e₁ e₂ e₃ (rest_bytes (write_key s.0.value) s.0.rest x₂ e₃.1 h₂)
        (bind_says read_key (λ b. give (record { number = n; size = z; smallest = s.0.value; largest = b })) s.0.rest r s.2)

    size : (n : ℕ) (x₁ : List ℕ) → (n < 256 ^ 8) × (bytes 8 n ++ x₁ ≡ bs) → are_bytes x₁ ≡ true
        → (q : Read ℕ) × (read_number 8 x₁ ≡ some q) × ((read_key >>= λ a. read_key >>= λ b. give (record { number = n; size = q.value; smallest = a; largest = b })) q.rest ≡ some r) → Goal
    size n x₁ e₁ h₁ s =
        let e₂ = number_says 8 x₁ s.0 h₁ s.1 in
        smallest n s.0.value x₁ s.0.rest e₁ e₂ (rest_bytes (bytes 8 s.0.value) s.0.rest x₁ e₂.1 h₁)
        (bind_says read_key (λ a. read_key >>= λ b. give (record { number = n; size = s.0.value; smallest = a; largest = b })) s.0.rest r s.2)

    number : (q : Read ℕ) × (read_number 8 bs ≡ some q) × ((read_number 8 >>= λ z. read_key >>= λ a. read_key >>= λ b. give (record { number = q.value; size = z; smallest = a; largest = b })) q.rest ≡ some r) → Goal
    number s =
        let e₁ = number_says 8 bs s.0 h s.1 in
        size s.0.value s.0.rest e₁ (rest_bytes (bytes 8 s.0.value) s.0.rest bs e₁.1 h)
        (bind_says (read_number 8) (λ z. read_key >>= λ a. read_key >>= λ b. give (record { number = s.0.value; size = z; smallest = a; largest = b })) s.0.rest r s.2)

-- it is exact
pub file_exact : Exact file_form
unfolding file_form
file_exact = record { exact = file_says }

-- ---- what follows a tag
-- the tag and the reader that it named
pub tag_says : {A : Type 0} (rs : List (Reader A)) (bs : List ℕ) (r : Read A) → are_bytes bs ≡ true → tagged rs bs ≡ some r
    → (t : ℕ) × (rest : List ℕ) × (bytes 1 t ++ rest ≡ bs) × (are_bytes rest ≡ true) × (get_or rs t unread rest ≡ some r)
unfolding tagged
tag_says rs bs r h e =
    let s = bind_says (read_number 1) (λ t. get_or rs t unread) bs r e in
    let x = number_says 1 bs s.0 h s.1 in
    (s.0.value, s.0.rest, x.1, rest_bytes (bytes 1 s.0.value) s.0.rest bs x.1 h, s.2)

-- with bytes after them they are not those bytes
longer_differs : (w : List ℕ) (b : ℕ) (rest bs : List ℕ) → w ++ b ∷ rest ≡ bs → same_bytes w bs ≡ false
longer_differs w b rest bs e = go (same_bytes w bs) refl
  where
    go : (t : Bool) → same_bytes w bs ≡ t → t ≡ false
    go true h =
        let q = same_eq w bs h in
        absurd (omega (arith, ap (λ (l : List ℕ). length l) (e ∙ sym q), length-append w (b ∷ rest)))
    go false h = refl

module _ {A : Type 0} (wr : A → List ℕ) (ft : A → Bool) where
  -- nothing more follows
  pub plain_exact : (a : A) (t : ℕ) → ft a ≡ true → wr a ≡ tag t [] → (bs rest : List ℕ) (r : Read A) → bytes 1 t ++ rest ≡ bs → give a rest ≡ some r → (ft r.value ≡ true) × (wr r.value ++ r.rest ≡ bs)
  unfolding give tag
  plain_exact a t f w bs rest r b e =
      let k : ◌≡◌ {A = Option (Read A)} (some (record { value = a; rest = rest })) (some r) = e in
      let j : ◌≡◌ {A = Read A} (record { value = a; rest = rest }) r = cc in
      subst (λ (z : Read A). (ft z.value ≡ true) × (wr z.value ++ z.rest ≡ bs)) j (f, rw (w, append-nil) b)

  -- a value of another form follows
  pub payload_exact : {B : Type 0} (f : Form B) → Exact f → (g : B → A) (t : ℕ) → ((b : B) → ft (g b) ≡ f.fits b) → ((b : B) → wr (g b) ≡ tag t (f.write b)) → (bs rest : List ℕ) (r : Read A)
      → bytes 1 t ++ rest ≡ bs → are_bytes rest ≡ true → got g f.read rest ≡ some r → (ft r.value ≡ true) × (wr r.value ++ r.rest ≡ bs)
  unfolding tag
  payload_exact f F g t i w bs rest r b h e =
      let q = got_says g f.read rest r e in
      let x = F.exact rest q.0 h q.1 in
      let v : g q.0.value ≡ r.value = q.2 in
      subst (λ (z : A). (ft z ≡ true) × (wr z ++ r.rest ≡ bs)) v
      (i q.0.value ∙ x.0, ap (λ (l : List ℕ). l ++ r.rest) (w q.0.value) ∙ joined (bytes 1 t) (f.write q.0.value) rest r.rest bs b (ap (λ (l : List ℕ). f.write q.0.value ++ l) (sym q.3) ∙ x.1))

  -- past the last tag nothing is read
  pub past_exact : {X : Type 0} (rs : List (Reader A)) (t : ℕ) (rest : List ℕ) (r : Read A) → length rs ≤ t → get_or rs t unread rest ≡ some r → X
  unfolding unread
  past_exact rs t rest r l e =
      let d : get_or rs t unread ≡ unread = get_or-eq_default rs unread l in
      let z : true ≡ false = cc (ap (λ (m : Reader A). m rest) d) in
      clash refl z

-- ---- reading to the last byte
module _ {A : Type 0} where
  -- the value, if nothing is left
  unfoldable pub wholly : Option (Read A) → Option A
  wholly none = none
  wholly (some r) = cond (is_empty r.rest) (some r.value) none

  -- of bytes, one pass to the last byte reads what the form reads
  pub parsed_wholly : (f : Form A) → Exact f → (bs : List ℕ) → are_bytes bs ≡ true → parsed f bs ≡ wholly (f.read bs)
  unfolding parsed taken wholly is_empty
  parsed_wholly f F bs h = go (f.read bs) refl
    where
      nothing_left : (r : Read A) → f.fits r.value ≡ true → f.write r.value ++ r.rest ≡ bs → (rest : List ℕ) → r.rest ≡ rest
          → cond (f.fits r.value && same_bytes (f.write r.value) bs) (some r.value) none ≡ cond (is_empty rest) (some r.value) none
      nothing_left r x y [] e =
          let w : f.write r.value ≡ bs = sym (append-nil (f.write r.value)) ∙ (rw e at y) in
          let s : same_bytes (f.write r.value) bs ≡ true = rw (← w) (eq_same (f.write r.value)) in
          rw (x, s)
      nothing_left r x y (b ∷ rest) e =
          let s : same_bytes (f.write r.value) bs ≡ false = longer_differs (f.write r.value) b rest bs (rw e at y) in
          rw (x, s)

      go : (o : Option (Read A)) → f.read bs ≡ o → taken f bs o ≡ wholly o
      go none e = refl
      go (some r) e = let x = F.exact bs r h e in nothing_left r x.0 x.1 r.rest refl
