-- Forms are faithful: what fits and is written reads back as it was, whatever follows it. Assumes nothing.
use Rattle.std.specs.Prelude.{ℕ, ◌^◌, ◌<◌, ◌≡◌, refl, ◌↔◌, cond, false, ◌&&◌, ltb, length, get_or}
use Rattle.std.proofs.Common.{sym, subst, ltb-true}
use Rattle.std.proofs.Math.Bool.{Bool, true}
use mathlib.Core.List.{List, [], ◌++◌, map, append-nil}
use Rattle.std.proofs.Math.Option.{Option, none, some}
use Rattle.lemmas.specs.Order.{clash}
use Rattle.lemmas.specs.Lists.{all, join}
use Rattle.lemmas.specs.ListLaws.{and_left, and_right, all_in, map_same}
use Rattle.lemmas.specs.Little.{bytes}
use Rattle.model.specs.Snapshot.{Read, Reader, give, times, read_number, same_bytes}
use Rattle.model.proofs.Reading.{same_eq, eq_same, Reads, then, gives_it, reads_as, reads_number, reads_key, reads_file, reads_times}
use Rattle.model_replay.specs.Form.{Form, num, key_form, file_form, got, pair, shaped, many, unread, guarded, only, tagged, tag, taken, parsed}

-- what fits and is written reads back, and what follows is left
pub record Faithful {A : Type 0} (f : Form A) : Type 0 where
  pub back : (a : A) → f.fits a ≡ true → Reads f.read (f.write a) a

-- ---- the parts
-- a number
pub num_faithful : (w : ℕ) → Faithful (num w)
unfolding num
num_faithful w = record { back = λ n h. reads_number w n (ltb-true n (256 ^ w) h) }

-- a key
pub key_faithful : Faithful key_form
unfolding key_form
key_faithful = record { back = λ k h. reads_key k (ltb-true (length k) 256 h) }

-- a file
pub file_faithful : Faithful file_form
unfolding file_form
file_faithful = record {
  back = λ f h.
      let a = ltb f.number (256 ^ 8) in
      let b = ltb f.size (256 ^ 8) in
      let c = ltb (length f.smallest) 256 in
      let d = ltb (length f.largest) 256 in
      let abc = and_left (a && b && c) d h in
      let ab = and_left (a && b) c abc in
      reads_file f record {
        number = ltb-true f.number (256 ^ 8) (and_left a b ab);
        size = ltb-true f.size (256 ^ 8) (and_right a b ab);
        smallest = ltb-true (length f.smallest) 256 (and_right (a && b) c abc);
        largest = ltb-true (length f.largest) 256 (and_right (a && b && c) d h);
      };
}

-- a value in another shape
pub reads_got : {A B : Type 0} (g : A → B) (r : Reader A) (w : List ℕ) (a : A) → Reads r w a → Reads (got g r) w (g a)
unfolding got
reads_got g r w a h = reads_as (got g r) (w ++ []) w (g a) (append-nil w) (then r (λ x. give (g x)) w [] a (g a) h (gives_it (g a)))

-- one after another
pub pair_faithful : {A B : Type 0} (f : Form A) (g : Form B) → Faithful f → Faithful g → Faithful (pair f g)
unfolding pair
pair_faithful f g F G = record {
  back = λ t h. then f.read (λ a. got (λ b. (a, b)) g.read) (f.write t.0) (g.write t.1) t.0 t
      (F.back t.0 (and_left (f.fits t.0) (g.fits t.1) h))
      (reads_got (λ b. (t.0, b)) g.read (g.write t.1) t.1 (G.back t.1 (and_right (f.fits t.0) (g.fits t.1) h)));
}

-- a value written as another, from which it comes back
pub shaped_faithful : {A B : Type 0} (out : B → A) (back : A → B) (f : Form A) → Faithful f → ((b : B) → f.fits (out b) ≡ true → back (out b) ≡ b) → Faithful (shaped out back f)
unfolding shaped
shaped_faithful out back f F e = record {
  back = λ b h. subst (λ (x : _). Reads (got back f.read) (f.write (out b)) x) (e b h) (reads_got back f.read (f.write (out b)) (out b) (F.back (out b) h));
}

-- a section
pub many_faithful : {A : Type 0} (w : ℕ) (f : Form A) → Faithful f → Faithful (many w f)
unfolding many
many_faithful w f F = record {
  back = λ xs h.
      let few = ltb-true (length xs) (256 ^ w) (and_left (ltb (length xs) (256 ^ w)) (all f.fits xs) h) in
      let each = (all_in f.fits xs).0 (and_right (ltb (length xs) (256 ^ w)) (all f.fits xs) h) in
      then (read_number w) (λ n. times n f.read) (bytes w (length xs)) (join (map f.write xs)) (length xs) xs
      (reads_number w (length xs) few)
      (subst (λ (ys : List _). Reads (times (length xs) f.read) (join (map f.write xs)) ys) (map_same xs) (reads_times f.read f.write (λ x. x) xs (λ a m. F.back a (each a m))));
}

-- fewer values
pub only_faithful : {A : Type 0} (q : A → Bool) (f : Form A) → Faithful f → Faithful (only q f)
unfolding only guarded
only_faithful q f F = record {
  back = λ a h.
      let t : q a ≡ true = and_right (f.fits a) (q a) h in
      reads_as (guarded q f.read) (f.write a ++ []) (f.write a) a (append-nil (f.write a))
      (then f.read (λ x. cond (q x) (give x) unread) (f.write a) [] a a (F.back a (and_left (f.fits a) (q a) h)) (rw t (gives_it a)));
}

-- what follows a tag
pub reads_tagged : {A : Type 0} (rs : List (Reader A)) (t : ℕ) (w : List ℕ) (a : A) → t < 256 → Reads (get_or rs t unread) w a → Reads (tagged rs) (tag t w) a
unfolding tagged tag
reads_tagged rs t w a i h = then (read_number 1) (λ t. get_or rs t unread) (bytes 1 t) w t a (reads_number 1 t i) h

-- ---- reading all of it
module _ {A : Type 0} (f : Form A) where
  -- what bytes read as fits and writes these very bytes
  pub parsed_sound : (bs : List ℕ) (a : A) → parsed f bs ≡ some a → (f.fits a ≡ true) × (f.write a ≡ bs)
  unfolding parsed taken
  parsed_sound bs a h = go (f.read bs) h
    where
      test : A → Bool
      test t = f.fits t && same_bytes (f.write t) bs

      pass : (t : A) (b : Bool) → test t ≡ b → cond b (some t) none ≡ some a → (f.fits a ≡ true) × (f.write a ≡ bs)
      pass t true e k =
          let q : t ≡ a = cc in
          subst (λ (u : A). (f.fits u ≡ true) × (f.write u ≡ bs)) q
          (and_left (f.fits t) (same_bytes (f.write t) bs) e, same_eq (f.write t) bs (and_right (f.fits t) (same_bytes (f.write t) bs) e))
      pass t false e k = let z : true ≡ false = cc in clash refl z

      go : (o : Option (Read A)) → taken f bs o ≡ some a → (f.fits a ≡ true) × (f.write a ≡ bs)
      go none k = let z : true ≡ false = cc in clash refl z
      go (some r) k = pass r.value (test r.value) refl k

  -- what fits is read back as it was written
  pub parsed_back : Faithful f → (a : A) → f.fits a ≡ true → parsed f (f.write a) ≡ some a
  unfolding parsed taken Reads
  parsed_back F a h =
      let r : f.read (f.write a) ≡ some (record { value = a; rest = [] }) = rw append-nil at (F.back a h []) in
      let b : same_bytes (f.write a) (f.write a) ≡ true = eq_same (f.write a) in
      rw (r, taken, h, b)

  -- so bytes are of the form exactly if some value that fits writes them
  pub parsed_says : Faithful f → (bs : List ℕ) (a : A) → parsed f bs ≡ some a ↔ ((f.fits a ≡ true) × (f.write a ≡ bs))
  parsed_says F bs a = (λ h. parsed_sound bs a h, λ h. subst (λ (x : List ℕ). parsed f x ≡ some a) h.1 (parsed_back F a h.0))

  -- two values that fit write the same bytes only if they are one
  pub written_once : Faithful f → (a b : A) → f.fits a ≡ true → f.fits b ≡ true → f.write a ≡ f.write b → a ≡ b
  written_once F a b h k e =
      let p : parsed f (f.write a) ≡ some a = parsed_back F a h in
      let q : parsed f (f.write a) ≡ some b = subst (λ (x : List ℕ). parsed f x ≡ some b) (sym e) (parsed_back F b k) in
      cc
