-- How many bytes a part takes is how many its reader takes. Assumes nothing.
use Prim.Native.Nat.{ℕ, zero, suc, ◌+◌, ◌<◌, ◌≤◌}
use Rattle.std.specs.Prelude.{◌≡◌, cond, true, false, eqb, leb, length, take}
use Rattle.std.proofs.Math.Path.{refl, subst}
use Rattle.std.proofs.Common.{ap, sym, ◌∙◌, leb-true, leb-false, le-leb, arith}
use Rattle.std.proofs.Math.Bool.{Bool}
use mathlib.Core.List.{List, [], ◌∷◌}
use Rattle.std.proofs.Math.Option.{Option, none, some}
use Rattle.std.proofs.lemmas.Bool.{lt-leb}
use Rattle.std.proofs.Math.ListN.{get_or, drop, length-drop}
use Rattle.std.proofs.Math.Seq.{drop-drop}
use Rattle.lemmas.specs.Order.{clash}
use Rattle.lemmas.specs.Little.{number}
use Rattle.model.specs.Snapshot.{byte_long, count_long, number_long, keys_at, Read, Reader, onward, ◌>>=◌, give, times, read_bytes, read_number, read_key, read_file}
use Rattle.model_replay.specs.Form.{Form, num, key_form, file_form, got, pair, shaped, many, unread, guarded, only, tagged}
use Rattle.model_replay.proofs.FormExactLaws.{times_long}
use Rattle.model_replay.specs.Recording.{setting_count, pointer_form, deletion_form, addition_form, log_form, edit_form, range_form, read_count, count_form, read_asked, asked_form, read_why, why_form, choice_form, read_given, given_form, recorded_form, settings_form}
use Rattle.model_replay.specs.Takes.{Takes, more, on_taken, never, takes, and_then, repeated, counted, tag_takes, key_takes, part_takes, section_takes, log_takes, edit_takes, count_takes, asked_takes, why_takes, choice_takes, given_takes, entry_takes, settings_take}

-- where a reader finds a value it takes so many bytes of those that are there, and where no bytes are taken it finds none
pub record Measures {A : Type 0} (f : Takes) (r : Reader A) : Type 0 where
  pub finds : (bs : List ℕ) (n : ℕ) → f bs ≡ some n → (q : Read A) × (r bs ≡ some q) × (q.rest ≡ drop n bs) × (n ≤ length bs)
  pub fails : (bs : List ℕ) → f bs ≡ none → r bs ≡ none

-- ---- at some bytes
module _ {A : Type 0} where
  -- nothing is taken and nothing is found, or a value is found and so many bytes are taken
  unfoldable Tells : List ℕ → Option ℕ → Option (Read A) → Type 0
  Tells bs none p = p ≡ none
  Tells bs (some n) p = (q : Read A) × (p ≡ some q) × (q.rest ≡ drop n bs) × (n ≤ length bs)

  -- a measure tells of all bytes
  tells : {f : Takes} {r : Reader A} → Measures f r → (bs : List ℕ) → Tells bs (f bs) (r bs)
  unfolding Tells
  tells {f} {r} m bs = go (f bs) refl
    where
      go : (o : Option ℕ) → f bs ≡ o → Tells bs o (r bs)
      go none e = m.fails bs e
      go (some n) e = m.finds bs n e

  -- what tells of all bytes is a measure
  told : (f : Takes) (r : Reader A) → ((bs : List ℕ) → Tells bs (f bs) (r bs)) → Measures f r
  unfolding Tells
  told f r t = record {
    finds = λ bs n e. subst (λ (o : Option ℕ). Tells bs o (r bs)) e (t bs);
    fails = λ bs e. subst (λ (o : Option ℕ). Tells bs o (r bs)) e (t bs);
  }

  -- a reader is measured by all that takes as many bytes
  alike_measured : {f : Takes} (g : Takes) {r : Reader A} → ((bs : List ℕ) → f bs ≡ g bs) → Measures f r → Measures g r
  alike_measured g {r} e m = told g r (λ bs. rw (← e bs) (tells m bs))

  -- what is told of the bytes after n is told of all, with n more
  later : (bs : List ℕ) (n : ℕ) → n ≤ length bs → (o : Option ℕ) (p : Option (Read A)) → Tells (drop n bs) o p → Tells bs (more n o) p
  unfolding Tells more
  later bs n l none p t = t
  later bs n l (some m) p t = let k = t.3 in (t.0, t.1, t.2 ∙ drop-drop m n bs, omega (arith, length-drop n bs))

-- ---- one reader after another
module _ {A B : Type 0} where
  -- what follows may depend on what was found
  onward_tells : (bs : List ℕ) (o : Option ℕ) (p : Option (Read A)) (g : ℕ → Takes) (s : A → Reader B) → Tells bs o p → ((n : ℕ) (q : Read A) → p ≡ some q → Measures (g n) (s q.value)) → Tells bs (on_taken o bs g) (onward p s)
  unfolding Tells on_taken onward
  onward_tells bs none p g s t m = rw t refl
  onward_tells bs (some n) p g s t m =
      let q = t.0 in
      let e : p ≡ some q = t.1 in
      let d : q.rest ≡ drop n bs = t.2 in
      rw (e, d) (later bs n t.3 (g n (drop n bs)) (s q.value (drop n bs)) (tells (m n q e) (drop n bs)))

  -- it takes as many bytes for each value that can be found
  then_measured : {f : Takes} {r : Reader A} (g : Takes) (s : A → Reader B) → Measures f r → ((bs : List ℕ) (q : Read A) → r bs ≡ some q → Measures g (s q.value)) → Measures (and_then f g) (r >>= s)
  unfolding and_then ◌>>=◌
  then_measured {f} {r} g s F G = told (and_then f g) (r >>= s) (λ bs. onward_tells bs (f bs) (r bs) (λ n. g) s (tells F bs) (λ n q. G bs q))

  -- it takes as many bytes for each value
  bind_measured : {f g : Takes} {r : Reader A} (s : A → Reader B) → Measures f r → ((a : A) → Measures g (s a)) → Measures (and_then f g) (r >>= s)
  bind_measured {f} {g} s F G = then_measured g s F (λ bs q e. G q.value)

-- ---- bytes
-- n bytes, where there are as many
enough : (n : ℕ) (bs : List ℕ) → n ≤ length bs → takes n bs ≡ some n
unfolding takes
enough n bs l = rw (le-leb n (length bs) l)

-- n bytes, where there are fewer
short : (n : ℕ) (bs : List ℕ) → length bs < n → takes n bs ≡ none
unfolding takes
short n bs l = rw (lt-leb n (length bs) l)

-- n bytes
bytes_measured : (n : ℕ) → Measures (takes n) (read_bytes n)
unfolding takes read_bytes Tells
bytes_measured n = told (takes n) (read_bytes n) (λ bs. go bs (leb n (length bs)) refl)
  where
    go : (bs : List ℕ) (b : Bool) → leb n (length bs) ≡ b → Tells bs (cond b (some n) none) (cond b (some (record { value = take n bs; rest = drop n bs })) none)
    go bs true e = (record { value = take n bs; rest = drop n bs }, refl, refl, leb-true n (length bs) e)
    go bs false e = refl

-- a value without a byte
give_measured : {A : Type 0} (a : A) → Measures (takes 0) (give a)
unfolding give Tells
give_measured a = told (takes 0) (give a) (λ bs. rw (enough 0 bs (omega arith)) (record { value = a; rest = bs }, refl, refl, omega arith))

-- nothing is read
unread_measured : {A : Type 0} → Measures never (unread {A = A})
unfolding never unread Tells
unread_measured = told never unread (λ bs. refl)

-- no byte after a part: the part
pub ended : (f : Takes) (bs : List ℕ) → and_then f (takes 0) bs ≡ f bs
unfolding and_then on_taken more
ended f bs = go (f bs)
  where
    go : (o : Option ℕ) → on_taken o bs (λ a. takes 0) ≡ o
    go none = refl
    go (some a) = let k : a + 0 ≡ a = omega arith in rw (enough 0 (drop a bs) (omega arith), k)

-- nothing after a part: nothing
stopped : (f : Takes) (bs : List ℕ) → and_then f never bs ≡ never bs
unfolding and_then on_taken more never
stopped f bs = go (f bs)
  where
    go : (o : Option ℕ) → on_taken o bs (λ a. never) ≡ none
    go none = refl
    go (some a) = refl

-- a reader is measured with no byte after it
ended_measured : {A : Type 0} {f : Takes} {r : Reader A} → Measures f r → Measures (and_then f (takes 0)) r
ended_measured {f} m = alike_measured (and_then f (takes 0)) (λ bs. sym (ended f bs)) m

-- ---- values in other shapes
-- a value in another shape
got_measured : {A B : Type 0} (g : A → B) {f : Takes} {r : Reader A} → Measures f r → Measures f (got g r)
unfolding got
got_measured g {f} F = alike_measured f (ended f) (bind_measured (λ a. give (g a)) F (λ a. give_measured (g a)))

-- a value that is tested, where the test says the same of each that can be found
guarded_measured : {A : Type 0} (ok : A → Bool) (b : Bool) {f : Takes} {r : Reader A} → Measures f r → ((bs : List ℕ) (q : Read A) → r bs ≡ some q → ok q.value ≡ b) → Measures (cond b f never) (guarded ok r)
unfolding guarded
guarded_measured {A} ok b {f} F h = alike_measured (cond b f never) (stops b) (then_measured (cond b (takes 0) never) (λ a. cond (ok a) (give a) unread) F (λ bs q e. rw (h bs q e) (either b q.value)))
  where
    stops : (b : Bool) (bs : List ℕ) → and_then f (cond b (takes 0) never) bs ≡ cond b f never bs
    stops true bs = ended f bs
    stops false bs = stopped f bs

    either : (b : Bool) (a : A) → Measures (cond b (takes 0) never) (cond b (give a) unread)
    either true a = give_measured a
    either false a = unread_measured

-- ---- numbers, and the parts that they ask for
-- a number of a width
pub number_measured : (w : ℕ) → Measures (takes w) (read_number w)
unfolding read_number got
number_measured w = got_measured number (bytes_measured w)

-- the number that is found
pub number_found : (w : ℕ) (bs : List ℕ) (q : Read ℕ) → read_number w bs ≡ some q → number (take w bs) ≡ q.value
unfolding read_number read_bytes ◌>>=◌ onward give
number_found w bs q e = go (leb w (length bs)) e
  where
    go : (b : Bool) → onward (cond b (some (record { value = take w bs; rest = drop w bs })) none) (λ l. give (number l)) ≡ some q → number (take w bs) ≡ q.value
    go true k =
        let j : ◌≡◌ {A = Read ℕ} (record { value = number (take w bs); rest = drop w bs }) q = cc in
        ap (λ (x : Read ℕ). x.value) j
    go false k = let z : true ≡ false = cc in clash refl z

module _ {A : Type 0} where
  -- a number, then the part that it asks for
  counted_measured : (w : ℕ) (f : ℕ → Takes) (s : ℕ → Reader A) → ((n : ℕ) → Measures (f n) (s n)) → Measures (counted w f) (read_number w >>= s)
  unfolding counted ◌>>=◌
  counted_measured w f s F = told (counted w f) (read_number w >>= s)
      (λ bs. onward_tells bs (takes w bs) (read_number w bs) (λ a. f (number (take w bs))) s (tells (number_measured w) bs) (λ n q e. rw (number_found w bs q e) (F q.value)))

  -- n parts one after another
  pub times_measured : (n : ℕ) {f : Takes} {r : Reader A} → Measures f r → Measures (repeated n f) (times n r)
  unfolding repeated times got
  times_measured zero F = give_measured []
  times_measured (suc n) {r} F = bind_measured (λ a. got (λ as'. a ∷ as') (times n r)) F (λ a. got_measured (λ as'. a ∷ as') (times_measured n F))

  -- readers that are measured place by place
  record Placed (fs : List Takes) (rs : List (Reader A)) : Type 0 where
    place : (t : ℕ) → Measures (get_or fs t never) (get_or rs t unread)

  -- no reader
  unplaced : Placed [] []
  unplaced = record { place = λ t. unread_measured }

  -- one before them
  placed : {f : Takes} {fs : List Takes} {r : Reader A} {rs : List (Reader A)} → Measures f r → Placed fs rs → Placed (f ∷ fs) (r ∷ rs)
  placed {f} {fs} {r} {rs} F P = record { place = go }
    where
      go : (t : ℕ) → Measures (get_or (f ∷ fs) t never) (get_or (r ∷ rs) t unread)
      go zero = F
      go (suc t) = P.place t

  -- a tag, then the part that it stands for
  tagged_measured : {fs : List Takes} {rs : List (Reader A)} → Placed fs rs → Measures (tag_takes fs) (tagged rs)
  unfolding tag_takes tagged
  tagged_measured {fs} {rs} P = counted_measured byte_long (λ t. get_or fs t never) (λ t. get_or rs t unread) P.place

-- ---- forms
module _ {A B : Type 0} where
  -- one after another
  pair_measured : {f g : Takes} (F : Form A) (G : Form B) → Measures f F.read → Measures g G.read → Measures (and_then f g) (pair F G).read
  unfolding pair
  pair_measured F G x y = bind_measured (λ a. got (λ b. (a, b)) G.read) x (λ a. got_measured (λ b. (a, b)) y)

  -- a value written as another that stands for it
  shaped_measured : {f : Takes} (out : B → A) (back : A → B) (F : Form A) → Measures f F.read → Measures f (shaped out back F).read
  unfolding shaped
  shaped_measured out back F x = got_measured back x

module _ {A : Type 0} where
  -- a section
  many_measured : {f : Takes} (w : ℕ) (F : Form A) → Measures f F.read → Measures (counted w (λ n. repeated n f)) (many w F).read
  unfolding many
  many_measured {f} w F x = counted_measured w (λ n. repeated n f) (λ n. times n F.read) (λ n. times_measured n x)

  -- a section whose count is tested
  only_measured : {f : Takes} (t : ℕ → Bool) (w : ℕ) (F : Form A) → Measures f F.read → Measures (counted w (λ n. cond (t n) (repeated n f) never)) (only (λ (as' : List A). t (length as')) (many w F)).read
  unfolding only many guarded ◌>>=◌ onward
  only_measured {f} t w F x = told tested (guarded ok (read_number w >>= λ n. times n F.read)) (λ bs. rw (← joins (read_number w bs)) (tells each bs))
    where
      ok : List A → Bool
      ok as' = t (length as')

      tested : Takes
      tested = counted w (λ n. cond (t n) (repeated n f) never)

      each : Measures tested (read_number w >>= λ n. guarded ok (times n F.read))
      each = counted_measured w (λ n. cond (t n) (repeated n f) never) (λ n. guarded ok (times n F.read)) (λ n. guarded_measured ok (t n) (times_measured n x) (λ bs q e. ap t (times_long F.read n bs q e)))

      joins : (p : Option (Read ℕ)) → onward p (λ n. guarded ok (times n F.read)) ≡ onward (onward p (λ n. times n F.read)) (λ as'. cond (ok as') (give as') unread)
      joins none = refl
      joins (some q) = refl

-- ---- widths
-- more and more
more_more : (a b : ℕ) (o : Option ℕ) → more a (more b o) ≡ more (a + b) o
unfolding more
more_more a b none = refl
more_more a b (some c) = let k : a + (b + c) ≡ a + b + c = omega arith in rw k

-- two widths one after another are one
wider : (a b : ℕ) (g : Takes) (bs : List ℕ) → and_then (takes a) (and_then (takes b) g) bs ≡ and_then (takes (a + b)) g bs
unfolding and_then on_taken more
wider a b g bs = go (leb (a + b) (length bs)) refl
  where
    few : (t : Bool) → leb a (length bs) ≡ t → length bs < a + b → on_taken (takes a bs) bs (λ n. and_then (takes b) g) ≡ none
    few true e l =
        let i = leb-true a (length bs) e in
        rw (enough a bs i, short b (drop a bs) (omega (arith, length-drop a bs)))
    few false e l = rw (short a bs (leb-false a (length bs) e))

    go : (t : Bool) → leb (a + b) (length bs) ≡ t → on_taken (takes a bs) bs (λ n. and_then (takes b) g) ≡ on_taken (takes (a + b) bs) bs (λ n. g)
    go true e =
        let i = leb-true (a + b) (length bs) e in
        let j : a ≤ length bs = omega arith in
        let k : b ≤ length (drop a bs) = omega (arith, length-drop a bs) in
        rw (enough a bs j, enough b (drop a bs) k, enough (a + b) bs i, drop-drop b a bs) (more_more a b (g (drop (a + b) bs)))
    go false e =
        let i = leb-false (a + b) (length bs) e in
        rw (short (a + b) bs i) (few (leb a (length bs)) refl i)

-- bytes before a part are a wider part
wider_measured : {A : Type 0} {r : Reader A} (a b k : ℕ) → Measures (and_then (takes a) (part_takes b k)) r → Measures (part_takes (a + b) k) r
unfolding part_takes
wider_measured a b k m = alike_measured (and_then (takes (a + b)) (repeated k key_takes)) (wider a b (repeated k key_takes)) m

-- ---- the parts
-- a key
pub key_measured : Measures key_takes read_key
unfolding key_takes read_key
key_measured = counted_measured byte_long takes read_bytes bytes_measured

-- the last key of a part
last_key_measured : Measures (repeated 1 key_takes) key_form.read
unfolding repeated key_form
last_key_measured = ended_measured key_measured

-- a number of 8 bytes
eight_measured : Measures (takes number_long) (num number_long).read
unfolding num
eight_measured = number_measured number_long

-- it is a part with no keys
eight_part_measured : Measures (part_takes number_long 0) (num number_long).read
unfolding part_takes repeated
eight_part_measured = ended_measured eight_measured

-- a pointer
pub pointer_measured : Measures (part_takes number_long 1) pointer_form.read
unfolding pointer_form part_takes
pointer_measured = shaped_measured _ _ _ (pair_measured _ _ eight_measured last_key_measured)

-- a deletion
pub deletion_measured : Measures (part_takes keys_at 0) deletion_form.read
unfolding deletion_form
deletion_measured = shaped_measured _ _ _ (wider_measured number_long number_long 0 (pair_measured _ _ eight_measured eight_part_measured))

-- a file
pub file_measured : Measures (part_takes keys_at 2) file_form.read
unfolding file_form read_file part_takes repeated
file_measured = wider_measured number_long number_long 2 (bind_measured _ (number_measured number_long) (λ n. bind_measured _ (number_measured number_long) (λ z. bind_measured _ key_measured (λ a. bind_measured _ key_measured (λ b. give_measured _)))))

-- an addition
pub addition_measured : Measures (part_takes (number_long + keys_at) 2) addition_form.read
unfolding addition_form
addition_measured = shaped_measured _ _ _ (wider_measured number_long keys_at 2 (pair_measured _ _ eight_measured file_measured))

-- a range
pub range_measured : Measures (part_takes number_long 2) range_form.read
unfolding range_form part_takes repeated key_form
range_measured = pair_measured _ _ eight_measured (pair_measured _ _ key_measured last_key_measured)

-- a log number
pub log_measured : Measures log_takes log_form.read
unfolding log_takes log_form
log_measured = shaped_measured _ _ _ (only_measured (λ n. leb n 1) count_long (num number_long) eight_part_measured)

-- an edit
pub edit_measured : Measures edit_takes edit_form.read
unfolding edit_takes edit_form section_takes
edit_measured =
    let pointers = many_measured count_long pointer_form pointer_measured in
    let deletions = many_measured count_long deletion_form deletion_measured in
    let additions = many_measured count_long addition_form addition_measured in
    shaped_measured _ _ _ (pair_measured _ _ pointers (pair_measured _ _ deletions (pair_measured _ _ additions log_measured)))

-- a counter call
pub count_measured : Measures count_takes count_form.read
unfolding count_takes count_form read_count
count_measured = tagged_measured (placed (give_measured _) (placed (got_measured _ eight_measured) (placed (got_measured _ eight_measured) (placed (got_measured _ eight_measured) (placed (got_measured _ eight_measured) (placed (got_measured _ eight_measured) unplaced))))))

-- ---- calls and answers
-- a call
pub asked_measured : Measures asked_takes asked_form.read
unfolding asked_takes asked_form read_asked
asked_measured = tagged_measured (placed (got_measured _ edit_measured) (placed (give_measured _) (placed (got_measured _ range_measured) (placed (got_measured _ count_measured) unplaced))))

-- a cause
why_measured : Measures why_takes why_form.read
unfolding why_takes why_form read_why
why_measured = tagged_measured (placed (got_measured _ eight_measured) (placed (give_measured _) unplaced))

-- a picked answer
choice_measured : Measures choice_takes choice_form.read
unfolding choice_takes choice_form section_takes
choice_measured =
    let files = many_measured count_long file_form file_measured in
    shaped_measured _ _ _ (pair_measured _ _ eight_measured (pair_measured _ _ why_measured (pair_measured _ _ eight_measured (pair_measured _ _ files (pair_measured _ _ files files)))))

-- an answer
pub given_measured : Measures given_takes given_form.read
unfolding given_takes given_form read_given num
given_measured = tagged_measured (placed (give_measured _) (placed (got_measured _ eight_measured) (placed (got_measured _ choice_measured) (placed (got_measured _ (number_measured byte_long)) unplaced))))

-- a call and its answer
pub entry_measured : Measures entry_takes recorded_form.read
unfolding entry_takes recorded_form
entry_measured = shaped_measured _ _ _ (pair_measured _ _ asked_measured given_measured)

-- the settings
pub settings_measured : Measures settings_take settings_form.read
unfolding settings_take settings_form
settings_measured = shaped_measured _ _ _ (only_measured (λ n. eqb n setting_count) count_long (num number_long) eight_part_measured)
