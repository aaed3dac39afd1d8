-- Parts of a record where they stand: which bytes they take, and that bytes which hold several calls begin with the first. Assumes nothing.
use Rattle.std.specs.Prelude.{ℕ, suc, ◌+◌, ◌≤◌, ◌≡◌, refl, true, false, List, [], ◌∷◌, ◌++◌, map, length, take, drop}
use Rattle.std.proofs.Common.{ap, sym, ◌∙◌, subst, append_assoc, append-nil, length-append, length-drop, take_at, arith}
use Rattle.std.proofs.Math.Option.{Option, none, some}
use Rattle.std.proofs.Math.Pow.{are_bytes}
use Rattle.lemmas.specs.Order.{clash}
use Rattle.lemmas.specs.AreBytes.{bytes_drop}
use Rattle.lemmas.specs.Lists.{join}
use Rattle.lemmas.specs.ListLaws.{all_in, map_same}
use Rattle.lemmas.specs.Little.{bytes}
use Rattle.model.specs.Snapshot.{count_long, number_long, Read, Reader, ◌>>=◌, give, times}
use Rattle.model.proofs.Reading.{Reads, reads_times}
use Rattle.model_replay.specs.Given.{Given}
use Rattle.model_replay.specs.Form.{Form, num, got, pair, shaped, many, only}
use Rattle.model_replay.proofs.FormExactLaws.{bind_says, got_says, Exact}
use Rattle.model_replay.specs.Recording.{calls_long, setting_count, Asked, Recorded, Recording, asked_form, given_form, recorded_form, settings_form, recording_form, write_recording, recordable}
use Rattle.model_replay.proofs.RecordingExactLaws.{asked_exact, given_exact}
use Rattle.model_replay.proofs.RecordingLaws.{recorded_faithful}
use Rattle.model_replay.proofs.ReplayBytesLaws.{recordable_says}
use Rattle.model_replay.specs.Takes.{Takes, asked_takes, given_takes}
use Rattle.model_replay.proofs.TakesLaws.{Measures, asked_measured, given_measured}

-- ---- one part
-- bytes begin with a value: it takes so many of them, fits, and writes those very ones
pub record Part {A : Type 0} (f : Form A) (t : Takes) (bs : List ℕ) (a : A) : Type 0 where
  pub long : ℕ
  pub within : long ≤ length bs
  pub taken : t bs ≡ some long
  pub reads : f.read bs ≡ some (record { value = a; rest = drop long bs })
  pub fits : f.fits a ≡ true
  pub writes : f.write a ≡ take long bs

module _ {A : Type 0} (f : Form A) (t : Takes) (F : Exact f) (T : Measures t f.read) (bs : List ℕ) (b : are_bytes bs ≡ true) where
  -- what is read is such a value
  pub part_read : (q : Read A) → f.read bs ≡ some q → (p : Part f t bs q.value) × (q.rest ≡ drop p.long bs)
  part_read q e = go (t bs) refl
    where
      go : (o : Option ℕ) → t bs ≡ o → (p : Part f t bs q.value) × (q.rest ≡ drop p.long bs)
      go none h = let z : true ≡ false = cc (T.fails bs h) in clash refl z
      go (some n) h =
          let m = T.finds bs n h in
          let same : m.0 ≡ q = cc m.1 in
          let rest : q.rest ≡ drop n bs = ap (λ (x : Read A). x.rest) (sym same) ∙ m.2 in
          let x = F.exact bs q b e in
          let whole : f.write q.value ++ drop n bs ≡ bs = rw rest at x.1 in
          let l = m.3 in
          let long : length (f.write q.value) ≡ n = omega (arith, length-append (f.write q.value) (drop n bs), ap (λ (y : List ℕ). length y) whole, length-drop n bs) in (
            record {
              long = n;
              within = l;
              taken = h;
              reads = e ∙ ap (λ (y : List ℕ). some (record { value = q.value; rest = y })) rest;
              fits = x.0;
              writes = sym (take_at (f.write q.value) (drop n bs) n long) ∙ ap (take n) whole;
            },
            rest,
          )

-- ---- a call and its answer
-- bytes begin with a call, then its answer
pub record Entry (bs : List ℕ) (it : Recorded) : Type 0 where
  pub asked : Part asked_form asked_takes bs it.asked
  pub answer : Part given_form given_takes (drop asked.long bs) it.answer

-- what is read is such a call with its answer, and the rest follows it
pub entry_read : (bs : List ℕ) (q : Read Recorded) → are_bytes bs ≡ true → recorded_form.read bs ≡ some q → (p : Entry bs q.value) × (q.rest ≡ drop p.answer.long (drop p.asked.long bs))
unfolding recorded_form shaped pair
entry_read bs q b e =
    let u = got_says back both bs q e in
    call u.0 u.2 u.3 (bind_says asked_form.read (λ a. got (λ g. (a, g)) given_form.read) bs u.0 u.1)
  where
    Goal : Recorded → Type 0
    Goal it = (p : Entry bs it) × (q.rest ≡ drop p.answer.long (drop p.asked.long bs))

    back : Asked × Given → Recorded
    back t = record { asked = t.0; answer = t.1 }

    both : Reader (Asked × Given)
    both = asked_form.read >>= λ a. got (λ g. (a, g)) given_form.read

    answer : (a : Asked) (p : Part asked_form asked_takes bs a) (y : Read Given) → given_form.read (drop p.long bs) ≡ some y → y.rest ≡ q.rest → Goal (back (a, y.value))
    answer a p y r l =
        let g = part_read given_form given_takes given_exact given_measured (drop p.long bs) (bytes_drop p.long bs b) y r in
        (record { asked = p; answer = g.0 }, sym l ∙ g.1)

    call : (t : Read (Asked × Given)) → back t.value ≡ q.value → t.rest ≡ q.rest
        → (x : Read Asked) × (asked_form.read bs ≡ some x) × (got (λ g. (x.value, g)) given_form.read x.rest ≡ some t) → Goal q.value
    call t v l s =
        let x = s.0 in
        let w = got_says (λ g. (x.value, g)) given_form.read x.rest t s.2 in
        let p = part_read asked_form asked_takes asked_exact asked_measured bs b x s.1 in
        subst Goal (ap back w.2 ∙ v) (answer x.value p.0 w.0 (ap given_form.read (sym p.1) ∙ w.1) (w.3 ∙ l))

-- ---- several calls
-- bytes that hold several calls begin with the first and its answer, and hold the others after it
pub record First (n : ℕ) (bs : List ℕ) (r : Read (List Recorded)) : Type 0 where
  pub it : Recorded
  pub later : List Recorded
  pub all : r.value ≡ it ∷ later
  pub entry : Entry bs it
  pub others : times n recorded_form.read (drop entry.answer.long (drop entry.asked.long bs)) ≡ some (record { value = later; rest = r.rest })

-- so it is where one call more than n is read
pub first_read : (n : ℕ) (bs : List ℕ) (r : Read (List Recorded)) → are_bytes bs ≡ true → times (suc n) recorded_form.read bs ≡ some r → First n bs r
unfolding times got
first_read n bs r b e = go (bind_says recorded_form.read (λ a. times n recorded_form.read >>= λ as'. give (a ∷ as')) bs r e)
  where
    go : (q : Read Recorded) × (recorded_form.read bs ≡ some q) × (got (λ as'. q.value ∷ as') (times n recorded_form.read) q.rest ≡ some r) → First n bs r
    go s =
        let q = s.0 in
        let t = got_says (λ as'. q.value ∷ as') (times n recorded_form.read) q.rest r s.2 in
        let p = entry_read bs q b s.1 in
        record {
          it = q.value;
          later = t.0.value;
          all = sym t.2;
          entry = p.0;
          others = ap (times n recorded_form.read) (sym p.1) ∙ t.1 ∙ ap (λ (l : List ℕ). some (record { value = t.0.value; rest = l })) t.3;
        }

-- ---- the whole
-- a record part after part: the count of settings, both settings, the count of calls, the calls
pub record_parts : (r : Recording) → write_recording r
    ≡ bytes count_long setting_count ++ (bytes number_long r.settings.maximum ++ (bytes number_long r.settings.place ++ (bytes calls_long (length r.calls) ++ join (map recorded_form.write r.calls))))
unfolding write_recording recording_form settings_form only shaped pair many num join
record_parts r =
    let m = bytes number_long r.settings.maximum in
    let p = bytes number_long r.settings.place in
    let calls = bytes calls_long (length r.calls) ++ join (map recorded_form.write r.calls) in
    append_assoc (bytes count_long setting_count) (m ++ (p ++ [])) calls ∙ ap (λ (l : List ℕ). bytes count_long setting_count ++ l) (append_assoc m (p ++ []) calls ∙ ap (λ (l : List ℕ). m ++ (l ++ calls)) (append-nil p))

-- the calls are read to the last byte
pub calls_read : (r : Recording) → recordable r ≡ true → times (length r.calls) recorded_form.read (join (map recorded_form.write r.calls)) ≡ some (record { value = r.calls; rest = [] })
unfolding Reads
calls_read r h =
    let each = (all_in recorded_form.fits r.calls).0 ((recordable_says r).0 h).calls in
    let written = join (map recorded_form.write r.calls) in
    let reads = reads_times recorded_form.read recorded_form.write (λ x. x) r.calls (λ c m. recorded_faithful.back c (each c m)) [] in
    rw (append-nil written, map_same r.calls) at reads
