-- Whether bytes are a record, by its parts: the settings, the count of calls, the calls, and nothing after them. Assumes nothing.
use Rattle.std.specs.Prelude.{ℕ, ◌+◌, ◌^◌, ◌<◌, ◌≤◌, ◌≡◌, refl, Bool, cond, not, true, false, List, [], ◌∷◌, eqb, leb, ltb, length, take, drop}
use Rattle.std.proofs.Math.Path.{ap}
use Rattle.std.proofs.Common.{sym, ◌∙◌, arith, eqb-true, eq-eqb, ne_eqb, leb-true, lt-ltb, le-ltb, length-drop, drop-drop}
use Rattle.std.proofs.Math.Option.{Option, none, some}
use Rattle.std.proofs.Math.Pow.{are_bytes}
use Rattle.lemmas.specs.Order.{clash}
use Rattle.lemmas.specs.Lists.{is_empty}
use Rattle.lemmas.specs.Little.{number}
use Rattle.model.specs.Snapshot.{Read, onward, ◌>>=◌, give, times, read_number}
use Rattle.model_replay.specs.Form.{num, got, pair, shaped, many, unread, guarded, only}
use Rattle.model_replay.proofs.FormExactLaws.{times_long, wholly}
use Rattle.model_replay.specs.Recording.{Settings, Recording, calls_long, recorded_form, settings_form, recording_form}
use Rattle.model_replay.proofs.RecordingExactLaws.{record_wholly}
use Rattle.model_replay.specs.Takes.{Takes, more, on_taken, never, takes, and_then, repeated, counted, part_takes, entry_takes, settings_take}
use Rattle.model_replay.proofs.TakesLaws.{ended, number_measured, number_found, times_measured, entry_measured, settings_measured}
use Rattle.snapshot_parse.specs.Parsing.{number_in}
use Rattle.replay_scan.specs.declared.Passed.{Passed}
use Rattle.replay_scan.specs.Scan.{is_some, is_recording}
use Rattle.replay_scan.specs.ScanLaws.{Passes, Whole, Counts, missed, taken}

-- ---- what was taken
-- n bytes: there are as many, and as many are taken
pub takes_says : (w : ℕ) (bs : List ℕ) (n : ℕ) → takes w bs ≡ some n → (n ≡ w) × (w ≤ length bs)
unfolding takes
takes_says w bs n e = go (leb w (length bs)) refl e
  where
    go : (b : Bool) → leb w (length bs) ≡ b → cond b (some w) none ≡ some n → (n ≡ w) × (w ≤ length bs)
    go true h k = let d : w ≡ n = cc in (sym d, leb-true w (length bs) h)
    go false h k = let z : true ≡ false = cc in clash refl z

-- one part after another: both were taken
pub then_says : (f g : Takes) (bs : List ℕ) (n : ℕ) → and_then f g bs ≡ some n → (a : ℕ) × (b : ℕ) × (f bs ≡ some a) × (g (drop a bs) ≡ some b)
unfolding and_then on_taken more
then_says f g bs n e = go (f bs) refl e
  where
    rest : (a : ℕ) → f bs ≡ some a → (o : Option ℕ) → g (drop a bs) ≡ o → more a o ≡ some n → (a : ℕ) × (b : ℕ) × (f bs ≡ some a) × (g (drop a bs) ≡ some b)
    rest a h none d k = let z : true ≡ false = cc in clash refl z
    rest a h (some b) d k = (a, b, h, d)

    go : (o : Option ℕ) → f bs ≡ o → on_taken o bs (λ a. g) ≡ some n → (a : ℕ) × (b : ℕ) × (f bs ≡ some a) × (g (drop a bs) ≡ some b)
    go none h k = let z : true ≡ false = cc in clash refl z
    go (some a) h k = rest a h (g (drop a bs)) refl k

-- w bytes, then a part: the part begins after the w bytes
pub bytes_then : (w : ℕ) (g : Takes) (bs : List ℕ) (n : ℕ) → and_then (takes w) g bs ≡ some n → (b : ℕ) × (takes w bs ≡ some w) × (g (drop w bs) ≡ some b)
bytes_then w g bs n e =
    let t = then_says (takes w) g bs n e in
    let d = (takes_says w bs t.0 t.2).0 in
    (t.1, t.2 ∙ ap some d, ap (λ (a : ℕ). g (drop a bs)) (sym d) ∙ t.3)

-- a number is read where its bytes are taken
pub number_read : (w : ℕ) (bs : List ℕ) (n : ℕ) → takes w bs ≡ some n → read_number w bs ≡ some (record { value = number (take w bs); rest = drop n bs })
number_read w bs n e =
    let q = (number_measured w).finds bs n e in
    let v = number_found w bs q.0 q.1 in
    let r : drop n bs ≡ q.0.rest = sym q.2 in
    q.1 ∙ rw (v, r) refl

-- ---- the settings
-- a number of 8 bytes is a part with no keys
eight_then : (g : Takes) (bs : List ℕ) (n : ℕ) → and_then (part_takes 8 0) g bs ≡ some n → (b : ℕ) × (takes 8 bs ≡ some 8) × (g (drop 8 bs) ≡ some b)
unfolding and_then part_takes repeated
eight_then g bs n e = bytes_then 8 g bs n (ap (λ (o : Option ℕ). on_taken o bs (λ a. g)) (sym (ended (takes 8) bs)) ∙ e)

-- their bytes: the count, which is two, and two numbers
settings_bytes : (bs : List ℕ) (n : ℕ) → settings_take bs ≡ some n → (takes 2 bs ≡ some 2) × (number (take 2 bs) ≡ 2) × (takes 8 (drop 2 bs) ≡ some 8) × (takes 8 (drop 8 (drop 2 bs)) ≡ some 8)
unfolding settings_take counted and_then never repeated
settings_bytes bs n e =
    let t = bytes_then 2 (cond (eqb (number (take 2 bs)) 2) (repeated (number (take 2 bs)) (part_takes 8 0)) never) bs n e in
    let r = go (eqb (number (take 2 bs)) 2) refl t.0 t.2 in
    (t.1, r.0, r.1, r.2)
  where
    go : (t : Bool) → eqb (number (take 2 bs)) 2 ≡ t → (b : ℕ) → cond t (repeated (number (take 2 bs)) (part_takes 8 0)) never (drop 2 bs) ≡ some b
        → (number (take 2 bs) ≡ 2) × (takes 8 (drop 2 bs) ≡ some 8) × (takes 8 (drop 8 (drop 2 bs)) ≡ some 8)
    go true t b k =
        let two = eqb-true (number (take 2 bs)) 2 t in
        let u = eight_then (repeated 1 (part_takes 8 0)) (drop 2 bs) b (ap (λ (n : ℕ). repeated n (part_takes 8 0) (drop 2 bs)) (sym two) ∙ k) in
        let v = eight_then (repeated 0 (part_takes 8 0)) (drop 8 (drop 2 bs)) u.0 u.2 in
        (two, u.1, v.1)
    go false t b k = let z : true ≡ false = cc in clash refl z

-- the second number is their place
settings_read : (bs : List ℕ) (n : ℕ) → settings_take bs ≡ some n → (s : Read Settings) × (settings_form.read bs ≡ some s) × (s.rest ≡ drop n bs) × (s.value.place ≡ number_in 8 (drop 10 bs))
unfolding settings_form shaped only guarded many num got ◌>>=◌ onward times give number_in
settings_read bs n e =
    let t = settings_bytes bs n e in
    let q = settings_measured.finds bs n e in
    let s : Read Settings = record { value = record { maximum = number (take 8 (drop 2 bs)); place = number (take 8 (drop 8 (drop 2 bs))) }; rest = drop 8 (drop 8 (drop 2 bs)) } in
    let r : settings_form.read bs ≡ some s = rw (number_read 2 bs 2 t.0, t.1, number_read 8 (drop 2 bs) 8 t.2, number_read 8 (drop 8 (drop 2 bs)) 8 t.3) refl in
    let k : some s ≡ some q.0 = sym r ∙ q.1 in
    let j : s ≡ q.0 = cc in
    (s, r, ap (λ (x : Read Settings). x.rest) j ∙ q.2, ap (λ (l : List ℕ). number (take 8 l)) (drop-drop 8 2 bs))

-- there is a place for it
settings_long : (bs : List ℕ) (n : ℕ) → settings_take bs ≡ some n → 10 ≤ length bs
settings_long bs n e =
    let t = settings_bytes bs n e in
    omega (arith, (takes_says 2 bs 2 t.0).1, (takes_says 8 (drop 2 bs) 8 t.2).1, length-drop 2 bs)

-- ---- the record
-- a value that is tested is read wholly if it passes and nothing is left
tested : {A : Type 0} (t : Bool) (a : A) (l rest : List ℕ) → l ≡ rest → is_some (wholly (cond t (give a) unread l)) ≡ cond t (is_empty rest) false
unfolding give unread wholly is_some is_empty
tested false a l rest e = refl
tested true a l rest e = rw e (left rest)
  where
    left : (rest : List ℕ) → is_some (cond (is_empty rest) (some a) none) ≡ is_empty rest
    left [] = refl
    left (b ∷ rest) = refl

-- bytes from a place on are empty if it is their end
at_end : (bs : List ℕ) (at : ℕ) → at ≤ length bs → is_empty (drop at bs) ≡ eqb at (length bs)
unfolding is_empty
at_end bs at h = go (drop at bs) refl
  where
    go : (l : List ℕ) → drop at bs ≡ l → is_empty l ≡ eqb at (length bs)
    go [] e = sym (eq-eqb at (length bs) (omega (arith, h, length-drop at bs, ap (λ (l : List ℕ). length l) e)))
    go (b ∷ l) e = sym (ne_eqb at (length bs) (λ k. omega (arith, k, length-drop at bs, ap (λ (l : List ℕ). length l) e)))

module _ (bs : List ℕ) (are : are_bytes bs ≡ true) where
  -- one pass settles it
  by_reading : is_recording bs ≡ is_some (wholly (recording_form.read bs))
  unfolding is_recording
  by_reading = ap is_some (record_wholly bs are)

  -- no settings
  settings_missing : settings_take bs ≡ none → is_recording bs ≡ false
  unfolding recording_form only guarded shaped got pair ◌>>=◌ onward wholly is_some
  settings_missing e = by_reading ∙ rw (settings_measured.fails bs e)

  module _ (n : ℕ) (e : settings_take bs ≡ some n) where
    -- no count
    count_missing : takes calls_long (drop n bs) ≡ none → is_recording bs ≡ false
    unfolding recording_form only guarded shaped got pair many ◌>>=◌ onward wholly is_some
    count_missing h =
        let s = settings_read bs n e in
        by_reading ∙ rw (s.1, s.2, (number_measured calls_long).fails (drop n bs) h)

    module _ (k : ℕ) (h : takes calls_long (drop n bs) ≡ some k) where
      -- how many calls
      abbrev count : ℕ
      count = number_in calls_long (drop n bs)

      -- the bytes of the calls
      abbrev calls : List ℕ
      calls = drop k (drop n bs)

      -- no calls
      calls_missing : repeated count entry_takes calls ≡ none → is_recording bs ≡ false
      unfolding recording_form only guarded shaped got pair many ◌>>=◌ onward wholly is_some number_in
      calls_missing c =
          let s = settings_read bs n e in
          by_reading ∙ rw (s.1, s.2, number_read calls_long (drop n bs) k h, (times_measured count entry_measured).fails calls c)

      -- calls
      calls_read : (m : ℕ) → repeated count entry_takes calls ≡ some m → is_recording bs ≡ cond (ltb (number_in 8 (drop 10 bs) + count) (2 ^ 64)) (is_empty (drop m calls)) false
      unfolding recording_form only guarded shaped got pair many ◌>>=◌ onward wholly is_some give unread number_in
      calls_read m c =
          let s = settings_read bs n e in
          let q = (times_measured count entry_measured).finds calls m c in
          let r : Recording = record { settings = s.0.value; calls = q.0.value } in
          by_reading
          ∙ rw (s.1, s.2, number_read calls_long (drop n bs) k h, q.1, s.3, times_long recorded_form.read count calls q.0 q.1)
          (tested (ltb (number_in 8 (drop 10 bs) + count) (2 ^ 64)) r q.0.rest (drop m calls) q.2)

-- ---- the same by what passing the parts returns
-- no settings
pub no_settings : {src : List ℕ} → are_bytes src ≡ true → {r : Passed} → Passes src 0 settings_take r → not r.good ≡ true → false ≡ is_recording src
no_settings {src} are p b = sym (settings_missing src are (missed p b))

module _ {src : List ℕ} (are : are_bytes src ≡ true) {r : Passed} (w : Whole src 0 settings_take r) where
  -- where the settings end
  settings_end : settings_take src ≡ some r.at
  settings_end =
      let t = taken w in
      let k : t.0 ≡ r.at = omega (arith, t.2) in
      t.1 ∙ ap some k

  -- their place is within the bytes
  pub place_within : 10 ≤ length src
  place_within = settings_long src r.at settings_end

  -- no count
  pub no_count : {s : Passed} → Passes src r.at (takes calls_long) s → not s.good ≡ true → false ≡ is_recording src
  no_count p b = sym (count_missing src are r.at settings_end (missed p b))

  module _ {s : Passed} {c : ℕ} (k : Counts src r.at calls_long s c) where
    -- the bytes of the count
    long : (n : ℕ) × (takes calls_long (drop r.at src) ≡ some n) × (s.at ≡ r.at + n)
    long = taken k.whole

    -- the calls begin at its end
    calls_from : drop s.at src ≡ drop long.0 (drop r.at src)
    calls_from = ap (λ (at : ℕ). drop at src) long.2 ∙ sym (drop-drop long.0 r.at src)

    -- and are as many as it says
    calls_as : repeated (number_in calls_long (drop r.at src)) entry_takes (drop long.0 (drop r.at src)) ≡ repeated c entry_takes (drop s.at src)
    calls_as = rw (← calls_from, ← k.value)

    -- no calls
    pub no_calls : {t : Passed} → Passes src s.at (repeated c entry_takes) t → not t.good ≡ true → false ≡ is_recording src
    no_calls p b = sym (calls_missing src are r.at settings_end long.0 long.1 (calls_as ∙ missed p b))

    module _ (place : ℕ) (e : place ≡ number_in 8 (drop 10 src)) where
      -- calls
      settled : (m : ℕ) → repeated c entry_takes (drop s.at src) ≡ some m → is_recording src ≡ cond (ltb (place + c) (2 ^ 64)) (is_empty (drop m (drop s.at src))) false
      settled m h = calls_read src are r.at settings_end long.0 long.1 m (calls_as ∙ h) ∙ rw (← e, ← k.value, ← calls_from)

      -- a place past 64 bits
      pub too_far : 2 ^ 64 ≤ place + c → false ≡ is_recording src
      too_far h = sym (go (repeated c entry_takes (drop s.at src)) refl)
        where
          go : (o : Option ℕ) → repeated c entry_takes (drop s.at src) ≡ o → is_recording src ≡ false
          go none d = calls_missing src are r.at settings_end long.0 long.1 (calls_as ∙ d)
          go (some m) d = settled m d ∙ rw (le-ltb (place + c) (2 ^ 64) h)

      -- whole calls: a record if nothing follows them
      pub record_ends : {t : Passed} → Whole src s.at (repeated c entry_takes) t → place + c < 2 ^ 64 → eqb t.at (length src) ≡ is_recording src
      record_ends {t} v h =
          let n = taken v in
          let d : drop n.0 (drop s.at src) ≡ drop t.at src = drop-drop n.0 s.at src ∙ ap (λ (at : ℕ). drop at src) (sym n.2) in
          sym (settled n.0 n.1 ∙ rw (lt-ltb (place + c) (2 ^ 64) h, d) (at_end src t.at v.part.within))
