-- A replay call by call: what holds before each call, and what it comes to. Assumes nothing.
use Prim.Native.Nat.{ℕ, suc, ◌+◌, ◌-◌, ◌<◌, ◌≤◌}
use Rattle.std.specs.Prelude.{◌≡◌, true, false}
use Rattle.std.proofs.Math.Path.{refl, ap, sym, subst}
use Rattle.std.proofs.Common.{◌∙◌, length-drop, zero-add}
use mathlib.Core.List.{List, [], ◌∷◌, ◌++◌, map}
use Rattle.std.proofs.Math.Option.{Option, some}
use Rattle.std.proofs.Math.ListN.{length, take, drop, length-append}
use Rattle.std.proofs.Math.Pow.{are_bytes}
use Rattle.std.proofs.Math.Seq.{drop-drop, length-take-le}
use native.Mathlib.Omega.{arith}
use Rattle.lemmas.specs.Order.{clash}
use Rattle.lemmas.specs.Lists.{join}
use Rattle.lemmas.specs.AreBytes.{bytes_drop}
use Rattle.lemmas.specs.Little.{bytes, bytes_length}
use Rattle.model.specs.File.{State, full}
use Rattle.model.specs.Snapshot.{count_long, number_long, times, same_bytes}
use Rattle.model.proofs.SnapshotLaws.{full_fits}
use Rattle.model.proofs.Reading.{same_eq, eq_same}
use Rattle.model.proofs.Formed.{formed_says}
use Rattle.model.specs.History.{Call, after}
use Rattle.model_replay.specs.Given.{Given, given}
use Rattle.model_replay.specs.Form.{pair, shaped}
use Rattle.model_replay.proofs.FormLaws.{written_once}
use Rattle.model_replay.proofs.FormExactLaws.{times_long}
use Rattle.model_replay.specs.Recording.{calls_long, setting_count, asks_size, Recorded, Recording, call_of, asked_form, given_form, recorded_form, read_recording}
use Rattle.model_replay.proofs.RecordingLaws.{given_faithful, record_says}
use Rattle.model_replay.proofs.RecorderLaws.{given_fits}
use Rattle.model_replay.proofs.EntryLaws.{First, first_read, record_parts, calls_read}
use Rattle.model_replay.specs.Replay.{Mismatch, Outcome, ended, differs, replayed, replayed_from}
use Rattle.model_replay.proofs.ReplayLaws.{replayed_passes, replayed_stops}
use Rattle.model_replay.proofs.ReplayBytesLaws.{recordable_says, asked_words}
use Rattle.model_replay.specs.Takes.{asked_takes, given_takes}
use Rattle.snapshot_parse.specs.Parsing.{number_in}
use Rattle.snapshot_parse.specs.BackLaws.{number_back, number_past}
use Rattle.store.specs.declared.Store.{Store}
use Rattle.store.specs.Store.{state_of, store_of, well_store, StoreShape}
use Rattle.store.specs.StoreLaws.{held, held_shape, held_well, well_says}
use Rattle.replay_given.specs.Given.{given_bytes}
use Rattle.replay_call.specs.Call.{value_or, asked_in, made_by}
use Rattle.replay_call.specs.MadeLaws.{one_store, made_formed}
use Rattle.replay.specs.declared.Stop.{Stop}
use Rattle.replay.specs.declared.Halt.TheVariants as halt
use Rattle.replay.specs.Replaying.{maximum_at, place_at, count_at, first_at, answer_from, held_calls, held_place, recorded_at, played_from, Halts, Plays}

-- the settings and the count of a record, where code reads them
pub record Head (bs : List ℕ) (r : Recording) : Type 0 where
  pub maximum : number_in number_long (drop maximum_at bs) ≡ r.settings.maximum
  pub place : number_in number_long (drop place_at bs) ≡ r.settings.place
  pub count : number_in calls_long (drop count_at bs) ≡ length r.calls
  pub within : first_at ≤ length bs

-- the bytes of a record from each of these places on
record Parts (bs : List ℕ) (r : Recording) (calls : List ℕ) : Type 0 where
  maximum : drop maximum_at bs ≡ bytes number_long r.settings.maximum ++ (bytes number_long r.settings.place ++ (bytes calls_long (length r.calls) ++ calls))
  place : drop place_at bs ≡ bytes number_long r.settings.place ++ (bytes calls_long (length r.calls) ++ calls)
  count : drop count_at bs ≡ bytes calls_long (length r.calls) ++ calls
  first : drop first_at bs ≡ calls
  within : first_at ≤ length bs

-- bytes that are a record have these
parts_read : (bs : List ℕ) (r : Recording) → read_recording bs ≡ some r → Parts bs r (join (map recorded_form.write r.calls))
parts_read bs r h =
    let calls = join (map recorded_form.write r.calls) in
    let from_count = bytes calls_long (length r.calls) ++ calls in
    let from_place = bytes number_long r.settings.place ++ from_count in
    let from_maximum = bytes number_long r.settings.maximum ++ from_place in
    let whole : bs ≡ bytes count_long setting_count ++ from_maximum = sym ((record_says bs r).0 h).1 ∙ record_parts r in
    let maximum : drop maximum_at bs ≡ from_maximum = ap (drop maximum_at) whole ∙ number_past count_long setting_count from_maximum in
    let place : drop place_at bs ≡ from_place = sym (drop-drop number_long maximum_at bs) ∙ ap (drop number_long) maximum ∙ number_past number_long r.settings.maximum from_place in
    let count : drop count_at bs ≡ from_count = sym (drop-drop number_long place_at bs) ∙ ap (drop number_long) place ∙ number_past number_long r.settings.place from_count in
    let long : length from_count ≡ calls_long + length calls = length-append (bytes calls_long (length r.calls)) calls ∙ ap (λ (n : ℕ). n + length calls) (bytes_length calls_long (length r.calls)) in
    record {
      maximum = maximum;
      place = place;
      count = count;
      first = sym (drop-drop calls_long count_at bs) ∙ ap (drop calls_long) count ∙ number_past calls_long (length r.calls) calls;
      within = omega (arith, long, ap (λ (l : List ℕ). length l) count, length-drop count_at bs);
    }

-- bytes that are a record have them there
pub head_read : (bs : List ℕ) (r : Recording) → are_bytes bs ≡ true → read_recording bs ≡ some r → Head bs r
head_read bs r b h =
    let p = parts_read bs r h in
    let g = (recordable_says r).0 ((record_says bs r).0 h).0 in
    let i = g.places in
    record {
      maximum = ap (number_in number_long) p.maximum ∙ number_back number_long r.settings.maximum _ g.maximum;
      place = ap (number_in number_long) p.place ∙ number_back number_long r.settings.place _ (omega arith);
      count = ap (number_in calls_long) p.count ∙ number_back calls_long (length r.calls) _ g.few;
      within = p.within;
    }

-- before the call that i calls stand before: the store that they left is well-formed, the other calls stand from this place on, and the replay of those from here is the whole one
pub record Stands (bs : List ℕ) (s : Store) (r : Recording) (t : Store) (i at : ℕ) : Type 0 where
  pub within : at ≤ length bs
  pub well : well_store t ≡ true
  pub shape : StoreShape t
  pub few : i ≤ length r.calls
  pub later : List Recorded
  pub reads : times (length r.calls - i) recorded_form.read (drop at bs) ≡ some (record { value = later; rest = [] })
  pub same : replayed full r.settings.maximum (r.settings.place + i) (state_of t) later ≡ replayed_from full (state_of s) r
  pub placed : (j : ℕ) → answer_from first_at r.calls (i + j) ≡ answer_from at later j

module _ (bs : List ℕ) (b : are_bytes bs ≡ true) (s : Store) (w : well_store s ≡ true) (z : StoreShape s) (r : Recording) (h : read_recording bs ≡ some r) where
  -- before the first call
  pub stands_first : Stands bs s r s 0 first_at
  unfolding replayed_from
  stands_first =
      let p = parts_read bs r h in
      let n : length r.calls - 0 ≡ length r.calls = omega arith in
      let k : r.settings.place + 0 ≡ r.settings.place = omega arith in
      record {
        within = p.within;
        well = w;
        shape = z;
        few = omega arith;
        later = r.calls;
        reads = rw (n, p.first) (calls_read r ((record_says bs r).0 h).0);
        same = rw k;
        placed = λ j. ap (answer_from first_at r.calls) (zero-add j);
      }

  module _ (t : Store) (i at : ℕ) (st : Stands bs s r t i at) where
    -- where a call is left, one stands there, with its answer after it
    pub record Next : Type 0 where
      pub asked : ℕ
      pub takes_asked : asked_takes (drop at bs) ≡ some asked
      pub given_long : ℕ
      pub takes_given : given_takes (drop (at + asked) bs) ≡ some given_long
      pub ends : at + asked + given_long ≤ length bs

    -- the calls that are left begin with one
    first : i < length r.calls → First (length r.calls - suc i) (drop at bs) (record { value = st.later; rest = [] })
    first k =
        let n : length r.calls - i ≡ suc (length r.calls - suc i) = omega arith in
        first_read (length r.calls - suc i) (drop at bs) (record { value = st.later; rest = [] }) (bytes_drop at bs b) (rw n at st.reads)

    -- so one is found
    pub stands_next : i < length r.calls → Next
    stands_next k =
        let p = (first k).entry in
        let x = st.within in
        let y = p.asked.within in
        let z = p.answer.within in
        record {
          asked = p.asked.long;
          takes_asked = p.asked.taken;
          given_long = p.answer.long;
          takes_given = ap given_takes (sym (drop-drop p.asked.long at bs)) ∙ p.answer.taken;
          ends = omega (arith, length-drop at bs, length-drop p.asked.long (drop at bs));
        }

    -- that call and its answer, and that the others follow
    record Seen (n : Next) : Type 0 where
      it : Recorded
      others : List Recorded
      all : st.later ≡ it ∷ others
      asked : asked_in (drop at bs) ≡ it.asked
      asked_fits : asked_form.fits it.asked ≡ true
      asked_long : length (asked_form.write it.asked) ≡ n.asked
      answer_fits : given_form.fits it.answer ≡ true
      answer_writes : given_form.write it.answer ≡ take n.given_long (drop (at + n.asked) bs)
      answer_long : length (given_form.write it.answer) ≡ n.given_long
      reads : times (length r.calls - suc i) recorded_form.read (drop (at + n.asked + n.given_long) bs) ≡ some (record { value = others; rest = [] })

    -- it is seen wherever a call is left
    seen : i < length r.calls → (n : Next) → Seen n
    unfolding asked_in value_or
    seen k n =
        let f = first k in
        let x = f.entry.asked in
        let y = f.entry.answer in
        let a : x.long ≡ n.asked = cc (x.taken, n.takes_asked) in
        let from : drop x.long (drop at bs) ≡ drop (at + n.asked) bs = drop-drop x.long at bs ∙ ap (λ (m : ℕ). drop (at + m) bs) a in
        let taken : given_takes (drop (at + n.asked) bs) ≡ some y.long = ap given_takes (sym from) ∙ y.taken in
        let g : y.long ≡ n.given_long = cc (taken, n.takes_given) in
        let to : drop y.long (drop x.long (drop at bs)) ≡ drop (at + n.asked + n.given_long) bs = ap (drop y.long) from ∙ drop-drop y.long (at + n.asked) bs ∙ ap (λ (m : ℕ). drop (at + n.asked + m) bs) g in
        record {
          it = f.it;
          others = f.later;
          all = f.all;
          asked = ap (value_or asks_size) x.reads;
          asked_fits = x.fits;
          asked_long = ap (λ (l : List ℕ). length l) x.writes ∙ length-take-le x.long (drop at bs) x.within ∙ a;
          answer_fits = y.fits;
          answer_writes = y.writes ∙ ap (λ (l : List ℕ). take y.long l) from ∙ ap (λ (m : ℕ). take m (drop (at + n.asked) bs)) g;
          answer_long = ap (λ (l : List ℕ). length l) y.writes ∙ length-take-le y.long (drop x.long (drop at bs)) y.within ∙ g;
          reads = ap (times (length r.calls - suc i) recorded_form.read) (sym to) ∙ f.others;
        }

    -- the answer of every call that is made now fits a record
    answer_given : (c : Call) → given_form.fits (given full (state_of t) c) ≡ true
    answer_given c = given_fits full full_fits (unfold full in omega arith) (state_of t) ((formed_says full (state_of t)).0 ((well_says t).0 st.well).formed) c

    -- what is asked now is what is seen
    asks : (n : Next) (v : Seen n) → call_of r.settings.maximum (asked_in (drop at bs)) ≡ call_of r.settings.maximum v.it.asked
    asks n v = ap (call_of r.settings.maximum) v.asked

    -- where the bytes of the answer recorded are those of another that is given, the two are one
    answer_same : (n : Next) (v : Seen n) (c : Call) → same_bytes (take n.given_long (drop (at + n.asked) bs)) (given_bytes (given full (state_of t) c)) ≡ true → v.it.answer ≡ given full (state_of t) c
    answer_same n v c e =
        let g = given full (state_of t) c in
        written_once given_form given_faithful v.it.answer g v.answer_fits (answer_given c) (v.answer_writes ∙ same_eq (take n.given_long (drop (at + n.asked) bs)) (given_bytes g) e)

    -- where they are not, they are two
    answer_other : (n : Next) (v : Seen n) (c : Call) → same_bytes (take n.given_long (drop (at + n.asked) bs)) (given_bytes (given full (state_of t) c)) ≡ false → v.it.answer ≡ given full (state_of t) c → ⊥
    answer_other n v c e q =
        let l = take n.given_long (drop (at + n.asked) bs) in
        clash (subst (λ (x : List ℕ). same_bytes l x ≡ true) (sym v.answer_writes ∙ ap given_form.write q) (eq_same l)) e

    -- the place of the answer of a later call, by the calls that follow this one
    placed_later : (n : Next) (v : Seen n) (j : ℕ) → answer_from first_at r.calls (suc i + j) ≡ answer_from (at + n.asked + n.given_long) v.others j
    unfolding answer_from recorded_form shaped pair
    placed_later n v j =
        let k : suc i + j ≡ i + suc j = omega arith in
        let x = v.asked_long in
        let y = v.answer_long in
        let long : at + length (asked_form.write v.it.asked ++ given_form.write v.it.answer) ≡ at + n.asked + n.given_long = omega (arith, length-append (asked_form.write v.it.asked) (given_form.write v.it.answer)) in
        ap (answer_from first_at r.calls) k ∙ st.placed (suc j) ∙ ap (λ (l : List Recorded). answer_from at l (suc j)) v.all ∙ ap (λ (x : ℕ). answer_from x v.others j) long

    -- the answer recorded is the one that is given now: so it stands before the next call
    pub stands_same : (k : i < length r.calls) → let n = stands_next k in
        same_bytes (take n.given_long (drop (at + n.asked) bs)) (given_bytes (given full (state_of t) (call_of r.settings.maximum (asked_in (drop at bs))))) ≡ true
        → Stands bs s r (made_by t (call_of r.settings.maximum (asked_in (drop at bs)))).store (suc i) (at + n.asked + n.given_long)
    unfolding made_by
    stands_same k e =
        let n = stands_next k in
        let v = seen k n in
        let m = r.settings.maximum in
        let c = call_of m v.it.asked in
        let u = after full (state_of t) c in
        let same : v.it.answer ≡ given full (state_of t) c = answer_same n v c (subst (λ (x : Call). same_bytes (take n.given_long (drop (at + n.asked) bs)) (given_bytes (given full (state_of t) x)) ≡ true) (asks n v) e) in
        let formed = made_formed t c st.well (asked_words m v.it.asked [] (unfold asked_form in v.asked_fits) tt) in
        let p : r.settings.place + suc i ≡ suc (r.settings.place + i) = omega arith in
        subst (λ (x : Call). Stands bs s r (store_of (after full (state_of t) x)) (suc i) (at + n.asked + n.given_long)) (sym (asks n v)) record {
          within = n.ends;
          well = held_well u formed;
          shape = held_shape u formed;
          few = k;
          later = v.others;
          reads = v.reads;
          same = (λ j. replayed full m (p j) ((held u formed).0 j) v.others)
              ∙ sym (replayed_passes full m (r.settings.place + i) (state_of t) v.it v.others same)
              ∙ ap (replayed full m (r.settings.place + i) (state_of t)) (sym v.all)
              ∙ st.same;
          placed = placed_later n v;
        }

    -- it is another: so the replay halts here
    pub stands_other : (k : i < length r.calls) → let n = stands_next k in (here : Stop) (room : List ℕ)
        → same_bytes (take n.given_long (drop (at + n.asked) bs)) (given_bytes (given full (state_of t) (call_of r.settings.maximum (asked_in (drop at bs))))) ≡ false
        → here.calls ≡ i → here.from ≡ at + n.asked → here.to ≡ at + n.asked + n.given_long
        → here.length ≡ length (given_bytes (given full (state_of t) (call_of r.settings.maximum (asked_in (drop at bs)))))
        → take here.length room ≡ given_bytes (given full (state_of t) (call_of r.settings.maximum (asked_in (drop at bs))))
        → Plays s bs (halt.Differs here) room
    unfolding Plays played_from Halts recorded_at held_calls held_place answer_from
    stands_other k here room e f g j l q =
        let n = stands_next k in
        let v = seen k n in
        let m = r.settings.maximum in
        let p = r.settings.place in
        let c = call_of m (asked_in (drop at bs)) in
        let o = given full (state_of t) c in
        let o' = given full (state_of t) (call_of m v.it.asked) in
        let one : o ≡ o' = ap (given full (state_of t)) (asks n v) in
        let other : v.it.answer ≡ o' → ⊥ = λ x. answer_other n v c e (x ∙ sym one) in
        let stop : Mismatch = record { place = p + i; recorded = v.it.answer; given = o } in
        let comes : played_from (read_recording bs) (state_of s) ≡ differs stop
        = ap (λ (x : Option Recording). played_from x (state_of s)) h
        ∙ sym st.same
        ∙ ap (replayed full m (p + i) (state_of t)) v.all
        ∙ replayed_stops full m (p + i) (state_of t) v.it v.others other
        ∙ ap (λ (x : Given). differs (record { place = p + i; recorded = v.it.answer; given = x })) (sym one) in
        let back : p + i - p ≡ i + 0 = omega arith in
        let from : recorded_at bs stop ≡ at + n.asked
        = ap (λ (x : Option Recording). answer_from first_at (held_calls x) (p + i - held_place x)) h
        ∙ ap (answer_from first_at r.calls) back
        ∙ st.placed 0
        ∙ ap (λ (x : List Recorded). answer_from at x 0) v.all
        ∙ ap (λ (x : ℕ). at + x) v.asked_long in
        subst (λ (x : Outcome State). Halts bs x (halt.Differs here) room) (sym comes) (
          ap (λ (x : Option Recording). held_place x + here.calls) h ∙ ap (λ (x : ℕ). p + x) f,
          g ∙ sym from,
          j ∙ (λ x. sym from x + sym v.answer_long x),
          l,
          q,
        )

    -- no call is left: it has ended
    pub stands_last : i ≡ length r.calls → (room : List ℕ) → Plays s bs (halt.Ended t) room
    unfolding Plays played_from Halts replayed
    stands_last e room =
        let m = r.settings.maximum in
        let p = r.settings.place in
        let none_left : st.later ≡ [] = empty st.later (times_long recorded_form.read (length r.calls - i) (drop at bs) (record { value = st.later; rest = [] }) st.reads ∙ omega arith) in
        let comes : played_from (read_recording bs) (state_of s) ≡ ended (state_of t)
        = ap (λ (x : Option Recording). played_from x (state_of s)) h ∙ sym st.same ∙ ap (replayed full m (p + i) (state_of t)) none_left in
        subst (λ (x : Outcome State). Halts bs x (halt.Ended t) room) (sym comes) (one_store t st.shape st.well)
      where
        empty : {A : Type 0} (l : List A) → length l ≡ 0 → l ≡ []
        empty [] n = refl
        empty (x ∷ l) n = absurd (omega arith)
