-- What the proofs of the code cite: the turns of a replay's loop, its first difference, its end. Assumes nothing.
use Prim.Native.Nat.{ℕ, suc, ◌+◌, ◌-◌, ◌^◌, ◌<◌, ◌≤◌}
use Rattle.std.specs.Prelude.{◌≡◌, Bool, true, false, drop, replicate, Result, Ok, Err}
use Rattle.std.specs.Result.{result_unwrap_or}
use Rattle.std.proofs.Math.Path.{refl, ap, sym, subst}
use Rattle.std.proofs.Common.{◌∙◌, take_all}
use mathlib.Core.List.{List, ◌++◌}
use Rattle.std.proofs.Math.Option.{Option, none, some}
use Rattle.std.proofs.Math.ListN.{length, take, length-take}
use Rattle.std.proofs.lemmas.List.{length-replicate}
use Rattle.std.proofs.Math.Pow.{are_bytes}
use Rattle.std.proofs.Math.Seq.{take_at}
use native.Mathlib.Omega.{arith}
use Rattle.lemmas.specs.Order.{clash}
use Rattle.lemmas.specs.Slices.{put, put_front, length_put}
use Rattle.model.specs.Answer.{Answer, gives, refused, on_answer, lent}
use Rattle.model.specs.File.{State, full}
use Rattle.model.proofs.Formed.{WF, formed_says}
use Rattle.model.proofs.Reading.{decode_sound}
use Rattle.model.specs.Edit.{edit}
use Rattle.model.specs.Calls as calls
use Rattle.model.specs.Counters.{new, reuse, mark, last, manifest, previous}
use Rattle.model.specs.Pick.{size_pick, manual_pick}
use Rattle.model.specs.Snapshot.{number_long, same_bytes, decode}
use Rattle.model.specs.History.{Call, edits, picks_size, picks_range, counts}
use Rattle.model_replay.specs.Replay.{Mismatch, Outcome, ended, differs, replayed_from, concluded, replay_of, replay, leaves}
use Rattle.model_replay.proofs.ReplayLaws.{replayed_ends, replayed_differs}
use Rattle.model_replay.proofs.ReplayBytesLaws.{left_formed, read_fits, read_both, place_fits}
use Rattle.model_replay.specs.Given.{Given, given}
use Rattle.model_replay.specs.Held.{held_key}
use Rattle.model_replay.specs.Recording.{calls_long, previous_tag, Recording, call_of, read_recording}
use Rattle.model_replay.specs.Takes.{asked_takes, given_takes}
use Rattle.answers.specs.Outcome.{number_of, refusal_of, result_of, answer_of, filling}
use Rattle.answers.specs.OutcomeLaws.{refusal_of_number}
use Rattle.answers.specs.declared.Refusal.{Refusal}
use Rattle.answers.specs.declared.Refusal.TheVariants.{Form, Record}
use Rattle.keys.specs.Key.{key_of, key_record, laid}
use Rattle.edit.specs.Edit.{edit_of}
use Rattle.pick_answer.specs.declared.Pick.{Pick}
use Rattle.pick_answer.specs.Picked.{pick_of}
use Rattle.store.specs.StoreLaws.{held, held_well, well_says, on_store_well}
use Rattle.store.specs.declared.Store.{Store}
use Rattle.store.specs.Store.{state_of, store_of, well_store, on_store, stored, StoreShape}
use Rattle.store_numbers.specs.declared.Handed.{Handed}
use Rattle.store_numbers.specs.Numbering.{handed}
use Rattle.snapshot_parse.specs.Parsing.{number_in}
use Rattle.snapshot_write.specs.Writing.{snapshot_of}
use Rattle.replay_scan.specs.declared.Passed.{Passed}
use Rattle.replay_scan.specs.Scan.{passed_by, is_some, is_recording}
use Rattle.replay_given.specs.Given.{given_bytes, plain_given, handed_given, picked_given, longest_given}
use Rattle.replay_call.specs.declared.Made.{Made}
use Rattle.replay_call.specs.Call.{Begins, asked_in, edit_record, count_of, counted_by, made_by, answered}
use Rattle.replay_call.specs.MadeLaws.{Makes, valued, numbered, MakesPick, edit_made, size_made, range_made, new_made, count_made}
use Rattle.replay_call.specs.StepLaws.{plain_fits, handed_fits, picked_fits}
use Rattle.replay.specs.declared.Stop.{Stop}
use Rattle.replay.specs.declared.Halt.TheVariants as halt
use Rattle.replay.specs.declared.Played.{Played}
use Rattle.replay.specs.declared.Played.TheVariants as played
use Rattle.replay.specs.declared.Difference.{Difference}
use Rattle.replay.specs.Replaying.{maximum_at, place_at, count_at, first_at, held_place, room_with, played_from, Halts, Plays, differs_by, played_of, replayed_of}
use Rattle.replay.specs.PlayLaws.{head_read, Stands, stands_first, Next, stands_next, stands_same, stands_other, stands_last}

-- ---- an answer has room
module _ (s : Store) (q : StoreShape s) (w : well_store s ≡ true) (room : List ℕ) (h : longest_given ≤ length room) where
  -- what a call is known to give has room
  gave_fits : (c : Call) (t : Store) (g : Given) → Makes s c t g → 0 + length (given_bytes g) ≤ length room → length (given_bytes (given full (state_of s) c)) ≤ length room
  gave_fits c t g m k = omega (arith, k, ap (λ (g : Given). length (given_bytes g)) m.gave)

  -- so has a pick's answer
  pick_fits : (c : Call) (r : Result Pick Refusal) → MakesPick s c r → length (given_bytes (given full (state_of s) c)) ≤ length room
  pick_fits c r m = let o = numbered (λ (k : Pick). k.picked) r in gave_fits c (result_unwrap_or (valued (λ (k : Pick). k.store) r) s) (picked_given o) m.made (picked_fits o room m.tells h)

  -- and that of a counter call but new
  count_fits : (tag n : ℕ) → 1 ≤ tag → tag ≤ previous_tag → length (given_bytes (given full (state_of s) (counts (count_of tag n)))) ≤ length room
  count_fits tag n a b =
      let r = counted_by s tag n in
      let o = numbered (λ (t : Store). tt) r in
      gave_fits (counts (count_of tag n)) (result_unwrap_or r s) (plain_given o) (count_made s tag n a b q w) (plain_fits o room h)

  -- the answer of every call has room
  pub answer_fits : (c : Call) → length (given_bytes (given full (state_of s) c)) ≤ length room
  unfolding count_of
  answer_fits (edits e) =
      let r = stored (on_store s (λ t. edit full t (edit_of (edit_record e)))) in
      let o = numbered (λ (t : Store). tt) r in
      gave_fits (edits e) (result_unwrap_or r s) (plain_given o) (edit_made s e q w) (plain_fits o room h)
  answer_fits (picks_size m) = pick_fits (picks_size m) (pick_of (on_store s (λ t. size_pick full t m))) (size_made s m q w)
  answer_fits (picks_range m l a b) =
      pick_fits (picks_range m l a b) (pick_of (on_store s (λ t. manual_pick full t m l (key_of (key_record (held_key full a))) (key_of (key_record (held_key full b)))))) (range_made s m l a b q w)
  answer_fits (counts new) =
      let r = handed (on_store s (calls.new_number full)) in
      let o = numbered (λ (h : Handed). h.number) r in
      gave_fits (counts new) (result_unwrap_or (valued (λ (h : Handed). h.store) r) s) (handed_given o) (new_made s q w) (handed_fits o room h)
  answer_fits (counts (reuse n)) = count_fits 1 n (omega arith) (omega arith)
  answer_fits (counts (mark n)) = count_fits 2 n (omega arith) (omega arith)
  answer_fits (counts (last n)) = count_fits 3 n (omega arith) (omega arith)
  answer_fits (counts (manifest n)) = count_fits 4 n (omega arith) (omega arith)
  answer_fits (counts (previous n)) = count_fits 5 n (omega arith) (omega arith)

-- ---- the loop
-- bytes that are a record are read as one
pub recording_read : (bs : List ℕ) → is_recording bs ≡ true → (r : Recording) × (read_recording bs ≡ some r)
unfolding is_recording is_some
recording_read bs h = go (read_recording bs) refl h
  where
    go : (o : Option Recording) → read_recording bs ≡ o → is_some o ≡ true → (r : Recording) × (read_recording bs ≡ some r)
    go none e k = clash k refl
    go (some r) e k = (r, e)

-- before each turn: the bytes are a record with this maximum and so many calls, there is room for an answer, and it stands before the call that i calls stand before
pub record PlayedTo (bs : List ℕ) (s : Store) (maximum n : ℕ) (room₀ room : List ℕ) (t : Store) (at i : ℕ) : Type 0 where
  pub recording : Recording
  pub reads : read_recording bs ≡ some recording
  pub are_bytes_lem : are_bytes bs ≡ true
  pub well : well_store s ≡ true
  pub shape : StoreShape s
  pub largest : maximum ≡ recording.settings.maximum
  pub count : n ≡ length recording.calls
  pub kept : length room ≡ length room₀
  pub has_room : longest_given ≤ length room
  pub stands : Stands bs s recording t i at

-- the settings and the count of calls are within bytes that are a record
pub head_within : (bs : List ℕ) → are_bytes bs ≡ true → is_recording bs ≡ true → first_at ≤ length bs
head_within bs b h = let r = recording_read bs h in (head_read bs r.0 b r.1).within

-- it holds before the first
pub play_begins : (bs : List ℕ) (s : Store) (maximum n : ℕ) (room : List ℕ) → are_bytes bs ≡ true → StoreShape s → (well_store s ≡ true) × (is_recording bs ≡ true) × (longest_given ≤ length room)
    → maximum ≡ number_in number_long (drop maximum_at bs) → n ≡ number_in calls_long (drop count_at bs) → PlayedTo bs s maximum n room room s first_at 0
play_begins bs s maximum n room b z p e f =
    let r = recording_read bs p.1 in
    let d = head_read bs r.0 b r.1 in
    record {
      recording = r.0;
      reads = r.1;
      are_bytes_lem = b;
      well = p.0;
      shape = z;
      largest = e ∙ d.maximum;
      count = f ∙ d.count;
      kept = refl;
      has_room = p.2;
      stands = stands_first bs b s p.0 z r.0 r.1;
    }

module _ {bs : List ℕ} {s : Store} {maximum n : ℕ} {room₀ room : List ℕ} {t : Store} {at i : ℕ} (l : PlayedTo bs s maximum n room₀ room t at i) where
  -- no call is left: it has ended
  pub play_ends : i ≡ n → Plays s bs (halt.Ended t) room
  play_ends e =
      stands_last bs l.are_bytes_lem s l.well l.shape l.recording l.reads t i at l.stands (e ∙ l.count) room

  module _ (k : i < n) where
    -- one is left
    left : i < length l.recording.calls
    left = omega (arith, l.count)

    -- where it stands, and its answer
    next : Next bs l.are_bytes_lem s l.well l.shape l.recording l.reads t i at l.stands
    next = stands_next bs l.are_bytes_lem s l.well l.shape l.recording l.reads t i at l.stands left

    -- a call is there
    pub call_begins : Begins asked_takes bs at
    call_begins = record { within = l.stands.within; long = next.asked; whole = next.takes_asked }

    -- the call, as code makes it
    abbrev call : Call
    call = call_of maximum (asked_in (drop at bs))

    -- the bytes of its answer
    abbrev answer : List ℕ
    answer = given_bytes (given full (state_of t) call)

    -- the same, by the record's own maximum
    answer_is : answer ≡ given_bytes (given full (state_of t) (call_of l.recording.settings.maximum (asked_in (drop at bs))))
    answer_is = ap (λ (m : ℕ). given_bytes (given full (state_of t) (call_of m (asked_in (drop at bs))))) l.largest

    -- it has room
    fits : length answer ≤ length room
    fits = answer_fits t l.stands.shape l.stands.well room l.has_room call

    module _ {a g : Passed} (ea : a ≡ passed_by at (asked_takes (drop at bs))) (eg : g ≡ passed_by a.at (given_takes (drop a.at bs))) where
      -- where the answer begins
      begins_at : a.at ≡ at + next.asked
      unfolding passed_by
      begins_at = ap (λ (q : Passed). q.at) (ea ∙ ap (passed_by at) next.takes_asked)

      -- and where it ends
      ends_at : g.at ≡ at + next.asked + next.given_long
      unfolding passed_by
      ends_at =
          let e : g ≡ passed_by (at + next.asked) (given_takes (drop (at + next.asked) bs)) = eg ∙ ap (λ (x : ℕ). passed_by x (given_takes (drop x bs))) begins_at in
          ap (λ (q : Passed). q.at) (e ∙ ap (passed_by (at + next.asked)) next.takes_given)

      -- it begins before it ends
      pub in_order_lem : a.at ≤ g.at
      in_order_lem = omega (arith, begins_at, ends_at)

      module _ {made : Made} {room' : List ℕ} (made_is : (made ≡ made_by t call) × (room' ≡ answered t call room)) where
        -- the length that code returns
        long : made.length ≡ length answer
        unfolding made_by
        long = ap (λ (m : Made). m.length) made_is.0

        -- the room stays as long
        pub room_kept : length room' ≡ length room
        unfolding answered
        room_kept = ap (λ (x : List ℕ). length x) made_is.1 ∙ length_put room 0 answer (omega (arith, fits))

        -- the answer is within it
        pub answer_within : made.length ≤ length room'
        answer_within = omega (arith, fits, long, room_kept)

        -- it stands at its start
        pub shown : (k : ℕ) → k ≡ made.length → take k room' ≡ answer
        unfolding answered
        shown k e = ap (take k) (made_is.1 ∙ put_front room answer) ∙ take_at answer (drop (length answer) room) k (omega (arith, e, long))

        -- what is compared: the recorded answer and this one
        compared : same_bytes (take (g.at - a.at) (drop a.at bs)) (take (made.length - 0) room')
            ≡ same_bytes (take next.given_long (drop (at + next.asked) bs)) (given_bytes (given full (state_of t) (call_of l.recording.settings.maximum (asked_in (drop at bs)))))
        compared =
            let d : g.at - a.at ≡ next.given_long = omega (arith, begins_at, ends_at) in
            let o = shown (made.length - 0) (omega arith) ∙ answer_is in
            λ j. same_bytes (take (d j) (drop (begins_at j) bs)) (o j)

        -- they are the same: the next turn
        pub play_turns : {b : Bool} → b ≡ same_bytes (take (g.at - a.at) (drop a.at bs)) (take (made.length - 0) room') → b ≡ true → PlayedTo bs s maximum n room₀ room' made.store g.at (i + 1)
        unfolding made_by next
        play_turns e h =
            let st = stands_same bs l.are_bytes_lem s l.well l.shape l.recording l.reads t i at l.stands left (sym compared ∙ sym e ∙ h) in
            let left_is : (made_by t (call_of l.recording.settings.maximum (asked_in (drop at bs)))).store ≡ made.store
            = ap (λ (m : ℕ). (made_by t (call_of m (asked_in (drop at bs)))).store) (sym l.largest) ∙ ap (λ (m : Made). m.store) (sym made_is.0) in
            let next_i : suc i ≡ i + 1 = omega arith in
            record {
              recording = l.recording;
              reads = l.reads;
              are_bytes_lem = l.are_bytes_lem;
              well = l.well;
              shape = l.shape;
              largest = l.largest;
              count = l.count;
              kept = room_kept ∙ l.kept;
              has_room = omega (arith, l.has_room, room_kept);
              stands = subst (λ (x : ℕ). Stands bs s l.recording made.store (i + 1) x) (sym ends_at) (subst (λ (x : ℕ). Stands bs s l.recording made.store x (at + next.asked + next.given_long)) next_i (subst (λ (x : Store). Stands bs s l.recording x (suc i) (at + next.asked + next.given_long)) left_is st));
            }

        -- they are not: it halts
        pub play_halts : {b : Bool} → b ≡ same_bytes (take (g.at - a.at) (drop a.at bs)) (take (made.length - 0) room') → b ≡ false
            → Plays s bs (halt.Differs (record { calls = i; from = a.at; to = g.at; length = made.length })) room'
        unfolding next
        play_halts e h =
            stands_other bs l.are_bytes_lem s l.well l.shape l.recording l.reads t i at l.stands left
            (record { calls = i; from = a.at; to = g.at; length = made.length }) room' (sym compared ∙ sym e ∙ h) refl begins_at ends_at
            (long ∙ ap (λ (x : List ℕ). length x) answer_is) (shown made.length refl ∙ answer_is)

-- ---- the answer
-- bytes that are laid where they have room stand at the start
laid_put : (src out : List ℕ) → length src ≤ length out → laid src out ≡ put out 0 src
unfolding laid
laid_put src out h = ap (λ (l : List ℕ). l ++ drop (length src) out) (take_all (length out) src h) ∙ sym (put_front out src)

-- the first difference, handed over
pub differs_is : (place from to n : ℕ) (answer own own' : List ℕ) → length answer ≤ longest_given → own ≡ replicate longest_given 0 → own' ≡ laid answer own → n ≡ length answer
    → ◌≡◌ {A = Difference} (record { place = place; given = own'; given_length = n; from = from; to = to }) (differs_by place from to answer)
unfolding differs_by room_with
differs_is place from to n answer own own' h z e d =
    let long : length own ≡ longest_given = ap (λ (l : List ℕ). length l) z ∙ length-replicate {A = ℕ} longest_given 0 in
    let g : own' ≡ put (replicate longest_given 0) 0 answer = e ∙ laid_put answer own (omega (arith, long)) ∙ ap (λ (l : List ℕ). put l 0 answer) z in
    λ i. record { place = place; given = g i; given_length = d i; from = from; to = to }

-- ---- the public call
-- what a replay answers and leaves in the lent output, as code does
abbrev pub Says : List ℕ → Answer (Outcome (List ℕ)) → List ℕ → Result Played Refusal → List ℕ → Type 0
Says bs a out r o = (r ≡ replayed_of bs a) × (o ≡ leaves a out)

-- a refusal
says_refused : (bs : List ℕ) (a : Answer (Outcome (List ℕ))) (n : ℕ) (out : List ℕ) (r : Result Played Refusal) → a ≡ refused n → r ≡ Err (refusal_of n) → Says bs a out r out
unfolding replayed_of result_of leaves
says_refused bs a n out r e h = rw e (h, refl)

-- the result of reading a snapshot, by what it decodes to
read_result : (start : List ℕ) (o : Option State) → decode full start ≡ o → stored (calls.read full start) ≡ stored (calls.or_bad o)
unfolding calls.read
read_result start o k = ap (λ (o : Option State). stored (calls.or_bad o)) k

-- where reading the snapshot is refused, so is the replay
pub says_unread : (start bs out : List ℕ) (e : Refusal) (r : Result Played Refusal) → Err e ≡ stored (calls.read full start) → r ≡ Err e → Says bs (replay full start bs (length out)) out r out
unfolding stored result_of calls.or_bad replay replay_of
says_unread start bs out e r h d = go (decode full start) refl
  where
    go : (o : Option State) → decode full start ≡ o → Says bs (replay full start bs (length out)) out r out
    go none k =
        let x : Err e ≡ stored (calls.or_bad none) = h ∙ read_result start none k in
        let same : e ≡ Form = cc in
        says_refused bs (replay full start bs (length out)) 14 out r (ap (λ (o : Option State). replay_of full (length out) o (read_recording bs)) k) (d ∙ ap Err same)
    go (some s) k =
        let x : Err e ≡ stored (calls.or_bad (some s)) = h ∙ read_result start (some s) k in
        let z : true ≡ false = cc in
        clash refl z

-- the snapshot is read: its state, and the store that code has for it
pub record Read (start : List ℕ) (s : Store) : Type 0 where
  pub state : State
  pub decoded : decode full start ≡ some state
  pub store_is : s ≡ store_of state
  pub well : well_store s ≡ true
  pub state_is : state_of s ≡ state

-- it is where reading is not refused
pub start_read : (start : List ℕ) (s : Store) → Ok s ≡ stored (calls.read full start) → Read start s
unfolding stored result_of calls.or_bad
start_read start s h = go (decode full start) refl
  where
    go : (o : Option State) → decode full start ≡ o → Read start s
    go none k =
        let x : Ok s ≡ stored (calls.or_bad none) = h ∙ read_result start none k in
        let z : true ≡ false = cc in
        clash refl z
    go (some t) k =
        let x : Ok s ≡ stored (calls.or_bad (some t)) = h ∙ read_result start (some t) k in
        let is : s ≡ store_of t = cc in
        let f = (decode_sound full start t k).0 in
        record { state = t; decoded = k; store_is = is; well = ap well_store is ∙ held_well t f; state_is = ap state_of is ∙ (held t f).0 }

-- bytes that are no record: 15
pub says_unrecorded : (start bs out : List ℕ) (s : Store) (r : Result Played Refusal) → Read start s → is_recording bs ≡ false → r ≡ Err Record → Says bs (replay full start bs (length out)) out r out
unfolding is_recording is_some replay replay_of
says_unrecorded start bs out s r t h d = go (read_recording bs) refl h
  where
    go : (o : Option Recording) → read_recording bs ≡ o → is_some o ≡ false → Says bs (replay full start bs (length out)) out r out
    go none k b = says_refused bs (replay full start bs (length out)) 15 out r (rw (t.decoded, k, replay_of)) d
    go (some x) k b = clash refl b

-- what is answered at the end, by what writing the snapshot answers
says_written : (bs : List ℕ) (u : State) (out o : List ℕ) (w : Result ℕ Refusal) (r : Result Played Refusal) (a : Answer (List ℕ)) → calls.write full u (length out) ≡ a → answer_of w ≡ filling a → o ≡ lent a out
    → r ≡ valued (λ n. played.Ended n) w → Says bs (concluded full (length out) (ended u)) out r o
unfolding concluded on_answer filling answer_of replayed_of played_of result_of leaves lent
says_written bs u out o (Ok n) r (gives x) k e f g = let same : n ≡ length x = cc in rw k (g ∙ ap (λ (m : ℕ). Ok (played.Ended m)) same, f)
says_written bs u out o (Ok n) r (refused m) k e f g = let z : true ≡ false = cc in clash refl z
says_written bs u out o (Err q) r (gives x) k e f g = let z : true ≡ false = cc in clash refl z
says_written bs u out o (Err q) r (refused m) k e f g =
    let same : number_of q ≡ m = cc in
    rw k (g ∙ ap Err (sym (refusal_of_number q) ∙ ap refusal_of same), f)

-- both are read
module _ (start bs : List ℕ) (s : Store) (t : Read start s) (h : is_recording bs ≡ true) where
  -- what the calls come to
  comes : Outcome State
  comes = played_from (read_recording bs) (state_of s)

  -- what is answered
  answer_comes : (n : ℕ) → replay full start bs n ≡ concluded full n comes
  unfolding comes played_from
  answer_comes n =
      let r = recording_read bs h in
      read_both full start bs n t.state r.0 t.decoded r.1
      ∙ ap (λ (x : State). concluded full n (replayed_from full x r.0)) (sym t.state_is)
      ∙ ap (λ (o : Option Recording). concluded full n (played_from o (state_of s))) (sym r.1)

  -- it stopped
  module _ (here : Stop) (room : List ℕ) (p : Plays s bs (halt.Differs here) room) where
    -- at the first difference
    record Mismatched : Type 0 where
      it : Mismatch
      is : comes ≡ differs it
      halts : Halts bs (differs it) (halt.Differs here) room

    -- the calls come to it
    differs_says : Mismatched
    unfolding comes Plays Halts
    differs_says = go comes refl
      where
        go : (o : Outcome State) → comes ≡ o → Mismatched
        go (ended u) e = absurd (subst (λ (o : Outcome State). Halts bs o (halt.Differs here) room) e p)
        go (differs d) e = record { it = d; is = e; halts = subst (λ (o : Outcome State). Halts bs o (halt.Differs here) room) e p }

    -- the answer that is given is within the room
    pub given_within : here.length ≤ length room
    unfolding Halts
    given_within =
        let x = differs_says.halts in
        omega (arith, length-take here.length room, ap (λ (l : List ℕ). length l) x.4, x.3)

    -- the place of the difference, and that it is a number
    pub place_number : (place : ℕ) → are_bytes bs ≡ true → place ≡ number_in number_long (drop place_at bs) → place + here.calls < 2 ^ 64
    unfolding comes played_from Halts held_place replayed_from
    place_number place y e =
        let r = recording_read bs h in
        let d = differs_says in
        let same : place ≡ r.0.settings.place = e ∙ (head_read bs r.0 y r.1).place in
        let at : r.0.settings.place + here.calls ≡ d.it.place = ap (λ (o : Option Recording). held_place o + here.calls) (sym r.1) ∙ d.halts.0 in
        let from : replayed_from full (state_of s) r.0 ≡ differs d.it = ap (λ (o : Option Recording). played_from o (state_of s)) (sym r.1) ∙ d.is in
        let g = (replayed_differs full r.0.settings.maximum r.0.settings.place (state_of s) r.0.calls d.it).0 from in
        omega (arith, same, at, place_fits full (state_of s) r.0 d.it (read_fits full bs r.0 r.1) g)

    -- what is handed over then
    pub says_differs : (place : ℕ) → are_bytes bs ≡ true → place ≡ number_in number_long (drop place_at bs) → (out : List ℕ) (r : Result Played Refusal)
        → r ≡ Ok (played.Differs (differs_by (place + here.calls) here.from here.to (take (here.length - 0) room))) → Says bs (replay full start bs (length out)) out r out
    unfolding Halts held_place concluded replayed_of played_of result_of leaves
    says_differs place y e out r f =
        let x = recording_read bs h in
        let d = differs_says in
        let same : place ≡ x.0.settings.place = e ∙ (head_read bs x.0 y x.1).place in
        let at : place + here.calls ≡ d.it.place = ap (λ (n : ℕ). n + here.calls) same ∙ ap (λ (o : Option Recording). held_place o + here.calls) (sym x.1) ∙ d.halts.0 in
        let n : here.length - 0 ≡ here.length = omega arith in
        let l : take (here.length - 0) room ≡ given_bytes d.it.given = ap (λ (n : ℕ). take n room) n ∙ d.halts.4 in
        let from = d.halts.1 in
        let to = d.halts.2 in
        let comes_to : replay full start bs (length out) ≡ gives (differs d.it) = answer_comes (length out) ∙ ap (concluded full (length out)) d.is in
        rw comes_to (f ∙ (λ i. Ok (played.Differs (differs_by (at i) (from i) (to i) (l i)))), refl)

  -- it ended: what writing its store answers is what writing its state does
  ended_written : (u : State) → comes ≡ ended u → (v : Store) → v ≡ store_of u → (n : ℕ) → snapshot_of v n ≡ calls.write full u n
  unfolding comes played_from replayed_from snapshot_of
  ended_written u k v e n =
      let r = recording_read bs h in
      let m = r.0.settings.maximum in
      let from : replayed_from full (state_of s) r.0 ≡ ended u = ap (λ (o : Option Recording). played_from o (state_of s)) (sym r.1) ∙ k in
      let a = (replayed_ends full m r.0.settings.place (state_of s) r.0.calls u).0 from in
      let w = left_formed full (state_of s) m r.0.calls ((formed_says full (state_of s)).0 ((well_says s).0 t.well).formed) (read_fits full bs r.0 r.1).calls in
      let f = (formed_says full u).1 (subst (WF full) a.1 w) in
      ap (λ (v : Store). snapshot_of v n) e ∙ on_store_well (store_of u) (λ t. calls.write full t n) (held_well u f) ∙ ap (λ (x : State). calls.write full x n) (held u f).0

  -- it ended: the snapshot of what is left, or 13
  pub says_ends : (v : Store) (room : List ℕ) → Plays s bs (halt.Ended v) room → (out o : List ℕ) (w : Result ℕ Refusal) (r : Result Played Refusal) → answer_of w ≡ filling (snapshot_of v (length out))
      → o ≡ lent (snapshot_of v (length out)) out → r ≡ valued (λ n. played.Ended n) w → Says bs (replay full start bs (length out)) out r o
  unfolding comes Plays Halts
  says_ends v room p out o w r e f g = go comes refl
    where
      go : (x : Outcome State) → comes ≡ x → Says bs (replay full start bs (length out)) out r o
      go (differs d) k = absurd (subst (λ (o : Outcome State). Halts bs o (halt.Ended v) room) k p)
      go (ended u) k =
          let x : v ≡ store_of u = subst (λ (o : Outcome State). Halts bs o (halt.Ended v) room) k p in
          let a : snapshot_of v (length out) ≡ calls.write full u (length out) = ended_written u k v x (length out) in
          rw (answer_comes (length out), k) (says_written bs u out o w r (calls.write full u (length out)) refl (e ∙ ap (λ (x : Answer (List ℕ)). filling x) a) (f ∙ ap (λ (x : Answer (List ℕ)). lent x out) a) g)
