-- Laws of a call that is made: the parts of its bytes, its tag, and its answer laid in lent room. Assumes nothing.
use Prim.Native.Nat.{ℕ, zero, suc, ◌+◌, ◌<◌, ◌≤◌}
use Rattle.std.specs.Prelude.{◌≡◌, Bool, Result, Ok, Err}
use Rattle.std.specs.Result.{result_unwrap_or}
use Rattle.std.proofs.Math.Path.{refl, sym, ap}
use Rattle.std.proofs.Common.{◌∙◌, subst, length-drop, zero-add}
use Rattle.std.proofs.Math.Bool.{true, false}
use mathlib.Core.List.{List, [], ◌∷◌, map}
use Rattle.std.proofs.Math.Option.{none, some}
use borrow.Author.Tests.{leb-true, leb-false}
use Rattle.std.proofs.Math.Dec.{leb}
use Rattle.std.proofs.Math.ListN.{length, get_or, get_or-eq_default, drop, replicate}
use Rattle.std.proofs.Math.Seq.{drop-drop}
use native.Mathlib.Omega.{arith}
use Rattle.lemmas.specs.Order.{clash}
use Rattle.lemmas.specs.Slices.{put}
use Rattle.model.specs.Key as key
use Rattle.model.specs.File.{full}
use Rattle.model.specs.Edit as model
use Rattle.model.specs.Edit.{empty_edit, edit}
use Rattle.model.specs.Pick.{size_pick, manual_pick}
use Rattle.model.specs.Calls as calls
use Rattle.model.specs.Counters.{CounterCall, new, reuse, mark, last, manifest, previous, counter}
use Rattle.model.specs.History as history
use Rattle.model.specs.History.{edits, picks_size, picks_range, counts}
use Rattle.model.specs.Snapshot.{byte_long, number_long, Reader, onward, ◌>>=◌, give, read_number, read_key}
use Rattle.model_replay.specs.Form.{num, key_form, got, pair, unread, tagged}
use Rattle.model_replay.specs.Given.{Given, given}
use Rattle.model_replay.specs.Held.{held_key}
use Rattle.model_replay.specs.Recording.{edit_tag, size_tag, range_tag, count_tag, new_tag, previous_tag, handed_tag, asks_edit, asks_size, asks_range, asks_count, call_of, range_form, read_count, count_form, read_asked, asked_form}
use Rattle.model_replay.specs.Takes.{Takes, never, takes, and_then, repeated, counted, tag_takes, key_takes, part_takes, edit_takes, count_takes, asked_takes}
use Rattle.model_replay.proofs.TakesLaws.{Measures, key_measured, edit_measured, range_measured, count_measured}
use Rattle.answers.specs.declared.Refusal.{Refusal}
use Rattle.keys.specs.declared.FileNumber.{FileNumber}
use Rattle.keys.specs.declared.Key.{Key}
use Rattle.keys.specs.Key.{key_of, key_record}
use Rattle.edit.specs.declared.Edit.{Edit}
use Rattle.edit.specs.Edit.{edit_of}
use Rattle.pick_answer.specs.declared.Pick.{Pick}
use Rattle.pick_answer.specs.declared.Picked.{Picked}
use Rattle.pick_answer.specs.Picked.{pick_of}
use Rattle.store.specs.declared.Store.{Store}
use Rattle.store.specs.Store.{state_of, well_store, on_store, stored, StoreShape}
use Rattle.store_numbers.specs.declared.Handed.{Handed}
use Rattle.store_numbers.specs.Numbering.{handed}
use Rattle.snapshot_parse.specs.Parsing.{number_in}
use Rattle.replay_scan.specs.Scan.{passed_by}
use Rattle.replay_scan.specs.ScanLaws.{number_part}
use Rattle.replay_scan.specs.RecordLaws.{takes_says, then_says, bytes_then, number_read}
use Rattle.replay_given.specs.Given.{said_by, plain_given, handed_given, picked_given, given_bytes, longest_given, can_tell}
use Rattle.replay_given.specs.GivenLaws.{handed_is, numbered_long, plain_long, given_long, can_tell_says}
use Rattle.replay_call.specs.Call.{value_or, Begins, edit_record, edit_in, range_in, count_in, count_of, counted_by, asked_in, made_by, answered}
use Rattle.replay_call.specs.MadeLaws.{Makes, valued, numbered, MakesPick, edit_made, size_made, range_made, new_made, count_made}

-- ---- one part after another
module _ (src : List ℕ) (at : ℕ) where
  -- the place after a part that takes n bytes
  place_after_lem : (f : Takes) (n : ℕ) → f (drop at src) ≡ some n → (passed_by at (f (drop at src))).at ≡ at + n
  unfolding passed_by
  place_after_lem f n e = rw e

module _ {src : List ℕ} {at : ℕ} where
  -- of two parts the first is there
  first_begins : (f g : Takes) → Begins (and_then f g) src at → Begins f src at
  first_begins f g b = let t = then_says f g (drop at src) b.long b.whole in record { within = b.within; long = t.0; whole = t.2 }

  -- the second begins after it
  next_begins : {A : Type 0} {r : Reader A} {f : Takes} (g : Takes) → Measures f r → Begins (and_then f g) src at → Begins g src (passed_by at (f (drop at src))).at
  next_begins {f} g m b =
      let t = then_says f g (drop at src) b.long b.whole in
      let q = m.finds (drop at src) t.0 t.2 in
      let p : (passed_by at (f (drop at src))).at ≡ at + t.0 = place_after_lem src at f t.0 t.2 in
      record { within = omega (arith, p, q.3, b.within, length-drop at src); long = t.1; whole = rw (p, ← drop-drop t.0 at src) t.3 }

  -- where the first is w bytes, it begins w bytes on
  bytes_next : (w : ℕ) (g : Takes) → Begins (and_then (takes w) g) src at → Begins g src (at + w)
  bytes_next w g b =
      let t = bytes_then w g (drop at src) b.long b.whole in
      record { within = omega (arith, (takes_says w (drop at src) w t.1).1, b.within, length-drop at src); long = t.0; whole = rw (← drop-drop w at src) t.2 }

-- ---- what readers find
-- from a place on a reader finds a value, and the bytes that it leaves begin at a next place
record Holds {A : Type 0} (src : List ℕ) (r : Reader A) (at next : ℕ) (a : A) : Type 0 where
  reads : r (drop at src) ≡ some (record { value = a; rest = drop next src })

module _ {src : List ℕ} {at : ℕ} where
  -- that value
  holds_value : {A : Type 0} {r : Reader A} {next : ℕ} {a : A} → Holds src r at next a → (d : A) → value_or d (r (drop at src)) ≡ a
  unfolding value_or
  holds_value h d = rw h.reads

  -- where a whole part is, its reader finds one
  holds_part : {A : Type 0} {r : Reader A} {f : Takes} → Measures f r → Begins f src at → (d : A) → Holds src r at (passed_by at (f (drop at src))).at (value_or d (r (drop at src)))
  unfolding value_or
  holds_part {r} {f} m b d =
      let t = m.finds (drop at src) b.long b.whole in
      let q = t.0 in
      let e : q.rest ≡ drop (passed_by at (f (drop at src))).at src = t.2 ∙ drop-drop b.long at src ∙ ap (λ (n : ℕ). drop n src) (sym (place_after_lem src at f b.long b.whole)) in
      let v : q.value ≡ value_or d (r (drop at src)) = ap (value_or d) (sym t.1) in
      record { reads = t.1 ∙ (λ i. some (record { value = v i; rest = e i })) }

  -- a number of w bytes
  holds_number : (w : ℕ) → Begins (takes w) src at → Holds src (read_number w) at (at + w) (number_in w (drop at src))
  unfolding number_in
  holds_number w b =
      let n = (takes_says w (drop at src) b.long b.whole).0 in
      record { reads = number_read w (drop at src) w (b.whole ∙ ap some n) ∙ ap (λ (l : List ℕ). some (record { value = number_in w (drop at src); rest = l })) (drop-drop w at src) }

  -- one reader after another
  holds_then : {A B : Type 0} {m : Reader A} (s : A → Reader B) {mid next : ℕ} {a : A} {b : B} → Holds src m at mid a → Holds src (s a) mid next b → Holds src (m >>= s) at next b
  unfolding ◌>>=◌ onward
  holds_then s h k = record { reads = rw h.reads k.reads }

  -- a value in another shape
  holds_got : {A B : Type 0} (g : A → B) {m : Reader A} {next : ℕ} {a : A} → Holds src m at next a → Holds src (got g m) at next (g a)
  unfolding got give
  holds_got g h = holds_then (λ x. give (g x)) h record { reads = refl }

  -- where a whole part is, its value in another shape is found
  got_value : {A B : Type 0} (g : A → B) {r : Reader A} {f : Takes} → Measures f r → Begins f src at → (d : A) (e : B) → value_or e (got g r (drop at src)) ≡ g (value_or d (r (drop at src)))
  got_value g m b d e = holds_value (holds_got g (holds_part m b d)) e

-- ---- a manual pick: a level of 8 bytes, then two keys
module _ {src : List ℕ} {at : ℕ} (b : Begins (part_takes number_long 2) src at) where
  -- its keys
  range_keys : Begins (repeated 2 key_takes) src (at + number_long)
  unfolding part_takes
  range_keys = bytes_next number_long (repeated 2 key_takes) b

  -- the first key is there
  pub range_start : Begins key_takes src (at + number_long)
  unfolding repeated
  range_start = first_begins key_takes (repeated 1 key_takes) range_keys

  -- and the second after it
  pub range_stop : Begins key_takes src (passed_by (at + number_long) (key_takes (drop (at + number_long) src))).at
  unfolding repeated
  range_stop = first_begins key_takes (repeated 0 key_takes) (next_begins (repeated 1 key_takes) key_measured range_keys)

  -- the pick that the bytes hold, by its level and the place of its second key
  pub range_is : (m l next : ℕ) → l ≡ number_in number_long (drop at src) → next ≡ (passed_by (at + number_long) (key_takes (drop (at + number_long) src))).at
      → range_in m (drop at src) ≡ picks_range m l (value_or [] (read_key (drop (at + number_long) src))) (value_or [] (read_key (drop next src)))
  unfolding range_in range_form pair num key_form part_takes
  range_is m l next h k =
      let x = value_or [] (read_key (drop (at + number_long) src)) in
      let level = holds_number number_long (first_begins (takes number_long) (repeated 2 key_takes) b) in
      let start = holds_part key_measured range_start [] in
      let stop = holds_part key_measured range_stop [] in
      let both = holds_then {B = key.Key × key.Key} (λ (a : key.Key). got (λ (t : key.Key). (a, t)) read_key) start (holds_got {B = key.Key × key.Key} (λ (t : key.Key). (x, t)) stop) in
      let whole = holds_then {B = ℕ × (key.Key × key.Key)} (λ (n : ℕ). got (λ (t : key.Key × key.Key). (n, t)) (pair key_form key_form).read) level
      (holds_got {B = ℕ × (key.Key × key.Key)} (λ (t : key.Key × key.Key). (number_in number_long (drop at src), t)) both) in
      rw (h, k) (ap (λ (t : ℕ × (key.Key × key.Key)). picks_range m t.0 t.1.0 t.1.1) (holds_value whole (0, ([], []))))

-- ---- a tag, then the part that it stands for
module _ (fs : List Takes) {src : List ℕ} {at t : ℕ} (b : Begins (tag_takes fs) src at) (e : t ≡ number_in byte_long (drop at src)) where
  -- the tag's byte, then the part
  tag_then : Begins (and_then (takes byte_long) (get_or fs t never)) src at
  unfolding tag_takes counted and_then number_in
  tag_then = rw e (record { within = b.within; long = b.long; whole = b.whole })

  -- the part begins after the tag
  tag_part : (k : ℕ) → t ≡ k → Begins (get_or fs k never) src (at + byte_long)
  tag_part k h = subst (λ (k : ℕ). Begins (get_or fs k never) src (at + byte_long)) h (bytes_next byte_long (get_or fs t never) tag_then)

  -- the tag stands for one
  tag_known : t < length fs
  unfolding never
  tag_known = go (leb (length fs) t) refl
    where
      go : (k : Bool) → leb (length fs) t ≡ k → t < length fs
      go true h =
          let p = tag_part t refl in
          let d : get_or fs t never ≡ never = get_or-eq_default fs never (leb-true (length fs) t h) in
          let n : none ≡ some p.long = sym (ap (λ (f : Takes). f (drop (at + byte_long) src)) d) ∙ p.whole in
          let z : true ≡ false = cc in
          clash refl z
      go false h = leb-false (length fs) t h

  -- the value is what the tag's reader finds after it
  tag_value : {A : Type 0} (rs : List (Reader A)) (d : A) (k : ℕ) → t ≡ k → value_or d (tagged rs (drop at src)) ≡ value_or d (get_or rs k unread (drop (at + byte_long) src))
  unfolding tagged ◌>>=◌ onward
  tag_value rs d k h = rw ((holds_number byte_long (first_begins (takes byte_long) (get_or fs t never) tag_then)).reads, ← e, h)

-- ---- a call, by its tag
module _ {src : List ℕ} {at t : ℕ} (b : Begins asked_takes src at) (e : t ≡ number_in byte_long (drop at src)) where
  -- an edit is there
  pub edit_begins : t ≡ edit_tag → Begins edit_takes src (at + byte_long)
  unfolding asked_takes
  edit_begins h = tag_part _ b e edit_tag h

  -- a manual pick is there
  pub range_begins : t ≡ range_tag → Begins (part_takes number_long 2) src (at + byte_long)
  unfolding asked_takes
  range_begins h = tag_part _ b e range_tag h

  -- a tag past those is that of a counter call
  count_tag_lem : (t ≡ edit_tag → ⊥) → (t ≡ size_tag → ⊥) → (t ≡ range_tag → ⊥) → t ≡ count_tag
  unfolding asked_takes
  count_tag_lem h i j = omega (arith, tag_known _ b e)

  -- then one is there
  pub count_begins : (t ≡ edit_tag → ⊥) → (t ≡ size_tag → ⊥) → (t ≡ range_tag → ⊥) → Begins count_takes src (at + byte_long)
  unfolding asked_takes
  count_begins h i j = tag_part _ b e count_tag (count_tag_lem h i j)

  module _ (m : ℕ) where
    -- the call is that edit
    pub edit_asked : t ≡ edit_tag → call_of m (asked_in (drop at src)) ≡ edits (edit_in (drop (at + byte_long) src))
    unfolding asked_takes asked_in asked_form read_asked call_of edit_in
    edit_asked h = ap (call_of m) (tag_value _ b e _ asks_size edit_tag h ∙ got_value asks_edit edit_measured (edit_begins h) empty_edit asks_size)

    -- a size pick
    pub size_asked : t ≡ size_tag → call_of m (asked_in (drop at src)) ≡ picks_size m
    unfolding asked_takes asked_in asked_form read_asked call_of give value_or
    size_asked h = ap (call_of m) (tag_value _ b e _ asks_size size_tag h)

    -- that manual pick
    pub range_asked : t ≡ range_tag → call_of m (asked_in (drop at src)) ≡ range_in m (drop (at + byte_long) src)
    unfolding asked_takes asked_in asked_form read_asked call_of range_in
    range_asked h = ap (call_of m) (tag_value _ b e _ asks_size range_tag h ∙ got_value (λ (t : ℕ × (key.Key × key.Key)). asks_range t.0 t.1.0 t.1.1) range_measured (range_begins h) (0, ([], [])) asks_size)

    -- that counter call
    pub count_asked : (t ≡ edit_tag → ⊥) → (t ≡ size_tag → ⊥) → (t ≡ range_tag → ⊥) → call_of m (asked_in (drop at src)) ≡ counts (count_in (drop (at + byte_long) src))
    unfolding asked_takes asked_in asked_form read_asked call_of count_in
    count_asked h i j = ap (call_of m) (tag_value _ b e _ asks_size count_tag (count_tag_lem h i j) ∙ got_value asks_count count_measured (count_begins h i j) new asks_size)

-- ---- a counter call, by its tag
-- the call with a number that stands at a place of a list, or new where none stands
numbered_value : {src : List ℕ} {at : ℕ} → Begins (takes number_long) src at → (gs : List (ℕ → CounterCall)) (j : ℕ)
    → value_or new (get_or (map (λ (g : ℕ → CounterCall). got g (read_number number_long)) gs) j unread (drop at src)) ≡ get_or (map (λ (g : ℕ → CounterCall). g (number_in number_long (drop at src))) gs) j new
unfolding unread value_or
numbered_value b [] j = refl
numbered_value b (g ∷ gs) zero = holds_value (holds_got g (holds_number number_long b)) new
numbered_value b (g ∷ gs) (suc j) = numbered_value b gs j

module _ {src : List ℕ} {at t : ℕ} (b : Begins count_takes src at) (e : t ≡ number_in byte_long (drop at src)) where
  -- new
  pub new_is : t ≡ new_tag → count_in (drop at src) ≡ new
  unfolding count_takes count_in count_form read_count give value_or
  new_is h = tag_value _ b e _ new new_tag h

  -- the others have tags from one on
  pub count_known : (t ≡ new_tag → ⊥) → (1 ≤ t) × (t ≤ previous_tag)
  unfolding count_takes
  count_known h = let k = tag_known _ b e in (omega arith, omega arith)

  -- and a number of 8 bytes
  pub number_begins : (t ≡ new_tag → ⊥) → Begins (takes number_long) src (at + byte_long)
  unfolding count_takes
  number_begins h = rw (number_part t h (count_known h).1) at (tag_part (takes 0 ∷ replicate previous_tag (takes number_long)) b e t refl)

  -- the call of that tag and number
  pub count_is : (t ≡ new_tag → ⊥) → count_in (drop at src) ≡ count_of t (number_in number_long (drop (at + byte_long) src))
  unfolding count_takes count_of count_in count_form read_count num
  count_is h = go t refl
    where
      go : (k : ℕ) → t ≡ k → count_in (drop at src) ≡ count_of k (number_in number_long (drop (at + byte_long) src))
      go zero q = absurd (h q)
      go (suc k) q = tag_value _ b e _ new (suc k) q ∙ numbered_value (number_begins h) (reuse ∷ mark ∷ last ∷ manifest ∷ previous ∷ []) k

-- the result of a counter call of a known tag
pub counted_is : (s : Store) (tag n k : ℕ) → tag ≡ k → stored (on_store s (λ t. counter full t (count_of k n))) ≡ counted_by s tag n
unfolding counted_by
counted_is s tag n k e = rw e

-- ---- the answer in lent room
-- the answer of an edit, or of a counter call but new, has room
pub plain_fits : (o : Result Unit ℕ) (room : List ℕ) → longest_given ≤ length room → 0 + length (given_bytes (plain_given o)) ≤ length room
plain_fits o room h = omega (arith, plain_long o)

-- so has that of new
pub handed_fits : (o : Result FileNumber ℕ) (room : List ℕ) → longest_given ≤ length room → 0 + length (given_bytes (handed_given o)) ≤ length room
unfolding said_by
handed_fits (Ok n) room h = omega (arith, numbered_long (given_bytes (handed_given (Ok n))) handed_tag number_long n.0 (handed_is (Ok n) n refl))
handed_fits (Err n) room h = plain_fits (Err n) room h

-- and that of a pick that can be kept
pub picked_fits : (o : Result Picked ℕ) (room : List ℕ) → can_tell o ≡ true → longest_given ≤ length room → 0 + length (given_bytes (picked_given o)) ≤ length room
unfolding said_by
picked_fits (Ok c) room k h = omega (arith, given_long c (can_tell_says (Ok c) c refl k).0)
picked_fits (Err n) room k h = plain_fits (Err n) room h

-- the store that a call leaves and its answer, laid at the start of the room, are what code returns and leaves in it
pub made_laid : (s : Store) (c : history.Call) (t : Store) (g : Given) (room out : List ℕ) (n : ℕ) → Makes s c t g → (n ≡ 0 + length (given_bytes g)) × (out ≡ put room 0 (given_bytes g))
    → (record { store = t; length = n } ≡ made_by s c) × (out ≡ answered s c room)
unfolding made_by answered
made_laid s c t g room out n m h =
    let l : n ≡ length (given_bytes (given full (state_of s) c)) = h.0 ∙ zero-add (length (given_bytes g)) ∙ ap (λ (g : Given). length (given_bytes g)) m.gave in
    let e = m.left in
    (λ i. record { store = e i; length = l i }, h.1 ∙ ap (λ (g : Given). put room 0 (given_bytes g)) m.gave)

-- ---- what code's calls return is made
module _ (s : Store) (q : StoreShape s) (w : well_store s ≡ true) where
  -- an edit
  pub edit_makes : (e : model.Edit) (x : Edit) (r : Result Store Refusal) → x ≡ edit_record e → r ≡ stored (on_store s (λ t. edit full t (edit_of x))) → Makes s (edits e) (result_unwrap_or r s) (plain_given (numbered (λ t. tt) r))
  edit_makes e x r h k = rw (k, h) (edit_made s e q w)

  -- a size pick
  pub size_makes : (m : ℕ) (r : Result Pick Refusal) → r ≡ pick_of (on_store s (λ t. size_pick full t m)) → MakesPick s (picks_size m) r
  size_makes m r k = rw k (size_made s m q w)

  -- a manual pick
  pub range_makes : (m l : ℕ) (a b : key.Key) (x y : Key) (r : Result Pick Refusal) → x ≡ key_record (held_key full a) → y ≡ key_record (held_key full b)
      → r ≡ pick_of (on_store s (λ t. manual_pick full t m l (key_of x) (key_of y))) → MakesPick s (picks_range m l a b) r
  range_makes m l a b x y r h i k = rw (k, h, i) (range_made s m l a b q w)

  -- new
  pub new_makes : (r : Result Handed Refusal) → r ≡ handed (on_store s (calls.new_number full)) → Makes s (counts new) (result_unwrap_or (valued (λ h. h.store) r) s) (handed_given (numbered (λ h. h.number) r))
  new_makes r k = rw k (new_made s q w)

  -- another counter call
  pub count_makes : (tag n : ℕ) (r : Result Store Refusal) → (1 ≤ tag) × (tag ≤ previous_tag) → r ≡ counted_by s tag n → Makes s (counts (count_of tag n)) (result_unwrap_or r s) (plain_given (numbered (λ t. tt) r))
  count_makes tag n r h k = rw k (count_made s tag n h.0 h.1 q w)
