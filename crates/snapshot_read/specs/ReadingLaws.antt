-- Laws of reading: if the store parsed from bytes writes them, it is the store that they hold. If not, they are no snapshot. Assumes nothing.
use Rattle.std.specs.Prelude.{ℕ, ◌-◌, ◌≤◌, Bool, List, ◌++◌, length, take, Ok, Err}
use Rattle.std.proofs.Math.Path.{◌≡◌, refl, sym, ap}
use Rattle.std.proofs.Common.{◌∙◌, arith}
use Rattle.std.proofs.Math.Bool.{true, false}
use Rattle.std.proofs.Math.Option.{Option, none, some}
use Rattle.std.proofs.Math.ListN.{drop}
use Rattle.std.proofs.Math.Seq.{take_at}
use Rattle.lemmas.specs.Order.{clash}
use Rattle.lemmas.specs.ListLaws.{and_left, and_right, both}
use Rattle.model.specs.Answer.{Answer, gives, on_answer, lent}
use Rattle.model.specs.File.{State, full}
use Rattle.model.specs.Calls as calls
use Rattle.model.proofs.Formed.{WF, formed_says}
use Rattle.model.specs.Snapshot.{encode, same_bytes, decode, longest_snapshot}
use Rattle.model.proofs.SnapshotLaws.{full_fits}
use Rattle.model.proofs.Reading.{as_read, same_eq, eq_same, decode_sound, decode_encode}
use Rattle.answers.specs.declared.Refusal.{Refusal}
use Rattle.answers.specs.declared.Refusal.TheVariants.{Form}
use Rattle.answers.specs.Outcome.{answer_of, filling, result_of}
use Rattle.store.specs.declared.Store.{Store}
use Rattle.store.specs.Store.{state_of, store_of, well_store, stored}
use Rattle.store.specs.StoreLaws.{held, held_well, well_says}
use Rattle.snapshot_parse.specs.Parsing.{state_in}
use Rattle.snapshot_parse.specs.BackLaws.{state_back}
use Rattle.snapshot_write.specs.Writing.{snapshot_of}
use Rattle.snapshot_write.specs.WritingLaws.{written_ill, written_well, snapshot_most}
use Rattle.snapshot_read.specs.Reading.{writes_these, is_some, is_snapshot}

-- ---- the test of a store

module _ (s : Store) (bs : List ℕ) where
  -- not well-formed: no
  pub ill : well_store s ≡ false → writes_these s bs ≡ false
  unfolding writes_these
  ill h = rw h

  -- well-formed: its snapshot is compared
  pub well : well_store s ≡ true → writes_these s bs ≡ same_bytes (encode (state_of s)) bs
  unfolding writes_these
  well h = rw h

-- ---- the snapshot of a store, in room for the longest

module _ (s : Store) (room : ℕ) (fits : room ≡ longest_snapshot) where
  -- a well-formed store has one
  has_one : well_store s ≡ true → snapshot_of s room ≡ gives (encode (state_of s))
  has_one h = written_well s room h (omega (arith, snapshot_most s h))

  -- it is refused only if the store is not well-formed
  pub refused_ill : (r : Refusal) → answer_of (Err r) ≡ filling (snapshot_of s room) → well_store s ≡ false
  unfolding answer_of filling on_answer
  refused_ill r e = go (well_store s) refl
    where
      go : (t : Bool) → well_store s ≡ t → well_store s ≡ false
      go false h = h
      go true h = let z : true ≡ false = cc (ap filling (has_one h)) in clash refl z

  -- it is written, with n bytes
  module _ (n : ℕ) (e : answer_of (Ok n) ≡ filling (snapshot_of s room)) where
    -- the store is well-formed
    pub bytes_well : well_store s ≡ true
    unfolding answer_of filling on_answer
    bytes_well = go (well_store s) refl
      where
        go : (t : Bool) → well_store s ≡ t → well_store s ≡ true
        go true h = h
        go false h = let z : true ≡ false = cc (ap filling (written_ill s room h)) in clash refl z

    -- n is the length of its snapshot
    pub bytes_length : n ≡ length (encode (state_of s))
    unfolding answer_of filling on_answer
    bytes_length = let q : gives n ≡ gives (length (encode (state_of s))) = e ∙ ap filling (has_one bytes_well) in cc

    -- n is at most the longest
    pub bytes_most : n ≤ longest_snapshot
    bytes_most = omega (arith, bytes_length, snapshot_most s bytes_well)

    -- the snapshot is at the start of the output
    pub bytes_written : (out out' : List ℕ) → out' ≡ lent (snapshot_of s room) out → take (n - 0) out' ≡ encode (state_of s)
    unfolding lent
    bytes_written out out' f =
        let bs = encode (state_of s) in
        let g : out' ≡ bs ++ drop (length bs) out = f ∙ ap (λ (a : Answer (List ℕ)). lent a out) (has_one bytes_well) in
        ap (take (n - 0)) g ∙ take_at bs (drop (length bs) out) (n - 0) (omega (arith, bytes_length))

-- ---- the store that bytes hold

module _ (bs : List ℕ) where
  -- the store that is parsed from them
  abbrev candidate : Store
  candidate = store_of (state_in bs)

  -- it writes them, so they are a snapshot
  module _ (h : writes_these candidate bs ≡ true) where
    -- it is well-formed and writes these bytes
    passed : (well_store candidate ≡ true) × (encode (state_of candidate) ≡ bs)
    unfolding writes_these
    passed =
        let a = well_store candidate in
        let b = same_bytes (encode (state_of candidate)) bs in
        (and_left a b h, same_eq (encode (state_of candidate)) bs (and_right a b h))

    -- its state is well-formed
    formed : WF full (state_of candidate)
    formed = (formed_says full (state_of candidate)).0 ((well_says candidate).0 passed.0).formed

    -- the state that they decode to
    decoded : decode full bs ≡ some (as_read (state_of candidate))
    decoded = ap (decode full) (sym passed.1) ∙ decode_encode full full_fits (state_of candidate) formed

    -- it is the store of that state
    candidate_is : candidate ≡ store_of (as_read (state_of candidate))
    candidate_is = ap store_of (ap state_in (sym passed.1) ∙ state_back (state_of candidate) formed)

    -- so it is the result
    pub read_yes : Ok candidate ≡ stored (calls.read full bs)
    unfolding stored result_of calls.read calls.or_bad
    read_yes = rw decoded (ap Ok candidate_is)

  -- if bytes decode to a state, the store parsed from them writes them
  parsed : (t : State) → decode full bs ≡ some t → writes_these candidate bs ≡ true
  unfolding writes_these
  parsed t e =
      let d = decode_sound full bs t e in
      let w = (formed_says full t).0 d.0 in
      let back : some (as_read t) ≡ some t = sym (ap (decode full) (sym d.1) ∙ decode_encode full full_fits t w) ∙ e in
      let same : as_read t ≡ t = cc in
      let is : candidate ≡ store_of t = ap store_of (ap state_in (sym d.1) ∙ state_back t w ∙ same) in
      let k = held t d.0 in
      let writes : encode (state_of candidate) ≡ bs = ap (λ (s : Store). encode (state_of s)) is ∙ ap encode k.0 ∙ d.1 in
      both (well_store candidate) (same_bytes (encode (state_of candidate)) bs) (ap well_store is ∙ held_well t d.0)
      (ap (same_bytes (encode (state_of candidate))) (sym writes) ∙ eq_same (encode (state_of candidate)))

  -- it does not write them: they are no snapshot
  pub read_no : writes_these candidate bs ≡ false → Err Form ≡ stored (calls.read full bs)
  unfolding stored result_of calls.read calls.or_bad
  read_no h = go (decode full bs) refl
    where
      go : (o : Option State) → decode full bs ≡ o → Err Form ≡ stored (calls.or_bad o)
      go none e = refl
      go (some t) e = clash (parsed t e) h

  -- bytes are a snapshot exactly if the store parsed from them writes them
  pub snapshot_is : writes_these candidate bs ≡ is_snapshot bs
  unfolding is_snapshot is_some
  snapshot_is = go (writes_these candidate bs) refl (decode full bs) refl
    where
      go : (b : Bool) → writes_these candidate bs ≡ b → (o : Option State) → decode full bs ≡ o → b ≡ is_some o
      go true h o e = sym (ap is_some (sym e ∙ decoded h))
      go false h none e = refl
      go false h (some t) e = clash (parsed t e) h

-- ---- bytes that are a snapshot, and bytes that are none
-- what is a snapshot is read
pub snapshot_read : (bs : List ℕ) → is_snapshot bs ≡ true → (s : State) × (decode full bs ≡ some s)
unfolding is_snapshot is_some
snapshot_read bs h = go (decode full bs) refl h
  where
    go : (o : Option State) → decode full bs ≡ o → is_some o ≡ true → (s : State) × (decode full bs ≡ some s)
    go none e k = clash k refl
    go (some s) e k = (s, e)

-- what is none is not
pub snapshot_none : (bs : List ℕ) → is_snapshot bs ≡ false → decode full bs ≡ none
unfolding is_snapshot is_some
snapshot_none bs h = go (decode full bs) refl h
  where
    go : (o : Option State) → decode full bs ≡ o → is_some o ≡ false → decode full bs ≡ none
    go none e k = e
    go (some s) e k = clash refl k
