-- The calls that compare two snapshots and apply a list: their answers for every input; patching the left with what differs gives the right. Assumes nothing.
use Rattle.std.specs.Prelude.{ℕ, ◌<◌, ◌≤◌, ◌≡◌, refl, ◌↔◌, Bool, cond, true, false, not, List, [], ltb, length}
use Rattle.std.proofs.Common.{ap, sym, ◌∙◌, subst, ltb-false, lt-ltb, le-ltb, arith}
use Rattle.std.proofs.Math.Option.{Option, none, some}
use Rattle.lemmas.specs.Order.{clash}
use Rattle.lemmas.specs.Lists.{all, chain}
use Rattle.model.specs.Answer.{Answer, gives, refused, ◌⇒◌, first_of}
use Rattle.model.specs.File.{Profile, State, full, well_formed}
use Rattle.model.specs.Snapshot.{encode, decode}
use Rattle.model.specs.Calls.{write, read, or_bad}
use Rattle.model.proofs.Formed.{WF, formed_says}
use Rattle.model.proofs.SnapshotLaws.{Fits}
use Rattle.model.proofs.Reading.{as_read, as_read_formed, decode_sound, decode_encode}
use Rattle.model.specs.Difference.{Difference, differences, good_list}
use Rattle.model.specs.Patched.{patched}
use Rattle.model.specs.DifferenceBytes.{write_differences, decode_list, on_given, fitting, differing, or_no_list, patching, longest_list}
use Rattle.model.proofs.DifferenceLaws.{nothing_listed, differences_read}
use Rattle.model.proofs.PatchedLaws.{patched_right, patched_bytes, patched_read}
use Rattle.model.proofs.DifferenceLengthLaws.{differences_few, list_most_bytes}
use Rattle.model.proofs.DifferenceReadingLaws.{ListFits, good_list_says, decode_list_back, differences_good, differences_back, lists_apart}

-- ---- the call that compares: for every input, its answer
-- bytes laid into lent output that holds them
pub fitting_gives : (room : ℕ) (bs : List ℕ) → length bs ≤ room → fitting room bs ≡ gives bs
unfolding fitting first_of ◌⇒◌
fitting_gives room bs h = let e : ltb room (length bs) ≡ false = le-ltb room (length bs) h in rw e

-- and that does not
pub fitting_short : (room : ℕ) (bs : List ℕ) → room < length bs → fitting room bs ≡ refused 13
unfolding fitting first_of ◌⇒◌
fitting_short room bs h = let e : ltb room (length bs) ≡ true = lt-ltb room (length bs) h in rw e

-- what is given is the bytes, and there was room
fitting_says : (room : ℕ) (bs d : List ℕ) → fitting room bs ≡ gives d → (bs ≡ d) × (length bs ≤ room)
unfolding fitting first_of ◌⇒◌
fitting_says room bs d h = go (ltb room (length bs)) refl h
  where
    go : (b : Bool) → ltb room (length bs) ≡ b → cond b (refused 13) (gives bs) ≡ gives d → (bs ≡ d) × (length bs ≤ room)
    go true e k = let z : true ≡ false = cc in clash refl z
    go false e k = (cc, ltb-false room (length bs) e)

module _ (p : Profile) (left right : List ℕ) (room : ℕ) where
  -- 14 for the left
  pub differing_left : decode p left ≡ none → differing p left right room ≡ refused 14
  unfolding differing read or_bad on_given
  differing_left e = rw e

  -- then 14 for the right
  pub differing_right : (s : State) → decode p left ≡ some s → decode p right ≡ none → differing p left right room ≡ refused 14
  unfolding differing read or_bad on_given
  differing_right s e f = rw (e, f)

  module _ (s t : State) (e : decode p left ≡ some s) (f : decode p right ≡ some t) where
    -- else what differs, as far as there is room
    pub differing_both : differing p left right room ≡ fitting room (write_differences (differences s t))
    unfolding differing read or_bad on_given
    differing_both = rw (e, f)

    -- then 13
    pub differing_short : room < length (write_differences (differences s t)) → differing p left right room ≡ refused 13
    differing_short h = differing_both ∙ fitting_short room (write_differences (differences s t)) h

    -- else the list
    pub differing_gives : length (write_differences (differences s t)) ≤ room → differing p left right room ≡ gives (write_differences (differences s t))
    differing_gives h = differing_both ∙ fitting_gives room (write_differences (differences s t)) h

-- what an answer that is given says: both are snapshots, and it is the list of what differs between their states
pub record Compared (p : Profile) (left right : List ℕ) (room : ℕ) (d : List ℕ) : Type 0 where
  pub first : State
  pub second : State
  pub is_left : decode p left ≡ some first
  pub is_right : decode p right ≡ some second
  pub bytes : write_differences (differences first second) ≡ d
  pub enough : length d ≤ room

-- an answer is given only so
pub differing_says : (p : Profile) (left right : List ℕ) (room : ℕ) (d : List ℕ) → differing p left right room ≡ gives d → Compared p left right room d
differing_says p left right room d h = go (decode p left) refl
  where
    never : (a : Answer (List ℕ)) → a ≡ gives d → a ≡ refused 14 → Compared p left right room d
    never a x y = let z : true ≡ false = cc in clash refl z

    both_read : (s t : State) → decode p left ≡ some s → decode p right ≡ some t → Compared p left right room d
    both_read s t e f =
        let r = fitting_says room (write_differences (differences s t)) d (sym (differing_both p left right room s t e f) ∙ h) in
        record { first = s; second = t; is_left = e; is_right = f; bytes = r.0; enough = subst (λ (x : List ℕ). length x ≤ room) r.0 r.1 }

    next : (s : State) → decode p left ≡ some s → (o : Option State) → decode p right ≡ o → Compared p left right room d
    next s e none f = never (differing p left right room) h (differing_right p left right room s e f)
    next s e (some t) f = both_read s t e f

    go : (o : Option State) → decode p left ≡ o → Compared p left right room d
    go none e = never (differing p left right room) h (differing_left p left right room e)
    go (some s) e = next s e (decode p right) refl

-- what a snapshot reads as is well-formed and writes it
pub snapshot_says : (p : Profile) (bs : List ℕ) (s : State) → decode p bs ≡ some s → WF p s × (encode s ≡ bs)
snapshot_says p bs s e = let r = decode_sound p bs s e in ((formed_says p s).0 r.0, r.1)

-- nothing is listed if and only if the snapshots are equal bytes
pub differing_nothing : (p : Profile) → ListFits p → (left right : List ℕ) (room : ℕ) (d : List ℕ) → differing p left right room ≡ gives d → (d ≡ write_differences []) ↔ (left ≡ right)
unfolding good_list all chain
differing_nothing p fit left right room d h =
    let w = differing_says p left right room d h in
    let s = w.first in
    let t = w.second in
    let ss = snapshot_says p left s w.is_left in
    let tt' = snapshot_says p right t w.is_right in
    let n = nothing_listed p fit.fits s t ss.0 tt'.0 in (
      λ e.
          let q : differences s t ≡ [] = lists_apart p fit.fits (differences s t) [] (differences_good p s t ss.0 tt'.0) refl (omega (arith, differences_few p s t ss.0 tt'.0, fit.entries)) (omega arith) (w.bytes ∙ e) in
          sym ss.1 ∙ n.0 q ∙ tt'.1,
      λ e. sym w.bytes ∙ ap write_differences (n.1 (ss.1 ∙ e ∙ sym tt'.1)),
    )

-- with room for the longest list 13 is not given
pub differing_room : (left right : List ℕ) (room : ℕ) (s t : State) → decode full left ≡ some s → decode full right ≡ some t → longest_list ≤ room → differing full left right room ≡ gives (write_differences (differences s t))
differing_room left right room s t e f h =
    differing_gives full left right room s t e f (omega (arith, list_most_bytes s t (snapshot_says full left s e).0 (snapshot_says full right t f).0))

-- ---- the call that applies a list: for every input, its answer
module _ (p : Profile) (left list : List ℕ) (room : ℕ) where
  -- 14 for the left
  pub patching_left : decode p left ≡ none → patching p left list room ≡ refused 14
  unfolding patching read or_bad on_given
  patching_left e = rw e

  -- then 14 for what is no list
  pub patching_list : (s : State) → decode p left ≡ some s → decode_list p list ≡ none → patching p left list room ≡ refused 14
  unfolding patching read or_bad or_no_list on_given
  patching_list s e f = rw (e, f)

  -- else the outcome written: 14 where it is not well-formed, then 13
  pub patching_both : (s : State) (ds : List Difference) → decode p left ≡ some s → decode_list p list ≡ some ds → patching p left list room ≡ write p (patched s ds) room
  unfolding patching read or_bad or_no_list on_given
  patching_both s ds e f = rw (e, f)

-- writing a well-formed state into room that holds it
write_gives : (p : Profile) (s : State) (room : ℕ) → well_formed p s ≡ true → length (encode s) ≤ room → write p s room ≡ gives (encode s)
unfolding write first_of ◌⇒◌
write_gives p s room w h = let e : ltb room (length (encode s)) ≡ false = le-ltb room (length (encode s)) h in rw (w, e)

-- writing it into less
write_short : (p : Profile) (s : State) (room : ℕ) → well_formed p s ≡ true → room < length (encode s) → write p s room ≡ refused 13
unfolding write first_of ◌⇒◌
write_short p s room w h = let e : ltb room (length (encode s)) ≡ true = lt-ltb room (length (encode s)) h in rw (w, e)

-- what is written is a well-formed state's snapshot, and there was room
write_says : (p : Profile) (s : State) (room : ℕ) (bs : List ℕ) → write p s room ≡ gives bs → (well_formed p s ≡ true) × (encode s ≡ bs) × (length bs ≤ room)
unfolding write first_of ◌⇒◌
write_says p s room bs h = formed (well_formed p s) refl h
  where
    fits : well_formed p s ≡ true → (b : Bool) → ltb room (length (encode s)) ≡ b → cond b (refused 13) (gives (encode s)) ≡ gives bs → (well_formed p s ≡ true) × (encode s ≡ bs) × (length bs ≤ room)
    fits w true e k = let z : true ≡ false = cc in clash refl z
    fits w false e k = let q : encode s ≡ bs = cc in (w, q, subst (λ (x : List ℕ). length x ≤ room) q (ltb-false room (length (encode s)) e))

    formed : (b : Bool) → well_formed p s ≡ b → cond (not b) (refused 14) (cond (ltb room (length (encode s))) (refused 13) (gives (encode s))) ≡ gives bs → (well_formed p s ≡ true) × (encode s ≡ bs) × (length bs ≤ room)
    formed true e k = fits e (ltb room (length (encode s))) refl k
    formed false e k = let z : true ≡ false = cc in clash refl z

-- what an answer that is given says: a snapshot, a list, and a well-formed outcome that writes the answer
pub record Applied (p : Profile) (left list : List ℕ) (room : ℕ) (out : List ℕ) : Type 0 where
  pub first : State
  pub entries : List Difference
  pub is_left : decode p left ≡ some first
  pub is_list_lem : decode_list p list ≡ some entries
  pub formed : well_formed p (patched first entries) ≡ true
  pub bytes : encode (patched first entries) ≡ out
  pub enough : length out ≤ room

-- an answer is given only so
pub patching_says : (p : Profile) (left list : List ℕ) (room : ℕ) (out : List ℕ) → patching p left list room ≡ gives out → Applied p left list room out
patching_says p left list room out h = go (decode p left) refl
  where
    never : (a : Answer (List ℕ)) → a ≡ gives out → a ≡ refused 14 → Applied p left list room out
    never a x y = let z : true ≡ false = cc in clash refl z

    next : (s : State) → decode p left ≡ some s → (o : Option (List Difference)) → decode_list p list ≡ o → Applied p left list room out
    next s e none f = never (patching p left list room) h (patching_list p left list room s e f)
    next s e (some ds) f =
        let r = write_says p (patched s ds) room out (sym (patching_both p left list room s ds e f) ∙ h) in
        record { first = s; entries = ds; is_left = e; is_list_lem = f; formed = r.0; bytes = r.1; enough = r.2 }

    go : (o : Option State) → decode p left ≡ o → Applied p left list room out
    go none e = never (patching p left list room) h (patching_left p left list room e)
    go (some s) e = next s e (decode_list p list) refl

-- what differs, applied to the left, writes a well-formed state: the right, in room that holds it
module _ (p : Profile) (fit : ListFits p) (left right : List ℕ) (room room' : ℕ) (d : List ℕ) (h : differing p left right room ≡ gives d) where
  outcome : (u : State) × (well_formed p u ≡ true) × (encode u ≡ right) × (patching p left d room' ≡ write p u room')
  outcome =
      let w = differing_says p left right room d h in
      let s = w.first in
      let t = w.second in
      let ss = snapshot_says p left s w.is_left in
      let tt' = snapshot_says p right t w.is_right in
      let back : decode_list p d ≡ some (differences s t) = ap (decode_list p) (sym w.bytes) ∙ differences_back p s t ss.0 tt'.0 fit in (
        patched s (differences s t),
        ap (well_formed p) (patched_right p s t ss.0 tt'.0) ∙ (formed_says p (as_read t)).1 (as_read_formed p t tt'.0),
        patched_bytes p s t ss.0 tt'.0 ∙ tt'.1,
        patching_both p left d room' s (differences s t) w.is_left back,
      )

  -- applying what differs to the left gives the right's very bytes
  pub patching_differing : length right ≤ room' → patching p left d room' ≡ gives right
  patching_differing few =
      let o = outcome in
      o.3 ∙ write_gives p o.0 room' o.1 (omega (arith, ap length o.2)) ∙ ap gives o.2

  -- and 13 where there is less room
  pub patching_short : room' < length right → patching p left d room' ≡ refused 13
  patching_short few =
      let o = outcome in
      o.3 ∙ write_short p o.0 room' o.1 (omega (arith, ap length o.2))

-- ---- on what well-formed states write
-- the snapshots of two states are compared by what differs between the states
pub differing_states : (p : Profile) → Fits p → (s t : State) → WF p s → WF p t → (room : ℕ) → differing p (encode s) (encode t) room ≡ fitting room (write_differences (differences s t))
differing_states p fit s t ws wt room =
    differing_both p (encode s) (encode t) room (as_read s) (as_read t) (decode_encode p fit s ws) (decode_encode p fit t wt)
    ∙ ap (λ (ds : List Difference). fitting room (write_differences ds)) (differences_read p s t ws wt)

-- a good list is applied to a state's snapshot by what it makes of the state
pub patching_states : (p : Profile) → Fits p → (s : State) → WF p s → (ds : List Difference) → good_list p ds ≡ true → length ds < 65536 → (room : ℕ)
    → patching p (encode s) (write_differences ds) room ≡ write p (patched s ds) room
patching_states p fit s w ds g few room =
    patching_both p (encode s) (write_differences ds) room (as_read s) ds (decode_encode p fit s w) (decode_list_back p fit ds g few)
    ∙ ap (λ (u : State). write p u room) (patched_read p s w ds ((good_list_says p ds).0 g).1)
