-- Demand 3: two histories of a fresh store write the same bytes exactly when they leave the same files, pointers and counters. Assumes nothing.
use Rattle.std.specs.Prelude.{ℕ, zero, suc, ◌<◌, ◌≤◌, ◌≡◌, refl, ◌↔◌, Bool, true, false, ltb, get_or, replicate}
use Rattle.std.proofs.Common.{ap, sym, ◌∙◌, subst, ltb-true, ltb-false, ext_get_or, arith}
use mathlib.Core.List.Memᴰ.{head as here}
use mathlib.Core.List.Memᴰ.{not-nil}
use mathlib.Core.List.Memᴰ.{tail as there}
use mathlib.Core.List.{List, [], ◌∷◌, Memᴰ as In}
use Rattle.std.proofs.Math.Option.{Option, none}
use Rattle.std.proofs.Math.ListN.{get_or-eq_default}
use Rattle.std.proofs.lemmas.List.{length-replicate}
use Rattle.lemmas.specs.Lists.{sort, chain, join, distinct}
use Rattle.lemmas.specs.ListLaws.{both, sort_in, get_or_same, in_replicate, join_empties}
use Rattle.model.specs.Key.{Key}
use Rattle.model.specs.Answer.{Answer, gives, refused}
use Rattle.model.specs.File.{Profile, File, State, level, pointer, numbers, max_counter, in_order, levelwise, good_pointer, fresh}
use Rattle.model.specs.Edit.{edit}
use Rattle.model.specs.Counters.{counter}
use Rattle.model.specs.Pick.{Pick, size_pick, manual_pick}
use Rattle.model.specs.Snapshot.{by_number, five_of, encode}
use Rattle.model.specs.History.{Call, edits, picks_size, picks_range, counts, kept, kept_pick, after, run, events, pointer_left, SameLeft}
use Rattle.model.proofs.Formed.{WF, distinct_level, Words, edit_keeps, count_keeps}
use Rattle.model.proofs.PickLaws.{size_keeps, range_keeps}
use Rattle.model.proofs.SnapshotLaws.{SameWritten, encode_apart, Fits, storable, same_bytes_lem}
use Rattle.model.specs.ByNumber.{same_by_number}
use Rattle.model.proofs.HistoryLaws.{fresh_stays, run_counters, run_pointers}

-- ---- well-formed throughout
-- every file number in a call fits 64 bits, as code passes it
abbrev pub WordCalls : List Call → Type 0
WordCalls [] = Unit {0}
WordCalls (edits e ∷ cs) = Words e × WordCalls cs
WordCalls (picks_size m ∷ cs) = WordCalls cs
WordCalls (picks_range m l a b ∷ cs) = WordCalls cs
WordCalls (counts c ∷ cs) = WordCalls cs

-- if an accepted call leaves a well-formed state, so does the call, accepted or refused
keep_s : (p : Profile) (s : State) (o : Answer State) → WF p s → ((t : State) → o ≡ gives t → WF p t) → WF p (kept s o)
unfolding kept
keep_s p s (gives t) w h = h t refl
keep_s p s (refused n) w h = w

-- the same for a pick
keep_p : (p : Profile) (s : State) (o : Answer Pick) → WF p s → ((k : Pick) → o ≡ gives k → WF p k.after) → WF p (kept_pick s o)
unfolding kept_pick
keep_p p s (gives k) w h = h k refl
keep_p p s (refused n) w h = w

-- a history keeps a state well-formed
pub run_formed : (p : Profile) (s : State) (cs : List Call) → WordCalls cs → WF p s → WF p (run p s cs)
unfolding run after
run_formed p s [] h w = w
run_formed p s (edits e ∷ cs) h w = run_formed p (kept s (edit p s e)) cs h.1 (keep_s p s (edit p s e) w (λ t q. edit_keeps p s e t h.0 q))
run_formed p s (picks_size m ∷ cs) h w = run_formed p (kept_pick s (size_pick p s m)) cs h (keep_p p s (size_pick p s m) w (size_keeps p s m))
run_formed p s (picks_range m l a b ∷ cs) h w = run_formed p (kept_pick s (manual_pick p s m l a b)) cs h (keep_p p s (manual_pick p s m l a b) w (range_keeps p s m l a b))
run_formed p s (counts c ∷ cs) h w = run_formed p (kept s (counter p s c)) cs h (keep_s p s (counter p s c) w (λ t q. count_keeps p s c t q))

-- ---- the fresh store
-- an empty level is in order
empty_ordered : (l : ℕ) → in_order l [] ≡ true
unfolding in_order chain
empty_ordered zero = refl
empty_ordered (suc l) = refl

-- empty levels are in order
empties_ordered : (n l : ℕ) → levelwise in_order l (replicate n []) ≡ true
unfolding levelwise
empties_ordered zero l = refl
empties_ordered (suc n) l = both (in_order l []) (levelwise in_order (suc l) (replicate n [])) (empty_ordered l) (empties_ordered n (suc l))

-- a fresh store is well-formed
pub fresh_formed : (p : Profile) → WF p (fresh p)
unfolding fresh five_of good_pointer distinct numbers
fresh_formed p = record {
  levels = length-replicate p.levels [];
  good = λ f m. absurd (nowhere f m);
  words = λ f m. absurd (nowhere f m);
  distinct_numbers = rw join_empties;
  room = rw join_empties (omega arith);
  ordered = empties_ordered p.levels 0;
  pointer_levels = length-replicate p.levels none;
  pointers = λ o m. rw (in_replicate p.levels none o m);
  counters = λ n m. small n m;
}
  where
    nowhere : (f : File) → In f (join (replicate p.levels [])) → ⊥
    nowhere f m = not-nil (subst (λ (fs : List File). In f fs) (join_empties p.levels) m)

    small : (n : ℕ) → In n (2 ∷ 0 ∷ 0 ∷ 0 ∷ 0 ∷ []) → n ≤ max_counter
    small n (here e) = omega arith
    small n (there (here e)) = omega arith
    small n (there (there (here e))) = omega arith
    small n (there (there (there (here e)))) = omega arith
    small n (there (there (there (there (here e))))) = omega arith
    small n (there (there (there (there (there z))))) = absurd (not-nil z)

-- the pointer that a history of a fresh store leaves, by its accepted calls
left_pointer : (p : Profile) (h : List Call) (l : ℕ) → l < p.levels → pointer (run p (fresh p) h) l ≡ pointer_left (events p (fresh p) h) l none
unfolding fresh pointer
left_pointer p h l i = run_pointers p (fresh p) h l (rw length-replicate i) ∙ ap (λ (o : Option Key). pointer_left (events p (fresh p) h) l o) (get_or_same p.levels l none)

-- ---- demand 3
-- two histories write the same bytes exactly when they leave the same
pub demand_3 : (p : Profile) → Fits p → (h k : List Call) → WordCalls h → WordCalls k → encode (run p (fresh p) h) ≡ encode (run p (fresh p) k) ↔ SameLeft p h k
unfolding pointer level
demand_3 p fit h k wh wk = (λ e. from e, λ d. to d)
  where
    s : State
    s = run p (fresh p) h

    t : State
    t = run p (fresh p) k

    ws : WF p s
    ws = run_formed p (fresh p) h wh (fresh_formed p)

    wt : WF p t
    wt = run_formed p (fresh p) k wk (fresh_formed p)

    from : encode s ≡ encode t → SameLeft p h k
    from e =
        let w = encode_apart s t (storable p s fit ws) (storable p t fit wt) (ws.pointer_levels ∙ sym wt.pointer_levels) e in
        record {
          files = λ l i f.
              let same = w.levels l (omega (arith, fit.levels)) in (
                λ a. (fresh_stays p k l i f).0 ((sort_in by_number (level t l) f).0 (subst (λ (fs : List File). In f fs) same ((sort_in by_number (level s l) f).1 ((fresh_stays p h l i f).1 a)))),
                λ a. (fresh_stays p h l i f).0 ((sort_in by_number (level s l) f).0 (subst (λ (fs : List File). In f fs) (sym same) ((sort_in by_number (level t l) f).1 ((fresh_stays p k l i f).1 a)))),
              );
          pointers = λ l i. sym (left_pointer p h l i) ∙ at_pointer w l ∙ left_pointer p k l i;
          counters = sym (run_counters p (fresh p) h) ∙ w.counters ∙ run_counters p (fresh p) k;
        }
      where
        at_pointer : SameWritten s t → (l : ℕ) → pointer s l ≡ pointer t l
        at_pointer w l = ap (λ (ps : List (Option Key)). get_or ps l none) w.pointers

    to : SameLeft p h k → encode s ≡ encode t
    to d = same_bytes_lem s t (run_counters p (fresh p) h ∙ d.counters ∙ sym (run_counters p (fresh p) k))
        (ext_get_or none s.pointers t.pointers (ws.pointer_levels ∙ sym wt.pointer_levels)
        (λ l i. left_pointer p h l (omega (arith, ws.pointer_levels)) ∙ d.pointers l (omega (arith, ws.pointer_levels)) ∙ sym (left_pointer p k l (omega (arith, ws.pointer_levels)))))
        (λ l. go l (ltb l p.levels) refl)
      where
        go : (l : ℕ) (b : Bool) → ltb l p.levels ≡ b → sort by_number (level s l) ≡ sort by_number (level t l)
        go l true e = let i = ltb-true l p.levels e in
            same_by_number (level s l) (level t l) (distinct_level s.files l ws.distinct_numbers) (distinct_level t.files l wt.distinct_numbers)
            (λ f. (λ m. (fresh_stays p k l i f).1 ((d.files l i f).0 ((fresh_stays p h l i f).0 m)), λ m. (fresh_stays p h l i f).1 ((d.files l i f).1 ((fresh_stays p k l i f).0 m))))
        go l false e =
            let i = ltb-false l p.levels e in
            let a : level s l ≡ [] = get_or-eq_default s.files [] (omega (arith, ws.levels)) in
            let b : level t l ≡ [] = get_or-eq_default t.files [] (omega (arith, wt.levels)) in
            rw (a, b)
