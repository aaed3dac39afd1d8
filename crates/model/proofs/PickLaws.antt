use Rattle.std.specs.Prelude.{ℕ, zero, suc, ◌+◌, ◌*◌, ◌^◌, ◌≤◌, ◌<◌, ◌≡◌, refl, ◌⊎◌, Bool, cond, true, false, not, ◌&&◌, eqb, ltb, length}
use Rattle.std.proofs.Common.{sym, ap, ◌∙◌, subst, inl, inr, eqb-true, ltb-true, lt-ltb, leb-true, length-set, arith}
use mathlib.Core.List.Memᴰ.{append_cases}
use mathlib.Core.List.Memᴰ.{append_left as in_left}
use mathlib.Core.List.Memᴰ.{head as here}
use mathlib.Core.List.Memᴰ.{not-nil}
use mathlib.Core.List.Memᴰ.{tail as there}
use mathlib.Core.List.{List, [], ◌∷◌, ◌++◌, Memᴰ as In, Option-to_list}
use Rattle.std.proofs.Math.Option.{Option, none, some, or_else}
use Rattle.std.proofs.lemmas.Bool.{not-false}
use Rattle.lemmas.specs.Order.{clash}
use Rattle.lemmas.specs.Lists.{keep, find, is_empty, sum}
use Rattle.lemmas.specs.ListLaws.{and_left, and_right, find_some, keep_in, join_in, set_in, Sub, sub_none, sub_keep, sub_in, sub_same, in_nonempty, longer_nonempty}
use Rattle.lemmas.specs.Runs.{Run, run_none, run_one, run_front, run_sub}
use Rattle.model.specs.Key.{Key, good_key, before}
use Rattle.model.specs.KeyLaws.{before_order, before_user}
use Rattle.model.specs.Answer.{gives, ◌⇒◌}
use Rattle.model.specs.File.{Profile, File, State, level, pointer, total, good_file, good_pointer, well_formed, set_pointer}
use Rattle.model.specs.Score.{byte_limit, score, level_to_compact, due, reported}
use Rattle.model.specs.Range.{Range, between, overlaps, Within, widen, overlapping, low_key, high_key, range_of}
use Rattle.model.specs.Pick.{first_file, start_file, size_inputs, up_to, manual_inputs, Cause, by_size, manual, Picked, Pick, grand_of, grows, grown_first, complete, bad_maximum, size_pick, manual_pick}
use Rattle.model.specs.AnswerLaws.{first_of_gives}
use Rattle.model.proofs.RangeLaws.{overlaps_says, overlaps_mono, widen_least, smallest_of, largest_of, low_fold, high_fold, lowest, highest}
use Rattle.model.proofs.Formed.{WF, formed_says, good_file_says, good_file_order}
use Rattle.model.specs.Completion.{completed, completed_at, inputs}
use Rattle.model.proofs.ScoreLaws.{ten_pow}
use Rattle.model.proofs.LineLaws.{Line, level_line}
use Rattle.model.proofs.CompletionLaws.{completed_run, completed_contains, completed_empty, completed_more, overlapping_run, inputs_run}

-- Laws of picks: what an accepted pick returns, that its inputs are files of their levels, and that it keeps a state well-formed. Assumes nothing.

-- ---- accepted picks
-- an accepted size pick: its result, and no refusal applies
pub record Sized (p : Profile) (s : State) (m : ℕ) (k : Pick) : Type 0 where
  pub result : complete p s m (by_size (reported (score s (level_to_compact p s)))) (level_to_compact p s)
      (size_inputs (level_to_compact p s) (pointer s (level_to_compact p s)) (level s (level_to_compact p s))) ≡ k
  pub formed : well_formed p s ≡ true
  pub maximum : bad_maximum m ≡ false
  pub is_due_lem : due (score s (level_to_compact p s)) ≡ true

-- a size pick that gives a result was accepted so
pub size_accepted : (p : Profile) (s : State) (m : ℕ) (k : Pick) → size_pick p s m ≡ gives k → Sized p s m k
unfolding size_pick ◌⇒◌
size_accepted p s m k h =
    let l = level_to_compact p s in
    let rs = (not (well_formed p s) ⇒ 14) ∷ (bad_maximum m ⇒ 9) ∷ (not (due (score s l)) ⇒ 10) ∷ [] in
    let a = first_of_gives rs (complete p s m (by_size (reported (score s l))) l (size_inputs l (pointer s l) (level s l))) k h in
    record {
      result = a.answer;
      formed = not-false (well_formed p s) (a.none_applies (not (well_formed p s) ⇒ 14) (here refl));
      maximum = a.none_applies (bad_maximum m ⇒ 9) (there (here refl));
      is_due_lem = not-false (due (score s l)) (a.none_applies (not (due (score s l)) ⇒ 10) (there (there (here refl))));
    }

-- an accepted manual pick: its result, and no refusal applies
pub record Ranged (p : Profile) (s : State) (m l : ℕ) (a b : Key) (k : Pick) : Type 0 where
  pub result : complete p s m manual l (manual_inputs m l (level s l) (between a b)) ≡ k
  pub formed : well_formed p s ≡ true
  pub in_levels : ltb l p.levels ≡ true
  pub maximum : bad_maximum m ≡ false
  pub not_last : eqb (suc l) p.levels ≡ false
  pub some_input : is_empty (manual_inputs m l (level s l) (between a b)) ≡ false

-- a manual pick that gives a result was accepted so
pub range_accepted : (p : Profile) (s : State) (m l : ℕ) (a b : Key) (k : Pick) → manual_pick p s m l a b ≡ gives k → Ranged p s m l a b k
unfolding manual_pick ◌⇒◌
range_accepted p s m l a b k h =
    let first = manual_inputs m l (level s l) (between a b) in
    let keys = good_key p.longest a && good_key p.longest b in
    let rs = (not (well_formed p s) ⇒ 14) ∷ (not (ltb l p.levels) ⇒ 1) ∷ (not keys ⇒ 2) ∷ (bad_maximum m ⇒ 9) ∷ (eqb (suc l) p.levels ⇒ 11) ∷ (is_empty first ⇒ 10) ∷ [] in
    let r = first_of_gives rs (complete p s m manual l first) k h in
    record {
      result = r.answer;
      formed = not-false (well_formed p s) (r.none_applies (not (well_formed p s) ⇒ 14) (here refl));
      in_levels = not-false (ltb l p.levels) (r.none_applies (not (ltb l p.levels) ⇒ 1) (there (here refl)));
      maximum = r.none_applies (bad_maximum m ⇒ 9) (there (there (there (here refl))));
      not_last = r.none_applies (eqb (suc l) p.levels ⇒ 11) (there (there (there (there (here refl)))));
      some_input = r.none_applies (is_empty first ⇒ 10) (there (there (there (there (there (here refl))))));
    }

-- a pick sets one pointer and nothing else
pub complete_after : (p : Profile) (s : State) (m : ℕ) (c : Cause) (l : ℕ) (first : List File)
    → (complete p s m c l first).after ≡ set_pointer s (complete p s m c l first).picked.level (high_key (complete p s m c l first).picked.first)
unfolding complete
complete_after p s m c l first = refl

-- an accepted size pick sets the pointer of its level to the first inputs' largest key
pub pick_after_size : (p : Profile) (s : State) (m : ℕ) (k : Pick) → size_pick p s m ≡ gives k → k.after ≡ set_pointer s k.picked.level (high_key k.picked.first)
pick_after_size p s m k h =
    let l = level_to_compact p s in
    subst (λ (x : Pick). x.after ≡ set_pointer s x.picked.level (high_key x.picked.first)) (size_accepted p s m k h).result
    (complete_after p s m (by_size (reported (score s l))) l (size_inputs l (pointer s l) (level s l)))

-- the same for a manual pick
pub pick_after_range : (p : Profile) (s : State) (m l : ℕ) (a b : Key) (k : Pick) → manual_pick p s m l a b ≡ gives k → k.after ≡ set_pointer s k.picked.level (high_key k.picked.first)
pick_after_range p s m l a b k h =
    subst (λ (x : Pick). x.after ≡ set_pointer s x.picked.level (high_key x.picked.first)) (range_accepted p s m l a b k h).result
    (complete_after p s m manual l (manual_inputs m l (level s l) (between a b)))

-- ---- every list of a pick is its level with some files left out
-- the files that overlap a range
pub overlapping_sub : (l : ℕ) (fs : List File) (r : Range) → Sub (overlapping l fs r) fs
unfolding overlapping
overlapping_sub zero fs r = sub_keep (overlaps (widen fs r)) fs
overlapping_sub (suc l) fs r = sub_keep (overlaps r) fs

-- a manual pick takes the file that brings the total above M, and none after it
pub stops_after : (m t : ℕ) (f : File) (fs : List File) → m < t + f.size → up_to m t (f ∷ fs) ≡ f ∷ []
unfolding up_to
stops_after m t f fs h = rw (lt-ltb m (t + f.size) h)

-- the files up to a total are a front
up_to_front : (m t : ℕ) (fs : List File) → (rest : List File) × (fs ≡ up_to m t fs ++ rest)
unfolding up_to
up_to_front m t [] = ([], refl)
up_to_front m t (f ∷ fs) = go (up_to_front m (t + f.size) fs) (ltb m (t + f.size))
  where
    go : (rest : List File) × (fs ≡ up_to m (t + f.size) fs ++ rest) → (b : Bool) → (rest : List File) × (f ∷ fs ≡ (f ∷ cond b [] (up_to m (t + f.size) fs)) ++ rest)
    go ih true = (fs, refl)
    go ih false = (ih.0, ap (λ (gs : List File). f ∷ gs) ih.1)

-- the first file of a list is in the list
first_in_lem : (fs : List File) (f : File) → first_file fs ≡ some f → In f fs
unfolding first_file
first_in_lem [] f e = let z : true ≡ false = cc in clash refl z
first_in_lem (g ∷ gs) f e = let q : f ≡ g = cc in here q

-- the start file is in the list
start_in_lem : (o : Option Key) (fs : List File) (f : File) → start_file o fs ≡ some f → In f fs
unfolding start_file or_else
start_in_lem none fs f e = first_in_lem fs f e
start_in_lem (some k) fs f e = go (find (λ h. before k h.largest) fs) refl e
  where
    go : (o : Option File) → find (λ h. before k h.largest) fs ≡ o → or_else o (first_file fs) ≡ some f → In f fs
    go none q r = first_in_lem fs f r
    go (some h) q r = let s : h ≡ f = cc in subst (λ (x : File). In x fs) s (find_some (λ h. before k h.largest) fs h q).1

-- as a run of one file
start_run : (o : Option Key) (fs : List File) → Run fs (Option-to_list (start_file o fs))
unfolding Option-to_list
start_run o fs = go (start_file o fs) refl
  where
    go : (r : Option File) → start_file o fs ≡ r → Run fs (Option-to_list r)
    go none e = run_none fs
    go (some f) e = run_one f fs (start_in_lem o fs f e)

-- ---- how an input list is formed
-- at level 0 by the widening of some range, above it from a run of neighbours that is then completed
abbrev pub FormedAt : ℕ → List File → List File → Type 0
FormedAt zero fs xs = (r : Range) × (xs ≡ overlapping 0 fs r)
FormedAt (suc l) fs xs = (ys : List File) × Run fs ys × (xs ≡ completed fs ys)

-- what is asked of the level: above level 0 it stands in line
abbrev pub InLine : ℕ → List File → Type 0
InLine zero fs = Unit {0}
InLine (suc l) fs = Line fs

-- a level of a well-formed state does
pub level_in_line : (p : Profile) (s : State) (l : ℕ) → WF p s → InLine l (level s l)
level_in_line p s zero w = tt
level_in_line p s (suc l) w = level_line p s l w

-- an input list has files of its level, in order
pub formed_sub : (l : ℕ) (fs xs : List File) → InLine l fs → FormedAt l fs xs → Sub xs fs
formed_sub zero fs xs i h = subst (λ (zs : List File). Sub zs fs) (sym h.1) (overlapping_sub 0 fs h.0)
formed_sub (suc l) fs xs i h = subst (λ (zs : List File). Sub zs fs) (sym h.2) (run_sub (completed_run fs h.0 i h.1))

-- above level 0 it is a run of neighbours
pub formed_run : (l : ℕ) (fs xs : List File) → Line fs → FormedAt (suc l) fs xs → Run fs xs
formed_run l fs xs i h = subst (λ (zs : List File). Run fs zs) (sym h.2) (completed_run fs h.0 i h.1)

-- the input list of a range
pub inputs_formed : (l : ℕ) (fs : List File) (r : Range) → InLine l fs → FormedAt l fs (inputs l fs r)
unfolding inputs completed_at
inputs_formed zero fs r i = (r, refl)
inputs_formed (suc l) fs r i = (overlapping (suc l) fs r, overlapping_run l fs r i, refl)

-- the first inputs of a size pick
pub size_formed : (l : ℕ) (o : Option Key) (fs : List File) → FormedAt l fs (size_inputs l o fs)
unfolding size_inputs
size_formed zero o fs = (range_of (Option-to_list (start_file o fs)), refl)
size_formed (suc l) o fs = (Option-to_list (start_file o fs), start_run o fs, refl)

-- the first inputs of a manual pick
pub manual_formed : (m l : ℕ) (fs : List File) (r : Range) → InLine l fs → FormedAt l fs (manual_inputs m l fs r)
unfolding manual_inputs
manual_formed m zero fs r i = (r, refl)
manual_formed m (suc l) fs r i =
    let found = overlapping (suc l) fs r in
    let front = up_to_front m 0 found in
    (up_to m 0 found, run_front fs (up_to m 0 found) front.0 (subst (λ (zs : List File). Run fs zs) front.1 (overlapping_run l fs r i)), refl)

-- a manual pick finds nothing just where no file overlaps its range
pub manual_empty : (m l : ℕ) (fs : List File) (r : Range) → is_empty (manual_inputs m l fs r) ≡ is_empty (overlapping l fs r)
unfolding manual_inputs up_to is_empty
manual_empty m zero fs r = refl
manual_empty m (suc l) fs r = completed_empty fs (up_to m 0 (overlapping (suc l) fs r)) ∙ go (overlapping (suc l) fs r)
  where
    go : (gs : List File) → is_empty (up_to m 0 gs) ≡ is_empty gs
    go [] = refl
    go (g ∷ gs) = refl

-- the first inputs after growth
pub grown_formed : (s : State) (m l : ℕ) (first second : List File) → InLine l (level s l) → FormedAt l (level s l) first → FormedAt l (level s l) (grown_first s m l first second)
unfolding grown_first
grown_formed s m l first second i h = go (grows m first second grown again)
  where
    grown : List File
    grown = inputs l (level s l) (range_of (first ++ second))

    again : List File
    again = inputs (suc l) (level s (suc l)) (range_of grown)

    go : (b : Bool) → FormedAt l (level s l) (cond b grown first)
    go true = inputs_formed l (level s l) (range_of (first ++ second)) i
    go false = h

-- the start file, and that it is in the list
record Start (o : Option Key) (fs : List File) : Type 0 where
  file : File
  among : In file fs
  alone : start_file o fs ≡ some file

-- a level with a file has a start file
start : (o : Option Key) (fs : List File) → is_empty fs ≡ false → Start o fs
unfolding is_empty start_file first_file or_else
start o [] e = clash refl e
start none (g ∷ gs) e = record { file = g; among = here refl; alone = refl }
start (some k) (g ∷ gs) e = go (find (λ f. before k f.largest) (g ∷ gs)) refl
  where
    go : (r : Option File) → find (λ f. before k f.largest) (g ∷ gs) ≡ r → Start (some k) (g ∷ gs)
    go none q = record { file = g; among = here refl; alone = rw q }
    go (some h) q = record { file = h; among = (find_some (λ f. before k f.largest) (g ∷ gs) h q).1; alone = rw q }

-- a file overlaps its own range
own_range : (p : Profile) (f : File) → good_file p f ≡ true → overlaps (range_of (f ∷ [])) f ≡ true
unfolding range_of between smallest_of largest_of
own_range p f h =
    let q = before_user f.smallest f.largest (good_file_order p f h) in
    (overlaps_says (range_of (f ∷ [])) f).1 record { left = rw low_fold q; right = rw high_fold q }

-- if work is due, the level has a file
pub due_nonempty : (s : State) (l : ℕ) → due (score s l) ≡ true → is_empty (level s l) ≡ false
unfolding due score byte_limit total sum is_empty
due_nonempty s zero h = go (level s 0) (leb-true 4 (length (level s 0)) h)
  where
    go : (fs : List File) → 4 ≤ length fs → is_empty fs ≡ false
    go [] i = absurd (omega arith)
    go (f ∷ fs) i = refl
due_nonempty s (suc l) h = go (level s (suc l)) (leb-true (10485760 * 10 ^ l) (total (level s (suc l))) h)
  where
    go : (fs : List File) → 10485760 * 10 ^ l ≤ total fs → is_empty fs ≡ false
    go [] i = absurd (none_is_0 i)
      where
        none_is_0 : 10485760 * 10 ^ l ≤ total [] → ⊥
        none_is_0 i = omega (arith, ten_pow l)
    go (f ∷ fs) i = refl

-- a size pick at a level with a file has a first input
pub size_nonempty : (p : Profile) (l : ℕ) (o : Option Key) (fs : List File) → ((f : File) → In f fs → good_file p f ≡ true) → is_empty fs ≡ false → is_empty (size_inputs l o fs) ≡ false
unfolding size_inputs overlapping Option-to_list
size_nonempty p zero o fs g e =
    let s = start o fs e in
    let f = s.file in
    let r = range_of (Option-to_list (start_file o fs)) in
    let own : overlaps r f ≡ true = rw s.alone (own_range p f (g f s.among)) in
    in_nonempty ((keep_in (overlaps (widen fs r)) fs f).1 (s.among, overlaps_mono r (widen fs r) f (widen_least fs r).contains own))
size_nonempty p (suc l) o fs g e = let s = start o fs e in completed_empty fs (Option-to_list (start_file o fs)) ∙ rw s.alone (in_nonempty (here {x = s.file} {xs = []} refl))

-- ---- an accepted pick of either kind
-- a pick that was made of first inputs: on a well-formed state, with a good maximum, from a list that was formed at its level and has a file
pub record Begun (p : Profile) (s : State) (m : ℕ) (k : Pick) : Type 0 where
  pub cause : Cause
  pub from : ℕ
  pub first : List File
  pub result : complete p s m cause from first ≡ k
  pub well : WF p s
  pub maximum : bad_maximum m ≡ false
  pub formed : FormedAt from (level s from) first
  pub some_input : is_empty first ≡ false

-- an accepted size pick was
unfoldable pub size_begun : (p : Profile) (s : State) (m : ℕ) (k : Pick) → size_pick p s m ≡ gives k → Begun p s m k
unfolding level
size_begun p s m k h =
    let a = size_accepted p s m k h in
    let w = (formed_says p s).0 a.formed in
    let l = level_to_compact p s in
    record {
      cause = by_size (reported (score s l));
      from = l;
      first = size_inputs l (pointer s l) (level s l);
      result = a.result;
      well = w;
      maximum = a.maximum;
      formed = size_formed l (pointer s l) (level s l);
      some_input = size_nonempty p l (pointer s l) (level s l) (λ f i. w.good f (join_in s.files l f i)) (due_nonempty s l a.is_due_lem);
    }

-- an accepted manual pick was
unfoldable pub range_begun : (p : Profile) (s : State) (m l : ℕ) (a b : Key) (k : Pick) → manual_pick p s m l a b ≡ gives k → Begun p s m k
range_begun p s m l a b k h =
    let r = range_accepted p s m l a b k h in
    let w = (formed_says p s).0 r.formed in
    record {
      cause = manual;
      from = l;
      first = manual_inputs m l (level s l) (between a b);
      result = r.result;
      well = w;
      maximum = r.maximum;
      formed = manual_formed m l (level s l) (between a b) (level_in_line p s l w);
      some_input = r.some_input;
    }

-- ---- growth
-- after growth there is still a first input
pub grown_nonempty : (s : State) (m l : ℕ) (first second : List File) → is_empty first ≡ false → is_empty (grown_first s m l first second) ≡ false
unfolding grown_first grows
grown_nonempty s m l first second h = go (grows m first second grown again) refl
  where
    grown : List File
    grown = inputs l (level s l) (range_of (first ++ second))

    again : List File
    again = inputs (suc l) (level s (suc l)) (range_of grown)

    go : (b : Bool) → grows m first second grown again ≡ b → is_empty (cond b grown first) ≡ false
    go true k =
        let a = not (is_empty second) in
        let b = ltb (length first) (length grown) in
        let c = ltb (total grown + total second) (25 * m) in
        let d = eqb (length again) (length second) in
        longer_nonempty (length first) grown (ltb-true (length first) (length grown) (and_right a b (and_left (a && b) c (and_left (a && b && c) d k))))
    go false k = h

-- ---- the pointer that a pick sets is a good key
-- the largest key of good files, from a good key on
largest_of_good : (p : Profile) (k : Key) (fs : List File) → good_key p.longest k ≡ true → ((f : File) → In f fs → good_file p f ≡ true) → good_key p.longest (largest_of k fs) ≡ true
unfolding largest_of
largest_of_good p k [] h g = h
largest_of_good p k (f ∷ fs) h g = largest_of_good p (cond (before k f.largest) f.largest k) fs (go (before k f.largest)) (λ x m. g x (there m))
  where
    go : (t : Bool) → good_key p.longest (cond t f.largest k) ≡ true
    go true = ((good_file_says p f).0 (g f (here refl))).largest
    go false = h

-- the high key of good files is good
high_key_good : (p : Profile) (fs : List File) → is_empty fs ≡ false → ((f : File) → In f fs → good_file p f ≡ true) → good_key p.longest (high_key fs) ≡ true
unfolding is_empty
high_key_good p [] e g = clash refl e
high_key_good p (f ∷ fs) e g = rw high_fold (largest_of_good p f.largest fs ((good_file_says p f).0 (g f (here refl))).largest (λ x m. g x (there m)))

-- the state that a pick leaves is well-formed
pub complete_keeps : (p : Profile) (s : State) (m : ℕ) (c : Cause) (l : ℕ) (first : List File) → WF p s → FormedAt l (level s l) first → is_empty first ≡ false → WF p (complete p s m c l first).after
unfolding complete set_pointer good_pointer level
complete_keeps p s m c l first w h e = record {
  levels = w.levels;
  good = w.good;
  words = w.words;
  distinct_numbers = w.distinct_numbers;
  room = w.room;
  ordered = w.ordered;
  pointer_levels = length-set s.pointers l (some (high_key picked)) ∙ w.pointer_levels;
  pointers = λ o i. go o (set_in s.pointers l (some (high_key picked)) o i);
  counters = w.counters;
}
  where
    second : List File
    second = inputs (suc l) (level s (suc l)) (range_of first)

    picked : List File
    picked = grown_first s m l first second

    line : InLine l (level s l)
    line = level_in_line p s l w

    key_good : good_key p.longest (high_key picked) ≡ true
    key_good = high_key_good p picked (grown_nonempty s m l first second e) (λ f i. w.good f (join_in s.files l f (sub_in f (formed_sub l (level s l) picked line (grown_formed s m l first second line h)) i)))

    go : (o : Option Key) → (o ≡ some (high_key picked)) ⊎ In o s.pointers → good_pointer p o ≡ true
    go o (inl q) = rw q key_good
    go o (inr i) = w.pointers o i

-- an accepted pick keeps a state well-formed
pub pick_keeps : (p : Profile) (s : State) (m : ℕ) (k : Pick) → Begun p s m k → WF p k.after
pick_keeps p s m k b = subst (λ (x : Pick). WF p x.after) b.result (complete_keeps p s m b.cause b.from b.first b.well b.formed b.some_input)

-- a size pick does
pub size_keeps : (p : Profile) (s : State) (m : ℕ) (k : Pick) → size_pick p s m ≡ gives k → WF p k.after
size_keeps p s m k h = pick_keeps p s m k (size_begun p s m k h)

-- a manual pick does
pub range_keeps : (p : Profile) (s : State) (m l : ℕ) (a b : Key) (k : Pick) → manual_pick p s m l a b ≡ gives k → WF p k.after
range_keeps p s m l a b k h = pick_keeps p s m k (range_begun p s m l a b k h)

-- ---- the lists of a picked answer
-- first inputs are files of the level, second inputs of the next, grandparents of the one after
pub record OfLevel (s : State) (c : Picked) : Type 0 where
  pub first : Sub c.first (level s c.level)
  pub second : Sub c.second (level s (suc c.level))
  pub grand : Sub c.grand (level s (c.level + 2))

-- grandparents are files of level + 2
grand_sub : (p : Profile) (s : State) (l : ℕ) (r : Range) → Sub (grand_of p s l r) (level s (l + 2))
unfolding grand_of
grand_sub p s l r = go (ltb (l + 2) p.levels)
  where
    go : (b : Bool) → Sub (cond b (overlapping (l + 2) (level s (l + 2)) r) []) (level s (l + 2))
    go true = overlapping_sub (l + 2) (level s (l + 2)) r
    go false = sub_none (level s (l + 2))

-- the lists of a pick are files of their levels
complete_of_level : (p : Profile) (s : State) (m : ℕ) (c : Cause) (l : ℕ) (first : List File) → WF p s → FormedAt l (level s l) first → OfLevel s (complete p s m c l first).picked
unfolding complete
complete_of_level p s m c l first w h =
    let second = inputs (suc l) (level s (suc l)) (range_of first) in
    let line = level_in_line p s l w in
    record {
      first = formed_sub l (level s l) (grown_first s m l first second) line (grown_formed s m l first second line h);
      second = run_sub (inputs_run l (level s (suc l)) (range_of first) (level_line p s l w));
      grand = grand_sub p s l (range_of (grown_first s m l first second ++ second));
    }

-- so are those of an accepted pick
pub pick_of_level : (p : Profile) (s : State) (m : ℕ) (k : Pick) → Begun p s m k → OfLevel s k.picked
pick_of_level p s m k b = subst (λ (x : Pick). OfLevel s x.picked) b.result (complete_of_level p s m b.cause b.from b.first b.well b.formed)

-- a pick from some first inputs has a first input
complete_nonempty : (p : Profile) (s : State) (m : ℕ) (c : Cause) (l : ℕ) (first : List File) → is_empty first ≡ false → is_empty (complete p s m c l first).picked.first ≡ false
unfolding complete
complete_nonempty p s m c l first e = grown_nonempty s m l first (inputs (suc l) (level s (suc l)) (range_of first)) e

-- an accepted pick has one
pub pick_nonempty : (p : Profile) (s : State) (m : ℕ) (k : Pick) → Begun p s m k → is_empty k.picked.first ≡ false
pick_nonempty p s m k b = subst (λ (x : Pick). is_empty x.picked.first ≡ false) b.result (complete_nonempty p s m b.cause b.from b.first b.some_input)

-- ---- growth keeps the second inputs: the files of level + 1 that overlap the final first inputs' range, completed, are exactly the second inputs
-- a list of good files lies in its own range
in_own_range : (fs : List File) → ((f : File) → In f fs → before f.largest f.smallest ≡ false) → (f : File) → In f fs → overlaps (range_of fs) f ≡ true
unfolding range_of between
in_own_range [] g f m = absurd (not-nil m)
in_own_range (x ∷ xs) g f m =
    let lo = (lowest x xs).least f m in
    let hi = (highest x xs).greatest f m in
    let own = g f m in
    (overlaps_says (range_of (x ∷ xs)) f).1 record {
      left = before_user (low_key (x ∷ xs)) f.largest (before_order.ntrans f.largest f.smallest (low_key (x ∷ xs)) own lo);
      right = before_user f.smallest (high_key (x ∷ xs)) (before_order.ntrans (high_key (x ∷ xs)) f.largest f.smallest hi own);
    }

-- the range of some files of a list is within the range of the list
range_within : (x y : File) (xs ys : List File) → ((f : File) → In f (x ∷ xs) → In f (y ∷ ys)) → Within (range_of (x ∷ xs)) (range_of (y ∷ ys))
unfolding range_of between
range_within x y xs ys h =
    let lo = lowest x xs in
    let hi = highest x xs in
    record {
      start = before_user (low_key (y ∷ ys)) (low_key (x ∷ xs)) (rw lo.is ((lowest y ys).least lo.file (h lo.file lo.among)));
      stop = before_user (high_key (x ∷ xs)) (high_key (y ∷ ys)) (rw hi.is ((highest y ys).greatest hi.file (h hi.file hi.among)));
    }

-- a file that overlaps the range is in the answer
overlapping_keeps : (l : ℕ) (fs : List File) (r : Range) (f : File) → In f fs → overlaps r f ≡ true → In f (overlapping l fs r)
unfolding overlapping
overlapping_keeps zero fs r f m o = (keep_in (overlaps (widen fs r)) fs f).1 (m, overlaps_mono r (widen fs r) f (widen_least fs r).contains o)
overlapping_keeps (suc l) fs r f m o = (keep_in (overlaps r) fs f).1 (m, o)

-- a file of the level that overlaps the range is among the inputs
inputs_keeps : (l : ℕ) (fs : List File) (r : Range) (f : File) → In f fs → overlaps r f ≡ true → In f (inputs l fs r)
unfolding inputs completed_at
inputs_keeps zero fs r f m o = overlapping_keeps 0 fs r f m o
inputs_keeps (suc l) fs r f m o = completed_contains fs (overlapping (suc l) fs r) f (overlapping_keeps (suc l) fs r f m o)

-- a wider range has more inputs
inputs_more : (l : ℕ) (fs : List File) (r v : Range) → Line fs → Within r v → Sub (inputs (suc l) fs r) (inputs (suc l) fs v)
unfolding inputs completed_at overlapping
inputs_more l fs r v i w = completed_more fs (keep (overlaps r) fs) (keep (overlaps v) fs) i (overlapping_run l fs r i) (overlapping_run l fs v i)
    (λ f m. let q = (keep_in (overlaps r) fs f).0 m in (keep_in (overlaps v) fs f).1 (q.0, overlaps_mono r v f w q.1))

-- the grown files have the first inputs among them
inputs_grown : (s : State) (l : ℕ) (first : List File) → ((f : File) → In f (level s l) → before f.largest f.smallest ≡ false) → Line (level s (suc l)) → Sub first (level s l)
    → (f : File) → In f first → In f (inputs l (level s l) (range_of (first ++ inputs (suc l) (level s (suc l)) (range_of first))))
inputs_grown s l first good line sub f i = inputs_keeps l (level s l) (range_of (first ++ second)) f (sub_in f sub i)
    (in_own_range (first ++ second) (λ g j. ordered g (append_cases first j)) f (in_left second i))
  where
    second : List File
    second = inputs (suc l) (level s (suc l)) (range_of first)

    ordered : (f : File) → In f first ⊎ In f second → before f.largest f.smallest ≡ false
    ordered f (inl i) = good f (sub_in f sub i)
    ordered f (inr i) = line.good f (sub_in f (run_sub (inputs_run l (level s (suc l)) (range_of first) line)) i)

-- growth keeps the first inputs
grown_keeps : (s : State) (m l : ℕ) (first : List File) → ((f : File) → In f (level s l) → before f.largest f.smallest ≡ false) → Line (level s (suc l)) → Sub first (level s l)
    → (f : File) → In f first → In f (grown_first s m l first (inputs (suc l) (level s (suc l)) (range_of first)))
unfolding grown_first
grown_keeps s m l first good line sub f i = go (grows m first second grown again)
  where
    second : List File
    second = inputs (suc l) (level s (suc l)) (range_of first)

    grown : List File
    grown = inputs l (level s l) (range_of (first ++ second))

    again : List File
    again = inputs (suc l) (level s (suc l)) (range_of grown)

    go : (b : Bool) → In f (cond b grown first)
    go true = inputs_grown s l first good line sub f i
    go false = i

-- what a pick starts from is among its first inputs
pub complete_starts : (p : Profile) (s : State) (m : ℕ) (c : Cause) (l : ℕ) (first : List File) → WF p s → FormedAt l (level s l) first → (f : File) → In f first → In f (complete p s m c l first).picked.first
unfolding complete level
complete_starts p s m c l first w h = grown_keeps s m l first (λ f i. good_file_order p f (w.good f (join_in s.files l f i))) (level_line p s l w) (formed_sub l (level s l) first (level_in_line p s l w) h)

-- the grown range has the same inputs of level + 1
same_overlap : (s : State) (m l : ℕ) (x : File) (xs : List File) → ((f : File) → In f (level s l) → before f.largest f.smallest ≡ false)
    → Line (level s (suc l)) → Sub (x ∷ xs) (level s l)
    → inputs (suc l) (level s (suc l)) (range_of (grown_first s m l (x ∷ xs) (inputs (suc l) (level s (suc l)) (range_of (x ∷ xs)))))
    ≡ inputs (suc l) (level s (suc l)) (range_of (x ∷ xs))
unfolding grown_first grows
same_overlap s m l x xs good line sub = go (grows m first second grown again) refl
  where
    first : List File
    first = x ∷ xs

    second : List File
    second = inputs (suc l) (level s (suc l)) (range_of first)

    grown : List File
    grown = inputs l (level s l) (range_of (first ++ second))

    again : List File
    again = inputs (suc l) (level s (suc l)) (range_of grown)

    wider : (gs : List File) → ((f : File) → In f first → In f gs) → Within (range_of first) (range_of gs)
    wider [] h = absurd (not-nil (h x (here refl)))
    wider (y ∷ ys) h = range_within x y xs ys h

    go : (b : Bool) → grows m first second grown again ≡ b → inputs (suc l) (level s (suc l)) (range_of (cond b grown first)) ≡ second
    go false e = refl
    go true e =
        let w = wider grown (inputs_grown s l first good line sub) in
        let a = not (is_empty second) && ltb (length first) (length grown) && ltb (total grown + total second) (25 * m) in
        let n = eqb-true (length again) (length second) (and_right a (eqb (length again) (length second)) e) in
        sym (sub_same (inputs_more l (level s (suc l)) (range_of first) (range_of grown) line w) (sym n))

-- for a pick from any first inputs
complete_second_same : (p : Profile) (s : State) (m : ℕ) (c : Cause) (l : ℕ) (first : List File) → WF p s → FormedAt l (level s l) first → is_empty first ≡ false
    → inputs (suc l) (level s (suc l)) (range_of (complete p s m c l first).picked.first) ≡ (complete p s m c l first).picked.second
unfolding complete is_empty level
complete_second_same p s m c l [] w h e = clash refl e
complete_second_same p s m c l (x ∷ xs) w h e = same_overlap s m l x xs
    (λ f i. good_file_order p f (w.good f (join_in s.files l f i))) (level_line p s l w) (formed_sub l (level s l) (x ∷ xs) (level_in_line p s l w) h)

-- the same for an accepted pick
pub pick_second_same : (p : Profile) (s : State) (m : ℕ) (k : Pick) → Begun p s m k
    → inputs (suc k.picked.level) (level s (suc k.picked.level)) (range_of k.picked.first) ≡ k.picked.second
unfolding complete
pick_second_same p s m k b = subst (λ (x : Pick). inputs (suc x.picked.level) (level s (suc x.picked.level)) (range_of x.picked.first) ≡ x.picked.second) b.result
    (complete_second_same p s m b.cause b.from b.first b.well b.formed b.some_input)
