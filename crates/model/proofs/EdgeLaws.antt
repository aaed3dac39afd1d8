-- Laws of completed lists in picks, and their promise: after an accepted pick no file left at the compacted level, nor at the next, has in its range an older key of
-- an input's last user key. Assumes nothing.
use Rattle.std.specs.Prelude.{ℕ, zero, suc, ◌≡◌, refl, true, false}
use Rattle.std.proofs.Common.{sym, subst}
use mathlib.Core.List.Memᴰ.{append_left as in_left}
use mathlib.Core.List.Memᴰ.{map as in_map}
use mathlib.Core.List.{List, ◌++◌, map, Memᴰ as In}
use Rattle.lemmas.specs.ListLaws.{keep_in, join_in, neither, neither_left, neither_right}
use Rattle.model.specs.Key.{Key, user, user_before, before}
use Rattle.model.specs.KeyLaws.{user_before_order, before_user}
use Rattle.model.specs.Answer.{gives}
use Rattle.model.specs.File.{Profile, File, State, level, set_pointer}
use Rattle.model.specs.Edit.{Deletion}
use Rattle.model.specs.Range.{Range, overlaps, widen, overlapping, high_key, range_of}
use Rattle.model.specs.Completion.{inputs}
use Rattle.model.specs.Pick.{Cause, Picked, Pick, grand_of, complete, size_pick, manual_pick, input_deletions}
use Rattle.model.specs.Question.{holds}
use Rattle.model.proofs.RangeLaws.{overlaps_says, inside_says, widen_least}
use Rattle.model.proofs.Formed.{WF, good_file_order}
use Rattle.model.proofs.LineLaws.{level_line}
use Rattle.model.proofs.CompletionLaws.{spans_says, NoOlderLeft, completed_none_left}
use Rattle.model.proofs.PickLaws.{complete_after, FormedAt, InLine, level_in_line, inputs_formed, grown_formed, Begun, size_begun, range_begun}

-- ---- at level 0, by the widening
-- no file left has a user key in common with an input
pub widened_none_shared : (fs : List File) (r : Range) (f g : File) (u : List ℕ) → In f fs → (In f (overlapping 0 fs r) → ⊥) → In g (overlapping 0 fs r) → holds u f ≡ true → holds u g ≡ true → ⊥
unfolding overlapping holds
widened_none_shared fs r f g u m out i hf hg =
    let w = widen fs r in
    let k = (keep_in (overlaps w) fs g).0 i in
    let q = (inside_says w g).0 ((widen_least fs r).closed g k.0 k.1) in
    let low = user_before_order.ntrans u (user g.smallest) w.start (neither_left (user_before u (user g.smallest)) (user_before (user g.largest) u) hg) q.left in
    let high = user_before_order.ntrans w.stop (user g.largest) u q.right (neither_right (user_before u (user g.smallest)) (user_before (user g.largest) u) hg) in
    out ((keep_in (overlaps w) fs f).1 (
      m,
      (overlaps_says w f).1 record {
        left = user_before_order.ntrans (user f.largest) u w.start (neither_right (user_before u (user f.smallest)) (user_before (user f.largest) u) hf) low;
        right = user_before_order.ntrans w.stop u (user f.smallest) high (neither_left (user_before u (user f.smallest)) (user_before (user f.largest) u) hf);
      },
    ))

-- so no file left has an older key of an input's last user key
widened_none_left : (fs : List File) (r : Range) → ((f : File) → In f fs → before f.largest f.smallest ≡ false) → NoOlderLeft fs (overlapping 0 fs r)
unfolding holds overlapping
widened_none_left fs r good f g k m out i s a u =
    let sp = (spans_says f k).0 s in
    let own = before_user g.smallest g.largest (good g ((keep_in (overlaps (widen fs r)) fs g).0 i).0) in
    widened_none_shared fs r f g (user k) m out i
    (neither (user_before (user k) (user f.smallest)) (user_before (user f.largest) (user k)) (before_user f.smallest k sp.low) (before_user k f.largest sp.high))
    (neither (user_before (user k) (user g.smallest)) (user_before (user g.largest) (user k)) (rw u own) (rw u (user_before_order.irrefl (user g.largest))))

-- ---- at any level
-- a list that is so formed leaves none
pub formed_none_left : (l : ℕ) (fs xs : List File) → ((f : File) → In f fs → before f.largest f.smallest ≡ false) → InLine l fs → FormedAt l fs xs → NoOlderLeft fs xs
formed_none_left zero fs xs good i h = subst (λ (zs : List File). NoOlderLeft fs zs) (sym h.1) (widened_none_left fs h.0 good)
formed_none_left (suc l) fs xs good i h = subst (λ (zs : List File). NoOlderLeft fs zs) (sym h.2) (completed_none_left fs h.0 i h.1)

-- how the lists of a picked answer are formed
pub record FormedPick (s : State) (c : Picked) : Type 0 where
  pub first : FormedAt c.level (level s c.level) c.first
  pub second : FormedAt (suc c.level) (level s (suc c.level)) c.second

-- the lists of a pick are so formed
complete_formed : (p : Profile) (s : State) (m : ℕ) (c : Cause) (l : ℕ) (first : List File) → WF p s → FormedAt l (level s l) first → FormedPick s (complete p s m c l first).picked
unfolding complete
complete_formed p s m c l first w h =
    let second = inputs (suc l) (level s (suc l)) (range_of first) in
    record { first = grown_formed s m l first second (level_in_line p s l w) h; second = inputs_formed (suc l) (level s (suc l)) (range_of first) (level_line p s l w) }

-- so are those of an accepted pick
pub pick_formed : (p : Profile) (s : State) (m : ℕ) (k : Pick) → Begun p s m k → FormedPick s k.picked
pick_formed p s m k b = subst (λ (x : Pick). FormedPick s x.picked) b.result (complete_formed p s m b.cause b.from b.first b.well b.formed)

-- ---- the promise
-- no file left at the compacted level has in its range a key that sorts after a first input's largest with the same user key. None left at the next level has one that
-- so sorts after a second input's largest
pub record NoneLeft (s : State) (c : Picked) : Type 0 where
  pub first : NoOlderLeft (level s c.level) c.first
  pub second : NoOlderLeft (level s (suc c.level)) c.second

-- a pick whose lists are so formed keeps it
formed_keeps : (p : Profile) (s : State) (c : Picked) → WF p s → FormedPick s c → NoneLeft s c
unfolding level
formed_keeps p s c w h = record {
  first = formed_none_left c.level (level s c.level) c.first (λ f i. good_file_order p f (w.good f (join_in s.files c.level f i))) (level_in_line p s c.level w) h.first;
  second = formed_none_left (suc c.level) (level s (suc c.level)) c.second (λ f i. good_file_order p f (w.good f (join_in s.files (suc c.level) f i))) (level_line p s c.level w) h.second;
}

-- a pointer that is set moves no file
pointed_none_left : (s : State) (l : ℕ) (x : Key) (c : Picked) → NoneLeft s c → NoneLeft (set_pointer s l x) c
unfolding set_pointer level
pointed_none_left s l x c h = record { first = h.first; second = h.second }

-- after an accepted pick
pub pick_none_left : (p : Profile) (s : State) (m : ℕ) (k : Pick) → Begun p s m k → NoneLeft k.after k.picked
pick_none_left p s m k b =
    let after : k.after ≡ set_pointer s k.picked.level (high_key k.picked.first) =
    subst (λ (x : Pick). x.after ≡ set_pointer s x.picked.level (high_key x.picked.first)) b.result (complete_after p s m b.cause b.from b.first) in
    subst (λ (t : State). NoneLeft t k.picked) (sym after)
    (pointed_none_left s k.picked.level (high_key k.picked.first) k.picked (formed_keeps p s k.picked b.well (pick_formed p s m k b)))

-- after an accepted size pick
pub size_none_left : (p : Profile) (s : State) (m : ℕ) (k : Pick) → size_pick p s m ≡ gives k → NoneLeft k.after k.picked
size_none_left p s m k h = pick_none_left p s m k (size_begun p s m k h)

-- after an accepted manual pick
pub range_none_left : (p : Profile) (s : State) (m l : ℕ) (a b : Key) (k : Pick) → manual_pick p s m l a b ≡ gives k → NoneLeft k.after k.picked
range_none_left p s m l a b k h = pick_none_left p s m k (range_begun p s m l a b k h)

-- at level 0 more holds: no file left has any user key in common with a first input
pub level_0_none_shared : (s : State) (c : Picked) → FormedPick s c → c.level ≡ 0 → (f g : File) (u : List ℕ) → In f (level s 0) → (In f c.first → ⊥) → In g c.first → holds u f ≡ true → holds u g ≡ true → ⊥
level_0_none_shared s c h z f g u m out i hf hg =
    let q : FormedAt 0 (level s 0) c.first = subst (λ (l : ℕ). FormedAt l (level s l) c.first) z h.first in
    widened_none_shared (level s 0) q.0 f g u m (λ j. out (subst (λ (zs : List File). In f zs) (sym q.1) j)) (subst (λ (zs : List File). In g zs) q.1 i) hf hg

-- a file that the input deletions do not name is left: so the promise is read from them
pub unnamed_left : (c : Picked) (f : File) → (In {A = Deletion} (record { level = c.level; number = f.number }) (input_deletions c) → ⊥) → In f c.first → ⊥
unfolding input_deletions
unnamed_left c f out i = out (in_left (map (λ (g : File). record { level = suc c.level; number = g.number }) c.second) (in_map (λ (g : File). record { level = c.level; number = g.number }) i))

-- ---- grandparents go by the completed lists, and are not completed themselves
complete_grand : (p : Profile) (s : State) (m : ℕ) (c : Cause) (l : ℕ) (first : List File)
    → (complete p s m c l first).picked.grand ≡ grand_of p s l (range_of ((complete p s m c l first).picked.first ++ (complete p s m c l first).picked.second))
unfolding complete
complete_grand p s m c l first = refl

-- those of an accepted pick
pub pick_grand : (p : Profile) (s : State) (m : ℕ) (k : Pick) → Begun p s m k → k.picked.grand ≡ grand_of p s k.picked.level (range_of (k.picked.first ++ k.picked.second))
unfolding complete
pick_grand p s m k b =
    subst (λ (x : Pick). x.picked.grand ≡ grand_of p s x.picked.level (range_of (x.picked.first ++ x.picked.second))) b.result (complete_grand p s m b.cause b.from b.first)
