-- Laws of completed lists: a run of neighbours stays one, nothing follows its largest key with the same user key, it is the least such run, and no older key is left. Assumes nothing.
use Rattle.std.specs.Prelude.{ℕ, suc, ◌≡◌, refl, ◌↔◌, ◌⊎◌, Bool, cond, true, false, not, ◌&&◌}
use Rattle.std.proofs.Common.{sym, ap, ◌∙◌, subst, inl, inr, arith}
use mathlib.Core.List.Memᴰ.{append_cases}
use mathlib.Core.List.Memᴰ.{append_left as in_left}
use mathlib.Core.List.Memᴰ.{head as here}
use mathlib.Core.List.Memᴰ.{not-nil}
use mathlib.Core.List.Memᴰ.{tail as there}
use mathlib.Core.List.{List, [], ◌∷◌, ◌++◌, Memᴰ as In, append-nil, append_assoc}
use Rattle.std.proofs.Math.Option.{none, some}
use Rattle.std.proofs.lemmas.Bool.{not-true}
use Rattle.lemmas.specs.Order.{clash, asym, le_lt, lt_le}
use Rattle.lemmas.specs.Lists.{push, keep, take_on, find, is_empty}
use Rattle.lemmas.specs.ListLaws.{and_left, and_right, both, neither_left, neither_right, find_some, find_none, keep_none, Sub, sub_none, sub_in, sub_length, sub_same}
use Rattle.lemmas.specs.Runs.{Run, to_left, within, to_right, Side, side, run_none, run_later, run_sub, sub_within}
use Rattle.model.specs.Key.{Key, user, user_before, before}
use Rattle.model.specs.KeyLaws.{user_before_order, before_order, before_user, user_same}
use Rattle.model.specs.File.{File}
use Rattle.model.specs.Range.{Range, overlaps, overlapping, high_key}
use Rattle.model.specs.Completion.{older_than, follows, following, completed, completed_at, inputs, spans}
use Rattle.model.proofs.RangeLaws.{overlaps_says, largest_of, high_fold, highest}
use Rattle.model.proofs.LineLaws.{Line, line_rest, line_first, line_right, run_after_left, run_before_right, line_once}

-- ---- the tests
-- one key sorts after another and has the same user key
pub record Older (k a : Key) : Type 0 where
  pub after : before a k ≡ true
  pub same_user : user k ≡ user a

-- the test says exactly that
pub older_says : (k a : Key) → older_than k a ≡ true ↔ Older k a
unfolding older_than
older_says k a =
    let b = not (user_before (user a) (user k)) in (
      λ h. let p = and_left (before a k) b h in
          record { after = p; same_user = user_same (user k) (user a) (before_user a k (asym before before_order a k p)) (not-true (user_before (user a) (user k)) (and_right (before a k) b h)) },
      λ o. both (before a k) b o.after (let q : user_before (user a) (user k) ≡ false = rw o.same_user (user_before_order.irrefl (user a)) in rw q),
    )

-- the key lies in the file's range
pub record Spans (f : File) (k : Key) : Type 0 where
  pub low : before k f.smallest ≡ false
  pub high : before f.largest k ≡ false

-- the test says exactly that
pub spans_says : (f : File) (k : Key) → spans f k ≡ true ↔ Spans f k
unfolding spans
spans_says f k = let a = before k f.smallest in let b = before f.largest k in
    (λ h. record { low = neither_left a b h; high = neither_right a b h }, λ o. both (not a) (not b) (rw o.low) (rw o.high))

-- a file follows a key exactly if its smallest key does
pub follows_says : (k : Key) (f : File) → follows k f ≡ true ↔ Older f.smallest k
unfolding follows
follows_says k f = older_says f.smallest k

-- a file that starts after the key, with a user key that is not later, follows it
pub follows_is : (k : Key) (f : File) → before k f.smallest ≡ true → user_before (user k) (user f.smallest) ≡ false → follows k f ≡ true
unfolding follows older_than
follows_is k f a b = both (before k f.smallest) (not (user_before (user k) (user f.smallest))) a (rw b)

-- a file that does not start after the key does not follow it
pub not_after_lem : (k : Key) (f : File) → before k f.smallest ≡ false → follows k f ≡ false
unfolding follows older_than
not_after_lem k f h = rw h

-- a file whose smallest key has a later user key does not follow it either
other_user : (k : Key) (f : File) → user_before (user k) (user f.smallest) ≡ true → follows k f ≡ false
unfolding follows older_than
other_user k f h = go (before k f.smallest)
  where
    go : (t : Bool) → (t && not (user_before (user k) (user f.smallest))) ≡ false
    go true = rw h
    go false = refl

-- a file that starts after the key and does not follow it has a later user key
later_user : (k : Key) (f : File) → before k f.smallest ≡ true → follows k f ≡ false → user_before (user k) (user f.smallest) ≡ true
unfolding follows older_than
later_user k f h n = go (user_before (user k) (user f.smallest)) refl
  where
    go : (t : Bool) → user_before (user k) (user f.smallest) ≡ t → user_before (user k) (user f.smallest) ≡ true
    go true e = e
    go false e = clash (both (before k f.smallest) (not (user_before (user k) (user f.smallest))) h (rw e)) n

-- of two files in line the first starts first
starts_rise : (f g : File) → before f.largest g.smallest ≡ true → before f.largest f.smallest ≡ false → before g.smallest f.smallest ≡ false
starts_rise f g a b = go (before g.smallest f.smallest) refl
  where
    go : (t : Bool) → before g.smallest f.smallest ≡ t → before g.smallest f.smallest ≡ false
    go false q = q
    go true q = clash (before_order.trans f.largest g.smallest f.smallest a q) b

-- the first ends first too
ends_fall : (f g : File) → before f.largest g.smallest ≡ true → before g.largest g.smallest ≡ false → before g.largest f.largest ≡ false
ends_fall f g a b = asym before before_order f.largest g.largest (lt_le before before_order f.largest g.smallest g.largest a b)

-- ---- the largest key as files are added
-- the largest key of two lists, going on from the largest so far
pub largest_append : (k : Key) (xs ys : List File) → largest_of k (xs ++ ys) ≡ largest_of (largest_of k xs) ys
unfolding largest_of
largest_append k [] ys = refl
largest_append k (x ∷ xs) ys = largest_append (cond (before k x.largest) x.largest k) xs ys

-- the largest key of a list and more files after it
pub high_append : (x : File) (xs ys : List File) → high_key ((x ∷ xs) ++ ys) ≡ largest_of (high_key (x ∷ xs)) ys
high_append x xs ys = high_fold x (xs ++ ys) ∙ largest_append x.largest xs ys ∙ ap (λ (k : Key). largest_of k ys) (sym (high_fold x xs))

-- ---- the files that follow
-- there are none if no file follows the key
pub following_none : (k : Key) (fs : List File) → ((f : File) → In f fs → follows k f ≡ false) → following k fs ≡ []
unfolding following push
following_none k [] h = refl
following_none k (f ∷ fs) h = rw (h f (here refl)) (following_none k fs (λ g m. h g (there m)))

-- files in front that do not follow are passed over
pub following_skip : (k : Key) (xs ys : List File) → ((f : File) → In f xs → follows k f ≡ false) → following k (xs ++ ys) ≡ following k ys
unfolding following push
following_skip k [] ys h = refl
following_skip k (x ∷ xs) ys h = rw (h x (here refl)) (following_skip k xs ys (λ g m. h g (there m)))

-- where the first file after the key does not follow it, no later one does
pub none_after : (k : Key) (f : File) (fs : List File) → Line (f ∷ fs) → before k f.smallest ≡ true → follows k f ≡ false → (g : File) → In g (f ∷ fs) → follows k g ≡ false
none_after k f fs l h e g (here q) = subst (λ (x : File). follows k x ≡ false) (sym q) e
none_after k f fs l h e g (there m) = other_user k g (lt_le user_before user_before_order (user k) (user f.smallest) (user g.smallest) (later_user k f h e)
    (before_user f.smallest g.smallest (starts_rise f g (line_first f g fs l m) (l.good f (here refl)))))

-- the files that follow are a front of what stands after the key, and none of the rest follows the last of them
pub record Front (k : Key) (fs : List File) : Type 0 where
  pub rest : List File
  pub is : fs ≡ following k fs ++ rest
  pub ends : (f : File) → In f rest → follows (largest_of k (following k fs)) f ≡ false

-- a level in line whose files all start after the key has such a front
pub following_front : (k : Key) (fs : List File) → Line fs → ((f : File) → In f fs → before k f.smallest ≡ true) → Front k fs
unfolding following push largest_of
following_front k [] l h = record { rest = []; is = refl; ends = λ f m. absurd (not-nil m) }
following_front k (f ∷ fs) l h = go (following_front f.largest fs (line_rest f fs l) (λ g m. line_first f g fs l m)) (follows k f) refl
  where
    start : before k f.smallest ≡ true
    start = h f (here refl)

    rises : before k f.largest ≡ true
    rises = lt_le before before_order k f.smallest f.largest start (l.good f (here refl))

    go : Front f.largest fs → (t : Bool) → follows k f ≡ t → Front k (f ∷ fs)
    go ih true e = record {
      rest = ih.rest;
      is = rw e (ap (λ (xs : List File). f ∷ xs) ih.is);
      ends = λ g m. rw (e, largest_of, rises) (ih.ends g m);
    }
    go ih false e =
        let each = none_after k f fs l start e in
        let z = following_none k fs (λ g m. each g (there m)) in
        record {
          rest = f ∷ fs;
          is = rw (e, z);
          ends = λ g m. rw (e, z) (each g m);
        }

-- ---- runs of neighbours and their largest key
-- no file of a run starts after the run's largest key
pub in_not_after : (fs : List File) (x : File) (xs : List File) → Line fs → Run fs (x ∷ xs) → (f : File) → In f (x ∷ xs) → before (high_key (x ∷ xs)) f.smallest ≡ false
in_not_after fs x xs l r f m = before_order.ntrans (high_key (x ∷ xs)) f.largest f.smallest ((highest x xs).greatest f m) (l.good f (sub_in f (run_sub r) m))

-- no file to its left does either
pub left_not_after : (fs : List File) (x : File) (xs : List File) → Line fs → (r : Run fs (x ∷ xs)) → (f : File) → In f r.left → before (high_key (x ∷ xs)) f.smallest ≡ false
left_not_after fs x xs l r f m = go (before (high_key (x ∷ xs)) f.smallest) refl
  where
    good : before f.largest f.smallest ≡ false
    good = l.good f (subst (λ (zs : List File). In f zs) (sym r.is) (in_left ((x ∷ xs) ++ r.right) m))

    go : (t : Bool) → before (high_key (x ∷ xs)) f.smallest ≡ t → before (high_key (x ∷ xs)) f.smallest ≡ false
    go false e = e
    go true e =
        let a = le_lt before before_order f.smallest f.largest x.smallest good (run_after_left fs (x ∷ xs) r f x l m (here refl)) in
        clash (before_order.trans (high_key (x ∷ xs)) f.smallest x.smallest e a) (in_not_after fs x xs l r x (here refl))

-- each file to its right does
pub right_after : (fs : List File) (x : File) (xs : List File) → Line fs → (r : Run fs (x ∷ xs)) → (f : File) → In f r.right → before (high_key (x ∷ xs)) f.smallest ≡ true
right_after fs x xs l r f m = let h = highest x xs in rw h.is (run_before_right fs (x ∷ xs) r h.file f l h.among m)

-- nothing in the level follows a list's largest key with the same user key
abbrev pub NoneFollows : List File → List File → Type 0
NoneFollows fs ys = (f : File) → In f fs → follows (high_key ys) f ≡ false

-- for a run it is enough that nothing to its right does
pub run_closed : (fs : List File) (x : File) (xs : List File) → Line fs → (r : Run fs (x ∷ xs)) → ((f : File) → In f r.right → follows (high_key (x ∷ xs)) f ≡ false) → NoneFollows fs (x ∷ xs)
run_closed fs x xs l r h f m = go (side r f m)
  where
    go : Side r f → follows (high_key (x ∷ xs)) f ≡ false
    go (to_left i) = not_after_lem (high_key (x ∷ xs)) f (left_not_after fs x xs l r f i)
    go (within i) = not_after_lem (high_key (x ∷ xs)) f (in_not_after fs x xs l r f i)
    go (to_right i) = h f i

-- ---- completed lists
-- a completed run: what was added stands next to its right, and nothing of the rest follows
record Ended (fs : List File) (x : File) (xs : List File) : Type 0 where
  more : List File
  is : completed fs (x ∷ xs) ≡ (x ∷ xs) ++ more
  run : Run fs ((x ∷ xs) ++ more)
  ends : NoneFollows fs ((x ∷ xs) ++ more)

-- the files to the right of a run stand in line
right_line : (fs xs : List File) → Line fs → (r : Run fs xs) → Line r.right
right_line fs xs l r = line_right xs r.right (line_right r.left (xs ++ r.right) (subst Line r.is l))

-- what is added stands to the right of the run
completed_right : (fs : List File) (x : File) (xs : List File) → Line fs → (r : Run fs (x ∷ xs)) → completed fs (x ∷ xs) ≡ (x ∷ xs) ++ following (high_key (x ∷ xs)) r.right
unfolding completed
completed_right fs x xs l r =
    let k = high_key (x ∷ xs) in
    let ys = x ∷ xs in
    ap (λ (zs : List File). ys ++ zs)
    (ap (following k) r.is ∙ following_skip k r.left (ys ++ r.right) (λ f m. not_after_lem k f (left_not_after fs x xs l r f m))
    ∙ following_skip k ys r.right (λ f m. not_after_lem k f (in_not_after fs x xs l r f m)))

-- the completed list ends so
ended : (fs : List File) (x : File) (xs : List File) → Line fs → Run fs (x ∷ xs) → Ended fs x xs
ended fs x xs l r =
    let k = high_key (x ∷ xs) in
    let ys = x ∷ xs in
    let front = following_front k r.right (right_line fs ys l r) (λ f m. right_after fs x xs l r f m) in
    let more = following k r.right in
    let wide : Run fs (ys ++ more) = record {
      left = r.left;
      right = front.rest;
      is = r.is ∙ ap (λ (zs : List File). r.left ++ (ys ++ zs)) front.is ∙ ap (λ (zs : List File). r.left ++ zs) (sym (append_assoc ys more front.rest));
    } in
    record {
      more = more;
      is = completed_right fs x xs l r;
      run = wide;
      ends = run_closed fs x (xs ++ more) l wide (λ f m. rw (high_append x xs more) (front.ends f m));
    }

-- the completed list of a run of neighbours is a run of neighbours
pub completed_run : (fs xs : List File) → Line fs → Run fs xs → Run fs (completed fs xs)
unfolding completed
completed_run fs [] l r = r
completed_run fs (x ∷ xs) l r = let e = ended fs x xs l r in subst (λ (ys : List File). Run fs ys) (sym e.is) e.run

-- it contains the list
pub completed_contains : (fs xs : List File) (f : File) → In f xs → In f (completed fs xs)
unfolding completed
completed_contains fs [] f m = m
completed_contains fs (x ∷ xs) f m = in_left (following (high_key (x ∷ xs)) fs) m

-- it is empty exactly if the list is
pub completed_empty : (fs xs : List File) → is_empty (completed fs xs) ≡ is_empty xs
unfolding completed is_empty
completed_empty fs [] = refl
completed_empty fs (x ∷ xs) = refl

-- nothing follows its largest key with the same user key
pub completed_closed : (fs xs : List File) → Line fs → Run fs xs → is_empty xs ≡ false → NoneFollows fs (completed fs xs)
unfolding is_empty
completed_closed fs [] l r h = clash refl h
completed_closed fs (x ∷ xs) l r h = let e = ended fs x xs l r in subst (λ (ys : List File). NoneFollows fs ys) (sym e.is) e.ends

-- what follows from a file of a closed run is in the run
following_within : (fs : List File) (z : File) (zs : List File) → Line fs → Run fs (z ∷ zs) → NoneFollows fs (z ∷ zs)
    → (g : File) → In g (z ∷ zs) → (gs : List File) → ((f : File) → In f gs → In f fs) → (f : File) → In f (following g.largest gs) → In f (z ∷ zs)
unfolding following push
following_within fs z zs l r c g i [] up f m = absurd (not-nil m)
following_within fs z zs l r c g i (h ∷ hs) up f m = go (λ g' i'. following_within fs z zs l r c g' i' hs (λ f m. up f (there m)) f) (follows g.largest h) refl m
  where
    caught : follows g.largest h ≡ true → Side r h → In h (z ∷ zs)
    caught e (within j) = j
    caught e (to_left j) =
        let a = before_order.trans g.largest h.smallest g.smallest ((follows_says g.largest h).0 e).after
        (le_lt before before_order h.smallest h.largest g.smallest (l.good h (up h (here refl))) (run_after_left fs (z ∷ zs) r h g l j i)) in
        clash a (l.good g (sub_in g (run_sub r) i))
    caught e (to_right j) =
        let o = (follows_says g.largest h).0 e in
        let k = high_key (z ∷ zs) in
        let u : user_before (user k) (user h.smallest) ≡ false = rw o.same_user (before_user g.largest k ((highest z zs).greatest g i)) in
        clash (follows_is k h (right_after fs z zs l r h j) u) (c h (up h (here refl)))

    go : ((g' : File) → In g' (z ∷ zs) → In f (following g'.largest hs) → In f (z ∷ zs)) → (t : Bool) → follows g.largest h ≡ t
        → In f (push t h (following (cond t h.largest g.largest) hs)) → In f (z ∷ zs)
    go ih false e n = ih g i n
    go ih true e (here q) = subst (λ (w : File). In w (z ∷ zs)) (sym q) (caught e (side r h (up h (here refl))))
    go ih true e (there n) = ih h (caught e (side r h (up h (here refl)))) n

-- it is the least: every closed run of neighbours that contains the list contains it
pub completed_least : (fs xs zs : List File) → Line fs → is_empty xs ≡ false → Run fs zs → NoneFollows fs zs → ((f : File) → In f xs → In f zs) → (f : File) → In f (completed fs xs) → In f zs
unfolding completed is_empty
completed_least fs [] zs l e r c h f m = clash refl e
completed_least fs (x ∷ xs) [] l e r c h f m = absurd (not-nil (h x (here refl)))
completed_least fs (x ∷ xs) (z ∷ zs) l e r c h f m = go (append_cases (x ∷ xs) m)
  where
    top : In f (following (high_key (x ∷ xs)) fs) → In f (following (highest x xs).file.largest fs)
    top n = rw (highest x xs).is at n

    go : In f (x ∷ xs) ⊎ In f (following (high_key (x ∷ xs)) fs) → In f (z ∷ zs)
    go (inl n) = h f n
    go (inr n) = following_within fs z zs l r c (highest x xs).file (h (highest x xs).file (highest x xs).among) fs (λ g i. i) f (top n)

-- the least closed list: a run of neighbours that contains the list, after which no file follows, and that is within every such run
pub record LeastClosed (fs xs ys : List File) : Type 0 where
  pub run : Run fs ys
  pub contains : (f : File) → In f xs → In f ys
  pub closed : NoneFollows fs ys
  pub least : (zs : List File) → Run fs zs → ((f : File) → In f xs → In f zs) → NoneFollows fs zs → (f : File) → In f ys → In f zs

-- the completed list is one
pub completed_is : (fs xs : List File) → Line fs → Run fs xs → is_empty xs ≡ false → LeastClosed fs xs (completed fs xs)
completed_is fs xs l r e = record {
  run = completed_run fs xs l r;
  contains = λ f m. completed_contains fs xs f m;
  closed = completed_closed fs xs l r e;
  least = λ zs r' h c f m. completed_least fs xs zs l e r' c h f m;
}

-- parts of a level in line that have the same files are the same
pub same_parts : (fs xs ys : List File) → Line fs → Sub xs fs → Sub ys fs → ((f : File) → In f xs → In f ys) → ((f : File) → In f ys → In f xs) → xs ≡ ys
same_parts fs xs ys l s t h k =
    let a = sub_within (line_once fs l) s t h in
    let b = sub_within (line_once fs l) t s k in
    sub_same a (omega (arith, sub_length a, sub_length b))

-- no other list is
pub one_completion : (fs xs ys : List File) → Line fs → Run fs xs → is_empty xs ≡ false → LeastClosed fs xs ys → ys ≡ completed fs xs
one_completion fs xs ys l r e c =
    let d = completed_is fs xs l r e in
    same_parts fs ys (completed fs xs) l (run_sub c.run) (run_sub d.run)
    (c.least (completed fs xs) d.run d.contains d.closed) (d.least ys c.run c.contains c.closed)

-- the completed list of a run with more files has no fewer
pub completed_more : (fs xs ys : List File) → Line fs → Run fs xs → Run fs ys → ((f : File) → In f xs → In f ys) → Sub (completed fs xs) (completed fs ys)
unfolding completed is_empty
completed_more fs [] ys l r t h = sub_none (completed fs ys)
completed_more fs (x ∷ xs) [] l r t h = absurd (not-nil (h x (here refl)))
completed_more fs (x ∷ xs) (y ∷ ys) l r t h =
    let a = completed_run fs (x ∷ xs) l r in
    let b = completed_run fs (y ∷ ys) l t in
    sub_within (line_once fs l) (run_sub a) (run_sub b)
    (completed_least fs (x ∷ xs) (completed fs (y ∷ ys)) l refl b (completed_closed fs (y ∷ ys) l t refl) (λ f m. completed_contains fs (y ∷ ys) f (h f m)))

-- ---- step by step, as the request says it
-- one file more, whose largest is after the key
pub taller : (k : Key) (f : File) → before k f.largest ≡ true → largest_of k (f ∷ []) ≡ f.largest
unfolding largest_of
taller k f h = rw h

-- the first file that follows, then what follows its largest key in the whole level
next : (fs : List File) (k : Key) (f : File) → Line fs → find (follows k) fs ≡ some f → following k fs ≡ f ∷ following f.largest fs
unfolding following push find
next [] k f l e = let z : true ≡ false = cc in clash refl z
next (g ∷ gs) k f l e = go (next gs k f (line_rest g gs l)) (follows k g) refl e
  where
    own : follows g.largest g ≡ false
    own = not_after_lem g.largest g (l.good g (here refl))

    go : (find (follows k) gs ≡ some f → following k gs ≡ f ∷ following f.largest gs) → (t : Bool) → follows k g ≡ t → cond t (some g) (find (follows k) gs) ≡ some f
        → push t g (following (cond t g.largest k) gs) ≡ f ∷ push (follows f.largest g) g (following (cond (follows f.largest g) g.largest f.largest) gs)
    go ih true t e = let q : g ≡ f = cc in subst (λ (x : File). g ∷ following g.largest gs ≡ x ∷ push (follows x.largest g) g (following (cond (follows x.largest g) g.largest x.largest) gs)) q (rw own)
    go ih false t e =
        let m = (find_some (follows k) gs f e).1 in
        let n : follows f.largest g ≡ false = not_after_lem f.largest g (before_order.ntrans f.largest f.smallest g.smallest (l.good f (there m)) (starts_rise g f (line_first g f gs l m) (l.good g (here refl)))) in
        rw n (ih e)

-- if no file follows the list's largest key with the same user key, nothing is added
pub completed_ends : (fs xs : List File) → find (follows (high_key xs)) fs ≡ none → completed fs xs ≡ xs
unfolding completed
completed_ends fs [] e = refl
completed_ends fs (x ∷ xs) e = rw (following_none (high_key (x ∷ xs)) fs (λ f m. find_none (follows (high_key (x ∷ xs))) fs f e m)) (append-nil (x ∷ xs))

-- if one does, the first that does is added, and the list with it is completed
pub completed_adds : (fs xs : List File) (f : File) → Line fs → is_empty xs ≡ false → find (follows (high_key xs)) fs ≡ some f → completed fs xs ≡ completed fs (xs ++ (f ∷ []))
unfolding completed is_empty
completed_adds fs [] f l h e = clash refl h
completed_adds fs (x ∷ xs) f l h e =
    let k = high_key (x ∷ xs) in
    let n = find_some (follows k) fs f e in
    let high : high_key ((x ∷ xs) ++ (f ∷ [])) ≡ f.largest = high_append x xs (f ∷ []) ∙ taller k f (lt_le before before_order k f.smallest f.largest ((follows_says k f).0 n.0).after (l.good f n.1)) in
    ap (λ (zs : List File). (x ∷ xs) ++ zs) (next fs k f l e) ∙ ap (λ (q : Key). (x ∷ xs) ++ (f ∷ following q fs)) (sym high) ∙ sym (append_assoc (x ∷ xs) (f ∷ []) (following (high_key ((x ∷ xs) ++ (f ∷ []))) fs))

-- ---- file by file, as a loop goes
-- the files that follow a list's largest key are those taken as long as the next file follows the largest key so far
following_on : (x : File) (xs fs : List File) → Line fs → ((f : File) → In f fs → before (high_key (x ∷ xs)) f.smallest ≡ true)
    → following (high_key (x ∷ xs)) fs ≡ take_on (λ ys f. follows (high_key ys) f) (x ∷ xs) fs
unfolding following push take_on
following_on x xs [] l h = refl
following_on x xs (f ∷ fs) l h = go (follows (high_key (x ∷ xs)) f) refl (following_on x (xs ++ (f ∷ [])) fs (line_rest f fs l))
  where
    start : before (high_key (x ∷ xs)) f.smallest ≡ true
    start = h f (here refl)

    -- with the file added, its largest key is the largest of all
    high : high_key (x ∷ (xs ++ (f ∷ []))) ≡ f.largest
    high = high_append x xs (f ∷ []) ∙ taller (high_key (x ∷ xs)) f (lt_le before before_order (high_key (x ∷ xs)) f.smallest f.largest start (l.good f (here refl)))

    go : (t : Bool) → follows (high_key (x ∷ xs)) f ≡ t
        → (((g : File) → In g fs → before (high_key (x ∷ (xs ++ (f ∷ [])))) g.smallest ≡ true) → following (high_key (x ∷ (xs ++ (f ∷ [])))) fs ≡ take_on (λ ys f. follows (high_key ys) f) (x ∷ (xs ++ (f ∷ []))) fs)
        → push t f (following (cond t f.largest (high_key (x ∷ xs))) fs) ≡ cond t (f ∷ take_on (λ ys f. follows (high_key ys) f) (x ∷ (xs ++ (f ∷ []))) fs) []
    go true e ih = ap (λ (zs : List File). f ∷ zs) (ap (λ (k : Key). following k fs) (sym high) ∙ ih (λ g m. rw high (line_first f g fs l m)))
    go false e ih = following_none (high_key (x ∷ xs)) fs (λ g m. none_after (high_key (x ∷ xs)) f fs l start e g (there m))

-- so a run of neighbours is completed by going on at its right end
pub completed_on : (fs : List File) (x : File) (xs : List File) → Line fs → (r : Run fs (x ∷ xs)) → completed fs (x ∷ xs) ≡ (x ∷ xs) ++ take_on (λ ys f. follows (high_key ys) f) (x ∷ xs) r.right
completed_on fs x xs l r =
    completed_right fs x xs l r ∙ ap (λ (zs : List File). (x ∷ xs) ++ zs) (following_on x xs r.right (right_line fs (x ∷ xs) l r) (λ f m. right_after fs x xs l r f m))

-- ---- the overlapping files of a level in line are a run of neighbours
-- if no file ends before the range, those that overlap stand in front
overlapping_front : (fs : List File) (r : Range) → Line fs → ((f : File) → In f fs → user_before (user f.largest) r.start ≡ false) → (rest : List File) × (fs ≡ keep (overlaps r) fs ++ rest)
unfolding keep push
overlapping_front [] r l h = ([], refl)
overlapping_front (f ∷ fs) r l h = go (overlapping_front fs r (line_rest f fs l) (λ g m. h g (there m))) (overlaps r f) refl
  where
    later : overlaps r f ≡ false → (g : File) → In g fs → overlaps r g ≡ false
    later e g m = stop (overlaps r g) refl
      where
        stop : (t : Bool) → overlaps r g ≡ t → overlaps r g ≡ false
        stop false q = q
        stop true q =
            let o = (overlaps_says r g).0 q in
            let up = before_user f.smallest g.smallest (starts_rise f g (line_first f g fs l m) (l.good f (here refl))) in
            clash ((overlaps_says r f).1 record { left = h f (here refl); right = user_before_order.ntrans r.stop (user g.smallest) (user f.smallest) o.right up }) e

    go : (rest : List File) × (fs ≡ keep (overlaps r) fs ++ rest) → (t : Bool) → overlaps r f ≡ t → (rest : List File) × (f ∷ fs ≡ push t f (keep (overlaps r) fs) ++ rest)
    go ih true e = (ih.0, ap (λ (zs : List File). f ∷ zs) ih.1)
    go ih false e = let z = keep_none (overlaps r) fs (later e) in (f ∷ fs, rw z)

-- the files of a level in line that overlap a range are a run of neighbours
pub overlapping_run : (l : ℕ) (fs : List File) (r : Range) → Line fs → Run fs (overlapping (suc l) fs r)
unfolding overlapping keep push
overlapping_run l [] r i = run_none []
overlapping_run l (f ∷ fs) r i = go (overlapping_run l fs r (line_rest f fs i)) (overlaps r f) refl
  where
    front : overlaps r f ≡ true → (rest : List File) × (fs ≡ keep (overlaps r) fs ++ rest)
    front e = overlapping_front fs r (line_rest f fs i) (λ g m. user_before_order.ntrans (user g.largest) (user f.largest) r.start
        (before_user f.largest g.largest (ends_fall f g (line_first f g fs i m) (i.good g (there m)))) ((overlaps_says r f).0 e).left)

    go : Run fs (keep (overlaps r) fs) → (t : Bool) → overlaps r f ≡ t → Run (f ∷ fs) (push t f (keep (overlaps r) fs))
    go ih true e = let q = front e in record { left = []; right = q.0; is = ap (λ (zs : List File). f ∷ zs) q.1 }
    go ih false e = run_later f fs (keep (overlaps r) fs) ih

-- an input list above level 0 is a run of neighbours
pub inputs_run : (l : ℕ) (fs : List File) (r : Range) → Line fs → Run fs (inputs (suc l) fs r)
unfolding inputs completed_at
inputs_run l fs r i = completed_run fs (overlapping (suc l) fs r) i (overlapping_run l fs r i)

-- ---- the promise
-- no file left at the level has in its range a key that sorts after an input's largest with the same user key
abbrev pub NoOlderLeft : List File → List File → Type 0
NoOlderLeft fs xs = (f g : File) (k : Key) → In f fs → (In f xs → ⊥) → In g xs → spans f k ≡ true → before g.largest k ≡ true → user k ≡ user g.largest → ⊥

-- a run of neighbours after which no file follows leaves none
pub closed_none_left : (fs xs : List File) → Line fs → Run fs xs → NoneFollows fs xs → NoOlderLeft fs xs
closed_none_left fs [] l r c f g k m out i s a u = not-nil i
closed_none_left fs (x ∷ xs) l r c f g k m out i s a u = go (side r f m)
  where
    sp : Spans f k
    sp = (spans_says f k).0 s

    good : before g.largest g.smallest ≡ false
    good = l.good g (sub_in g (run_sub r) i)

    go : Side r f → ⊥
    go (within j) = out j
    go (to_left j) = clash (before_order.trans f.largest g.largest k (lt_le before before_order f.largest g.smallest g.largest (run_after_left fs (x ∷ xs) r f g l j i) good) a) sp.high
    go (to_right j) =
        let top = high_key (x ∷ xs) in
        let v : user_before (user top) (user k) ≡ false = rw u (before_user g.largest top ((highest x xs).greatest g i)) in
        let w = user_before_order.ntrans (user top) (user k) (user f.smallest) v (before_user f.smallest k sp.low) in
        clash (follows_is top f (right_after fs x xs l r f j) w) (c f m)

-- a completed run of neighbours leaves none
pub completed_none_left : (fs xs : List File) → Line fs → Run fs xs → NoOlderLeft fs (completed fs xs)
unfolding completed is_empty
completed_none_left fs [] l r = λ f g k m out i s a u. not-nil i
completed_none_left fs (x ∷ xs) l r = closed_none_left fs (completed fs (x ∷ xs)) l (completed_run fs (x ∷ xs) l r) (completed_closed fs (x ∷ xs) l r refl)
