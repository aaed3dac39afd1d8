-- Laws of edits: which files survive, in what order, and when an edit is accepted. Assumes nothing.
use Rattle.std.specs.Prelude.{ℕ, zero, suc, ◌+◌, ◌<◌, ◌≤◌, ◌≡◌, refl, ◌↔◌, ◌⊎◌, Bool, true, false, not, ◌&&◌, eqb, ltb, length, get_or, set}
use Rattle.std.proofs.Common.{ap, sym, ◌∙◌, subst, inl, inr, eq-eqb, ltb-true, ltb-false, lt-ltb, le-ltb, length-set, arith}
use mathlib.Core.List.Memᴰ.{append_cases}
use mathlib.Core.List.Memᴰ.{append_left as in_left}
use mathlib.Core.List.Memᴰ.{append_right as in_right}
use mathlib.Core.List.Memᴰ.{head as here}
use mathlib.Core.List.Memᴰ.{not-nil}
use mathlib.Core.List.Memᴰ.{tail as there}
use mathlib.Core.List.{List, [], ◌∷◌, ◌++◌, Memᴰ as In}
use Rattle.std.proofs.Math.Option.{Option, some}
use Rattle.std.proofs.lemmas.Bool.{not-true, not-false}
use Rattle.lemmas.specs.Order.{StrictWeak, on_order}
use Rattle.lemmas.specs.Lists.{keep, sort, chain, join, distinct}
use Rattle.lemmas.specs.ListLaws.{and_left, and_right, both, keep_in, sort_in, sort_tally, sort_chain, sort_stable, tally_in, tally_append, tally_map, distinct_tally, any_in, keep_append}
use Rattle.model.specs.Key.{Key, good_key, before}
use Rattle.model.specs.KeyLaws.{before_order}
use Rattle.model.specs.Answer.{gives, ◌⇒◌}
use Rattle.model.specs.File.{Profile, File, State, numbers, by_smallest, max_size, no_collision, levelwise, well_formed}
use Rattle.model.specs.Edit.{Deletion, Addition, Pointer, Edit, added, deletes, adds, left_deleted, survivors, survivors_from, pointed, applied, too_many, bad_log, pointer_refusals, deletion_refusals, addition_refusals, entry_refusals, result_refusals, edit}
use Rattle.model.specs.AnswerLaws.{NoneApplies, first_of_gives, first_of_passes, none_cons, none_nil, none_both}

-- the order of files by smallest key is a strict weak order
pub by_smallest_order : StrictWeak by_smallest
unfolding by_smallest
by_smallest_order = on_order before (λ (f : File). f.smallest) before_order

-- ---- survivors of a level
-- a survivor is a base file not left deleted, or an added file
pub survivors_in : (e : Edit) (l : ℕ) (base : List File) (f : File) → In f (survivors e l base) ↔ ((In f base × (left_deleted e l f.number ≡ false)) ⊎ In f (added e l))
unfolding survivors
survivors_in e l base f = (λ m. from (append_cases (keep stays base) ((sort_in by_smallest all f).0 m)), λ h. (sort_in by_smallest all f).1 (to h))
  where
    stays : File → Bool
    stays g = not (left_deleted e l g.number)

    all : List File
    all = keep stays base ++ added e l

    from : In f (keep stays base) ⊎ In f (added e l) → (In f base × (left_deleted e l f.number ≡ false)) ⊎ In f (added e l)
    from (inl m) = let k = (keep_in stays base f).0 m in inl (k.0, not-true (left_deleted e l f.number) k.1)
    from (inr m) = inr m

    to : (In f base × (left_deleted e l f.number ≡ false)) ⊎ In f (added e l) → In f all
    to (inl h) = in_left (added e l) ((keep_in stays base f).1 (h.0, rw h.1))
    to (inr m) = in_right (keep stays base) m

-- they are ordered by smallest key
pub survivors_ordered : (e : Edit) (l : ℕ) (base : List File) → chain (λ f g. not (by_smallest g f)) (survivors e l base) ≡ true
unfolding survivors
survivors_ordered e l base = sort_chain by_smallest by_smallest_order (keep (λ f. not (left_deleted e l f.number)) base ++ added e l)

-- the file's smallest key is equal in order to k
unfoldable pub ties_with : Key → File → Bool
ties_with k f = not (before f.smallest k) && not (before k f.smallest)

-- among equal keys the base files not left deleted are first, in base order, then the added ones, in edit order
pub survivors_stable : (e : Edit) (l : ℕ) (base : List File) (k : Key)
    → keep (ties_with k) (survivors e l base) ≡ keep (ties_with k) (keep (λ f. not (left_deleted e l f.number)) base) ++ keep (ties_with k) (added e l)
unfolding survivors ties_with by_smallest
survivors_stable e l base k =
    let stay = keep (λ f. not (left_deleted e l f.number)) base in
    sort_stable by_smallest (ties_with k) (λ f g h i. ties f g h i) (stay ++ added e l) ∙ keep_append (ties_with k) stay (added e l)
  where
    ties : (f g : File) → ties_with k f ≡ true → ties_with k g ≡ true → before f.smallest g.smallest ≡ false
    ties f g h i =
        let a = not-true (before f.smallest k) (and_left (not (before f.smallest k)) (not (before k f.smallest)) h) in
        let b = not-true (before k g.smallest) (and_right (not (before g.smallest k)) (not (before k g.smallest)) i) in
        before_order.ntrans f.smallest k g.smallest a b

-- if no survivor's number stands twice, a base file whose number the edit deletes is left deleted
pub deleted_goes : (e : Edit) (l : ℕ) (base : List File) (f : File) → distinct (numbers (survivors e l base)) ≡ true → In f base → left_deleted e l f.number ≡ deletes e l f.number
unfolding survivors numbers left_deleted adds
deleted_goes e l base f d m = go (adds e l f.number) (deletes e l f.number) refl refl
  where
    stays : File → Bool
    stays g = not (left_deleted e l g.number)

    same : File → Bool
    same g = eqb g.number f.number

    all : List File
    all = keep stays base ++ added e l

    go : (t b : Bool) → adds e l f.number ≡ t → deletes e l f.number ≡ b → (deletes e l f.number && not (adds e l f.number)) ≡ deletes e l f.number
    go false b q r = rw (q, r) (ends b)
      where
        ends : (b : Bool) → (b && true) ≡ b
        ends true = refl
        ends false = refl
    go true b q r =
        let g = any_in (λ h. eqb h.number f.number) (added e l) q in
        let left : left_deleted e l f.number ≡ false = rw q (never (deletes e l f.number)) in
        let one = tally_in same (keep stays base) f ((keep_in stays base f).1 (m, rw left)) (eq-eqb f.number f.number refl) in
        let two = tally_in same (added e l) g.0 g.1 g.2 in
        let most = distinct_tally (numbers (sort by_smallest all)) f.number d in
        absurd (omega (arith, tally_map (λ n. eqb n f.number) (λ (g : File). g.number) (sort by_smallest all), sort_tally by_smallest same all, tally_append same (keep stays base) (added e l)))
      where
        never : (b : Bool) → (b && false) ≡ false
        never true = refl
        never false = refl

-- ---- levels
-- the survivors of one level
pub survivors_from_at : (e : Edit) (k : ℕ) (fss : List (List File)) (i : ℕ) → i < length fss → get_or (survivors_from e k fss) i [] ≡ survivors e (k + i) (get_or fss i [])
unfolding survivors_from
survivors_from_at e k [] i h = absurd (omega arith)
survivors_from_at e k (fs ∷ fss) zero h = ap (λ (n : ℕ). survivors e n fs) (omega arith)
survivors_from_at e k (fs ∷ fss) (suc i) h = survivors_from_at e (suc k) fss i (omega arith) ∙ ap (λ (n : ℕ). survivors e n (get_or fss i [])) (omega arith)

-- an edit keeps the number of levels
pub survivors_from_length : (e : Edit) (k : ℕ) (fss : List (List File)) → length (survivors_from e k fss) ≡ length fss
unfolding survivors_from
survivors_from_length e k [] = refl
survivors_from_length e k (fs ∷ fss) = ap suc (survivors_from_length e (suc k) fss)

-- an edit keeps the number of pointers
pub pointed_length : (qs : List Pointer) (ps : List (Option Key)) → length (pointed qs ps) ≡ length ps
unfolding pointed
pointed_length [] ps = refl
pointed_length (q ∷ qs) ps = pointed_length qs (set ps q.level (some q.key)) ∙ length-set ps q.level (some q.key)

-- ---- the entries of an edit to which no refusal applies
-- a pointer: its level and key
pub record PointerFits (p : Profile) (q : Pointer) : Type 0 where
  pub level : q.level < p.levels
  pub key : good_key p.longest q.key ≡ true

-- a deletion: its level
pub record DeletionFits (p : Profile) (d : Deletion) : Type 0 where
  pub level : d.level < p.levels

-- an addition: its level, keys, order and size
pub record AdditionFits (p : Profile) (a : Addition) : Type 0 where
  pub level : a.level < p.levels
  pub smallest : good_key p.longest a.file.smallest ≡ true
  pub largest : good_key p.longest a.file.largest ≡ true
  pub order : before a.file.largest a.file.smallest ≡ false
  pub size : a.file.size ≤ max_size

-- no refusal of the pointers applies exactly if each fits
pub pointers_fit : (p : Profile) (qs : List Pointer) → NoneApplies (pointer_refusals p qs) ↔ ((q : Pointer) → In q qs → PointerFits p q)
unfolding pointer_refusals ◌⇒◌
pointers_fit p [] = (λ h q m. absurd (not-nil m), λ h. none_nil)
pointers_fit p (q ∷ qs) = let r = pointers_fit p qs in (
  λ h x m. from h (r.0 (λ y i. h y (there (there i)))) x m,
  λ h. let g = h q (here refl) in
      none_cons (not (ltb q.level p.levels)) 1 ((not (good_key p.longest q.key) ⇒ 2) ∷ pointer_refusals p qs) (rw (lt-ltb q.level p.levels g.level))
      (none_cons (not (good_key p.longest q.key)) 2 (pointer_refusals p qs) (rw g.key) (r.1 (λ x m. h x (there m)))),
)
  where
    from : NoneApplies (pointer_refusals p (q ∷ qs)) → ((x : Pointer) → In x qs → PointerFits p x) → (x : Pointer) → In x (q ∷ qs) → PointerFits p x
    from h ih x (here e) = subst (λ (y : Pointer). PointerFits p y) (sym e) record {
      level = ltb-true q.level p.levels (not-false (ltb q.level p.levels) (h (not (ltb q.level p.levels) ⇒ 1) (here refl)));
      key = not-false (good_key p.longest q.key) (h (not (good_key p.longest q.key) ⇒ 2) (there (here refl)));
    }
    from h ih x (there m) = ih x m

-- the same for deletions
pub deletions_fit : (p : Profile) (ds : List Deletion) → NoneApplies (deletion_refusals p ds) ↔ ((d : Deletion) → In d ds → DeletionFits p d)
unfolding deletion_refusals ◌⇒◌
deletions_fit p [] = (λ h d m. absurd (not-nil m), λ h. none_nil)
deletions_fit p (d ∷ ds) = let r = deletions_fit p ds in (
  λ h x m. from h (r.0 (λ y i. h y (there i))) x m,
  λ h. none_cons (not (ltb d.level p.levels)) 1 (deletion_refusals p ds) (rw (lt-ltb d.level p.levels (h d (here refl)).level)) (r.1 (λ x m. h x (there m))),
)
  where
    from : NoneApplies (deletion_refusals p (d ∷ ds)) → ((x : Deletion) → In x ds → DeletionFits p x) → (x : Deletion) → In x (d ∷ ds) → DeletionFits p x
    from h ih x (here e) = subst (λ (y : Deletion). DeletionFits p y) (sym e) record {
      level = ltb-true d.level p.levels (not-false (ltb d.level p.levels) (h (not (ltb d.level p.levels) ⇒ 1) (here refl)));
    }
    from h ih x (there m) = ih x m

-- the same for additions
pub additions_fit : (p : Profile) (as' : List Addition) → NoneApplies (addition_refusals p as') ↔ ((a : Addition) → In a as' → AdditionFits p a)
unfolding addition_refusals ◌⇒◌
additions_fit p [] = (λ h a m. absurd (not-nil m), λ h. none_nil)
additions_fit p (a ∷ as') = let r = additions_fit p as' in (λ h x m. from h (r.0 (λ y i. h y (there (there (there (there i)))))) x m, λ h. to (h a (here refl)) (r.1 (λ x m. h x (there m))))
  where
    l : Bool
    l = ltb a.level p.levels

    k₁ : Bool
    k₁ = good_key p.longest a.file.smallest

    k₂ : Bool
    k₂ = good_key p.longest a.file.largest

    o : Bool
    o = before a.file.largest a.file.smallest

    from : NoneApplies (addition_refusals p (a ∷ as')) → ((x : Addition) → In x as' → AdditionFits p x) → (x : Addition) → In x (a ∷ as') → AdditionFits p x
    from h ih x (here e) =
        let keys : (k₁ && k₂) ≡ true = not-false (k₁ && k₂) (h (not (k₁ && k₂) ⇒ 2) (there (here refl))) in
        subst (λ (y : Addition). AdditionFits p y) (sym e) record {
          level = ltb-true a.level p.levels (not-false l (h (not l ⇒ 1) (here refl)));
          smallest = and_left k₁ k₂ keys;
          largest = and_right k₁ k₂ keys;
          order = h (o ⇒ 4) (there (there (here refl)));
          size = ltb-false max_size a.file.size (h (ltb max_size a.file.size ⇒ 5) (there (there (there (here refl)))));
        }
    from h ih x (there m) = ih x m

    to : AdditionFits p a → NoneApplies (addition_refusals p as') → NoneApplies (addition_refusals p (a ∷ as'))
    to g h =
        let r₄ = (ltb max_size a.file.size ⇒ 5) ∷ addition_refusals p as' in
        let r₃ = (o ⇒ 4) ∷ r₄ in
        let r₂ = (not (k₁ && k₂) ⇒ 2) ∷ r₃ in
        let keys : (k₁ && k₂) ≡ true = both k₁ k₂ g.smallest g.largest in
        none_cons (not l) 1 r₂ (rw (lt-ltb a.level p.levels g.level)) (none_cons (not (k₁ && k₂)) 2 r₃ (ap (λ (b : Bool). not b) keys)
        (none_cons o 4 r₄ g.order (none_cons (ltb max_size a.file.size) 5 (addition_refusals p as') (le-ltb max_size a.file.size g.size) h)))

-- ---- an edit is accepted exactly if no refusal applies
-- an accepted edit: the state it leaves, and no refusal applies
pub record Accepted (p : Profile) (s : State) (e : Edit) (t : State) : Type 0 where
  pub result : applied e s ≡ t
  -- 14
  pub formed : well_formed p s ≡ true
  -- 3
  pub few : too_many p e ≡ false
  -- 9
  pub log : bad_log s.counters e.log ≡ false
  -- 1, 2, 4, 5
  pub pointers : (q : Pointer) → In q e.pointers → PointerFits p q
  pub deletions : (d : Deletion) → In d e.deletions → DeletionFits p d
  pub additions : (a : Addition) → In a e.additions → AdditionFits p a
  -- 6
  pub distinct_numbers : distinct (numbers (join (survivors_from e 0 s.files))) ≡ true
  -- 8
  pub fits : length (join (survivors_from e 0 s.files)) ≤ p.room
  -- 7
  pub apart : levelwise no_collision 0 (survivors_from e 0 s.files) ≡ true

-- an edit that gives a state was accepted so
pub edit_accepted : (p : Profile) (s : State) (e : Edit) (t : State) → edit p s e ≡ gives t → Accepted p s e t
unfolding edit entry_refusals result_refusals ◌⇒◌
edit_accepted p s e t h =
    let fss = survivors_from e 0 s.files in
    let rs = (not (well_formed p s) ⇒ 14) ∷ (too_many p e ⇒ 3) ∷ (bad_log s.counters e.log ⇒ 9) ∷ (entry_refusals p e ++ result_refusals p fss) in
    let k = first_of_gives rs (applied e s) t h in
    let at : NoneApplies (entry_refusals p e) = λ r m. k.none_applies r (there (there (there (in_left (result_refusals p fss) m)))) in
    let last : NoneApplies (result_refusals p fss) = λ r m. k.none_applies r (there (there (there (in_right (entry_refusals p e) m)))) in
    let qs = pointer_refusals p e.pointers in
    let ds = deletion_refusals p e.deletions in
    let xs = addition_refusals p e.additions in
    record {
      result = k.answer;
      formed = not-false (well_formed p s) (k.none_applies (not (well_formed p s) ⇒ 14) (here refl));
      few = k.none_applies (too_many p e ⇒ 3) (there (here refl));
      log = k.none_applies (bad_log s.counters e.log ⇒ 9) (there (there (here refl)));
      pointers = (pointers_fit p e.pointers).0 (λ r m. at r (in_left xs (in_left ds m)));
      deletions = (deletions_fit p e.deletions).0 (λ r m. at r (in_left xs (in_right qs m)));
      additions = (additions_fit p e.additions).0 (λ r m. at r (in_right (qs ++ ds) m));
      distinct_numbers = not-false (distinct (numbers (join fss))) (last (not (distinct (numbers (join fss))) ⇒ 6) (here refl));
      fits = ltb-false p.room (length (join fss)) (last (ltb p.room (length (join fss)) ⇒ 8) (there (here refl)));
      apart = not-false (levelwise no_collision 0 fss) (last (not (levelwise no_collision 0 fss) ⇒ 7) (there (there (here refl))));
    }

-- an edit to which no refusal applies gives its state
pub accepted_edit : (p : Profile) (s : State) (e : Edit) (t : State) → Accepted p s e t → edit p s e ≡ gives t
unfolding edit entry_refusals result_refusals
accepted_edit p s e t a =
    let fss = survivors_from e 0 s.files in
    let qs = pointer_refusals p e.pointers in
    let ds = deletion_refusals p e.deletions in
    let xs = addition_refusals p e.additions in
    let r₇ = (not (levelwise no_collision 0 fss) ⇒ 7) ∷ [] in
    let r₈ = (ltb p.room (length (join fss)) ⇒ 8) ∷ r₇ in
    let last = none_cons (not (distinct (numbers (join fss)))) 6 r₈ (rw a.distinct_numbers) (none_cons (ltb p.room (length (join fss))) 8 r₇ (le-ltb p.room (length (join fss)) a.fits)
    (none_cons (not (levelwise no_collision 0 fss)) 7 [] (rw a.apart) none_nil)) in
    let entries = none_both (qs ++ ds) xs (none_both qs ds ((pointers_fit p e.pointers).1 a.pointers) ((deletions_fit p e.deletions).1 a.deletions)) ((additions_fit p e.additions).1 a.additions) in
    let rest = entry_refusals p e ++ result_refusals p fss in
    let r₉ = (bad_log s.counters e.log ⇒ 9) ∷ rest in
    let r₃ = (too_many p e ⇒ 3) ∷ r₉ in
    first_of_passes ((not (well_formed p s) ⇒ 14) ∷ r₃) (applied e s)
    (none_cons (not (well_formed p s)) 14 r₃ (rw a.formed) (none_cons (too_many p e) 3 r₉ a.few (none_cons (bad_log s.counters e.log) 9 rest a.log (none_both (entry_refusals p e) (result_refusals p fss) entries last))))
    ∙ ap (λ (u : State). gives u) a.result

-- an edit is accepted exactly if no refusal applies
pub edit_accepts : (p : Profile) (s : State) (e : Edit) (t : State) → edit p s e ≡ gives t ↔ Accepted p s e t
edit_accepts p s e t = (edit_accepted p s e t, accepted_edit p s e t)
