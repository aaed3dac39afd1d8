-- `has_twice` meets its contract: a number that is among the stayers or among those before it stands twice, any other extends the list.
use Rattle.std.proofs.Common.{◌≡◌, ℕ, List, [], ◌∷◌, eqb, Bool, true, false, not, ◌||◌, take, get_or, refl, sym, ap, ◌∙◌, arith}
use Rattle.std.specs.List.{list_any}
use Rattle.lemmas.specs.Lists.{any, member}
use Rattle.lemmas.specs.Distinct.{member_either, onto_found, onto_passed, onto_ended}
use Rattle.edit_stayers.proofs.has_twice.Goals as goal

-- the second of two tests suffices
or_true : (b : Bool) → (b || true) ≡ true
or_true true = refl
or_true false = refl

-- the library's search is a member's
member_is : (x : ℕ) (xs : List ℕ) → list_any (λ y. eqb y x) xs ≡ member x xs
unfolding member any
member_is x [] = refl
member_is x (y ∷ ys) = ap (λ b. eqb y x || b) (member_is x ys)

pub returns-then-contains : goal.returns-then-contains
returns-then-contains c =
    let a = c.args in
    let x = get_or a.added.now c.loop-i.i 0 in
    let t : member x a.kept.now ≡ true = sym (member_is x a.kept.now) ∙ sym c.contains.ensures.value ∙ c.if-contains.true in
    ap not (sym (onto_found a.kept.now a.added.now c.loop-i.i (omega arith) (rw (member_either x a.kept.now (take c.loop-i.i a.added.now), t))))

pub returns-then-contains-2 : goal.returns-then-contains-2
returns-then-contains-2 c =
    let a = c.args in
    let x = get_or a.added.now c.loop-i.i 0 in
    let t : member x (take c.loop-i.i a.added.now) ≡ true = sym (member_is x (take c.loop-i.i a.added.now)) ∙ sym c.contains-in-loop-i.ensures.value ∙ c.if-contains-2.true in
    ap not (sym (onto_found a.kept.now a.added.now c.loop-i.i (omega arith) (rw (member_either x a.kept.now (take c.loop-i.i a.added.now), t) (or_true (member x a.kept.now)))))

pub loop-i-preserved : goal.loop-i-preserved
loop-i-preserved c =
    let a = c.args in
    let x = get_or a.added.now c.loop-i.i 0 in
    let t : member x a.kept.now ≡ false = sym (member_is x a.kept.now) ∙ sym c.contains.ensures.value ∙ c.if-contains.false in
    let u : member x (take c.loop-i.i a.added.now) ≡ false = sym (member_is x (take c.loop-i.i a.added.now)) ∙ sym c.contains-in-loop-i.ensures.value ∙ c.if-contains-2.false in
    onto_passed a.kept.now a.added.now c.loop-i.i (omega arith) (rw (member_either x a.kept.now (take c.loop-i.i a.added.now), t, u)) ∙ c.loop-i.invariant

pub returns : goal.returns
returns c = ap not (sym c.loop-i.invariant ∙ onto_ended c.args.kept.now c.args.added.now c.loop-i.i (omega arith))
