-- `key_calls::compare` meets its contract: a key that is refused refuses the call, and else the order of the keys is told. Assumes nothing.
use Rattle.std.proofs.Common.{◌≡◌, Bool, true, false, not, ◌&&◌, cond, refl, sym, ap, ◌∙◌, Ok, Err, [], ◌∷◌}
use Rattle.std.specs.declared.cmp.Ordering.TheVariants.{Less, Equal, Greater}
use Rattle.model.specs.Answer.{◌⇒◌}
use Rattle.model.specs.File.{full}
use Rattle.model.specs.Key as model
use Rattle.model.specs.Key.{good_key, stands, before}
use Rattle.model.specs.Calls.{compare_keys}
use Rattle.answers.specs.Outcome.{passed}
use Rattle.answers.specs.declared.Refusal.{Refusal}
use Rattle.answers.specs.OutcomeLaws.{one_refused, one_done, result_refused, result_given, handed_on}
use Rattle.octets.specs.Octets.{standing}
use Rattle.keys.specs.Key.{key_of}
use Rattle.key_calls.specs.Comparing.{ordering_of, compared}
use Rattle.key_calls.proofs.compare.Goals as goal

-- the order by value is the model's
same_order : {A : Type 0} (lt : A → A → Bool) (a b : A) → standing lt a b ≡ ordering_of (stands lt a b)
unfolding standing stands ordering_of
same_order lt a b = go (lt a b) (lt b a)
  where
    go : (s t : Bool) → cond s Less (cond t Greater Equal) ≡ ordering_of (cond s model.is_less (cond t model.is_greater model.is_equal))
    go true t = refl
    go false true = refl
    go false false = refl

-- one key is refused: the test of both refuses alike
first_refused : (s t : Bool) (r : Refusal) → passed ((not s ⇒ 2) ∷ []) ≡ Err r → passed ((not (s && t) ⇒ 2) ∷ []) ≡ Err r
first_refused true t r e = let z : false ≡ true = (one_refused false 2 r e).0 in let w : true ≡ false = sym z in cc
first_refused false t r e = e

second_refused : (s t : Bool) (r : Refusal) → passed ((not s ⇒ 2) ∷ []) ≡ Ok tt → passed ((not t ⇒ 2) ∷ []) ≡ Err r → passed ((not (s && t) ⇒ 2) ∷ []) ≡ Err r
second_refused true t r e f = f
second_refused false t r e f = let z : true ≡ false = one_done true 2 tt e in cc

-- neither is: the test of both passes
both_pass : (s t : Bool) → passed ((not s ⇒ 2) ∷ []) ≡ Ok tt → passed ((not t ⇒ 2) ∷ []) ≡ Ok tt → passed ((not (s && t) ⇒ 2) ∷ []) ≡ Ok tt
both_pass true t e f = f
both_pass false t e f = let z : true ≡ false = one_done true 2 tt e in cc

pub returns-in_err-check : goal.returns-in_err-check
unfolding compared compare_keys
returns-in_err-check c =
    let g = good_key full.longest (key_of c.args.a) in
    let h = good_key full.longest (key_of c.args.b) in
    let told = first_refused g h c.in_err-check.field-0.0 (sym c.check.ensures ∙ c.in_err-check.was) in
    handed_on _ _ c.from_residual.ensures.1
    ∙ sym (result_refused ordering_of (stands before (key_of c.args.a) (key_of c.args.b)) ((not (g && h) ⇒ 2) ∷ []) c.in_err-check.field-0.0 told)

pub returns-in_err-check-2 : goal.returns-in_err-check-2
unfolding compared compare_keys
returns-in_err-check-2 c =
    let g = good_key full.longest (key_of c.args.a) in
    let h = good_key full.longest (key_of c.args.b) in
    let told = second_refused g h c.in_err-check-2.field-0.0 (sym c.check.ensures ∙ c.in_ok-check.was) (sym c.check-2.ensures ∙ c.in_err-check-2.was) in
    handed_on _ _ c.from_residual-in_err-check-2.ensures.1
    ∙ sym (result_refused ordering_of (stands before (key_of c.args.a) (key_of c.args.b)) ((not (g && h) ⇒ 2) ∷ []) c.in_err-check-2.field-0.0 told)

pub returns : goal.returns
unfolding compared compare_keys
returns c =
    let a = key_of c.args.a in
    let b = key_of c.args.b in
    let g = good_key full.longest a in
    let h = good_key full.longest b in
    let told = both_pass g h (sym c.check.ensures ∙ c.in_ok-check.was) (sym c.check-2.ensures ∙ c.in_ok-check-2.was) in
    ap Ok (c.order_of_keys.ensures ∙ same_order before a b) ∙ sym (result_given ordering_of (stands before a b) ((not (g && h) ⇒ 2) ∷ []) tt told)
