-- `records::part` meets its contract: the run ends with the list, and starts no later than it ends. Assumes nothing.
use Rattle.std.proofs.Common.{◌≡◌, ℕ, ◌+◌, ◌-◌, ◌<◌, ◌≤◌, refl, min, List, length, sym, ◌∙◌, arith}
use Rattle.std.proofs.Math.Seq.{slice}
use Rattle.lemmas.specs.Slices.{take_drop, run_past, run_within}
use Rattle.std.proofs.Math.Logic.{⊎_elim}
use Rattle.std.proofs.lemmas.Bool.{cases_lt}
use Rattle.records.proofs.part.Goals as goal

-- the place where it starts is the one that was asked for, or both are past the end
cut : {A : Type 0} (i e : ℕ) (l : List A) → slice (min i e) e l ≡ slice i e l
cut i e l =
    ⊎_elim
    (λ (h : e < i). let m : min i e ≡ e = omega arith in rw m (run_past e e l (omega arith) ∙ sym (run_past i e l (omega arith))))
    (λ (h : i ≤ e). let m : min i e ≡ i = omega arith in rw m)
    (cases_lt e i)

pub returns : goal.returns
returns c =
    let l = c.args.files.now in
    let e = c.min-end.result in
    let start = c.min.result in
    let end : start + (e - start) ≡ e = omega arith in
    take_drop start (e - start) l ∙ rw end (rw (c.min.ensures, c.min-end.ensures) (cut c.args.from (min c.args.to (length l)) l ∙ run_within c.args.from c.args.to (length l) l refl))
