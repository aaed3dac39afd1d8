-- `pick_lent::follow` meets its contract: the laws of a pick at the end of its searches. Assumes nothing.
use Rattle.std.proofs.Common.{◌≡◌, List, ap, ◌∙◌, Ok}
use Rattle.model.specs.Answer.{Answer}
use Rattle.model.specs.Pick as model
use Rattle.answers.specs.declared.Refusal.TheVariants.{Nothing}
use Rattle.records.specs.declared.FileRecord.{FileRecord}
use Rattle.store.specs.declared.Pointer.{Pointer}
use Rattle.store.specs.declared.Store.{Store}
use Rattle.pick_answer.specs.declared.Cause.{Cause}
use Rattle.pick_answer.specs.declared.Picked.{Picked}
use Rattle.pick_search.specs.declared.Choice.{Choice}
use Rattle.pick_search.specs.Choice.{laid_choice}
use Rattle.pick_plan.specs.Plans.{Makes, pointers_by, taken_by, with_pointers}
use Rattle.pick_plan.specs.PlansLaws.{ended_none, ended_makes}
use Rattle.pick_lent.specs.Taking.{Leaves}
use Rattle.pick_lent.proofs.Planned.{leaves_none}
use Rattle.pick_lent.proofs.follow.Goals as goal

pub returns-then-c-eq0 : goal.returns-then-c-eq0
returns-then-c-eq0 c =
    let s = c.args.s.now in
    let p = c.args.plan in
    leaves_none s _ Nothing (ended_none s p.cause p.asked p.search c.choose-c.result c.choose-c.ensures c.shaped.ensures c.requires.ready.well c.if-c-eq0.true)

-- the answer that is made of the files chosen
abbrev made : Cause → Choice → List FileRecord → Picked
made x c fs = record {
  level = c.level;
  cause = x;
  maximum = c.maximum;
  files = fs;
  first = c.first.count;
  second = c.second.count;
  grand = c.grand.count;
}

-- the store that is left
abbrev left : Store → List Pointer → Store
left s ps = record { files = s.files; counts = s.counts; pointers = ps; counters = s.counters }

-- the files that are laid and the pointers that are set make what the contract says
leaves : (s : Store) (a : Answer model.Pick) (x : Cause) (c : Choice) (fs : List FileRecord) (ps : List Pointer) → fs ≡ laid_choice s c → ps ≡ pointers_by s.pointers c
    → Makes s a (taken_by x c (laid_choice s c)) (pointers_by s.pointers c) → Leaves s a (Ok (made x c fs)) (left s ps)
unfolding taken_by with_pointers
leaves s a x c fs ps e f m = record { answer = ap (λ (y : List FileRecord). Ok (made x c y)) e ∙ m.taken; store = ap (left s) f ∙ m.left }

pub returns : goal.returns
returns c =
    let s = c.args.s.now in
    let p = c.args.plan in
    let r = c.choose-c.result in
    leaves s _ p.cause r c.laid-files.result c.pointed-s.result c.laid-files.ensures c.pointed-s.ensures
    (ended_makes s p.cause p.asked p.search r c.choose-c.ensures c.shaped.ensures c.requires.ready.well c.requires.level c.if-c-eq0.false)
