-- `look_up_list` meets its contract: 1, 14, 2, then the answer of level 0 or of a deeper level. Assumes nothing.
use Rattle.std.proofs.Common.{List, length, sym, ap, ◌∙◌}
use Rattle.model.specs.File.{File, full}
use Rattle.model.specs.Calls as calls
use Rattle.model.specs.Question.{passed, lookup, candidate}
use Rattle.answers.specs.declared.Refusal.TheVariants.{Level, Key, Form}
use Rattle.keys.specs.Key.{key_of}
use Rattle.records.specs.Run.{run}
use Rattle.level_list.specs.List.{files_of, on_list}
use Rattle.level_list.specs.ListLaws.{files_run, well_room}
use Rattle.ask_lookup.specs.Lookup.{fitting}
use Rattle.ask_find.specs.FindingLaws.{well_passed}
use Rattle.ask_lookup.specs.LookupLaws.{look_beyond, look_bad, look_key, look_good, lookup_first, lookup_deeper, answered_refused, answered_as}
use Rattle.ask_lookup.proofs.look_up_list.Goals as goal

pub returns-then-level-ge-COUNT : goal.returns-then-level-ge-COUNT
returns-then-level-ge-COUNT c =
    let a = c.args in
    let room = length a.out.now in
    let asked = on_list a.level a.l (λ fs. calls.look_up full a.level fs (key_of a.k) room) in
    answered_refused asked a.out.now Level (look_beyond a.level a.l (key_of a.k) room c.if-level-ge-COUNT.true)

pub returns-then-not-is_well_formed : goal.returns-then-not-is_well_formed
returns-then-not-is_well_formed c =
    let a = c.args in
    let room = length a.out.now in
    let asked = on_list a.level a.l (λ fs. calls.look_up full a.level fs (key_of a.k) room) in
    answered_refused asked a.out.now Form (look_bad a.level a.l (key_of a.k) room c.if-level-ge-COUNT.false (sym c.is_well_formed.ensures ∙ c.if-not-is_well_formed.true))

pub returns-then-not-is_good : goal.returns-then-not-is_good
returns-then-not-is_good c =
    let a = c.args in
    let room = length a.out.now in
    let well = sym c.is_well_formed.ensures ∙ c.if-not-is_well_formed.false in
    let asked = on_list a.level a.l (λ fs. calls.look_up full a.level fs (key_of a.k) room) in
    answered_refused asked a.out.now Key (look_key a.level a.l (key_of a.k) room c.if-level-ge-COUNT.false well (sym c.is_good.ensures ∙ c.if-not-is_good.true))

pub look_up_first-requires : goal.look_up_first-requires
look_up_first-requires c = well_room c.args.level c.args.l (sym c.is_well_formed.ensures ∙ c.if-not-is_well_formed.false)

pub returns-then-level-eq0 : goal.returns-then-level-eq0
returns-then-level-eq0 c =
    let a = c.args in
    let room = length a.out.now in
    let well = sym c.is_well_formed.ensures ∙ c.if-not-is_well_formed.false in
    let asked = on_list a.level a.l (λ fs. calls.look_up full a.level fs (key_of a.k) room) in
    let xs = lookup 0 (run 0 a.l.count a.l.files) (key_of a.k) in
    let e = look_good a.level a.l (key_of a.k) room c.if-level-ge-COUNT.false well (sym c.is_good.ensures ∙ c.if-not-is_good.false)
    ∙ ap (fitting room) (lookup_first a.level (files_of a.l) (key_of a.k) c.if-level-eq0.true ∙ ap (λ (fs : List File). lookup 0 fs (key_of a.k)) (sym (files_run a.l))) in
    answered_as asked (fitting room xs) a.out.now c.look_up_first.result c.look_up_first.new.out e c.look_up_first.ensures

pub look_up_deeper-requires : goal.look_up_deeper-requires
look_up_deeper-requires c =
    let a = c.args in
    let well = sym c.is_well_formed.ensures ∙ c.if-not-is_well_formed.false in (
      well_room a.level a.l well,
      well_passed a.level a.l (key_of a.k) a.at c.if-level-eq0.false well c.requires ∙ ap (passed (key_of a.k)) (sym (files_run a.l)),
    )

pub returns : goal.returns
returns c =
    let a = c.args in
    let room = length a.out.now in
    let well = sym c.is_well_formed.ensures ∙ c.if-not-is_well_formed.false in
    let asked = on_list a.level a.l (λ fs. calls.look_up full a.level fs (key_of a.k) room) in
    let xs = candidate (key_of a.k) (run 0 a.l.count a.l.files) in
    let e = look_good a.level a.l (key_of a.k) room c.if-level-ge-COUNT.false well (sym c.is_good.ensures ∙ c.if-not-is_good.false)
    ∙ ap (fitting room) (lookup_deeper a.level (files_of a.l) (key_of a.k) c.if-level-eq0.false ∙ ap (candidate (key_of a.k)) (sym (files_run a.l))) in
    answered_as asked (fitting room xs) a.out.now c.look_up_deeper.result c.look_up_deeper.new.out e c.look_up_deeper.ensures
