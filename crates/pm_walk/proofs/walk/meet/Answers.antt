use Rattle.std.proofs.Common.{ap, sym, subst, ◌∙◌, List}
use Rattle.std.specs.Option.{option_copied}
use Rattle.std.proofs.lemmas.Result.{on_ok_weaker}
use Rattle.pm_space.specs.Shown.{view}
use Rattle.pm_walk.specs.declared.walk.Found.{Found}
use Rattle.pm_walk.specs.Walked.{AreFoundBy}
use Rattle.pm_walk.proofs.Growing.{grows_by, found_not, found_one}
use Rattle.pm_walk.proofs.Steps.{both_ok, named_is, named_met, meets_sound, meets_to}
use Rattle.pm_walk.proofs.walk.meet.Goals as goal

pub returns-then-contains_key-clause-met : goal.returns-then-contains_key-clause-met
returns-then-contains_key-clause-met g c =
    let v = view c.args.space.now.parts in
    let object = c.in-Some.object.now in
    named_met v c.args.walk.now c.args.to object.id
    (named_is v c.args.to c.resolve-at.result (option_copied c.object_at.result) object c.resolve-at.ensures c.object_at.ensures.object (ap option_copied c.in-Some.is))
    (sym c.contains_key.ensures ∙ c.if-contains_key.true)

pub returns-clause-sound : goal.returns-clause-sound
returns-clause-sound g c =
    let v = view c.args.space.now.parts in
    let object = c.in-Some.object.now in
    let named = named_is v c.args.to c.resolve-at.result (option_copied c.object_at.result) object c.resolve-at.ensures c.object_at.ensures.object (ap option_copied c.in-Some.is) in
    both_ok c.add.result
    (meets_sound v c.args.walk.now c.add.new.walk c.args.to (record { id = object.id; at = c.resolve-at.result; from = c.args.from; index = c.args.index }) c.requires.sound c.requires.kept c.requires.led c.resolve-at.ensures named
    (sym c.contains_key.ensures ∙ c.if-contains_key.false))
    c.add.ensures.found c.add.ensures.met

pub returns-clause-grows : goal.returns-clause-grows
returns-clause-grows g c =
    both_ok c.add.result (grows_by c.args.walk.now c.add.new.walk (record { id = c.in-Some.object.now.id; at = c.resolve-at.result; from = c.args.from; index = c.args.index })) c.add.ensures.found c.add.ensures.met

pub returns-clause-met : goal.returns-clause-met
returns-clause-met g c =
    let v = view c.args.space.now.parts in
    let object = c.in-Some.object.now in
    let named = named_is v c.args.to c.resolve-at.result (option_copied c.object_at.result) object c.resolve-at.ensures c.object_at.ensures.object (ap option_copied c.in-Some.is) in
    both_ok c.add.result
    (meets_to v c.args.walk.now c.add.new.walk c.args.to (record { id = object.id; at = c.resolve-at.result; from = c.args.from; index = c.args.index }) c.requires.sound c.requires.kept c.requires.led c.resolve-at.ensures named
    (sym c.contains_key.ensures ∙ c.if-contains_key.false))
    c.add.ensures.found c.add.ensures.met

pub returns-then-contains_key-clause-by : goal.returns-then-contains_key-clause-by
returns-then-contains_key-clause-by g c = found_not c.args.walk.now.found.items c.args.from

pub returns-clause-by : goal.returns-clause-by
returns-clause-by g c =
    let one : Found = record { id = c.in-Some.object.now.id; at = c.resolve-at.result; from = c.args.from; index = c.args.index } in
    on_ok_weaker c.add.result (λ found. subst (λ (xs : List Found). AreFoundBy c.args.walk.now.found.items xs c.args.from) (sym found) (found_one c.args.walk.now.found.items one)) c.add.ensures.found
