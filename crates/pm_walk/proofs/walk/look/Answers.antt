use Rattle.std.proofs.Common.{◌≡◌, ap, sym, ◌∙◌, Some}
use Rattle.std.specs.Option.{option_copied}
use Rattle.pm_view.specs.Reading.{object_at}
use Rattle.pm_space.specs.Shown.{view}
use Rattle.pm_walk.proofs.Growing.{grows_twice, found_twice}
use Rattle.pm_walk.proofs.Steps.{field_at, one_more_met, all_fields_met}
use Rattle.pm_walk.proofs.walk.look.Goals as goal

pub meet_field-requires-clause-held : goal.meet_field-requires-clause-held
meet_field-requires-clause-held g c =
    let v = view c.args.space.now.parts in
    let one = c.found_at-found.result in
    let object = c.in-Some.object.now in
    let here : object_at v.cars one.at ≡ Some object = sym c.object_at.ensures.object ∙ ap option_copied c.in-Some.is in
    field_at v c.args.walk.now c.loop-index.walk c.args.place one object c.as_slice-fields.result.now c.loop-index.index _ c.loop-index.invariant.grows c.found_at-found.ensures here c.as_slice-fields.ensures c.loop-index-test.true

pub loop-index-preserved : goal.loop-index-preserved
loop-index-preserved g c =
    let v = view c.args.space.now.parts in
    let old = c.loop-index.invariant in
    let step = c.in_ok-meet_field.ensures in
    record {
      sound = step.sound;
      grows = grows_twice c.args.walk.now c.loop-index.walk c.meet_field.new.walk old.grows step.grows;
      by = found_twice c.args.walk.now.found.items c.loop-index.walk c.meet_field.new.walk (Some c.args.place) step.grows old.by step.by;
      met = one_more_met v c.loop-index.walk c.meet_field.new.walk c.as_slice-fields.result.now c.loop-index.index _ c.loop-index-test.true step.grows old.met step.met;
    }

pub returns-clause-done : goal.returns-clause-done
returns-clause-done g c =
    let v = view c.args.space.now.parts in
    let one = c.found_at-found.result in
    let object = c.in-Some.object.now in
    let here : object_at v.cars one.at ≡ Some object = sym c.object_at.ensures.object ∙ ap option_copied c.in-Some.is in
    all_fields_met v c.args.walk.now c.loop-index.walk c.args.place one object c.as_slice-fields.result.now c.loop-index.index c.loop-index.invariant.grows c.found_at-found.ensures here c.as_slice-fields.ensures c.loop-index-test.false c.loop-index.invariant.met
