use Rattle.std.proofs.Common.{sym, ap, subst, ◌∙◌, IfSome}
use Rattle.pm_view.specs.Rows.{tail_for}
use Rattle.pm_space.specs.Places.{FitsIn}
use Rattle.pm_space.specs.Shown.{view}
use Rattle.pm_space.proofs.OpenedCars.{lowest_vacant}
use Rattle.pm_evac.specs.Relocate.Moves.{led_fields}
use Rattle.pm_evac.proofs.relocate.moving.plan_of.Goals as goal

pub room_of-requires-clause-fields : goal.room_of-requires-clause-fields
room_of-requires-clause-fields g c = (c.requires.law.built.objects c.args.from c.in-Some.object.now (sym c.in-Some.ensures.object)).fields

pub room_of-requires-clause-bytes : goal.room_of-requires-clause-bytes
room_of-requires-clause-bytes g c = (c.requires.law.built.objects c.args.from c.in-Some.object.now (sym c.in-Some.ensures.object)).bytes

pub returns : goal.returns
returns g c =
    let v = view c.args.parts.now in
    let object = c.in-Some.object.now in
    let was = c.requires.law.built.objects c.args.from object (sym c.in-Some.ensures.object) in
    record {
      object = object;
      here = sym c.in-Some.ensures.object;
      fields_few = was.fields;
      bytes_few = was.bytes;
      number = c.vacant-number.result;
      vacant = lowest_vacant c.args.parts.now.cars c.vacant-number.result c.vacant-number.ensures;
      tail = c.tail_for-tail.ensures.tail ∙ ap (tail_for v c.args.train) c.room_of.ensures.room;
      fits = subst (λ room. IfSome c.tail_for-tail.result (λ car. FitsIn v.cars car room)) c.room_of.ensures.room c.tail_for-tail.ensures.fits;
      to = c.place_in-to.ensures;
      fields = c.in_ok-fields.ensures ∙ ap (led_fields v.cars c.args.from c.place_in-to.result) c.as_slice.ensures;
    }
