use Rattle.std.proofs.Common.{◌∙◌, true, false, sym}
use Rattle.std.proofs.lemmas.Bool.{true≢false, false_from_ne_true}
use Rattle.pm_view.specs.Rows.{has_room}
use Rattle.pm_law_commands.proofs.RowLemmas.Born.{room_fits}
use Rattle.pm_space.proofs.Places.{room_where_fits, asked, asked_none, fits_there}
use Rattle.pm_space.proofs.placing.if_fits.Goals as goal

pub returns-then-fits-clause-car : goal.returns-then-fits-clause-car
returns-then-fits-clause-car g c =
    sym (asked c.args.parts.now.cars c.args.room c.args.car c.in-Some.held.now true c.in-Some.ensures (room_where_fits c.in-Some.held.now.car.car c.args.room (c.fits.ensures.0 c.if-fits.true)))

pub returns-then-fits-clause-fits : goal.returns-then-fits-clause-fits
returns-then-fits-clause-fits g c = fits_there c.args.parts.now.cars c.args.room c.args.car c.in-Some.held.now c.in-Some.ensures (c.fits.ensures.0 c.if-fits.true)

pub returns-else-fits-clause-car : goal.returns-else-fits-clause-car
returns-else-fits-clause-car g c =
    let car = c.in-Some.held.now.car.car in
    sym (asked c.args.parts.now.cars c.args.room c.args.car c.in-Some.held.now false c.in-Some.ensures
    (false_from_ne_true (has_room car c.args.room) (λ has. true≢false (sym (c.fits.ensures.1 (room_fits car c.args.room has)) ∙ c.if-fits.false))))

pub returns-in-None-clause-car : goal.returns-in-None-clause-car
returns-in-None-clause-car g c = sym (asked_none c.args.parts.now.cars c.args.room c.args.car c.in-None.ensures)
