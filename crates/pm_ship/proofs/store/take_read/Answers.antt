use Rattle.std.proofs.Common.{List, sym, subst, ◌∙◌}
use Rattle.pm_image.specs.declared.settled.KeptPage.{KeptPage}
use Rattle.pm_ship.specs.Stores.{IsTakenFrom}
use Rattle.pm_ship.proofs.store.take_read.Goals as goal

pub returns-clause-taken : goal.returns-clause-taken
returns-clause-taken c = subst (λ (ks : List KeptPage). IsTakenFrom c.args.chain ks c.args.epoch c.args.next c.in_ok-taken.taken) c.into_parts-cars.ensures.cars c.in_ok-taken.ensures

pub returns-clause-packed : goal.returns-clause-packed
returns-clause-packed c = c.into_parts-cars.ensures.packed ∙ sym c.into_parts-cars.ensures.cars ∙ sym c.in_ok-taken.ensures.cars_are
