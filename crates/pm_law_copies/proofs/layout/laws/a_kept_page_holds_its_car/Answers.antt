use Rattle.pm_law_copies.proofs.LayoutLemmas.Keeping.{cars_held, held_still}
use Rattle.pm_law_copies.proofs.layout.laws.a_kept_page_holds_its_car.Goals as goal

pub returns-clause-now : goal.returns-clause-now
returns-clause-now c = cars_held

pub returns-clause-later : goal.returns-clause-later
returns-clause-later c = held_still
