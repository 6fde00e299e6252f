use Rattle.pm_law_copies.proofs.LayoutLemmas.Written.{plan_cars, plan_catalog, plan_header, plan_parts}
use Rattle.pm_law_copies.proofs.layout.laws.a_plans_pages_may_be_written.Goals as goal

pub returns-clause-cars : goal.returns-clause-cars
returns-clause-cars c = plan_cars

pub returns-clause-parts : goal.returns-clause-parts
returns-clause-parts c = plan_parts

pub returns-clause-catalog : goal.returns-clause-catalog
returns-clause-catalog c = plan_catalog

pub returns-clause-header : goal.returns-clause-header
returns-clause-header c = plan_header
