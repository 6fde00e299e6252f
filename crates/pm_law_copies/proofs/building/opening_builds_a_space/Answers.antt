use Rattle.pm_law_copies.proofs.OpeningBuilds.{built_is_opened, may_build}
use Rattle.pm_law_copies.proofs.building.opening_builds_a_space.Goals as goal

pub returns-clause-may : goal.returns-clause-may
returns-clause-may c = may_build

pub returns-clause-opened : goal.returns-clause-opened
returns-clause-opened c = λ listed catalog next view ok built. built_is_opened listed catalog next ok view built
