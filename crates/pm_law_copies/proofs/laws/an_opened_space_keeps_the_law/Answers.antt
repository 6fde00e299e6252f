use Rattle.pm_law_copies.proofs.OpenedLaw.{keeps_law}
use Rattle.pm_law_copies.proofs.OpenedStands.{stands, saves_again}
use Rattle.pm_law_copies.proofs.laws.an_opened_space_keeps_the_law.Goals as goal

pub returns-clause-law : goal.returns-clause-law
returns-clause-law c = keeps_law

pub returns-clause-world : goal.returns-clause-world
returns-clause-world c = λ listed catalog next view number ok opened. stands listed catalog next view ok opened number

pub returns-clause-copy : goal.returns-clause-copy
returns-clause-copy c = λ listed catalog next view ok opened. saves_again listed catalog next view ok opened
