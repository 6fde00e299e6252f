use Rattle.pm_law_copies.proofs.Listing.{slot_listed}
use Rattle.pm_law_copies.proofs.Order.{listed_numbers, listed_trains}
use Rattle.pm_law_copies.proofs.Accepting.{accepted}
use Rattle.pm_law_copies.proofs.laws.a_copys_cars_are_accepted.Goals as goal

pub returns-clause-slots : goal.returns-clause-slots
returns-clause-slots c = λ view a law. slot_listed view law.built.linked a

pub returns-clause-numbers : goal.returns-clause-numbers
returns-clause-numbers c = λ view law. listed_numbers view law

pub returns-clause-trains : goal.returns-clause-trains
returns-clause-trains c = λ view law. listed_trains view law

pub returns-clause-accepted : goal.returns-clause-accepted
returns-clause-accepted c = λ view law. accepted view law
