use Rattle.pm_law_copies.proofs.OpenedStands.{objects_stay, next_past_listed}
use Rattle.pm_law_copies.proofs.laws.opening_leaves_objects_in_their_slots.Goals as goal

pub returns-clause-objects : goal.returns-clause-objects
returns-clause-objects c = λ listed catalog next view a ok opened. objects_stay listed catalog next view ok opened a

pub returns-clause-next : goal.returns-clause-next
returns-clause-next c = λ listed catalog next view a slot car ok opened. next_past_listed listed catalog next view ok opened a slot car
