use Rattle.pm_restore.proofs.PackingLemmas.Copies.{leads_back, slot_there}
use Rattle.pm_restore.proofs.packing.laws.addresses_lead_to_packed_objects.Goals as goal

pub returns-clause-slots : goal.returns-clause-slots
returns-clause-slots c = slot_there

pub returns-clause-resolved : goal.returns-clause-resolved
returns-clause-resolved c = leads_back
