use Rattle.pm_shadow.proofs.AttachLemmas.{heads_current}
use Rattle.pm_shadow.proofs.law.a_header_in_the_picked_slot_is_current.Goals as goal

pub returns : goal.returns
returns c = heads_current
