use Rattle.std.proofs.Common.{subst, arith}
use Rattle.pm_layout.specs.Reading.{Gives}
use Rattle.pm_layout.proofs.Slots.{is_found}
use Rattle.pm_layout.proofs.Again.{slot_again}
use Rattle.pm_layout.proofs.reading.read_slot.Goals as goal

pub returns-clause-found : goal.returns-clause-found
returns-clause-found c = is_found c.args.most c.args.bytes.now c.args.at c.slot_at.result (λ i. omega (arith, c.type_inv.bytes i)) c.slot_at.ensures.exact

pub returns-clause-only : goal.returns-clause-only
returns-clause-only c = λ slot next range s. subst (λ r. Gives c.slot_at.result r) (slot_again c.args.most c.args.bytes.now c.args.at slot next (omega arith) c.requires.at range s) c.slot_at.ensures.exact
