use Rattle.std.proofs.Common.{◌∷◌, ap, ◌∙◌}
use Rattle.atomic_table.specs.Table.{rest}
use Rattle.pm_seats.specs.Sharing.{first_engine}
use Rattle.pm_seats.proofs.Turning.{made_here, slot_is}
use Rattle.pm_seats.proofs.shared.Shared.flush_here.Goals as goal

pub slot_mut-slot-requires : goal.slot_mut-slot-requires
slot_mut-slot-requires g c = (c.requires.seat, slot_is _ _ c.requires.has)

pub returns-clause-made : goal.returns-clause-made
returns-clause-made g c =
    made_here (first_engine c.args.self.now) _ c.args.seat.now.me c.requires.has c.in-Some.book c.flush-answer.new.self (c.slot_mut-slot.ensures.value ∙ ap (λ x. (0, x) ∷ rest c.args.seat.now.me.1) c.in-Some.is)
    c.flush-answer.ensures.call c.flush-answer.ensures.call.tied c.keep_its_log.ensures.legal c.keep_its_log.ensures.paired c.keep_its_engine.ensures.goes c.keep_its_engine.ensures.stopped c.keep_its_engine.ensures.counted c.keep_its_engine.ensures.few
