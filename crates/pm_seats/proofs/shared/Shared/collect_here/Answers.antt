use Rattle.std.proofs.Common.{◌∷◌, ap, sym, subst, ◌∙◌}
use Rattle.atomic_table.specs.Table.{rest}
use Rattle.pm_place.specs.Choosers.{IsChooser}
use Rattle.pm_seats.specs.Sharing.{first_engine}
use Rattle.pm_seats.proofs.Turning.{book_tied, made_here, same_chooser, slot_is}
use Rattle.pm_seats.proofs.shared.Shared.collect_here.Goals as goal

pub slot_mut-slot-requires : goal.slot_mut-slot-requires
slot_mut-slot-requires g c = (c.requires.seat, slot_is _ _ c.requires.has)

pub returns-clause-made : goal.returns-clause-made
returns-clause-made g c =
    made_here (first_engine c.args.self.now) _ c.args.seat.now.me c.requires.has c.in-Some.book c.collect-answer.new.self (c.slot_mut-slot.ensures.value ∙ ap (λ x. (0, x) ∷ rest c.args.seat.now.me.1) c.in-Some.is)
    c.collect-answer.ensures.call c.collect-answer.ensures.call.tied c.keep_its_log.ensures.legal c.keep_its_log.ensures.paired c.keep_its_engine-2.ensures.goes c.keep_its_engine-2.ensures.stopped c.keep_its_engine-2.ensures.counted c.keep_its_engine-2.ensures.few

pub collect-answer-requires : goal.collect-answer-requires
collect-answer-requires g c =
    let first = first_engine c.args.self.now in
    let book = c.in-Some.book in
    let tied = book_tied first c.args.seat.now.me c.requires.has book (c.slot_mut-slot.ensures.value ∙ ap (λ x. (0, x) ∷ rest c.args.seat.now.me.1) c.in-Some.is) in
    record { chooser = subst (λ f. IsChooser g.F.Fn f) (sym (same_chooser g.row.F.coded first book _ tied c.keep_its_engine.ensures.goes)) c.requires.chooser }
