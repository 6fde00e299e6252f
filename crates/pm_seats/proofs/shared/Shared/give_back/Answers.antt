use Rattle.std.proofs.Common.{[], ap, sym, ◌∙◌}
use Rattle.pm_engine.specs.contracts.Engine as engines
use Rattle.pm_seats.specs.Shown.{numbers_in}
use Rattle.pm_seats.specs.Sharing.{first_engine}
use Rattle.pm_seats.specs.Turns.{given_after}
use Rattle.pm_seats.proofs.Turning.{ready}
use Rattle.pm_seats.proofs.shared.Shared.give_back.Goals as goal

pub put_back_telling-requires-clause-ready : goal.put_back_telling-requires-clause-ready
put_back_telling-requires-clause-ready g c = ready (engines.the_row g.row.D g.row.F g.D.Disk).coded.code (first_engine c.args.self.now) _ c.requires.may c.requires.origin

pub returns-in-Engine-clause-back : goal.returns-in-Engine-clause-back
returns-in-Engine-clause-back g c =
    let x = c.give_back_answered.ensures.back in
    record { book = x.book; held = x.held; back = x.back ∙ ap (λ f. (given_after f c.args.seat.now.me.0 (numbers_in x.book), [])) (sym c.in-Engine.is) }

pub returns-in-Spent-clause-back : goal.returns-in-Spent-clause-back
returns-in-Spent-clause-back g c =
    let x = c.put_back_telling.ensures.back in
    record { book = x.0; held = x.1; back = x.2 ∙ ap (λ f. (given_after f c.args.seat.now.me.0 (numbers_in x.0), [])) (sym c.in-Spent.is) }
