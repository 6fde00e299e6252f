use Rattle.std.proofs.Common.{[], ap, sym, ◌∙◌}
use Rattle.pm_engine.specs.contracts.Engine as engines
use Rattle.pm_seats.specs.Shown.{numbers_in}
use Rattle.pm_seats.specs.Sharing.{first_engine}
use Rattle.pm_seats.specs.Turns.{given_answered}
use Rattle.pm_seats.proofs.Turning.{ready}
use Rattle.pm_seats.proofs.shared.Shared.give_back_answered.Goals as goal

pub put_back-requires-clause-ready : goal.put_back-requires-clause-ready
put_back-requires-clause-ready g c = ready (engines.the_row g.row.D g.row.F g.D.Disk).coded.code (first_engine c.args.self.now) _ c.requires.may c.requires.origin

pub put_back_telling-requires-clause-ready : goal.put_back_telling-requires-clause-ready
put_back_telling-requires-clause-ready g c = ready (engines.the_row g.row.D g.row.F g.D.Disk).coded.code (first_engine c.args.self.now) _ c.requires.may c.requires.origin

pub put_back_telling-requires-in-Reopen-clause-ready : goal.put_back_telling-requires-in-Reopen-clause-ready
put_back_telling-requires-in-Reopen-clause-ready g c = ready (engines.the_row g.row.D g.row.F g.D.Disk).coded.code (first_engine c.args.self.now) _ c.requires.may c.requires.origin

pub returns-in-Memory-clause-back : goal.returns-in-Memory-clause-back
returns-in-Memory-clause-back g c =
    let x = c.put_back.ensures.back in
    record { book = x.0; held = x.1; back = x.2 ∙ ap (λ f. (given_answered f c.args.seat.now.me.0 (numbers_in x.0), [])) (sym c.in-Memory.is) }

pub returns-in-Disk-clause-back : goal.returns-in-Disk-clause-back
returns-in-Disk-clause-back g c =
    let x = c.put_back_telling.ensures.back in
    record { book = x.0; held = x.1; back = x.2 ∙ ap (λ f. (given_answered f c.args.seat.now.me.0 (numbers_in x.0), [])) (sym c.in-Disk.is) }

pub returns-in-Reopen-clause-back : goal.returns-in-Reopen-clause-back
returns-in-Reopen-clause-back g c =
    let x = c.put_back_telling-in-Reopen.ensures.back in
    record { book = x.0; held = x.1; back = x.2 ∙ ap (λ f. (given_answered f c.args.seat.now.me.0 (numbers_in x.0), [])) (sym c.in-Reopen.is) }
