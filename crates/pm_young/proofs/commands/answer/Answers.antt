use Rattle.std.proofs.Common.{rules, refl}
use Rattle.pm_space.specs.Shown.{view}
use Rattle.pm_engine.specs.Works.Working.{AddsNothing, view_in}
use Rattle.pm_young.proofs.Admitted.{on_err}
use Rattle.pm_young.proofs.Answered.{answered_lost, loses_parts, loses_same, still_loses}
use Rattle.pm_young.proofs.commands.answer.Goals as goal

pub returns-in_err-reserve-clause-err : goal.returns-in_err-reserve-clause-err
returns-in_err-reserve-clause-err g c =
    let works = c.args.works.now in
    let v = view_in works in
    let nothing : AddsNothing works (record works { journal = c.reserve.new.self }) =
    record { past = refl; journal = c.reserve.ensures.items; course = refl; watches = refl; events = refl; steps = refl; room = search rules } in
    on_err c.from_residual.result (loses_parts nothing (still_loses c.args.client c.args.cmd v v c.args.nursery.now (loses_same v c.args.nursery.now c.args.client c.args.cmd) c.args.entered.now.items))

pub returns-in_err-told-clause-err : goal.returns-in_err-told-clause-err
returns-in_err-told-clause-err g c =
    let works = c.args.works.now in
    let nothing : AddsNothing works (record works { journal = c.reserve.new.self; space = c.serve.new.space }) =
    record { past = refl; journal = c.reserve.ensures.items; course = refl; watches = refl; events = refl; steps = refl; room = search rules } in
    on_err c.from_residual-in_err-told.result
    (loses_parts nothing
    (answered_lost c.args.client c.args.cmd (view_in works) (view c.serve.new.space.parts) c.args.nursery.now c.serve.new.nursery c.args.entered.now.items c.serve.new.entered.items c.in_ok-reply.reply c.in_ok-reply.ensures.ok))
