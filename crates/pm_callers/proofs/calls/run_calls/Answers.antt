use Rattle.std.proofs.Common.{sym, subst}
use Rattle.pm_place.specs.Choosers.{IsChooser}
use Rattle.pm_engine.specs.Events.Running.{IsFresh}
use Rattle.pm_engine.proofs.EventsLemmas.Going.{goes_still}
use Rattle.pm_callers.proofs.Closing.{asked_by, nothing_run}
use Rattle.pm_callers.proofs.calls.run_calls.Goals as goal

pub share-requires-clause-fresh : goal.share-requires-clause-fresh
share-requires-clause-fresh g c κs within = subst IsFresh (sym c.in-Ok.ensures.engine.serving_is) c.requires.fresh

pub share-requires-clause-chooser : goal.share-requires-clause-chooser
share-requires-clause-chooser g c κs within = subst (IsChooser g.F.Fn) (sym c.in-Ok.ensures.engine.start.chooser) c.requires.chooser

pub returns-in-Ok : goal.returns-in-Ok
returns-in-Ok g c =
    let old = c.args.engine in
    let keeps = c.in-Ok.ensures.engine in
    let law = c.keep_their_images.ensures in
    let fresh = c.requires.fresh in
    asked_by c.args.script old c.in-Ok.engine c.share.result.1 c.in-Ok.tasks.items c.share.result.0 fresh c.in-Ok.ensures.tasks keeps
    (goes_still old c.in-Ok.engine keeps.start keeps.entries keeps.room keeps.serving_is keeps.disk fresh.stopped law.legal (law.settled fresh.stopped) c.images_since_now.ensures)
    c.share.ensures

pub returns-in-Err : goal.returns-in-Err
returns-in-Err g c =
    let old = c.args.engine in
    let keeps = c.in-Err.ensures.back in
    let law = c.keep_their_images.ensures in
    let fresh = c.requires.fresh in
    nothing_run c.args.script old c.in-Err.engine c.in-Err.none fresh keeps
    (goes_still old c.in-Err.engine keeps.start keeps.entries keeps.room keeps.serving_is keeps.disk fresh.stopped law.legal (law.settled fresh.stopped) c.images_since_now.ensures)
