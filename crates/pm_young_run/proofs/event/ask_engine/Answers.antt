use Rattle.std.proofs.Common.{subst, sym}
use Rattle.pm_script.specs.declared.line.Line.TheVariants as says
use Rattle.pm_script.specs.declared.line.YoungLine.TheVariants.{Base}
use Rattle.pm_engine.specs.Events.Causes.{why}
use Rattle.pm_engine.specs.Events.Events.{Adds, IsShort, KeepsCounts}
use Rattle.pm_serial.proofs.Stopping.{stopped, unwritten, went_on}
use Rattle.pm_young.specs.Seen.{disk_in, serving}
use Rattle.pm_young_run.specs.Entered.{Enters}
use Rattle.pm_young_run.specs.Stepping.{YoungGoesOnRun}
use Rattle.pm_young_run.proofs.Calls.{adds_entry, client_goes, client_short, client_stays}
use Rattle.pm_young_run.proofs.Entering.{command_enters}
use Rattle.pm_young_run.proofs.event.ask_engine.Goals as goal

pub returns-clause-adds : goal.returns-clause-adds
returns-clause-adds g c =
    let old = c.args.engine.now in
    let new = c.give-answer.new.self in
    went_on (Adds c.args.client c.args.cmd (serving old) (serving new)) c.give-answer.result c.stop_after.result
    c.stop_after.ensures (adds_entry old new c.args.client c.args.cmd c.give-answer.result
    c.give-answer.ensures.call)

pub returns-clause-stays : goal.returns-clause-stays
returns-clause-stays g c =
    let old = c.args.engine.now in
    let new = c.give-answer.new.self in
    stopped (KeepsCounts (serving old) (serving new)) c.give-answer.result c.stop_after.result c.stop_after.ensures
    (client_stays old new c.args.client c.args.cmd c.give-answer.result c.give-answer.ensures.call)

pub returns-clause-short : goal.returns-clause-short
returns-clause-short g c =
    let old = c.args.engine.now in
    let new = c.give-answer.new.self in
    subst (IsShort c.args.cmd (serving old) (serving new)) (sym c.stop_after.ensures)
    (client_short old new c.args.client c.args.cmd c.give-answer.result c.give-answer.ensures.call c.requires.room)

pub returns-clause-engine : goal.returns-clause-engine
returns-clause-engine g c =
    let old = c.args.engine.now in
    let new = c.give-answer.new.self in
    subst (YoungGoesOnRun old new) (sym c.stop_after.ensures)
    (client_goes old new c.give-answer.ensures.start c.keep_their_images.ensures.legal c.requires.running
    (λ left here later. g.met.D.Disk.counts_now (disk_in new) (g.D.Disk.moment (disk_in old)) left later here)
    c.args.client c.args.cmd c.give-answer.result c.give-answer.ensures.call)

pub returns-clause-enters : goal.returns-clause-enters
returns-clause-enters g c =
    let old = c.args.engine.now in
    let new = c.give-answer.new.self in
    went_on (Enters (Base (says.Client c.args.client c.args.cmd)) old new) c.give-answer.result c.stop_after.result
    c.stop_after.ensures
    (command_enters old new c.args.client c.args.cmd c.give-answer.result c.give-answer.ensures.call
    c.keep_their_nursery.ensures)

pub returns-clause-unwritten : goal.returns-clause-unwritten
returns-clause-unwritten g c = unwritten c.give-answer.result (why c.stop_after.result) c.stop_after.ensures
