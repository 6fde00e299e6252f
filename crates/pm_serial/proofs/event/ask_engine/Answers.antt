use Rattle.std.proofs.Common.{subst, sym}
use Rattle.pm_engine.specs.Shown.{serving}
use Rattle.pm_engine.specs.Events.Events.{Adds, EngineGoesOn, IsShort, KeepsCounts}
use Rattle.pm_serial.proofs.Stopping.{stopped, unwritten, went_on}
use Rattle.pm_engine.specs.Events.Causes.{why}
use Rattle.pm_serial.proofs.event.ask_engine.Goals as goal

pub returns-clause-adds : goal.returns-clause-adds
returns-clause-adds g c = went_on (Adds c.args.client c.args.cmd (serving c.args.engine.now) (serving c.give.new.engine)) c.give.result c.stop_after.result c.stop_after.ensures c.give.ensures.adds

pub returns-clause-stays : goal.returns-clause-stays
returns-clause-stays g c = stopped (KeepsCounts (serving c.args.engine.now) (serving c.give.new.engine)) c.give.result c.stop_after.result c.stop_after.ensures c.give.ensures.stays

pub returns-clause-short : goal.returns-clause-short
returns-clause-short g c = subst (IsShort c.args.cmd (serving c.args.engine.now) (serving c.give.new.engine)) (sym c.stop_after.ensures) c.give.ensures.short

pub returns-clause-engine : goal.returns-clause-engine
returns-clause-engine g c = subst (EngineGoesOn c.args.engine.now c.give.new.engine) (sym c.stop_after.ensures) c.give.ensures.engine

pub returns-clause-unwritten : goal.returns-clause-unwritten
returns-clause-unwritten g c = unwritten c.give.result (why c.stop_after.result) c.stop_after.ensures
