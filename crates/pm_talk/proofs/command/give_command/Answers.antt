use Rattle.pm_talk.proofs.Commanding.{adds_of, stops_of}
use Rattle.pm_talk.proofs.Going.{talk_called}
use Rattle.pm_talk.proofs.command.give_command.Goals as goal

pub returns-clause-adds : goal.returns-clause-adds
returns-clause-adds g c = adds_of c.args.engine.now c.give.new.engine c.args.client c.args.cmd c.requires.running c.give.result c.give.ensures.call

pub returns-clause-stops : goal.returns-clause-stops
returns-clause-stops g c = stops_of c.args.engine.now c.give.new.engine c.args.client c.args.cmd c.requires.running c.give.result c.give.ensures.call c.requires.room

pub returns-clause-engine : goal.returns-clause-engine
returns-clause-engine g c = talk_called c.args.engine.now c.give.new.engine c.give.result c.give.ensures.engine
