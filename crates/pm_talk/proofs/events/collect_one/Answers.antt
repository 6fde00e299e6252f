use Rattle.std.proofs.Common.{Err}
use Rattle.pm_talk.proofs.Going.{talk_goes}
use Rattle.pm_talk.proofs.Making.{fails_for_memory, made_none, made_one, talk_collected}
use Rattle.pm_talk.proofs.events.collect_one.Goals as goal

pub returns-in-Ok-clause-made : goal.returns-in-Ok-clause-made
returns-in-Ok-clause-made g c = made_one g.F.Fn c.args.engine.now c.collect_once.new.engine c.in-Ok.field-0 c.in-Ok.ensures.call

pub returns-in-Ok-clause-engine : goal.returns-in-Ok-clause-engine
returns-in-Ok-clause-engine g c = talk_goes c.args.engine.now c.collect_once.new.engine c.in-Ok.ensures.engine

pub refused_by-requires : goal.refused_by-requires
refused_by-requires g c = fails_for_memory g.F.Fn c.args.engine.now c.collect_once.new.engine c.in-Err.fault c.in-Err.ensures.call c.requires.running

pub returns-in-Err-clause-still : goal.returns-in-Err-clause-still
returns-in-Err-clause-still g c = made_none g.F.Fn c.args.engine.now c.collect_once.new.engine c.in-Err.fault c.in-Err.ensures.call c.requires.running

pub returns-in-Err-clause-engine : goal.returns-in-Err-clause-engine
returns-in-Err-clause-engine g c = talk_collected g.F.Fn c.args.engine.now c.collect_once.new.engine (Err c.in-Err.fault) c.in-Err.ensures.call c.requires.running c.in-Err.ensures.engine
