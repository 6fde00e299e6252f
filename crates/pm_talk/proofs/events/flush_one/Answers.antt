use Rattle.std.proofs.Common.{ℕ, Err, subst, sym}
use Rattle.pm_types.specs.declared.event.Flushed.{Flushed}
use Rattle.pm_engine.specs.Shown.{serving}
use Rattle.pm_talk.specs.Flushing.{FlushesOne}
use Rattle.pm_talk.proofs.Going.{talk_called, talk_goes}
use Rattle.pm_talk.proofs.Making.{flushed_none, flushed_one}
use Rattle.pm_talk.proofs.events.flush_one.Goals as goal

pub returns-in-Ok-clause-made : goal.returns-in-Ok-clause-made
returns-in-Ok-clause-made g c =
    subst (λ (n : ℕ). FlushesOne n (serving c.args.engine.now) (serving c.flush_once.new.engine)) (sym c.pages_by.ensures) (flushed_one c.args.engine.now c.flush_once.new.engine c.in-Ok.flushed c.in-Ok.ensures.call)

pub returns-in-Ok-clause-engine : goal.returns-in-Ok-clause-engine
returns-in-Ok-clause-engine g c = talk_goes c.args.engine.now c.flush_once.new.engine c.in-Ok.ensures.engine

pub returns-in-Err-clause-stops : goal.returns-in-Err-clause-stops
returns-in-Err-clause-stops g c = flushed_none c.args.engine.now c.flush_once.new.engine c.in-Err.fault c.in-Err.ensures.call c.requires.running

pub returns-in-Err-clause-engine : goal.returns-in-Err-clause-engine
returns-in-Err-clause-engine g c = talk_called {T = Flushed} c.args.engine.now c.flush_once.new.engine (Err c.in-Err.fault) c.in-Err.ensures.engine
