use Rattle.std.proofs.Common.{Ok, subst, sym}
use Rattle.pm_script.specs.declared.line.Line.{Line as Says}
use Rattle.pm_peer.specs.declared.asked.Asked.TheVariants.{Line}
use Rattle.pm_engine.specs.Shown.{serving}
use Rattle.pm_talk.specs.Saying.{IsReady, SaysBy}
use Rattle.pm_talk.proofs.answer.answer_line.Goals as goal

pub returns-in-Gc-clause-ready : goal.returns-in-Gc-clause-ready
returns-in-Gc-clause-ready g c =
    subst (λ (line : Says). SaysBy c.args.events (Ok (Line line)) (serving c.args.engine.now) (serving c.answer_gc.new.engine) c.args.reply.now c.answer_gc.result) (sym c.in-Gc.is)
    (c.answer_gc.ensures.says c.args.events c.args.reply.now)

pub returns-in-Flush-clause-ready : goal.returns-in-Flush-clause-ready
returns-in-Flush-clause-ready g c =
    subst (λ (line : Says). IsReady c.args.events (Ok (Line line)) (serving c.args.engine.now) (serving c.answer_flush.new.engine) c.args.reply.now c.answer_flush.result) (sym c.in-Flush.is)
    (c.answer_flush.ensures.ready c.args.events c.args.reply.now)
