use Rattle.std.proofs.Common.{[], Err, refl, inl}
use Rattle.pm_script.specs.declared.fault.Cause.TheVariants as cause
use Rattle.pm_engine.specs.Shown.{serving}
use Rattle.pm_talk.specs.Saying.{told_by}
use Rattle.pm_talk.specs.Wires.{wire}
use Rattle.pm_talk.specs.declared.answer.Saying.TheVariants.{Short}
use Rattle.pm_talk.proofs.Finishing.{answers_finished}
use Rattle.pm_talk.proofs.turn.answer_long.Goals as goal

pub returns-clause-answers : goal.returns-clause-answers
returns-clause-answers g c = λ events.
    answers_finished events (Err cause.LineTooLong) (told_by [] (Short c.fault_line.result)) 0 (serving c.args.engine.now) (serving c.args.engine.now) (serving c.finish_turn.new.engine)
    (wire g.P.Peer c.args.peer.now) (wire g.P.Peer c.finish_turn.new.peer) c.finish_turn.result (inl (refl, c.fault_line.ensures, refl)) c.finish_turn.ensures.turn
