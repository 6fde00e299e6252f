use Rattle.std.proofs.Common.{None}
use Rattle.pm_peer.specs.Questions.{asked_at}
use Rattle.pm_engine.specs.Shown.{serving}
use Rattle.pm_talk.specs.Saying.{due_by, told_by}
use Rattle.pm_talk.specs.Wires.{wire}
use Rattle.pm_talk.proofs.Finishing.{answers_finished, stops_finished}
use Rattle.pm_talk.proofs.Going.{talk_then}
use Rattle.pm_talk.proofs.turn.answer_turn.Goals as goal

pub returns-in-Some-clause-answers : goal.returns-in-Some-clause-answers
returns-in-Some-clause-answers g c =
    answers_finished c.args.events (asked_at c.args.body.now) (told_by c.answer_body.new.reply c.in-Some.saying) (due_by c.in-Some.saying) (serving c.args.engine.now) (serving c.answer_body.new.engine) (serving c.finish_turn.new.engine)
    (wire g.P.Peer c.args.peer.now) (wire g.P.Peer c.finish_turn.new.peer) c.finish_turn.result c.in-Some.ensures.ready.says c.finish_turn.ensures.turn

pub returns-in-Some-clause-engine : goal.returns-in-Some-clause-engine
returns-in-Some-clause-engine g c =
    stops_finished c.args.engine.now c.finish_turn.new.engine (told_by c.answer_body.new.reply c.in-Some.saying) (due_by c.in-Some.saying) (serving c.answer_body.new.engine) (wire g.P.Peer c.args.peer.now) (wire g.P.Peer c.finish_turn.new.peer) c.finish_turn.result c.finish_turn.ensures.turn
    (talk_then c.args.engine.now c.answer_body.new.engine c.finish_turn.new.engine None c.in-Some.ensures.engine c.finish_turn.ensures.engine)
