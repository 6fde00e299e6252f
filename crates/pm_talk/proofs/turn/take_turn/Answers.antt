use Rattle.std.proofs.Common.{◌∙◌, List, ℕ, Option, Result, ap, subst, sym}
use Rattle.pm_peer.specs.declared.next.Next.{Next}
use Rattle.pm_peer.specs.declared.next.Next.TheVariants.{TooLong}
use Rattle.pm_peer.specs.Hearing.{HearsNext}
use Rattle.pm_peer.specs.Questions.{asked_at}
use Rattle.pm_engine.specs.declared.events.stop.Stop.{Stop}
use Rattle.pm_engine.specs.Shown.{disk_in, serving}
use Rattle.pm_talk.specs.declared.ending.Ending.{Ending}
use Rattle.pm_talk.specs.Going.{TalkGoesOn}
use Rattle.pm_talk.specs.Stepping.{AnswersTo, TurnsTo, turn_stop}
use Rattle.pm_talk.specs.Wires.{wire}
use Rattle.pm_talk.proofs.Finishing.{took_stop}
use Rattle.pm_talk.proofs.Going.{talk_first}
use Rattle.pm_talk.proofs.Turning.{turn_of_line, turn_of_long, turn_of_silence}
use Rattle.pm_talk.proofs.turn.take_turn.Goals as goal

pub returns-in-Line-clause-turn : goal.returns-in-Line-clause-turn
returns-in-Line-clause-turn g c =
    let w = wire g.P.Peer c.args.peer.now in
    let mid = wire g.P.Peer c.next.new.peer in
    let v = wire g.P.Peer c.answer_turn-answered.new.peer in
    let old = c.args.buffers.now.lines in
    let new = c.next.new.self in
    let it = serving c.args.engine.now in
    let to = serving c.answer_turn-answered.new.engine in
    subst (λ (r : Result Next Ending). TurnsTo c.args.events r old.kept new.kept it to w v) (sym c.took.ensures)
    (turn_of_line c.args.events old new w mid it (λ kept. ap (wire g.P.Peer) (c.next.ensures.patient kept))
    (subst (λ (n : Next). HearsNext n old new w.left mid.left w.talk mid.talk) c.in-Line.is c.in-Ok.ensures.next) to v c.answer_turn-answered.result
    (subst (λ (body : List ℕ). AnswersTo c.args.events (asked_at body) it to mid v c.answer_turn-answered.result) c.line-body.ensures c.answer_turn-answered.ensures.answers))

pub returns-in-TooLong-clause-turn : goal.returns-in-TooLong-clause-turn
returns-in-TooLong-clause-turn g c =
    let w = wire g.P.Peer c.args.peer.now in
    let mid = wire g.P.Peer c.next.new.peer in
    let v = wire g.P.Peer c.answer_long.new.peer in
    let old = c.args.buffers.now.lines in
    let new = c.next.new.self in
    let it = serving c.args.engine.now in
    let to = serving c.answer_long.new.engine in
    subst (λ (r : Result Next Ending). TurnsTo c.args.events r old.kept new.kept it to w v) (sym c.took-in-TooLong.ensures)
    (turn_of_long c.args.events old new w mid it (λ kept. ap (wire g.P.Peer) (c.next.ensures.patient kept))
    (subst (λ (n : Next). HearsNext n old new w.left mid.left w.talk mid.talk) c.in-TooLong.is c.in-Ok.ensures.next) to v c.answer_long.result (c.answer_long.ensures.answers c.args.events))

pub returns-in-TooLong-clause-engine : goal.returns-in-TooLong-clause-engine
returns-in-TooLong-clause-engine g c =
    subst (λ (stop : Option Stop). TalkGoesOn c.args.engine.now c.answer_long.new.engine stop) (sym (ap turn_stop c.took-in-TooLong.ensures ∙ took_stop c.answer_long.result TooLong)) c.answer_long.ensures.engine

pub returns-in-Silent-clause-turn : goal.returns-in-Silent-clause-turn
returns-in-Silent-clause-turn g c =
    let w = wire g.P.Peer c.args.peer.now in
    let mid = wire g.P.Peer c.next.new.peer in
    let old = c.args.buffers.now.lines in
    let new = c.next.new.self in
    turn_of_silence c.args.events old new w mid (serving c.args.engine.now) (λ kept. ap (wire g.P.Peer) (c.next.ensures.patient kept))
    (subst (λ (n : Next). HearsNext n old new w.left mid.left w.talk mid.talk) c.in-Silent.is c.in-Ok.ensures.next)

pub returns-in-Silent-clause-engine : goal.returns-in-Silent-clause-engine
returns-in-Silent-clause-engine g c =
    let law = c.keep_their_images.ensures in
    talk_first c.args.engine.now c.requires.running law.legal (law.settled c.requires.running) (g.met.D.Disk.only_now (disk_in c.args.engine.now))

pub returns-in-Cut-clause-engine : goal.returns-in-Cut-clause-engine
returns-in-Cut-clause-engine g c =
    let law = c.keep_their_images.ensures in
    talk_first c.args.engine.now c.requires.running law.legal (law.settled c.requires.running) (g.met.D.Disk.only_now (disk_in c.args.engine.now))

pub returns-in-End-clause-engine : goal.returns-in-End-clause-engine
returns-in-End-clause-engine g c =
    let law = c.keep_their_images.ensures in
    talk_first c.args.engine.now c.requires.running law.legal (law.settled c.requires.running) (g.met.D.Disk.only_now (disk_in c.args.engine.now))

pub returns-in-Err-clause-engine : goal.returns-in-Err-clause-engine
returns-in-Err-clause-engine g c =
    let law = c.keep_their_images.ensures in
    talk_first c.args.engine.now c.requires.running law.legal (law.settled c.requires.running) (g.met.D.Disk.only_now (disk_in c.args.engine.now))
