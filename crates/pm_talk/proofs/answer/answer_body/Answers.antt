use Rattle.pm_engine.specs.Shown.{disk_in}
use Rattle.pm_talk.proofs.Going.{talk_first}
use Rattle.pm_talk.proofs.Saying.{askable}
use Rattle.pm_talk.proofs.answer.answer_body.Goals as goal

pub answer_asked-requires-clause-askable : goal.answer_asked-requires-clause-askable
answer_asked-requires-clause-askable g c = askable c.args.body.now c.in-Ok.asked (c.a_line_asks_what_it_spells.ensures.only c.args.body.now c.in-Ok.asked c.in-Ok.ensures)

pub returns-in-Err-clause-engine : goal.returns-in-Err-clause-engine
returns-in-Err-clause-engine g c =
    let law = c.keep_their_images.ensures in
    talk_first c.args.engine.now c.requires.running law.legal (law.settled c.requires.running) (g.met.D.Disk.only_now (disk_in c.args.engine.now))
