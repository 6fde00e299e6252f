use denote.Param.{param}
use denote.Exit.{no}
use denote.Param.Send.{arg_send, param_send}
use Rattle.std.proofs.Common.{ap, ◌∙◌}
use Rattle.pm_lock.specs.contracts.book.Book as book
use Rattle.pm_lock.proofs.Crosses.{book_send}
use Rattle.pm_lock.proofs.CrewLemmas.Whole.{made_all}
use Rattle.pm_lock.proofs.crew.run.run_all.Goals as goal

pub take_turns-book-requires-send-B : goal.take_turns-book-requires-send-B
take_turns-book-requires-send-B g c κs within =
    param_send 0 _ (arg_send _ no (book.the_row (param 0 g.row.D) (param 1 g.row.F) g.D.Disk) (book_send (param 0 g.row.D) (param 1 g.row.F) g.D.Disk c.type_bounds.send-D c.type_bounds.send-F))

pub returns-clause-all : goal.returns-clause-all
returns-clause-all g c = λ none.
    let law = c.keep_its_script.ensures in
    let finished = c.finish.ensures in
    made_all c.finish.new.book _ (finished.lasts.lines_are ∙ ap (λ origin. origin.script) c.take_turns-book.ensures.tie) law.lines (finished.nothing none) law.parts law.steps law.events
