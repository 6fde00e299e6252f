use Rattle.std.proofs.Common.{◌≡◌, List, None, Some, Option, refl, ap, sym, subst, ◌∙◌}
use Rattle.pm_types.specs.Memory.{no_memory}
use Rattle.pm_types.specs.declared.fault.EngineFault.{EngineFault}
use Rattle.pm_types.specs.declared.fault.EngineFault.TheVariants.{Memory as NoRoom}
use Rattle.pm_model.specs.Text.{text}
use Rattle.pm_script.specs.declared.line.Line.{Line}
use Rattle.pm_script.specs.Parted.Lists.{list_of}
use Rattle.pm_saving.specs.Serving.{Serving}
use Rattle.pm_engine.specs.declared.engine.Engine.{Engine}
use Rattle.pm_engine.specs.Shown.{KeepsStart, disk_in, past_of, recent, serving, tally_in, unmade_in}
use Rattle.pm_engine.specs.declared.events.stop.Stop.TheVariants.{Memory}
use Rattle.pm_engine.specs.Events.Causes.{CountsDisk, why}
use Rattle.pm_engine.specs.Events.Events.{EngineGoesOn}
use Rattle.pm_engine.specs.Events.Running.{IsFresh, RunsOnDisk}
use Rattle.pm_engine.proofs.WorksLemmas.Whole.{front_none}
use Rattle.pm_serial.specs.Together.{AnswersClients, AnswersInSomeOrder}
use Rattle.pm_serial.specs.Writing.{tail_of}
use Rattle.pm_serial.proofs.Gathering.{wrote_none}
use Rattle.pm_serial.proofs.TogetherLemmas.Ended.{counts_known, past_known, runs_known, runs_none, start_known}
use Rattle.pm_serial.proofs.TogetherLemmas.Ordered.{clients_answered, fresh_order, unanswered_yet}
use Rattle.pm_lock.specs.Kept.{HasLeft, stop_kept}
use Rattle.pm_lock.specs.Shown.{collects_in, engine_in, fault_in, first_in, flushes_in, left_in, lines_in}
use Rattle.pm_lock.specs.Crew.Whole.{MakesAllOf}
use Rattle.pm_runs.specs.Threads.Running.{AnswersInTurns}
use Rattle.pm_runs.proofs.ThreadsLemmas.Ordered.{book_order, book_turns, fresh_turns}
use Rattle.pm_runs.proofs.ThreadsLemmas.Ended.{kept_memory, kept_none, kept_unwritten, noted_none}
use Rattle.pm_runs.proofs.threads.run.run_script.Goals as goal

pub returns-in-Err-clause-answers : goal.returns-in-Err-clause-answers
returns-in-Err-clause-answers g c = unanswered_yet c.args.script (serving c.args.engine) (Memory no_memory) c.requires.fresh.journal

pub returns-in-Err-clause-disk : goal.returns-in-Err-clause-disk
returns-in-Err-clause-disk g c =
    let law = c.keep_their_images.ensures in
    ∣ runs_none c.args.engine c.args.engine c.requires.fresh refl refl law.legal law.settled c.images_since_now.ensures ∣₁

pub returns-in-Err-clause-sink : goal.returns-in-Err-clause-sink
returns-in-Err-clause-sink g c =
    let it = serving c.args.engine in
    wrote_none g.K.Sink.written g.K.Sink.finished g.K.Sink.count c.args.sink.now it.journal (tail_of (tally_in it)) (ap text c.requires.fresh.journal)

pub returns-in-Err-clause-whole : goal.returns-in-Err-clause-whole
returns-in-Err-clause-whole g c = front_none (past_of c.args.engine) (recent c.args.engine) c.requires.fresh.journal

pub returns-in-Ok-new-clause-whole : goal.returns-in-Ok-new-clause-whole
returns-in-Ok-new-clause-whole g c = ap (λ (e : Engine g.row.D.Denot g.row.F.Denot g.D.Disk). past_of e) c.end_book.ensures.engine ∙ c.keep_its_engine.ensures.whole

pub returns-clause-whole : goal.returns-clause-whole
returns-clause-whole g c = c.in-Err-new.ensures.entries.past ∙ front_none (past_of c.args.engine) (recent c.args.engine) c.requires.fresh.journal

pub returns-in-Ok-new-clause-answers : goal.returns-in-Ok-new-clause-answers
returns-in-Ok-new-clause-answers g c =
    let book = c.run_all-book.result in
    let it = serving (engine_in book) in
    let stop = why c.end_book.result.0 in
    let run = c.run_all-book.ensures in
    let law = c.keep_its_script.ensures in
    let made =
    clients_answered (lines_in book) it stop (λ client. (list_of (left_in book) client, law.parts client))
    (λ done.
    let all = subst (λ (lines : List Line). MakesAllOf lines it) (sym run.lines) (run.all (kept_none (fault_in book) stop c.end_book.ensures.first done)) in
    (all.serves, all.steps, all.events)) in
    subst (λ (e : Engine g.row.D.Denot g.row.F.Denot g.D.Disk). AnswersClients c.args.script (serving e) stop) (sym c.end_book.ensures.engine)
    (subst (λ (lines : List Line). AnswersClients lines it stop) (run.lines ∙ c.in-Ok-new.ensures.begins.lines_are) made)

pub returns-in-Ok-new-clause-disk : goal.returns-in-Ok-new-clause-disk
returns-in-Ok-new-clause-disk g c =
    let book = c.run_all-book.result in
    let new = engine_in book in
    let fault = fault_in book in
    let stop = why c.end_book.result.0 in
    let kept = c.keep_its_engine.ensures in
    let first = c.run_all-book.ensures.first ∙ c.in-Ok-new.ensures.begins.first in
    let goes = subst (λ (e : Engine g.row.D.Denot g.row.F.Denot g.D.Disk). ∥ EngineGoesOn e new (stop_kept fault) ∥₁) first kept.goes in
    subst (λ (e : Engine g.row.D.Denot g.row.F.Denot g.D.Disk). ∥ RunsOnDisk c.args.engine e stop ∥₁) (sym c.end_book.ensures.engine)
    (runs_known c.args.engine new (stop_kept fault) stop c.end_book.ensures.first goes c.requires.fresh (λ none. c.keep_its_script.ensures.settled (sym kept.stopped ∙ none)))

pub returns-in-Ok-new-clause-cause : goal.returns-in-Ok-new-clause-cause
returns-in-Ok-new-clause-cause g c =
    let book = c.run_all-book.result in
    let new = engine_in book in
    let fault = fault_in book in
    let stop = why c.end_book.result.0 in
    let count = g.D.Disk.count in
    let first = c.run_all-book.ensures.first ∙ c.in-Ok-new.ensures.begins.first in
    let goes = subst (λ (e : Engine g.row.D.Denot g.row.F.Denot g.D.Disk). ∥ EngineGoesOn e new (stop_kept fault) ∥₁) first c.keep_its_engine.ensures.goes in
    subst (λ (e : Engine g.row.D.Denot g.row.F.Denot g.D.Disk). CountsDisk stop (count (disk_in c.args.engine)) (count (disk_in e))) (sym c.end_book.ensures.engine)
    (counts_known c.args.engine new (stop_kept fault) stop c.end_book.ensures.first goes)

pub returns-in-Ok-new-clause-past : goal.returns-in-Ok-new-clause-past
returns-in-Ok-new-clause-past g c =
    let book = c.run_all-book.result in
    let new = engine_in book in
    let fault = fault_in book in
    let first = c.run_all-book.ensures.first ∙ c.in-Ok-new.ensures.begins.first in
    let goes = subst (λ (e : Engine g.row.D.Denot g.row.F.Denot g.D.Disk). ∥ EngineGoesOn e new (stop_kept fault) ∥₁) first c.keep_its_engine.ensures.goes in
    ap (λ (e : Engine g.row.D.Denot g.row.F.Denot g.D.Disk). (g.D.Disk.made (disk_in e)).past) c.end_book.ensures.engine
    ∙ past_known c.args.engine new (stop_kept fault) (why c.end_book.result.0) c.end_book.ensures.first goes

pub returns-in-Ok-new-clause-start : goal.returns-in-Ok-new-clause-start
returns-in-Ok-new-clause-start g c =
    let book = c.run_all-book.result in
    let new = engine_in book in
    let fault = fault_in book in
    let first = c.run_all-book.ensures.first ∙ c.in-Ok-new.ensures.begins.first in
    let goes = subst (λ (e : Engine g.row.D.Denot g.row.F.Denot g.D.Disk). ∥ EngineGoesOn e new (stop_kept fault) ∥₁) first c.keep_its_engine.ensures.goes in
    subst (λ (e : Engine g.row.D.Denot g.row.F.Denot g.D.Disk). ∥ KeepsStart c.args.engine e ∥₁) (sym c.end_book.ensures.engine)
    (start_known c.args.engine new (stop_kept fault) (why c.end_book.result.0) c.end_book.ensures.first goes)

pub returns-clause-answers : goal.returns-clause-answers
returns-clause-answers g c =
    unanswered_yet c.args.script (serving c.in-Err-new.engine) (Memory no_memory) (ap (λ (it : Serving). it.journal) c.in-Err-new.ensures.serving ∙ c.requires.fresh.journal)

pub returns-clause-disk : goal.returns-clause-disk
returns-clause-disk g c =
    let law = c.keep_their_images.ensures in
    let back = c.in-Err-new.ensures in
    ∣ runs_none c.args.engine c.in-Err-new.engine c.requires.fresh back.serving back.disk law.legal law.settled c.images_since_now.ensures ∣₁

pub returns-clause-sink : goal.returns-clause-sink
returns-clause-sink g c =
    let it = serving c.in-Err-new.engine in
    wrote_none g.K.Sink.written g.K.Sink.finished g.K.Sink.count c.args.sink.now it.journal (tail_of (tally_in it)) (ap text (ap (λ (s : Serving). s.journal) c.in-Err-new.ensures.serving ∙ c.requires.fresh.journal))

pub returns-in-Ok-new-clause-last : goal.returns-in-Ok-new-clause-last
returns-in-Ok-new-clause-last g c = λ of.
    let book = c.run_all-book.result in
    let it = serving (engine_in book) in
    let run = c.run_all-book.ensures in
    let law = c.keep_its_script.ensures in
    let all = subst (λ (lines : List Line). MakesAllOf lines it) (sym run.lines) (run.all (kept_unwritten (fault_in book) (why c.end_book.result.0) c.end_book.ensures.first of)) in
    let made = clients_answered (lines_in book) it None (λ client. (list_of (left_in book) client, law.parts client)) (λ _. (all.serves, all.steps, all.events)) in
    subst (λ (e : Engine g.row.D.Denot g.row.F.Denot g.D.Disk). AnswersClients c.args.script (serving e) None) (sym c.end_book.ensures.engine)
    (subst (λ (lines : List Line). AnswersClients lines it None) (run.lines ∙ c.in-Ok-new.ensures.begins.lines_are) made)

pub returns-in-Err-clause-order : goal.returns-in-Err-clause-order
returns-in-Err-clause-order g c = ∣ fresh_order c.args.script (serving c.args.engine) c.requires.fresh ∣₁

pub returns-clause-order : goal.returns-clause-order
returns-clause-order g c = ∣ fresh_order c.args.script (serving c.in-Err-new.engine) (subst IsFresh (sym c.in-Err-new.ensures.serving) c.requires.fresh) ∣₁

pub returns-in-Err-clause-turns : goal.returns-in-Err-clause-turns
returns-in-Err-clause-turns g c = fresh_turns c.args.script (serving c.args.engine) (unmade_in c.args.engine) c.requires.fresh c.requires.unmade

pub returns-clause-turns : goal.returns-clause-turns
returns-clause-turns g c =
    let back = c.in-Err-new.ensures in
    fresh_turns c.args.script (serving c.in-Err-new.engine) (unmade_in c.in-Err-new.engine) (subst IsFresh (sym back.serving) c.requires.fresh) (back.unmade ∙ c.requires.unmade)

pub returns-in-Ok-new-clause-turns : goal.returns-in-Ok-new-clause-turns
returns-in-Ok-new-clause-turns g c =
    let book = c.run_all-book.result in
    let it = serving (engine_in book) in
    let stop = why c.end_book.result.0 in
    let first = c.end_book.ensures.first in
    let run = c.run_all-book.ensures in
    let law = c.keep_its_script.ensures in
    let kept = c.keep_its_engine.ensures in
    let unmade = unmade_in (engine_in book) in
    let none = ap (λ (e : Engine g.row.D.Denot g.row.F.Denot g.D.Disk). unmade_in e) (run.first ∙ c.in-Ok-new.ensures.begins.first) ∙ c.requires.unmade in
    let short : stop ≡ Some (Memory no_memory) → ∥ HasLeft (Some (NoRoom no_memory)) unmade it (left_in book) (collects_in book) (flushes_in book) ∥₁ =
    λ is. subst (λ (fault : Option EngineFault). ∥ HasLeft fault unmade it (left_in book) (collects_in book) (flushes_in book) ∥₁) (kept_memory (fault_in book) stop first is) kept.short in
    let noted = noted_none (fault_in book) stop unmade (unmade_in (first_in book)) first kept.unmade none in
    let made =
    book_turns (lines_in book) it (left_in book) (collects_in book) (flushes_in book) law.parts law.answered law.steps law.events law.few (fault_in book)
    (λ none. subst (λ (lines : List Line). MakesAllOf lines it) (sym run.lines) (run.all none)) stop first kept.history unmade short noted in
    subst (λ (e : Engine g.row.D.Denot g.row.F.Denot g.D.Disk). AnswersInTurns c.args.script (serving e) (unmade_in e) stop) (sym c.end_book.ensures.engine)
    (subst (λ (lines : List Line). AnswersInTurns lines it unmade stop) (run.lines ∙ c.in-Ok-new.ensures.begins.lines_are) made)

pub returns-in-Ok-new-clause-order : goal.returns-in-Ok-new-clause-order
returns-in-Ok-new-clause-order g c =
    let book = c.run_all-book.result in
    let it = serving (engine_in book) in
    let stop = why c.end_book.result.0 in
    let run = c.run_all-book.ensures in
    let law = c.keep_its_script.ensures in
    let made =
    book_order (lines_in book) it (left_in book) (collects_in book) (flushes_in book) law.parts law.answered law.steps law.events law.few (fault_in book)
    (λ none. subst (λ (lines : List Line). MakesAllOf lines it) (sym run.lines) (run.all none)) stop c.end_book.ensures.first c.keep_its_engine.ensures.history in
    subst (λ (e : Engine g.row.D.Denot g.row.F.Denot g.D.Disk). ∥ AnswersInSomeOrder c.args.script (serving e) stop ∥₁) (sym c.end_book.ensures.engine)
    (subst (λ (lines : List Line). ∥ AnswersInSomeOrder lines it stop ∥₁) (run.lines ∙ c.in-Ok-new.ensures.begins.lines_are) made)
