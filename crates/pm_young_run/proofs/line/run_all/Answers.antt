use Rattle.std.proofs.Common.{◌≡◌, ◌+◌, List, [], ◌∷◌, ◌++◌, None, Some, refl, ap, subst, sym, ◌∙◌, append_assoc}
use Rattle.std.proofs.lemmas.List.{append-nil}
use Rattle.std.specs.List.{AllByRecursion}
use Rattle.pm_place.specs.Choosers.{IsChooser}
use Rattle.pm_script.specs.Words.{IsFirst}
use Rattle.pm_script.specs.Young.{IsUnwatched, young_first_of}
use Rattle.pm_script.specs.declared.line.Line.{Line}
use Rattle.pm_script.specs.declared.line.YoungLine.{YoungLine}
use Rattle.pm_script.specs.Parted.Asked.{events_asked, request_of, requests_asked, steps_asked, steps_of}
use Rattle.pm_engine.specs.Events.Events.{AnswersPart}
use Rattle.pm_engine.proofs.EventsLemmas.Answering.{answers_as, answers_cut, answers_none, answers_then}
use Rattle.pm_serial.specs.Ordered.{TellsLines}
use Rattle.pm_serial.specs.Output.Gathered.{gathered}
use Rattle.pm_serial.specs.Stepping.{events_of}
use Rattle.pm_serial.proofs.Acknowledging.{keeps_still, keeps_then}
use Rattle.pm_serial.proofs.Answering.{asked_parted, events_push, has_room, requests_push, steps_push}
use Rattle.pm_serial.proofs.Cutting.{stops_lines}
use Rattle.pm_serial.proofs.Gathering.{sink_still, sink_then}
use Rattle.pm_serial.proofs.Ordering.{tells_front, tells_line, tells_none}
use Rattle.pm_young.specs.Seen.{disk_in, room, serving}
use Rattle.pm_young_run.specs.Asked.{as_line, as_lines}
use Rattle.pm_young_run.specs.Entered.{EntersAll}
use Rattle.pm_young_run.proofs.Asking.{as_lines_push, lines_parted}
use Rattle.pm_young_run.proofs.Entering.{enters_more, enters_none}
use Rattle.pm_young_run.proofs.Lasting.{run_first, run_then}
use Rattle.pm_young_run.proofs.line.run_all.Goals as goal

-- the lines that are done, the next, and what is left
next_parted : (lines done left rest : List YoungLine) (line : YoungLine) → done ++ left ≡ lines → left ≡ line ∷ rest
    → done ++ line ∷ rest ≡ lines
next_parted lines done left rest line parted step = ap (λ (l : List YoungLine). done ++ l) (sym step) ∙ parted

pub loop-line-init : goal.loop-line-init
loop-line-init g c =
    let old = c.args.engine.now in
    let law = c.keep_their_images.ensures in
    record {
      done = [];
      parted = c.from-left.ensures.0;
      answers = answers_none (serving old);
      course = tells_none (serving old);
      saved = keeps_still g.K.Sink c.args.sink.now (gathered c.args.output.now) (serving old).journal
          (serving old).journal None tt refl;
      engine = run_first old c.requires.running law.legal law.settled (g.met.D.Disk.only_now (disk_in old));
      enters = enters_none old;
      sink = sink_still g.K.Sink.written g.K.Sink.finished g.K.Sink.count c.args.sink.now (gathered c.args.output.now)
          (serving old).journal (serving old).journal None tt refl;
    }

-- what holds of each line holds of the next
holds_next : (P : YoungLine → Type 0) (done rest : List YoungLine) (line : YoungLine)
    → AllByRecursion P (done ++ line ∷ rest) → P line
holds_next P [] rest line all = all.0
holds_next P (first ∷ done) rest line all = holds_next P done rest line all.1

pub run_line-ran-requires-clause-client : goal.run_line-ran-requires-clause-client
run_line-ran-requires-clause-client g c =
    let IsAsked : YoungLine → Type 0 = λ line. IsFirst (young_first_of line) in
    let was = c.loop-line.invariant in
    let rest = c.next_line.new.left.items in
    let line = c.in-Some.line in
    holds_next IsAsked was.done rest line
    (subst (AllByRecursion IsAsked) (sym (next_parted c.args.lines.items was.done c.loop-line.left.items rest line
    was.parted c.in-Some.ensures.next)) c.requires.clients.clients)

pub run_line-ran-requires-clause-no_watch : goal.run_line-ran-requires-clause-no_watch
run_line-ran-requires-clause-no_watch g c =
    let was = c.loop-line.invariant in
    let rest = c.next_line.new.left.items in
    let line = c.in-Some.line in
    holds_next IsUnwatched was.done rest line
    (subst (AllByRecursion IsUnwatched) (sym (next_parted c.args.lines.items was.done c.loop-line.left.items rest line
    was.parted c.in-Some.ensures.next)) c.requires.clients.unwatched)

pub run_line-ran-requires-clause-room : goal.run_line-ran-requires-clause-room
run_line-ran-requires-clause-room g c =
    let was = c.loop-line.invariant in
    let rest = c.next_line.new.left.items in
    let line = c.in-Some.line in
    has_room (as_lines c.args.lines.items) (as_lines was.done) (as_lines rest) (as_line line) (room c.args.engine.now)
    (room c.loop-line.engine) (serving c.args.engine.now) (serving c.loop-line.engine)
    (lines_parted c.args.lines.items was.done rest line (next_parted c.args.lines.items was.done c.loop-line.left.items
    rest line was.parted c.in-Some.ensures.next))
    c.requires.room was.engine.face.room (was.answers.all tt)

pub run_line-ran-requires-clause-running : goal.run_line-ran-requires-clause-running
run_line-ran-requires-clause-running g c = c.loop-line.invariant.engine.runs tt

pub run_line-ran-requires-clause-chooser : goal.run_line-ran-requires-clause-chooser
run_line-ran-requires-clause-chooser g c = subst (IsChooser g.F.Fn) (sym c.loop-line.invariant.engine.start.chooser)
    c.requires.chooser

pub returns-in-Err-clause-answers : goal.returns-in-Err-clause-answers
returns-in-Err-clause-answers g c =
    let old = serving c.args.engine.now in
    let mid = serving c.loop-line.engine in
    let new = serving c.run_line-ran.new.engine in
    let lines = as_lines c.args.lines.items in
    let was = c.loop-line.invariant in
    let done = as_lines was.done in
    let left = c.next_line.new.left.items in
    let rest = as_lines left in
    let line = as_line c.in-Some.line in
    let stop = c.in-Err.stop in
    let m = events_asked done in
    let k = steps_asked done in
    let both = answers_then (requests_asked done) (request_of line) m (events_of line) k (steps_of line) old mid new
    (Some stop) was.answers c.in-Err.ensures.answers in
    let cut = answers_cut (requests_asked done ++ request_of line) (requests_asked rest) (m + events_of line)
    (events_asked lines) (k + steps_of line) (steps_asked lines) old new stop both in
    answers_as ((requests_asked done ++ request_of line) ++ requests_asked rest) (requests_asked lines)
    (events_asked lines) (events_asked lines) (steps_asked lines) (steps_asked lines) old new (Some stop)
    (asked_parted lines done rest line (lines_parted c.args.lines.items was.done left c.in-Some.line
    (next_parted c.args.lines.items was.done c.loop-line.left.items left c.in-Some.line was.parted
    c.in-Some.ensures.next))) refl refl cut

pub returns-in-Err-clause-course : goal.returns-in-Err-clause-course
returns-in-Err-clause-course g c =
    let old = serving c.args.engine.now in
    let mid = serving c.loop-line.engine in
    let new = serving c.run_line-ran.new.engine in
    let was = c.loop-line.invariant in
    let left = c.next_line.new.left.items in
    let line = as_line c.in-Some.line in
    tells_front (as_lines c.args.lines.items) (as_lines was.done ++ line ∷ []) (as_lines left) old new c.in-Err.stop
    (append_assoc (as_lines was.done) (line ∷ []) (as_lines left)
    ∙ lines_parted c.args.lines.items was.done left c.in-Some.line
    (next_parted c.args.lines.items was.done c.loop-line.left.items left c.in-Some.line was.parted
    c.in-Some.ensures.next))
    (tells_line (as_lines was.done) line old mid new (Some c.in-Err.stop) was.answers was.course
    c.in-Err.ensures.course)

pub returns-in-Err-clause-stops : goal.returns-in-Err-clause-stops
returns-in-Err-clause-stops g c =
    let left = c.next_line.new.left.items in
    let was = c.loop-line.invariant in
    stops_lines (as_lines c.args.lines.items) (as_lines was.done) (as_lines left) (as_line c.in-Some.line)
    (serving c.args.engine.now) (serving c.loop-line.engine) (serving c.run_line-ran.new.engine) c.in-Err.stop
    (lines_parted c.args.lines.items was.done left c.in-Some.line
    (next_parted c.args.lines.items was.done c.loop-line.left.items left c.in-Some.line was.parted
    c.in-Some.ensures.next)) was.answers c.in-Err.ensures.stops

pub returns-in-Err-clause-engine : goal.returns-in-Err-clause-engine
returns-in-Err-clause-engine g c = run_then c.args.engine.now c.loop-line.engine c.run_line-ran.new.engine
    (Some c.in-Err.stop) c.loop-line.invariant.engine c.in-Err.ensures.engine

pub returns-in-Err-clause-sink : goal.returns-in-Err-clause-sink
returns-in-Err-clause-sink g c =
    sink_then g.K.Sink.written g.K.Sink.finished g.K.Sink.count c.args.sink.now c.loop-line.sink c.run_line-ran.new.sink
    (gathered c.args.output.now) (gathered c.loop-line.output) (gathered c.run_line-ran.new.output)
    (serving c.args.engine.now).journal (serving c.loop-line.engine).journal (serving c.run_line-ran.new.engine).journal
    (Some c.in-Err.stop) c.loop-line.invariant.sink c.in-Err.ensures.sink

pub returns-in-Err-clause-saved : goal.returns-in-Err-clause-saved
returns-in-Err-clause-saved g c =
    let was = c.loop-line.invariant in
    keeps_then g.K.Sink c.args.sink.now c.loop-line.sink c.run_line-ran.new.sink (gathered c.args.output.now)
    (gathered c.loop-line.output) (serving c.args.engine.now).journal (serving c.loop-line.engine).journal
    (serving c.run_line-ran.new.engine).journal (Some c.in-Err.stop) was.sink was.saved c.in-Err.ensures.saved

-- what is answered and told of the lines so far, with one more
pub loop-line-preserved : goal.loop-line-preserved
loop-line-preserved g c =
    let old = c.args.engine.now in
    let mid = c.loop-line.engine in
    let new = c.run_line-ran.new.engine in
    let was = c.loop-line.invariant in
    let done = as_lines was.done in
    let rest = c.next_line.new.left.items in
    let line = as_line c.in-Some.line in
    let step = c.in-Ok.ensures in
    let m = events_asked done in
    let k = steps_asked done in
    let more : done ++ line ∷ [] ≡ as_lines (was.done ++ c.in-Some.line ∷ []) = sym
    (as_lines_push was.done c.in-Some.line) in
    record {
      done = was.done ++ c.in-Some.line ∷ [];
      parted = append_assoc was.done (c.in-Some.line ∷ []) rest
          ∙ next_parted c.args.lines.items was.done c.loop-line.left.items rest c.in-Some.line was.parted
          c.in-Some.ensures.next;
      answers =
          subst (λ (all : List Line). AnswersPart (requests_asked all) (events_asked all) (steps_asked all)
          (serving old) (serving new) None) more
          (answers_as (requests_asked done ++ request_of line) (requests_asked (done ++ line ∷ [])) (m + events_of line)
          (events_asked (done ++ line ∷ [])) (k + steps_of line) (steps_asked (done ++ line ∷ []))
          (serving old) (serving new) None (sym (requests_push done line)) (sym (events_push done line))
          (sym (steps_push done line))
          (answers_then (requests_asked done) (request_of line) m (events_of line) k (steps_of line) (serving old)
          (serving mid) (serving new) None was.answers step.answers));
      saved =
          keeps_then g.K.Sink c.args.sink.now c.loop-line.sink c.run_line-ran.new.sink (gathered c.args.output.now)
          (gathered c.loop-line.output) (serving old).journal (serving mid).journal (serving new).journal None
          was.sink was.saved step.saved;
      course =
          subst (λ (all : List Line). TellsLines all (serving old) (serving new) None) more
          (tells_line done line (serving old) (serving mid) (serving new) None was.answers was.course step.course);
      engine = run_then old mid new None was.engine step.engine;
      enters = enters_more was.done c.in-Some.line old mid new was.enters step.enters;
      sink =
          sink_then g.K.Sink.written g.K.Sink.finished g.K.Sink.count c.args.sink.now c.loop-line.sink
          c.run_line-ran.new.sink (gathered c.args.output.now) (gathered c.loop-line.output)
          (gathered c.run_line-ran.new.output)
          (serving old).journal (serving mid).journal (serving new).journal None was.sink step.sink;
    }

-- where none is left, those that are done are all
all_done : (lines done left : List YoungLine) → done ++ left ≡ lines → left ≡ [] → done ≡ lines
all_done lines done left parted none = sym (append-nil done) ∙ ap (λ (l : List YoungLine). done ++ l) (sym none)
    ∙ parted

pub returns-clause-answers : goal.returns-clause-answers
returns-clause-answers g c =
    let was = c.loop-line.invariant in
    let all = all_done c.args.lines.items was.done c.loop-line.left.items was.parted
    (c.next_line.ensures.end c.in_default.is) in
    subst (λ (lines : List YoungLine). AnswersPart (requests_asked (as_lines lines)) (events_asked (as_lines lines))
    (steps_asked (as_lines lines)) (serving c.args.engine.now) (serving c.loop-line.engine) None) all was.answers

pub returns-clause-course : goal.returns-clause-course
returns-clause-course g c =
    let was = c.loop-line.invariant in
    let all = all_done c.args.lines.items was.done c.loop-line.left.items was.parted
    (c.next_line.ensures.end c.in_default.is) in
    subst (λ (lines : List YoungLine). TellsLines (as_lines lines) (serving c.args.engine.now)
    (serving c.loop-line.engine) None) all was.course

pub returns-clause-enters : goal.returns-clause-enters
returns-clause-enters g c =
    let was = c.loop-line.invariant in
    let all = all_done c.args.lines.items was.done c.loop-line.left.items was.parted
    (c.next_line.ensures.end c.in_default.is) in
    subst (λ (lines : List YoungLine). EntersAll lines c.args.engine.now c.loop-line.engine) all was.enters
