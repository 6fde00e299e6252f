use Rattle.std.proofs.Common.{◌≡◌, ◌+◌, List, [], ◌∷◌, ◌++◌, None, Some, refl, ap, subst, sym, ◌∙◌, append_assoc}
use Rattle.std.proofs.lemmas.List.{append-nil}
use Rattle.std.specs.List.{AllByRecursion}
use Rattle.pm_place.specs.Choosers.{IsChooser}
use Rattle.pm_script.specs.Script.{first_of}
use Rattle.pm_script.specs.Words.{IsFirst}
use Rattle.pm_script.specs.declared.line.Line.{Line}
use Rattle.pm_engine.specs.Shown.{disk_in, room, serving}
use Rattle.pm_serial.specs.Output.Gathered.{gathered}
use Rattle.pm_script.specs.Parted.Asked.{events_asked, request_of, requests_asked, steps_asked, steps_of}
use Rattle.pm_engine.specs.Events.Events.{AnswersPart}
use Rattle.pm_serial.specs.Stepping.{events_of}
use Rattle.pm_serial.specs.Ordered.{TellsLines}
use Rattle.pm_engine.proofs.EventsLemmas.Answering.{answers_as, answers_cut, answers_none, answers_then}
use Rattle.pm_serial.proofs.Answering.{asked_parted, events_push, has_room, requests_push, steps_push}
use Rattle.pm_serial.proofs.Acknowledging.{keeps_still, keeps_then}
use Rattle.pm_serial.proofs.Cutting.{stops_lines}
use Rattle.pm_serial.proofs.Ordering.{tells_front, tells_line, tells_none}
use Rattle.pm_serial.proofs.Gathering.{sink_still, sink_then}
use Rattle.pm_engine.proofs.EventsLemmas.Going.{goes_first, goes_then}
use Rattle.pm_serial.proofs.line.run_all.Goals as goal

-- the lines that are done, the next, and what is left
next_parted : (lines done left rest : List Line) (line : Line) → done ++ left ≡ lines → left ≡ line ∷ rest → done ++ line ∷ rest ≡ lines
next_parted lines done left rest line parted step = ap (λ (l : List Line). done ++ l) (sym step) ∙ parted

pub loop-line-init : goal.loop-line-init
loop-line-init g c =
    let old = c.args.engine.now in
    let law = c.keep_their_images.ensures in
    record {
      done = [];
      parted = c.from-left.ensures.0;
      answers = answers_none (serving old);
      course = tells_none (serving old);
      saved = keeps_still g.K.Sink c.args.sink.now (gathered c.args.output.now) (serving old).journal (serving old).journal None tt refl;
      engine = goes_first old c.requires.running law.legal (law.settled c.requires.running) (g.met.D.Disk.only_now (disk_in old));
      sink = sink_still g.K.Sink.written g.K.Sink.finished g.K.Sink.count c.args.sink.now (gathered c.args.output.now) (serving old).journal (serving old).journal None tt refl;
    }

-- what holds of each line holds of the next
holds_next : (P : Line → Type 0) (done rest : List Line) (line : Line) → AllByRecursion P (done ++ line ∷ rest) → P line
holds_next P [] rest line all = all.0
holds_next P (first ∷ done) rest line all = holds_next P done rest line all.1

pub run_line-ran-requires-clause-client : goal.run_line-ran-requires-clause-client
run_line-ran-requires-clause-client g c =
    let IsAsked : Line → Type 0 = λ line. IsFirst (first_of line) in
    let was = c.loop-line.invariant in
    let rest = c.next_line.new.left.items in
    let line = c.in-Some.line in
    holds_next IsAsked was.done rest line
    (subst (AllByRecursion IsAsked) (sym (next_parted c.args.lines.items was.done c.loop-line.left.items rest line was.parted c.in-Some.ensures.next)) c.requires.clients.clients)

pub run_line-ran-requires-clause-room : goal.run_line-ran-requires-clause-room
run_line-ran-requires-clause-room g c =
    let was = c.loop-line.invariant in
    let rest = c.next_line.new.left.items in
    has_room c.args.lines.items was.done rest c.in-Some.line (room c.args.engine.now) (room c.loop-line.engine) (serving c.args.engine.now) (serving c.loop-line.engine)
    (next_parted c.args.lines.items was.done c.loop-line.left.items rest c.in-Some.line was.parted c.in-Some.ensures.next)
    c.requires.room was.engine.room (was.answers.all tt)

pub run_line-ran-requires-clause-chooser : goal.run_line-ran-requires-clause-chooser
run_line-ran-requires-clause-chooser g c = subst (IsChooser g.F.Fn) (sym c.loop-line.invariant.engine.start.chooser) c.requires.chooser

pub returns-in-Err-clause-answers : goal.returns-in-Err-clause-answers
returns-in-Err-clause-answers g c =
    let old = serving c.args.engine.now in
    let mid = serving c.loop-line.engine in
    let new = serving c.run_line-ran.new.engine in
    let lines = c.args.lines.items in
    let was = c.loop-line.invariant in
    let done = was.done in
    let rest = c.next_line.new.left.items in
    let line = c.in-Some.line in
    let stop = c.in-Err.stop in
    let m = events_asked done in
    let k = steps_asked done in
    let both = answers_then (requests_asked done) (request_of line) m (events_of line) k (steps_of line) old mid new (Some stop) was.answers c.in-Err.ensures.answers in
    let cut = answers_cut (requests_asked done ++ request_of line) (requests_asked rest) (m + events_of line) (events_asked lines) (k + steps_of line) (steps_asked lines) old new stop both in
    answers_as ((requests_asked done ++ request_of line) ++ requests_asked rest) (requests_asked lines) (events_asked lines) (events_asked lines) (steps_asked lines) (steps_asked lines) old new (Some stop)
    (asked_parted lines done rest line (next_parted lines done c.loop-line.left.items rest line was.parted c.in-Some.ensures.next)) refl refl cut

pub returns-in-Err-clause-course : goal.returns-in-Err-clause-course
returns-in-Err-clause-course g c =
    let old = serving c.args.engine.now in
    let mid = serving c.loop-line.engine in
    let new = serving c.run_line-ran.new.engine in
    let lines = c.args.lines.items in
    let was = c.loop-line.invariant in
    let rest = c.next_line.new.left.items in
    let line = c.in-Some.line in
    tells_front lines (was.done ++ line ∷ []) rest old new c.in-Err.stop
    (append_assoc was.done (line ∷ []) rest ∙ next_parted lines was.done c.loop-line.left.items rest line was.parted c.in-Some.ensures.next)
    (tells_line was.done line old mid new (Some c.in-Err.stop) was.answers was.course c.in-Err.ensures.course)

pub returns-in-Err-clause-stops : goal.returns-in-Err-clause-stops
returns-in-Err-clause-stops g c =
    let lines = c.args.lines.items in
    let rest = c.next_line.new.left.items in
    let was = c.loop-line.invariant in
    stops_lines lines was.done rest c.in-Some.line (serving c.args.engine.now) (serving c.loop-line.engine) (serving c.run_line-ran.new.engine) c.in-Err.stop
    (next_parted lines was.done c.loop-line.left.items rest c.in-Some.line was.parted c.in-Some.ensures.next) was.answers c.in-Err.ensures.stops

pub returns-in-Err-clause-engine : goal.returns-in-Err-clause-engine
returns-in-Err-clause-engine g c = goes_then c.args.engine.now c.loop-line.engine c.run_line-ran.new.engine (Some c.in-Err.stop) c.loop-line.invariant.engine c.in-Err.ensures.engine

pub returns-in-Err-clause-sink : goal.returns-in-Err-clause-sink
returns-in-Err-clause-sink g c =
    sink_then g.K.Sink.written g.K.Sink.finished g.K.Sink.count c.args.sink.now c.loop-line.sink c.run_line-ran.new.sink (gathered c.args.output.now) (gathered c.loop-line.output) (gathered c.run_line-ran.new.output)
    (serving c.args.engine.now).journal (serving c.loop-line.engine).journal (serving c.run_line-ran.new.engine).journal (Some c.in-Err.stop) c.loop-line.invariant.sink c.in-Err.ensures.sink

pub loop-line-preserved : goal.loop-line-preserved
loop-line-preserved g c =
    let old = c.args.engine.now in
    let mid = c.loop-line.engine in
    let new = c.run_line-ran.new.engine in
    let lines = c.args.lines.items in
    let was = c.loop-line.invariant in
    let done = was.done in
    let rest = c.next_line.new.left.items in
    let line = c.in-Some.line in
    let step = c.in-Ok.ensures in
    let m = events_asked done in
    let k = steps_asked done in
    record {
      done = done ++ line ∷ [];
      parted = append_assoc done (line ∷ []) rest ∙ next_parted lines done c.loop-line.left.items rest line was.parted c.in-Some.ensures.next;
      answers =
          answers_as (requests_asked done ++ request_of line) (requests_asked (done ++ line ∷ [])) (m + events_of line) (events_asked (done ++ line ∷ [])) (k + steps_of line) (steps_asked (done ++ line ∷ []))
          (serving old) (serving new) None (sym (requests_push done line)) (sym (events_push done line)) (sym (steps_push done line))
          (answers_then (requests_asked done) (request_of line) m (events_of line) k (steps_of line) (serving old) (serving mid) (serving new) None was.answers step.answers);
      saved =
          keeps_then g.K.Sink c.args.sink.now c.loop-line.sink c.run_line-ran.new.sink (gathered c.args.output.now) (gathered c.loop-line.output) (serving old).journal (serving mid).journal (serving new).journal None was.sink was.saved step.saved;
      course = tells_line done line (serving old) (serving mid) (serving new) None was.answers was.course step.course;
      engine = goes_then old mid new None was.engine step.engine;
      sink =
          sink_then g.K.Sink.written g.K.Sink.finished g.K.Sink.count c.args.sink.now c.loop-line.sink c.run_line-ran.new.sink (gathered c.args.output.now) (gathered c.loop-line.output) (gathered c.run_line-ran.new.output)
          (serving old).journal (serving mid).journal (serving new).journal None was.sink step.sink;
    }

-- where none is left, those that are done are all
all_done : (lines done left : List Line) → done ++ left ≡ lines → left ≡ [] → done ≡ lines
all_done lines done left parted none = sym (append-nil done) ∙ ap (λ (l : List Line). done ++ l) (sym none) ∙ parted

pub returns-clause-answers : goal.returns-clause-answers
returns-clause-answers g c =
    let was = c.loop-line.invariant in
    let all = all_done c.args.lines.items was.done c.loop-line.left.items was.parted (c.next_line.ensures.end c.in_default.is) in
    subst (λ (lines : List Line). AnswersPart (requests_asked lines) (events_asked lines) (steps_asked lines) (serving c.args.engine.now) (serving c.loop-line.engine) None) all was.answers

pub returns-clause-course : goal.returns-clause-course
returns-clause-course g c =
    let was = c.loop-line.invariant in
    let all = all_done c.args.lines.items was.done c.loop-line.left.items was.parted (c.next_line.ensures.end c.in_default.is) in
    subst (λ (lines : List Line). TellsLines lines (serving c.args.engine.now) (serving c.loop-line.engine) None) all was.course

pub returns-in-Err-clause-saved : goal.returns-in-Err-clause-saved
returns-in-Err-clause-saved g c =
    let was = c.loop-line.invariant in
    keeps_then g.K.Sink c.args.sink.now c.loop-line.sink c.run_line-ran.new.sink (gathered c.args.output.now) (gathered c.loop-line.output) (serving c.args.engine.now).journal (serving c.loop-line.engine).journal
    (serving c.run_line-ran.new.engine).journal (Some c.in-Err.stop) was.sink was.saved c.in-Err.ensures.saved
