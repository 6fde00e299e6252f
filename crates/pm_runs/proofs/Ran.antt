-- What a run has done, in the words of its end.
use Rattle.std.proofs.Common.{◌≡◌, ◌⊎◌, true, inl, inr, ⊎_elim, ℕ, ◌<◌, ◌≤◌, List, [], ◌++◌, map, filter, nat_eq, Option, Some, None, IfSome, IsSome, length, refl, sym, ap, subst, ◌∙◌, arith}
use Rattle.std.proofs.Math.Logic.{∥∥₁_map}
use Rattle.std.proofs.Math.Nat.{min-eq_left}
use Rattle.std.proofs.lemmas.List.{length-map, map-append}
use Rattle.std.proofs.lemmas.List.Elements.{filter-append}
use Rattle.std.specs.List.{AllByRecursion}
use Rattle.pm_types.specs.Memory.{no_memory}
use Rattle.pm_types.specs.declared.entry.Entry.{Entry}
use Rattle.pm_types.specs.Counts.{Rose, ShowsRise, greatest_count}
use Rattle.pm_disk.specs.declared.disk.Disk as disk
use Rattle.pm_disk.specs.Disk.{LeavesOnly}
use Rattle.pm_disk.proofs.RunLemmas.{weaker}
use Rattle.pm_io.specs.declared.source.Source as source
use Rattle.pm_io.specs.declared.sink.Sink as sink
use Rattle.pm_model.specs.World.{World, begin, empty_copy}
use Rattle.pm_model.specs.Closed.{IsClosed}
use Rattle.pm_model.specs.declared.request.Request.{Request}
use Rattle.pm_model.specs.Journal.{IsFirstPart, IsLegal, after, commands_of, part, requests_of}
use Rattle.pm_model.specs.Text.{text}
use Rattle.pm_model.proofs.ClosedLaws.{empty_closed}
use Rattle.pm_script.specs.declared.line.Line.{Line}
use Rattle.pm_view.specs.View.{SpaceView}
use Rattle.pm_view.specs.Bounded.{IsHonest}
use Rattle.pm_copies.specs.Listed.{copy_in}
use Rattle.pm_saving.specs.Paging.{left_of}
use Rattle.pm_saving.specs.Progress.{Saving}
use Rattle.pm_saving.specs.Serving.{Serving, just_opened, opening}
use Rattle.pm_saving.specs.Images as images
use Rattle.pm_saving.specs.Images.{IsTold}
use Rattle.pm_engine.specs.declared.engine.Engine.{Engine}
use Rattle.pm_engine.specs.declared.tally.Tally.{Tally}
use Rattle.pm_young.specs.declared.tally.YoungTally.{YoungTally}
use Rattle.pm_engine.specs.Shown.{KeepsStart, Total, disk_in, opened_disk, serving, tally_in, tally_of, total_in, unmade_in}
use Rattle.pm_engine.specs.declared.unmade.Unmade.{Unmade}
use Rattle.pm_engine.specs.declared.events.stop.Stop.{Stop}
use Rattle.pm_engine.specs.declared.events.stop.Stop.TheVariants.{Memory as StopMemory, Writing as StopWriting, Device as StopDevice}
use Rattle.pm_engine.specs.Events.Causes as causes
use Rattle.pm_engine.specs.Events.Causes.{IsDone, CountsDisk, OnMemory, OnStop}
use Rattle.pm_serial.specs.Causes.{CountsSink}
use Rattle.pm_script.specs.Parted.Asked.{events_asked, requests_asked, steps_asked}
use Rattle.pm_serial.specs.Running.{AnswersInOrder, AnswersLines, IsShortAt}
use Rattle.pm_serial.specs.Together.{AnswersClients, AnswersInSomeOrder}
use Rattle.pm_callers.specs.Runs.{IsLeft, LeavesSome}
use Rattle.pm_runs.specs.declared.way.Way.{Way}
use Rattle.pm_runs.specs.declared.way.Way.TheVariants.{Turns, Passes}
use Rattle.pm_runs.specs.Threads.Running.{AnswersBy, AnswersByPasses, AnswersInTurns, LeavesEvent}
use Rattle.pm_runs.specs.Threads.Ordered.{EndsInSomeOrder, ServesInSomeOrder, StopsAt, StopsInSomeOrder}
use Rattle.pm_runs.specs.Threads.Together.{ServesBy, ServesByPasses, ServesInTurns, ServesTogether}
use Rattle.pm_engine.specs.Events.Running.{IsFresh, RunsOnDisk}
use Rattle.pm_serial.specs.Writing.{WroteRun, tail_of}
use Rattle.pm_serial.specs.Acknowledged.{AcknowledgesLast}
use Rattle.pm_serial.proofs.Acknowledging.{acknowledges_last}
use Rattle.pm_serial.specs.Ordered.{StopsAmong, course_of}
use Rattle.pm_serial.specs.Stepping.{IsOfSink}
use Rattle.pm_runs.specs.declared.ends.ended.Detail.{Detail}
use Rattle.pm_runs.specs.declared.ends.ended.Alone.{Alone as Ended}
use Rattle.pm_runs.specs.declared.writes.Writes.{Writes}
use Rattle.pm_runs.specs.Ends.Ends.{IsUnwritten, OneTally, RanShort, is_tallied, stop_in, ended_by}
use Rattle.pm_runs.specs.Ends.Stages.{IsPast, unreached, the_events, the_output}
use Rattle.pm_runs.specs.Ends.Disks.{IsLastOf, IsOfDisk, IsOfRun}
use Rattle.pm_runs.specs.Ends.Tallies.{ComesTo}
use Rattle.pm_runs.specs.Engines.{GoesFrom, RunsEngine}
use Rattle.pm_runs.specs.Wrote.{AcknowledgesFor, Wrote}
use Rattle.pm_runs.specs.Ends.Journals.{FollowsLines, IsBegun, IsShortRun, ServesAll, ServesInOrder, ServesLines}
use Rattle.pm_runs.specs.Ends.Causes.{ShowsCauses}
use Rattle.pm_runs.proofs.EndsLemmas.Parts.{with_parts}
use Rattle.pm_runs.proofs.EndsLemmas.Faults.{late_past}
use Rattle.pm_runs.proofs.EndsLemmas.Tallied.{KeepsAll, engine_comes, noting, total_of}

-- an empty journal is legal from the world of the empty copy
pub none_begun : IsBegun []
none_begun = record { number = 0; copy = empty_copy; closed = empty_closed; legal = tt }

-- ---- an engine that was just opened

-- nothing was asked of it yet, and no copy is in progress
pub fresh_serving : (it : Serving) (number : ℕ) (view : SpaceView) (saving : Saving) → it ≡ just_opened number view saving → it.saving.progress ≡ None → IsFresh it
fresh_serving it number view saving is idle = record {
  journal = ap (λ (s : Serving). s.journal) is;
  course = ap (λ (s : Serving). s.course) is;
  watches = ap (λ (s : Serving). s.watches) is;
  events = ap (λ (s : Serving). s.events) is;
  steps = ap (λ (s : Serving). s.steps) is;
  stopped = ap (λ (s : Serving). s.stopped) is;
  progress = idle;
}

pub fresh_engine : {D : Type 0} {F : Type 0} {g : disk.Ghosts D} (it : Engine D F g) (number : ℕ) (view : SpaceView) (saving : Saving) → serving it ≡ just_opened number view saving → (serving it).saving.progress ≡ None → IsFresh (serving it)
fresh_engine it number view saving is idle = fresh_serving (serving it) number view saving is idle

-- ---- ends of a run of lines

-- it came to the events
pub ended_late : (stop : Option Stop) (a b c d : ℕ) → the_events < unreached (ended_by stop a b c d)
ended_late None a b c d = omega arith
ended_late (Some (StopMemory _)) a b c d = omega arith
ended_late (Some StopWriting) a b c d = omega arith
ended_late (Some StopDevice) a b c d = omega arith

-- why it stopped can be told from its end
pub stop_back : (stop : Option Stop) (a b c d : ℕ) → stop ≡ stop_in (ended_by stop a b c d)
stop_back None a b c d = refl
stop_back (Some (StopMemory _)) a b c d = refl
stop_back (Some StopWriting) a b c d = refl
stop_back (Some StopDevice) a b c d = refl

-- the sink failed where the run stopped for it
pub sink_back : (stop : Option Stop) (a b c d : ℕ) → IsUnwritten (ended_by stop a b c d) → IsOfSink stop
sink_back None a b c d unwritten = absurd unwritten
sink_back (Some (StopMemory _)) a b c d unwritten = absurd unwritten
sink_back (Some StopWriting) a b c d unwritten = tt
sink_back (Some StopDevice) a b c d unwritten = absurd unwritten

pub done_back : (stop : Option Stop) (a b c d : ℕ) → IsPast the_output (ended_by stop a b c d) → IsDone stop
done_back None a b c d past = tt
done_back (Some (StopMemory _)) a b c d past = absurd (omega arith)
done_back (Some StopWriting) a b c d past = absurd (omega arith)
done_back (Some StopDevice) a b c d past = absurd (omega arith)

-- the disk failed where the run stopped for it, and no call had answered so where it did not
disk_back : (stop : Option Stop) (stopped : Option ℕ) (a b c d : ℕ) → ((causes.IsOfDisk stop → ⊥) → stopped ≡ None) → IsSome stopped → IsOfDisk (ended_by stop a b c d)
disk_back None stopped a b c d going some = absurd (cc (subst IsSome (going (λ no. no)) some))
disk_back (Some (StopMemory _)) stopped a b c d going some = absurd (cc (subst IsSome (going (λ no. no)) some))
disk_back (Some StopWriting) stopped a b c d going some = absurd (cc (subst IsSome (going (λ no. no)) some))
disk_back (Some StopDevice) stopped a b c d going some = tt

pub of_run : (it : Serving) (stop : Option Stop) (a b c d : ℕ) (left : List ℕ) → ((causes.IsOfDisk stop → ⊥) → it.stopped ≡ None) → images.IsOfRun it left → IsOfRun (ended_by stop a b c d) (opening it) it.journal left
of_run it stop a b c d left going = ⊎_elim (λ kept. inl kept) (λ begun. inr (disk_back stop it.stopped a b c d going begun.0, begun.1))

pub of_last : (it : Serving) (stop : Option Stop) (a b c d : ℕ) (left : List ℕ) → ((causes.IsOfDisk stop → ⊥) → it.stopped ≡ None) → images.IsLast it left → IsLastOf (ended_by stop a b c d) (after (opening it) it.journal) left
of_last it stop a b c d left going = ⊎_elim (λ kept. inl kept) (λ begun. inr (disk_back stop it.stopped a b c d going begun.0, begun.1))

-- what one client asks in two lists, one behind the other
commands_behind : (client : ℕ) (one two : List Request) → commands_of client (one ++ two) ≡ commands_of client one ++ commands_of client two
commands_behind client one two =
    ap (map (λ (r : Request). r.cmd)) (filter-append (λ (r : Request). nat_eq r.client client) one two)
    ∙ map-append (λ (r : Request). r.cmd) (filter (λ (r : Request). nat_eq r.client client) one) (filter (λ (r : Request). nat_eq r.client client) two)

-- of what was asked in this order each client's part is a first part of its commands
first_parts : (journal : List Entry) (rest asked : List Request) → requests_of journal ++ rest ≡ asked → (client : ℕ) → IsFirstPart (part client journal) (commands_of client asked)
first_parts journal rest asked served client = (commands_of client rest, sym (commands_behind client (requests_of journal) rest) ∙ ap (commands_of client) served)

pub short_back : (stop : Option Stop) (a b c d : ℕ) → RanShort (ended_by stop a b c d) → stop ≡ Some (StopMemory no_memory)
short_back None a b c d ran = absurd ran
short_back (Some (StopMemory _)) a b c d ran = refl
short_back (Some StopWriting) a b c d ran = absurd ran
short_back (Some StopDevice) a b c d ran = absurd ran

-- what was answered, in the order of the lines
pub follows_lines : (lines : List Line) (it : Serving) (unmade : Option Unmade) (tally : Tally) (stop : Option Stop) (a b c d : ℕ) → tally_of tally ≡ noting it unmade
    → AnswersInOrder lines it stop → FollowsLines lines (ended_by stop a b c d) it.journal (Some tally)
follows_lines lines it unmade tally stop a b c d is answers = record {
  rest = answers.rest;
  served = answers.served;
  all = λ past. answers.all (done_back stop a b c d past);
  ordered = λ few. subst (λ (total : Total). IsFirstPart total.course (course_of 0 0 lines)) (sym is) (answers.ordered few);
  all_ordered = λ past few. ap (λ (total : Total). total.course) is ∙ answers.all_ordered (done_back stop a b c d past) few;
  stopped =
      subst (λ (why : Option Stop). OnStop why (events_asked lines ≤ greatest_count → StopsAmong lines it.journal (tally_of tally).steps (tally_of tally).events why)) (stop_back stop a b c d)
      (subst (λ (total : Total). OnStop stop (events_asked lines ≤ greatest_count → StopsAmong lines it.journal total.steps total.events stop)) (sym is) answers.stopped);
}

-- memory does not run out in a `settle` of a copy that was flushed whole
pub short_run : (lines : List Line) (it : Serving) (unmade : Option Unmade) (tally : Tally) (stop : Option Stop) (a b c d : ℕ) → tally_of tally ≡ noting it unmade
    → IsShortAt lines it stop → IsShortRun lines (ended_by stop a b c d) (Some tally)
short_run lines it unmade tally stop a b c d is short = λ ran done more client parted few made.
    let same = ap (λ (total : Total). total.events) is in
    let left = ap (λ (total : Total). total.left) is in
    ⊎_elim (λ (none : it.events ≡ 0). inl (same ∙ none)) (λ (some : 0 < left_of it.saving.progress). inr (omega (arith, some, left)))
    (short (short_back stop a b c d ran) done more client parted (sym same ∙ made) few)

pub order_served : (lines : List Line) (it : Serving) (unmade : Option Unmade) (tally : Tally) (stop : Option Stop) (a b c d : ℕ) → tally_of tally ≡ noting it unmade
    → AnswersLines lines it stop → ServesInOrder lines (ended_by stop a b c d) it.journal (Some tally)
order_served lines it unmade tally stop a b c d is answers = record {
  order = follows_lines lines it unmade tally stop a b c d is answers.order;
  short = short_run lines it unmade tally stop a b c d is answers.short;
}

-- and by each client
pub lines_served : (lines : List Line) (it : Serving) (unmade : Option Unmade) (tally : Tally) (stop : Option Stop) (a b c d : ℕ) → events_asked lines ≤ greatest_count → tally_of tally ≡ noting it unmade
    → AnswersLines lines it stop → ServesLines lines (ended_by stop a b c d) it.journal (Some tally)
lines_served lines it unmade tally stop a b c d few is answers =
    let late = ended_late stop a b c d in
    let few_steps : steps_asked lines ≤ greatest_count = omega (arith, few) in
    record {
      ends = late_past (ended_by stop a b c d) late;
      tried = omega (arith, late);
      parts = first_parts it.journal answers.order.rest (requests_asked lines) answers.order.served;
      serves = λ past client. ap (commands_of client) (answers.order.all (done_back stop a b c d past));
      long = λ past. sym (length-map it.journal _) ∙ ap length (answers.order.all (done_back stop a b c d past));
      steps = λ past. ap (λ (total : Total). total.steps) is ∙ answers.order.steps (done_back stop a b c d past) ∙ min-eq_left few_steps;
      events = λ past. ap (λ (total : Total). total.events) is ∙ answers.order.events (done_back stop a b c d past) ∙ min-eq_left few;
    }

-- all of it
pub all_served : (lines : List Line) (it : Serving) (unmade : Option Unmade) (tally : Tally) → events_asked lines ≤ greatest_count → tally_of tally ≡ noting it unmade → AnswersLines lines it None → ServesAll lines it.journal (Some tally)
all_served lines it unmade tally few is answers = record { serves = lines_served lines it unmade tally None 0 0 0 0 few is answers; order = order_served lines it unmade tally None 0 0 0 0 is answers }

-- where the clients' commands were asked in any order
pub clients_served : (lines : List Line) (it : Serving) (unmade : Option Unmade) (tally : Tally) (stop : Option Stop) (a b c d : ℕ) → tally_of tally ≡ noting it unmade
    → AnswersClients lines it stop → ServesLines lines (ended_by stop a b c d) it.journal (Some tally)
clients_served lines it unmade tally stop a b c d is answers =
    let late = ended_late stop a b c d in
    record {
      ends = late_past (ended_by stop a b c d) late;
      tried = omega (arith, late);
      parts = answers.parts;
      serves = λ past. answers.serves (done_back stop a b c d past);
      long = λ past. answers.long (done_back stop a b c d past);
      steps = λ past. ap (λ (total : Total). total.steps) is ∙ answers.steps (done_back stop a b c d past);
      events = λ past. ap (λ (total : Total). total.events) is ∙ answers.events (done_back stop a b c d past);
    }

-- ---- by workers

module _ (lines : List Line) (it : Serving) (unmade : Option Unmade) (journal : List Entry) (tally : Tally) (stop : Option Stop) (a b c d : ℕ) (is : tally_of tally ≡ noting it unmade) (is_journal : journal ≡ it.journal) where
  -- what was answered is what the lines ask in some order
  some_order : AnswersInSomeOrder lines it stop → ServesInSomeOrder lines (ended_by stop a b c d) it.journal (Some tally)
  some_order answers = record {
    other = answers.other;
    is_order = answers.is_order;
    as_many = answers.as_many;
    serves = follows_lines answers.other it unmade tally stop a b c d is answers.answers;
  }

  pub served_together : ∥ AnswersInSomeOrder lines it stop ∥₁ → ServesTogether (λ asked. asked ≡ lines) (ended_by stop a b c d) journal (Some tally)
  served_together order = λ asked same.
      subst (λ (ls : List Line). ∥ ServesInSomeOrder ls (ended_by stop a b c d) journal (Some tally) ∥₁) (sym same)
      (subst (λ (j : List Entry). ∥ ServesInSomeOrder lines (ended_by stop a b c d) j (Some tally) ∥₁) (sym is_journal) (∥∥₁_map order some_order))

  -- up to the event that was noted
  ends_order : StopsInSomeOrder lines it unmade stop → EndsInSomeOrder lines (ended_by stop a b c d) it.journal (Some tally)
  ends_order answers = record {
    some = record {
      other = answers.some.other;
      is_order = answers.some.is_order;
      as_many = answers.some.as_many;
      serves = follows_lines answers.some.other it unmade tally stop a b c d is answers.some.answers;
    };
    short = short_run answers.some.other it unmade tally stop a b c d is answers.short;
    stops = subst (λ (total : Total). IfSome total.unmade (StopsAt answers.some.other total.events)) (sym is) answers.stops;
  }

  -- where memory ran out the event that was noted is left
  turns_short : AnswersInTurns lines it unmade stop → RanShort (ended_by stop a b c d) → ∥ LeavesEvent (tally_of tally).unmade lines journal (tally_of tally).steps (tally_of tally).events (tally_of tally).left ∥₁
  turns_short answers ran =
      subst (λ (total : Total). ∥ LeavesEvent total.unmade lines journal total.steps total.events total.left ∥₁) (sym is)
      (subst (λ (j : List Entry). ∥ LeavesEvent unmade lines j it.steps it.events (left_of it.saving.progress) ∥₁) (sym is_journal) (answers.short (short_back stop a b c d ran)))

  served_turns : AnswersInTurns lines it unmade stop → ServesInTurns (λ asked. asked ≡ lines) (ended_by stop a b c d) journal (Some tally)
  served_turns answers = record {
    order = λ asked same.
        subst (λ (ls : List Line). ∥ EndsInSomeOrder ls (ended_by stop a b c d) journal (Some tally) ∥₁) (sym same)
        (subst (λ (j : List Entry). ∥ EndsInSomeOrder lines (ended_by stop a b c d) j (Some tally) ∥₁) (sym is_journal) (∥∥₁_map answers.order ends_order));
    short = λ ran asked same.
        subst (λ (ls : List Line). ∥ LeavesEvent (tally_of tally).unmade ls journal (tally_of tally).steps (tally_of tally).events (tally_of tally).left ∥₁) (sym same) (turns_short answers ran);
    noted = λ whole. ap (λ (total : Total). total.unmade) is ∙ answers.noted (λ short. whole (subst (λ (why : Option Stop). RanShort (ended_by why a b c d)) (sym short) tt));
  }

  -- something is left
  served_passes : AnswersByPasses lines it stop → ServesByPasses (λ asked. asked ≡ lines) (ended_by stop a b c d) journal (Some tally)
  served_passes answers = λ ran asked same.
      subst (λ (ls : List Line). ((tally_of tally).events ≡ 0) ⊎ LeavesSome ls journal (tally_of tally).steps (tally_of tally).events) (sym same)
      (subst (λ (total : Total). (total.events ≡ 0) ⊎ LeavesSome lines journal total.steps total.events) (sym is)
      (subst (λ (j : List Entry). (it.events ≡ 0) ⊎ LeavesSome lines j it.steps it.events) (sym is_journal)
      (subst (λ (why : Option Stop). OnMemory why ((it.events ≡ 0) ⊎ IsLeft lines it)) (short_back stop a b c d ran) answers)))

  -- what is served besides
  pub served_by : (way : Way) → AnswersBy way lines it unmade stop → ServesBy way (λ asked. asked ≡ lines) (ended_by stop a b c d) journal (Some tally)
  served_by Turns answers = served_turns answers
  served_by Passes answers = served_passes answers

module _ {D F K : Type 0} {g : disk.Ghosts D} (k : sink.Ghosts K) where
  -- what a run over this engine leaves that ended so, by its journal
  abbrev Leaves : Writes → Engine D F g → D → Tally → K → K → Detail → List Entry → Type 0
  Leaves writes old end tally sink last detail journal =
      IsLegal (opening (serving old)) journal
      × (IsTold (g.contents (opened_disk old)) → LeavesOnly g.moment g.since (disk_in old) end (IsOfRun detail (opening (serving old)) journal))
      × (IsTold (g.contents (opened_disk old)) → (left : List ℕ) → g.image end left → IsLastOf detail (after (opening (serving old)) journal) left)
      × (journal ≡ [] → end ≡ disk_in old)
      × ComesTo (GoesFrom old end) (opening (serving old)) journal (tally_of tally)
      × Wrote k writes sink last (text journal) (tail_of (tally_of tally)) (stop_in detail)

module _ {D F S K : Type 0} {g : disk.Ghosts D} (k : sink.Ghosts K) where
  -- what it left
  pub engine_run : (writes : Writes) (old new : Engine D F g) (tally : Tally) (source : S) (sink last : K) (it : Ended D S K)
      (stop : Option Stop) (a b c d : ℕ)
      → it.journal.items ≡ (serving new).journal → RunsOnDisk old new stop → KeepsStart old new
      → KeepsAll (g.contents (opened_disk new)) (serving new) → IsClosed (opening (serving new)) → IsLegal (opening (serving new)) (serving new).journal
      → tally_of tally ≡ total_in new
      → AllByRecursion IsHonest (tally_of tally).lines
      → Wrote k writes sink last (text (serving new).journal) (tail_of (tally_in (serving new))) stop
      → RunsEngine k writes old sink (with_parts it (ended_by stop a b c d) (Some tally) None (disk_in new) source last)
  engine_run writes old new tally source sink last it stop a b c d is_journal on_disk start kept closed legal is honest wrote =
      let left = subst (Leaves k writes old (disk_in new) tally sink last (ended_by stop a b c d)) (sym is_journal) leaves in
      record {
        late = ended_late stop a b c d;
        closed = subst IsClosed same closed;
        legal = left.0;
        images = left.1;
        last = left.2;
        idle = left.3;
        there = refl;
        no_young = refl;
        comes_to = left.4;
        replies = left.5;
      }
    where
      same : opening (serving new) ≡ opening (serving old)
      same = λ i. begin (start.opening.number i) (copy_in (start.opening.opened i))

      -- what it came to, from the world and of the disk that were opened
      comes : ComesTo (GoesFrom old (disk_in new)) (opening (serving old)) (serving new).journal (tally_of tally)
      comes =
          subst (ComesTo (GoesFrom old (disk_in new)) (opening (serving old)) (serving new).journal) (sym is)
          (subst (λ (begun : World). ComesTo (GoesFrom old (disk_in new)) begun (serving new).journal (total_in new)) same
          (engine_comes (GoesFrom old (disk_in new)) (g.contents (opened_disk new)) (serving new) (unmade_in new) kept (subst (λ (total : Total). AllByRecursion IsHonest total.lines) is honest)
          (record { later = new; keeps = start; disk = refl; comes = total_of new kept })))

      leaves : Leaves k writes old (disk_in new) tally sink last (ended_by stop a b c d) (serving new).journal
      leaves =
          let detail = ended_by stop a b c d in
          let journal = (serving new).journal in (
            subst (λ (w : World). IsLegal w journal) same legal,
            (λ told.
                weaker g.moment g.since (disk_in old) (disk_in new) (images.IsOfRun (serving new)) (IsOfRun detail (opening (serving old)) journal) (on_disk.leaves told)
                (λ left it. subst (λ (w : World). IsOfRun detail w journal left) same (of_run (serving new) stop a b c d left on_disk.going it))),
            (λ told left there. subst (λ (w : World). IsLastOf detail (after w journal) left) same (of_last (serving new) stop a b c d left on_disk.going (on_disk.last told left there))),
            on_disk.idle,
            comes,
            subst (λ (total : Total). Wrote k writes sink last (text journal) (tail_of total) (stop_in detail)) (sym is)
                (subst (λ (why : Option Stop). Wrote k writes sink last (text journal) (tail_of (tally_in (serving new))) why) (stop_back stop a b c d) wrote),
          )

module _ {K : Type 0} (k : sink.Ghosts K) where
  -- what is finished of the replies which say that a copy settled
  pub acknowledged : (writes : Writes) (sink last : K) (journal entries : List Entry) (stop : Option Stop) (a b c d : ℕ) → entries ≡ journal → AcknowledgesFor k writes sink last journal stop
      → AcknowledgesFor k writes sink last entries (stop_in (ended_by stop a b c d))
  acknowledged writes sink last journal entries stop a b c d is saved =
      subst (λ (j : List Entry). AcknowledgesFor k writes sink last j (stop_in (ended_by stop a b c d))) (sym is)
      (subst (λ (why : Option Stop). AcknowledgesFor k writes sink last journal why) (stop_back stop a b c d) saved)

  -- and where they were written behind the last event
  pub acknowledged_last : (sink last : K) (tail : List ℕ) (journal entries : List Entry) (stop : Option Stop) (a b c d : ℕ) → entries ≡ journal → WroteRun k.written k.finished k.count sink last (text journal) tail stop
      → AcknowledgesLast k sink last entries (stop_in (ended_by stop a b c d))
  acknowledged_last sink last tail journal entries stop a b c d is wrote =
      subst (λ (j : List Entry). AcknowledgesLast k sink last j (stop_in (ended_by stop a b c d))) (sym is)
      (subst (λ (why : Option Stop). AcknowledgesLast k sink last journal why) (stop_back stop a b c d) (acknowledges_last k sink last tail journal stop wrote))

-- ---- causes

-- a count that rose between these numbers
pub shows_rise : (before after was now : ℕ) → before ≡ was → after ≡ now → Rose was now → ShowsRise before after was now
shows_rise before after was now is_was is_now rose = (is_was, is_now, subst (λ (n : ℕ). Rose before n) (sym is_now) (subst (λ (n : ℕ). Rose n now) (sym is_was) rose))

module _ {D S K : Type 0} (d : disk.Ghosts D) (s : source.Ghosts S) (k : sink.Ghosts K) where
  -- after a run of lines
  pub causes_end : (start end : D) (source : S) (sink last : K) (it : Ended D S K) (tally : Option Tally) (young : Option YoungTally) (stop : Option Stop) (a b c e : ℕ)
      → true ≡ is_tallied tally young → OneTally tally young → a ≡ d.count start → b ≡ d.count end → c ≡ k.count sink → e ≡ k.count last
      → CountsDisk stop (d.count start) (d.count end) → CountsSink stop (k.count sink) (k.count last) → (d.made end).past ≡ (d.made start).past
      → ShowsCauses d s k start source sink (with_parts it (ended_by stop a b c e) tally young end source last)
  causes_end start end source sink last it tally young None a b c e there one is_a is_b is_c is_e on_disk on_sink reads =
      record { reading = refl; writing = on_sink; device = on_disk; rule = tt; opened = tt; one = one; reads = reads }
  causes_end start end source sink last it tally young (Some (StopMemory _)) a b c e there one is_a is_b is_c is_e on_disk on_sink reads =
      record { reading = refl; writing = tt; device = on_disk; rule = tt; opened = there; one = one; reads = reads }
  causes_end start end source sink last it tally young (Some StopWriting) a b c e there one is_a is_b is_c is_e on_disk on_sink reads =
      record { reading = refl; writing = shows_rise c e (k.count sink) (k.count last) is_c is_e on_sink; device = on_disk; rule = tt; opened = tt; one = one; reads = reads }
  causes_end start end source sink last it tally young (Some StopDevice) a b c e there one is_a is_b is_c is_e on_disk on_sink reads =
      record { reading = refl; writing = tt; device = shows_rise a b (d.count start) (d.count end) is_a is_b on_disk; rule = tt; opened = there; one = one; reads = reads }
