-- What a run with a nursery has done, in the words of its end.
use Rattle.std.proofs.Common.{◌≡◌, inl, inr, ⊎_elim, ℕ, ◌<◌, ◌≤◌, List, [], Option, Some, None, length, refl, sym, ap, subst, ◌∙◌, arith}
use Rattle.std.proofs.Math.Logic.{∥∥₁_map}
use Rattle.std.proofs.Math.Nat.{min-eq_left}
use Rattle.std.proofs.lemmas.List.{length-map}
use Rattle.pm_types.specs.Counts.{greatest_count}
use Rattle.pm_types.specs.declared.entry.Entry.{Entry}
use Rattle.pm_disk.specs.declared.disk.Disk as disk
use Rattle.pm_disk.specs.Disk.{LeavesOnly}
use Rattle.pm_disk.proofs.RunLemmas.{weaker}
use Rattle.pm_io.specs.declared.sink.Sink as sink
use Rattle.pm_model.specs.World.{World, begin}
use Rattle.pm_model.specs.Closed.{IsClosed}
use Rattle.pm_model.specs.Journal.{IsFirstPart, IsLegal, after}
use Rattle.pm_model.specs.Text.{text}
use Rattle.pm_nursery.specs.Young.{no_nursery}
use Rattle.pm_script.specs.declared.line.YoungLine.{YoungLine}
use Rattle.pm_script.specs.Parted.Asked.{events_asked, steps_asked}
use Rattle.pm_view.specs.View.{SpaceView}
use Rattle.pm_copies.specs.Listed.{copy_in}
use Rattle.pm_saving.specs.Paging.{left_of}
use Rattle.pm_saving.specs.Progress.{Saving}
use Rattle.pm_saving.specs.Serving.{just_opened, opening}
use Rattle.pm_saving.specs.Images as images
use Rattle.pm_saving.specs.Images.{IsTold}
use Rattle.pm_engine.specs.declared.events.stop.Stop.{Stop}
use Rattle.pm_engine.specs.Events.Causes.{OnStop}
use Rattle.pm_serial.specs.Ordered.{StopsAmong, course_of}
use Rattle.pm_serial.specs.Running.{AnswersLines}
use Rattle.pm_serial.specs.Writing.{WroteRun}
use Rattle.pm_young.specs.declared.engine.YoungEngine.{YoungEngine}
use Rattle.pm_young.specs.declared.tally.YoungTally.{YoungTally}
use Rattle.pm_young.specs.Entering.{KeepsEntered}
use Rattle.pm_young.specs.Seen.{BeginsYoung, YoungTotal, disk_in, entered_in, opened_disk, serving, young_in, young_tally_in, young_tally_of}
use Rattle.pm_young_run.specs.Asked.{as_lines}
use Rattle.pm_young_run.specs.Entered.{AreEntered}
use Rattle.pm_young_run.specs.Running.{IsFreshYoung, RunsYoungLines}
use Rattle.pm_young_run.specs.Writing.{young_tail_of}
use Rattle.pm_runs.specs.declared.ends.ended.Detail.{Detail}
use Rattle.pm_runs.specs.declared.ends.ended.Alone.{Alone as Ended}
use Rattle.pm_runs.specs.Ends.Ends.{ended_by, stop_in}
use Rattle.pm_runs.specs.Ends.Disks.{IsLastOf, IsOfRun}
use Rattle.pm_runs.specs.Young.Engines.{GoesFromYoung, RunsYoungEngine}
use Rattle.pm_runs.specs.Young.Journals.{ServesYoung}
use Rattle.pm_runs.specs.Young.Tallies.{ComesToYoung, EntersYoung, LetsEnter}
use Rattle.pm_runs.proofs.EndsLemmas.Faults.{late_past}
use Rattle.pm_runs.proofs.EndsLemmas.Parts.{with_parts}
use Rattle.pm_runs.proofs.EndsLemmas.Scripts.{settle_within}
use Rattle.pm_runs.proofs.Ran.{done_back, ended_late, fresh_serving, of_last, of_run, short_back, stop_back}
use Rattle.pm_runs.proofs.YoungLemmas.Counted.{made_young}

-- what is said of a stop where this holds, which does
stops_few : (A B : Type 0) (stop : Option Stop) → OnStop stop (A → B) → A → OnStop stop B
stops_few A B None stops a = tt
stops_few A B (Some why) stops a = stops a

module _ {D F : Type 0} {g : disk.Ghosts D} where
  -- nothing was asked of an engine that was just opened, and nothing is young
  pub fresh_young : (it : YoungEngine D F g) (number : ℕ) (view : SpaceView) (saving : Saving) → serving it ≡ just_opened number view saving → (serving it).saving.progress ≡ None → BeginsYoung it → IsFreshYoung it
  fresh_young it number view saving is idle young = record { serves = fresh_serving (serving it) number view saving is idle; young = young }

  -- what was answered, in the order of the lines
  pub young_served : (lines : List YoungLine) (new : YoungEngine D F g) (young : YoungTally) (stop : Option Stop) (a b c d : ℕ) → events_asked (as_lines lines) ≤ greatest_count → young_tally_of young ≡ young_tally_in new
      → AnswersLines (as_lines lines) (serving new) stop → ServesYoung lines (ended_by stop a b c d) (serving new).journal (Some young)
  young_served lines new young stop a b c d few is answers =
      let late = ended_late stop a b c d in
      let it = serving new in
      let few_steps : steps_asked (as_lines lines) ≤ greatest_count = omega (arith, few) in
      record {
        ends = late_past (ended_by stop a b c d) late;
        tried = omega (arith, late);
        rest = answers.order.rest;
        served = answers.order.served;
        all = λ past. answers.order.all (done_back stop a b c d past);
        made = λ past.
            made_young lines it.journal (young_tally_of young) (ap (λ (total : YoungTotal). total.entries) is)
            (sym (length-map it.journal _) ∙ ap length (answers.order.all (done_back stop a b c d past)))
            (ap (λ (total : YoungTotal). total.steps) is ∙ answers.order.steps (done_back stop a b c d past) ∙ min-eq_left few_steps)
            (ap (λ (total : YoungTotal). total.events) is ∙ answers.order.events (done_back stop a b c d past) ∙ min-eq_left few);
        ordered = subst (λ (total : YoungTotal). IsFirstPart total.course (course_of 0 0 (as_lines lines))) (sym is) (answers.order.ordered few);
        all_ordered = λ past. ap (λ (total : YoungTotal). total.course) is ∙ answers.order.all_ordered (done_back stop a b c d past) few;
        stopped =
            subst (λ (why : Option Stop). OnStop why (StopsAmong (as_lines lines) it.journal (young_tally_of young).steps (young_tally_of young).events why)) (stop_back stop a b c d)
            (subst (λ (total : YoungTotal). OnStop stop (StopsAmong (as_lines lines) it.journal total.steps total.events stop)) (sym is)
            (stops_few (events_asked (as_lines lines) ≤ greatest_count) (StopsAmong (as_lines lines) it.journal it.steps it.events stop) stop answers.order.stopped few));
        short = λ ran done more client parted made.
            let same = ap (λ (total : YoungTotal). total.events) is in
            let left = ap (λ (total : YoungTotal). total.left) is in
            ⊎_elim (λ (none : it.events ≡ 0). inl (same ∙ none)) (λ (some : 0 < left_of it.saving.progress). inr (omega (arith, some, left)))
            (answers.short (short_back stop a b c d ran) done more client parted (sym same ∙ made) (settle_within (as_lines lines) done more client parted few));
      }

module _ {D F K : Type 0} {g : disk.Ghosts D} (k : sink.Ghosts K) where
  -- what a run over this engine leaves that ended so, by its journal
  abbrev Leaves : List YoungLine → YoungEngine D F g → D → YoungTally → K → K → Detail → List Entry → Type 0
  Leaves lines old end young sink last detail journal =
      IsLegal (opening (serving old)) journal
      × (IsTold (g.contents (opened_disk old)) → LeavesOnly g.moment g.since (disk_in old) end (IsOfRun detail (opening (serving old)) journal))
      × (IsTold (g.contents (opened_disk old)) → (left : List ℕ) → g.image end left → IsLastOf detail (after (opening (serving old)) journal) left)
      × (journal ≡ [] → end ≡ disk_in old)
      × ComesToYoung (GoesFromYoung old end) (opening (serving old)) journal (young_tally_of young)
      × EntersYoung (opening (serving old)) lines detail journal (Some young)
      × WroteRun k.written k.finished k.count sink last (text journal) (young_tail_of (young_tally_of young)) (stop_in detail)

module _ {D F S K : Type 0} {g : disk.Ghosts D} (k : sink.Ghosts K) where
  -- what it left
  pub young_run : (lines : List YoungLine) (old new : YoungEngine D F g) (young : YoungTally) (source : S) (sink last : K) (it : Ended D S K)
      (stop : Option Stop) (a b c d : ℕ)
      → it.journal.items ≡ (serving new).journal → RunsYoungLines k lines old new sink last stop
      → length (serving new).course ≡ length (serving new).journal
      → ∥ KeepsEntered (serving new).opened (serving new).view (young_in new) (entered_in new) ∥₁
      → IsClosed (opening (serving new)) → IsLegal (opening (serving new)) (serving new).journal
      → young_tally_of young ≡ young_tally_in new
      → RunsYoungEngine k lines old sink (with_parts it (ended_by stop a b c d) None (Some young) (disk_in new) source last)
  young_run lines old new young source sink last it stop a b c d is_journal runs told comes_in closed legal is =
      let left = subst (Leaves k lines old (disk_in new) young sink last (ended_by stop a b c d)) (sym is_journal) leaves in
      record {
        late = ended_late stop a b c d;
        closed = subst IsClosed same closed;
        legal = left.0;
        images = left.1;
        last = left.2;
        idle = left.3;
        there = refl;
        no_tally = refl;
        comes_to = left.4;
        enters = left.5;
        replies = left.6;
      }
    where
      same : opening (serving new) ≡ opening (serving old)
      same = λ i. begin (runs.start.opening.number i) (copy_in (runs.start.opening.opened i))

      -- what it came to, from the world and of the disk that were opened
      comes : ComesToYoung (GoesFromYoung old (disk_in new)) (opening (serving old)) (serving new).journal (young_tally_of young)
      comes =
          subst (ComesToYoung (GoesFromYoung old (disk_in new)) (opening (serving old)) (serving new).journal) (sym is)
          (subst (λ (begun : World). ComesToYoung (GoesFromYoung old (disk_in new)) begun (serving new).journal (young_tally_in new)) same
          (record {
            of_engine = record { later = new; keeps = runs.start; disk = refl; comes = record { began = refl; has = refl; is_total = refl; comes_in = comes_in } };
            journal_is = refl;
            entries = refl;
            entered = refl;
            course = told;
          }))

      -- what entered, of the world that was opened
      lets : AreEntered (opening (serving old)) no_nursery lines (entered_in new) (after (opening (serving new)) (serving new).journal) (young_in new)
          → LetsEnter (opening (serving old)) lines (serving new).journal (young_tally_of young)
      lets are =
          subst (LetsEnter (opening (serving old)) lines (serving new).journal) (sym is)
          (record {
            nursery = young_in new;
            entered = subst (λ (w : World). AreEntered (opening (serving old)) no_nursery lines (entered_in new) (after w (serving new).journal) (young_in new)) same are;
            young = refl;
          })

      leaves : Leaves k lines old (disk_in new) young sink last (ended_by stop a b c d) (serving new).journal
      leaves =
          let detail = ended_by stop a b c d in
          let journal = (serving new).journal in (
            subst (λ (w : World). IsLegal w journal) same legal,
            (λ told.
                weaker g.moment g.since (disk_in old) (disk_in new) (images.IsOfRun (serving new)) (IsOfRun detail (opening (serving old)) journal) (runs.disk.leaves told)
                (λ left it. subst (λ (w : World). IsOfRun detail w journal left) same (of_run (serving new) stop a b c d left runs.disk.going it))),
            (λ told left there. subst (λ (w : World). IsLastOf detail (after w journal) left) same (of_last (serving new) stop a b c d left runs.disk.going (runs.disk.last told left there))),
            runs.disk.idle,
            comes,
            (λ past. ∥∥₁_map (runs.entered (done_back stop a b c d past)) lets),
            subst (λ (total : YoungTotal). WroteRun k.written k.finished k.count sink last (text journal) (young_tail_of total) (stop_in detail)) (sym is)
                (subst (λ (why : Option Stop). WroteRun k.written k.finished k.count sink last (text journal) (young_tail_of (young_tally_in new)) why) (stop_back stop a b c d) runs.sink),
          )
