-- What is left of what lines ask, where workers take turns.
use Rattle.std.proofs.Common.{◌≡◌, ℕ, ◌+◌, List, [], ◌++◌, length, arith, Option, Some, None, ap, sym, ◌∙◌}
use Rattle.std.proofs.Math.Logic.{∥∥₁_map}
use Rattle.std.proofs.lemmas.List.{append-nil, append_cancel_left}
use Rattle.pm_types.specs.Memory.{no_memory}
use Rattle.pm_types.specs.declared.command.Cmd.{Cmd}
use Rattle.pm_types.specs.declared.fault.EngineFault.TheVariants.{Memory as NoRoom}
use Rattle.pm_model.specs.Journal.{commands_of, part}
use Rattle.pm_script.specs.declared.line.Line.{Line}
use Rattle.pm_script.specs.Parted.Asked.{flushes_asked, requests_asked, steps_asked}
use Rattle.pm_script.specs.Parted.Lists.{list_of}
use Rattle.pm_saving.specs.Paging.{left_of}
use Rattle.pm_saving.specs.Serving.{Serving}
use Rattle.pm_engine.specs.declared.unmade.Unmade.{Unmade}
use Rattle.pm_engine.specs.declared.unmade.Unmade.TheVariants.{OfClient, OfCollector, OfFlusher}
use Rattle.pm_engine.specs.declared.events.stop.Stop.{Stop}
use Rattle.pm_engine.specs.declared.events.stop.Stop.TheVariants.{Memory}
use Rattle.pm_serial.proofs.TogetherLemmas.Ordered.{NoneLeft}
use Rattle.pm_lock.specs.Kept.{AwaitsClient, HasLeft}
use Rattle.pm_lock.specs.Crew.Whole.{MakesAllOf}
use Rattle.pm_runs.specs.Threads.Running.{AwaitsCommand, LeavesEvent}

-- where all of a client's commands were answered none is left
none_behind : (answered left whole : List Cmd) → answered ++ left ≡ whole → answered ≡ whole → left ≡ []
none_behind answered left whole is all = append_cancel_left answered left [] (is ∙ sym all ∙ sym (append-nil answered))

module _ (lines : List Line) (it : Serving) (lists : List (List Cmd)) (collects flushes : ℕ) (parts : (client : ℕ) → part client it.journal ++ list_of lists client ≡ commands_of client (requests_asked lines))
    (steps_left : it.steps + collects ≡ steps_asked lines) (events_left : it.events + flushes ≡ length it.journal + it.steps + flushes_asked lines) where
  awaits : (client : ℕ) → AwaitsClient client it lists → AwaitsCommand client lines it.journal (left_of it.saving.progress)
  awaits client await = record {
    cmd = await.cmd;
    rest = await.rest;
    next = ap (λ (list : List Cmd). part client it.journal ++ list) (sym await.next) ∙ parts client;
    unfinished = await.unfinished;
  }

  leaves_event : (event : Option Unmade) → HasLeft (Some (NoRoom no_memory)) event it lists collects flushes → LeavesEvent event lines it.journal it.steps it.events (left_of it.saving.progress)
  leaves_event None left = absurd left
  leaves_event (Some (OfClient client)) left = awaits client left
  leaves_event (Some OfCollector) left = omega (arith, left, steps_left)
  leaves_event (Some OfFlusher) left = omega (arith, left, events_left)

  -- where memory ran out the event is left for which it did
  pub short_left : (stop : Option Stop) (unmade : Option Unmade) → (stop ≡ Some (Memory no_memory) → ∥ HasLeft (Some (NoRoom no_memory)) unmade it lists collects flushes ∥₁)
      → stop ≡ Some (Memory no_memory) → ∥ LeavesEvent unmade lines it.journal it.steps it.events (left_of it.saving.progress) ∥₁
  short_left stop unmade kept is = ∥∥₁_map (kept is) (leaves_event unmade)

  -- where all was made nothing is left
  pub nothing_left : MakesAllOf lines it → NoneLeft lists collects flushes
  nothing_left all =
      let steps = all.steps in
      let events = all.events in (
        (λ client. none_behind (part client it.journal) (list_of lists client) (commands_of client (requests_asked lines)) (parts client) (all.serves client)),
        omega (arith, steps, steps_left),
        omega (arith, steps, events, events_left),
      )
