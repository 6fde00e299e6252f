-- What workers that take turns made of a script is what its lines ask in some order, up to the event that was not made.
use Rattle.std.proofs.Common.{◌≡◌, inl, inr, ℕ, suc, zero, ◌+◌, ◌<◌, ◌^◌, List, ◌∷◌, ◌++◌, length, arith, Option, Some, None, IfSome, refl, ap, sym, subst, ◌∙◌}
use Rattle.std.proofs.Math.Logic.{∥∥₁_map, ∥∥₁_map₂}
use Rattle.pm_types.specs.Memory.{no_memory}
use Rattle.pm_types.specs.Counts.{greatest_count}
use Rattle.pm_types.specs.declared.command.Cmd.{Cmd}
use Rattle.pm_types.specs.declared.command.Cmd.TheVariants.{Settle}
use Rattle.pm_types.specs.declared.fault.EngineFault.{EngineFault}
use Rattle.pm_types.specs.declared.fault.EngineFault.TheVariants.{Memory as NoRoom}
use Rattle.pm_model.specs.Frames.{is_settle}
use Rattle.pm_model.specs.Journal.{commands_of, part}
use Rattle.pm_script.specs.declared.line.Line.{Line}
use Rattle.pm_script.specs.declared.line.Line.TheVariants.{Client, Gc, Flush}
use Rattle.pm_script.specs.Parted.Asked.{events_asked, flushes_asked, requests_asked, steps_asked}
use Rattle.pm_script.specs.Parted.Lists.{count_left, list_of}
use Rattle.pm_saving.specs.Paging.{left_of}
use Rattle.pm_saving.specs.Serving.{Serving}
use Rattle.pm_engine.specs.History.{HasHistory}
use Rattle.pm_engine.specs.declared.unmade.Unmade.{Unmade}
use Rattle.pm_engine.specs.declared.unmade.Unmade.TheVariants.{OfClient, OfCollector, OfFlusher}
use Rattle.pm_engine.specs.declared.events.stop.Stop.{Stop}
use Rattle.pm_engine.specs.declared.events.stop.Stop.TheVariants.{Memory, Writing, Device}
use Rattle.pm_engine.specs.Events.Causes.{IsDone}
use Rattle.pm_engine.specs.Events.Running.{IsFresh}
use Rattle.pm_serial.specs.Made.{AreMade, HasMade}
use Rattle.pm_serial.specs.Stepping.{IsOfSink, events_of}
use Rattle.pm_serial.specs.Together.{AnswersInSomeOrder}
use Rattle.pm_serial.proofs.Cutting.{same_line}
use Rattle.pm_serial.proofs.Making.{has_made}
use Rattle.pm_serial.proofs.TogetherLemmas.Ended.{Ends}
use Rattle.pm_serial.proofs.TogetherLemmas.Left.{AreLeft, client_lines, clients_first, clients_lines, collecting, collecting_first, flushing, flushing_first, lines_from, without}
use Rattle.pm_serial.proofs.TogetherLemmas.Ordered.{NoneLeft, fresh_order, in_some_order}
use Rattle.pm_lock.specs.Crew.Whole.{MakesAllOf}
use Rattle.pm_lock.specs.Kept.{AwaitsClient, HasLeft, stop_kept}
use Rattle.pm_runs.specs.Threads.Ordered.{AsksFor, StopsAt, StopsInSomeOrder}
use Rattle.pm_runs.specs.Threads.Running.{AnswersInTurns, LeavesEvent}
use Rattle.pm_runs.proofs.ThreadsLemmas.Clients.{nothing_left, short_left}
use Rattle.pm_runs.proofs.ThreadsLemmas.Ended.{kept_none, kept_unwritten}

-- which command a line asks
abbrev command_in : Line → Cmd
command_in (Client client cmd) = cmd
command_in (Gc count) = Settle
command_in (Flush count) = Settle

-- a number that is not zero
positive : (n : ℕ) → 0 < n → (m : ℕ) × (n ≡ suc m)
positive zero some = absurd (omega (arith, some))
positive (suc m) some = (m, refl)

-- what is known where memory ran out is known, if it did
known : (stop : Option Stop) (P : Type 0) → (stop ≡ Some (Memory no_memory) → ∥ P ∥₁) → ∥ (stop ≡ Some (Memory no_memory) → P) ∥₁
known None P is = ∣ (λ never. absurd (cc never)) ∣₁
known (Some (Memory _)) P is = ∥∥₁_map (is refl) (λ p _. p)
known (Some Writing) P is = ∣ (λ never. absurd (cc never)) ∣₁
known (Some Device) P is = ∣ (λ never. absurd (cc never)) ∣₁

module _ (lines : List Line) (it : Serving) (lists : List (List Cmd)) (collects flushes : ℕ) (parts : (client : ℕ) → part client it.journal ++ list_of lists client ≡ commands_of client (requests_asked lines)) (steps_left : it.steps + collects ≡ steps_asked lines)
    (events_left : it.events + flushes ≡ length it.journal + it.steps + flushes_asked lines) (few : it.events < greatest_count) (stop : Option Stop) (empty : IsDone stop → NoneLeft lists collects flushes) (unwritten : IsOfSink stop → NoneLeft lists collects flushes) where
  -- what was made, and what is left behind it in some order
  module _ (made : List Line) (are : AreMade made it) (tail : List Line) (left : AreLeft tail lists collects flushes) where
    abbrev in_some : AnswersInSomeOrder lines it stop
    in_some = in_some_order lines it lists collects flushes parts steps_left events_left few stop empty unwritten made are tail left

    -- the first line that is left asks for the event that was not made
    stopped_at : (event : Unmade) (line : Line) (rest : List Line) → tail ≡ line ∷ rest → events_of line ≡ 1 → AsksFor event line → ((who : ℕ) → line ≡ Client who Settle → 0 < left_of it.saving.progress) → StopsInSomeOrder lines it (Some event) stop
    stopped_at event line rest next one asks unfinished = record {
      some = in_some;
      short = λ _ done more who parted events _.
          let before = are.events in
          inr (unfinished who (same_line made rest done more line (Client who Settle) 0 (ap (λ (t : List Line). made ++ t) (sym next) ∙ parted) (omega (arith, one)) (omega arith) (omega (arith, before, events))));
      stops = record { done = made; line = line; rest = rest; lines_are = ap (λ (t : List Line). made ++ t) next; events_are = are.events; asks = asks };
    }

  -- where memory did not run out no event was noted
  met : (P : Type 0) (event : Unmade) (why : Option Stop) → (why ≡ Some (Memory no_memory) → P) → ((why ≡ Some (Memory no_memory) → ⊥) → Some event ≡ None) → P
  met P event None kept none = let never = none (λ is. absurd (cc is)) in absurd (cc never)
  met P event (Some (Memory _)) kept none = kept refl
  met P event (Some Writing) kept none = let never = none (λ is. absurd (cc is)) in absurd (cc never)
  met P event (Some Device) kept none = let never = none (λ is. absurd (cc is)) in absurd (cc never)

  in_order : (unmade : Option Unmade) → HasMade it → (stop ≡ Some (Memory no_memory) → HasLeft (Some (NoRoom no_memory)) unmade it lists collects flushes) → ((stop ≡ Some (Memory no_memory) → ⊥) → unmade ≡ None) → StopsInSomeOrder lines it unmade stop
  in_order None was kept none =
      record {
        some = in_some was.lines was.made _ (clients_first lists collects flushes 0);
        short = λ is done more client parted events few. absurd (kept is);
        stops = tt;
      }
  in_order (Some (OfClient client)) was kept none =
      let await = met (AwaitsClient client it lists) (OfClient client) stop kept none in
      let behind = collecting collects ++ flushing flushes in
      let others = lines_from 0 (without client lists) in
      stopped_at was.lines was.made _ (clients_first lists collects flushes client) (OfClient client) (Client client await.cmd) ((client_lines client await.rest ++ others) ++ behind)
      (ap (λ (list : List Cmd). (client_lines client list ++ others) ++ behind) await.next) refl refl (λ who same. await.unfinished (ap (λ (line : Line). is_settle (command_in line)) same))
  in_order (Some OfCollector) was kept none =
      let some = positive collects (met (0 < collects) OfCollector stop kept none) in
      let behind = clients_lines 0 lists ++ flushing flushes in
      stopped_at was.lines was.made _ (collecting_first lists collects flushes 0) OfCollector (Gc 1) (collecting some.0 ++ behind) (ap (λ (n : ℕ). collecting n ++ behind) some.1) refl tt (λ who same. absurd (cc same))
  in_order (Some OfFlusher) was kept none =
      let some = positive flushes (met (0 < flushes) OfFlusher stop kept none) in
      let behind = clients_lines 0 lists ++ collecting collects in
      stopped_at was.lines was.made _ (flushing_first lists collects flushes 0) OfFlusher (Flush 1) (flushing some.0 ++ behind) (ap (λ (n : ℕ). flushing n ++ behind) some.1) refl tt (λ who same. absurd (cc same))

  -- as far as it is known how the engine came to it
  pub some_order : (unmade : Option Unmade) → ∥ HasHistory it ∥₁ → (stop ≡ Some (Memory no_memory) → ∥ HasLeft (Some (NoRoom no_memory)) unmade it lists collects flushes ∥₁) → ((stop ≡ Some (Memory no_memory) → ⊥) → unmade ≡ None)
      → ∥ StopsInSomeOrder lines it unmade stop ∥₁
  some_order unmade history kept none = ∥∥₁_map₂ history (known stop (HasLeft (Some (NoRoom no_memory)) unmade it lists collects flushes) kept) (λ came left. in_order unmade (has_made it came few) left none)

-- what a book made of these lines
module _ (lines : List Line) (it : Serving) (lists : List (List Cmd)) (collects flushes : ℕ) (parts : (client : ℕ) → part client it.journal ++ list_of lists client ≡ commands_of client (requests_asked lines))
    (answered : length it.journal + count_left lists ≡ length (requests_asked lines)) (steps_left : it.steps + collects ≡ steps_asked lines) (events_left : it.events + flushes ≡ length it.journal + it.steps + flushes_asked lines) (small : events_asked lines < 2 ^ 50)
    (fault : Option EngineFault) (all : fault ≡ None → MakesAllOf lines it) (stop : Option Stop) (first : Ends (stop_kept fault) stop) (history : ∥ HasHistory it ∥₁) where
  few : it.events < greatest_count
  few = omega (arith, answered, steps_left, events_left, small)

  nothing : fault ≡ None → NoneLeft lists collects flushes
  nothing none = nothing_left lines it lists collects flushes parts steps_left events_left (all none)

  pub book_order : ∥ AnswersInSomeOrder lines it stop ∥₁
  book_order = ∥∥₁_map history (λ came.
      let was = has_made it came few in
      in_some_order lines it lists collects flushes parts steps_left events_left few stop (λ done. nothing (kept_none fault stop first done)) (λ of. nothing (kept_unwritten fault stop first of)) was.lines was.made _ (clients_first lists collects flushes 0))

  pub book_turns : (unmade : Option Unmade) → (stop ≡ Some (Memory no_memory) → ∥ HasLeft (Some (NoRoom no_memory)) unmade it lists collects flushes ∥₁) → ((stop ≡ Some (Memory no_memory) → ⊥) → unmade ≡ None) → AnswersInTurns lines it unmade stop
  book_turns unmade kept none = record {
    short = short_left lines it lists collects flushes parts steps_left events_left stop unmade kept;
    noted = none;
    order = some_order lines it lists collects flushes parts steps_left events_left few stop (λ done. nothing (kept_none fault stop first done)) (λ of. nothing (kept_unwritten fault stop first of)) unmade history kept none;
  }

-- nothing was answered
pub fresh_stops : (lines : List Line) (it : Serving) (unmade : Option Unmade) → IsFresh it → unmade ≡ None → StopsInSomeOrder lines it unmade (Some (Memory no_memory))
fresh_stops lines it unmade fresh none =
    let first = fresh_order lines it fresh in
    record {
      some = first;
      short = λ is done more client parted made few. inl fresh.events;
      stops = subst (λ (event : Option Unmade). IfSome event (StopsAt first.other it.events)) (sym none) tt;
    }

pub fresh_turns : (lines : List Line) (it : Serving) (unmade : Option Unmade) → IsFresh it → unmade ≡ None → AnswersInTurns lines it unmade (Some (Memory no_memory))
fresh_turns lines it unmade fresh none = record {
  short = λ is. ∣ subst (λ (event : Option Unmade). LeavesEvent event lines it.journal it.steps it.events (left_of it.saving.progress)) (sym none) fresh.events ∣₁;
  noted = λ _. none;
  order = ∣ fresh_stops lines it unmade fresh none ∣₁;
}
