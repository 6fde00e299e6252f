-- What a run of workers did to engine and disk, from how its engine went on until the text was written.
use Rattle.std.proofs.Common.{◌≡◌, ◌⊎◌, ⊎_elim, inl, ℕ, List, [], Option, Some, None, refl, ap, sym, subst, ◌∙◌}
use Rattle.std.proofs.Math.Logic.{∥∥₁_elim, ∥∥₁_map}
use Rattle.std.proofs.Props.{props}
use Rattle.pm_types.specs.Memory.{no_memory}
use Rattle.pm_disk.specs.declared.disk.Disk.{Ghosts}
use Rattle.pm_disk.specs.Disk.{LeavesOnly}
use Rattle.pm_model.specs.Journal.{IsLegal}
use Rattle.pm_saving.specs.Serving.{Serving, opening, world}
use Rattle.pm_saving.specs.Images.{IsOfRun, IsSettledCopy, IsTold}
use Rattle.pm_engine.specs.declared.engine.Engine.{Engine}
use Rattle.pm_engine.specs.Shown.{KeepsStart, disk_in, opened_disk, past_of, recent, serving}
use Rattle.pm_engine.specs.declared.events.stop.Stop.{Stop}
use Rattle.pm_engine.specs.declared.events.stop.Stop.TheVariants.{Memory, Writing, Device}
use Rattle.pm_engine.specs.Events.Causes.{CountsDisk, IsDone}
use Rattle.pm_engine.specs.Events.Events.{EngineGoesOn}
use Rattle.pm_engine.specs.Events.Running.{IsFresh, RunsOnDisk}
use Rattle.pm_engine.proofs.EventsLemmas.Going.{goes_ended, goes_first, runs}
use Rattle.pm_engine.proofs.WorksLemmas.Counts.{splits_rose}
use Rattle.pm_engine.proofs.WorksLemmas.Whole.{front_none, none_known}
use Rattle.pm_serial.specs.Stepping.{IsGathered, IsOfSink}
use Rattle.pm_serial.proofs.Gathering.{not_both}

-- the end of a run stops it only where nothing else did
abbrev pub Ends : Option Stop → Option Stop → Type 0
Ends before after = (after ≡ before) ⊎ ((before ≡ None) × (after ≡ Some Writing))

-- a number that is known to be another in some way
number_known : (a b : ℕ) → ∥ a ≡ b ∥₁ → a ≡ b
number_known a b known = ∥∥₁_elim known (hlevel props) (λ x. x)

-- a run that is done had not stopped
pub done_before : (before after : Option Stop) → Ends before after → IsDone after → before ≡ None
done_before None after why done = refl
done_before (Some stop) after why done =
    ⊎_elim (λ same. absurd (subst IsDone same done)) (λ both. let never = both.0 in absurd (cc never)) why

-- nor had one that stopped for the sink
pub unwritten_before : (before after : Option Stop) → IsGathered before → Ends before after → IsOfSink after → before ≡ None
unwritten_before before after gathered why of =
    ⊎_elim (λ same. absurd (not_both before gathered (subst IsOfSink same of))) (λ both. both.0) why

-- one that memory ran out of had stopped for just that
pub memory_before : (before after : Option Stop) → Ends before after → after ≡ Some (Memory no_memory) → before ≡ Some (Memory no_memory)
memory_before before after why is = ⊎_elim (λ same. sym same ∙ is) (λ both. let never = both.1 in absurd (cc (never, is))) why

counts_ended : (before after : Option Stop) (was now : ℕ) → Ends before after → CountsDisk before was now → CountsDisk after was now
counts_ended before after was now why counts =
    ⊎_elim (λ same. subst (λ (s : Option Stop). CountsDisk s was now) (sym same) counts)
    (λ both. subst (λ (s : Option Stop). CountsDisk s was now) (sym both.1) (subst (λ (s : Option Stop). CountsDisk s was now) both.0 counts)) why

counts_once : (stop : Option Stop) (was now : ℕ) → ∥ CountsDisk stop was now ∥₁ → CountsDisk stop was now
counts_once None was now known = number_known now was known
counts_once (Some (Memory _)) was now known = number_known now was known
counts_once (Some Writing) was now known = number_known now was known
counts_once (Some Device) was now known = splits_rose was now known

module _ {D : Type 0} {F : Type 0} {g : Ghosts D} where
  -- of an engine that was just opened no entry was let go
  pub whole_first : (it : Engine D F g) → IsFresh (serving it) → past_of it ≡ []
  whole_first it fresh = front_none (past_of it) (recent it) fresh.journal

  -- nothing was made
  pub runs_none : (old new : Engine D F g) → IsFresh (serving old) → serving new ≡ serving old → disk_in new ≡ disk_in old → IsLegal (opening (serving old)) (serving old).journal
      → ((serving old).stopped ≡ None → IsTold (g.contents (opened_disk old)) → (left : List ℕ) → g.image (disk_in old) left → IsSettledCopy (world (serving old)) left)
      → ((left : List ℕ) → g.since (disk_in old) (g.moment (disk_in old)) left → g.image (disk_in old) left) → RunsOnDisk old new (Some (Memory no_memory))
  runs_none old new fresh same disk legal settled now =
      let first = goes_first old fresh.stopped legal (settled fresh.stopped) now in
      record {
        leaves = λ told. subst (λ (both : D × Serving). LeavesOnly g.moment g.since (disk_in old) both.0 (IsOfRun both.1)) (λ i. (sym disk i, sym same i)) (first.leaves told);
        last = λ told left here. inl (subst (λ (it : Serving). IsSettledCopy (world it) left) (sym same) (settled fresh.stopped told left (subst (λ (d : D). g.image d left) disk here)));
        going = λ _. ap (λ (it : Serving). it.stopped) same ∙ fresh.stopped;
        cause = ap g.count disk;
        past = ap (λ (d : D). (g.made d).past) disk;
        idle = λ none. disk;
      }

  module _ (old new : Engine D F g) (before after : Option Stop) (why : Ends before after) (goes : ∥ EngineGoesOn old new before ∥₁) where
    -- what its engine did is what a run does
    pub runs_known : IsFresh (serving old) → ((serving new).stopped ≡ None → IsTold (g.contents (opened_disk new)) → (left : List ℕ) → g.image (disk_in new) left → IsSettledCopy (world (serving new)) left)
        → ∥ RunsOnDisk old new after ∥₁
    runs_known fresh law = ∥∥₁_map goes (λ on. runs old new after fresh (goes_ended old new before after why on) law)

    pub start_known : ∥ KeepsStart old new ∥₁
    start_known = ∥∥₁_map goes (λ on. on.start)

    pub past_known : (g.made (disk_in new)).past ≡ (g.made (disk_in old)).past
    past_known = number_known _ _ (∥∥₁_map goes (λ on. on.past))

    pub counts_known : CountsDisk after (g.count (disk_in old)) (g.count (disk_in new))
    counts_known = counts_ended before after (g.count (disk_in old)) (g.count (disk_in new)) why (counts_once before (g.count (disk_in old)) (g.count (disk_in new)) (∥∥₁_map goes (λ on. on.cause)))

    -- where none was let go before, none is
    pub whole_known : past_of old ≡ [] → past_of new ≡ []
    whole_known none = none_known (past_of new) (∥∥₁_map goes (λ on. on.entries ∙ none))
