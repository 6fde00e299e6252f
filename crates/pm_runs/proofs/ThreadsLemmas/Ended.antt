-- Which fault a run in threads had kept, from how it ended.
use Rattle.std.proofs.Common.{◌≡◌, ⊎_elim, Option, Some, None, refl, subst, ◌∙◌}
use Rattle.pm_types.specs.Memory.{no_memory}
use Rattle.pm_types.specs.declared.fault.EngineFault.{EngineFault}
use Rattle.pm_types.specs.declared.fault.EngineFault.TheVariants.{Memory as NoRoom, Disk, Reopen}
use Rattle.pm_engine.specs.declared.unmade.Unmade.{Unmade}
use Rattle.pm_engine.specs.declared.events.stop.Stop.{Stop}
use Rattle.pm_engine.specs.declared.events.stop.Stop.TheVariants.{Memory}
use Rattle.pm_engine.specs.Events.Causes.{IsDone}
use Rattle.pm_serial.specs.Stepping.{IsOfSink}
use Rattle.pm_serial.proofs.TogetherLemmas.Ended.{Ends}
use Rattle.pm_lock.specs.Kept.{UnlessMemory, stop_kept}

-- a run that is done had kept no fault
pub kept_none : (fault : Option EngineFault) (after : Option Stop) → Ends (stop_kept fault) after → IsDone after → fault ≡ None
kept_none None after why done = refl
kept_none (Some fault) after why done =
    ⊎_elim (λ same. absurd (subst IsDone same done)) (λ both. let never = both.0 in absurd (cc never)) why

-- no fault of an engine is one of the sink
no_sink : (fault : EngineFault) → IsOfSink (stop_kept (Some fault)) → ⊥
no_sink (NoRoom _) of = of
no_sink (Disk before after) of = of
no_sink (Reopen count) of = of

-- so a run that stopped for the sink had kept none
pub kept_unwritten : (fault : Option EngineFault) (after : Option Stop) → Ends (stop_kept fault) after → IsOfSink after → fault ≡ None
kept_unwritten None after why of = refl
kept_unwritten (Some fault) after why of =
    ⊎_elim (λ same. absurd (no_sink fault (subst IsOfSink same of))) (λ both. let never = both.0 in absurd (cc never)) why

-- one that memory ran out of had kept just that
pub kept_memory : (fault : Option EngineFault) (after : Option Stop) → Ends (stop_kept fault) after → after ≡ Some (Memory no_memory) → fault ≡ Some (NoRoom no_memory)
kept_memory None after why is = ⊎_elim (λ same. absurd (cc (same, is))) (λ both. absurd (cc (both.1, is))) why
kept_memory (Some (NoRoom _)) after why is = refl
kept_memory (Some (Disk before now)) after why is = ⊎_elim (λ same. absurd (cc (same, is))) (λ both. absurd (cc both.0)) why
kept_memory (Some (Reopen count)) after why is = ⊎_elim (λ same. absurd (cc (same, is))) (λ both. absurd (cc both.0)) why

-- one that memory did not run out of has noted no event
pub noted_none : (fault : Option EngineFault) (after : Option Stop) (unmade first : Option Unmade) → Ends (stop_kept fault) after → UnlessMemory fault (unmade ≡ first) → first ≡ None → (after ≡ Some (Memory no_memory) → ⊥) → unmade ≡ None
noted_none None after unmade first why noted none whole = noted ∙ none
noted_none (Some (NoRoom _)) after unmade first why noted none whole = absurd (⊎_elim whole (λ both. cc both.0) why)
noted_none (Some (Disk before now)) after unmade first why noted none whole = noted ∙ none
noted_none (Some (Reopen count)) after unmade first why noted none whole = noted ∙ none
