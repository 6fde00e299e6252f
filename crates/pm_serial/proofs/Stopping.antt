-- What follows for a run from what the engine answered.
use Rattle.std.proofs.Common.{◌≡◌, Option, Result, Ok, Err, OnOk, OnErr, subst, sym}
use Rattle.pm_types.specs.declared.fault.EngineFault.{EngineFault}
use Rattle.pm_types.specs.declared.fault.EngineFault.TheVariants.{Memory as NoRoom, Disk, Reopen}
use Rattle.pm_engine.specs.declared.events.stop.Stop.{Stop}
use Rattle.pm_engine.specs.Events.Causes.{stop_after, why}
use Rattle.pm_serial.specs.Stepping.{IsGathered}

module _ {T : Type 0} (P : Type 0) where
  -- it goes on only where the engine answered
  pub went_on : (answer : Result T EngineFault) (result : Result (Unit {0}) Stop) → why result ≡ stop_after answer → OnOk answer P → OnOk result P
  went_on (Ok x) (Ok done) is p = p
  went_on (Ok x) (Err stop) is p = tt
  went_on (Err fault) (Ok done) is p = absurd (cc is)
  went_on (Err fault) (Err stop) is p = tt

  -- and stops only where it answered a fault
  pub stopped : (answer : Result T EngineFault) (result : Result (Unit {0}) Stop) → why result ≡ stop_after answer → OnErr answer P → OnErr result P
  stopped (Ok x) (Ok done) is p = tt
  stopped (Ok x) (Err stop) is p = absurd (cc is)
  stopped (Err fault) (Ok done) is p = tt
  stopped (Err fault) (Err stop) is p = p

-- no fault of the engine is one of the sink
no_sink : {T : Type 0} (answer : Result T EngineFault) → IsGathered (stop_after answer)
no_sink (Ok x) = tt
no_sink (Err (NoRoom _)) = tt
no_sink (Err (Disk before after)) = tt
no_sink (Err (Reopen count)) = tt

pub unwritten : {T : Type 0} (answer : Result T EngineFault) (stop : Option Stop) → stop ≡ stop_after answer → IsGathered stop
unwritten answer stop is = subst IsGathered (sym is) (no_sink answer)
