-- What is told of a client's call where an earlier call had halted the engine.
use Rattle.std.proofs.Common.{◌≡◌, ℕ, List, None, Some, Err, refl, arith}
use Rattle.pm_types.specs.declared.command.Cmd.{Cmd}
use Rattle.pm_types.specs.declared.fault.EngineFault.TheVariants.{Reopen}
use Rattle.pm_disk.specs.declared.disk.Disk.{Ghosts}
use Rattle.pm_save.specs.Writer.Settling.{settling_syncs, settling_writes}
use Rattle.pm_engine.specs.Works.Working.{disk_at, saving_in, state_in}
use Rattle.pm_engine.proofs.WorksLemmas.Asking.{stored}
use Rattle.pm_engine.proofs.WorksLemmas.Crashing.{settled_alone}
use Rattle.pm_engine.proofs.WorksLemmas.Kept.{none_made, spares_still}
use Rattle.pm_young.specs.declared.engine.YoungEngine.{YoungEngine}
use Rattle.pm_young.specs.declared.halt.Halt.{Halt}
use Rattle.pm_young.specs.Clients.{AnswersYoungClient}
use Rattle.pm_young.specs.Halts.{stopped_by}
use Rattle.pm_young.specs.Seen.{disk_in}
use Rattle.pm_young.proofs.GoesOn.{goes_nowhere}

module _ {D : Type 0} {F : Type 0} {g : Ghosts D} (it : YoungEngine D F g) (halt : Halt) (is : it.halted ≡ Some halt) (only_now : (bytes : List ℕ) → g.since (disk_at it.works) (g.moment (disk_at it.works)) bytes → g.image (disk_at it.works) bytes) where
  pub client_reopens : (client : ℕ) (cmd : Cmd) → AnswersYoungClient client cmd it it (Err (Reopen halt.count))
  client_reopens client cmd = record {
    serves = tt;
    enters = tt;
    fails = record { halt = halt; was = is; count_is = refl; whole = refl };
    running = tt;
    runs = tt;
    still = λ _. record { disk = refl; none = tt };
    leaves = λ none. settled_alone it.opening (stopped_by it.halted) it.works none it.safe it.works cmd (Err (Reopen halt.count)) (spares_still it.works it.works only_now refl (stored it.opening (stopped_by it.halted) it.works none it.safe).tied.sound);
    settled = tt;
    dropped = tt;
    made = none_made (settling_writes (saving_in it.works) (state_in it.works)) (settling_syncs (state_in it.works)) (g.made (disk_in it));
    short = tt;
    shown = tt;
    copies = λ _. tt;
    idle = λ _. refl;
    past = refl;
    room = omega arith;
    goes = goes_nowhere it;
  }
