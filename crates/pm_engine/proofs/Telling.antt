-- What is told of a call where an earlier one had answered that the disk failed.
use Rattle.std.proofs.Common.{◌≡◌, ℕ, List, Option, Some, None, Err, refl, arith}
use Rattle.std.specs.Borrow.{Bor}
use Rattle.std.specs.Fn.{Shared}
use Rattle.pm_types.specs.declared.command.Cmd.{Cmd}
use Rattle.pm_types.specs.declared.fault.EngineFault.TheVariants.{Reopen}
use Rattle.pm_disk.specs.declared.disk.Disk.{Ghosts}
use Rattle.pm_law_bound.proofs.Many.{kept_still}
use Rattle.pm_engine.specs.declared.engine.Engine.{Engine}
use Rattle.pm_save.specs.Writer.Settling.{settling_syncs, settling_writes}
use Rattle.pm_engine.specs.Shown.{disk_in, pages_in, serving}
use Rattle.pm_engine.proofs.WorksLemmas.Kept.{none_made}
use Rattle.pm_engine.specs.Calls.{AnswersClient, AnswersCollect, AnswersFlush}

none_some : {A : Type 0} (it : Option A) (one : A) → it ≡ None → it ≡ Some one → ⊥
none_some it one none is = cc (none, is)

module _ {D : Type 0} {F : Type 0} {g : Ghosts D} (it : Engine D F g) (count : ℕ) (is : it.stopped ≡ Some count) where
  pub client_reopens : (client : ℕ) (cmd : Cmd) → AnswersClient client cmd it it (Err (Reopen count))
  client_reopens client cmd = record {
    serves = tt;
    fails = (refl, is, refl);
    running = tt;
    reopen = refl;
    still = λ _. record { disk = refl; none = tt };
    leaves = λ none. absurd (none_some it.stopped count none is);
    settled = tt;
    short = tt;
    shown = tt;
    copies = λ _. tt;
    lasts = λ _. tt;
    idle = λ _. refl;
    dropped = tt;
    made = none_made (settling_writes (serving it).saving (pages_in it)) (settling_syncs (pages_in it)) (g.made (disk_in it));
    past = refl;
    space = tt;
    work = omega arith;
    bound = kept_still (serving it).view (serving it).view refl;
    room = omega arith;
    unmade = refl;
    kept = record { past = refl; recent = refl };
  }

  pub flush_reopens : AnswersFlush it it (Err (Reopen count))
  flush_reopens = record {
    flushes = tt;
    flushed = tt;
    view = refl;
    fails = (refl, is, refl);
    running = tt;
    reopen = refl;
    leaves = λ none. absurd (none_some it.stopped count none is);
    memory = tt;
    fault = tt;
    idle = λ _. refl;
    made = none_made 1 0 (g.made (disk_in it));
    past = refl;
    room = omega arith;
    unmade = refl;
    kept = record { past = refl; recent = refl };
  }

  pub collect_reopens : (calls : Shared F (Bor (List ℕ) × Unit {0}) ℕ) → AnswersCollect calls it it (Err (Reopen count))
  collect_reopens calls = record {
    event = tt;
    collects = tt;
    fails = (refl, is, refl);
    running = tt;
    reopen = refl;
    still = record { disk = refl; none = tt };
    bound = kept_still (serving it).view (serving it).view refl;
    memory = tt;
    short = tt;
    room = omega arith;
    unmade = refl;
    kept = record { past = refl; recent = refl };
  }
