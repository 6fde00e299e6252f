use Rattle.std.proofs.Common.{◌≡◌, true, false, Err, refl, sym, ◌∙◌, arith}
use Rattle.pm_types.specs.Memory.{no_memory}
use Rattle.pm_types.specs.declared.fault.EngineFault.TheVariants.{Memory}
use Rattle.pm_save.specs.Writer.Settling.{settling_syncs, settling_writes}
use Rattle.pm_law_bound.proofs.Many.{kept_still}
use Rattle.pm_engine.specs.Shown.{disk_in, pages_in, serving}
use Rattle.pm_engine.specs.Works.Working.{disk_at}
use Rattle.pm_engine.proofs.Standing.{safe}
use Rattle.pm_engine.proofs.WorksLemmas.Asking.{stored}
use Rattle.pm_engine.proofs.WorksLemmas.Crashing.{settled_alone}
use Rattle.pm_law_saving.proofs.ServingLemmas.Kept.{stays_same}
use Rattle.pm_engine.proofs.WorksLemmas.Kept.{lasts_so, none_made, pages_last}
use Rattle.pm_engine.proofs.Telling.{client_reopens}
use Rattle.pm_engine.proofs.engine.Engine.client.Goals as goal

true_false : true ≡ false → ⊥
true_false is = cc is

pub returns-in-Some-clause-call : goal.returns-in-Some-clause-call
returns-in-Some-clause-call g c = client_reopens c.args.self.now c.in-Some.count c.in-Some.is c.args.client c.args.cmd.now

-- memory ran out before anything was asked
pub returns-in-Err-clause-call : goal.returns-in-Err-clause-call
returns-in-Err-clause-call g c =
    let self = c.args.self.now in
    let works = self.works in
    let tied = (stored self.opening self.stopped works c.in-None.is (safe self.sound)).tied in
    let so = lasts_so works works (g.met.D.Disk.only_now (disk_at works)) tied tied refl (pages_last works works refl) in
    record {
      serves = tt;
      fails = (
        record { opening = record { number = refl; opened = refl }; view = refl; frozen = refl; settled = refl; progress = stays_same (serving self).saving.progress (serving self).saving.progress refl; journal = refl; course = refl; watches = refl; events = refl; steps = refl },
        c.in-None.is,
        c.in-None.is,
        refl,
      );
      running = tt;
      reopen = tt;
      still = λ _. record { disk = refl; none = tt };
      leaves = λ none. settled_alone self.opening self.stopped works none (safe self.sound) works c.args.cmd.now (Err (Memory no_memory)) so.spares;
      settled = tt;
      short = λ settles. absurd (true_false (sym settles ∙ c.in-Err.ensures.short));
      shown = tt;
      copies = λ _. tt;
      lasts = λ _. refl;
      idle = λ _. refl;
      dropped = tt;
      made = none_made (settling_writes (serving self).saving (pages_in self)) (settling_syncs (pages_in self)) (g.D.Disk.made (disk_in self));
      past = refl;
      space = tt;
      work = omega arith;
      bound = kept_still (serving self).view (serving self).view refl;
      room = omega arith;
      unmade = refl;
      kept = record { past = refl; recent = refl };
    }
