use Rattle.std.proofs.Common.{sym, subst}
use Rattle.std.specs.Prelude.{Option}
use Rattle.pm_shadow.specs.Pages.{state, disk_of, current_kept}
use Rattle.pm_view.specs.View.{Cars}
use Rattle.pm_saving.specs.Tied.{IsTied}
use Rattle.pm_save.specs.Progress.Answers.{UnlessDisk}
use Rattle.pm_save.specs.Shown.{frozen_of, saving}
use Rattle.pm_save.specs.Writer.Shown.{writing}
use Rattle.pm_save.proofs.WriterLemmas.FlushLemmas.{spares_by, spares_still}
use Rattle.pm_save.proofs.WriterLemmas.FrozenCars.{frozen_some, some_is, with_cars}
use Rattle.pm_save.proofs.saver.Saver.flush_one.Goals as goal

pub returns-in_default-clause-leaves : goal.returns-in_default-clause-leaves
returns-in_default-clause-leaves g c =
    let it = c.args.pages.now in
    spares_by g.D.Disk.contents g.D.Disk.image g.D.Disk.moment g.D.Disk.since (state it) it.disk it.disk
    (spares_still g.D.Disk.contents g.D.Disk.image g.D.Disk.moment g.D.Disk.since (state it) it.disk (current_kept it c.requires.tied.sound) (g.met.D.Disk.only_now it.disk))
    c.a_published_copy_is_the_settled_one.ensures.held

pub flush_from-requires : goal.flush_from-requires
flush_from-requires g c =
    record { tied = with_cars (saving c.args.self.now) (frozen_of c.args.space.now.parts) (state c.args.pages.now) (g.D.Disk.contents (disk_of c.args.pages.now)) c.requires.tied (some_is c.args.self.now.writer.settled.items c.args.self.now.writer.progress c.in-Some.field-0 c.in-Some.is) }

pub returns-clause-tied : goal.returns-clause-tied
returns-clause-tied g c =
    let is = frozen_some (saving c.args.self.now) (frozen_of c.args.space.now.parts) (state c.args.pages.now) (g.D.Disk.contents (disk_of c.args.pages.now)) c.requires.tied (some_is c.args.self.now.writer.settled.items c.args.self.now.writer.progress c.in-Some.field-0 c.in-Some.is) in
    subst (λ (frozen : Option Cars). UnlessDisk c.flush_from.result (IsTied (writing c.flush_from.new.self) frozen (state c.flush_from.new.pages) (g.D.Disk.contents (disk_of c.flush_from.new.pages)))) (sym is) c.flush_from.ensures.tied
