use Rattle.std.proofs.Common.{Option, ap, sym, subst}
use Rattle.std.specs.Prelude.{option_map}
use Rattle.pm_types.specs.Mapped.{mapped}
use Rattle.pm_shadow.specs.Pages.{state, disk_of}
use Rattle.pm_space.specs.Shown.{car_of}
use Rattle.pm_view.specs.View.{Cars}
use Rattle.pm_saving.specs.Tied.{IsTied}
use Rattle.pm_save.specs.Shown.{frozen_of, saving}
use Rattle.pm_save.specs.Writer.Shown.{writing}
use Rattle.pm_save.proofs.WriterLemmas.FrozenCars.{with_cars}
use Rattle.pm_save.proofs.saver.Saver.settle.Goals as goal

pub settle_from-requires : goal.settle_from-requires
settle_from-requires g c =
    record { tied = with_cars (saving c.args.self.now) (frozen_of c.args.space.now.parts) (state c.args.pages.now) (g.D.Disk.contents (disk_of c.args.pages.now)) c.requires.tied c.requires.begun }

pub returns-clause-tied : goal.returns-clause-tied
returns-clause-tied g c =
    subst (λ (frozen : Option Cars). IsTied (writing c.settle_from.new.self) frozen (state c.settle_from.new.pages) (g.D.Disk.contents (disk_of c.settle_from.new.pages))) (sym (ap (option_map (mapped car_of)) c.thaw.ensures.frozen))
    c.in_ok-number.ensures.tied
