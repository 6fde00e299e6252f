use Rattle.std.proofs.Common.{Option, ap, sym, subst}
use Rattle.std.specs.Prelude.{option_map}
use Rattle.pm_types.specs.Mapped.{mapped}
use Rattle.pm_shadow.specs.Pages.{state, disk_of}
use Rattle.pm_space.specs.Shown.{car_of}
use Rattle.pm_view.specs.View.{Cars}
use Rattle.pm_saving.specs.Tied.{IsTied}
use Rattle.pm_save.specs.Shown.{frozen_of}
use Rattle.pm_save.specs.Writer.Shown.{writing}
use Rattle.pm_save.proofs.saver.Saver.drop_copy.Goals as goal

pub returns-clause-tied : goal.returns-clause-tied
returns-clause-tied g c =
    subst (λ (frozen : Option Cars). IsTied (writing c.drop_copy-number.new.self) frozen (state c.drop_copy-number.new.pages) (g.D.Disk.contents (disk_of c.drop_copy-number.new.pages))) (sym (ap (option_map (mapped car_of)) c.thaw.ensures.frozen))
    (c.drop_copy-number.ensures.tied (frozen_of c.args.space.now.parts) c.requires.tied)
