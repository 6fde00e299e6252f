use Rattle.std.proofs.Common.{refl, []}
use Rattle.pm_save.proofs.progress.cuts.Counter.new.Goals as goal

pub returns : goal.returns
returns c = record { pages = []; last = []; cut = c.cutting_goes_on_at_the_last_page.ensures.begins; counts = c.new.ensures.items; count = refl; used = refl }
