-- Runs of calls that only look at a store.
use Rattle.std.proofs.Common.{ap, ◌∙◌}
use Rattle.pm_disk.specs.declared.disk.Disk.{Ghosts}
use Rattle.pm_shadow.specs.declared.pages.Pages.{Pages}
use Rattle.pm_shadow.specs.State.{State}
use Rattle.pm_shadow.specs.Pages.{disk_of}
use Rattle.pm_shadow.proofs.RunLemmas.{looks_then}
use Rattle.pm_graphs.specs.Reading.{Looked}

module _ {D : Type 0} {g : Ghosts D} where
  -- one run behind another
  pub looked_then : (old mid new : Pages D g) → Looked old mid → Looked mid new → Looked old new
  looked_then old mid new one two = record {
    same = two.same ∙ one.same;
    looks = looks_then g.contents g.image g.moment g.since (disk_of old) (disk_of mid) (disk_of new) one.looks two.looks;
    made = λ fine. two.made (ap (λ (s : State). s.failed) one.same ∙ fine) ∙ one.made fine;
  }
