use Rattle.std.proofs.Common.{subst}
use Rattle.pm_shadow.proofs.pages.Pages.attach.Goals as goal

pub returns-in-Ok-clause-only : goal.returns-in-Ok-clause-only
returns-in-Ok-clause-only g c bytes told left now =
    (c.in-Ok.ensures.found bytes told).only left (subst (λ (disk : g.row.D.Denot). g.D.Disk.image disk left) c.found.ensures.disk now)
