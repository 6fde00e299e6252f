use Rattle.std.proofs.Common.{refl}
use Rattle.pm_engine.specs.Works.Working.{disk_at}
use Rattle.pm_engine.proofs.works.works.Works.flush.Goals as goal
use Rattle.pm_engine.proofs.WorksLemmas.Headers.{flushed_header}
use Rattle.pm_engine.proofs.WorksLemmas.Kept.{spares_still}

pub returns-then-is_none-clause-spares : goal.returns-then-is_none-clause-spares
returns-then-is_none-clause-spares g c =
    let old = c.args.self.now in
    spares_still old old (g.met.D.Disk.only_now (disk_at old)) refl c.requires.tied.sound

pub returns-clause-lasts : goal.returns-clause-lasts
returns-clause-lasts g c = record { header = flushed_header _ _ _ _ _ _ _ c.in_ok-flushed.flushed c.in_ok-flushed.ensures.flushed; has = c.in_ok-flushed.ensures.has }
