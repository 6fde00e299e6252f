use Rattle.pm_layout.proofs.HeaderLaws.{spelled_length}
use Rattle.pm_shadow.specs.Pages.{state, disk_of}
use Rattle.pm_save.proofs.WriterLemmas.GateLemmas.{publishes_by}
use Rattle.pm_save.proofs.writer.settling.publish.Goals as goal

pub returns-clause-publishes : goal.returns-clause-publishes
returns-clause-publishes g c =
    let it = c.args.pages.now in
    let done = c.in_ok-publish.ensures in
    publishes_by g.D.Disk.contents (state it) c.args.header.now it.disk (disk_of c.publish.new.self) (spelled_length c.args.header.now c.known.ensures) done.written done.renews
