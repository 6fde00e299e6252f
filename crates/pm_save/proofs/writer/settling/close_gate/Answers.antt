use Rattle.pm_shadow.specs.Pages.{state, disk_of}
use Rattle.pm_save.proofs.WriterLemmas.FlushLemmas.{holds_now}
use Rattle.pm_save.proofs.WriterLemmas.GateLemmas.{closes_by, shut_by}
use Rattle.pm_save.proofs.writer.settling.close_gate.Goals as goal

pub returns-clause-written : goal.returns-clause-written
returns-clause-written g c =
    let it = c.args.pages.now in
    shut_by g.D.Disk.contents (state it) it.disk (disk_of c.close_gate.new.self) c.close_gate.ensures.still c.in_ok-close_gate.ensures.written

pub returns-clause-closes : goal.returns-clause-closes
returns-clause-closes g c =
    let it = c.args.pages.now in
    let new = disk_of c.close_gate.new.self in
    let done = c.in_ok-close_gate.ensures in
    closes_by g.D.Disk.contents (state it) it.disk new c.close_gate.ensures.still done.written
    (holds_now g.D.Disk.contents g.D.Disk.image g.D.Disk.moment g.D.Disk.since (state it) it.disk new c.close_gate.ensures.leaves (g.met.D.Disk.contents_stay new) (g.met.D.Disk.counts_now new))
