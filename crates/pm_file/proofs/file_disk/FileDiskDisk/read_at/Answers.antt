use Rattle.std.proofs.Common.{ap, length}
use Rattle.pm_disk.specs.Made.{numbers}
use Rattle.pm_file.proofs.Times.{missed_elapses, called_elapses}
use Rattle.pm_file.proofs.file_disk.FileDiskDisk.read_at.Goals as goal

pub returns-in_err-reach-clause-time : goal.returns-in_err-reach-clause-time
returns-in_err-reach-clause-time g c =
    missed_elapses _ _ _ c.args.self.now.file c.reach.new.self.file _ _ (ap (λ marks. length (numbers marks)) c.in_err-reach.ensures.marked) c.in_err-reach.ensures.missed c.reach.ensures.since

pub returns-clause-time : goal.returns-clause-time
returns-clause-time g c =
    called_elapses _ _ _ c.args.self.now.file c.reach.new.self.file c.in-Some.held _ _ (ap (λ marks. length (numbers marks)) c.in_ok-reach.ensures.marked) c.in-Some.is c.reach.ensures.since c.read_from-outcome.ensures.time
