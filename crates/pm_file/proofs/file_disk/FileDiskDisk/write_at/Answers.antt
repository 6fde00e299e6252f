use Rattle.std.proofs.Common.{ap, length}
use Rattle.pm_disk.specs.Made.{numbers}
use Rattle.pm_file.proofs.Times.{missed_elapses, called_elapses, torn_same, on_ok, held_left}
use Rattle.pm_file.proofs.file_disk.FileDiskDisk.write_at.Goals as goal

pub returns-in_err-reach-clause-time : goal.returns-in_err-reach-clause-time
returns-in_err-reach-clause-time g c =
    missed_elapses _ _ _ c.args.self.now.file c.reach.new.self.file _ _ (ap (λ marks. length (numbers marks)) c.in_err-reach.ensures.marked) c.in_err-reach.ensures.missed c.reach.ensures.since

pub returns-clause-time : goal.returns-clause-time
returns-clause-time g c =
    called_elapses _ _ _ c.args.self.now.file c.reach.new.self.file c.in-Some.held _ _ (ap (λ marks. length (numbers marks)) c.in_ok-reach.ensures.marked) c.in-Some.is c.reach.ensures.since c.write_over-outcome.ensures.time

pub returns-in_err-reach-clause-only_torn : goal.returns-in_err-reach-clause-only_torn
returns-in_err-reach-clause-only_torn g c = torn_same _ _ c.reach.ensures.images

pub returns-clause-all_torn : goal.returns-clause-all_torn
returns-clause-all_torn g c =
    on_ok c.write_over-outcome.result c.counted.result c.counted.ensures.same
    (λ all was image is torn bytes. all was image ((held_left _ _ _ c.args.self.now.file c.reach.new.self.file c.in-Some.held c.in-Some.is c.reach.ensures.images).no_fewer was is) torn bytes)
    c.write_over-outcome.ensures.all_torn
