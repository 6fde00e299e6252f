use Rattle.pm_disk.specs.Disk.{Passes}
use Rattle.pm_disk.proofs.RunLemmas.{started, goes_on, joined, weaker}
use Rattle.pm_disk.proofs.law.runs_are_joined.Goals as goal

pub returns-clause-started : goal.returns-clause-started
returns-clause-started g c old p here = started g.D.Disk.moment g.D.Disk.since old (Passes p) here

pub returns-clause-goes_on : goal.returns-clause-goes_on
returns-clause-goes_on g c old mid new p so_far time here =
    goes_on g.D.Disk.moment g.D.Disk.since old mid new (Passes p) (g.D.Disk.image new) so_far time here

pub returns-clause-joined : goal.returns-clause-joined
returns-clause-joined g c old mid new p one two = joined g.D.Disk.moment g.D.Disk.since old mid new (Passes p) one two

pub returns-clause-weaker : goal.returns-clause-weaker
returns-clause-weaker g c old new p q so_far goes = weaker g.D.Disk.moment g.D.Disk.since old new (Passes p) (Passes q) so_far goes
