use Rattle.pm_ship.proofs.HistoryLemmas.{has_settled}
use Rattle.pm_ship.proofs.history.a_standby_has_a_settled_copy.Goals as goal

pub returns : goal.returns
returns g c start end calls made ships =
    has_settled g.D.Disk g.E.Disk (λ disk t bytes le left. g.met.E.Disk.counts_now disk t bytes le left) (λ disk bytes told. g.met.E.Disk.contents_stay disk bytes told) start
    (λ image left. g.met.E.Disk.only_now start image left) end calls made ships
