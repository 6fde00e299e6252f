use Rattle.std.proofs.Common.{subst}
use Rattle.pm_runs.specs.declared.ends.ended.Detail.{Detail}
use Rattle.pm_image.specs.Blank.{blank_store}
use Rattle.pm_ship.proofs.HistoryLemmas.{has_settled_at_last}
use Rattle.pm_top.specs.Stores.{LeavesMade}
use Rattle.pm_top.proofs.laws.a_standby_that_was_made_has_a_settled_copy.Goals as goal

pub returns : goal.returns
returns g c empty source sink made bytes end commands told store fine are =
    let makes = subst (λ (detail : Detail). LeavesMade g.E.Disk empty made.disk detail) fine store.makes bytes told in
    has_settled_at_last g.D.Disk g.E.Disk (λ disk t bytes le left. g.met.E.Disk.counts_now disk t bytes le left) (λ disk bytes told. g.met.E.Disk.contents_stay disk bytes told) made.disk
    (λ image left. g.met.E.Disk.only_now made.disk image left) blank_store makes.1 makes.2 end commands are
