use Rattle.pm_law_young.proofs.laws.an_escape_changes_no_world.Goals as goal
use Rattle.pm_nursery.proofs.Sound.{nursery_after}
use Rattle.pm_law_young.proofs.Carrying.{world_after}

pub returns-clause-world : goal.returns-clause-world
returns-clause-world c = λ within world later nursery after ids is sound young apart comes goes.
    world_after nursery after ids sound apart goes within world later is young comes

pub returns-clause-nursery : goal.returns-clause-nursery
returns-clause-nursery c = λ nursery after ids sound apart goes. nursery_after nursery after ids sound apart goes
