use Rattle.std.proofs.Common.{ap, ◌∙◌}
use Rattle.pm_image.specs.declared.settled.KeptPage.{KeptPage}
use Rattle.pm_save.specs.Progress.Noted.{with_written}
use Rattle.pm_save.proofs.ProgressLemmas.NotedCar.{set_written}
use Rattle.pm_save.proofs.progress.written.note_car.Goals as goal

pub returns-clause-cars : goal.returns-clause-cars
returns-clause-cars c =
    set_written c.args.it.now.placed c.new.result c.args.it.now.cars.items c.index_mut.result.now c.requires c.index_mut.ensures.value
    ∙ ap (λ (kept : KeptPage). with_written c.args.it.now.placed kept c.args.it.now.cars.items) c.new.ensures
