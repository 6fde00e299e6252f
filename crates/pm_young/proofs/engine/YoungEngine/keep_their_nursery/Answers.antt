use Rattle.std.proofs.Math.Logic.{∥∥₁_map}
use Rattle.pm_law_young.proofs.Owned.{registers_young}
use Rattle.pm_saving.specs.Serving.{world}
use Rattle.pm_young.specs.Seen.{serving}
use Rattle.pm_young.proofs.engine.YoungEngine.keep_their_nursery.Goals as goal

pub returns : goal.returns
returns g c = λ running.
    let it = c.args.self.now in
    ∥∥₁_map (it.within running) (λ stands. record {
      objects = stands.young.young;
      registers = registers_young stands.within (world (serving it)) it.nursery stands.young c.sound.ensures;
    })
