use Rattle.std.proofs.Common.{refl, subst, List, ◌++◌, map, take}
use Rattle.pm_image.specs.declared.catalog.CatEntry.{CatEntry}
use Rattle.pm_save.specs.Progress.Counted.{IsCounted, drafted}
use Rattle.pm_save.proofs.ProgressLemmas.CountLemmas.{entries_more}
use Rattle.pm_save.proofs.progress.cuts.Counter.put_cars.Goals as goal

pub loop-car-preserved : goal.loop-car-preserved
loop-car-preserved c met had =
    let cars = c.args.cars.now in
    let i = c.loop-car._car-index in
    subst (λ (es : List CatEntry). IsCounted es c.put.new.self) (entries_more drafted met cars i c._car-item.result c.loop-car-test.true c._car-item.is)
    (c.in_ok-put.ensures (drafted c._car-item.result) refl (met ++ map drafted (take i cars)) (c.loop-car.invariant met had))
