use Rattle.std.proofs.Common.{◌∙◌}
use Rattle.pm_save.proofs.WriterLemmas.PlaceLemmas.{index_more}
use Rattle.pm_ship.proofs.index.index_of.Goals as goal

pub loop-place-preserved : goal.loop-place-preserved
loop-place-preserved c number =
    c.in_ok-note.ensures number
    ∙ index_more number c.args.cars.now c.loop-place.place c.index-cars-place.result _ c.loop-place-test.true (c.loop-place.invariant number)
