use Rattle.std.proofs.Common.{ℕ, ◌==◌, Some, None, if◌then◌else◌, ap, ◌∙◌}
use Rattle.std.specs.Ordering.{nat_cmp}
use Rattle.std.specs.BTreeMap as tree
use Rattle.pm_image.specs.declared.car.CarImage.{CarImage}
use Rattle.pm_image.specs.declared.settled.KeptPage.{KeptPage}
use Rattle.pm_save.specs.Writer.Planned.{first_of}
use Rattle.pm_save.proofs.WriterLemmas.PlaceLemmas.{index_more}
use Rattle.pm_save.proofs.clean.index_of.Goals as goal

pub loop-place-preserved : goal.loop-place-preserved
loop-place-preserved c number =
    c.in_ok-note.ensures number
    ∙ ap (λ (of : ℕ). first_of (tree.get nat_cmp c.loop-place.index number) (if of == number then Some c.loop-place.place else None)) (c.number.ensures ∙ ap (λ (car : CarImage). car.number) c.car.ensures ∙ ap (λ (kept : KeptPage). kept.image.number) c.index-settled-place.is)
    ∙ index_more number c.args.settled.now c.loop-place.place c.index-settled-place.result _ c.loop-place-test.true (c.loop-place.invariant number)
