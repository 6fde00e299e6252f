use Rattle.std.proofs.Common.{sym, ◌∙◌, subst}
use Rattle.pm_space.specs.Shown.{view}
use Rattle.pm_engine.specs.Works.Working.{disk_at, view_in}
use Rattle.pm_engine.proofs.WorksLemmas.Counts.{counted_first}
use Rattle.pm_nursery.specs.Young.{NurseryView, no_nursery}
use Rattle.pm_young.specs.Entering.{KeepsEntered}
use Rattle.pm_young.specs.Kept.{StandsYoung}
use Rattle.pm_young.proofs.Opened.{keeps_begun, within_begun}
use Rattle.pm_young.proofs.engine.YoungEngine.open_young.Goals as goal

pub invariant_of-result : goal.invariant_of-result
invariant_of-result g c =
    let begun = c.in_ok-opening in
    let opened = view begun.opening.space.value.parts in
    record {
      safe = begun.ensures.safe;
      within = λ running. subst (λ (n : NurseryView). ∥ StandsYoung begun.opening begun.works n ∥₁) (sym c.new.ensures) (within_begun begun.opening begun.works begun.ensures.begins begun.ensures.safe begun.ensures.represents);
      comes_in = subst (λ n. ∥ KeepsEntered opened (view_in begun.works) n c.new-2.result.items ∥₁) (sym c.new.ensures)
          (subst (λ xs. ∥ KeepsEntered opened (view_in begun.works) no_nursery xs ∥₁) (sym c.new-2.ensures.items) (keeps_begun begun.opening begun.works begun.ensures.begins));
      counted = counted_first begun.opening.count (g.D.Disk.count (disk_at begun.works)) (begun.ensures.count.1 ∙ sym begun.ensures.count.0);
      whole = begun.ensures.past;
    }
