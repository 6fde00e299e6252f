-- A plan of a space is one of a store, and is its world's copy.
use Rattle.std.proofs.Common.{◌≡◌, ℕ, ◌≤◌, ◌^◌, List, [], ◌∷◌, map, Ok, refl, sym, ap, subst, ◌∙◌}
use Rattle.std.specs.List.{AllByRecursion}
use Rattle.pm_types.specs.declared.limits.TheConstants.{FIELDS}
use Rattle.pm_types.specs.declared.object.Slot.{Slot}
use Rattle.pm_layout.specs.Spelling.{HasSpelling, IsWithinLimits}
use Rattle.pm_model.specs.World.{World}
use Rattle.pm_model.specs.Copying.{copy}
use Rattle.pm_image.specs.declared.catalog.CatEntry.{CatEntry}
use Rattle.pm_image.specs.Opening.{Current, current, page_count}
use Rattle.pm_image.specs.Stands.{StandsForCopy, pages_of}
use Rattle.pm_view.specs.View.{SpaceView}
use Rattle.pm_view.specs.Law.{HeapLaw}
use Rattle.pm_view.specs.Represents.{Represents}
use Rattle.pm_copies.specs.Listed.{Listed, copy_listed, images, listed, root_entries}
use Rattle.pm_copies.specs.Accepted.{IsAccepted, IsAcceptedCar}
use Rattle.pm_law_copies.proofs.Accepting.{accepted}
use Rattle.pm_law_copies.proofs.CopyOf.{worlds_copy}
use Rattle.pm_law_copies.proofs.GraphsLemmas.Lists.{all_follow}
use Rattle.pm_copies.specs.Plans.{CarInTrain, CarPlan, cars_in, graph_of_plan, in_list, planned_list, planned_roots}
use Rattle.pm_copies.specs.Laid.{HasFewFields, IsPlanInRange, IsLaidBehind, IsStorePlan, IsSpacePlan}
use Rattle.pm_law_copies.proofs.LayoutLemmas.Planned.{kept_of, plan_copy}
use Rattle.pm_law_copies.proofs.LayoutLemmas.Again.{laid_opened}

few_fields : (cars : List CarInTrain) → AllByRecursion IsAcceptedCar (images (map in_list cars)) → AllByRecursion (HasFewFields FIELDS) (kept_of cars)
few_fields [] are = tt
few_fields (car ∷ cars) are =
    (all_follow (λ (entry : ℕ × Slot). HasSpelling FIELDS entry.1) (λ (entry : ℕ × Slot). IsWithinLimits FIELDS entry.1) car.1.image.slots (λ entry has. has.within) are.0.slots, few_fields cars are.1)

pub space_of_store : (view : SpaceView) (plan : CarPlan) → HeapLaw view → IsSpacePlan view plan → IsPlanInRange plan → IsStorePlan view.next FIELDS plan
space_of_store view plan law is range =
    let of_view = accepted view law in
    let of_plan : IsAccepted (planned_list plan) (planned_roots plan) view.next =
    subst (λ (list : List Listed). IsAccepted list (planned_roots plan) view.next) (sym is.cars)
    (subst (λ (roots : List CatEntry). IsAccepted (listed view) roots view.next) (sym is.roots) of_view) in
    record { accepted = of_plan; fields = few_fields (cars_in plan) of_plan.cars; in_range = range }

pub space_stands : (view : SpaceView) (world : World) (plan : CarPlan) (bytes : List ℕ) (now : Current) → HeapLaw view → Represents view world → IsSpacePlan view plan → page_count bytes ≤ 2 ^ 64
    → current bytes ≡ Ok now → now.header.next ≡ view.next → IsLaidBehind (pages_of bytes) now.header plan → StandsForCopy bytes now.header.epoch (copy world)
space_stands view world plan bytes now law represents is few current next laid = record {
  found = record { current = now; graph = graph_of_plan plan };
  is_found = laid_opened bytes now plan few current laid;
  is_number = refl;
  is_copy = worlds_copy view law world represents
      ∙ sym (ap (λ (list : List Listed). copy_listed list (root_entries view) view.next) is.cars)
      ∙ sym (ap (λ (roots : List CatEntry). copy_listed (planned_list plan) roots view.next) is.roots)
      ∙ sym (ap (copy_listed (planned_list plan) (planned_roots plan)) next)
      ∙ sym (plan_copy plan now.header.next laid.listed);
}
