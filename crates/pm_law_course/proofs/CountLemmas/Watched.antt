-- The numbers that a watch notes are far below the greatest of their widths.
use Rattle.std.proofs.Common.{◌≡◌, ◌≤◌, ◌+◌, ◌-◌, ◌*◌, min, ℕ, length, arith}
use Rattle.std.proofs.lemmas.Nat.{mul-le}
use Rattle.pm_trains.specs.declared.trains.TheConstants.{BIRTHS}
use Rattle.pm_view.specs.View.{SpaceView}
use Rattle.pm_view.specs.Counts.{standing}
use Rattle.pm_view.specs.Law.{HeapLaw}
use Rattle.pm_view.specs.Watches.{objects_in, greatest_bound, watch_in}
use Rattle.pm_law_course.proofs.CountLemmas.Few.{fewer_than_given, few_trains}

module _ (view : SpaceView) (law : HeapLaw view) where
  -- fewer than 2 ^ 33 objects stand or can be born in the open train
  few_objects : standing view + (BIRTHS - view.trains.births) + 2 ≤ 8589934592
  few_objects =
      let given = fewer_than_given view law in
      let last = law.built.next.1 in
      omega (arith, given, last)

  pub objects_noted : (position : ℕ) → (watch_in view position).objects ≡ standing view + (BIRTHS - view.trains.births)
  objects_noted position = let few = few_objects in omega (arith, few)

  pub bound_noted : (position : ℕ) → (watch_in view position).bound ≡ length view.trains.trains * ((objects_in view + 2) * (objects_in view + 2))
  bound_noted position =
      let few = few_objects in
      let noted = objects_noted position in
      let given = fewer_than_given view law in
      let last = law.built.next.1 in
      let behind = few_trains view law in
      let one : objects_in view + 2 ≤ 8589934592 = omega (arith, few, noted) in
      let many : length view.trains.trains ≤ 8589934592 = omega (arith, behind, given, last) in
      let square = mul-le (objects_in view + 2) (objects_in view + 2) 8589934592 8589934592 one one in
      let all = mul-le (length view.trains.trains) ((objects_in view + 2) * (objects_in view + 2)) 8589934592 73786976294838206464 many square in
      not_over (length view.trains.trains * ((objects_in view + 2) * (objects_in view + 2))) all
    where
      not_over : (n : ℕ) → n ≤ 633825300114114700748351602688 → min n greatest_bound ≡ n
      not_over n few = omega (arith, few)
