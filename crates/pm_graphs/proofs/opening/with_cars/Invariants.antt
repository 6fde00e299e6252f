use Rattle.std.proofs.Common.{◌≡◌, ◌++◌, map, take}
use Rattle.pm_image.specs.declared.settled.KeptPage.{KeptPage}
use Rattle.pm_graphs.proofs.opening.with_cars.Given as goal

abbrev pub invariant-loop-kept : goal.invariant-loop-kept
invariant-loop-kept l = l.used.items ≡ l.fn.numbers.items ++ map (λ (kept : KeptPage). kept.page) (take l.kept-index l.cars)
