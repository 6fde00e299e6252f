-- What a logbook keeps, which holds as soon as it is known that it holds in some way.
use Rattle.std.proofs.Common.{◌≡◌, ℕ, ◌+◌, ◌<◌, ◌≤◌, ◌^◌, List, [], length, Option, Some, None}
use Rattle.std.specs.List.{AllByRecursion, AllByRecursion-prop}
use Rattle.std.proofs.Math.Logic.{∥∥₁_map}
use Rattle.std.proofs.Props.{props}
use Rattle.pm_disk.specs.declared.disk.Disk.{Ghosts}
use Rattle.pm_law_saving.proofs.ServingLemmas.Splitting.{splits_once}
use Rattle.pm_engine.specs.declared.engine.Engine.{Engine}
use Rattle.pm_engine.specs.Shown.{disk_in, past_of, serving}
use Rattle.pm_engine.specs.Events.Events.{FitsLine}
use Rattle.pm_engine.proofs.WorksLemmas.Counts.{splits_rose}
use Rattle.pm_engine.proofs.EventsLemmas.Lines.{told_once}
use Rattle.pm_engine.proofs.WorksLemmas.Whole.{none_known}
use Rattle.pm_seats.specs.Kept.{IsPaired, KeepsLogbook, StopsNow}

number_once : (a b : ℕ) → IsProp (a ≡ b)
number_once a b = hlevel props

below_once : (a b : ℕ) → IsProp (a < b)
below_once a b = hlevel props

within_once : (a b : ℕ) → IsProp (a ≤ b)
within_once a b = hlevel props

drawn_once : (next : ℕ) (callers : List ℕ) → IsProp (AllByRecursion (λ number. number < next) callers)
drawn_once next callers = AllByRecursion-prop (λ number. number < next) (λ number. below_once number next) callers

splits_stopped : (stopped : Option ℕ) (first now : ℕ) → ∥ StopsNow stopped first now ∥₁ → StopsNow stopped first now
splits_stopped None first now known = tt
splits_stopped (Some count) first now known = (splits_once (number_once count now) (∥∥₁_map known (λ is. is.0)), splits_rose first now (∥∥₁_map known (λ is. is.1)))

module _ {D : Type 0} {F : Type 0} {g : Ghosts D} (first now : Engine D F g) (callers : List ℕ) (next : ℕ) (kept : ∥ KeepsLogbook first now callers next ∥₁) where
  pub known_paired : IsPaired callers (serving now).journal next
  known_paired = record {
    each = splits_once (number_once _ _) (∥∥₁_map kept (λ is. is.paired.each));
    drawn = splits_once (drawn_once next callers) (∥∥₁_map kept (λ is. is.paired.drawn));
    some = splits_once (below_once _ _) (∥∥₁_map kept (λ is. is.paired.some));
  }

  pub known_whole : past_of now ≡ []
  known_whole = none_known (past_of now) (∥∥₁_map kept (λ is. is.whole))

  pub known_stopped : StopsNow (serving now).stopped (g.count (disk_in first)) (g.count (disk_in now))
  known_stopped = splits_stopped (serving now).stopped (g.count (disk_in first)) (g.count (disk_in now)) (∥∥₁_map kept (λ is. is.stopped))

  pub known_counted : length (serving now).journal + (serving now).steps ≤ (serving now).events
  known_counted = splits_once (within_once _ _) (∥∥₁_map kept (λ is. is.counted))

  pub known_few : (serving now).events < 2 ^ 50
  known_few = splits_once (below_once _ _) (∥∥₁_map kept (λ is. is.few))

  pub known_lines : AllByRecursion FitsLine (serving now).journal
  known_lines = splits_once (told_once _) (∥∥₁_map kept (λ is. is.lines))
