-- Cars that have links.
use Rattle.std.proofs.Common.{◌≡◌, ℕ, ap, sym, ◌∙◌, is_some}
use Rattle.std.specs.Ordering.{nat_cmp}
use Rattle.std.specs.FinMap.{get}
use Rattle.pm_types.proofs.Mapped.{get-mapped}
use Rattle.pm_trains.specs.Trains.{train_of}
use Rattle.pm_view.specs.View.{SpaceView}
use Rattle.pm_space.specs.Linked.{Linked, set_of, sets_of}
use Rattle.pm_space.specs.Shown.{IsLinked}
use Rattle.pm_space.proofs.OpenedCars.{mapped_some}

-- a car that stands has links, and one that has is in a train
pub links_of : (v : SpaceView) (links : Linked) → v.sets ≡ sets_of links → IsLinked v → (car : ℕ) → is_some (get links car) ≡ is_some (train_of v.trains.trains car)
links_of v links is linked car =
    sym (mapped_some set_of (get links car)) ∙ sym (ap is_some (get-mapped nat_cmp set_of links car)) ∙ ap (λ s. is_some (get s car)) (sym is) ∙ linked.sets car ∙ sym (linked.trains car)
