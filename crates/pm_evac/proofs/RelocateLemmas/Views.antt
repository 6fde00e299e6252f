-- What is seen of the parts of a space after an event.
use Rattle.std.proofs.Common.{◌≡◌, ℕ, refl, ◌∙◌, List, [], ◌∷◌, Some, Result, Ok, Err, OnOk}
use Rattle.std.specs.Ordering.{nat_cmp}
use Rattle.std.specs.Cmp.{nat_cmp_total}
use Rattle.std.specs.FinMap.{remove, nat_cmp-IsAntisymmetric}
use Rattle.pm_types.proofs.Mapped.{mapped-remove}
use Rattle.pm_types.specs.declared.source.Change.{Change}
use Rattle.pm_types.specs.declared.source.RefSource.{RefSource}
use Rattle.pm_types.specs.declared.address.Addr.{Addr}
use Rattle.pm_trains.specs.Trains.{Trains, without_first}
use Rattle.pm_snap.specs.Snapped.{Snapped, without}
use Rattle.pm_view.specs.View.{Cars, Sets, Queues, SpaceView}
use Rattle.pm_view.specs.Reading.{is_aside}
use Rattle.pm_view.specs.Barrier.{entered, told}
use Rattle.pm_view.specs.Rows.{with_stored}
use Rattle.pm_view.specs.Collecting.{applied_front, fixed, without_car}
use Rattle.pm_space.specs.declared.held.Held.{Held}
use Rattle.pm_space.specs.Linked.{Linked, sets_of, queues_of, with_front, without_front, without_source}
use Rattle.pm_space.specs.Linked as linked
use Rattle.pm_space.specs.Shown.{car_of, cars_of}

-- a remembered set took the front change, and the queue lost it
applied_is : (v : SpaceView) (car : ℕ) (changes : List Change) → record v { sets = with_front v.sets car changes; queues = without_front v.queues car changes } ≡ applied_front v car changes
applied_is v car [] = refl
applied_is v car (change ∷ changes) = refl

pub is_applied : (v : SpaceView) (car : ℕ) (changes : List Change) (sets : Sets) (queues : Queues) → sets ≡ with_front v.sets car changes → queues ≡ without_front v.queues car changes
    → record v { sets = sets; queues = queues } ≡ applied_front v car changes
is_applied v car changes sets queues took lost = (λ i. record v { sets = took i; queues = lost i }) ∙ applied_is v car changes

-- a source stores the new address, the car forgot it, and the new address's car heard of it
pub is_fixed : (v w : SpaceView) (car : ℕ) (source : RefSource) (to : Addr) (sets : Sets) (queues : Queues) → w ≡ with_stored v source (Some to) → sets ≡ without_source v.sets car source
    → queues ≡ told v.queues (entered (is_aside v) source (Some to)) → record w { sets = sets; queues = queues } ≡ fixed v car source to
is_fixed v w car source to sets queues stored forgot heard = λ i. record (stored i) { sets = forgot i; queues = heard i }

-- a car that was taken out, with its links
pub is_without : (v : SpaceView) (train car : ℕ) (cars : Cars) (sets : Sets) (queues : Queues) (trains : Trains) → cars ≡ remove v.cars car → sets ≡ remove v.sets car → queues ≡ remove v.queues car
    → trains ≡ record v.trains { trains = without_first train v.trains.trains } → record v { cars = cars; sets = sets; queues = queues; trains = trains } ≡ without_car v train car
is_without v train car cars sets queues trains cars_are sets_are queues_are trains_are = λ i. record v { cars = cars_are i; sets = sets_are i; queues = queues_are i; trains = trains_are i }

pub cars_without : (table : Snapped Held) (car : ℕ) → cars_of (without table car) ≡ remove (cars_of table) car
cars_without table car = mapped-remove nat_cmp car_of nat_cmp_total nat_cmp-IsAntisymmetric table.current car

pub sets_without : (links : Linked) (car : ℕ) → sets_of (remove links car) ≡ remove (sets_of links) car
sets_without links car = mapped-remove nat_cmp linked.set_of nat_cmp_total nat_cmp-IsAntisymmetric links car

pub queues_without : (links : Linked) (car : ℕ) → queues_of (remove links car) ≡ remove (queues_of links) car
queues_without links car = mapped-remove nat_cmp linked.queue_of nat_cmp_total nat_cmp-IsAntisymmetric links car

-- what follows from what holds where a call ended well
pub on_both : {A E P Q R : Type 0} (r : Result A E) → (P → Q → R) → OnOk r P → OnOk r Q → OnOk r R
on_both (Ok x) f p q = f p q
on_both (Err e) f p q = tt
