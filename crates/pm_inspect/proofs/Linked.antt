-- What is linked to a car, as its view shows it.
use Rattle.std.proofs.Common.{◌≡◌, ℕ, [], Option, ap, sym, ◌∙◌, length}
use Rattle.std.specs.Ordering.{nat_cmp}
use Rattle.std.specs.Option.{unwrap_or, option_map}
use Rattle.std.specs.FinMap.{get, len, empty}
use Rattle.pm_types.proofs.Mapped.{get-mapped}
use Rattle.pm_space.specs.declared.links.Links.{Links}
use Rattle.pm_space.specs.Linked.{Linked, set_of, queue_of, sets_of, queues_of}

-- how much the remembered set of a car has
pub set_there : (links : Linked) (car : ℕ) (found : Option Links) → found ≡ get links car → len (unwrap_or (get (sets_of links) car) empty) ≡ len (unwrap_or (option_map set_of found) empty)
set_there links car found is = ap (λ o. len (unwrap_or o empty)) (get-mapped nat_cmp set_of links car ∙ ap (option_map set_of) (sym is))

-- how much the queue of a car has
pub queue_there : (links : Linked) (car : ℕ) (found : Option Links) → found ≡ get links car → length (unwrap_or (get (queues_of links) car) []) ≡ length (unwrap_or (option_map queue_of found) [])
queue_there links car found is = ap (λ o. length (unwrap_or o [])) (get-mapped nat_cmp queue_of links car ∙ ap (option_map queue_of) (sym is))
