-- The registers that a command sets are none, one, or all of its client.
use Rattle.std.proofs.Common.{◌≡◌, ℕ, Bool, true, false, cond, not, ◌&&◌, nat_eq, Option, None, refl, sym, ap, ◌∙◌, arith}
use Rattle.std.specs.Ordering.{eq_by_cmp}
use Rattle.std.specs.FinMap.{get, remove, retain_keys, get-remove, same_map}
use Rattle.std.proofs.lemmas.Bool.Decides.{nat_tests}
use Rattle.pm_types.specs.Orders.{place_cmp}
use Rattle.pm_types.proofs.Orders.{places_total, places_antisymmetric}
use Rattle.pm_model.specs.World.{Registers}
use Rattle.pm_model.proofs.Maps.{retain_get}

-- none is taken away
pub unset_none : (registers : Registers) → retain_keys registers (λ place. true) ≡ registers
unset_none registers = same_map places_total places_antisymmetric _ _ (λ q. retain_get places_total places_antisymmetric registers (λ place. true) q)

turned : (b : Bool) (found : Option ℕ) → cond (not b) found None ≡ cond b None found
turned true found = refl
turned false found = refl

same_place : (reg client d s : ℕ) → (nat_eq reg s && nat_eq d client) ≡ eq_by_cmp place_cmp (d, s) (client, reg)
same_place reg client d s = grind (arith, nat_tests)

-- one is
pub unset_one : (registers : Registers) (client reg : ℕ) → retain_keys registers (λ place. not (nat_eq reg place.1 && nat_eq place.0 client)) ≡ remove registers (client, reg)
unset_one registers client reg =
    same_map places_total places_antisymmetric _ _ (λ q.
    retain_get places_total places_antisymmetric registers (λ place. not (nat_eq reg place.1 && nat_eq place.0 client)) q
    ∙ turned (nat_eq reg q.1 && nat_eq q.0 client) (get registers q)
    ∙ ap (λ b. cond b None (get registers q)) (same_place reg client q.0 q.1)
    ∙ sym (get-remove places_total registers (client, reg) q))
