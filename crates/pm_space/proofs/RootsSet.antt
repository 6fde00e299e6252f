-- What is seen of the roots where the address under a number was set.
use Rattle.std.proofs.Common.{◌≡◌, ℕ, List, Option, Some, None, refl, sym, ◌∙◌}
use Rattle.std.specs.Option.{option_map}
use Rattle.std.specs.FinMap.{get, same_map}
use Rattle.pm_types.specs.Mapped.{mapped}
use Rattle.pm_types.proofs.Mapped.{get-mapped}
use Rattle.pm_types.specs.declared.address.Addr.{Addr}
use Rattle.pm_types.specs.Orders.{name_cmp}
use Rattle.pm_types.proofs.Orders.{names_total, names_antisymmetric}
use Rattle.pm_roots.specs.Bindings.{Bindings, with_address}
use Rattle.pm_view.specs.Rows.{readdressed}

with_is : (number : ℕ) (at : Addr) (o : Option (ℕ × Addr)) → with_address number at o ≡ option_map (readdressed number at) o
with_is number at None = refl
with_is number at (Some bound) = refl

-- each name has what it had, but for the one of the number
pub readdressed_roots : (old new : Bindings) (number : ℕ) (at : Addr) → ((name : List ℕ) → get new name ≡ with_address number at (get old name)) → new ≡ mapped (readdressed number at) old
readdressed_roots old new number at is =
    same_map names_total names_antisymmetric _ _ (λ q. is q ∙ with_is number at (get old q) ∙ sym (get-mapped name_cmp (readdressed number at) old q))
