-- A copy of a space begins.
use Rattle.std.proofs.Common.{◌≡◌, ℕ, ap, subst, sym, ◌∙◌, List, map, Option, Some}
use Rattle.std.specs.Prelude.{IfSome}
use Rattle.std.specs.FinMap.{entries}
use Rattle.pm_types.specs.declared.address.Addr.{Addr}
use Rattle.pm_view.specs.View.{Cars, SpaceView}
use Rattle.pm_view.specs.Law.{HeapLaw}
use Rattle.pm_copies.specs.Listed.{copy_in, listed}
use Rattle.pm_copies.specs.Accepted.{IsAccepted}
use Rattle.pm_copies.specs.Opened.{unnumbered}
use Rattle.pm_copies.specs.Plans.{root_entry}
use Rattle.pm_law_saving.proofs.Begun.{view_accepted}
use Rattle.pm_saving.specs.Progress.{Progress, Saving, copy_of, cars_or_none}
use Rattle.pm_saving.specs.Beginning.{Begins}

-- it is the copy in the space then, by the cars that are frozen
pub copy_then : (old new : Saving) (view : SpaceView) (number : ℕ) (frozen : Option Cars) → (begins : Begins old new view number) → frozen ≡ Some view.cars → copy_of view.cars begins.begun ≡ copy_in view
    → IfSome new.progress (λ (progress : Progress). copy_of (cars_or_none frozen) progress ≡ copy_in view)
copy_then old new view number frozen begins is copy =
    subst (λ (p : Option Progress). IfSome p (λ (progress : Progress). copy_of (cars_or_none frozen) progress ≡ copy_in view)) (sym begins.now)
    (ap (λ (cars : Option Cars). copy_of (cars_or_none cars) begins.begun) is ∙ copy)

-- its list is one that no rule refuses
pub accepted_roots : (view : SpaceView) (names : List (List ℕ × Addr)) → names ≡ map unnumbered (entries view.roots) → HeapLaw view → IsAccepted (listed view) (map root_entry names) view.next
accepted_roots view names is law = subst (λ (names : List (List ℕ × Addr)). IsAccepted (listed view) (map root_entry names) view.next) (sym is) (view_accepted view law)
