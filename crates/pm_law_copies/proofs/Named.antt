-- The roots that opening makes stand in the order of their names.
use Rattle.std.proofs.Common.{◌≡◌, ℕ, true, T, refl, subst, sym, List, [], ◌∷◌, map, Option, Some}
use Rattle.std.specs.declared.cmp.Ordering.{Ordering}
use Rattle.std.specs.declared.cmp.Ordering.TheVariants.{Less, Equal, Greater}
use Rattle.std.specs.Ordering.{is_lt}
use Rattle.std.specs.FinMap.Entries.{below_all, is_sorted}
use Rattle.pm_types.specs.Orders.{name_cmp}
use Rattle.pm_types.proofs.Orders.{names_total}
use Rattle.pm_types.specs.declared.address.Addr.{Addr}
use Rattle.pm_image.specs.declared.car.CarImage.{CarImage}
use Rattle.pm_image.specs.declared.catalog.CatEntry.{CatEntry}
use Rattle.pm_image.specs.declared.catalog.CatEntry.TheVariants as kinds
use Rattle.pm_copies.specs.Accepted.{NamesAscend, roots_in}
use Rattle.pm_copies.specs.Opened.{opened_root}
use Rattle.pm_law_copies.proofs.OpenedCars.{both}

pub is_less : (r : Ordering) → is_lt r ≡ true → r ≡ Less
is_less Less is = refl
is_less Equal is = cc
is_less Greater is = cc

pub less_lt : (r : Ordering) → r ≡ Less → T (is_lt r)
less_lt r is = subst (λ r. T (is_lt r)) (sym is) tt

-- ---- roots in order

module _ (cars : List CarImage) where
  abbrev pub named : List CatEntry → List (List ℕ × Addr)
  named catalog = map (opened_root cars) (roots_in catalog)

  names_below : (p q : List ℕ) (catalog : List CatEntry) → name_cmp p q ≡ Less → NamesAscend (Some q) catalog → T (below_all name_cmp p (named catalog))
  names_below p q [] less ascend = tt
  names_below p q (kinds.Car car train page digest ∷ catalog) less ascend = names_below p q catalog less ascend
  names_below p q (kinds.Root name at ∷ catalog) less ascend =
      let further = names_total.trans p q name less (is_less (name_cmp q name) ascend.0) in
      both _ _ (less_lt (name_cmp p name) further) (names_below p name catalog further ascend.1)

  first_below : (q : List ℕ) (catalog : List CatEntry) → NamesAscend (Some q) catalog → T (below_all name_cmp q (named catalog))
  first_below q [] ascend = tt
  first_below q (kinds.Car car train page digest ∷ catalog) ascend = first_below q catalog ascend
  first_below q (kinds.Root name at ∷ catalog) ascend =
      let less = is_less (name_cmp q name) ascend.0 in
      both _ _ (less_lt (name_cmp q name) less) (names_below q name catalog less ascend.1)

  pub named_sorted : (before : Option (List ℕ)) (catalog : List CatEntry) → NamesAscend before catalog → T (is_sorted name_cmp (named catalog))
  named_sorted before [] ascend = tt
  named_sorted before (kinds.Car car train page digest ∷ catalog) ascend = named_sorted before catalog ascend
  named_sorted before (kinds.Root name at ∷ catalog) ascend = both _ _ (first_below name catalog ascend.1) (named_sorted (Some name) catalog ascend.1)
