-- Names that ascend differ.
use Rattle.std.proofs.Common.{◌≡◌, ℕ, true, List, [], ◌∷◌, map, Option, Some, refl, sym, ap, ◌∙◌}
use Rattle.std.specs.List.{AllByRecursion}
use Rattle.std.specs.Cmp.{eq_by_cmp_equiv}
use Rattle.std.specs.declared.cmp.Ordering.{Ordering}
use Rattle.std.specs.declared.cmp.Ordering.TheVariants.{Less, Equal, Greater}
use Rattle.std.specs.Ordering.{is_lt, is_eq}
use Rattle.pm_types.specs.Orders.{name_cmp}
use Rattle.pm_types.proofs.Orders.{names_total}
use Rattle.pm_types.specs.declared.address.Addr.{Addr}
use Rattle.pm_image.specs.declared.catalog.CatEntry.{CatEntry}
use Rattle.pm_image.specs.declared.catalog.CatEntry.TheVariants as kinds
use Rattle.pm_copies.specs.Accepted.{NamesAscend, roots_in}
use Rattle.pm_graphs.specs.Linking.{Leads}
use Rattle.pm_reopen.specs.Rebuild.Lists.{NamesDiffer}
use Rattle.pm_reopen.specs.Listing.{followed_root}

is_less : (r : Ordering) → is_lt r ≡ true → r ≡ Less
is_less Less is = refl
is_less Equal is = cc
is_less Greater is = cc

-- names that ascend from this one come behind it
later : (name : List ℕ) (entries : List CatEntry) → NamesAscend (Some name) entries → AllByRecursion (λ (root : List ℕ × Addr). name_cmp name root.0 ≡ Less) (roots_in entries)
later name [] ascend = tt
later name (kinds.Car car train page digest ∷ entries) ascend = later name entries ascend
later name (kinds.Root next at ∷ entries) ascend =
    let less = is_less (name_cmp name next) ascend.0 in
    (less, further (roots_in entries) less (later next entries ascend.1))
  where
    further : (roots : List (List ℕ × Addr)) → name_cmp name next ≡ Less → AllByRecursion (λ (root : List ℕ × Addr). name_cmp next root.0 ≡ Less) roots → AllByRecursion (λ (root : List ℕ × Addr). name_cmp name root.0 ≡ Less) roots
    further [] less all = tt
    further (root ∷ roots) less all = (names_total.trans name next root.0 less all.0, further roots less all.1)

not_less : (name other : List ℕ) → name_cmp name other ≡ Less → other ≡ name → ⊥
not_less name other less same =
    let tied : is_eq (name_cmp name name) ≡ true = (eq_by_cmp_equiv names_total).refl name in
    let clash : is_eq Less ≡ true = ap is_eq (sym less ∙ ap (name_cmp name) same) ∙ tied in
    cc

module _ (leads : Leads) where
  all_apart : (name : List ℕ) (roots : List (List ℕ × Addr)) → AllByRecursion (λ (root : List ℕ × Addr). name_cmp name root.0 ≡ Less) roots → AllByRecursion (λ (root : List ℕ × Addr). root.0 ≡ name → ⊥) (map (followed_root leads) roots)
  all_apart name [] all = tt
  all_apart name (root ∷ roots) all = (not_less name root.0 all.0, all_apart name roots all.1)

  -- names that ascend differ
  pub ascend_differ : (before : Option (List ℕ)) (entries : List CatEntry) → NamesAscend before entries → NamesDiffer (map (followed_root leads) (roots_in entries))
  ascend_differ before [] ascend = tt
  ascend_differ before (kinds.Car car train page digest ∷ entries) ascend = ascend_differ before entries ascend
  ascend_differ before (kinds.Root name at ∷ entries) ascend = (all_apart name (roots_in entries) (later name entries ascend.1), ascend_differ (Some name) entries ascend.1)
