-- What is listed with its roots alone.
use Rattle.std.proofs.Common.{◌≡◌, ℕ, ◌≤◌, List, [], ◌∷◌, map, length, Option, Some, None, refl, sym, ap, subst, ◌∙◌}
use Rattle.std.specs.List.{flat_map, AllByRecursion}
use Rattle.std.specs.FinMap.{from_entries}
use Rattle.pm_types.specs.declared.limits.TheConstants.{ROOTS}
use Rattle.pm_types.specs.Names.{IsName}
use Rattle.pm_types.specs.declared.address.Addr.{Addr}
use Rattle.pm_model.specs.Copying.{copied}
use Rattle.pm_image.specs.declared.car.CarImage.{CarImage}
use Rattle.pm_image.specs.declared.catalog.CatEntry.{CatEntry}
use Rattle.pm_image.specs.declared.catalog.CatEntry.TheVariants.{Car, Root}
use Rattle.pm_image.specs.Graphs.{heap_of, listed_root}
use Rattle.pm_image.specs.Leading.{RootLeads}
use Rattle.pm_copies.specs.Accepted.{IsAccepted, NamesAscend, roots_in}
use Rattle.pm_copies.specs.Listed.{Listed, copy_listed, images}
use Rattle.pm_law_copies.proofs.CopyOf.{as_root, entry_roots}
use Rattle.pm_copies.specs.Plans.{root_entry}
use Rattle.pm_graphs.specs.Reading.{IsEntryNamed}

pub roots_again : (roots : List (List ℕ × Addr)) → roots_in (map root_entry roots) ≡ roots
roots_again [] = refl
roots_again (root ∷ roots) = ap (λ (rest : List (List ℕ × Addr)). root ∷ rest) (roots_again roots)

lead_alone : (cars : List CarImage) (entries : List CatEntry) → AllByRecursion (RootLeads cars) entries → AllByRecursion (RootLeads cars) (map root_entry (roots_in entries))
lead_alone cars [] all = tt
lead_alone cars (Car car train page digest ∷ entries) all = lead_alone cars entries all.1
lead_alone cars (Root name at ∷ entries) all = (all.0, lead_alone cars entries all.1)

names_alone : (before : Option (List ℕ)) (entries : List CatEntry) → NamesAscend before entries → NamesAscend before (map root_entry (roots_in entries))
names_alone before [] all = tt
names_alone before (Car car train page digest ∷ entries) all = names_alone before entries all
names_alone before (Root name at ∷ entries) all = (all.0, names_alone (Some name) entries all.1)

-- what no rule refuses with all entries none refuses with the roots
pub accepted_alone : (list : List Listed) (entries : List CatEntry) (next : ℕ) → IsAccepted list entries next → IsAccepted list (map root_entry (roots_in entries)) next
accepted_alone list entries next accepted = record {
  next = accepted.next;
  trains = accepted.trains;
  cars = accepted.cars;
  differ = accepted.differ;
  given = accepted.given;
  apart = accepted.apart;
  lead = accepted.lead;
  roots = lead_alone (images list) entries accepted.roots;
  names = names_alone None entries accepted.names;
  few = subst (λ (roots : List (List ℕ × Addr)). length roots ≤ ROOTS) (sym (roots_again (roots_in entries))) accepted.few;
}

-- it is the same copy
pub copy_alone : (list : List Listed) (entries : List CatEntry) (next : ℕ) → copy_listed list (map root_entry (roots_in entries)) next ≡ copy_listed list entries next
copy_alone list entries next =
    let cars = images list in
    let same : flat_map (listed_root cars) (map root_entry (roots_in entries)) ≡ flat_map (listed_root cars) entries =
    entry_roots cars (map root_entry (roots_in entries)) ∙ ap (flat_map (as_root cars)) (roots_again (roots_in entries)) ∙ sym (entry_roots cars entries) in
    ap (λ (roots : List (List ℕ × ℕ)). copied (heap_of cars) (from_entries roots) next) same

-- the roots have names
pub names_kept : (entries : List CatEntry) → AllByRecursion IsEntryNamed entries → AllByRecursion (λ (root : List ℕ × Addr). IsName root.0) (roots_in entries)
names_kept [] all = tt
names_kept (Car car train page digest ∷ entries) all = names_kept entries all.1
names_kept (Root name at ∷ entries) all = (all.0, names_kept entries all.1)
