-- The parts that were made are a space that is built of the cars and roots.
use Rattle.std.proofs.Common.{◌≡◌, ℕ, ◌==◌, true, false, cond, List, [], ◌∷◌, Option, Some, None, is_some, refl, sym, ap, subst, ◌∙◌}
use Rattle.std.specs.Option.{option_map}
use Rattle.std.specs.List.{AllByRecursion}
use Rattle.std.specs.Cmp.{nat_cmp_total, eq_by_cmp_equiv}
use Rattle.std.specs.Ordering.{nat_cmp, eq_by_cmp}
use Rattle.std.specs.FinMap.{get, empty, get-empty, from_entries, get-from_entries}
use Rattle.std.specs.FinMap.Entries.{find}
use Rattle.std.proofs.lemmas.Option.{same_Some}
use Rattle.pm_types.specs.Orders.{place_cmp}
use Rattle.pm_types.specs.declared.address.Addr.{Addr}
use Rattle.pm_types.specs.declared.source.RefSource.{RefSource}
use Rattle.pm_types.specs.declared.source.RefSource.TheVariants.{Root, Handle, Field}
use Rattle.pm_cars.specs.Cars.{Car}
use Rattle.pm_roots.specs.Bindings.{Bindings, AllNumbersDiffer}
use Rattle.pm_trains.specs.Trains.{Trains}
use Rattle.pm_trains.proofs.Order.{differ as differs, agree}
use Rattle.pm_view.specs.declared.phase.Phase.TheVariants.{Idle}
use Rattle.pm_view.specs.Sources.{outside, slot_in}
use Rattle.pm_view.specs.View.{Cars, Registers, Sources, SpaceView}
use Rattle.pm_view.specs.Reading.{stored}
use Rattle.pm_copies.specs.Built.{Placed, CarsDiffer, built_cars, built_trains, IsBuiltOf}
use Rattle.pm_law_copies.specs.Storing.{Stored, stores, remembering, stored_of}
use Rattle.pm_law_copies.proofs.Lists.{all_mapped, nat_turned}
use Rattle.pm_law_copies.proofs.Sources.{AreCars, remembers_of}
use Rattle.pm_space.specs.Linked.{Linked, sets_of, queues_of}
use Rattle.pm_reopen.specs.Rebuild.Lists.{row_of, rows}
use Rattle.pm_reopen.specs.Rebuild.Naming.{addresses}
use Rattle.pm_reopen.specs.Rebuild.Remembering.{Remember}

-- ---- the cars, each under its number

-- the car is found under its number
abbrev IsRow : List Placed → Placed → Type 0
IsRow placed one = find nat_cmp one.1.number (rows placed) ≡ Some one.1

each_row : (placed : List Placed) → CarsDiffer placed → AllByRecursion (IsRow placed) placed
each_row [] differ = tt
each_row (one ∷ placed) differ = (here, later placed differ.0 (each_row placed differ.1))
  where
    here : IsRow (one ∷ placed) one
    here = ap (λ b. cond b (Some one.1) (find nat_cmp one.1.number (rows placed))) ((eq_by_cmp_equiv nat_cmp_total).refl one.1.number)

    later : (others : List Placed) → AllByRecursion (λ (other : Placed). (other.1.number == one.1.number) ≡ false) others → AllByRecursion (IsRow placed) others → AllByRecursion (IsRow (one ∷ placed)) others
    later [] apart all = tt
    later (other ∷ others) apart all = (
      ap (λ b. cond b (Some one.1) (find nat_cmp other.1.number (rows placed))) (turned other.1.number one.1.number apart.0) ∙ all.0,
      later others apart.1 all.1,
    )
      where
        turned : (m n : ℕ) → (m == n) ≡ false → eq_by_cmp nat_cmp m n ≡ false
        turned m n apart = sym (nat_turned n m) ∙ differs n m (λ same. let clash : true ≡ false = sym (agree m n (sym same)) ∙ apart in cc)

pub rows_are : (placed : List Placed) (roots : Bindings) → CarsDiffer placed → AreCars (built_cars placed) roots (rows placed)
rows_are placed roots differ = record {
  found = λ n. sym (get-from_entries nat_cmp_total (rows placed) n);
  each = all_mapped (λ (e : ℕ × Car). get (built_cars placed) e.0 ≡ Some e.1) row_of placed (found placed (each_row placed differ));
}
  where
    found : (others : List Placed) → AllByRecursion (IsRow placed) others → AllByRecursion (λ (one : Placed). get (built_cars placed) one.1.number ≡ Some one.1) others
    found [] all = tt
    found (one ∷ others) all = (get-from_entries nat_cmp_total (rows placed) one.1.number ∙ all.0, found others all.1)

-- ---- the space

mapped_some : {X Y : Type 0} (o : Option X) (y : Y) → is_some (option_map (λ _. y) o) ≡ is_some o
mapped_some None y = refl
mapped_some (Some x) y = refl

mapped_is : {X Y : Type 0} (o : Option X) (y z : Y) → option_map (λ _. y) o ≡ Some z → y ≡ z
mapped_is None y z is = cc
mapped_is (Some x) y z is = same_Some y z is

-- what is stored where no register holds anything
stored_is : (cars : Cars) (roots : Bindings) (view : SpaceView) → view.cars ≡ cars → view.roots ≡ roots → view.registers ≡ empty → (x : RefSource) → stores cars roots x ≡ stored view x
stored_is cars roots view same_cars same_roots none (Root number) = ap (λ (r : Bindings). stores cars r (Root number)) (sym same_roots)
stored_is cars roots view same_cars same_roots none (Handle client register) = sym (ap (λ (r : Registers). get r (client, register)) none ∙ get-empty place_cmp (client, register))
stored_is cars roots view same_cars same_roots none (Field a i) = ap (λ (m : Cars). stores m roots (Field a i)) (sym same_cars)

module _ (placed : List Placed) (named : List (List ℕ × Addr)) (next : ℕ) (cars : Cars) (links : Linked) (trains : Trains) (roots : Bindings) (registers : Registers) (anchor : Option (Addr × ℕ))
    (placed_differ : CarsDiffer placed) (cars_are : cars ≡ built_cars placed) (trains_are : trains ≡ built_trains placed) (roots_are : addresses roots ≡ from_entries named) (differ : AllNumbersDiffer roots)
    (remember : Remember (built_cars placed) (sets_of links) (stored_of (rows placed) roots)) (no_changes : (car : ℕ) → get (queues_of links) car ≡ option_map (λ _. []) (get (built_cars placed) car)) (no_registers : registers ≡ empty) (no_anchor : anchor ≡ None) where
  made : SpaceView
  made = record { cars = cars; sets = sets_of links; queues = queues_of links; trains = trains; roots = roots; registers = registers; anchor = anchor; phase = Idle; next = next; completed = 0 }

  all : List Stored
  all = stored_of (rows placed) roots

  told : Remember cars (sets_of links) all
  unfolding all
  told = subst (λ (m : Cars). Remember m (sets_of links) (stored_of (rows placed) roots)) (sym cars_are) remember

  are : AreCars cars roots (rows placed)
  are = subst (λ (m : Cars). AreCars m roots (rows placed)) (sym cars_are) (rows_are placed roots placed_differ)

  remembered : (car : ℕ) (set : Sources) (x : RefSource) → get (sets_of links) car ≡ Some set → get set x ≡ cond (outside car x) (slot_in car (stored made x)) None
  unfolding made all
  remembered car set x is =
      ap (λ (s : Sources). get s x) (sym (mapped_is (get cars car) (remembering all car) set (sym (told.each car) ∙ is)))
      ∙ remembers_of cars roots (rows placed) are differ car x
      ∙ ap (λ o. cond (outside car x) (slot_in car o) None) (stored_is cars roots made refl refl no_registers x)

  pub parts_built : IsBuiltOf placed named next (record { cars = cars; sets = sets_of links; queues = queues_of links; trains = trains; roots = roots; registers = registers; anchor = anchor; phase = Idle; next = next; completed = 0 })
  unfolding made all
  parts_built = record {
    cars = cars_are;
    trains = trains_are;
    roots = roots_are;
    fresh = record {
      numbers = differ;
      sets = λ car. ap is_some (told.each car) ∙ mapped_some (get cars car) (remembering all car);
      remembered = remembered;
      queues = λ car. no_changes car ∙ ap (λ (m : Cars). option_map (λ _. []) (get m car)) (sym cars_are);
      registers = no_registers;
      anchor = no_anchor;
      phase = refl;
      next = refl;
      completed = refl;
    };
  }
