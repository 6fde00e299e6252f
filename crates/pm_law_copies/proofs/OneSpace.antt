-- Opening makes one space but for the numbers of roots.
use Rattle.std.proofs.Common.{◌≡◌, ℕ, cond, refl, ap, sym, ◌∙◌, List, [], Option, Some, None, is_some}
use Rattle.std.specs.Option.{option_map}
use Rattle.std.specs.FinMap.{get, same_map, nat_cmp-IsAntisymmetric}
use Rattle.std.proofs.lemmas.Cmp.{nat_cmp_total}
use Rattle.pm_types.proofs.Orders.{sources_total, sources_antisymmetric}
use Rattle.pm_types.specs.declared.source.RefSource.{RefSource}
use Rattle.pm_types.specs.declared.source.RefSource.TheVariants.{Root, Handle, Field}
use Rattle.pm_roots.specs.Bindings.{address_at}
use Rattle.pm_image.specs.declared.catalog.CatEntry.{CatEntry}
use Rattle.pm_view.specs.Sources.{outside, slot_in}
use Rattle.pm_view.specs.View.{Sources, SpaceView}
use Rattle.pm_view.specs.Reading.{object_at, field_of, stored}
use Rattle.pm_copies.specs.Listed.{Listed}
use Rattle.pm_copies.specs.Opened.{IsOpened}

module _ (listed : List Listed) (catalog : List CatEntry) (next_id : ℕ) (view other : SpaceView) (one : IsOpened listed catalog next_id view) (two : IsOpened listed catalog next_id other) (roots : view.roots ≡ other.roots) where
  same_cars : view.cars ≡ other.cars
  same_cars = one.cars ∙ sym two.cars

  same_stored : (x : RefSource) → stored view x ≡ stored other x
  same_stored (Root number) = ap (λ roots. address_at roots number) roots
  same_stored (Handle client register) = ap (λ registers. get registers (client, register)) (one.fresh.registers ∙ sym two.fresh.registers)
  same_stored (Field a i) = ap (λ cars. field_of (object_at cars a) i) same_cars

  same_set : (car : ℕ) (s t : Sources) → get view.sets car ≡ Some s → get other.sets car ≡ Some t → s ≡ t
  same_set car s t is is_too = same_map sources_total sources_antisymmetric s t (λ x. one.fresh.remembered car s x is ∙ ap (λ o. cond (outside car x) (slot_in car o) None) (same_stored x) ∙ sym (two.fresh.remembered car t x is_too))

  both_sets : (car : ℕ) (s t : Option Sources) → get view.sets car ≡ s → get other.sets car ≡ t → is_some s ≡ is_some t → s ≡ t
  both_sets car None None is is_too same = refl
  both_sets car None (Some t) is is_too same = cc
  both_sets car (Some s) None is is_too same = cc
  both_sets car (Some s) (Some t) is is_too same = ap Some (same_set car s t is is_too)

  same_sets : view.sets ≡ other.sets
  same_sets = same_map nat_cmp_total nat_cmp-IsAntisymmetric view.sets other.sets (λ car. both_sets car (get view.sets car) (get other.sets car) refl refl (one.fresh.sets car ∙ ap (λ cars. is_some (get cars car)) same_cars ∙ sym (two.fresh.sets car)))

  same_queues : view.queues ≡ other.queues
  same_queues = same_map nat_cmp_total nat_cmp-IsAntisymmetric view.queues other.queues (λ car. one.fresh.queues car ∙ ap (λ cars. option_map (λ _. []) (get cars car)) same_cars ∙ sym (two.fresh.queues car))

  pub one_space : view ≡ other
  one_space = λ i. record {
    cars = same_cars i;
    sets = same_sets i;
    queues = same_queues i;
    trains = (one.trains ∙ sym two.trains) i;
    roots = roots i;
    registers = (one.fresh.registers ∙ sym two.fresh.registers) i;
    anchor = (one.fresh.anchor ∙ sym two.fresh.anchor) i;
    phase = (one.fresh.phase ∙ sym two.fresh.phase) i;
    next = (one.fresh.next ∙ sym two.fresh.next) i;
    completed = (one.fresh.completed ∙ sym two.fresh.completed) i;
  }
