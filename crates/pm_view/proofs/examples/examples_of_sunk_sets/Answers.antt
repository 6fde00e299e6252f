use Rattle.std.proofs.Common.{◌≡◌, ℕ, [], ◌∷◌, refl, ap, sym, ◌∙◌, subst, Option, Some, None, arith}
use Rattle.std.specs.FinMap.{get-insert, entries-insert, empty}
use Rattle.std.specs.Option.{IsSomeAnd, option_map}
use Rattle.std.proofs.lemmas.Bool.{eqb-true}
use Rattle.pm_types.proofs.Orders.{places_total, names_total}
use Rattle.pm_types.specs.declared.address.Addr.{Addr}
use Rattle.pm_types.specs.declared.object.Object.{Object}
use Rattle.pm_types.specs.declared.object.Slot.{Slot}
use Rattle.pm_types.specs.declared.source.RefSource.TheVariants.{Root, Handle}
use Rattle.pm_cars.specs.Cars.{object_of}
use Rattle.pm_view.specs.declared.phase.Phase.TheVariants.{Idle, Draining}
use Rattle.pm_view.specs.Reading.{stored, followed, slot_at}
use Rattle.pm_view.specs.Represents.{names}
use Rattle.pm_view.specs.Examples.{two_cars, noted, held_by_register, held_by_name, Only}
use Rattle.pm_view.proofs.Unnamed.{no_name, first_there, fourth_there, nothing_stored, in_train}
use Rattle.pm_view.proofs.examples.examples_of_sunk_sets.Goals as goal

pub returns-clause-sunk : goal.returns-clause-sunk
returns-clause-sunk c = record {
  given = λ id is. let one = eqb-true id 1 is in omega (arith, one);
  named = λ x id kept leads of. absurd (none_some id (sym (ap (names (two_cars Idle None)) (nothing_stored Idle None x)) ∙ leads));
  low = λ a of. in_train Idle None (Only 1) a of;
  anchored = λ a to is of. cc;
}
  where
    none_some : (id : ℕ) → None ≡ Some id → ⊥
    none_some id is = cc

abbrev first : Addr
first = record { car = 1; slot = 0 }

abbrev fourth : Addr
fourth = record { car = 2; slot = 0 }

abbrev id_of : Option Slot → Option ℕ
id_of w = option_map (λ (o : Object). o.id) (object_of w)

-- the first object of car 1 is the one that its address leads to
leads_there : option_map (λ (o : Object). o.id) (object_of (slot_at (two_cars Idle None).cars (followed (slot_at (two_cars Idle None).cars first) first))) ≡ Some 1
leads_there = ap (λ w. id_of (slot_at (two_cars Idle None).cars (followed w first))) (first_there Idle None) ∙ ap id_of (first_there Idle None)

pub returns-clause-register : goal.returns-clause-register
returns-clause-register c = λ number sunk. sunk.named (Handle 0 1) 1 refl (ap (names held_by_register) (get-insert places_total empty (0, 1) first (0, 1)) ∙ leads_there) refl

pub returns-clause-name : goal.returns-clause-name
returns-clause-name c = λ number sunk. sunk.named (Root 0) 1 refl (ap (names held_by_name) one_name ∙ leads_there) refl
  where
    one_name : stored held_by_name (Root 0) ≡ Some first
    one_name = rw (entries-insert {X = ℕ × Addr} names_total empty (97 ∷ []) (0, first), no_name) refl

pub returns-clause-low : goal.returns-clause-low
returns-clause-low c = λ sunk.
    let over = sunk.low first (subst (λ w. IsSomeAnd (id_of w) (Only 1)) (sym (first_there Idle None)) refl) in
    omega (arith, over)

pub returns-clause-anchored : goal.returns-clause-anchored
returns-clause-anchored c = λ sunk.
    let over = sunk.anchored fourth 2 refl (subst (λ w. IsSomeAnd (id_of w) (Only 4)) (sym (fourth_there (Draining 1) noted)) refl) in
    omega (arith, over)

pub returns-clause-given : goal.returns-clause-given
returns-clause-given c = λ number sunk. let over = sunk.given 6 refl in omega (arith, over)
