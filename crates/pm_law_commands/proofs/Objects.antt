-- Every command but `new` leaves each object where it stands.
use Rattle.std.proofs.Common.{◌≡◌, ℕ, Bool, true, false, cond, refl, ap, sym, ◌∙◌, List, Option, Some, None, zero, suc}
use Rattle.std.specs.Option.{option_map}
use Rattle.std.proofs.lemmas.Bool.{true≢false}
use Rattle.pm_types.specs.declared.limits.TheConstants.{REGISTERS}
use Rattle.pm_types.specs.declared.address.Addr.{Addr}
use Rattle.pm_types.specs.declared.object.Object.{Object}
use Rattle.pm_types.specs.declared.source.RefSource.{RefSource}
use Rattle.pm_types.specs.declared.source.RefSource.TheVariants.{Handle}
use Rattle.pm_types.specs.declared.command.Cmd.{Cmd}
use Rattle.pm_cars.specs.Cars as cars
use Rattle.pm_view.specs.Sources.{same_address}
use Rattle.pm_view.specs.View.{SpaceView}
use Rattle.pm_view.specs.Reading.{object_at}
use Rattle.pm_view.specs.Rows.{spread, with_name, without_name, with_bytes_at}
use Rattle.pm_view.specs.Commands.{emptied, row, Picks, is_new}
use Rattle.pm_law_commands.proofs.RowLemmas.SameSource.{same_address-true}
use Rattle.pm_law_commands.proofs.RowLemmas.Places.{object_after}
use Rattle.pm_law_commands.proofs.RowLemmas.Built.{IsReshaped, aside_same}
use Rattle.pm_law_commands.proofs.RowLemmas.Meaning.{id_same}
use Rattle.pm_law_commands.proofs.RowLemmas.SpreadKept.{reshaped_spread}
use Rattle.pm_view.specs.Objects.{KeepsObjects}
use Rattle.pm_law_commands.proofs.EveryRow.{OfRows, row_holds}

still : (view : SpaceView) → KeepsObjects view view
still view = record { trains = refl; aside = λ car. refl; ids = λ a. refl }

reshaped_keeps : (view t : SpaceView) → IsReshaped view t → KeepsObjects view t
reshaped_keeps view t same = record { trains = same.trains; aside = aside_same view t same; ids = id_same view t same }

both_keep : (view t u : SpaceView) → KeepsObjects view t → KeepsObjects t u → KeepsObjects view u
both_keep view t u one two = record { trains = two.trains ∙ one.trains; aside = λ car. two.aside car ∙ one.aside car; ids = λ a. two.ids a ∙ one.ids a }

pub spread_keeps : (view : SpaceView) (x : RefSource) (to : Option Addr) → KeepsObjects view (spread view x to)
spread_keeps view x to = reshaped_keeps view (spread view x to) (reshaped_spread view x to)

same_id : (b : Bool) (change : Object → Object) (o p : Option Object) → ((object : Object) → (change object).id ≡ object.id) → (b ≡ true → o ≡ p)
    → option_map (λ (o : Object). o.id) (cond b (option_map change o) p) ≡ option_map (λ (o : Object). o.id) p
same_id true change None p same is = ap (option_map (λ (o : Object). o.id)) (is refl)
same_id true change (Some object) p same is = ap Some (same object) ∙ ap (option_map (λ (o : Object). o.id)) (is refl)
same_id false change o p same is = refl

bytes_keep : (view : SpaceView) (a : Addr) (at : ℕ) (bytes : List ℕ) → KeepsObjects view (with_bytes_at view a at bytes)
bytes_keep view a at bytes = record {
  trains = refl;
  aside = λ car. refl;
  ids = λ b.
      ap (option_map (λ (o : Object). o.id)) (object_after view.cars a (λ object. cars.with_bytes object at bytes) b)
      ∙ same_id (same_address a b) (λ object. cars.with_bytes object at bytes) (object_at view.cars a) (object_at view.cars b) (λ object. refl) (λ is. ap (object_at view.cars) (same_address-true a b is));
}

names_keep : (view : SpaceView) (name : List ℕ) (number : ℕ) (a : Addr) → KeepsObjects view (with_name view name number a) × KeepsObjects view (without_name view name number a)
names_keep view name number a = (record { trains = refl; aside = λ car. refl; ids = λ b. refl }, record { trains = refl; aside = λ car. refl; ids = λ b. refl })

emptied_keeps : (view : SpaceView) (client n : ℕ) → KeepsObjects view (emptied view client n)
emptied_keeps view client zero = still view
emptied_keeps view client (suc n) = both_keep view (emptied view client n) (emptied view client (suc n)) (emptied_keeps view client n) (spread_keeps (emptied view client n) (Handle client n) None)

-- each object stays where it stands, where none is made
rows_keep : (view : SpaceView) (client : ℕ) (picks : Picks) → OfRows view (KeepsObjects view) ⊥ (Unit {0}) client picks
rows_keep view client picks = record {
  still = still view;
  spread = spread_keeps view;
  bytes = λ a at bytes has. bytes_keep view a at bytes;
  bound = λ name number a. (names_keep view name number a).0;
  unbound = λ name number a. (names_keep view name number a).1;
  made = λ none. absurd none;
  emptied = λ may. emptied_keeps view client REGISTERS;
}

pub row_keeps_objects : (view : SpaceView) (client : ℕ) (cmd : Cmd) (picks : Picks) → is_new cmd ≡ false → KeepsObjects view (row view client cmd picks).1
row_keeps_objects view client cmd picks other = row_holds view (KeepsObjects view) ⊥ (Unit {0}) client picks (rows_keep view client picks) cmd (λ new. true≢false (sym new ∙ other)) (λ close. tt)
