-- What addresses mean in a space that was reshaped, and worlds after a change.
use Rattle.std.proofs.Common.{◌≡◌, refl, ap, sym, ◌∙◌, map, Option, Some, None, is_some}
use Rattle.std.specs.Option.{option_map}
use Rattle.std.proofs.lemmas.Bool.{true≢false}
use Rattle.pm_types.specs.declared.address.Addr.{Addr}
use Rattle.pm_types.specs.declared.object.Object.{Object}
use Rattle.pm_types.specs.declared.object.Slot.{Slot}
use Rattle.pm_types.specs.declared.object.Slot.TheVariants.{Live, Moved}
use Rattle.pm_cars.specs.declared.look.Look.{Look}
use Rattle.pm_cars.specs.declared.look.Look.TheVariants as looks
use Rattle.pm_cars.specs.Cars.{look_of}
use Rattle.pm_view.specs.View.{SpaceView}
use Rattle.pm_view.specs.Reading.{slot_at, object_at, followed, resolve, id_at, named_by}
use Rattle.pm_view.specs.Represents.{names, meaning}
use Rattle.pm_law_commands.proofs.RowLemmas.Built.{IsReshaped}

-- where an address leads is told by what its place looks like
abbrev followed_look : Look → Addr → Addr
followed_look looks.Live a = a
followed_look (looks.Moved to) a = to
followed_look looks.Gone a = a

followed_is : (o : Option Slot) (a : Addr) → followed o a ≡ followed_look (look_of o) a
followed_is None a = refl
followed_is (Some (Live object)) a = refl
followed_is (Some (Moved to)) a = refl

module _ (view t : SpaceView) (same : IsReshaped view t) where
  resolve_same : (a : Addr) → resolve t a ≡ resolve view a
  resolve_same a = followed_is (slot_at t.cars a) a ∙ ap (λ l. followed_look l a) (same.look a) ∙ sym (followed_is (slot_at view.cars a) a)

  id_of : (a : Addr) (o p : Option Object) → object_at view.cars a ≡ o → object_at t.cars a ≡ p → option_map (λ (o : Object). o.id) p ≡ option_map (λ (o : Object). o.id) o
  id_of a None None was is = refl
  id_of a (Some o) None was is = absurd (true≢false (sym (ap is_some was) ∙ sym (same.some a) ∙ ap is_some is))
  id_of a o (Some p) was is = let found = same.objects a p is in ap Some found.2.id ∙ ap (option_map (λ (o : Object). o.id)) (sym found.1 ∙ was)

  pub id_same : (a : Addr) → id_at t a ≡ id_at view a
  id_same a = id_of a (object_at view.cars a) (object_at t.cars a) refl refl

  -- an address names the object that it named
  pub named_same : (a : Addr) → named_by t a ≡ named_by view a
  named_same a = id_same (resolve t a) ∙ ap (id_at view) (resolve_same a)

  pub names_same : (a : Option Addr) → names t a ≡ names view a
  names_same None = refl
  names_same (Some a) = named_same a

  -- and an object means what it meant
  pub meaning_same : (o : Object) → meaning t o ≡ meaning view o
  meaning_same o = λ i. record { fields = map (λ a. names_same a i) o.fields; bytes = o.bytes }
