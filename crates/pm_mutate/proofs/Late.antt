-- What stands once an identity was given, an object came in late, or a source was set to it.
use Rattle.std.proofs.Common.{◌≡◌, ℕ, ◌<◌, ◌≤◌, ◌==◌, refl, ap, sym, subst, ◌∙◌, List, Option, Some, None, Result, Ok, Err, IfOk, OnOk, OnErr, IsSome}
use Rattle.std.specs.Option.{option_map}
use Rattle.std.specs.FinMap.{get}
use Rattle.std.proofs.lemmas.Bool.{eqb-true, false_from_ne_true}
use Rattle.std.proofs.lemmas.List.{length-replicate}
use Rattle.pm_types.specs.declared.limits.TheConstants.{CLIENTS, REGISTERS, FIELDS}
use Rattle.pm_types.specs.declared.no_memory.NoMemory.{NoMemory}
use Rattle.pm_types.specs.declared.address.Addr.{Addr}
use Rattle.pm_types.specs.declared.object.Object as kept
use Rattle.pm_types.specs.declared.object.Slot.{Slot}
use Rattle.pm_types.specs.declared.object.Slot.TheVariants.{Live, Moved}
use Rattle.pm_types.specs.declared.source.RefSource.TheVariants.{Handle, Field}
use Rattle.pm_cars.specs.declared.look.Look.TheVariants as looks
use Rattle.pm_cars.specs.Cars.{look_of}
use Rattle.pm_model.specs.Heap.{with_field}
use Rattle.pm_model.specs.World.{changing}
use Rattle.pm_model.specs.Answer.{fresh}
use Rattle.pm_view.specs.View.{SpaceView}
use Rattle.pm_view.specs.Reading.{slot_at, object_at, followed, SourceStands}
use Rattle.pm_view.specs.Seen.{seen, IsLive}
use Rattle.pm_view.specs.Law.{HeapLaw}
use Rattle.pm_view.specs.Objects.{AddsObject, KeepsObjects}
use Rattle.pm_view.specs.Represents.{names, meaning, Represents, registered}
use Rattle.pm_view.specs.Rows.{MayBeBorn, IsVacant, spread, born}
use Rattle.pm_law_commands.proofs.Births.{null_fields, null_names}
use Rattle.pm_law_commands.proofs.RowLemmas.Born.{GivesBirth, born_gives}
use Rattle.pm_law_commands.proofs.RowLemmas.SpreadMeans.{register_stands, field_stands}
use Rattle.pm_mutate.specs.Commands.Births.{IsBornAt}
use Rattle.pm_mutate.specs.Young.{MayBeAdmitted, admitted, AdmitsToo, LinksToo, HoldsToo}

-- a space keeps its own objects
pub still : (v : SpaceView) → KeepsObjects v v
still v = record { trains = refl; aside = λ car. refl; ids = λ a. refl }

-- ---- an object that comes in

pub may_be_born : (v : SpaceView) (id count : ℕ) (bytes : List ℕ) → MayBeAdmitted v id count bytes → MayBeBorn v (admitted id count bytes)
may_be_born v id count bytes may = record {
  first = may.first;
  given = may.given;
  unused = λ a o is. false_from_ne_true (o.id == id) (λ same. may.unused a (ap (option_map (λ (o : kept.Object). o.id)) is ∙ ap Some (eqb-true o.id id same)));
  fields = subst (λ n. n ≤ FIELDS) (sym (length-replicate count None)) may.fields;
  bytes = may.bytes;
  null = null_fields count;
}

-- what holds of a space and of each birth in it holds after the call
pub birth_holds : (r : Result Addr NoMemory) (P : SpaceView → Type 0) (v w : SpaceView) (object : kept.Object) → P v → ((number : ℕ) → IsVacant v.cars number → P (born v number object))
    → IfOk r (λ place. IsBornAt v object (place, w)) → OnErr r (w ≡ v) → P w
birth_holds (Ok place) P v w object was keeps is same = subst (λ (g : Addr × SpaceView). P g.1) (sym is.2) (keeps is.0 is.1)
birth_holds (Err e) P v w object was keeps is same = subst P (sym same) was

module _ (v w : SpaceView) (id count : ℕ) (bytes : List ℕ) (law : HeapLaw v) (may : MayBeAdmitted v id count bytes) where
  abbrev object : kept.Object
  object = admitted id count bytes

  gives : (place : Addr) → IsBornAt v object (place, w) → GivesBirth v w object place
  gives place is = subst (λ (g : Addr × SpaceView). GivesBirth v g.1 object g.0) (sym is.2) (born_gives v is.0 object law (may_be_born v id count bytes may) is.1)

  means : fresh count bytes ≡ meaning v object
  means = λ i. record { fields = sym (null_names v count) i; bytes = bytes }

  -- each world whose heap has none of the identity has the object too
  pub admits_too : (r : Result Addr NoMemory) → IfOk r (λ place. IsBornAt v object (place, w)) → OnOk r (AdmitsToo v id count bytes w)
  admits_too (Ok place) is = λ world stands none. (gives place is).world world (fresh count bytes) stands none means
  admits_too (Err e) is = tt

  -- and one object more stands, at the place that is answered
  pub adds_it : (r : Result Addr NoMemory) → IfOk r (λ place. IsBornAt v object (place, w)) → IfOk r (λ place. AddsObject v w id place)
  adds_it (Ok place) is = (gives place is).added
  adds_it (Err e) is = tt

-- ---- a source that is set

-- what holds of a space and once the source was set holds after the call
pub source_holds : {A E : Type 0} (r : Result A E) (P : SpaceView → Type 0) (v w u : SpaceView) → P v → P u → OnOk r (w ≡ u) → OnErr r (w ≡ v) → P w
source_holds (Ok x) P v w u was keeps is same = subst P (sym is) keeps
source_holds (Err e) P v w u was keeps is same = subst P (sym same) was

-- an address of an object leads to itself
live_still : (o : Option Slot) (a : Addr) → look_of o ≡ looks.Live → followed o a ≡ a
live_still None a live = refl
live_still (Some (Live object)) a live = refl
live_still (Some (Moved to)) a live = cc

names_it : (v : SpaceView) (a : Addr) (id : ℕ) → IsLive (seen v) a → option_map (λ (o : kept.Object). o.id) (object_at v.cars a) ≡ Some id → names v (Some a) ≡ Some id
names_it v a id live is = ap (λ b. option_map (λ (o : kept.Object). o.id) (object_at v.cars b)) (live_still (slot_at v.cars a) a live.0) ∙ is

has_object : (o : Option kept.Object) (id : ℕ) → option_map (λ (o : kept.Object). o.id) o ≡ Some id → (object : kept.Object) × (o ≡ Some object) × (object.id ≡ id)
has_object None id is = absurd (let no : ◌≡◌ {A = Option ℕ} None (Some id) = is in cc)
has_object (Some object) id is = (object, refl, let same : Some object.id ≡ Some id = is in cc)

one_id : (m n : ℕ) → Some m ≡ Some n → m ≡ n
one_id m n is = cc

module _ (v w : SpaceView) (law : HeapLaw v) where
  -- each world that has both objects has the field set
  pub links_too : {A E : Type 0} (r : Result A E) (at to : Addr) (index : ℕ) → SourceStands v (Field at index) → IsLive (seen v) to
      → OnOk r (w ≡ spread v (Field at index) (Some to)) → OnOk r (LinksToo v at index to w)
  links_too (Err e) at to index there live is = tt
  links_too (Ok x) at to index there live is = λ world from other known stands here named has some.
      let t = spread v (Field at index) (Some to) in
      let object = has_object (object_at v.cars at) from here in
      let leads = names_it v to other live named in
      subst (λ u. Represents u (changing world from (with_field known index (Some other)))) (sym is)
      (subst (λ o. Represents t (changing world from (with_field known index o))) leads
      (subst (λ n. Represents t (changing world n (with_field known index (names v (Some to))))) object.2
      (field_stands v world at index object.0 known (Some to) law stands object.1 there live (ap (get world.heap) object.2 ∙ has)
      (λ id is. subst (λ n. IsSome (get world.heap n)) (one_id other id (sym leads ∙ is)) some))))

  -- each world that has the object has the register hold it
  pub holds_too : {A E : Type 0} (r : Result A E) (client register : ℕ) (at : Addr) → client < CLIENTS → register < REGISTERS → IsLive (seen v) at
      → OnOk r (w ≡ spread v (Handle client register) (Some at)) → OnOk r (HoldsToo v client register at w)
  holds_too (Err e) client register at c few live is = tt
  holds_too (Ok x) client register at c few live is = λ world id stands named some.
      let t = spread v (Handle client register) (Some at) in
      let leads = names_it v at id live named in
      subst (λ u. Represents u (registered world client register (Some id))) (sym is)
      (subst (λ o. Represents t (registered world client register o)) leads
      (register_stands v world client register (Some at) law stands (c, few) live (λ n is. subst (λ m. IsSome (get world.heap m)) (one_id id n (sym leads ∙ is)) some)))
