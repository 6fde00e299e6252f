-- A space that keeps the heap law stands for the world that has what stands in it.
use Rattle.std.proofs.Common.{◌≡◌, ℕ, ◌<◌, ◌≤◌, true, false, not, refl, ap, sym, subst, ◌∙◌, List, Option, Some, None, arith, is_some}
use Rattle.std.specs.Option.{IsSome, option_and_then, option_map, option_flatten, unwrap_or}
use Rattle.std.specs.List.{slice_get, AllByRecursion}
use Rattle.std.specs.FinMap.{get}
use Rattle.std.proofs.lemmas.Option.{same_Some, slice_get-map}
use Rattle.pm_types.specs.Mapped.{mapped}
use Rattle.pm_types.proofs.Mapped.{get-mapped}
use Rattle.pm_types.specs.Orders.{place_cmp}
use Rattle.pm_types.specs.declared.address.Addr.{Addr}
use Rattle.pm_types.specs.declared.object.Object as kept
use Rattle.pm_types.specs.declared.source.RefSource.TheVariants.{Root, Handle, Field}
use Rattle.pm_model.specs.Heap.{Object}
use Rattle.pm_model.specs.Heap as heap_words
use Rattle.pm_model.specs.World.{World, empty_copy}
use Rattle.pm_model.specs.Closed.{IsClosedGraph, IsClosed}
use Rattle.pm_model.proofs.ClosedLaws.{empty_closed}
use Rattle.pm_image.specs.declared.car.CarImage.{CarImage}
use Rattle.pm_image.specs.CarPages.{Ascend}
use Rattle.pm_image.specs.Graphs.{heap_of, roots_of}
use Rattle.pm_view.specs.View.{SpaceView}
use Rattle.pm_view.specs.Reading.{object_at, field_of, is_aside, named_by}
use Rattle.pm_view.specs.Counts.{IsStanding}
use Rattle.pm_view.specs.Law.{HeapLaw}
use Rattle.pm_view.specs.Represents.{names, meaning, Represents}
use Rattle.pm_law_commands.proofs.RowLemmas.Numbers.{found_by_number}
use Rattle.pm_law_commands.proofs.RowLemmas.Reaches.{Means, stored_stands}
use Rattle.pm_law_commands.proofs.RowLemmas.SpreadMeans.{stands_for}
use Rattle.pm_copies.specs.Listed.{listed_cars, root_entries}
use Rattle.pm_copies.specs.Accepted.{IsAcceptedCar}
use Rattle.pm_law_copies.specs.Stood.{HasWhatStands}
use Rattle.pm_law_copies.proofs.Lists.{all_weaker}
use Rattle.pm_law_copies.proofs.Resolving.{named_some, object_stands}
use Rattle.pm_law_copies.proofs.Accepting.{accepted}
use Rattle.pm_law_copies.proofs.CopyOf.{heap_has, root_answer}
use Rattle.pm_law_copies.proofs.Objects as heaps

some_here : (o : Option Object) → IsSome o → (x : Object) × (o ≡ Some x)
some_here None some = cc
some_here (Some x) some = (x, refl)

object_of_id : (o : Option kept.Object) (id : ℕ) → option_map (λ (o : kept.Object). o.id) o ≡ Some id → (object : kept.Object) × (o ≡ Some object) × (object.id ≡ id)
object_of_id None id is = cc
object_of_id (Some object) id is = (object, refl, cc)

-- what a field holds that leads to this identity
field_found : (view : SpaceView) (to : ℕ) (o : Option (Option Addr)) → option_map (names view) o ≡ Some (Some to) → (a : Addr) × (o ≡ Some (Some a)) × (named_by view a ≡ Some to)
field_found view to None is = cc
field_found view to (Some None) is = cc
field_found view to (Some (Some a)) is = (a, refl, cc)

module _ (view : SpaceView) (law : HeapLaw view) where
  -- the objects that stand, the names and the registers, each with the identity to which it leads; nothing was saved
  abbrev pub world_of : World
  world_of = record {
    heap = heap_of (listed_cars view);
    roots = roots_of (listed_cars view) (root_entries view);
    registers = mapped (λ a. unwrap_or (named_by view a) 0) view.registers;
    next = view.next;
    settled = 0;
    settled_copy = empty_copy;
    saving = None;
    watches = 0;
  }

  -- ---- its objects

  ascend : AllByRecursion (λ (car : CarImage). Ascend 0 car.slots) (listed_cars view)
  ascend = all_weaker IsAcceptedCar (λ (car : CarImage). Ascend 0 car.slots) (listed_cars view) (λ car is. is.ascend) (accepted view law).cars

  -- an object of the world is one that stands
  record IsOf (id : ℕ) (known : Object) : Type 0 where
    at : Addr
    object : kept.Object
    free : is_aside view at.car ≡ false
    here : object_at view.cars at ≡ Some object
    same : object.id ≡ id
    means : known ≡ meaning view object

  is_of : (id : ℕ) (known : Object) → get world_of.heap id ≡ Some known → IsOf id known
  is_of id known is =
      let at = heaps.object_from (listed_cars view) (accepted view law).differ ascend id known is in
      let stands = object_stands view law at.0 at.1 at.2 in
      record {
        at = at.0;
        object = at.1;
        free = stands.0;
        here = stands.1;
        same = at.3;
        means = same_Some known (meaning view at.1) (sym is ∙ ap (get world_of.heap) (sym at.3) ∙ heap_has view law at.0 at.1 stands.0 stands.1);
      }

  given : (id : ℕ) (known : Object) → get world_of.heap id ≡ Some known → id < view.next
  given id known is = let of = is_of id known is in subst (λ n. n < view.next) of.same (law.built.objects of.at of.object of.here).given

  has : (id : ℕ) → IsStanding view id → IsSome (get world_of.heap id)
  has id standing =
      let here = object_of_id (object_at view.cars standing.0) id standing.1.here in
      subst (λ n. IsSome (get world_of.heap n)) here.2 (ap is_some (heap_has view law standing.0 here.0 standing.1.kept here.1))

  stands : (id : ℕ) → IsSome (get world_of.heap id) → IsStanding view id
  stands id some =
      let known = some_here (get world_of.heap id) some in
      let of = is_of id known.0 known.1 in
      (of.at, record { kept = of.free; here = ap (option_map (λ (o : kept.Object). o.id)) of.here ∙ ap Some of.same })

  -- ---- what it names

  register_is : (place : ℕ × ℕ) (o : Option Addr) → get view.registers place ≡ o → option_map (λ a. unwrap_or (named_by view a) 0) o ≡ names view o
  register_is place None is = refl
  register_is place (Some a) is = let leads = law.tied.leads (Handle place.0 place.1) a refl is in some_again (named_by view a) (named_some view law a leads.0 leads.1)
    where
      some_again : (o : Option ℕ) → is_some o ≡ true → Some (unwrap_or o 0) ≡ o
      some_again None some = cc
      some_again (Some id) some = refl

  registers : (place : ℕ × ℕ) → get world_of.registers place ≡ names view (get view.registers place)
  registers place = get-mapped place_cmp (λ a. unwrap_or (named_by view a) 0) view.registers place ∙ register_is place (get view.registers place) refl

  means : Means view world_of
  means = record {
    roots = root_answer view law;
    registers = registers;
    objects = λ a object known free is found. same_Some known (meaning view object) (sym found ∙ heap_has view law a object free is);
  }

  pub world_represents : Represents view world_of
  world_represents = stands_for view world_of law means refl given (λ a object free is none. absurd (no_leftover a object free is none))
    where
      some_none : (x : Object) (o : Option Object) → o ≡ Some x → o ≡ None → ⊥
      some_none x o some none = cc

      no_leftover : (a : Addr) (object : kept.Object) → is_aside view a.car ≡ false → object_at view.cars a ≡ Some object → get world_of.heap object.id ≡ None → ⊥
      no_leftover a object free is none = some_none (meaning view object) (get world_of.heap object.id) (heap_has view law a object free is) none

  -- ---- whatever is named is an object

  root_named : (name : List ℕ) (id : ℕ) (o : Option (ℕ × Addr)) → get view.roots name ≡ o → option_and_then (λ (bound : ℕ × Addr). named_by view bound.1) o ≡ Some id → IsStanding view id
  root_named name id None is leads = cc
  root_named name id (Some bound) is leads = stored_stands view (Root bound.0) bound.1 id law.tied refl (found_by_number view.roots law.named.numbers name bound is) leads

  register_named : (place : ℕ × ℕ) (id : ℕ) (o : Option Addr) → get view.registers place ≡ o → names view o ≡ Some id → IsStanding view id
  register_named place id None is leads = cc
  register_named place id (Some a) is leads = stored_stands view (Handle place.0 place.1) a id law.tied refl is leads

  field_named : (from index to : ℕ) (o : Option Object) → get world_of.heap from ≡ o → heap_words.field_of o index ≡ Some (Some to) → IsStanding view to
  field_named from index to None is holds = cc
  field_named from index to (Some known) is holds =
      let of = is_of from known is in
      let in_object = sym (slice_get-map (names view) of.object.fields index) ∙ sym (ap (λ (k : Object). slice_get k.fields index) of.means) ∙ holds in
      let found = field_found view to (slice_get of.object.fields index) in_object in
      stored_stands view (Field of.at index) found.0 to law.tied (ap not of.free) (ap (λ o. field_of o index) of.here ∙ ap option_flatten found.1) found.2

  graph_closed : IsClosedGraph world_of.heap world_of.roots world_of.next
  graph_closed = record {
    first = law.built.next.0;
    last = law.built.next.1;
    given = λ id known is.
        let of = is_of id known is in
        let object = law.built.objects of.at of.object of.here in
        (subst (λ n. 1 ≤ n) of.same (let first = object.first in omega (arith, first)), given id known is);
    fields = λ from index to holds. has to (field_named from index to (get world_of.heap from) refl holds);
    named = λ name id bound. has id (root_named name id (get view.roots name) refl (sym (root_answer view law name) ∙ bound));
  }

  pub world_closed : IsClosed world_of
  world_closed = record {
    graph = graph_closed;
    registers = λ client reg id is. has id (register_named (client, reg) id (get view.registers (client, reg)) refl (sym (registers (client, reg)) ∙ is));
    settled = empty_closed.settled;
    saving = tt;
  }

  unused : (o : Option Object) → get world_of.heap view.next ≡ o → o ≡ None
  unused None is = refl
  unused (Some known) is = let low = given view.next known is in absurd (omega (arith, low))

  pub has_what_stands : HasWhatStands view world_of
  has_what_stands = record { represents = world_represents; closed = world_closed; unused = unused (get world_of.heap view.next) refl; heap = λ id. (stands id, has id) }
