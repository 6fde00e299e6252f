-- A source that is set by the write barrier: what the space stands for then.
use Rattle.std.proofs.Common.{◌≡◌, ◌⊎◌, inl, inr, ⊎_elim, ℕ, zero, suc, ◌<◌, ◌==◌, ◌&&◌, Bool, true, false, cond, refl, ap, sym, subst, ◌∙◌, List, [], ◌∷◌, length, slice_set, get_or, Option, Some, None, arith, is_some}
use Rattle.std.specs.Option.{IsSome, IsSomeAnd, option_map, option_and_then}
use Rattle.std.specs.List.{slice_get, Contains}
use Rattle.std.specs.Ordering.{eq_by_cmp, is_eq}
use Rattle.std.specs.Cmp.{eq_by_cmp_equiv, tied_itself}
use Rattle.std.proofs.lemmas.Map.Views.{tells_apart}
use Rattle.std.specs.FinMap.{get, get-insert, get-remove}
use Rattle.std.proofs.lemmas.Bool.{cond-true, cond-false, eqb-true, eq-eqb, and_from, true≢false, both_ways, false_from_ne_true}
use Rattle.std.proofs.lemmas.List.{map-set, length-set, length-map}
use Rattle.pm_types.proofs.Mapped.{get-mapped}
use Rattle.pm_types.specs.Orders.{name_cmp}
use Rattle.pm_types.proofs.Orders.{names_total, names_antisymmetric, places_total}
use Rattle.pm_types.specs.declared.address.Addr.{Addr}
use Rattle.pm_types.specs.declared.object.Object as stored_objects
use Rattle.pm_types.specs.declared.source.RefSource.{RefSource}
use Rattle.pm_types.specs.declared.source.RefSource.TheVariants.{Root, Handle, Field}
use Rattle.pm_cars.specs.Cars as cars
use Rattle.pm_model.specs.Heap.{Object, Heap, Holds, with_field}
use Rattle.pm_model.specs.World.{World, naming, changing}
use Rattle.pm_view.specs.Sources.{same_address}
use Rattle.pm_view.specs.View.{SpaceView}
use Rattle.pm_view.specs.Reading.{object_at, is_aside, named_by, SourceStands}
use Rattle.pm_view.specs.Seen.{seen, MayStore}
use Rattle.pm_view.specs.Law.{HeapLaw}
use Rattle.pm_view.specs.Represents.{names, meaning, IsForgotten, Represents, registered}
use Rattle.pm_view.specs.Rows.{readdressed, spread}
use Rattle.pm_law_commands.proofs.RowLemmas.SameSource.{place_ties}
use Rattle.pm_law_commands.proofs.RowLemmas.News.{at_insert}
use Rattle.pm_law_commands.proofs.RowLemmas.Places.{object_after, item_set, within}
use Rattle.pm_law_commands.proofs.RowLemmas.Stored.{register_after}
use Rattle.pm_law_commands.proofs.RowLemmas.Numbers.{found_by_number}
use Rattle.pm_law_commands.proofs.RowLemmas.Built.{IsReshaped, aside_same}
use Rattle.pm_law_commands.proofs.RowLemmas.Meaning.{named_same, names_same, meaning_same}
use Rattle.pm_law_commands.proofs.RowLemmas.Reaches.{Means, reached_stands}
use Rattle.pm_law_commands.proofs.RowLemmas.SpreadKept.{reshaped_spread, spread_keeps_law}

-- a space that means what a world has, keeps the heap law, and names no leftover stands for the world
pub stands_for : (view : SpaceView) (world : World) → HeapLaw view → Means view world → world.next ≡ view.next
    → ((id : ℕ) (known : Object) → get world.heap id ≡ Some known → id < world.next)
    → ((a : Addr) (object : stored_objects.Object) → is_aside view a.car ≡ false → object_at view.cars a ≡ Some object → get world.heap object.id ≡ None → IsForgotten world object.id)
    → Represents view world
stands_for view world law means next given leftover = record {
  roots = means.roots;
  registers = means.registers;
  next = next;
  given = given;
  objects = means.objects;
  reached = reached_stands view world law.tied (found_by_number view.roots law.named.numbers) means;
  leftover = leftover;
}

some_not_none : {A : Type 0} (x : A) (o : Option A) → o ≡ Some x → o ≡ None → ⊥
some_not_none x o some none = cc

-- an identity that is in the heap and one that is not differ
pub apart_ids : (heap : Heap) (id other : ℕ) → IsSome (get heap id) → get heap other ≡ None → id ≡ other → ⊥
apart_ids heap id other some none same = true≢false (sym some ∙ ap (λ id. is_some (get heap id)) same ∙ ap is_some none)

names_after : (view : SpaceView) (x : RefSource) (to : Option Addr) (o : Option Addr) → names (spread view x to) o ≡ names view o
names_after view x to o = names_same view (spread view x to) (reshaped_spread view x to) o

aside_after : (view : SpaceView) (x : RefSource) (to : Option Addr) (e : ℕ) → is_aside (spread view x to) e ≡ is_aside view e
aside_after view x to e = aside_same view (spread view x to) (reshaped_spread view x to) e

-- ---- registers

names_cond : (view : SpaceView) (b : Bool) (o p : Option Addr) → names view (cond b o p) ≡ cond b (names view o) (names view p)
names_cond view true o p = refl
names_cond view false o p = refl

registers_then : (world : World) (c r : ℕ) (id : Option ℕ) (d s : ℕ) → get (registered world c r id).registers (d, s) ≡ cond ((c == d) && (r == s)) id (get world.registers (d, s))
registers_then world c r None d s = get-remove places_total world.registers (c, r) (d, s) ∙ ap (λ b. cond b None (get world.registers (d, s))) ((eq_by_cmp_equiv places_total).symm (d, s) (c, r) ∙ place_ties c r d s)
registers_then world c r (Some id) d s = get-insert places_total world.registers (c, r) id (d, s) ∙ ap (λ b. cond b (Some id) (get world.registers (d, s))) ((eq_by_cmp_equiv places_total).symm (d, s) (c, r) ∙ place_ties c r d s)

heap_then : (world : World) (c r : ℕ) (id : Option ℕ) → (registered world c r id).heap ≡ world.heap
heap_then world c r None = refl
heap_then world c r (Some id) = refl

roots_then : (world : World) (c r : ℕ) (id : Option ℕ) → (registered world c r id).roots ≡ world.roots
roots_then world c r None = refl
roots_then world c r (Some id) = refl

next_then : (world : World) (c r : ℕ) (id : Option ℕ) → (registered world c r id).next ≡ world.next
next_then world c r None = refl
next_then world c r (Some id) = refl

pub cond_either : {A : Type 0} (b : Bool) (x y z : A) → cond b x y ≡ z → (x ≡ z) ⊎ (y ≡ z)
cond_either true x y z is = inl is
cond_either false x y z is = inr is

module _ (view : SpaceView) (world : World) (c r : ℕ) (to : Option Addr) (law : HeapLaw view) (stands : Represents view world) (at : SourceStands view (Handle c r)) (may : MayStore (seen view) to)
    (known : (id : ℕ) → names view to ≡ Some id → IsSome (get world.heap id)) where
  abbrev t : SpaceView
  t = spread view (Handle c r) to

  abbrev w : World
  w = registered world c r (names view to)

  register_means : Means t w
  register_means = record {
    roots = λ name.
        ap (λ m. get m name) (roots_then world c r (names view to)) ∙ stands.roots name
        ∙ sym (λ i. option_and_then (λ (bound : ℕ × Addr). names_after view (Handle c r) to (Some bound.1) i) (get view.roots name));
    registers = λ place.
        registers_then world c r (names view to) place.0 place.1
        ∙ ap (cond ((c == place.0) && (r == place.1)) (names view to)) (stands.registers place)
        ∙ sym (names_cond view ((c == place.0) && (r == place.1)) to (get view.registers place))
        ∙ ap (names view) (sym (register_after view.registers c r to place.0 place.1))
        ∙ sym (names_after view (Handle c r) to (get t.registers place));
    objects = λ a object it free is found.
        stands.objects a object it (sym (aside_after view (Handle c r) to a.car) ∙ free) is (sym (ap (λ h. get h object.id) (heap_then world c r (names view to))) ∙ found)
        ∙ sym (meaning_same view t (reshaped_spread view (Handle c r) to) object);
  }

  register_leftover : (a : Addr) (object : stored_objects.Object) → is_aside t a.car ≡ false → object_at t.cars a ≡ Some object → get w.heap object.id ≡ None → IsForgotten w object.id
  register_leftover a object free is none =
      let none_then : get world.heap object.id ≡ None = sym (ap (λ h. get h object.id) (heap_then world c r (names view to))) ∙ none in
      let old = stands.leftover a object (sym (aside_after view (Handle c r) to a.car) ∙ free) is none_then in
      record {
        name = λ name named. old.name name (sym (ap (λ m. get m name) (roots_then world c r (names view to))) ∙ named);
        register = λ place held.
            ⊎_elim
            (λ (new : names view to ≡ Some object.id). apart_ids world.heap object.id object.id (known object.id new) none_then refl)
            (λ (was : get world.registers place ≡ Some object.id). old.register place was)
            (cond_either ((c == place.0) && (r == place.1)) (names view to) (get world.registers place) (Some object.id) (sym (registers_then world c r (names view to) place.0 place.1) ∙ held));
        field = λ from holds. old.field from (subst (λ h. Holds h from object.id) (heap_then world c r (names view to)) holds);
      }

  register_given : (id : ℕ) (known : Object) → get w.heap id ≡ Some known → id < w.next
  register_given id known is =
      subst (λ n. id < n) (sym (next_then world c r (names view to)))
      (stands.given id known (sym (ap (λ h. get h id) (heap_then world c r (names view to))) ∙ is))

  -- a register that is set
  pub register_stands : Represents t w
  register_stands = stands_for t w (spread_keeps_law view (Handle c r) to law at tt may) register_means (next_then world c r (names view to) ∙ stands.next) register_given register_leftover

-- ---- names

named_cond : (view : SpaceView) (n : ℕ) (a : Addr) (o : Option (ℕ × Addr)) (b : Bool) → ((bound : ℕ × Addr) → o ≡ Some bound → (bound.0 == n) ≡ b)
    → option_and_then (λ (bound : ℕ × Addr). named_by view bound.1) (option_map (readdressed n a) o) ≡ cond (b && is_some o) (named_by view a) (option_and_then (λ (bound : ℕ × Addr). named_by view bound.1) o)
named_cond view n a None true same = refl
named_cond view n a None false same = refl
named_cond view n a (Some bound) true same = ap (λ b. named_by view (cond b a bound.1)) (same bound refl)
named_cond view n a (Some bound) false same = ap (λ b. named_by view (cond b a bound.1)) (same bound refl)

module _ (view : SpaceView) (world : World) (name : List ℕ) (n id : ℕ) (old a : Addr) (law : HeapLaw view) (stands : Represents view world) (bound : get view.roots name ≡ Some (n, old)) (may : MayStore (seen view) (Some a))
    (called : named_by view a ≡ Some id) (known : IsSome (get world.heap id)) where
  abbrev t_root : SpaceView
  t_root = spread view (Root n) (Some a)

  abbrev w_root : World
  w_root = naming world name id

  root_at : SourceStands view (Root n)
  root_at = ap is_some (found_by_number view.roots law.named.numbers name (n, old) bound)

  -- the name itself
  root_here : (other : List ℕ) → (eq_by_cmp name_cmp other name) ≡ true → Some id ≡ option_and_then (λ (bound : ℕ × Addr). named_by view bound.1) (option_map (readdressed n a) (get view.roots other))
  root_here other is =
      let same : other ≡ name = tells_apart names_antisymmetric other name is in
      sym called ∙ sym (ap (λ b. named_by view (cond b a old)) (eq-eqb n n refl)) ∙ sym (ap (λ o. option_and_then (λ (bound : ℕ × Addr). named_by view bound.1) (option_map (readdressed n a) o)) (ap (get view.roots) same ∙ bound))

  -- another name has another number
  root_apart : (other : List ℕ) → (eq_by_cmp name_cmp other name) ≡ false → (b : ℕ × Addr) → get view.roots other ≡ Some b → (b.0 == n) ≡ false
  root_apart other apart b is =
      false_from_ne_true (b.0 == n) (λ same.
      let one : other ≡ name = law.named.numbers other name n b.1 old (is ∙ ap (λ m. Some (m, b.1)) (eqb-true b.0 n same)) bound in
      both_ways (eq_by_cmp name_cmp other name) apart (subst (λ q. eq_by_cmp name_cmp other q ≡ true) one (ap is_eq (tied_itself names_total other))))

  root_named : (other : List ℕ) (b : Bool) → eq_by_cmp name_cmp other name ≡ b → cond b (Some id) (get world.roots other) ≡ option_and_then (λ (bound : ℕ × Addr). named_by view bound.1) (option_map (readdressed n a) (get view.roots other))
  root_named other true is = root_here other is
  root_named other false is = stands.roots other ∙ sym (named_cond view n a (get view.roots other) false (root_apart other is))

  root_means : Means t_root w_root
  root_means = record {
    roots = λ other.
        get-insert names_total world.roots name id other
        ∙ root_named other (eq_by_cmp name_cmp other name) refl
        ∙ sym (ap (option_and_then (λ (bound : ℕ × Addr). named_by view bound.1)) (get-mapped name_cmp (readdressed n a) view.roots other))
        ∙ sym (λ i. option_and_then (λ (bound : ℕ × Addr). names_after view (Root n) (Some a) (Some bound.1) i) (get t_root.roots other));
    registers = λ place. stands.registers place ∙ sym (names_after view (Root n) (Some a) (get view.registers place));
    objects = λ b object it free is found.
        stands.objects b object it (sym (aside_after view (Root n) (Some a) b.car) ∙ free) is found ∙ sym (meaning_same view t_root (reshaped_spread view (Root n) (Some a)) object);
  }

  root_leftover : (b : Addr) (object : stored_objects.Object) → is_aside t_root b.car ≡ false → object_at t_root.cars b ≡ Some object → get w_root.heap object.id ≡ None → IsForgotten w_root object.id
  root_leftover b object free is none =
      let old_law = stands.leftover b object (sym (aside_after view (Root n) (Some a) b.car) ∙ free) is none in
      record {
        name = λ other named.
            ⊎_elim
            (λ (new : Some id ≡ Some object.id). apart_ids world.heap id object.id known none (let same : id ≡ object.id = cc in same))
            (λ (was : get world.roots other ≡ Some object.id). old_law.name other was)
            (cond_either (eq_by_cmp name_cmp other name) (Some id) (get world.roots other) (Some object.id) (sym (get-insert names_total world.roots name id other) ∙ named));
        register = old_law.register;
        field = old_law.field;
      }

  -- a name that is bound already is bound anew
  pub root_stands : Represents t_root w_root
  root_stands = stands_for t_root w_root (spread_keeps_law view (Root n) (Some a) law root_at refl may) root_means stands.next stands.given root_leftover

-- ---- an object of the world is changed

at_item : {X : Type 0} (xs : List X) (k : ℕ) (x : X) → k < length xs → get_or xs k x ≡ x → slice_get xs k ≡ Some x
at_item [] k x within is = absurd (omega arith)
at_item (y ∷ ys) zero x within is = ap Some is
at_item (y ∷ ys) (suc k) x within is = at_item ys k x (omega arith) is

item_within : {X : Type 0} (xs : List X) (k : ℕ) (x : X) → slice_get xs k ≡ Some x → (k < length xs) × (get_or xs k x ≡ x)
item_within [] k x is = cc
item_within (y ∷ ys) zero x is = (omega arith, cc)
item_within (y ∷ ys) (suc k) x is = let rest = item_within ys k x is in (let inside = rest.0 in omega arith, rest.1)

-- what a list holds where one item was set: the new item, or what it held
held_set : (xs : List (Option ℕ)) (i : ℕ) (v : Option ℕ) (id : ℕ) → i < length xs → Contains (slice_set xs i v) (Some id) → (v ≡ Some id) ⊎ Contains xs (Some id)
held_set xs i v id within held =
    let place = held.0 in
    let inside : place < length xs = subst (λ n. place < n) (length-set xs i v) held.1 in
    let is : cond (i == place) (Some v) (slice_get xs place) ≡ Some (Some id) = sym (item_set xs i place v within) ∙ at_item (slice_set xs i v) place (Some id) held.1 held.2 in
    ⊎_elim
    (λ (new : Some v ≡ Some (Some id)). inl (let same : v ≡ Some id = cc in same))
    (λ (was : slice_get xs place ≡ Some (Some id)). inr (place, inside, (item_within xs place (Some id) was).1))
    (cond_either (i == place) (Some v) (slice_get xs place) (Some (Some id)) is)

holds_known : (o : Option Object) (known : Object) (id : ℕ) → o ≡ Some known → Contains known.fields (Some id) → IsSomeAnd o (λ object. Contains object.fields (Some id))
holds_known None known id is held = cc
holds_known (Some it) known id is held = subst (λ (o : Object). Contains o.fields (Some id)) (let same : known ≡ it = cc in same) held

held_either : (b : Bool) (known : Object) (o : Option Object) (id : ℕ) → IsSomeAnd (cond b (Some known) o) (λ object. Contains object.fields (Some id)) → Contains known.fields (Some id) ⊎ IsSomeAnd o (λ object. Contains object.fields (Some id))
held_either true known o id held = inl held
held_either false known o id held = inr held

-- t is the space with another object at an address, which means what the world's object is then
pub record IsChanged (view t : SpaceView) (world : World) (a : Addr) (o o_then : stored_objects.Object) (it it_then : Object) : Type 0 where
  pub same : IsReshaped view t
  pub roots : t.roots ≡ view.roots
  pub registers : t.registers ≡ view.registers
  pub here : object_at view.cars a ≡ Some o
  pub kept : is_aside view a.car ≡ false
  pub id : o_then.id ≡ o.id
  pub object : (b : Addr) → object_at t.cars b ≡ cond (same_address a b) (Some o_then) (object_at view.cars b)
  pub has : get world.heap o.id ≡ Some it
  pub meaning : it_then ≡ meaning view o_then
  pub known : (id : ℕ) → Contains it_then.fields (Some id) → IsSome (get world.heap id) ⊎ Contains it.fields (Some id)

module _ (view t : SpaceView) (world : World) (a : Addr) (o o_then : stored_objects.Object) (it it_then : Object) (law : HeapLaw view) (law_then : HeapLaw t) (stands : Represents view world) (is : IsChanged view t world a o o_then it it_then) where
  abbrev w_changed : World
  w_changed = changing world o.id it_then

  heap_at : (id : ℕ) → get w_changed.heap id ≡ cond (o.id == id) (Some it_then) (get world.heap id)
  heap_at id = at_insert world.heap o.id it_then id

  meaning_then : it_then ≡ meaning t o_then
  meaning_then = is.meaning ∙ sym (meaning_same view t is.same o_then)

  -- the objects that stand, at the address and elsewhere
  object_here : (object : stored_objects.Object) (found : Object) → Some o_then ≡ Some object → get w_changed.heap object.id ≡ Some found → found ≡ meaning t object
  object_here object found is_here has =
      let same : o_then ≡ object = cc in
      let got : Some it_then ≡ Some found = sym (heap_at o.id ∙ cond-true _ _ _ (eq-eqb o.id o.id refl)) ∙ ap (get w_changed.heap) (sym is.id ∙ ap (λ (p : stored_objects.Object). p.id) same) ∙ has in
      (let one : found ≡ it_then = cc in one) ∙ meaning_then ∙ ap (meaning t) same

  other_id : (b : Addr) (object : stored_objects.Object) → object_at view.cars b ≡ Some object → same_address a b ≡ false → (o.id == object.id) ≡ false
  other_id b object at_b apart =
      false_from_ne_true (o.id == object.id) (λ same.
      let one : a ≡ b = law.built.apart a b o object is.here at_b (eqb-true o.id object.id same) in
      both_ways (same_address a b) apart (subst (λ c. same_address a c ≡ true) one (and_from _ _ (eq-eqb a.car a.car refl) (eq-eqb a.slot a.slot refl))))

  object_either : (b : Addr) (object : stored_objects.Object) (found : Object) (c : Bool) → same_address a b ≡ c → is_aside view b.car ≡ false → cond c (Some o_then) (object_at view.cars b) ≡ Some object → get w_changed.heap object.id ≡ Some found → found ≡ meaning t object
  object_either b object found true same free at_b has = object_here object found at_b has
  object_either b object found false same free at_b has =
      stands.objects b object found free at_b (sym (heap_at object.id ∙ cond-false _ _ _ (other_id b object at_b same)) ∙ has) ∙ sym (meaning_same view t is.same object)

  changed_means : Means t w_changed
  changed_means = record {
    roots = λ name.
        stands.roots name
        ∙ sym (λ j. option_and_then (λ (bound : ℕ × Addr). named_same view t is.same bound.1 j) (get view.roots name))
        ∙ ap (λ m. option_and_then (λ (bound : ℕ × Addr). named_by t bound.1) (get m name)) (sym is.roots);
    registers = λ place. stands.registers place ∙ sym (names_same view t is.same (get view.registers place)) ∙ ap (λ m. names t (get m place)) (sym is.registers);
    objects = λ b object found free at_b has.
        object_either b object found (same_address a b) refl (sym (aside_same view t is.same b.car) ∙ free) (sym (is.object b) ∙ at_b) has;
  }

  -- a leftover that stands stood before, and nothing names it
  missing_either : (id : ℕ) (c : Bool) → cond c (Some it_then) (get world.heap id) ≡ None → get world.heap id ≡ None
  missing_either id true none = cc
  missing_either id false none = none

  missing : (id : ℕ) → get w_changed.heap id ≡ None → get world.heap id ≡ None
  missing id none = missing_either id (o.id == id) (sym (heap_at id) ∙ none)

  was_either : (b : Addr) (object : stored_objects.Object) (c : Bool) → get world.heap object.id ≡ None → cond c (Some o_then) (object_at view.cars b) ≡ Some object → object_at view.cars b ≡ Some object
  was_either b object true none here_is =
      let same : o_then ≡ object = cc in
      absurd (some_not_none it (get world.heap o.id) is.has (ap (get world.heap) (sym is.id ∙ ap (λ (p : stored_objects.Object). p.id) same) ∙ none))
  was_either b object false none was = was

  of_it : (id : ℕ) → get world.heap id ≡ None → IsForgotten world id → Contains it_then.fields (Some id) → ⊥
  of_it id none old held =
      ⊎_elim
      (λ (some : IsSome (get world.heap id)). apart_ids world.heap id id some none refl)
      (λ (was : Contains it.fields (Some id)). old.field o.id (holds_known (get world.heap o.id) it id is.has was))
      (is.known id held)

  changed_leftover : (b : Addr) (object : stored_objects.Object) → is_aside t b.car ≡ false → object_at t.cars b ≡ Some object → get w_changed.heap object.id ≡ None → IsForgotten w_changed object.id
  changed_leftover b object free at_b none =
      let gone = missing object.id none in
      let old = stands.leftover b object (sym (aside_same view t is.same b.car) ∙ free) (was_either b object (same_address a b) gone (sym (is.object b) ∙ at_b)) gone in
      record {
        name = old.name;
        register = old.register;
        field = λ from holds.
            ⊎_elim (λ (new : Contains it_then.fields (Some object.id)). of_it object.id gone old new)
            (λ (was : IsSomeAnd (get world.heap from) (λ k. Contains k.fields (Some object.id))). old.field from was)
            (held_either (o.id == from) it_then (get world.heap from) object.id (subst (λ p. IsSomeAnd p (λ k. Contains k.fields (Some object.id))) (heap_at from) holds));
      }

  given_either : (id : ℕ) (known : Object) (c : Bool) → (o.id == id) ≡ c → cond c (Some it_then) (get world.heap id) ≡ Some known → id < world.next
  given_either id known true same here_is = subst (λ m. m < world.next) (eqb-true o.id id same) (stands.given o.id it is.has)
  given_either id known false apart was = stands.given id known was

  changed_given : (id : ℕ) (known : Object) → get w_changed.heap id ≡ Some known → id < w_changed.next
  changed_given id known found = given_either id known (o.id == id) refl (sym (heap_at id) ∙ found)

  -- an object of the world that is changed
  pub changed_stands : t.next ≡ view.next → Represents t w_changed
  changed_stands next = stands_for t w_changed law_then changed_means (stands.next ∙ sym next) changed_given changed_leftover

-- ---- fields

module _ (view : SpaceView) (world : World) (a : Addr) (i : ℕ) (o : stored_objects.Object) (it : Object) (to : Option Addr) (law : HeapLaw view) (stands : Represents view world) (here : object_at view.cars a ≡ Some o)
    (at : SourceStands view (Field a i)) (may : MayStore (seen view) to) (is_it : get world.heap o.id ≡ Some it) (known : (id : ℕ) → names view to ≡ Some id → IsSome (get world.heap id)) where
  abbrev t_field : SpaceView
  t_field = spread view (Field a i) to

  means_it : it ≡ meaning view o
  means_it = stands.objects a o it at.0 here is_it

  -- the world's object has the field too
  it_within : i < length it.fields
  it_within =
      let inside : i < length o.fields = within o.fields i (subst (λ p. IsSome (option_and_then (λ (o : stored_objects.Object). slice_get o.fields i) p)) here at.1) in
      let lengths : length it.fields ≡ length o.fields = ap (λ (k : Object). length k.fields) means_it ∙ length-map o.fields (names view) in
      subst (λ n. i < n) (sym lengths) inside

  field_known : (id : ℕ) → (names view to ≡ Some id) ⊎ Contains it.fields (Some id) → IsSome (get world.heap id) ⊎ Contains it.fields (Some id)
  field_known id held = ⊎_elim (λ (new : names view to ≡ Some id). inl (known id new)) (λ (was : Contains it.fields (Some id)). inr was) held

  field_changed : IsChanged view t_field world a o (cars.with_field o i to) it (with_field it i (names view to))
  field_changed = record {
    same = reshaped_spread view (Field a i) to;
    roots = refl;
    registers = refl;
    here = here;
    kept = at.0;
    id = refl;
    object = λ b. object_after view.cars a (λ object. cars.with_field object i to) b ∙ ap (λ p. cond (same_address a b) (option_map (λ (object : stored_objects.Object). cars.with_field object i to) p) (object_at view.cars b)) here;
    has = is_it;
    meaning = ap (λ k. with_field k i (names view to)) means_it ∙ (λ j. record { fields = sym (map-set (names view) o.fields i to) j; bytes = o.bytes });
    known = λ id held. field_known id (held_set it.fields i (names view to) id it_within held);
  }

  -- a field of an object of the world is set
  pub field_stands : Represents t_field (changing world o.id (with_field it i (names view to)))
  field_stands = changed_stands view t_field world a o (cars.with_field o i to) it (with_field it i (names view to)) law (spread_keeps_law view (Field a i) to law at tt may) stands field_changed refl
