-- Fields of objects that came in are set, one after another.
use Rattle.std.proofs.Common.{◌≡◌, ℕ, zero, suc, ◌+◌, ◌<◌, ◌≤◌, Bool, true, false, cond, if◌then◌else◌, nat_eq, List, [], ◌∷◌, length, replicate, take, get_or, Option, Some, None, Result, Ok, Err, OnOk, OnErr, refl, sym, ap, subst, ◌∙◌, arith}
use Rattle.std.specs.Option.{IsSome, IsSomeAnd, option_and_then, option_map}
use Rattle.std.specs.Cmp.{nat_cmp_total}
use Rattle.std.specs.FinMap.{get, insert, get-insert}
use Rattle.std.specs.List.{Contains, slice_get, slice_index, slice_set}
use Rattle.std.proofs.Math.Logic.{∥∥₁_elim, ∥∥₁_map}
use Rattle.std.proofs.Props.{props}
use Rattle.std.proofs.lemmas.List.{length-map, length-replicate, take_all}
use Rattle.std.proofs.lemmas.Option.{get_or_from_slice_get, slice_get-get_or}
use Rattle.pm_types.specs.declared.address.Addr.{Addr}
use Rattle.pm_types.specs.declared.object.Object as stored
use Rattle.pm_types.specs.declared.object.Slot.{Slot}
use Rattle.pm_types.specs.declared.object.Slot.TheVariants.{Live, Moved}
use Rattle.pm_types.specs.declared.source.RefSource.{RefSource}
use Rattle.pm_types.specs.declared.source.RefSource.TheVariants.{Root, Handle, Field}
use Rattle.pm_cars.specs.declared.look.Look.TheVariants as looks
use Rattle.pm_cars.specs.Cars.{look_of, object_of}
use Rattle.pm_model.specs.Heap.{Object, Heap, Holds, with_field}
use Rattle.pm_model.specs.World.{World, changing}
use Rattle.pm_view.specs.View.{SpaceView}
use Rattle.pm_view.specs.Reading.{object_at, slot_at, SourceStands}
use Rattle.pm_view.specs.Seen.{seen, IsLive}
use Rattle.pm_view.specs.Counts.{IsStandingAt}
use Rattle.pm_view.specs.Objects.{KeepsObjects}
use Rattle.pm_view.specs.Represents.{Represents, meaning, names}
use Rattle.pm_view.specs.Rows.{spread}
use Rattle.pm_mutate.specs.Young.{LinksToo}
use Rattle.pm_nursery.specs.Escaping.{IsAscending}
use Rattle.pm_nursery.specs.Sweeping.{among}
use Rattle.pm_nursery.proofs.Changed.{among-more}
use Rattle.pm_nursery.proofs.Parts.{found_of, passes, picks}
use Rattle.pm_young.specs.Bringing.{ArePlaces, BringsFields, BringsWhole, ComesWhole, HasAll, HasBlank, HasObject, HoldsWithin, IsPlaceOf, StandsBlank, StandsBlankAt, blank}
use Rattle.pm_young.proofs.Admitted.{one_more, tied_id}
use Rattle.pm_young.proofs.Listed.{among_here, not_before, same_id, itself}

-- ---- the first fields of an object, where the others are null

abbrev pub upto : ℕ → List (Option ℕ) → List (Option ℕ)
upto zero fields = replicate (length fields) None
upto (suc n) [] = []
upto (suc n) (field ∷ fields) = field ∷ upto n fields

many_upto : (n : ℕ) (fields : List (Option ℕ)) → length (upto n fields) ≡ length fields
many_upto zero fields = length-replicate (length fields) None
many_upto (suc n) [] = refl
many_upto (suc n) (field ∷ fields) = let rest = many_upto n fields in omega (arith, rest)

all_upto : (n : ℕ) (fields : List (Option ℕ)) → length fields ≤ n → upto n fields ≡ fields
all_upto zero [] few = refl
all_upto zero (field ∷ fields) few = absurd (omega arith)
all_upto (suc n) [] few = refl
all_upto (suc n) (field ∷ fields) few = ap (λ xs. field ∷ xs) (all_upto n fields (omega arith))

-- one more field, which is null
null_upto : (n : ℕ) (fields : List (Option ℕ)) → slice_get fields n ≡ Some None → upto (suc n) fields ≡ upto n fields
null_upto zero [] is = cc is
null_upto zero (field ∷ fields) is = let null : field ≡ None = cc is in ap (λ (f : Option ℕ). f ∷ replicate (length fields) None) null
null_upto (suc n) [] is = cc is
null_upto (suc n) (field ∷ fields) is = ap (λ xs. field ∷ xs) (null_upto n fields is)

-- or which is set
set_upto : (n : ℕ) (fields : List (Option ℕ)) (value : Option ℕ) → slice_get fields n ≡ Some value → slice_set (upto n fields) n value ≡ upto (suc n) fields
set_upto zero [] value is = cc is
set_upto zero (field ∷ fields) value is = let same : value ≡ field = cc is in ap (λ (f : Option ℕ). f ∷ replicate (length fields) None) same
set_upto (suc n) [] value is = cc is
set_upto (suc n) (field ∷ fields) value is = ap (λ xs. field ∷ xs) (set_upto n fields value is)

-- the object with so many of its fields
abbrev pub filled : ℕ → Object → Object
filled n object = record { fields = upto n object.fields; bytes = object.bytes }

-- ---- what stands

pub keeps_still : (v w : SpaceView) → KeepsObjects v w → (id : ℕ) (a : Addr) → IsStandingAt v id a → IsStandingAt w id a
keeps_still v w keeps id a stands = record { kept = keeps.aside a.car ∙ stands.kept; here = keeps.ids a ∙ stands.here }

pub keeps_on : (v u w : SpaceView) → KeepsObjects v u → KeepsObjects u w → KeepsObjects v w
keeps_on v u w one two = record { trains = two.trains ∙ one.trains; aside = λ car. two.aside car ∙ one.aside car; ids = λ a. two.ids a ∙ one.ids a }

pub keeps_itself : (v : SpaceView) → KeepsObjects v v
keeps_itself v = record { trains = refl; aside = λ car. refl; ids = λ a. refl }

live_look : (o : Option Slot) (id : ℕ) → option_map (λ (object : stored.Object). object.id) (object_of o) ≡ Some id → look_of o ≡ looks.Live
live_look None id is = cc is
live_look (Some (Live object)) id is = refl
live_look (Some (Moved to)) id is = cc is

pub stands_live : (v : SpaceView) (id : ℕ) (a : Addr) → IsStandingAt v id a → IsLive (seen v) a
stands_live v id a stands = (live_look (slot_at v.cars a) id stands.here, stands.kept)

-- ---- a field that may be set

pub stored_there : (o : Option stored.Object) (id : ℕ) → option_map (λ (object : stored.Object). object.id) o ≡ Some id → (object : stored.Object) × (o ≡ Some object) × (object.id ≡ id)
stored_there None id is = cc is
stored_there (Some object) id is = (object, refl, cc is)

got_there : {X : Type 0} (xs : List X) (n : ℕ) → n < length xs → IsSome (slice_get xs n)
got_there [] n inside = absurd (omega arith)
got_there (x ∷ xs) zero inside = refl
got_there (x ∷ xs) (suc n) inside = got_there xs n (omega arith)

source_stands : (v : SpaceView) (world : World) → Represents v world → (id : ℕ) (a : Addr) → IsStandingAt v id a → (known : Object) → get world.heap id ≡ Some known → (n : ℕ) → n < length known.fields → SourceStands v (Field a n)
source_stands v world stands id a at known has n inside =
    let object = stored_there (object_at v.cars a) id at.here in
    let means : known ≡ meaning v object.0 = stands.objects a object.0 known at.kept object.1 (ap (get world.heap) object.2 ∙ has) in
    let many : length known.fields ≡ length object.0.fields = ap (λ (o : Object). length o.fields) means ∙ length-map object.0.fields (names v) in
    (at.kept, subst (λ (o : Option stored.Object). IsSome (option_and_then (λ (it : stored.Object). slice_get it.fields n) o)) (sym object.1) (got_there object.0.fields n (subst (λ m. n < m) many inside)))

stands_once : (v : SpaceView) (a : Addr) (n : ℕ) → IsProp (SourceStands v (Field a n))
stands_once v a n = hlevel props

-- ---- the fields of one object

-- What holds once so many fields of the object at this place of the list are set.
pub record Filling (v u : SpaceView) (objects : Heap) (ids : List ℕ) (index n : ℕ) : Type 0 where
  pub worlds : (world : World) (object : Object) → Represents v world → HasAll world ids
      → get objects (slice_index ids index) ≡ Some object → get world.heap (slice_index ids index) ≡ Some (blank object)
      → (later : World) × Represents u later × HasObject world (slice_index ids index) (filled n object) later
  pub keeps : KeepsObjects v u
  pub next : u.next ≡ v.next

one_here : (world : World) (id : ℕ) (object : Object) → get world.heap id ≡ Some object → HasObject world id object world
one_here world id object is = record { rest = refl; heap = λ q. by q (nat_eq id q) refl }
  where
    by : (q : ℕ) (b : Bool) → nat_eq id q ≡ b → get world.heap q ≡ (if b then Some object else get world.heap q)
    by q true same = ap (get world.heap) (sym (same_id id q same)) ∙ is
    by q false other = refl

pub filling_none : (v : SpaceView) (objects : Heap) (ids : List ℕ) (index : ℕ) → Filling v v objects ids index 0
filling_none v objects ids index = record {
  worlds = λ world object stands all young has. (world, stands, one_here world (slice_index ids index) (blank object) has);
  keeps = keeps_itself v;
  next = refl;
}

-- the object that is there is this one
has_object : (world later : World) (id : ℕ) (object : Object) → HasObject world id object later → get later.heap id ≡ Some object
has_object world later id object has = has.heap id ∙ picks (nat_eq id id) (Some object) (get world.heap id) (itself id)

-- and every other one is there still
has_all : (world later : World) (ids : List ℕ) (id : ℕ) (object : Object) → HasObject world id object later → HasAll world ids → HasAll later ids
has_all world later ids id object has all q is = subst IsSome (sym (has.heap q)) (by (nat_eq id q))
  where
    by : (b : Bool) → IsSome (if b then Some object else get world.heap q)
    by true = refl
    by false = all q is

-- a field that is null
pub filling_null : (v u : SpaceView) (objects : Heap) (ids : List ℕ) (index n : ℕ) (known : Object) → get objects (slice_index ids index) ≡ Some known → slice_get known.fields n ≡ Some None
    → Filling v u objects ids index n → Filling v u objects ids index (n + 1)
filling_null v u objects ids index n known young null so_far = record {
  worlds = λ world object stands all is has.
      let later = so_far.worlds world object stands all is has in
      let one : Some known ≡ Some object = sym young ∙ is in
      let same : known ≡ object = cc one in
      let next : suc n ≡ n + 1 = omega arith in
      let still : filled n object ≡ filled (n + 1) object =
      ap (λ (fields : List (Option ℕ)). record { fields = fields; bytes = object.bytes })
      (sym (null_upto n object.fields (ap (λ (o : Object). slice_get o.fields n) (sym same) ∙ null)) ∙ ap (λ m. upto m object.fields) next) in
      (later.0, later.1, subst (λ (o : Object). HasObject world (slice_index ids index) o later.0) still later.2);
  keeps = so_far.keeps;
  next = so_far.next;
}

-- a field that is set
pub filling_more : (v u w : SpaceView) (objects : Heap) (ids : List ℕ) (index n : ℕ) (known : Object) (to : ℕ) (a b : Addr) → get objects (slice_index ids index) ≡ Some known → slice_get known.fields n ≡ Some (Some to)
    → among ids to ≡ true → IsStandingAt u (slice_index ids index) a → IsStandingAt u to b → LinksToo u a n b w → KeepsObjects u w → w.next ≡ u.next
    → Filling v u objects ids index n → Filling v w objects ids index (n + 1)
filling_more v u w objects ids index n known to a b young value inside here there links keeps next so_far = record {
  worlds = λ world object stands all is has.
      let id = slice_index ids index in
      let later = so_far.worlds world object stands all is has in
      let one : Some known ≡ Some object = sym young ∙ is in
      let same : known ≡ object = cc one in
      let more : suc n ≡ n + 1 = omega arith in
      let set : with_field (filled n object) n (Some to) ≡ filled (n + 1) object =
      ap (λ (fields : List (Option ℕ)). record { fields = fields; bytes = object.bytes })
      (set_upto n object.fields (Some to) (ap (λ (o : Object). slice_get o.fields n) (sym same) ∙ value) ∙ ap (λ m. upto m object.fields) more) in
      let now = links later.0 id to (filled n object) later.1 here.here there.here (has_object world later.0 id (filled n object) later.2) (has_all world later.0 ids id (filled n object) later.2 all to inside) in
      let new = changing later.0 id (with_field (filled n object) n (Some to)) in (
        new,
        now,
        subst (λ (o : Object). HasObject world id o new) set (record {
          rest = ap (λ (x : World). record x { heap = insert later.0.heap id (with_field (filled n object) n (Some to)) }) later.2.rest;
          heap = λ q.
              get-insert nat_cmp_total later.0.heap id (with_field (filled n object) n (Some to)) q
              ∙ (λ j. cond (tied_id q id j) (Some (with_field (filled n object) n (Some to))) (later.2.heap q j))
              ∙ again (nat_eq id q) (Some (filled n object)) (Some (with_field (filled n object) n (Some to))) (get world.heap q);
        }),
      );
  keeps = keeps_on v u w so_far.keeps keeps;
  next = next ∙ so_far.next;
}
  where
    again : (b : Bool) (was now old : Option Object) → cond b now (if b then was else old) ≡ (if b then now else old)
    again true was now old = refl
    again false was now old = refl

-- the field may be set
pub may_link : (v u : SpaceView) (objects : Heap) (ids : List ℕ) (index n : ℕ) (known : Object) (a : Addr) → get objects (slice_index ids index) ≡ Some known → n < length known.fields
    → ∥ StandsBlankAt v objects ids index ∥₁ → IsStandingAt u (slice_index ids index) a → Filling v u objects ids index n → SourceStands u (Field a n)
may_link v u objects ids index n known a young inside stands here so_far =
    ∥∥₁_elim stands (stands_once u a n) (λ it.
    let later = so_far.worlds it.world known it.represents it.all young (it.blank ∙ ap (option_map blank) young) in
    source_stands u later.0 later.1 (slice_index ids index) a here (filled n known) (has_object it.world later.0 (slice_index ids index) (filled n known) later.2) n
    (subst (λ m. n < m) (sym (many_upto n known.fields)) inside))

-- all fields are set
pub filling_all : (v u : SpaceView) (objects : Heap) (ids : List ℕ) (index n : ℕ) (known : Object) → get objects (slice_index ids index) ≡ Some known → length known.fields ≤ n
    → Filling v u objects ids index n → BringsFields v objects ids index u
filling_all v u objects ids index n known young few so_far = λ world object stands all is has.
    let later = so_far.worlds world object stands all is has in
    let one : Some known ≡ Some object = sym young ∙ is in
    let same : known ≡ object = cc one in
    let whole : filled n object ≡ object = ap (λ (fields : List (Option ℕ)). record { fields = fields; bytes = object.bytes }) (all_upto n object.fields (subst (λ (o : Object). length o.fields ≤ n) same few)) in
    (later.0, later.1, subst (λ (o : Object). HasObject world (slice_index ids index) o later.0) whole later.2)

-- ---- what a field holds is among those that came in

pub held_inside : (objects : Heap) (ids : List ℕ) (index n : ℕ) (known : Object) (to : ℕ) → HoldsWithin objects ids → index < length ids → get objects (slice_index ids index) ≡ Some known → n < length known.fields → slice_get known.fields n ≡ Some (Some to) → among ids to ≡ true
held_inside objects ids index n known to within inside young few value =
    let holds : Holds objects (slice_index ids index) to = subst (λ (o : Option Object). IsSomeAnd o (λ object. Contains object.fields (Some to))) (sym young) (n, few, get_or_from_slice_get known.fields n (Some to) (Some to) value) in
    within (slice_index ids index) to (among_here ids index inside) holds

-- where it stands
pub placed : (v u : SpaceView) (ids : List ℕ) (places : List Addr) (id : ℕ) (a : Addr) → ArePlaces v ids places → KeepsObjects v u → IsPlaceOf ids places id a → IsStandingAt u id a
placed v u ids places id a are keeps at = keeps_still v u keeps id a (are at.0 id a at.1 at.2)

-- ---- object after object

-- What holds once so many objects have their fields.
pub record Linking (v u : SpaceView) (objects : Heap) (ids : List ℕ) (i : ℕ) : Type 0 where
  pub worlds : (world : World) → Represents v world → HasBlank world objects ids → (later : World) × Represents u later × ComesWhole world objects (take i ids) later
  pub keeps : KeepsObjects v u
  pub next : u.next ≡ v.next

pub linking_none : (v : SpaceView) (objects : Heap) (ids : List ℕ) → Linking v v objects ids 0
linking_none v objects ids = record {
  worlds = λ world stands has. (world, stands, record { rest = refl; heap = λ q. refl });
  keeps = keeps_itself v;
  next = refl;
}

blank_there : (o : Option Object) → IsSome o → IsSome (option_map blank o)
blank_there None is = cc is
blank_there (Some object) is = refl

module _ (v u : SpaceView) (objects : Heap) (ids : List ℕ) (i : ℕ) (inside : i < length ids) (up : IsAscending ids) (young : (id : ℕ) → among ids id ≡ true → IsSome (get objects id)) (so_far : Linking v u objects ids i) where
  all_there : (world later : World) → HasBlank world objects ids → ComesWhole world objects (take i ids) later → HasAll later ids
  all_there world later has comes q is = subst IsSome (sym (comes.heap q)) (by (among (take i ids) q))
    where
      by : (b : Bool) → IsSome (if b then get objects q else get world.heap q)
      by true = young q is
      by false = subst IsSome (sym (has q is)) (blank_there (get objects q) (young q is))

  still_blank : (world later : World) → HasBlank world objects ids → ComesWhole world objects (take i ids) later → get later.heap (get_or ids i 0) ≡ option_map blank (get objects (get_or ids i 0))
  still_blank world later has comes =
      comes.heap (get_or ids i 0) ∙ passes (among (take i ids) (get_or ids i 0)) (get objects (get_or ids i 0)) (get world.heap (get_or ids i 0)) (not_before ids i up inside)
      ∙ has (get_or ids i 0) (among_here ids i inside)

  pub stands_blank : ∥ StandsBlank v objects ids ∥₁ → ∥ StandsBlankAt u objects ids i ∥₁
  stands_blank known = ∥∥₁_map known (λ it.
      let later = so_far.worlds it.world it.represents it.blank in
      record { world = later.0; represents = later.1; all = all_there it.world later.0 it.blank later.2; blank = still_blank it.world later.0 it.blank later.2 })

  pub linking_more : (w : SpaceView) → BringsFields u objects ids i w → KeepsObjects u w → w.next ≡ u.next → Linking v w objects ids (i + 1)
  linking_more w fields keeps next = record {
    worlds = λ world stands has.
        let id = get_or ids i 0 in
        let object = found_of (get objects id) (young id (among_here ids i inside)) in
        let was = so_far.worlds world stands has in
        let now = fields was.0 object.0 was.1 (all_there world was.0 has was.2) object.1 (still_blank world was.0 has was.2 ∙ ap (option_map blank) object.1) in (
          now.0,
          now.1,
          record {
            rest = now.2.rest ∙ ap (λ (x : World). record x { heap = now.0.heap }) was.2.rest;
            heap = λ q.
                now.2.heap q
                ∙ ap (λ o. if nat_eq id q then Some object.0 else o) (was.2.heap q)
                ∙ one_more (among (take i ids) q) (nat_eq id q) (Some object.0) (get objects q) (get world.heap q) (λ same. sym (ap (get objects) (sym (same_id id q same)) ∙ object.1))
                ∙ ap (λ b. if b then get objects q else get world.heap q) (sym (among-more ids i q inside));
          },
        );
    keeps = keeps_on v u w so_far.keeps keeps;
    next = next ∙ so_far.next;
  }

pub linking_all : (v u : SpaceView) (objects : Heap) (ids : List ℕ) (i : ℕ) → length ids ≤ i → Linking v u objects ids i → BringsWhole v objects ids u
linking_all v u objects ids i few so_far = λ world stands has.
    let later = so_far.worlds world stands has in
    (later.0, later.1, subst (λ (xs : List ℕ). ComesWhole world objects xs later.0) (take_all i ids few) later.2)

-- ---- nothing is given by a source that is set

spread_next : (v : SpaceView) (source : RefSource) (to : Option Addr) → (spread v source to).next ≡ v.next
spread_next v (Root number) None = refl
spread_next v (Root number) (Some a) = refl
spread_next v (Handle client register) to = refl
spread_next v (Field a index) to = refl

pub next_still : {A E : Type 0} (r : Result A E) (v w : SpaceView) (source : RefSource) (to : Option Addr) → OnOk r (w ≡ spread v source to) → OnErr r (w ≡ v) → w.next ≡ v.next
next_still (Ok x) v w source to is same = ap (λ (u : SpaceView). u.next) is ∙ spread_next v source to
next_still (Err e) v w source to is same = ap (λ (u : SpaceView). u.next) same

-- ---- what the loops know

-- the object that was found is there
pub found_young : (o : Option Object) (object : Object) → Some object ≡ o → o ≡ Some object
found_young o object is = sym is

pub never_none : (o : Option Object) → None ≡ o → IsSome o → ⊥
never_none o none is = let never : IsSome {T = Object} None = subst IsSome (sym none) is in cc never

-- a field of it has this value
pub value_at : (read fields : List (Option ℕ)) (n : ℕ) (value : Option ℕ) → read ≡ fields → n < length read → get_or read n None ≡ value → (n < length fields) × (slice_get fields n ≡ Some value)
value_at read fields n value same inside is = (
  subst (λ (xs : List (Option ℕ)). n < length xs) same inside,
  subst (λ (xs : List (Option ℕ)). slice_get xs n ≡ Some value) same (slice_get-get_or read n None inside ∙ ap Some is),
)

-- the place of the identity at this place of the list
pub stands_there : (v : SpaceView) (ids : List ℕ) (places : List Addr) (i : ℕ) (d : Addr) → ArePlaces v ids places → length places ≡ length ids → i < length ids → IsStandingAt v (get_or ids i 0) (get_or places i d)
stands_there v ids places i d are many inside =
    are i (get_or ids i 0) (get_or places i d) (slice_get-get_or ids i 0 inside) (slice_get-get_or places i d (subst (λ n. i < n) (sym many) inside))

-- places stay where objects do
pub places_still : (v u : SpaceView) (ids : List ℕ) (places : List Addr) → KeepsObjects v u → ArePlaces v ids places → ArePlaces u ids places
places_still v u ids places keeps are = λ at id a here there. keeps_still v u keeps id a (are at id a here there)
