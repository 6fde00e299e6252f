-- An object that is born keeps the heap law, and the world has it too.
use Rattle.std.proofs.Common.{◌≡◌, ◌⊎◌, inl, inr, ⊎_elim, ℕ, zero, suc, ◌+◌, ◌<◌, ◌≤◌, ◌==◌, ◌&&◌, Bool, true, false, cond, not, refl, ap, sym, subst, ◌∙◌, List, [], ◌∷◌, length, map, Option, Some, None, arith, is_some, get_or}
use Rattle.std.specs.Option.{IsSomeAnd, option_map, option_and_then, option_flatten}
use Rattle.std.specs.List.{sum_by, slice_get, Contains}
use Rattle.std.specs.FinMap.{get, insert, len}
use Rattle.std.proofs.lemmas.Bool.{eqb-true, eq-eqb, both_ways, cond-true, cond-false, false_from_ne_true, and_from}
use Rattle.pm_types.specs.declared.limits.TheConstants.{ROOTS, CAR_HEAD_BYTES, CAR_BYTES}
use Rattle.pm_types.specs.declared.address.Addr.{Addr}
use Rattle.pm_types.specs.declared.object.Object as stored_objects
use Rattle.pm_types.specs.declared.object.Slot.{Slot}
use Rattle.pm_types.specs.declared.object.Slot.TheVariants.{Live, Moved}
use Rattle.pm_types.specs.declared.source.RefSource.{RefSource}
use Rattle.pm_types.specs.declared.source.RefSource.TheVariants.{Root, Handle, Field}
use Rattle.pm_cars.specs.declared.look.Look.{Look}
use Rattle.pm_cars.specs.declared.look.Look.TheVariants as looks
use Rattle.pm_cars.specs.Cars.{Car, IsSoundCar, Fits, Slots, used, object_room, slot_room, one_live, one_moved, total, live_count, moved_count, object_of, look_of, with_birth}
use Rattle.pm_cars.proofs.Rooms.{total_insert, counted}
use Rattle.pm_trains.specs.Trains.{train_of, youngest}
use Rattle.pm_trains.specs.Sound as line
use Rattle.pm_roots.specs.Bindings.{address_at, AllNumbersDiffer}
use Rattle.pm_model.specs.Heap.{Object}
use Rattle.pm_model.specs.World.{World, changing}
use Rattle.pm_view.specs.Sources.{same_address, slot_in}
use Rattle.pm_view.specs.View.{SpaceView}
use Rattle.pm_view.specs.Reading.{slot_at, object_at, field_of, stored, cars_of, is_aside, is_from, followed, resolve, id_at, named_by}
use Rattle.pm_view.specs.Effective.{effective}
use Rattle.pm_view.specs.Seen.{Seen, seen, kept, IsLive, IsTied}
use Rattle.pm_view.specs.Seen as seen_words
use Rattle.pm_view.specs.Counts.{standing_in}
use Rattle.pm_view.specs.Law.{IsCar, IsObject, IsPhaseOf, IsAnchor, HeapLaw}
use Rattle.pm_view.specs.Rows.{MayBeBorn}
use Rattle.pm_view.specs.Represents.{names, meaning, Represents}
use Rattle.pm_law_commands.proofs.RowLemmas.SameSource.{same_address-true}
use Rattle.pm_law_commands.proofs.RowLemmas.News.{at_insert}
use Rattle.pm_law_commands.proofs.RowLemmas.Places.{slot_of}
use Rattle.pm_law_commands.proofs.RowLemmas.Numbers.{found_by_number}
use Rattle.pm_law_commands.proofs.RowLemmas.Reaches.{Means}
use Rattle.pm_law_commands.proofs.RowLemmas.SpreadMeans.{stands_for}

-- ---- what is seen

-- t is s where a place that had nothing is Live, and nothing else differs
pub record IsBornSeen (s t : Seen) (p : Addr) : Type 0 where
  pub stored : (x : RefSource) → t.stored x ≡ s.stored x
  pub aside : (e : ℕ) → t.aside e ≡ s.aside e
  pub from : (e : ℕ) → t.from e ≡ s.from e
  pub effective : (e : ℕ) (x : RefSource) → t.effective e x ≡ s.effective e x
  pub gone : s.look p ≡ looks.Gone
  pub look : (a : Addr) → t.look a ≡ cond (same_address p a) looks.Live (s.look a)

module _ (s t : Seen) (p : Addr) (law : IsTied s) (born : IsBornSeen s t p) where
  same_kept : (x : RefSource) → kept t x ≡ kept s x
  same_kept (Root n) = refl
  same_kept (Handle c r) = refl
  same_kept (Field a i) = ap not (born.aside a.car)

  -- a place that leads somewhere is not the new one
  elsewhere : (a : Addr) (l : Look) → s.look a ≡ l → seen_words.Leads s a l → same_address p a ≡ false
  elsewhere a looks.Gone is leads = absurd leads
  elsewhere a looks.Live is leads = false_from_ne_true (same_address p a) (λ same. let clash : looks.Gone ≡ looks.Live = sym born.gone ∙ ap s.look (same_address-true p a same) ∙ is in cc)
  elsewhere a (looks.Moved b) is leads = false_from_ne_true (same_address p a) (λ same. let clash : looks.Gone ≡ looks.Moved b = sym born.gone ∙ ap s.look (same_address-true p a same) ∙ is in cc)

  look_there : (a : Addr) → same_address p a ≡ false → t.look a ≡ s.look a
  look_there a apart = born.look a ∙ cond-false _ _ _ apart

  live_there : (b : Addr) → IsLive s b → IsLive t b
  live_there b live = (look_there b (elsewhere b looks.Live live.0 tt) ∙ live.0, born.aside b.car ∙ live.1)

  leads_there : (a : Addr) (l : Look) → seen_words.Leads s a l → seen_words.Leads t a l
  leads_there a looks.Live leads = tt
  leads_there a (looks.Moved b) leads = (born.from a.car ∙ leads.0, live_there b leads.1, leads.2)
  leads_there a looks.Gone leads = leads

  pub ties_after_birth : IsTied t
  ties_after_birth = record {
    reads = λ e x free up out.
        born.effective e x ∙ law.reads e x (sym (born.aside e) ∙ free) (sym (same_kept x) ∙ up) out ∙ ap (slot_in e) (sym (born.stored x));
    holds = λ e x n free is. let held = law.holds e x n (sym (born.aside e) ∙ free) (sym (born.effective e x) ∙ is) in (held.0, ap (slot_in e) (born.stored x) ∙ held.1);
    leads = λ x a up is.
        let old = law.leads x a (sym (same_kept x) ∙ up) (sym (born.stored x) ∙ is) in
        (born.aside a.car ∙ old.0, subst (seen_words.Leads t a) (sym (look_there a (elsewhere a (s.look a) refl old.1))) (leads_there a (s.look a) old.1));
    moved = moved_then;
  }
    where
      moved_then : (a b : Addr) → t.aside a.car ≡ false → t.look a ≡ looks.Moved b → seen_words.Leads t a (looks.Moved b)
      moved_then a b free is = by_case (same_address p a) (sym (born.look a) ∙ is)
        where
          by_case : (c : Bool) → cond c looks.Live (s.look a) ≡ looks.Moved b → seen_words.Leads t a (looks.Moved b)
          by_case true is = cc
          by_case false is = leads_there a (looks.Moved b) (law.moved a b (sym (born.aside a.car) ∙ free) is)

-- ---- the space

-- the place of the birth in a car
abbrev pub next_place : ℕ → Car → Addr
next_place c car = record { car = c; slot = car.next }

-- t is the space with the object in the next slot of the car c, which stood, or is new and had no slot
pub record IsBirth (view t : SpaceView) (c : ℕ) (car : Car) (object : stored_objects.Object) : Type 0 where
  pub cars : (n : ℕ) → get t.cars n ≡ cond (c == n) (Some (with_birth car object)) (get view.cars n)
  pub held : (slot : ℕ) → slot_of (get view.cars c) slot ≡ get car.slots slot
  pub numbered : car.number ≡ c
  pub from_one : 0 < c
  pub sound : IsSoundCar car
  pub unmoved : moved_count car ≡ 0
  pub fits : Fits car (object_room object)
  pub free : is_aside view c ≡ false
  pub aside : (e : ℕ) → is_aside t e ≡ is_aside view e
  pub linked : (e : ℕ) → is_some (train_of t.trains.trains e) ≡ is_some (get t.cars e)
  pub sets : (e : ℕ) → is_some (get t.sets e) ≡ is_some (get t.cars e)
  pub queues : (e : ℕ) → is_some (get t.queues e) ≡ is_some (get t.cars e)
  pub effective : (e : ℕ) (x : RefSource) → effective t e x ≡ effective view e x
  pub trains : line.AreSoundTrains t.trains
  pub births : t.trains.births ≤ sum_by (standing_in t) (cars_of t.trains.trains (youngest t.trains.trains))
  pub roots : t.roots ≡ view.roots
  pub registers : t.registers ≡ view.registers
  pub from : (e : ℕ) → is_from t e ≡ is_from view e
  pub phase : IsPhaseOf t.phase t.trains.trains t.anchor
  pub anchor : (a : Addr) (to : ℕ) → t.anchor ≡ Some (a, to) → IsAnchor view a to
  pub anchored : (a : Addr) (to : ℕ) → IsAnchor view a to → (is_some (object_at t.cars a) ≡ true) → IsAnchor t a to
  pub next : t.next ≡ view.next

born_slot : (b d : Bool) (car : Car) (o : Option Car) (object : stored_objects.Object) (slot : ℕ) → (car.next == slot) ≡ d → (b ≡ true → slot_of o slot ≡ get car.slots slot)
    → slot_of (cond b (Some (with_birth car object)) o) slot ≡ cond (b && d) (Some (Live object)) (slot_of o slot)
born_slot true d car o object slot is held = at_insert car.slots car.next (Live object) slot ∙ (λ i. cond (is i) (Some (Live object)) (sym (held refl) i))
born_slot false d car o object slot is held = refl

counted_none : (f : Slot → ℕ) (o : Option Slot) → o ≡ None → counted f o ≡ 0
counted_none f None none = refl
counted_none f (Some w) none = cc

total_born : (f : Slot → ℕ) (slots : Slots) (k : ℕ) (w : Slot) → get slots k ≡ None → total f (insert slots k w) ≡ total f slots + f w
total_born f slots k w none =
    let law = total_insert f slots k w in
    let zero_held = counted_none f (get slots k) none in
    omega arith

-- a car has one more object after a birth
pub live_after : (car : Car) (object : stored_objects.Object) → IsSoundCar car → live_count (with_birth car object) ≡ live_count car + 1
live_after car object sound = total_born one_live car.slots car.next (Live object) (sound.below car.next (omega arith))

object_cond : (b : Bool) (object : stored_objects.Object) (o : Option Slot) → object_of (cond b (Some (Live object)) o) ≡ cond b (Some object) (object_of o)
object_cond true object o = refl
object_cond false object o = refl

look_cond : (b : Bool) (object : stored_objects.Object) (o : Option Slot) → look_of (cond b (Some (Live object)) o) ≡ cond b looks.Live (look_of o)
look_cond true object o = refl
look_cond false object o = refl

field_cond : (b : Bool) (object : stored_objects.Object) (o : Option stored_objects.Object) (i : ℕ) → (b ≡ true → field_of o i ≡ None) → field_of (Some object) i ≡ None → field_of (cond b (Some object) o) i ≡ field_of o i
field_cond true object o i was null = null ∙ sym (was refl)
field_cond false object o i was null = refl

module _ (view t : SpaceView) (c : ℕ) (car : Car) (object : stored_objects.Object) (law : HeapLaw view) (may : MayBeBorn view object) (birth : IsBirth view t c car object) where
  abbrev p : Addr
  p = next_place c car

  -- the place had nothing
  nothing_there : slot_at view.cars p ≡ None
  nothing_there = birth.held car.next ∙ birth.sound.below car.next (omega arith)

  slot_then : (a : Addr) → slot_at t.cars a ≡ cond (same_address p a) (Some (Live object)) (slot_at view.cars a)
  slot_then a =
      ap (λ o. slot_of o a.slot) (birth.cars a.car)
      ∙ born_slot (c == a.car) (car.next == a.slot) car (get view.cars a.car) object a.slot refl
      (λ here. ap (λ e. slot_of (get view.cars e) a.slot) (sym (eqb-true c a.car here)) ∙ birth.held a.slot)

  -- the object is at its place
  pub born_here : slot_at t.cars p ≡ Some (Live object)
  born_here = slot_then p ∙ cond-true _ _ _ (and_from _ _ (eq-eqb c c refl) (eq-eqb car.next car.next refl))

  object_then : (a : Addr) → object_at t.cars a ≡ cond (same_address p a) (Some object) (object_at view.cars a)
  object_then a = ap object_of (slot_then a) ∙ object_cond (same_address p a) object (slot_at view.cars a)

  -- no object was there, and each other one stays
  pub none_before : id_at view p ≡ None
  none_before = ap (option_map (λ (o : stored_objects.Object). o.id)) (ap object_of nothing_there)

  pub others_stay : (a : Addr) → same_address p a ≡ false → id_at t a ≡ id_at view a
  others_stay a apart = ap (option_map (λ (o : stored_objects.Object). o.id)) (object_then a ∙ cond-false _ _ _ apart)

  was_gone : (a : Addr) → same_address p a ≡ true → object_at view.cars a ≡ None
  was_gone a same = ap object_of (ap (slot_at view.cars) (sym (same_address-true p a same)) ∙ nothing_there)

  stored_then : (x : RefSource) → stored t x ≡ stored view x
  stored_then (Root k) = ap (λ m. address_at m k) birth.roots
  stored_then (Handle d r) = ap (λ m. get m (d, r)) birth.registers
  stored_then (Field a i) = ap (λ o. field_of o i) (object_then a) ∙ field_cond (same_address p a) object (object_at view.cars a) i (λ same. ap (λ o. field_of o i) (was_gone a same)) (may.null i)

  pub is_born : IsBornSeen (seen view) (seen t) p
  is_born = record {
    stored = stored_then;
    aside = birth.aside;
    from = birth.from;
    effective = birth.effective;
    gone = ap look_of nothing_there;
    look = λ a. ap look_of (slot_then a) ∙ look_cond (same_address p a) object (slot_at view.cars a);
  }

  -- the car
  live_then : live_count (with_birth car object) ≡ live_count car + 1
  live_then = live_after car object birth.sound

  moved_then : moved_count (with_birth car object) ≡ 0
  moved_then = total_born one_moved car.slots car.next (Live object) (birth.sound.below car.next (omega arith)) ∙ ap (λ n. n + 0) birth.unmoved

  sound_then : IsSoundCar (with_birth car object)
  sound_then =
      let room = total_born slot_room car.slots car.next (Live object) (birth.sound.below car.next (omega arith)) in
      let fits = birth.fits in
      record {
        room = let sum : used (with_birth car object) ≡ used car + object_room object = (ap (λ n. CAR_HEAD_BYTES + n) room ∙ omega arith) in subst (λ n. n ≤ CAR_BYTES) (sym sum) fits.0;
        next = let low = fits.1 in omega arith;
        below = λ slot after. at_insert car.slots car.next (Live object) slot ∙ later slot after;
      }
    where
      later : (slot : ℕ) → car.next + 1 ≤ slot → cond (car.next == slot) (Some (Live object)) (get car.slots slot) ≡ None
      later slot after = cond-false _ _ _ (false_from_ne_true (car.next == slot) (λ same. let here = eqb-true car.next slot same in omega (arith, here, after))) ∙ birth.sound.below slot (omega (arith, after))

  car_then : (n : ℕ) (d : Car) → get t.cars n ≡ Some d → IsCar t n d
  car_then n d is = by_case (c == n) refl (sym (birth.cars n) ∙ is)
    where
      here : c ≡ n → with_birth car object ≡ d → IsCar t n d
      here one same =
          subst (IsCar t n) same
          (record { numbered = birth.numbered ∙ one; from_one = subst (λ n. 0 < n) one birth.from_one; sound = sound_then; live = λ from free. subst (λ m. 0 < m) (sym live_then) (omega arith); moved = λ from. moved_then })

      by_case : (b : Bool) → (c == n) ≡ b → cond b (Some (with_birth car object)) (get view.cars n) ≡ Some d → IsCar t n d
      by_case true same is = here (eqb-true c n same) (let one : with_birth car object ≡ d = cc in one)
      by_case false apart is =
          let was = law.built.cars n d is in
          record { numbered = was.numbered; from_one = was.from_one; sound = was.sound; live = λ from free. was.live (sym (birth.from n) ∙ from) (sym (birth.aside n) ∙ free); moved = λ from. was.moved (sym (birth.from n) ∙ from) }

  -- the objects
  either_object : (a : Addr) (o : stored_objects.Object) → object_at t.cars a ≡ Some o → ((p ≡ a) × (object ≡ o)) ⊎ (object_at view.cars a ≡ Some o)
  either_object a o is = by_case (same_address p a) refl (sym (object_then a) ∙ is)
    where
      by_case : (b : Bool) → same_address p a ≡ b → cond b (Some object) (object_at view.cars a) ≡ Some o → ((p ≡ a) × (object ≡ o)) ⊎ (object_at view.cars a ≡ Some o)
      by_case true same is = inl (same_address-true p a same, let one : object ≡ o = cc in one)
      by_case false same is = inr is

  object_law : (a : Addr) (o : stored_objects.Object) → object_at t.cars a ≡ Some o → IsObject t o
  object_law a o is =
      ⊎_elim
      (λ (new : (p ≡ a) × (object ≡ o)). subst (IsObject t) new.1 (record { first = may.first; given = subst (λ n. object.id < n) (sym birth.next) may.given; fields = may.fields; bytes = may.bytes }))
      (λ (old : object_at view.cars a ≡ Some o). let was = law.built.objects a o old in record { first = was.first; given = subst (λ n. o.id < n) (sym birth.next) was.given; fields = was.fields; bytes = was.bytes })
      (either_object a o is)

  new_id : (b : Addr) (o q : stored_objects.Object) → object ≡ o → object_at view.cars b ≡ Some q → o.id ≡ q.id → ⊥
  new_id b o q new old same = both_ways (q.id == object.id) (may.unused b q old) (eq-eqb q.id object.id (sym same ∙ ap (λ (o : stored_objects.Object). o.id) (sym new)))

  apart_then : (a b : Addr) (o q : stored_objects.Object) → object_at t.cars a ≡ Some o → object_at t.cars b ≡ Some q → o.id ≡ q.id → a ≡ b
  apart_then a b o q at_a at_b same =
      ⊎_elim
      (λ (new_a : (p ≡ a) × (object ≡ o)).
      ⊎_elim (λ (new_b : (p ≡ b) × (object ≡ q)). sym new_a.0 ∙ new_b.0) (λ (old_b : object_at view.cars b ≡ Some q). absurd (new_id b o q new_a.1 old_b same)) (either_object b q at_b))
      (λ (old_a : object_at view.cars a ≡ Some o).
      ⊎_elim (λ (new_b : (p ≡ b) × (object ≡ q)). absurd (new_id a q o new_b.1 old_a (sym same))) (λ (old_b : object_at view.cars b ≡ Some q). law.built.apart a b o q old_a old_b same) (either_object b q at_b))
      (either_object a o at_a)

  some_object : (a : Addr) → is_some (object_at view.cars a) ≡ true → is_some (object_at t.cars a) ≡ true
  some_object a some = ap is_some (object_then a) ∙ by_case (same_address p a)
    where
      by_case : (b : Bool) → is_some (cond b (Some object) (object_at view.cars a)) ≡ true
      by_case true = refl
      by_case false = some

  -- an object that is born keeps the heap law
  pub birth_keeps_law : HeapLaw t
  birth_keeps_law = record {
    built = record {
      trains = birth.trains;
      linked = birth.linked;
      sets = birth.sets;
      queues = birth.queues;
      cars = car_then;
      objects = object_law;
      apart = apart_then;
      next = subst (λ n. (1 ≤ n) × (n ≤ 4294967296)) (sym birth.next) law.built.next;
      births = birth.births;
    };
    named = record {
      numbers = subst AllNumbersDiffer (sym birth.roots) law.named.numbers;
      few = subst (λ m. len m ≤ ROOTS) (sym birth.roots) law.named.few;
      registers = λ d r a is. law.named.registers d r a (sym (ap (λ m. get m (d, r)) birth.registers) ∙ is);
    };
    tied = ties_after_birth (seen view) (seen t) p law.tied is_born;
    phase = birth.phase;
    anchor = λ a to is. let was = birth.anchor a to is in birth.anchored a to was (some_object a was.live);
  }

  -- ---- what the space stands for

  resolve_there : (a : Addr) (o : Option Slot) → slot_at view.cars a ≡ o → seen_words.Leads (seen view) a (look_of o) → (resolve t a ≡ resolve view a) × (same_address p (resolve view a) ≡ false)
  resolve_there a None is leads = absurd leads
  resolve_there a (Some (Live it)) is leads =
      let apart = elsewhere (seen view) (seen t) p law.tied is_born a looks.Live (ap look_of is) tt in
      let same : slot_at t.cars a ≡ slot_at view.cars a = slot_then a ∙ cond-false _ _ _ apart in
      (ap (λ o. followed o a) same, subst (λ o. same_address p (followed o a) ≡ false) (sym is) apart)
  resolve_there a (Some (Moved to)) is leads =
      let apart = elsewhere (seen view) (seen t) p law.tied is_born a (looks.Moved to) (ap look_of is) leads in
      let same : slot_at t.cars a ≡ slot_at view.cars a = slot_then a ∙ cond-false _ _ _ apart in
      (ap (λ o. followed o a) same, subst (λ o. same_address p (followed o a) ≡ false) (sym is) (elsewhere (seen view) (seen t) p law.tied is_born to looks.Live leads.1.0 tt))

  -- an address that is stored names the object that it named
  named_there : (x : RefSource) (a : Addr) → kept (seen view) x ≡ true → stored view x ≡ Some a → named_by t a ≡ named_by view a
  named_there x a up is =
      let there = resolve_there a (slot_at view.cars a) refl (law.tied.leads x a up is).1 in
      ap (id_at t) there.0 ∙ ap (option_map (λ (o : stored_objects.Object). o.id)) (object_then (resolve view a) ∙ cond-false _ _ _ there.1)

  names_there : (x : RefSource) (o : Option Addr) → kept (seen view) x ≡ true → stored view x ≡ o → names t o ≡ names view o
  names_there x None up is = refl
  names_there x (Some a) up is = named_there x a up is

  item_names : (fields : List (Option Addr)) (a : Addr) (n : ℕ) → ((i : ℕ) → (f : Option Addr) → slice_get fields i ≡ Some f → stored view (Field a (n + i)) ≡ f) → is_aside view a.car ≡ false → map (names t) fields ≡ map (names view) fields
  item_names [] a n stored_at free = refl
  item_names (f ∷ fields) a n stored_at free = λ j.
      names_there (Field a (n + 0)) f (ap not free) (stored_at 0 f refl) j
      ∷ item_names fields a (n + 1) (λ i g is. ap (λ m. stored view (Field a m)) (let same : n + 1 + i ≡ n + suc i = omega arith in same) ∙ stored_at (suc i) g is) free j

  meaning_there : (a : Addr) (o : stored_objects.Object) → object_at view.cars a ≡ Some o → is_aside view a.car ≡ false → meaning t o ≡ meaning view o
  meaning_there a o is free = λ j. record {
    fields = item_names o.fields a 0 (λ i f found. ap (λ m. stored view (Field a m)) (let same : 0 + i ≡ i = omega arith in same) ∙ ap (λ q. field_of q i) is ∙ ap option_flatten found) free j;
    bytes = o.bytes;
  }

  null_names : (fields : List (Option Addr)) → ((i : ℕ) → option_flatten (slice_get fields i) ≡ None) → map (names t) fields ≡ map (names view) fields
  null_names [] null = refl
  null_names (f ∷ fields) null = λ j. null_name f (null 0) j ∷ null_names fields (λ i. null (suc i)) j
    where
      null_name : (f : Option Addr) → f ≡ None → names t f ≡ names view f
      null_name None is = refl
      null_name (Some a) is = cc

  no_name : (fields : List (Option Addr)) → ((i : ℕ) → option_flatten (slice_get fields i) ≡ None) → (id : ℕ) → Contains (map (names view) fields) (Some id) → ⊥
  no_name fields null id held = absurd_at fields null held.0 held.1 held.2
    where
      null_is : (f : Option Addr) → f ≡ None → names view f ≡ Some id → ⊥
      null_is None is named = cc
      null_is (Some a) is named = cc

      absurd_at : (fields : List (Option Addr)) → ((i : ℕ) → option_flatten (slice_get fields i) ≡ None) → (k : ℕ) → k < length (map (names view) fields) → get_or (map (names view) fields) k (Some id) ≡ Some id → ⊥
      absurd_at [] null k within is = omega (arith, within)
      absurd_at (f ∷ fields) null zero within is = null_is f (null 0) is
      absurd_at (f ∷ fields) null (suc k) within is = absurd_at fields (λ i. null (suc i)) k (omega (arith, within)) is

  module _ (world : World) (it : Object) (stands : Represents view world) (unknown : get world.heap object.id ≡ None) (means : it ≡ meaning view object) where
    abbrev w_born : World
    w_born = changing world object.id it

    heap_born : (id : ℕ) → get w_born.heap id ≡ cond (object.id == id) (Some it) (get world.heap id)
    heap_born id = at_insert world.heap object.id it id

    root_there : (name : List ℕ) (o : Option (ℕ × Addr)) → get view.roots name ≡ o → option_and_then (λ (bound : ℕ × Addr). named_by view bound.1) o ≡ option_and_then (λ (bound : ℕ × Addr). named_by t bound.1) o
    root_there name None is = refl
    root_there name (Some bound) is = sym (named_there (Root bound.0) bound.1 refl (found_by_number view.roots law.named.numbers name bound is))

    new_means : (o : stored_objects.Object) (known : Object) → object ≡ o → get w_born.heap o.id ≡ Some known → known ≡ meaning t o
    new_means o known new found =
        let got : Some it ≡ Some known = sym (heap_born object.id ∙ cond-true _ _ _ (eq-eqb object.id object.id refl)) ∙ ap (λ (q : stored_objects.Object). get w_born.heap q.id) new ∙ found in
        let one : it ≡ known = cc in
        sym one ∙ means ∙ sym (λ j. record { fields = null_names object.fields may.null j; bytes = object.bytes }) ∙ ap (meaning t) new

    old_means : (a : Addr) (o : stored_objects.Object) (known : Object) → is_aside view a.car ≡ false → object_at view.cars a ≡ Some o → get w_born.heap o.id ≡ Some known → known ≡ meaning t o
    old_means a o known free is found =
        let other : (object.id == o.id) ≡ false = false_from_ne_true (object.id == o.id) (λ same. both_ways (o.id == object.id) (may.unused a o is) (eq-eqb o.id object.id (sym (eqb-true object.id o.id same)))) in
        stands.objects a o known free is (sym (heap_born o.id ∙ cond-false _ _ _ other) ∙ found) ∙ sym (meaning_there a o is free)

    born_means : Means t w_born
    born_means = record {
      roots = λ name. stands.roots name ∙ root_there name (get view.roots name) refl ∙ ap (λ m. option_and_then (λ (bound : ℕ × Addr). named_by t bound.1) (get m name)) (sym birth.roots);
      registers = λ place. stands.registers place ∙ sym (names_there (Handle place.0 place.1) (get view.registers place) refl refl) ∙ ap (λ m. names t (get m place)) (sym birth.registers);
      objects = λ a o known free is found.
          ⊎_elim (λ (new : (p ≡ a) × (object ≡ o)). new_means o known new.1 found) (λ (old : object_at view.cars a ≡ Some o). old_means a o known (sym (birth.aside a.car) ∙ free) old found) (either_object a o is);
    }

    was_none : (id : ℕ) (b : Bool) → cond b (Some it) (get world.heap id) ≡ None → get world.heap id ≡ None
    was_none id true none = cc
    was_none id false none = none

    not_new : (o : stored_objects.Object) → object ≡ o → get w_born.heap o.id ≡ None → ⊥
    not_new o new none = let clash : Some it ≡ None = sym (heap_born object.id ∙ cond-true _ _ _ (eq-eqb object.id object.id refl)) ∙ ap (λ (q : stored_objects.Object). get w_born.heap q.id) new ∙ none in cc

    held_born : (b : Bool) (o : Option Object) (id : ℕ) → IsSomeAnd (cond b (Some it) o) (λ k. Contains k.fields (Some id)) → IsSomeAnd o (λ k. Contains k.fields (Some id)) ⊎ Contains it.fields (Some id)
    held_born true o id held = inr held
    held_born false o id held = inl held

    given_born : world.next ≡ view.next → (id : ℕ) (known : Object) (b : Bool) → (object.id == id) ≡ b → cond b (Some it) (get world.heap id) ≡ Some known → id < world.next
    given_born next id known true same is = subst (λ n. id < n) (sym next) (subst (λ m. m < view.next) (eqb-true object.id id same) may.given)
    given_born next id known false apart is = stands.given id known is

    -- and the world has the object too
    pub birth_stands : world.next ≡ view.next → Represents t w_born
    birth_stands next = stands_for t w_born birth_keeps_law born_means (next ∙ sym birth.next)
        (λ id known is. given_born next id known (object.id == id) refl (sym (heap_born id) ∙ is))
        (λ a o free is none.
        let gone = was_none o.id (object.id == o.id) (sym (heap_born o.id) ∙ none) in
        ⊎_elim
        (λ (new : (p ≡ a) × (object ≡ o)). absurd (not_new o new.1 none))
        (λ (old : object_at view.cars a ≡ Some o).
        let was = stands.leftover a o (sym (birth.aside a.car) ∙ free) old gone in
        record {
          name = was.name;
          register = was.register;
          field = λ from holds.
              ⊎_elim (λ (there : IsSomeAnd (get world.heap from) (λ k. Contains k.fields (Some o.id))). was.field from there)
              (λ (new : Contains it.fields (Some o.id)). no_name object.fields may.null o.id (subst (λ (k : Object). Contains k.fields (Some o.id)) means new))
              (held_born (object.id == from) (get world.heap from) o.id (subst (λ k. IsSomeAnd k (λ k. Contains k.fields (Some o.id))) (heap_born from) holds));
        })
        (either_object a o is))
