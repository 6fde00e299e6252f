-- An object that moves: the heap law is kept, and what the space stands for.
use Rattle.std.proofs.Common.{◌≡◌, ⊎_elim, ℕ, suc, ◌+◌, ◌≤◌, ◌==◌, ◌&&◌, Bool, true, false, cond, not, refl, ap, sym, subst, ◌∙◌, List, [], ◌∷◌, ◌++◌, map, length, Option, Some, None, arith, is_some}
use Rattle.std.specs.Option.{IsSome, option_map, option_and_then, option_flatten, unwrap_or}
use Rattle.std.specs.List.{slice_get}
use Rattle.std.specs.FinMap.{get, len, empty}
use Rattle.std.proofs.lemmas.Bool.{eqb-true, eq-eqb, cond-true, cond-false, cases_Bool, both_ways, false_from_ne_true}
use Rattle.std.proofs.lemmas.List.{length-map, length-append}
use Rattle.std.proofs.lemmas.Option.{slice_get-map}
use Rattle.pm_types.specs.declared.limits.TheConstants.{ROOTS, FIELDS}
use Rattle.pm_types.specs.declared.address.Addr.{Addr}
use Rattle.pm_types.specs.declared.object.Object.{Object}
use Rattle.pm_types.specs.declared.object.Slot.{Slot}
use Rattle.pm_types.specs.declared.object.Slot.TheVariants.{Live, Moved}
use Rattle.pm_types.specs.declared.source.RefSource.{RefSource}
use Rattle.pm_types.specs.declared.source.RefSource.TheVariants.{Root, Handle, Field}
use Rattle.pm_types.specs.declared.source.Change.{Change}
use Rattle.pm_cars.specs.Cars.{Car, one_live, live_count, object_of, look_of, with_birth, with_slot}
use Rattle.pm_cars.specs.declared.look.Look.TheVariants as looks
use Rattle.pm_trains.specs.Trains.{train_of}
use Rattle.pm_roots.specs.Bindings.{address_at, AllNumbersDiffer}
use Rattle.pm_view.specs.Sources.{same_address, is_field_at, slot_in}
use Rattle.pm_view.specs.View.{SpaceView}
use Rattle.pm_view.specs.Reading.{slot_at, object_at, field_of, stored, followed, resolve, id_at, named_by, is_aside}
use Rattle.pm_view.specs.Effective.{effective, effective_in}
use Rattle.pm_view.specs.Barrier.{left, entered, news}
use Rattle.pm_view.specs.Counts.{IsPlaced, live_in}
use Rattle.pm_view.specs.Seen.{seen, kept}
use Rattle.pm_view.specs.Seen as seen_words
use Rattle.pm_view.specs.Law.{IsPhaseOf, IsAnchor, IsNamed, HeapLaw}
use Rattle.pm_view.specs.Represents.{names}
use Rattle.pm_view.specs.Candidates.{set_of, queue_of}
use Rattle.pm_view.specs.Collecting.{field_news, move_news, settled}
use Rattle.pm_law_commands.proofs.RowLemmas.SameSource.{same_address-true}
use Rattle.pm_law_commands.proofs.RowLemmas.Spreading.{hears, heard_change, changed}
use Rattle.pm_law_commands.proofs.RowLemmas.News.{news-append, as_changes, get-told}
use Rattle.pm_law_commands.proofs.RowLemmas.Places.{slot_of, object_after}
use Rattle.pm_law_commands.proofs.RowLemmas.Shapes.{IsShaped}
use Rattle.pm_law_commands.proofs.RowLemmas.Built.{IsReshaped, built_still}
use Rattle.pm_law_commands.proofs.RowLemmas.Meaning.{named_same}
use Rattle.pm_law_commands.proofs.RowLemmas.Numbers.{found_by_number}
use Rattle.pm_law_commands.proofs.RowLemmas.Spread.{leads_to_car, live_to_car, not_in}
use Rattle.pm_law_commands.proofs.RowLemmas.SpreadKept.{reshaped_object}
use Rattle.pm_law_collect.proofs.PhasesLemmas.Small.{some_same, none_some, turned, shaped_live}
use Rattle.pm_law_collect.proofs.PhasesLemmas.MeansSame.{MeansSame, IsSameAs, Keeps, keeps}
use Rattle.pm_law_collect.proofs.PhasesLemmas.Stays.{Stays, none}
use Rattle.pm_law_collect.proofs.PhasesLemmas.Withdrawn.{same_itself, news_of_left}
use Rattle.pm_law_collect.proofs.MovesLemmas.MoveNews.{news_of_entered, moved_from, moved_to, moved_apart}
use Rattle.pm_law_collect.proofs.MovesLemmas.MoveSeen.{resolved, IsMove, MayMove, law_after_move, go_live}
use Rattle.pm_law_collect.proofs.MovesLemmas.PutAway.{next_place, IsPut, slot_put, nothing_there, places_apart, was_here, old_moved, new_live, other_slot, none_aside, none_aside_then, from_is, from_then, either_object, put_built, total_set}
use Rattle.pm_law_collect.specs.Moves.Moved.{HasMoved}

followed_is : (o : Option Slot) (a : Addr) → followed o a ≡ resolved (look_of o) a
followed_is None a = refl
followed_is (Some (Live object)) a = refl
followed_is (Some (Moved b)) a = refl

same_items : {X Y : Type 0} (f g : X → Y) (xs : List X) → ((i : ℕ) (x : X) → slice_get xs i ≡ Some x → f x ≡ g x) → map f xs ≡ map g xs
same_items f g [] same = refl
same_items f g (x ∷ xs) same = λ j. same 0 x refl j ∷ same_items f g xs (λ i y is. same (suc i) y is) j

twice_mapped : {X Y Z : Type 0} (f : Y → Z) (g : X → Y) (xs : List X) → map f (map g xs) ≡ map (λ x. f (g x)) xs
twice_mapped f g [] = refl
twice_mapped f g (x ∷ xs) = ap (λ ys. f (g x) ∷ ys) (twice_mapped f g xs)

flat_mapped : (go : Addr → Addr) (o : Option (Option Addr)) → option_flatten (option_map (option_map go) o) ≡ option_map go (option_flatten o)
flat_mapped go None = refl
flat_mapped go (Some o) = refl

told_some : (o : Option (List Change)) (n : List Change) → is_some (option_map (λ q. q ++ n) o) ≡ is_some o
told_some None n = refl
told_some (Some q) n = refl

-- the from-car has an object less, remembers what it remembered, and heard of no more fields than the object has
pub record IsLighter (view : SpaceView) (from : Addr) (t : SpaceView) : Type 0 where
  pub objects : live_in (get t.cars from.car) + 1 ≡ live_in (get view.cars from.car)
  pub set : set_of t from.car ≡ set_of view from.car
  pub queue : queue_of view from.car ≡ [] → length (queue_of t from.car) ≤ 255
  pub phase : t.phase ≡ view.phase

-- what holds where the object at an address moves to a train
abbrev pub GoesTo : SpaceView → Addr → ℕ → SpaceView → Type 0
GoesTo view from y t = Keeps view t × Stays view t (id_at view from) none × ((id : ℕ) → id_at view from ≡ Some id → IsPlaced t id y) × IsLighter view from t × HasMoved view t from

module _ (view put : SpaceView) (from : Addr) (c : ℕ) (old car : Car) (object : Object) (law : HeapLaw view) (is : IsPut view put from c old car object)
    (anchors : (a : Addr) (to : ℕ) → put.anchor ≡ Some (a, to) → IsAnchor view a to × ((from.car == a.car) ≡ false)) where
  abbrev to : Addr
  to = next_place c car

  abbrev pub go : Addr → Addr
  go = resolve put

  abbrev pub t : SpaceView
  t = settled put from to object

  abbrev fields_then : List (Option Addr)
  fields_then = map (option_map go) object.fields

  abbrev change : Object → Object
  change it = record it { fields = fields_then }

  here : slot_at put.cars to ≡ Some (Live object)
  here = new_live view put from c old car object law is

  object_here : object_at put.cars to ≡ Some object
  object_here = ap object_of here

  abbrev changes : List (ℕ × Change)
  changes = field_news (move_news put from to) 0 object.fields

  shaped : (o : Object) → object_at put.cars to ≡ Some o → IsShaped o (change o)
  shaped o is_o = record {
    id = refl;
    fields = length-map object.fields (option_map go) ∙ ap (λ (o : Object). length o.fields) (some_same object o (sym object_here ∙ is_o));
    bytes = refl;
  }

  same : IsReshaped put t
  same =
      let objects = reshaped_object put to change shaped in
      record {
        trains = refl;
        sets = refl;
        queues = λ e. ap is_some (get-told put.queues changes e) ∙ told_some (get put.queues e) (news e changes);
        phase = refl;
        anchor = refl;
        next = refl;
        cars = objects.cars;
        objects = objects.objects;
        some = objects.some;
        look = objects.look;
      }

  object_then : (b : Addr) → object_at t.cars b ≡ cond (same_address to b) (Some (change object)) (object_at put.cars b)
  object_then b = object_after put.cars to change b ∙ ap (λ o. cond (same_address to b) (option_map change o) (object_at put.cars b)) object_here

  apart : same_address from to ≡ false
  apart = places_apart view put from c old car object law is

  apart_back : same_address to from ≡ false
  apart_back = ap (λ b. b && (car.next == from.slot)) (turned c from.car ∙ is.apart)

  old_object : object_at view.cars from ≡ Some object
  old_object = was_here view put from c old car object law is

  -- ---- what is seen

  aside_same : (e : ℕ) → is_aside put e ≡ is_aside view e
  aside_same e = none_aside_then view put from c old car object law is e ∙ sym (none_aside view put from c old car object law is e)

  kept_up : (x : RefSource) → kept (seen view) x ≡ true
  kept_up (Root n) = refl
  kept_up (Handle d r) = refl
  kept_up (Field a i) = ap not (none_aside view put from c old car object law is a.car)

  field_was : (i : ℕ) → stored view (Field from i) ≡ option_flatten (slice_get object.fields i)
  field_was i = ap (λ o. field_of o i) old_object

  stored_new : (i : ℕ) → stored t (Field to i) ≡ option_map go (stored view (Field from i))
  stored_new i =
      ap (λ o. field_of o i) (object_then to ∙ cond-true _ _ _ (same_itself to))
      ∙ ap option_flatten (slice_get-map (option_map go) object.fields i)
      ∙ flat_mapped go (slice_get object.fields i)
      ∙ ap (option_map go) (sym (field_was i))

  other_object : (a : Addr) → same_address from a ≡ false → same_address to a ≡ false → object_at t.cars a ≡ object_at view.cars a
  other_object a not_from not_to = object_then a ∙ cond-false _ _ _ not_to ∙ ap object_of (other_slot view put from c old car object law is a not_from not_to)

  stored_other : (y : RefSource) → is_field_at from y ≡ false → is_field_at to y ≡ false → stored t y ≡ stored view y
  stored_other (Root n) not_from not_to = ap (λ m. address_at m n) is.roots
  stored_other (Handle d r) not_from not_to = ap (λ m. get m (d, r)) is.registers
  stored_other (Field a i) not_from not_to = ap (λ o. field_of o i) (other_object a not_from not_to)

  -- a car that stood stands
  still : (n : ℕ) → IsSome (get view.cars n) → IsSome (get put.cars n)
  still n some = ap is_some (is.cars n) ∙ by_case (from.car == n) (c == n)
    where
      by_case : (b d : Bool) → is_some (cond b (Some (with_slot old from.slot (Moved to))) (cond d (Some (with_birth car object)) (get view.cars n))) ≡ true
      by_case true d = refl
      by_case false true = refl
      by_case false false = some

  new_stands : IsSome (get put.cars c)
  new_stands = ap is_some (is.cars c) ∙ (λ i. is_some (cond (is.apart i) (Some (with_slot old from.slot (Moved to))) (cond (eq-eqb c c refl i) (Some (with_birth car object)) (get view.cars c))))

  not_new : (a : Addr) → seen_words.Leads (seen view) a (look_of (slot_at view.cars a)) → same_address to a ≡ false
  not_new a leads = false_from_ne_true (same_address to a) (λ one. subst (seen_words.Leads (seen view) a) (ap look_of (ap (slot_at view.cars) (sym (same_address-true to a one)) ∙ nothing_there view put from c old car object law is)) leads)

  -- where an address that is stored leads: it stands, and names the object that it named
  pub record IsLed (a : Addr) : Type 0 where
    pub stands : IsSome (get put.cars (go a).car)
    pub named : named_by put a ≡ named_by view a

  by_slot : (a : Addr) (o : Option Slot) → slot_at view.cars a ≡ o → same_address from a ≡ false → slot_at put.cars a ≡ o → seen_words.Leads (seen view) a (look_of o) → IsLed a
  by_slot a None was apart_from now leads = absurd leads
  by_slot a (Some (Live it)) was apart_from now leads = record {
    stands = subst (λ o. IsSome (get put.cars (followed o a).car)) (sym now) (still a.car (leads_to_car view a (subst (λ o. seen_words.Leads (seen view) a (look_of o)) (sym was) leads)));
    named =
        ap (λ o. id_at put (followed o a)) now
        ∙ ap (option_map (λ (o : Object). o.id)) (ap object_of now ∙ sym (ap object_of was))
        ∙ sym (ap (λ o. id_at view (followed o a)) was);
  }
  by_slot a (Some (Moved b)) was apart_from now leads =
      let own : from.car ≡ a.car = eqb-true from.car a.car (sym (from_is view put from c old car object law is a.car) ∙ leads.0) in
      let not_from : same_address from b ≡ false = false_from_ne_true (same_address from b) (λ one. leads.2 (ap (λ (p : Addr). p.car) (sym (same_address-true from b one)) ∙ own)) in
      let not_to : same_address to b ≡ false = not_new b (subst (seen_words.Leads (seen view) b) (sym leads.1.0) tt) in
      record {
        stands = subst (λ o. IsSome (get put.cars (followed o a).car)) (sym now) (still b.car (live_to_car view b leads.1));
        named =
            ap (λ o. id_at put (followed o a)) now
            ∙ ap (λ o. option_map (λ (o : Object). o.id) (object_of o)) (other_slot view put from c old car object law is b not_from not_to)
            ∙ sym (ap (λ o. id_at view (followed o a)) was);
      }

  led_old : IsLed from
  led_old =
      let moved = old_moved view put from c old car object law is in
      let was : slot_at view.cars from ≡ Some (Live object) = ap (λ o. slot_of o from.slot) is.stood ∙ is.live in
      record {
        stands = subst (λ o. IsSome (get put.cars (followed o from).car)) (sym moved) new_stands;
        named =
            ap (λ o. id_at put (followed o from)) moved
            ∙ ap (option_map (λ (o : Object). o.id)) (object_here ∙ sym old_object)
            ∙ sym (ap (λ o. id_at view (followed o from)) was);
      }

  pub led : (x : RefSource) (a : Addr) → stored view x ≡ Some a → IsLed a
  led x a stores =
      let leads = (law.tied.leads x a (kept_up x) stores).1 in
      ⊎_elim
      (λ (one : same_address from a ≡ true). subst IsLed (same_address-true from a one) led_old)
      (λ (no : same_address from a ≡ false). by_slot a (slot_at view.cars a) refl no (other_slot view put from c old car object law is a no (not_new a leads)) leads)
      (cases_Bool (same_address from a))

  deaf : (e i : ℕ) → is_some (get put.queues e) ≡ false → slot_in e (option_map go (option_flatten (slice_get object.fields i))) ≡ None
  deaf e i none = by_field (option_flatten (slice_get object.fields i)) (field_was i)
    where
      by_field : (o : Option Addr) → stored view (Field from i) ≡ o → slot_in e (option_map go o) ≡ None
      by_field None stores = refl
      by_field (Some a) stores = not_in put e (sym (is.queues e) ∙ none) (Some (go a)) (λ b one. subst (λ (b : Addr). IsSome (get put.cars b.car)) (some_same (go a) b one) (led (Field from i) a stores).stands)

  both : (e : ℕ) → is_some (get put.sets e) ≡ is_some (get put.queues e)
  both e = is.sets e ∙ sym (is.queues e)

  told_effective : (e : ℕ) (y : RefSource) → effective t e y ≡ effective_in (get put.sets e) (option_map (λ q. q ++ news e changes) (get put.queues e)) y
  told_effective e y = ap (λ q. effective_in (get put.sets e) q y) (get-told put.queues changes e)

  moving : IsMove (seen view) (seen t) from to go
  moving = record {
    aside = aside_same;
    from = λ e. from_then view put from c old car object law is e ∙ sym (from_is view put from c old car object law is e);
    look_old = same.look from ∙ ap look_of (old_moved view put from c old car object law is);
    look_new = same.look to ∙ ap look_of here;
    look = λ a not_from not_to. same.look a ∙ ap look_of (other_slot view put from c old car object law is a not_from not_to);
    goes = λ a. followed_is (slot_at put.cars a) a ∙ ap (λ l. resolved l a) (sym (same.look a));
    stored_old = λ i. ap (λ o. field_of o i) (object_then from ∙ cond-false _ _ _ apart_back ∙ ap object_of (old_moved view put from c old car object law is));
    stored_new = stored_new;
    stored = stored_other;
    effective_old = λ e i.
        told_effective e (Field from i)
        ∙ moved_from (is_aside put) from to go object.fields e (get put.sets e) (get put.queues e) (both e) apart apart_back i
        ∙ (λ j. changed (heard_change (λ e. aside_same e j) (Field from i) (sym (field_was i) j) None e) (is.effective e (Field from i) j));
    effective_new = λ e i.
        told_effective e (Field to i)
        ∙ moved_to (is_aside put) from to go object.fields e (get put.sets e) (get put.queues e) (both e) apart apart_back i (deaf e i)
        ∙ (λ j. changed (heard_change (λ e. aside_same e j) (Field to i) None ((ap (option_map go) (sym (field_was i)) ∙ sym (stored_new i)) j) e) (is.effective e (Field to i) j));
    effective = λ e y not_from not_to.
        told_effective e y
        ∙ moved_apart (is_aside put) from to go object.fields e (get put.sets e) (get put.queues e) (both e) apart apart_back y not_from not_to
        ∙ is.effective e y;
  }

  may_move : MayMove (seen view) from to
  may_move = record {
    old_live = (ap (λ o. look_of (slot_of o from.slot)) is.stood ∙ ap look_of is.live, none_aside view put from c old car object law is from.car);
    old_from = from_is view put from c old car object law is from.car ∙ eq-eqb from.car from.car refl;
    one_from = λ e own. sym (eqb-true from.car e (sym (from_is view put from c old car object law is e) ∙ own));
    new_empty = ap look_of (nothing_there view put from c old car object law is);
    new_null = λ i. ap (λ o. field_of (object_of o) i) (nothing_there view put from c old car object law is);
    new_free = none_aside view put from c old car object law is c;
    apart = λ one. both_ways (from.car == c) is.apart (eq-eqb from.car c (sym one));
  }

  -- ---- the heap law

  anchor_then : (a : Addr) (n : ℕ) → t.anchor ≡ Some (a, n) → IsAnchor t a n
  anchor_then a n stands =
      let was = anchors a n stands in
      let not_from : same_address from a ≡ false = ap (λ b. b && (from.slot == a.slot)) was.1 in
      record {
        live = some_still not_from (same_address to a) was.0.live;
        kept = none_aside_then view put from c old car object law is a.car;
        old = is.old_train a n was.0;
        stands = is.goal a n was.0;
        leaves = is.leaves a n was.0;
      }
    where
      some_still : same_address from a ≡ false → (b : Bool) → IsSome (object_at view.cars a) → IsSome (object_at t.cars a)
      some_still not_from b some = ap is_some (object_then a ∙ ap (λ o. cond (same_address to a) (Some (change object)) (object_of o)) (slot_put view put from c old car object law is a ∙ cond-false _ _ _ not_from)) ∙ by_new (same_address to a)
        where
          by_new : (b : Bool) → is_some (cond b (Some (change object)) (object_of (cond b (Some (Live object)) (slot_at view.cars a)))) ≡ true
          by_new true = refl
          by_new false = some

  named_then : IsNamed t
  named_then = record {
    numbers = subst AllNumbersDiffer (sym is.roots) law.named.numbers;
    few = subst (λ m. len m ≤ ROOTS) (sym is.roots) law.named.few;
    registers = λ d r a stores. law.named.registers d r a (sym (ap (λ m. get m (d, r)) is.registers) ∙ stores);
  }

  pub moved_keeps_law : HeapLaw t
  moved_keeps_law = record {
    built = built_still put t same (put_built view put from c old car object law is);
    named = named_then;
    tied = law_after_move (seen view) (seen t) from to go law.tied may_move moving;
    phase = subst (λ p. IsPhaseOf p put.trains.trains put.anchor) (sym (is.phase ∙ is.moving)) is.at;
    anchor = anchor_then;
  }

  -- ---- what the space stands for

  named_there : (x : RefSource) (a : Addr) → stored view x ≡ Some a → named_by t a ≡ named_by view a
  named_there x a stores = named_same put t same a ∙ (led x a stores).named

  names_there : (x : RefSource) (o : Option Addr) → stored view x ≡ o → names t o ≡ names view o
  names_there x None stores = refl
  names_there x (Some a) stores = named_there x a stores

  -- a field of the object leads where it led
  live_itself : (o : Option Slot) (a : Addr) → look_of o ≡ looks.Live → followed o a ≡ a
  live_itself None a live = cc
  live_itself (Some (Live it)) a live = refl
  live_itself (Some (Moved b)) a live = cc

  gone_there : (i : ℕ) (o : Option Addr) → stored view (Field from i) ≡ o → names t (option_map go o) ≡ names view o
  gone_there i None stores = refl
  gone_there i (Some a) stores =
      let live = (go_live (seen view) (seen t) from to go law.tied may_move moving i a stores).0 in
      named_same put t same (go a)
      ∙ ap (id_at put) (live_itself (slot_at put.cars (go a)) (go a) (sym (same.look (go a)) ∙ live))
      ∙ (led (Field from i) a stores).named

  moved_meaning : map (names t) fields_then ≡ map (names view) object.fields
  moved_meaning =
      twice_mapped (names t) (option_map go) object.fields
      ∙ same_items (λ f. names t (option_map go f)) (names view) object.fields (λ i f item. gone_there i f (field_was i ∙ ap option_flatten item))

  other_meaning : (b : Addr) (p : Object) → object_at view.cars b ≡ Some p → map (names t) p.fields ≡ map (names view) p.fields
  other_meaning b p there = same_items (names t) (names view) p.fields (λ i f item. names_there (Field b i) f (ap (λ o. field_of o i) there ∙ ap option_flatten item))

  was_object : (b : Addr) (p : Object) → object_at t.cars b ≡ Some p → IsSameAs view t p
  was_object b p found = by_new (same_address to b) refl (sym (object_then b) ∙ found)
    where
      by_new : (d : Bool) → same_address to b ≡ d → cond d (Some (change object)) (object_at put.cars b) ≡ Some p → IsSameAs view t p
      by_new true one found =
          subst (IsSameAs view t) (some_same (change object) p found)
          (record { at = from; was = object; kept = none_aside view put from c old car object law is from.car; there = old_object; id = refl; meaning = λ i. record { fields = moved_meaning i; bytes = object.bytes } })
      by_new false apart_to found =
          ⊎_elim
          (λ (new : (to ≡ b) × (object ≡ p)). absurd (both_ways (same_address to b) apart_to (subst (λ b. same_address to b ≡ true) new.0 (same_itself to))))
          (λ (was : (object_at view.cars b ≡ Some p) × (same_address from b ≡ false)).
          record { at = b; was = p; kept = none_aside view put from c old car object law is b.car; there = was.0; id = refl; meaning = λ i. record { fields = other_meaning b p was.0 i; bytes = p.bytes } })
          (either_object view put from c old car object law is b p found)

  root_there : (name : List ℕ) (o : Option (ℕ × Addr)) → get view.roots name ≡ o → option_and_then (λ (bound : ℕ × Addr). named_by t bound.1) o ≡ option_and_then (λ (bound : ℕ × Addr). named_by view bound.1) o
  root_there name None found = refl
  root_there name (Some bound) found = named_there (Root bound.0) bound.1 (found_by_number view.roots law.named.numbers name bound found)

  pub moved_means_same : MeansSame view t
  moved_means_same = record {
    roots = λ name. ap (λ m. option_and_then (λ (bound : ℕ × Addr). named_by t bound.1) (get m name)) is.roots ∙ root_there name (get view.roots name) refl;
    registers = λ place. ap (λ m. names t (get m place)) is.registers ∙ names_there (Handle place.0 place.1) (get view.registers place) refl;
    next = is.next;
    objects = λ b p free found. was_object b p found;
  }

  pub moved_keeps : Keeps view t
  moved_keeps = keeps view t moved_keeps_law moved_means_same

  -- ---- where objects stand

  same_id : (a : Addr) → same_address from a ≡ false → same_address to a ≡ false → id_at t a ≡ id_at view a
  same_id a not_from not_to = ap (option_map (λ (o : Object). o.id)) (other_object a not_from not_to)

  id_from : id_at view from ≡ Some object.id
  id_from = ap (option_map (λ (o : Object). o.id)) old_object

  not_here : (id : ℕ) (a : Addr) → (id_at view from ≡ Some id → ⊥) → id_at view a ≡ Some id → same_address from a ≡ false
  not_here id a still at = false_from_ne_true (same_address from a) (λ one. still (ap (id_at view) (same_address-true from a one) ∙ at))

  some_car : (o : Option Car) (slot id : ℕ) → option_map (λ (o : Object). o.id) (object_of (slot_of o slot)) ≡ Some id → IsSome o
  some_car None slot id at = cc
  some_car (Some car) slot id at = refl

  not_new_id : (id : ℕ) (a : Addr) → id_at view a ≡ Some id → same_address to a ≡ false
  not_new_id id a at = false_from_ne_true (same_address to a) (λ one. none_some id (sym (ap (λ o. option_map (λ (o : Object). o.id) (object_of o)) (nothing_there view put from c old car object law is)) ∙ ap (id_at view) (same_address-true to a one) ∙ at))

  pub moved_stays : Stays view t (id_at view from) none
  moved_stays = record {
    forth = λ id a still ends at. (
      record { kept = none_aside_then view put from c old car object law is a.car; here = same_id a (not_here id a still at.here) (not_new_id id a at.here) ∙ at.here },
      is.homes a.car (some_car (get view.cars a.car) a.slot id at.here),
    );
    back = λ id a still at.
        let not_to : same_address to a ≡ false = false_from_ne_true (same_address to a) (λ one. still (id_from ∙ sym (ap (option_map (λ (o : Object). o.id)) (object_then to ∙ cond-true _ _ _ (same_itself to))) ∙ ap (id_at t) (same_address-true to a one) ∙ at.here)) in
        let not_from : same_address from a ≡ false = false_from_ne_true (same_address from a) (λ one. none_some id (sym (ap (option_map (λ (o : Object). o.id)) (object_then from ∙ cond-false _ _ _ apart_back ∙ ap object_of (old_moved view put from c old car object law is))) ∙ ap (id_at t) (same_address-true from a one) ∙ at.here)) in
        let was : id_at view a ≡ Some id = sym (same_id a not_from not_to) ∙ at.here in
        (record { kept = none_aside view put from c old car object law is a.car; here = was }, sym (is.homes a.car (some_car (get view.cars a.car) a.slot id was)));
  }

  -- the object that moves stands in its new train
  pub moved_lands : (y : ℕ) → train_of put.trains.trains c ≡ Some y → (id : ℕ) → id_at view from ≡ Some id → IsPlaced t id y
  moved_lands y lands id at = (
    to,
    record { kept = none_aside_then view put from c old car object law is c; here = ap (option_map (λ (o : Object). o.id)) (object_then to ∙ cond-true _ _ _ (same_itself to)) ∙ sym id_from ∙ at },
    lands,
  )

  -- ---- the work that is left

  -- the from-car hears at most once of each field
  own_news : (n : ℕ) (fs : List (Option Addr)) → length (news from.car (field_news (move_news put from to) n fs)) ≤ length fs
  own_news n [] = omega arith
  own_news n (f ∷ fs) =
      let rest = own_news (n + 1) fs in
      let left_none = of_left (hears_not n) n f in
      let entered_one = of_entered n f in
      let both : length (news from.car (move_news put from to n f)) ≤ 1 = subst (λ cs. length cs ≤ 1) (sym (news-append from.car (left (is_aside put) (Field from n) f) (entered (is_aside put) (Field to n) (option_map go f)) ∙ ap (λ cs. cs ++ news from.car (entered (is_aside put) (Field to n) (option_map go f))) left_none)) entered_one in
      let all = ap length (news-append from.car (move_news put from to n f) (field_news (move_news put from to) (n + 1) fs)) ∙ length-append (news from.car (move_news put from to n f)) (news from.car (field_news (move_news put from to) (n + 1) fs)) in
      omega arith
    where
      hears_not : (n : ℕ) → hears (is_aside put) (Field from n) from.car ≡ false
      hears_not n = ap (λ b. not b && not (is_aside put from.car)) (eq-eqb from.car from.car refl)

      of_left : (h : hears (is_aside put) (Field from n) from.car ≡ false) (n : ℕ) (f : Option Addr) → news from.car (left (is_aside put) (Field from n) f) ≡ []
      of_left h n f = news_of_left (is_aside put) (Field from n) f from.car ∙ ap (as_changes (Field from n)) (cond-false _ _ _ (ap (λ b. not b && not (is_aside put from.car)) (eq-eqb from.car from.car refl)))

      one_change : (x : RefSource) (w : Option (Option ℕ)) → length (as_changes x w) ≤ 1
      one_change x None = omega arith
      one_change x (Some slot) = omega arith

      of_entered : (n : ℕ) (f : Option Addr) → length (news from.car (entered (is_aside put) (Field to n) (option_map go f))) ≤ 1
      of_entered n f = subst (λ cs. length cs ≤ 1) (sym (news_of_entered (is_aside put) (Field to n) (option_map go f) from.car)) (one_change (Field to n) _)

  own_queue : queue_of view from.car ≡ [] → length (queue_of t from.car) ≤ length object.fields
  own_queue none = subst (λ o. length (unwrap_or o []) ≤ length object.fields) (sym (get-told put.queues changes from.car ∙ ap (option_map (λ q. q ++ news from.car changes)) is.own_queue)) (by_queue (get view.queues from.car) none)
    where
      by_queue : (o : Option (List Change)) → unwrap_or o [] ≡ [] → length (unwrap_or (option_map (λ q. q ++ news from.car changes) o) []) ≤ length object.fields
      by_queue None none = omega arith
      by_queue (Some []) none = own_news 0 object.fields
      by_queue (Some (c ∷ cs)) none = cc

  put_live : live_in (get t.cars from.car) + 1 ≡ live_in (get view.cars from.car)
  put_live =
      let shape = shaped_live (get put.cars from.car) (get t.cars from.car) (same.cars from.car) in
      let now : get put.cars from.car ≡ Some (with_slot old from.slot (Moved to)) = is.cars from.car ∙ cond-true _ _ _ (eq-eqb from.car from.car refl) in
      let sums = total_set one_live old.slots from.slot (Live object) (Moved to) is.live in
      let first : live_in (get t.cars from.car) ≡ live_count (with_slot old from.slot (Moved to)) = shape ∙ ap live_in now in
      let second : live_in (get view.cars from.car) ≡ live_count old = ap live_in is.stood in
      omega arith

  pub moved_lighter : IsLighter view from t
  moved_lighter = record {
    objects = put_live;
    set = ap (λ o. unwrap_or o empty) is.own_set;
    queue = λ none. let few = own_queue none in let limit = (law.built.objects from object old_object).fields in let most : FIELDS ≤ 255 = omega arith in omega arith;
    phase = is.phase;
  }

  -- ---- the places that change

  -- an address is followed to the same place once the fields are followed too
  go_then : (a : Addr) → go a ≡ resolve t a
  go_then a = followed_is (slot_at put.cars a) a ∙ ap (λ l. resolved l a) (sym (same.look a)) ∙ sym (followed_is (slot_at t.cars a) a)

  moved_once : HasMoved view t from
  moved_once = record {
    to = to;
    told = same.look from ∙ ap look_of (old_moved view put from c old car object law is);
    none = nothing_there view put from c old car object law is;
    id = ap (option_map (λ (o : Object). o.id)) (object_then to ∙ cond-true _ _ _ (same_itself to)) ∙ sym id_from;
    bytes = ap (option_map (λ (o : Object). o.bytes)) (object_then to ∙ cond-true _ _ _ (same_itself to)) ∙ sym (ap (option_map (λ (o : Object). o.bytes)) old_object);
    fields =
        ap (option_map (λ (o : Object). o.fields)) (object_then to ∙ cond-true _ _ _ (same_itself to))
        ∙ (λ i. Some (map (option_map (λ a. go_then a i)) object.fields))
        ∙ sym (ap (λ (o : Option Object). option_map (map (option_map (resolve t))) (option_map (λ (o : Object). o.fields) o)) old_object);
    objects = λ a not_from not_to. other_object a not_from not_to;
    looks = λ a not_from not_to. same.look a ∙ ap look_of (other_slot view put from c old car object law is a not_from not_to);
  }

  pub moved_goes : (y : ℕ) → train_of put.trains.trains c ≡ Some y → GoesTo view from y t
  moved_goes y lands = (moved_keeps, moved_stays, moved_lands y lands, moved_lighter, moved_once)
