-- A source that named a Moved slot and is fixed: the heap law is kept, and what the space stands for.
use Rattle.std.proofs.Common.{◌≡◌, ℕ, zero, suc, ◌==◌, ◌&&◌, Bool, true, false, cond, not, refl, ap, sym, subst, ◌∙◌, List, [], ◌∷◌, ◌++◌, map, slice_set, Option, Some, None, is_some}
use Rattle.std.specs.Option.{IsSome, option_map, option_and_then, option_flatten, unwrap_or}
use Rattle.std.specs.List.{slice_get}
use Rattle.std.specs.FinMap.{get, insert, remove, empty, get-empty, get-remove}
use Rattle.std.specs.Cmp.{eq_by_cmp_equiv}
use Rattle.std.proofs.lemmas.Bool.{eqb-true, eq-eqb, and_from, and_parts, cond-true, cond-false, true≢false, false_from_ne_true, not_from_false}
use Rattle.std.proofs.lemmas.List.{append-nil, map-set}
use Rattle.std.proofs.lemmas.Option.{slice_get-map}
use Rattle.pm_types.proofs.Mapped.{get-mapped}
use Rattle.pm_types.specs.Orders.{name_cmp, source_cmp}
use Rattle.pm_types.proofs.Orders.{sources_total, sources_antisymmetric}
use Rattle.pm_types.specs.declared.address.Addr.{Addr}
use Rattle.pm_types.specs.declared.object.Object.{Object}
use Rattle.pm_types.specs.declared.object.Slot.{Slot}
use Rattle.pm_types.specs.declared.object.Slot.TheVariants.{Live, Moved}
use Rattle.pm_types.specs.declared.source.RefSource.{RefSource}
use Rattle.pm_types.specs.declared.source.RefSource.TheVariants.{Root, Handle, Field}
use Rattle.pm_types.specs.declared.source.Change.{Change}
use Rattle.pm_cars.specs.Cars.{look_of, with_field}
use Rattle.pm_cars.specs.declared.look.Look.TheVariants as looks
use Rattle.pm_roots.specs.Bindings.{address_at}
use Rattle.pm_view.specs.Sources.{same_source, same_address, outside, slot_in}
use Rattle.pm_view.specs.View.{Sources, Sets, Queues, SpaceView}
use Rattle.pm_view.specs.Reading.{slot_at, object_at, field_of, stored, followed, id_at, is_aside, SourceStands}
use Rattle.pm_view.specs.Effective.{effective, effective_in}
use Rattle.pm_view.specs.Barrier.{barrier, entered, news, told}
use Rattle.pm_view.specs.Seen.{seen, kept}
use Rattle.pm_view.specs.Seen as seen_words
use Rattle.pm_view.specs.Counts.{live_in}
use Rattle.pm_view.specs.Law.{HeapLaw}
use Rattle.pm_view.specs.Represents.{names}
use Rattle.pm_view.specs.Rows.{readdressed, with_stored, spread, HasValue}
use Rattle.pm_view.specs.Candidates.{set_of, queue_of}
use Rattle.pm_view.specs.Collecting.{fixed}
use Rattle.pm_view.specs.Events.{named_in, went, has_gone, least_stale, to_fix}
use Rattle.pm_law_commands.proofs.RowLemmas.SameSource.{source_ties, same_address-true}
use Rattle.pm_law_commands.proofs.RowLemmas.Spreading.{by_slots, hears, heard_change, changed}
use Rattle.pm_law_commands.proofs.RowLemmas.News.{at_insert, get-told, as_changes, effective-told, news_of_barrier}
use Rattle.pm_law_commands.proofs.RowLemmas.Places.{object_after}
use Rattle.pm_law_commands.proofs.RowLemmas.Stored.{register_after}
use Rattle.pm_law_commands.proofs.RowLemmas.Spread.{is_spread, live_to_car, not_in}
use Rattle.pm_law_commands.proofs.RowLemmas.SpreadKept.{reshaped_spread, spread_keeps_law}
use Rattle.pm_law_commands.proofs.RowLemmas.Numbers.{found_by_number}
use Rattle.pm_law_commands.proofs.RowLemmas.Meaning.{names_same}
use Rattle.pm_law_collect.proofs.PhasesLemmas.Small.{some_same, none_some, turned, shaped_live}
use Rattle.pm_law_collect.proofs.PhasesLemmas.Finds.{found_entry}
use Rattle.pm_law_collect.proofs.PhasesLemmas.MeansSame.{MeansSame, Keeps, keeps}
use Rattle.pm_law_collect.proofs.PhasesLemmas.Comes.{IsEmptied}
use Rattle.pm_law_collect.proofs.PhasesLemmas.PhaseRows.{emptied_aside, emptied_set, remembered_leads}
use Rattle.pm_law_collect.proofs.ChangesLemmas.Requeued.{IsRequeued, requeued_keeps_law}

-- ---- sources

flat_some : (o : Option (Option Addr)) (a : Addr) → option_flatten o ≡ Some a → is_some o ≡ true
flat_some None a is = cc
flat_some (Some o) a is = refl

-- a source that is kept and stores an address stands
pub stores_stands : (view : SpaceView) (x : RefSource) (a : Addr) → HeapLaw view → kept (seen view) x ≡ true → stored view x ≡ Some a → SourceStands view x
stores_stands view (Root n) a law up is = ap is_some is
stores_stands view (Handle c r) a law up is = law.named.registers c r a is
stores_stands view (Field b i) a law up is = (from_not (is_aside view b.car) up, flat_some (option_and_then (λ (o : Object). slice_get o.fields i) (object_at view.cars b)) a is)
  where
    from_not : (b : Bool) → not b ≡ true → b ≡ false
    from_not true is = absurd (true≢false (sym is))
    from_not false is = refl

-- what a slot that moved says
went_is : (o : Option Slot) (to : Addr) → went o ≡ Some to → o ≡ Some (Moved to)
went_is None to is = cc
went_is (Some (Live object)) to is = cc
went_is (Some (Moved b)) to is = ap (λ a. Some (Moved a)) (some_same b to is)

-- what is found to be fixed
pub record IsStale (view : SpaceView) (car : ℕ) (x : RefSource) (to : Addr) : Type 0 where
  pub slot : ℕ
  pub held : get (set_of view car) x ≡ Some slot
  pub gone : slot_at view.cars (record { car = car; slot = slot }) ≡ Some (Moved to)

pub stale_is : (view : SpaceView) (car : ℕ) (x : RefSource) (to : Addr) → to_fix view car ≡ Some (x, to) → IsStale view car x to
stale_is view car x to is = by_entry (least_stale view car) refl is
  where
    by_place : (e : RefSource × ℕ) → least_stale view car ≡ Some e → (o : Option Addr) → went (slot_at view.cars (named_in car e)) ≡ o → option_map {U = RefSource × Addr} (λ to. (e.0, to)) o ≡ Some (x, to) → IsStale view car x to
    by_place e found None goes is = cc
    by_place e found (Some b) goes is =
        let both : ◌≡◌ {A = RefSource × Addr} (e.0, b) (x, to) = some_same {A = RefSource × Addr} (e.0, b) (x, to) is in
        record {
          slot = e.1;
          held = subst (λ x. get (set_of view car) x ≡ Some e.1) (ap (λ (p : RefSource × Addr). p.0) both) (found_entry sources_total sources_antisymmetric (λ (e : RefSource × ℕ). has_gone (went (slot_at view.cars (named_in car e)))) (set_of view car) e found).0;
          gone = went_is (slot_at view.cars (named_in car e)) to (goes ∙ ap Some (ap (λ (p : RefSource × Addr). p.1) both));
        }

    by_entry : (o : Option (RefSource × ℕ)) → least_stale view car ≡ o → option_and_then (λ e. option_map {U = RefSource × Addr} (λ to. (e.0, to)) (went (slot_at view.cars (named_in car e)))) o ≡ Some (x, to) → IsStale view car x to
    by_entry None found is = cc
    by_entry (Some e) found is = by_place e found (went (slot_at view.cars (named_in car e))) refl is

same_set : {X : Type 0} (xs : List X) (i : ℕ) (v : X) → slice_get xs i ≡ Some v → slice_set xs i v ≡ xs
same_set [] i v is = cc
same_set (x ∷ xs) zero v is = ap (λ y. y ∷ xs) (sym (some_same x v is))
same_set (x ∷ xs) (suc i) v is = ap (λ ys. x ∷ ys) (same_set xs i v is)

module _ (view : SpaceView) (car : ℕ) (x : RefSource) (to : Addr) (law : HeapLaw view) (is : IsEmptied view car (Some (x, to))) where
  stale : IsStale view car x to
  stale = stale_is view car x to is.goes

  abbrev old : Addr
  old = record { car = car; slot = stale.slot }

  free : (e : ℕ) → is_aside view e ≡ false
  free = emptied_aside view car (Some (x, to)) law is

  held : effective view car x ≡ Some stale.slot
  held = emptied_set view car (Some (x, to)) law is x ∙ stale.held

  leads : (stored view x ≡ Some old) × seen_words.Leads (seen view) old (look_of (slot_at view.cars old))
  leads = remembered_leads view law free car x stale.slot held

  leads_moved : seen_words.Leads (seen view) old (looks.Moved to)
  leads_moved = subst (seen_words.Leads (seen view) old) (ap look_of stale.gone) leads.1

  out : outside car x ≡ true
  out = (law.tied.holds car x stale.slot (free car) held).0

  kept_up : (y : RefSource) → kept (seen view) y ≡ true
  kept_up (Root n) = refl
  kept_up (Handle c r) = refl
  kept_up (Field a i) = ap not (free a.car)

  at : SourceStands view x
  at = stores_stands view x old law (kept_up x) leads.0

  has_value : (y : RefSource) → HasValue y (Some to)
  has_value (Root n) = refl
  has_value (Handle c r) = tt
  has_value (Field a i) = tt

  abbrev there : SpaceView
  there = spread view x (Some to)

  abbrev sets_now : Sets
  sets_now = insert view.sets car (remove (set_of view car) x)

  -- ---- effective sets

  set_car : (o : Option Sources) → get view.sets car ≡ o → is_some o ≡ true
  set_car None none = absurd (none_some stale.slot (sym (ap (λ o. get (unwrap_or o empty) x) none ∙ get-empty source_cmp x) ∙ stale.held))
  set_car (Some set) some = refl

  removed : (set : Sources) (z : RefSource) → get (remove set x) z ≡ cond (same_source x z) None (get set z)
  removed set z = get-remove sources_total set x z ∙ ap (λ b. cond b None (get set z)) ((eq_by_cmp_equiv sources_total).symm z x ∙ source_ties x z)

  to_apart : (car == to.car) ≡ false
  to_apart = false_from_ne_true (car == to.car) (λ same. leads_moved.2 (sym (eqb-true car to.car same)))

  abbrev heard : ℕ → Option (Option ℕ)
  heard e = heard_change (is_aside view) x None (Some to) e

  deaf : (e : ℕ) → is_some (get view.queues e) ≡ false → heard e ≡ None
  deaf e none = by_slot (hears (is_aside view) x e) (slot_in e (Some to)) (not_in view e (sym (law.built.queues e) ∙ none) (Some to) (λ a is_to. subst (λ (a : Addr). IsSome (get view.cars a.car)) (some_same to a is_to) (live_to_car view to leads_moved.1)))
    where
      by_slot : (h : Bool) (o : Option ℕ) → o ≡ None → cond h (by_slots o None) None ≡ None
      by_slot true o none = ap (λ o. by_slots o None) none
      by_slot false o none = refl

  sets_at : (e : ℕ) → get sets_now e ≡ cond (car == e) (Some (remove (set_of view car) x)) (get view.sets e)
  sets_at e = at_insert view.sets car (remove (set_of view car) x) e

  sets_some : (e : ℕ) → is_some (get sets_now e) ≡ is_some (get view.sets e)
  sets_some e = ap is_some (sets_at e) ∙ by_case (car == e) refl
    where
      by_case : (b : Bool) → (car == e) ≡ b → is_some (cond b (Some (remove (set_of view car) x)) (get view.sets e)) ≡ is_some (get view.sets e)
      by_case true same = sym (ap (λ e. is_some (get view.sets e)) (sym (eqb-true car e same)) ∙ set_car (get view.sets car) refl)
      by_case false same = refl

  abbrev queues_now : Queues
  queues_now = told view.queues (entered (is_aside view) x (Some to))

  effective_now : (e : ℕ) (z : RefSource) → effective_in (get sets_now e) (get queues_now e) z ≡ cond (same_source x z) (changed (heard e) (effective_in (get sets_now e) (get view.queues e) z)) (effective_in (get sets_now e) (get view.queues e) z)
  effective_now e z =
      ap (λ q. effective_in (get sets_now e) q z) (get-told view.queues (barrier (is_aside view) x None (Some to)) e ∙ ap (λ n. option_map (λ q. q ++ n) (get view.queues e)) (news_of_barrier (is_aside view) x None (Some to) e))
      ∙ effective-told (get sets_now e) (get view.queues e) x (heard e) z (sets_some e ∙ law.built.sets e ∙ sym (law.built.queues e)) (deaf e)

  -- for a car that is not the one that is emptied
  other_heard : (e : ℕ) → (car == e) ≡ false → heard e ≡ heard_change (is_aside view) x (Some old) (Some to) e
  other_heard e apart = ap (λ b. cond (hears (is_aside view) x e) (by_slots (slot_in e (Some to)) (cond b (Some stale.slot) None)) None) (sym apart)

  -- and for that one
  own_heard : heard_change (is_aside view) x (Some old) (Some to) car ≡ Some None
  own_heard =
      let hears_it : hears (is_aside view) x car ≡ true = and_from _ _ out (not_from_false _ (free car)) in
      cond-true _ _ _ hears_it
      ∙ (λ i. by_slots (cond (apart i) (Some to.slot) None) (cond (eq-eqb car car refl i) (Some stale.slot) None))
    where
      apart : (to.car == car) ≡ false
      apart = turned to.car car ∙ to_apart

  own_unheard : heard car ≡ None
  own_unheard = ap (λ b. cond (hears (is_aside view) x car) (by_slots (cond b (Some to.slot) None) None) None) (turned to.car car ∙ to_apart) ∙ none_either (hears (is_aside view) x car)
    where
      none_either : (b : Bool) → ◌≡◌ {A = Option (Option ℕ)} (cond b None None) None
      none_either true = refl
      none_either false = refl

  own_effective : (z : RefSource) → effective_in (get sets_now car) (get view.queues car) z ≡ cond (same_source x z) None (effective view car z)
  own_effective z =
      ap (λ o. effective_in o (get view.queues car) z) (sets_at car ∙ cond-true _ _ _ (eq-eqb car car refl))
      ∙ by_queue (get view.queues car) is.applied
      ∙ removed (set_of view car) z
      ∙ ap (λ o. cond (same_source x z) None o) (sym (emptied_set view car (Some (x, to)) law is z))
    where
      by_queue : (o : Option (List Change)) → unwrap_or o [] ≡ [] → effective_in (Some (remove (set_of view car) x)) o z ≡ get (remove (set_of view car) x) z
      by_queue None none = refl
      by_queue (Some []) none = refl
      by_queue (Some (c ∷ cs)) none = cc

  twice : (b : Bool) (o : Option ℕ) → cond b (cond b None o) (cond b None o) ≡ cond b (changed (Some None) o) o
  twice true o = refl
  twice false o = refl

  same_effect : (e : ℕ) (z : RefSource) (b : Bool) → (car == e) ≡ b → effective_in (get sets_now e) (get queues_now e) z ≡ cond (same_source x z) (changed (heard_change (is_aside view) x (Some old) (Some to) e) (effective view e z)) (effective view e z)
  same_effect e z true same =
      subst (λ e. effective_in (get sets_now e) (get queues_now e) z ≡ cond (same_source x z) (changed (heard_change (is_aside view) x (Some old) (Some to) e) (effective view e z)) (effective view e z)) (eqb-true car e same)
      (effective_now car z
      ∙ (λ i. cond (same_source x z) (changed (own_unheard i) (own_effective z i)) (own_effective z i))
      ∙ twice (same_source x z) (effective view car z)
      ∙ (λ i. cond (same_source x z) (changed (sym own_heard i) (effective view car z)) (effective view car z)))
  same_effect e z false apart =
      let sets_same : get sets_now e ≡ get view.sets e = sets_at e ∙ cond-false _ _ _ apart in
      effective_now e z
      ∙ (λ i. cond (same_source x z) (changed (other_heard e apart i) (effective_in (sets_same i) (get view.queues e) z)) (effective_in (sets_same i) (get view.queues e) z))

  sets_stored : (y : RefSource) → (with_stored view y (Some to)).sets ≡ view.sets
  sets_stored (Root n) = refl
  sets_stored (Handle c r) = refl
  sets_stored (Field a i) = refl

  queues_stored : (y : RefSource) → (with_stored view y (Some to)).queues ≡ view.queues
  queues_stored (Root n) = refl
  queues_stored (Handle c r) = refl
  queues_stored (Field a i) = refl

  told_some : (o : Option (List Change)) (n : List Change) → is_some (option_map (λ q. q ++ n) o) ≡ is_some o
  told_some None n = refl
  told_some (Some q) n = refl

  fixing : IsRequeued there sets_now queues_now
  fixing = record {
    set = λ e. sets_some e ∙ ap (λ m. is_some (get m e)) (sym (sets_stored x));
    queue = λ e.
        ap is_some (get-told view.queues (entered (is_aside view) x (Some to)) e) ∙ told_some (get view.queues e) (news e (entered (is_aside view) x (Some to)))
        ∙ sym (ap (λ m. is_some (get m e)) (queues_stored x))
        ∙ sym (ap is_some (get-told (with_stored view x (Some to)).queues (barrier (is_aside (with_stored view x (Some to))) x (stored view x) (Some to)) e)
        ∙ told_some (get (with_stored view x (Some to)).queues e) (news e (barrier (is_aside (with_stored view x (Some to))) x (stored view x) (Some to))));
    effective = λ e z.
        same_effect e z (car == e) refl
        ∙ ap (λ o. cond (same_source x z) (changed (heard_change (is_aside view) x o (Some to) e) (effective view e z)) (effective view e z)) (sym leads.0)
        ∙ sym ((is_spread view x (Some to) law.built law.tied at (has_value x) leads_moved.1).effective e z);
  }

  -- ---- what addresses mean

  abbrev pub fix : SpaceView
  fix = fixed view car x to

  names_fix : (a : Option Addr) → names fix a ≡ names view a
  names_fix a = names_same view there (reshaped_spread view x (Some to)) a

  live_slot : (o : Option Slot) (a : Addr) → look_of o ≡ looks.Live → followed o a ≡ a
  live_slot None a live = cc
  live_slot (Some (Live object)) a live = refl
  live_slot (Some (Moved b)) a live = cc

  -- both addresses lead to the same object
  same_name : names view (Some to) ≡ names view (Some old)
  same_name = ap (id_at view) (live_slot (slot_at view.cars to) to leads_moved.1.0) ∙ sym (ap (λ o. id_at view (followed o old)) stale.gone)

  roots_fix : (y : RefSource) → stored view y ≡ Some old → (name : List ℕ) → option_and_then (λ (bound : ℕ × Addr). names view (Some bound.1)) (get (with_stored view y (Some to)).roots name) ≡ option_and_then (λ (bound : ℕ × Addr). names view (Some bound.1)) (get view.roots name)
  roots_fix (Root n) is name = ap (option_and_then (λ (bound : ℕ × Addr). names view (Some bound.1))) (get-mapped name_cmp (readdressed n to) view.roots name) ∙ by_bound (get view.roots name) refl
    where
      by_number : (bound : ℕ × Addr) → get view.roots name ≡ Some bound → (b : Bool) → (bound.0 == n) ≡ b → names view (Some (cond b to bound.1)) ≡ names view (Some bound.1)
      by_number bound found true same =
          let here : bound.1 ≡ old = some_same bound.1 old (sym (found_by_number view.roots law.named.numbers name bound found) ∙ ap (address_at view.roots) (eqb-true bound.0 n same) ∙ is) in
          same_name ∙ ap (λ a. names view (Some a)) (sym here)
      by_number bound found false same = refl

      by_bound : (o : Option (ℕ × Addr)) → get view.roots name ≡ o → option_and_then (λ (bound : ℕ × Addr). names view (Some bound.1)) (option_map (readdressed n to) o) ≡ option_and_then (λ (bound : ℕ × Addr). names view (Some bound.1)) o
      by_bound None found = refl
      by_bound (Some bound) found = by_number bound found (bound.0 == n) refl
  roots_fix (Handle c r) is name = refl
  roots_fix (Field a i) is name = refl

  registers_fix : (y : RefSource) → stored view y ≡ Some old → (place : ℕ × ℕ) → names view (get (with_stored view y (Some to)).registers place) ≡ names view (get view.registers place)
  registers_fix (Root n) is place = refl
  registers_fix (Handle c r) is place = ap (names view) (register_after view.registers c r (Some to) place.0 place.1) ∙ by_case ((c == place.0) && (r == place.1)) refl
    where
      by_case : (b : Bool) → ((c == place.0) && (r == place.1)) ≡ b → names view (cond b (Some to) (get view.registers place)) ≡ names view (get view.registers place)
      by_case true same =
          let both = and_parts (c == place.0) (r == place.1) same in
          same_name ∙ ap (names view) (sym is ∙ (λ i. get view.registers (eqb-true c place.0 both.0 i, eqb-true r place.1 both.1 i)))
      by_case false same = refl
  registers_fix (Field a i) is place = refl

  -- an object stands where it stood, and its fields mean what they meant
  pub record IsOld (b : Addr) (p : Object) : Type 0 where
    pub was : Object
    pub there : object_at view.cars b ≡ Some was
    pub id : was.id ≡ p.id
    pub fields : map (names view) p.fields ≡ map (names view) was.fields
    pub bytes : p.bytes ≡ was.bytes

  old_itself : (b : Addr) (p : Object) → object_at view.cars b ≡ Some p → IsOld b p
  old_itself b p is = record { was = p; there = is; id = refl; fields = refl; bytes = refl }

  objects_fix : (y : RefSource) → stored view y ≡ Some old → (b : Addr) (p : Object) → object_at (with_stored view y (Some to)).cars b ≡ Some p → IsOld b p
  objects_fix (Root n) is b p found = old_itself b p found
  objects_fix (Handle c r) is b p found = old_itself b p found
  objects_fix (Field a i) is b p found = by_case (same_address a b) refl (sym (object_after view.cars a (λ object. with_field object i (Some to)) b) ∙ found)
    where
      stored_item : (fields : List (Option Addr)) → option_flatten (slice_get fields i) ≡ Some old → slice_get fields i ≡ Some (Some old)
      stored_item fields is = flat (slice_get fields i) is
        where
          flat : (o : Option (Option Addr)) → option_flatten o ≡ Some old → o ≡ Some (Some old)
          flat None is = cc
          flat (Some o) is = ap Some is

      changed_object : (o : Option Object) → object_at view.cars a ≡ o → a ≡ b → field_of o i ≡ Some old → option_map (λ object. with_field object i (Some to)) o ≡ Some p → IsOld b p
      changed_object None here same field is_p = cc
      changed_object (Some o) here same field is_p =
          let one : with_field o i (Some to) ≡ p = some_same (with_field o i (Some to)) p is_p in
          subst (IsOld b) one
          (record {
            was = o;
            there = ap (object_at view.cars) (sym same) ∙ here;
            id = refl;
            fields =
                map-set (names view) o.fields i (Some to)
                ∙ ap (slice_set (map (names view) o.fields) i) same_name
                ∙ same_set (map (names view) o.fields) i (names view (Some old)) (slice_get-map (names view) o.fields i ∙ ap (option_map (names view)) (stored_item o.fields field));
            bytes = refl;
          })

      by_case : (c : Bool) → same_address a b ≡ c → cond c (option_map (λ object. with_field object i (Some to)) (object_at view.cars a)) (object_at view.cars b) ≡ Some p → IsOld b p
      by_case true same found = changed_object (object_at view.cars a) refl (same_address-true a b same) is found
      by_case false same found = old_itself b p found

  fix_means_same : MeansSame view fix
  fix_means_same = record {
    roots = λ name. (λ i. option_and_then (λ (bound : ℕ × Addr). names_fix (Some bound.1) i) (get fix.roots name)) ∙ roots_fix x leads.0 name;
    registers = λ place. names_fix (get fix.registers place) ∙ registers_fix x leads.0 place;
    next = (reshaped_spread view x (Some to)).next;
    objects = λ b p free_then found.
        let was = objects_fix x leads.0 b p found in
        record { at = b; was = was.was; kept = free b.car; there = was.there; id = was.id; meaning = λ i. record { fields = (map_names p.fields ∙ was.fields) i; bytes = was.bytes i } };
  }
    where
      map_names : (fields : List (Option Addr)) → map (names fix) fields ≡ map (names view) fields
      map_names fields = λ i. map (λ a. names_fix a i) fields

  -- a source is fixed
  pub fixed_keeps : Keeps view fix
  fixed_keeps = keeps view fix (requeued_keeps_law there sets_now queues_now (spread_keeps_law view x (Some to) law at (has_value x) leads_moved.1) fixing) fix_means_same

  -- ---- the work that is left

  pub fix_queue : queue_of fix car ≡ queue_of view car
  fix_queue =
      ap (λ o. unwrap_or o [])
      (get-told view.queues (barrier (is_aside view) x None (Some to)) car
      ∙ ap (λ n. option_map (λ q. q ++ n) (get view.queues car)) (news_of_barrier (is_aside view) x None (Some to) car ∙ ap (as_changes x) own_unheard)
      ∙ no_more (get view.queues car))
    where
      no_more : (o : Option (List Change)) → option_map (λ q. q ++ []) o ≡ o
      no_more None = refl
      no_more (Some q) = ap Some (append-nil q)

  pub fix_set : set_of fix car ≡ remove (set_of view car) x
  fix_set = ap (λ o. unwrap_or o empty) (sets_at car ∙ cond-true _ _ _ (eq-eqb car car refl))

  pub fix_held : IsSome (get (set_of view car) x)
  fix_held = ap is_some stale.held

  pub fix_live : live_in (get fix.cars car) ≡ live_in (get view.cars car)
  fix_live = shaped_live (get view.cars car) (get fix.cars car) ((reshaped_spread view x (Some to)).cars car)

  pub fix_phase : fix.phase ≡ view.phase
  fix_phase = (reshaped_spread view x (Some to)).phase

  -- ---- what sources store

  -- the source named a place whose object went there
  pub fix_was : (slot : ℕ) × (stored view x ≡ Some (record { car = car; slot = slot })) × (slot_at view.cars (record { car = car; slot = slot }) ≡ Some (Moved to))
  fix_was = (stale.slot, leads.0, stale.gone)

  stored_fix : (y : RefSource) → stored fix y ≡ stored there y
  stored_fix (Root n) = refl
  stored_fix (Handle c r) = refl
  stored_fix (Field a i) = refl

  -- it stores that address, and every other source what it stored
  pub fix_stored : (y : RefSource) → stored fix y ≡ cond (same_source x y) (Some to) (stored view y)
  fix_stored y = stored_fix y ∙ (is_spread view x (Some to) law.built law.tied at (has_value x) leads_moved.1).stored y
