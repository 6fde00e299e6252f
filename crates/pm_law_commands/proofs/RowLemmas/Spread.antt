-- A source that is set by the write barrier is seen to be set, and sources and effective sets stay tied.
use Rattle.std.proofs.Common.{◌≡◌, ℕ, ◌==◌, Bool, true, false, cond, not, refl, ap, sym, subst, ◌∙◌, ◌++◌, Option, Some, None, is_some}
use Rattle.std.specs.Option.{IsSome, option_map, option_and_then}
use Rattle.std.specs.FinMap.{get}
use Rattle.std.proofs.lemmas.Bool.{eqb-true, both_ways}
use Rattle.pm_types.specs.declared.address.Addr.{Addr}
use Rattle.pm_types.specs.declared.object.Object.{Object}
use Rattle.pm_types.specs.declared.object.Slot.{Slot}
use Rattle.pm_types.specs.declared.object.Slot.TheVariants.{Live}
use Rattle.pm_types.specs.declared.source.RefSource.{RefSource}
use Rattle.pm_types.specs.declared.source.RefSource.TheVariants.{Root, Handle, Field}
use Rattle.pm_cars.specs.declared.look.Look.{Look}
use Rattle.pm_cars.specs.declared.look.Look.TheVariants as looks
use Rattle.pm_cars.specs.Cars.{Car, look_of, with_field}
use Rattle.pm_view.specs.Sources.{same_source, same_address, slot_in}
use Rattle.pm_view.specs.View.{Cars, SpaceView}
use Rattle.pm_view.specs.Reading.{slot_at, object_at, stored, is_aside, from_in, SourceStands}
use Rattle.pm_view.specs.Effective.{effective_in}
use Rattle.pm_view.specs.Seen.{Seen, seen, kept, IsLive, Leads, IsTied, MayStore}
use Rattle.pm_view.specs.Law.{IsBuilt}
use Rattle.pm_view.specs.Barrier.{barrier, told}
use Rattle.pm_view.specs.Rows.{with_object, put_object, with_stored, with_news, spread, HasValue}
use Rattle.pm_law_commands.proofs.RowLemmas.SameSource.{same_address-true}
use Rattle.pm_law_commands.proofs.RowLemmas.Spreading.{by_slots, hears, heard_change, changed, IsSpread}
use Rattle.pm_law_commands.proofs.RowLemmas.SpreadLaw.{law_after_spread}
use Rattle.pm_law_commands.proofs.RowLemmas.News.{get-told, effective-told, news_of_barrier}
use Rattle.pm_law_commands.proofs.RowLemmas.Places.{slot_after, object_has_car, live_slot}
use Rattle.pm_law_commands.proofs.RowLemmas.Stored.{stored_after}

-- ---- places look as before

looks_live : (b : Bool) (object : Object) (o : Option Slot) → (b ≡ true → look_of o ≡ looks.Live) → look_of (cond b (Some (Live object)) o) ≡ look_of o
looks_live true object o live = sym (live refl)
looks_live false object o live = refl

look_put : (cars : Cars) (a : Addr) (o : Option Object) (change : Object → Object) → object_at cars a ≡ o → (b : Addr) → look_of (slot_at (put_object cars a o change) b) ≡ look_of (slot_at cars b)
look_put cars a None change is b = refl
look_put cars a (Some object) change is b =
    ap look_of (slot_after cars a (Live (change object)) (object_has_car cars a object is) b)
    ∙ looks_live (same_address a b) (change object) (slot_at cars b)
    (λ same. ap (λ a. look_of (slot_at cars a)) (sym (same_address-true a b same)) ∙ ap look_of (live_slot (slot_at cars a) object is))

-- what a place is stays where an object is changed
pub look_after : (cars : Cars) (a : Addr) (change : Object → Object) (b : Addr) → look_of (slot_at (with_object cars a change) b) ≡ look_of (slot_at cars b)
look_after cars a change b = look_put cars a (object_at cars a) change refl b

look_stored : (view : SpaceView) (x : RefSource) (to : Option Addr) (b : Addr) → look_of (slot_at (with_stored view x to).cars b) ≡ look_of (slot_at view.cars b)
look_stored view (Root n) None b = refl
look_stored view (Root n) (Some a) b = refl
look_stored view (Handle c r) to b = refl
look_stored view (Field a i) to b = look_after view.cars a (λ object. with_field object i to) b

aside_stored : (view : SpaceView) (x : RefSource) (to : Option Addr) (e : ℕ) → is_aside (with_stored view x to) e ≡ is_aside view e
aside_stored view (Root n) None e = refl
aside_stored view (Root n) (Some a) e = refl
aside_stored view (Handle c r) to e = refl
aside_stored view (Field a i) to e = refl

-- ---- which cars stand

-- a place that leads somewhere lies in a car that stands
leads_there : (s : Seen) (a : Addr) (o : Option Car) (slot : ℕ) → Leads s a (look_of (option_and_then (λ (car : Car). get car.slots slot) o)) → IsSome o
leads_there s a None slot leads = absurd leads
leads_there s a (Some car) slot leads = refl

pub leads_to_car : (view : SpaceView) (a : Addr) → Leads (seen view) a (look_of (slot_at view.cars a)) → IsSome (get view.cars a.car)
leads_to_car view a leads = leads_there (seen view) a (get view.cars a.car) a.slot leads

pub live_leads : (s : Seen) (a : Addr) (l : Look) → l ≡ looks.Live → Leads s a l
live_leads s a looks.Live is = tt
live_leads s a (looks.Moved b) is = cc
live_leads s a looks.Gone is = cc

pub live_to_car : (view : SpaceView) (a : Addr) → IsLive (seen view) a → IsSome (get view.cars a.car)
live_to_car view a live = leads_to_car view a (live_leads (seen view) a (look_of (slot_at view.cars a)) live.0)

-- an address in a car that stands is in no car that does not
elsewhere : (view : SpaceView) (e : ℕ) → is_some (get view.cars e) ≡ false → (a : Addr) → IsSome (get view.cars a.car) → (b : Bool) → (a.car == e) ≡ b → cond b (Some a.slot) None ≡ None
elsewhere view e none a some true is = absurd (both_ways (is_some (get view.cars e)) none (ap (λ c. is_some (get view.cars c)) (sym (eqb-true a.car e is)) ∙ some))
elsewhere view e none a some false is = refl

pub not_in : (view : SpaceView) (e : ℕ) → is_some (get view.cars e) ≡ false → (o : Option Addr) → ((a : Addr) → o ≡ Some a → IsSome (get view.cars a.car)) → slot_in e o ≡ None
not_in view e none None there = refl
not_in view e none (Some a) there = elsewhere view e none a (there a refl) (a.car == e) refl

no_change : (h : Bool) (n o : Option ℕ) → n ≡ None → o ≡ None → cond h (by_slots n o) None ≡ None
no_change true n o en eo = λ i. by_slots (en i) (eo i)
no_change false n o en eo = refl

same_some : (a b : Addr) → Some a ≡ Some b → a ≡ b
same_some a b is = cc

may_store_car : (view : SpaceView) (to : Option Addr) → MayStore (seen view) to → (a : Addr) → to ≡ Some a → IsSome (get view.cars a.car)
may_store_car view None may a is = cc
may_store_car view (Some b) may a is = subst (λ a. IsSome (get view.cars a.car)) (same_some b a is) (live_to_car view b may)

-- what stands goes with no car that is set aside
pub stands_kept : (view : SpaceView) (x : RefSource) → SourceStands view x → kept (seen view) x ≡ true
stands_kept view (Root n) at = refl
stands_kept view (Handle c r) at = refl
stands_kept view (Field a i) at = ap not at.0

-- ---- the row

-- what effective sets give once the cars heard of a source
module _ (view : SpaceView) (x : RefSource) (to : Option Addr) (built : IsBuilt view) (tied : IsTied (seen view)) (up : kept (seen view) x ≡ true) (may : MayStore (seen view) to) where
  abbrev heard_by : ℕ → Option (Option ℕ)
  heard_by e = heard_change (is_aside view) x (stored view x) to e

  -- a car that does not stand hears nothing
  deaf : (e : ℕ) → is_some (get view.queues e) ≡ false → heard_by e ≡ None
  deaf e none =
      let gone : is_some (get view.cars e) ≡ false = sym (built.queues e) ∙ none in
      no_change (hears (is_aside view) x e) (slot_in e to) (slot_in e (stored view x))
      (not_in view e gone to (may_store_car view to may))
      (not_in view e gone (stored view x) (λ a is. leads_to_car view a (tied.leads x a up is).1))

  -- t is a space with the same sets, queues and cars set aside, whose cars then heard of the source
  pub effective_for : (t : SpaceView) → ((e : ℕ) → is_aside t e ≡ is_aside view e) → t.sets ≡ view.sets → t.queues ≡ view.queues → (e : ℕ) (z : RefSource)
      → effective_in (get t.sets e) (get (told t.queues (barrier (is_aside t) x (stored view x) to)) e) z
      ≡ cond (same_source x z) (changed (heard_by e) (effective_in (get view.sets e) (get view.queues e) z)) (effective_in (get view.sets e) (get view.queues e) z)
  effective_for t same sets queues e z =
      (λ i. effective_in (get (sets i) e) (get (told (queues i) (barrier (λ e. same e i) x (stored view x) to)) e) z)
      ∙ ap (λ q. effective_in (get view.sets e) q z)
      (get-told view.queues (barrier (is_aside view) x (stored view x) to) e ∙ ap (λ n. option_map (λ q. q ++ n) (get view.queues e)) (news_of_barrier (is_aside view) x (stored view x) to e))
      ∙ effective-told (get view.sets e) (get view.queues e) x (heard_by e) z (built.sets e ∙ sym (built.queues e)) (deaf e)

sets_stored : (view : SpaceView) (x : RefSource) (to : Option Addr) → (with_stored view x to).sets ≡ view.sets
sets_stored view (Root n) None = refl
sets_stored view (Root n) (Some a) = refl
sets_stored view (Handle c r) to = refl
sets_stored view (Field a i) to = refl

queues_stored : (view : SpaceView) (x : RefSource) (to : Option Addr) → (with_stored view x to).queues ≡ view.queues
queues_stored view (Root n) None = refl
queues_stored view (Root n) (Some a) = refl
queues_stored view (Handle c r) to = refl
queues_stored view (Field a i) to = refl

from_stored : (view : SpaceView) (x : RefSource) (to : Option Addr) → (with_stored view x to).phase ≡ view.phase
from_stored view (Root n) None = refl
from_stored view (Root n) (Some a) = refl
from_stored view (Handle c r) to = refl
from_stored view (Field a i) to = refl

-- what is stored does not change with what is heard of it
pub stored_news : (view : SpaceView) (x : RefSource) (old new : Option Addr) (y : RefSource) → stored (with_news view x old new) y ≡ stored view y
stored_news view x old new (Root n) = refl
stored_news view x old new (Handle c r) = refl
stored_news view x old new (Field a i) = refl

-- what is seen once a source was set
pub is_spread : (view : SpaceView) (x : RefSource) (to : Option Addr) → IsBuilt view → IsTied (seen view) → SourceStands view x → HasValue x to → MayStore (seen view) to → IsSpread (seen view) (seen (spread view x to)) x to
is_spread view x to built tied at some may = record {
  stored = λ y. stored_news (with_stored view x to) x (stored view x) to y ∙ stored_after view x to at some y;
  aside = aside_stored view x to;
  look = look_stored view x to;
  from = λ e. ap (λ p. from_in p e) (from_stored view x to);
  effective = effective_for view x to built tied (stands_kept view x at) may (with_stored view x to) (aside_stored view x to) (sets_stored view x to) (queues_stored view x to);
}

-- sources and effective sets stay tied
pub spread_keeps_ties : (view : SpaceView) (x : RefSource) (to : Option Addr) → IsBuilt view → IsTied (seen view) → SourceStands view x → HasValue x to → MayStore (seen view) to → IsTied (seen (spread view x to))
spread_keeps_ties view x to built tied at some may = law_after_spread (seen view) (seen (spread view x to)) x to tied (is_spread view x to built tied at some may) (stands_kept view x at) may
