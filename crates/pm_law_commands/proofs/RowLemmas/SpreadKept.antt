-- A source that is set by the write barrier keeps the heap law.
use Rattle.std.proofs.Common.{◌≡◌, ℕ, ◌<◌, ◌≤◌, ◌==◌, ◌&&◌, Bool, true, false, cond, not, refl, ap, sym, subst, ◌∙◌, List, ◌++◌, Option, Some, None, is_some}
use Rattle.std.specs.Option.{option_map}
use Rattle.std.specs.FinMap.{get}
use Rattle.std.proofs.lemmas.Bool.{eqb-true, and_parts, cond-true, cond-false}
use Rattle.std.proofs.lemmas.List.{length-set}
use Rattle.pm_types.specs.Mapped.{mapped}
use Rattle.pm_types.proofs.Mapped.{get-mapped, len-mapped}
use Rattle.pm_types.specs.Orders.{name_cmp}
use Rattle.pm_types.specs.declared.limits.TheConstants.{CLIENTS, REGISTERS, ROOTS}
use Rattle.pm_types.specs.declared.address.Addr.{Addr}
use Rattle.pm_types.specs.declared.object.Object.{Object}
use Rattle.pm_types.specs.declared.source.RefSource.{RefSource}
use Rattle.pm_types.specs.declared.source.RefSource.TheVariants.{Root, Handle, Field}
use Rattle.pm_types.specs.declared.source.Change.{Change}
use Rattle.pm_cars.specs.Cars.{look_of, with_field}
use Rattle.pm_roots.specs.Bindings.{Bindings, AllNumbersDiffer}
use Rattle.pm_view.specs.Sources.{same_address, same_source, outside, slot_in}
use Rattle.pm_view.specs.View.{SpaceView}
use Rattle.pm_view.specs.Reading.{slot_at, object_at, stored, is_aside, SourceStands}
use Rattle.pm_view.specs.Seen.{seen, kept, MayStore}
use Rattle.pm_view.specs.Effective.{effective}
use Rattle.pm_view.specs.Barrier.{barrier, news}
use Rattle.pm_view.specs.Law.{IsNamed, HeapLaw}
use Rattle.pm_view.specs.Rows.{with_object, readdressed, with_stored, with_news, spread, HasValue}
use Rattle.pm_law_commands.proofs.RowLemmas.SameSource.{same_address-true, same_itself}
use Rattle.pm_law_commands.proofs.RowLemmas.News.{get-told}
use Rattle.pm_law_commands.proofs.RowLemmas.Places.{object_after}
use Rattle.pm_law_commands.proofs.RowLemmas.Stored.{register_after}
use Rattle.pm_law_commands.proofs.RowLemmas.Shapes.{IsShaped, IsShapedAt, shaped_at_itself, shaped_after}
use Rattle.pm_law_commands.proofs.RowLemmas.Built.{IsReshaped, built_still, phase_still, anchor_still}
use Rattle.pm_law_commands.proofs.RowLemmas.Spread.{look_after, is_spread, spread_keeps_ties}

shape_itself : (o : Object) → IsShaped o o
shape_itself o = record { id = refl; fields = refl; bytes = refl }

pub field_shaped : (o : Object) (i : ℕ) (to : Option Addr) → IsShaped o (with_field o i to)
field_shaped o i to = record { id = refl; fields = length-set o.fields i to; bytes = refl }

-- ---- objects that are changed, and kept their shape

mapped_some : (f : Object → Object) (o : Option Object) → is_some (option_map f o) ≡ is_some o
mapped_some f None = refl
mapped_some f (Some object) = refl

some_either : (b : Bool) (o p q : Option Object) → (b ≡ true → is_some o ≡ is_some q) → p ≡ q → is_some (cond b o p) ≡ is_some q
some_either true o p q same is = same refl
some_either false o p q same is = ap is_some is

from_mapped : (f : Object → Object) (o : Option Object) (p : Object) → ((object : Object) → o ≡ Some object → IsShaped object (f object)) → option_map f o ≡ Some p → (object : Object) × (o ≡ Some object) × IsShaped object p
from_mapped f None p shaped is = cc
from_mapped f (Some object) p shaped is = (object, refl, subst (IsShaped object) (let same : f object ≡ p = cc in same) (shaped object refl))

from_either : (b : Bool) (f : Object → Object) (o q : Option Object) (p : Object) → (b ≡ true → o ≡ q) → ((object : Object) → o ≡ Some object → IsShaped object (f object))
    → cond b (option_map f o) q ≡ Some p → (object : Object) × (q ≡ Some object) × IsShaped object p
from_either true f o q p same shaped is = let was = from_mapped f o p shaped is in (was.0, sym (same refl) ∙ was.1, was.2)
from_either false f o q p same shaped is = (p, is, shape_itself p)

-- a space in which an object was changed and kept its shape
pub reshaped_object : (view : SpaceView) (a : Addr) (change : Object → Object) → ((object : Object) → object_at view.cars a ≡ Some object → IsShaped object (change object))
    → IsReshaped view (record view { cars = with_object view.cars a change })
reshaped_object view a change shaped = record {
  trains = refl;
  sets = refl;
  queues = λ car. refl;
  phase = refl;
  anchor = refl;
  next = refl;
  cars = shaped_after view.cars a change shaped;
  objects = λ b p is.
      from_either (same_address a b) change (object_at view.cars a) (object_at view.cars b) p (λ same. ap (object_at view.cars) (same_address-true a b same)) shaped (sym (object_after view.cars a change b) ∙ is);
  some = λ b.
      ap is_some (object_after view.cars a change b)
      ∙ some_either (same_address a b) (option_map change (object_at view.cars a)) (object_at view.cars b) (object_at view.cars b)
      (λ same. mapped_some change (object_at view.cars a) ∙ ap (λ a. is_some (object_at view.cars a)) (same_address-true a b same)) refl;
  look = look_after view.cars a change;
}

-- a space in which only names or registers differ
pub reshaped_itself : (view t : SpaceView) → t.cars ≡ view.cars → t.sets ≡ view.sets → t.queues ≡ view.queues → t.trains ≡ view.trains → t.phase ≡ view.phase → t.anchor ≡ view.anchor → t.next ≡ view.next → IsReshaped view t
reshaped_itself view t cars sets queues trains phase anchor next = record {
  trains = trains;
  sets = sets;
  queues = λ car. ap (λ q. is_some (get q car)) queues;
  phase = phase;
  anchor = anchor;
  next = next;
  cars = λ n. subst (λ c. IsShapedAt (get view.cars n) (get c n)) (sym cars) (shaped_at_itself (get view.cars n));
  objects = λ a p is. (p, sym (ap (λ c. object_at c a) cars) ∙ is, shape_itself p);
  some = λ a. ap (λ c. is_some (object_at c a)) cars;
  look = λ a. ap (λ c. look_of (slot_at c a)) cars;
}

told_some : (o : Option (List Change)) (n : List Change) → is_some (option_map (λ q. q ++ n) o) ≡ is_some o
told_some None n = refl
told_some (Some q) n = refl

-- what is heard of a source changes queues alone
pub reshaped_news : (view t : SpaceView) (x : RefSource) (old new : Option Addr) → IsReshaped view t → IsReshaped view (with_news t x old new)
reshaped_news view t x old new same = record {
  trains = same.trains;
  sets = same.sets;
  queues = λ car. ap is_some (get-told t.queues (barrier (is_aside t) x old new) car) ∙ told_some (get t.queues car) (news car (barrier (is_aside t) x old new)) ∙ same.queues car;
  phase = same.phase;
  anchor = same.anchor;
  next = same.next;
  cars = same.cars;
  objects = same.objects;
  some = same.some;
  look = same.look;
}

reshaped_stored : (view : SpaceView) (x : RefSource) (to : Option Addr) → IsReshaped view (with_stored view x to)
reshaped_stored view (Root n) None = reshaped_itself view view refl refl refl refl refl refl refl
reshaped_stored view (Root n) (Some a) = reshaped_itself view (with_stored view (Root n) (Some a)) refl refl refl refl refl refl refl
reshaped_stored view (Handle c r) to = reshaped_itself view (with_stored view (Handle c r) to) refl refl refl refl refl refl refl
reshaped_stored view (Field a i) to = reshaped_object view a (λ object. with_field object i to) (λ object is. field_shaped object i to)

pub reshaped_spread : (view : SpaceView) (x : RefSource) (to : Option Addr) → IsReshaped view (spread view x to)
reshaped_spread view x to = reshaped_news view (with_stored view x to) x (stored view x) to (reshaped_stored view x to)

-- ---- names and registers

was_numbered : (n : ℕ) (a : Addr) (o : Option (ℕ × Addr)) (number : ℕ) (b : Addr) → option_map (readdressed n a) o ≡ Some (number, b) → (c : Addr) × (o ≡ Some (number, c))
was_numbered n a None number b is = cc
was_numbered n a (Some bound) number b is =
    let numbers : bound.0 ≡ number = ap (λ (o : Option (ℕ × Addr)). elim o as (λ _. ℕ) [ None ↦ 0 | Some bound ↦ bound.0 ]) is in
    (bound.1, λ i. Some (numbers i, bound.1))

numbers_differ : (roots : Bindings) (n : ℕ) (a : Addr) → AllNumbersDiffer roots → AllNumbersDiffer (mapped (readdressed n a) roots)
numbers_differ roots n a differ p q number b c at_p at_q =
    let was_p = was_numbered n a (get roots p) number b (sym (get-mapped name_cmp (readdressed n a) roots p) ∙ at_p) in
    let was_q = was_numbered n a (get roots q) number c (sym (get-mapped name_cmp (readdressed n a) roots q) ∙ at_q) in
    differ p q number was_p.0 was_q.0 was_p.1 was_q.1

in_range : (c r d s : ℕ) (b : Bool) (to o : Option Addr) (a : Addr) → ((c == d) && (r == s)) ≡ b → (c < CLIENTS) × (r < REGISTERS)
    → ((a : Addr) → o ≡ Some a → (d < CLIENTS) × (s < REGISTERS)) → cond b to o ≡ Some a → (d < CLIENTS) × (s < REGISTERS)
in_range c r d s true to o a same at was is =
    let both = and_parts (c == d) (r == s) same in
    (subst (λ c. c < CLIENTS) (eqb-true c d both.0) at.0, subst (λ r. r < REGISTERS) (eqb-true r s both.1) at.1)
in_range c r d s false to o a same at was is = was a is

named_stored : (view : SpaceView) (x : RefSource) (to : Option Addr) → IsNamed view → SourceStands view x → IsNamed (with_stored view x to)
named_stored view (Root n) None named at = named
named_stored view (Root n) (Some a) named at = record {
  numbers = numbers_differ view.roots n a named.numbers;
  few = subst (λ m. m ≤ ROOTS) (sym (len-mapped name_cmp (readdressed n a) view.roots)) named.few;
  registers = named.registers;
}
named_stored view (Handle c r) to named at = record {
  numbers = named.numbers;
  few = named.few;
  registers = λ d s a is.
      in_range c r d s ((c == d) && (r == s)) to (get view.registers (d, s)) a refl at (named.registers d s) (sym (register_after view.registers c r to d s) ∙ is);
}
named_stored view (Field a i) to named at = record { numbers = named.numbers; few = named.few; registers = named.registers }

-- what is heard of a source changes no name and no register
pub named_news : (t : SpaceView) (x : RefSource) (old new : Option Addr) → IsNamed t → IsNamed (with_news t x old new)
named_news t x old new named = record { numbers = named.numbers; few = named.few; registers = named.registers }

-- ---- the law

-- a source that is set by the write barrier keeps the heap law
pub spread_keeps_law : (view : SpaceView) (x : RefSource) (to : Option Addr) → HeapLaw view → SourceStands view x → HasValue x to → MayStore (seen view) to → HeapLaw (spread view x to)
spread_keeps_law view x to law at some may =
    let same = reshaped_spread view x to in
    record {
      built = built_still view (spread view x to) same law.built;
      named = named_news (with_stored view x to) x (stored view x) to (named_stored view x to law.named at);
      tied = spread_keeps_ties view x to law.built law.tied at some may;
      phase = phase_still view (spread view x to) same law.phase;
      anchor = anchor_still view (spread view x to) same law.anchor;
    }

-- ---- effective sets

-- the set of a car that is not set aside gives for the source what it stores
pub effective_here : (view : SpaceView) (x : RefSource) (to : Option Addr) (e : ℕ) → HeapLaw view → SourceStands view x → HasValue x to → MayStore (seen view) to
    → is_aside view e ≡ false → outside e x ≡ true → effective (spread view x to) e x ≡ slot_in e to
effective_here view x to e law at some may free out =
    let ties = spread_keeps_ties view x to law.built law.tied at some may in
    let sp = is_spread view x to law.built law.tied at some may in
    ties.reads e x (sp.aside e ∙ free) (kept_still x at) out ∙ ap (slot_in e) (sp.stored x ∙ cond-true _ _ _ (same_itself x))
  where
    kept_still : (y : RefSource) → SourceStands view y → kept (seen (spread view x to)) y ≡ true
    kept_still (Root n) up = refl
    kept_still (Handle c r) up = refl
    kept_still (Field a i) up = ap not ((is_spread view x to law.built law.tied at some may).aside a.car ∙ up.0)

-- and for every other source what it gave
pub effective_elsewhere : (view : SpaceView) (x : RefSource) (to : Option Addr) (e : ℕ) (y : RefSource) → HeapLaw view → SourceStands view x → HasValue x to → MayStore (seen view) to
    → same_source x y ≡ false → effective (spread view x to) e y ≡ effective view e y
effective_elsewhere view x to e y law at some may apart = (is_spread view x to law.built law.tied at some may).effective e y ∙ cond-false _ _ _ apart
