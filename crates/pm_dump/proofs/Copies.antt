-- The dump of a copy keeps what a dump keeps, and is that of the copy alone.
use Rattle.std.proofs.Common.{◌≡◌, ℕ, suc, ◌≤◌, Bool, true, false, cond, T, List, [], ◌∷◌, Option, Some, None, IsSome, IfSome, slice_get, refl, sym, ap, subst, ◌∙◌}
use Rattle.std.specs.List.{AllByRecursion, flat_map}
use Rattle.std.specs.declared.cmp.Ordering.{Ordering}
use Rattle.std.specs.Cmp.{IsTotalOrder, nat_cmp_total, tied_itself}
use Rattle.std.specs.Cmp.Lexicographic.{nat_list_cmp_total}
use Rattle.std.specs.Ordering.{nat_cmp, is_eq, is_lt, eq_by_cmp}
use Rattle.std.specs.FinMap.{FinMap, find, is_sorted, entries, entries_sorted, from_sorted, entries-from_sorted, same_entries_map, get, get-entries, len-entries}
use Rattle.std.specs.FinMap.Entries.{below_all, find_tied}
use Rattle.hex.specs.Hex.{IsBytes}
use Rattle.pm_types.proofs.Shown.{tied}
use Rattle.pm_types.specs.Names.{IsName}
use Rattle.pm_types.specs.Orders.{name_cmp}
use Rattle.pm_model.specs.Heap.{Object, Heap, field_of}
use Rattle.pm_model.specs.World.{Copy, Roots}
use Rattle.pm_model.specs.Copying.{field_id, held_ids, copied}
use Rattle.pm_model.proofs.Reached.{copied_again}
use Rattle.pm_dump.specs.Dump.{Dump, dump_of, copy_of_dump, dump_text_of}
use Rattle.pm_dump.specs.Spelled.{Spells}
use Rattle.pm_dump.specs.Sound.{IsIdBelow, IsSoundObject, IsListed, IsSoundDump, HaveBytes, IsCopyInRange}
use Rattle.pm_dump.proofs.Sorted.{second, sorted_below, sorted_rest, below_first}
use Rattle.pm_dump.proofs.Written.{dump_spelled}

-- ---- what holds of each value of a map holds of each entry

module _ {K X : Type 0} {R : K → K → Ordering} (o : IsTotalOrder R) where
  none_below : (x : K) (es : List (K × X)) → T (below_all R x es) → find R x es ≡ None
  none_below x [] below = refl
  none_below x (e ∷ es) below =
      ap (λ (r : Ordering). cond (is_eq r) (Some e.1) (find R x es)) (below_first o x e es below) ∙ none_below x es (second (is_lt (R x e.0)) (below_all R x es) below)

  here : (e : K × X) (es : List (K × X)) → find R e.0 (e ∷ es) ≡ Some e.1
  here e es = ap (λ (r : Ordering). cond (is_eq r) (Some e.1) (find R e.0 es)) (tied_itself o e.0)

  not_none : (v : X) → ◌≡◌ {A = Option X} None (Some v) → ⊥
  not_none v is = cc is

  later_by : (k : K) (v : X) (e : K × X) (es : List (K × X)) (test : Bool) → eq_by_cmp R k e.0 ≡ test → T (below_all R e.0 es) → find R k es ≡ Some v → cond test (Some e.1) (find R k es) ≡ Some v
  later_by k v e es true is below found =
      absurd (not_none v (sym (none_below e.0 es below) ∙ find_tied R o k e.0 (tied (R k e.0) is) es ∙ found))
  later_by k v e es false is below found = found

  later : (k : K) (v : X) (e : K × X) (es : List (K × X)) → T (below_all R e.0 es) → find R k es ≡ Some v → find R k (e ∷ es) ≡ Some v
  later k v e es below found =
      ap (λ (b : Bool). cond b (Some e.1) (find R k es)) refl ∙ later_by k v e es (eq_by_cmp R k e.0) refl below found

  each_entry : (P : K → X → Type 0) (es : List (K × X)) → T (is_sorted R es) → ((k : K) (v : X) → find R k es ≡ Some v → P k v) → AllByRecursion (λ (e : K × X). P e.0 e.1) es
  each_entry P [] sorted each = tt
  each_entry P (e ∷ es) sorted each =
      (each e.0 e.1 (here e es), each_entry P es (sorted_rest o e es sorted) (λ k v found. each k v (later k v e es (sorted_below o e es sorted) found)))

  -- what holds of each value of a map holds of each entry
  pub in_entries : (P : K → X → Type 0) (m : FinMap R X) → ((k : K) (v : X) → get m k ≡ Some v → P k v) → AllByRecursion (λ (e : K × X). P e.0 e.1) (entries m)
  in_entries P m each = each_entry P (entries m) (entries_sorted m) (λ k v found. each k v (get-entries m k ∙ found))

-- ---- fields

found_of : {A : Type 0} (o : Option A) → IsSome o → (x : A) × (o ≡ Some x)
found_of None is = cc is
found_of (Some x) is = (x, refl)

each_field : (P : ℕ → Type 0) (fields : List (Option ℕ)) → ((index to : ℕ) → slice_get fields index ≡ Some (Some to) → P to) → AllByRecursion (λ (field : Option ℕ). IfSome field P) fields
each_field P [] each = tt
each_field P (None ∷ fields) each = (tt, each_field P fields (λ index to is. each (suc index) to is))
each_field P (Some to ∷ fields) each = (each 0 to refl, each_field P fields (λ index to is. each (suc index) to is))

each_held : (P : ℕ → Type 0) (fields : List (Option ℕ)) → AllByRecursion (λ (field : Option ℕ). IfSome field P) fields → AllByRecursion P (flat_map field_id fields)
each_held P [] all = tt
each_held P (None ∷ fields) all = each_held P fields all.1
each_held P (Some to ∷ fields) all = (all.0, each_held P fields all.1)

-- ---- the dump of a copy

listed_there : (heap : Heap) (id : ℕ) → IsSome (get heap id) → IsListed (entries heap) id
listed_there heap id is = subst (λ (o : Option Object). IsSome o) (get-entries heap id) is

field_there : (copy : Copy) → IsCopyInRange copy → (id : ℕ) (object : Object) → get copy.heap id ≡ Some object → (index to : ℕ) → slice_get object.fields index ≡ Some (Some to) → IsSome (get copy.heap to)
field_there copy is id object found index to held = is.closed.fields id index to (ap (λ (o : Option Object). field_of o index) found ∙ held)

given_id : (copy : Copy) → IsCopyInRange copy → (id : ℕ) → IsSome (get copy.heap id) → IsIdBelow copy.next id
given_id copy is id some = let it = found_of (get copy.heap id) some in is.closed.given id it.0 it.1

sound_there : (copy : Copy) → IsCopyInRange copy → (id : ℕ) (object : Object) → get copy.heap id ≡ Some object → IsSoundObject copy.next id object
sound_there copy is id object found = record {
  is_id = is.closed.given id object found;
  few = is.few id object found;
  held = each_field (IsIdBelow copy.next) object.fields (λ index to held. given_id copy is to (field_there copy is id object found index to held));
  short = is.short id object found;
}

-- the dump of a copy keeps what a dump keeps
pub copy_sound : (copy : Copy) → IsCopyInRange copy → IsSoundDump (dump_of copy)
copy_sound copy is = record {
  first = is.closed.first;
  last = is.closed.last;
  objects = in_entries nat_cmp_total (λ id object. IsSoundObject copy.next id object) copy.heap (sound_there copy is);
  ascend = entries_sorted copy.heap;
  few = subst (λ n. n ≤ 4096) (len-entries copy.roots) is.names;
  named = in_entries nat_list_cmp_total (λ name id. IsName name × IsIdBelow copy.next id) copy.roots (λ name id bound. (is.named name id bound, given_id copy is id (is.closed.named name id bound)));
  names = entries_sorted copy.roots;
  fields = in_entries nat_cmp_total (λ id object. AllByRecursion (IsListed (entries copy.heap)) (held_ids object)) copy.heap
      (λ id object found.
      each_held (IsListed (entries copy.heap)) object.fields
      (each_field (IsListed (entries copy.heap)) object.fields (λ index to held. listed_there copy.heap to (field_there copy is id object found index to held))));
  roots = in_entries nat_list_cmp_total (λ name id. IsListed (entries copy.heap) id) copy.roots (λ name id bound. listed_there copy.heap id (is.closed.named name id bound));
}

copy_bytes : (copy : Copy) → IsCopyInRange copy → HaveBytes (dump_of copy)
copy_bytes copy is = in_entries nat_cmp_total (λ id object. IsBytes object.bytes) copy.heap is.bytes

-- and its text spells it
pub copy_spelled : (copy : Copy) → IsCopyInRange copy → Spells (dump_text_of (dump_of copy)) (dump_of copy)
copy_spelled copy is = dump_spelled (dump_of copy) (copy_sound copy is) (copy_bytes copy is)

again : {K X : Type 0} {R : K → K → Ordering} (m : FinMap R X) → from_sorted {R = R} (entries m) ≡ m
again {R = R} m = same_entries_map (from_sorted (entries m)) m (entries-from_sorted R (entries m) (entries_sorted m))

-- the copy with what stands in a copy's dump is that copy
pub copy_again : (copy : Copy) → copy_of_dump (dump_of copy) ≡ copy
copy_again copy = λ i. record { heap = again copy.heap i; roots = again copy.roots i; next = copy.next }

-- the dump of the copy with what stands in a dump is that dump
pub dump_again : (dump : Dump) → IsSoundDump dump → dump_of (copy_of_dump dump) ≡ dump
dump_again dump is = λ i. record { next = dump.next; objects = entries-from_sorted nat_cmp dump.objects is.ascend i; roots = entries-from_sorted name_cmp dump.roots is.names i }

-- what the roots reach of a copy that was made of a heap is all of it, also behind its dump
pub reached_again : (heap : Heap) (roots : Roots) (next : ℕ) → copied (copy_of_dump (dump_of (copied heap roots next))).heap roots next ≡ copied heap roots next
reached_again heap roots next = ap (λ (copy : Copy). copied copy.heap roots next) (copy_again (copied heap roots next)) ∙ copied_again heap roots next
