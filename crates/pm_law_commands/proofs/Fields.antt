-- Commands that set a field or change bytes.
use Rattle.std.proofs.Common.{◌≡◌, ℕ, ◌+◌, ◌≤◌, nat_lt, nat_eq, if◌then◌else◌, Bool, true, false, refl, ap, sym, subst, ◌∙◌, List, [], ◌∷◌, length, Option, Some, None, arith, is_some, zero, suc}
use Rattle.std.specs.Option.{IsSome, IsSomeAnd, option_map, option_and_then}
use Rattle.std.specs.List.{slice_get}
use Rattle.std.specs.FinMap.{get}
use Rattle.std.proofs.lemmas.Bool.{ltb-true, ltb-false, lt-ltb, false_from_ne_true}
use Rattle.std.proofs.lemmas.Bool.Decides.{nat_tests}
use Rattle.std.proofs.lemmas.List.{length-map}
use Rattle.pm_types.specs.declared.address.Addr.{Addr}
use Rattle.pm_types.specs.declared.object.Object as kept_objects
use Rattle.pm_types.specs.declared.source.RefSource.TheVariants.{Field}
use Rattle.pm_types.specs.declared.reply.Reply.TheVariants.{Done, Null, NoHandle, NoField, OutOfRange, Held}
use Rattle.pm_model.specs.Heap.{Object, with_field}
use Rattle.pm_model.specs.Heap as model_heap
use Rattle.pm_model.specs.World.{World, held, changing}
use Rattle.pm_model.specs.Answer.{answer_store, answer_clear, writing, answer_put, putting, answer_swap, swapping}
use Rattle.pm_view.specs.View.{SpaceView}
use Rattle.pm_view.specs.Reading.{resolve, SourceStands}
use Rattle.pm_view.specs.Seen.{seen, MayStore}
use Rattle.pm_view.specs.Law.{HeapLaw}
use Rattle.pm_view.specs.Represents.{names, meaning, Represents}
use Rattle.pm_view.specs.Rows.{spread, with_bytes_at, HasBytesAt}
use Rattle.pm_view.specs.Commands.{register, refused, object_held, field_at, set_field, row_store, row_clear, named_in, swap_field, row_swap, put_bytes, row_put}
use Rattle.pm_law_commands.proofs.RowLemmas.SpreadKept.{spread_keeps_law}
use Rattle.pm_law_commands.proofs.RowLemmas.SpreadMeans.{field_stands}
use Rattle.pm_law_commands.proofs.RowLemmas.Bytes.{bytes_keep_law, bytes_stand}
use Rattle.pm_law_commands.specs.Served.{IsServed}
use Rattle.pm_law_commands.proofs.Held.{LeadsTo, named_then, may_store, known_by}
use Rattle.pm_law_commands.proofs.Registers.{refused_both, found_in, wanted_in, held_is, field_leads, fields_mean}

-- a list has an item where its place is within
has_item : {X : Type 0} (xs : List X) (k : ℕ) → is_some (slice_get xs k) ≡ nat_lt k (length xs)
has_item [] k = sym (false_from_ne_true (nat_lt k 0) (λ less. let no = ltb-true k 0 less in omega (arith, no)))
has_item (x ∷ xs) zero = sym (lt-ltb 0 (length (x ∷ xs)) (omega arith))
has_item (x ∷ xs) (suc k) = has_item xs k ∙ shifted k (length xs)
  where
    shifted : (k n : ℕ) → nat_lt k n ≡ nat_lt (suc k) (suc n)
    shifted k n = grind (arith, nat_tests)

some_ids : (a b : ℕ) → Some a ≡ Some b → a ≡ b
some_ids a b is = cc

module _ (view : SpaceView) (world : World) (law : HeapLaw view) (stands : Represents view world) where
  same_test : (object : kept_objects.Object) (known : Object) (index : ℕ) → known ≡ meaning view object → is_some (field_at (Some object) index) ≡ nat_lt index (length known.fields)
  same_test object known index means =
      has_item object.fields index ∙ ap (nat_lt index) (sym (ap (λ (k : Object). length k.fields) means ∙ length-map object.fields (names view)))

  -- a field of an object that the world has is set
  set_serves : (a : Addr) (object : kept_objects.Object) (known : Object) (index : ℕ) (value : Option Addr) → LeadsTo view a object → get world.heap object.id ≡ Some known → known ≡ meaning view object
      → MayStore (seen view) value → ((id : ℕ) → names view value ≡ Some id → IsSome (get world.heap id)) → IsServed (set_field view (resolve view a) index value) (writing world object.id index (names view value) (get world.heap object.id))
  set_serves a object known index value there has means may wanted =
      subst (λ o. IsServed (set_field view (resolve view a) index value) (writing world object.id index (names view value) o)) (sym has)
      (subst (λ o. IsServed (if is_some (field_at o index) then (Done, spread view (Field (resolve view a) index) value) else refused view NoField) (writing world object.id index (names view value) (Some known))) (sym there.here)
      (by_test (nat_lt index (length known.fields)) (is_some (field_at (Some object) index)) refl (same_test object known index means)))
    where
      by_test : (b c : Bool) → nat_lt index (length known.fields) ≡ b → c ≡ nat_lt index (length known.fields)
          → IsServed (if c then (Done, spread view (Field (resolve view a) index) value) else refused view NoField)
          (if nat_lt index (length known.fields) then (Done, changing world object.id (with_field known index (names view value))) else (NoField, world))
      by_test b true test same = subst (λ d. IsServed (Done, spread view (Field (resolve view a) index) value) (if d then (Done, changing world object.id (with_field known index (names view value))) else (NoField, world))) same
          (record {
            reply = refl;
            law = spread_keeps_law view (Field (resolve view a) index) value law at tt may;
            world = field_stands view world (resolve view a) index object known value law stands there.here at may has wanted;
          })
        where
          at : SourceStands view (Field (resolve view a) index)
          at = (there.free, ap (λ o. is_some (option_and_then (λ (o : kept_objects.Object). slice_get o.fields index) o)) there.here ∙ same_test object known index means ∙ sym same)
      by_test b false test same = subst (λ d. IsServed (refused view NoField) (if d then (Done, changing world object.id (with_field known index (names view value))) else (NoField, world))) same (refused_both view world NoField law stands)

  none_held : (client reg : ℕ) → register view client reg ≡ None → held world client reg ≡ None
  none_held client reg is = held_is view world law stands client reg ∙ ap (names view) is

  found : (client reg : ℕ) (a : Addr) → register view client reg ≡ Some a
      → (object : kept_objects.Object) × LeadsTo view a object × (held world client reg ≡ Some object.id) × ((known : Object) × (get world.heap object.id ≡ Some known) × (known ≡ meaning view object))
  found client reg a is =
      let it = found_in view world law stands client reg a is in
      (it.0, it.1, it.2, known_by view world a it.0 stands it.1 (wanted_in view world law stands client reg it.0.id it.2))

  -- `store`
  pub store_serves : (client reg index value : ℕ) → IsServed (row_store view index (register view client reg) (register view client value)) (answer_store world index (held world client reg) (held world client value))
  store_serves client reg index value = by_reg (register view client reg) refl
    where
      by_value : (a : Addr) → register view client reg ≡ Some a → (o : Option Addr) → register view client value ≡ o → IsServed (row_store view index (Some a) o) (answer_store world index (held world client reg) (held world client value))
      by_value a is None none =
          let it = found client reg a is in
          subst (λ o. IsServed (refused view NoHandle) (answer_store world index o (held world client value))) (sym it.2)
          (subst (λ o. IsServed (refused view NoHandle) (answer_store world index (Some it.0.id) o)) (sym (none_held client value none)) (refused_both view world NoHandle law stands))
      by_value a is (Some b) some =
          let it = found client reg a is in
          let other = found client value b some in
          subst (λ o. IsServed (row_store view index (Some a) (Some b)) (answer_store world index o (held world client value))) (sym it.2)
          (subst (λ o. IsServed (row_store view index (Some a) (Some b)) (answer_store world index (Some it.0.id) o)) (sym other.2)
          (subst (λ o. IsServed (set_field view (resolve view a) index (Some (resolve view b))) (writing world it.0.id index o (get world.heap it.0.id))) (named_then view b other.0 other.1)
          (set_serves a it.0 it.3.0 index (Some (resolve view b)) it.1 it.3.1 it.3.2 (may_store view b other.0 other.1)
          (λ id is. ap (λ i. is_some (get world.heap i)) (some_ids id other.0.id (sym is ∙ named_then view b other.0 other.1)) ∙ ap is_some other.3.1))))

      by_reg : (o : Option Addr) → register view client reg ≡ o → IsServed (row_store view index o (register view client value)) (answer_store world index (held world client reg) (held world client value))
      by_reg None none = subst (λ o. IsServed (refused view NoHandle) (answer_store world index o (held world client value))) (sym (none_held client reg none)) (refused_both view world NoHandle law stands)
      by_reg (Some a) is = by_value a is (register view client value) refl

  -- `clear`
  pub clear_serves : (client reg index : ℕ) → IsServed (row_clear view index (register view client reg)) (answer_clear world index (held world client reg))
  clear_serves client reg index = by_reg (register view client reg) refl
    where
      nothing : (id : ℕ) → None ≡ Some id → IsSome (get world.heap id)
      nothing id is = cc

      by_reg : (o : Option Addr) → register view client reg ≡ o → IsServed (row_clear view index o) (answer_clear world index (held world client reg))
      by_reg None none = subst (λ o. IsServed (refused view NoHandle) (answer_clear world index o)) (sym (none_held client reg none)) (refused_both view world NoHandle law stands)
      by_reg (Some a) is =
          let it = found client reg a is in
          subst (λ o. IsServed (row_clear view index (Some a)) (answer_clear world index o)) (sym it.2) (set_serves a it.0 it.3.0 index None it.1 it.3.1 it.3.2 tt nothing)

  -- `put`
  pub put_serves : (client reg at : ℕ) (bytes : List ℕ) → IsServed (row_put view at bytes (register view client reg)) (answer_put world at bytes (held world client reg))
  put_serves client reg at bytes = by_reg (register view client reg) refl
    where
      by_test : (a : Addr) (object : kept_objects.Object) (known : Object) → LeadsTo view a object → get world.heap object.id ≡ Some known → known ≡ meaning view object → (b : Bool) → nat_lt (length object.bytes) (at + length bytes) ≡ b
          → IsServed (if b then refused view OutOfRange else (Done, with_bytes_at view (resolve view a) at bytes)) (if b then (OutOfRange, world) else (Done, changing world object.id (model_heap.with_bytes known at bytes)))
      by_test a object known there has means true over = refused_both view world OutOfRange law stands
      by_test a object known there has means false within =
          let room : HasBytesAt view.cars (resolve view a) at (length bytes) = subst (λ o. IsSomeAnd o (λ (object : kept_objects.Object). at + length bytes ≤ length object.bytes)) (sym there.here) (ltb-false (length object.bytes) (at + length bytes) within) in
          record {
            reply = refl;
            law = bytes_keep_law view (resolve view a) at bytes law room;
            world = bytes_stand view (resolve view a) at bytes law room world object known stands there.here there.free has;
          }

      by_reg : (o : Option Addr) → register view client reg ≡ o → IsServed (row_put view at bytes o) (answer_put world at bytes (held world client reg))
      by_reg None none = subst (λ o. IsServed (refused view NoHandle) (answer_put world at bytes o)) (sym (none_held client reg none)) (refused_both view world NoHandle law stands)
      by_reg (Some a) is =
          let it = found client reg a is in
          let lengths : length it.3.0.bytes ≡ length it.0.bytes = ap (λ (k : Object). length k.bytes) it.3.2 in
          subst (λ o. IsServed (row_put view at bytes (Some a)) (answer_put world at bytes o)) (sym it.2)
          (subst (λ o. IsServed (row_put view at bytes (Some a)) (putting world it.0.id at bytes o)) (sym it.3.1)
          (subst (λ o. IsServed (put_bytes view (resolve view a) at bytes o) (putting world it.0.id at bytes (Some it.3.0))) (sym it.1.here)
          (subst (λ n. IsServed (put_bytes view (resolve view a) at bytes (Some it.0)) (if nat_lt n (at + length bytes) then (OutOfRange, world) else (Done, changing world it.0.id (model_heap.with_bytes it.3.0 at bytes)))) (sym lengths)
          (by_test a it.0 it.3.0 it.1 it.3.1 it.3.2 (nat_lt (length it.0.bytes) (at + length bytes)) refl))))

  -- ---- swap

  -- the field of the one object and that of the other mean one thing
  named_serves : (a : Addr) (object : kept_objects.Object) (known : Object) (index : ℕ) (old_object value_object : kept_objects.Object) (value : Addr) → LeadsTo view a object → get world.heap object.id ≡ Some known → known ≡ meaning view object
      → LeadsTo view value value_object → IsSome (get world.heap value_object.id) → (f : Option (Option Addr)) → field_at (Some object) index ≡ f
      → IsServed (swap_field view (resolve view a) index f (named_in view f) (Some old_object) (resolve view value)) (swapping world object.id index old_object.id value_object.id (model_heap.field_of (Some known) index))
  named_serves a object known index old_object value_object value there has means to_value value_known None is =
      subst (λ o. IsServed (refused view NoField) (swapping world object.id index old_object.id value_object.id o)) (sym (fields_mean view world law stands a object known index means ∙ ap (option_map (names view)) is)) (refused_both view world NoField law stands)
  named_serves a object known index old_object value_object value there has means to_value value_known (Some None) is =
      subst (λ o. IsServed (refused view Null) (swapping world object.id index old_object.id value_object.id o)) (sym (fields_mean view world law stands a object known index means ∙ ap (option_map (names view)) is)) (refused_both view world Null law stands)
  named_serves a object known index old_object value_object value there has means to_value value_known (Some (Some b)) is =
      let next = field_leads view world law stands a object known index b there has means is in
      subst (λ o. IsServed (swap_field view (resolve view a) index (Some (Some b)) (named_in view (Some (Some b))) (Some old_object) (resolve view value)) (swapping world object.id index old_object.id value_object.id o)) (sym next.2)
      (subst (λ o. IsServed (swap_field view (resolve view a) index (Some (Some b)) o (Some old_object) (resolve view value)) (swapping world object.id index old_object.id value_object.id (Some (Some next.0.id)))) (sym next.1.here)
      (by_test next.0 (nat_eq next.0.id old_object.id)))
    where
      stored_then : set_field view (resolve view a) index (Some (resolve view value)) ≡ (Done, spread view (Field (resolve view a) index) (Some (resolve view value)))
      stored_then = ap (λ b. if b then (Done, spread view (Field (resolve view a) index) (Some (resolve view value))) else refused view NoField) (ap (λ o. is_some (field_at o index)) there.here ∙ ap is_some is)

      by_test : (found : kept_objects.Object) (b : Bool)
          → IsServed (if b then (Done, spread view (Field (resolve view a) index) (Some (resolve view value))) else refused view (Held found.id))
          (if b then writing world object.id index (Some value_object.id) (get world.heap object.id) else (Held found.id, world))
      by_test found true =
          subst (λ row. IsServed row (writing world object.id index (Some value_object.id) (get world.heap object.id))) stored_then
          (subst (λ o. IsServed (set_field view (resolve view a) index (Some (resolve view value))) (writing world object.id index o (get world.heap object.id))) (named_then view value value_object to_value)
          (set_serves a object known index (Some (resolve view value)) there has means (may_store view value value_object to_value)
          (λ id same. ap (λ i. is_some (get world.heap i)) (some_ids id value_object.id (sym same ∙ named_then view value value_object to_value)) ∙ value_known)))
      by_test found false = refused_both view world (Held found.id) law stands

  -- `swap`
  pub swap_serves : (client reg index old value : ℕ)
      → IsServed (row_swap view index (register view client reg) (register view client old) (register view client value)) (answer_swap world index (held world client reg) (held world client old) (held world client value))
  swap_serves client reg index old value = by_reg (register view client reg) refl
    where
      by_value : (a b : Addr) → register view client reg ≡ Some a → register view client old ≡ Some b → (o : Option Addr) → register view client value ≡ o
          → IsServed (row_swap view index (Some a) (Some b) o) (answer_swap world index (held world client reg) (held world client old) (held world client value))
      by_value a b is_a is_b None none =
          let it = found client reg a is_a in
          let was = found client old b is_b in
          subst (λ o. IsServed (refused view NoHandle) (answer_swap world index o (held world client old) (held world client value))) (sym it.2)
          (subst (λ o. IsServed (refused view NoHandle) (answer_swap world index (Some it.0.id) o (held world client value))) (sym was.2)
          (subst (λ o. IsServed (refused view NoHandle) (answer_swap world index (Some it.0.id) (Some was.0.id) o)) (sym (none_held client value none)) (refused_both view world NoHandle law stands)))
      by_value a b is_a is_b (Some c) is_c =
          let it = found client reg a is_a in
          let was = found client old b is_b in
          let new = found client value c is_c in
          let row = row_swap view index (Some a) (Some b) (Some c) in
          subst (λ o. IsServed row (answer_swap world index o (held world client old) (held world client value))) (sym it.2)
          (subst (λ o. IsServed row (answer_swap world index (Some it.0.id) o (held world client value))) (sym was.2)
          (subst (λ o. IsServed row (answer_swap world index (Some it.0.id) (Some was.0.id) o)) (sym new.2)
          (subst (λ o. IsServed row (swapping world it.0.id index was.0.id new.0.id (model_heap.field_of o index))) (sym it.3.1)
          (subst (λ o. IsServed (swap_field view (resolve view a) index (field_at o index) (named_in view (field_at o index)) (object_held view (Some b)) (resolve view c)) (swapping world it.0.id index was.0.id new.0.id (model_heap.field_of (Some it.3.0) index))) (sym it.1.here)
          (subst (λ o. IsServed (swap_field view (resolve view a) index (field_at (Some it.0) index) (named_in view (field_at (Some it.0) index)) o (resolve view c)) (swapping world it.0.id index was.0.id new.0.id (model_heap.field_of (Some it.3.0) index))) (sym was.1.here)
          (named_serves a it.0 it.3.0 index was.0 new.0 c it.1 it.3.1 it.3.2 new.1 (ap is_some new.3.1) (field_at (Some it.0) index) refl))))))

      by_old : (a : Addr) → register view client reg ≡ Some a → (o : Option Addr) → register view client old ≡ o
          → IsServed (row_swap view index (Some a) o (register view client value)) (answer_swap world index (held world client reg) (held world client old) (held world client value))
      by_old a is_a None none =
          let it = found client reg a is_a in
          subst (λ o. IsServed (refused view NoHandle) (answer_swap world index o (held world client old) (held world client value))) (sym it.2)
          (subst (λ o. IsServed (refused view NoHandle) (answer_swap world index (Some it.0.id) o (held world client value))) (sym (none_held client old none)) (refused_both view world NoHandle law stands))
      by_old a is_a (Some b) is_b = by_value a b is_a is_b (register view client value) refl

      by_reg : (o : Option Addr) → register view client reg ≡ o
          → IsServed (row_swap view index o (register view client old) (register view client value)) (answer_swap world index (held world client reg) (held world client old) (held world client value))
      by_reg None none = subst (λ o. IsServed (refused view NoHandle) (answer_swap world index o (held world client old) (held world client value))) (sym (none_held client reg none)) (refused_both view world NoHandle law stands)
      by_reg (Some a) is = by_old a is (register view client old) refl
