-- Whatever command is given, a sunk set stays sunk: no register, name or field that a client reaches leads to a member.
use Rattle.std.proofs.Common.{◌≡◌, ℕ, ◌+◌, ◌<◌, ◌≤◌, nat_le, nat_eq, nat_lt, if◌then◌else◌, zero, suc, Bool, true, false, cond, not, refl, ap, sym, subst, ◌∙◌, List, length, Option, Some, None, is_some, arith}
use Rattle.std.specs.Option.{IsSome, option_map, option_and_then, option_flatten}
use Rattle.std.specs.List.{slice_get}
use Rattle.std.specs.Ordering.{eq_by_cmp}
use Rattle.std.specs.FinMap.{get, insert, remove, len, get-insert, get-remove}
use Rattle.std.proofs.lemmas.Bool.{ltb-false}
use Rattle.pm_types.specs.Orders.{name_cmp}
use Rattle.pm_types.proofs.Orders.{names_total}
use Rattle.pm_types.specs.Registers.{HasRegisters}
use Rattle.pm_types.specs.declared.limits.TheConstants.{CLIENTS, REGISTERS, ROOTS}
use Rattle.pm_types.specs.declared.address.Addr.{Addr}
use Rattle.pm_types.specs.declared.object.Object.{Object}
use Rattle.pm_types.specs.declared.source.RefSource.{RefSource}
use Rattle.pm_types.specs.declared.source.RefSource.TheVariants.{Root, Handle, Field}
use Rattle.pm_types.specs.declared.command.Cmd.{Cmd}
use Rattle.pm_types.specs.declared.command.Cmd.TheVariants.{New, Load, Store, Clear, Show, Put, Copy, IdOf, Forget, Bind, Unbind, Find, Swap, Close}
use Rattle.pm_types.specs.declared.reply.Reply.TheVariants.{Done, NoField, OutOfRange, TooManyRoots, Held}
use Rattle.pm_cars.specs.Cars.{with_bytes}
use Rattle.pm_roots.specs.Bindings.{address_at}
use Rattle.pm_view.specs.Sources.{same_address}
use Rattle.pm_view.specs.View.{SpaceView}
use Rattle.pm_view.specs.Reading.{object_at, field_of, stored, is_aside, is_kept, resolve}
use Rattle.pm_view.specs.Law.{HeapLaw}
use Rattle.pm_view.specs.Represents.{names}
use Rattle.pm_view.specs.Rows.{spread, with_name, without_name, with_bytes_at}
use Rattle.pm_view.specs.Commands.{emptied, register, refused, hold, object_held, row_copy, row_id, row_data, row_drop, field_at, load_field, row_load, set_field, row_store, row_clear, named_in, swap_field, row_swap, put_bytes, row_put, bind, row_root, row_unroot, row_find, row, Picks, ArePicked}
use Rattle.pm_law_commands.proofs.RowLemmas.Numbers.{owner, found_by_number}
use Rattle.pm_law_commands.proofs.RowLemmas.SameSource.{same_address-true}
use Rattle.pm_law_commands.proofs.RowLemmas.Places.{object_after}
use Rattle.pm_law_commands.proofs.RowLemmas.Shapes.{IsShaped}
use Rattle.pm_law_commands.proofs.RowLemmas.SpreadKept.{reshaped_object}
use Rattle.pm_law_commands.proofs.RowLemmas.Bytes.{bytes_shaped}
use Rattle.pm_law_collect.proofs.PhasesLemmas.Small.{some_same, none_some}
use Rattle.pm_law_commands.proofs.Held.{leads, named, named_then}
use Rattle.pm_view.specs.Sinking.{IsFieldOf, Sunk}
use Rattle.pm_law_bound.proofs.SunkLemmas.Agreeing.{of_object}
use Rattle.pm_law_bound.proofs.SunkLemmas.Sinks.{sunk_reshaped, spread_sinks, not_held}
use Rattle.pm_law_bound.proofs.SunkLemmas.Birth.{new_sunk}

-- what is stored names no member
abbrev IsClean : SpaceView → (ℕ → Type 0) → Option Addr → Type 0
IsClean view Of to = (id : ℕ) → names view to ≡ Some id → Of id → ⊥

pair_same : (m n : ℕ) (a b : Addr) → ◌≡◌ {A = Option (ℕ × Addr)} (Some (m, a)) (Some (n, b)) → a ≡ b
pair_same m n a b is = ap (λ (p : ℕ × Addr). p.1) (some_same {A = ℕ × Addr} (m, a) (n, b) is)

same_fields : (b : Bool) (change : Object → Object) (o p : Option Object) (i : ℕ) → ((object : Object) → (change object).fields ≡ object.fields) → (b ≡ true → o ≡ p) → field_of (cond b (option_map change o) p) i ≡ field_of p i
same_fields true change None p i same is = ap (λ o. field_of o i) (is refl)
same_fields true change (Some object) p i same is = ap (λ fields. option_flatten (slice_get fields i)) (same object) ∙ ap (λ o. field_of o i) (is refl)
same_fields false change o p i same is = refl

field_some : (o : Option Object) (i : ℕ) → is_some (field_at o i) ≡ true → IsSome (option_and_then (λ (o : Object). slice_get o.fields i) o)
field_some None i is = is
field_some (Some object) i is = is

field_stored : (o : Option Object) (i : ℕ) (b : Addr) → field_at o i ≡ Some (Some b) → field_of o i ≡ Some b
field_stored None i b is = cc
field_stored (Some object) i b is = ap option_flatten is

module _ (view : SpaceView) (law : HeapLaw view) (Of : ℕ → Type 0) (n : ℕ) (sunk : Sunk view Of n) where
  -- ---- what is stored

  -- what a source stores that is no field of a member
  clean_source : (x : RefSource) (b : Addr) → is_kept view x ≡ true → stored view x ≡ Some b → (IsFieldOf view Of x → ⊥) → IsClean view Of (Some (resolve view b))
  clean_source x b up is other id name of =
      let to = leads view x b law up is in
      other (sunk.named x id up (ap (names view) is ∙ named view b to.0 to.1 ∙ sym (named_then view b to.0 to.1) ∙ name) of)

  clean_held : (client reg : ℕ) (b : Addr) → register view client reg ≡ Some b → IsClean view Of (Some (resolve view b))
  clean_held client reg b is = clean_source (Handle client reg) b refl is (λ of. of)

  clean_name : (name : List ℕ) (bound : ℕ × Addr) → get view.roots name ≡ Some bound → IsClean view Of (Some (resolve view bound.1))
  clean_name name bound is = clean_source (Root bound.0) bound.1 refl (found_by_number view.roots law.named.numbers name bound is) (λ of. of)

  -- what a register holds is there, in a car that is not set aside
  free_held : (client reg : ℕ) (a : Addr) → register view client reg ≡ Some a → is_aside view (resolve view a).car ≡ false
  free_held client reg a is = (leads view (Handle client reg) a law refl is).1.free

  -- what a field of it stores
  clean_field : (client reg index : ℕ) (a b : Addr) → register view client reg ≡ Some a → field_at (object_at view.cars (resolve view a)) index ≡ Some (Some b) → IsClean view Of (Some (resolve view b))
  clean_field client reg index a b is field =
      let to = leads view (Handle client reg) a law refl is in
      clean_source (Field (resolve view a) index) b (ap not to.1.free) (field_stored (object_at view.cars (resolve view a)) index b field) (λ of.
      let it = of_object view Of (resolve view a) of in
      not_held view Of n sunk client reg a to.0 is to.1 (subst (λ (o : Object). Of o.id) (some_same it.0 to.0 (sym it.1 ∙ to.1.here)) it.2))

  clean_none : IsClean view Of None
  clean_none id name of = none_some id name

  -- ---- rows

  handle_sunk : (client reg : ℕ) (to : Option Addr) → client < CLIENTS → reg < REGISTERS → IsClean view Of to → Sunk (spread view (Handle client reg) to) Of n
  handle_sunk client reg to c r clean = spread_sinks view Of n sunk (Handle client reg) to (c, r) tt (λ id name of. clean id name of)

  hold_sunk : (client to : ℕ) (a : Addr) (o : Option Object) → client < CLIENTS → to < REGISTERS → IsClean view Of (Some a) → Sunk (hold view client to a o).1 Of n
  hold_sunk client to a None c r clean = sunk
  hold_sunk client to a (Some object) c r clean = handle_sunk client to (Some a) c r clean

  field_sunk : (a : Addr) (i : ℕ) (to : Option Addr) → is_aside view a.car ≡ false → is_some (field_at (object_at view.cars a) i) ≡ true → IsClean view Of to → Sunk (spread view (Field a i) to) Of n
  field_sunk a i to free there clean = spread_sinks view Of n sunk (Field a i) to (free, field_some (object_at view.cars a) i there) tt (λ id name of. absurd (clean id name of))

  set_sunk : (a : Addr) (i : ℕ) (to : Option Addr) → is_aside view a.car ≡ false → IsClean view Of to → Sunk (set_field view a i to).1 Of n
  set_sunk a i to free clean = by_test (is_some (field_at (object_at view.cars a) i)) refl
    where
      by_test : (b : Bool) → is_some (field_at (object_at view.cars a) i) ≡ b → Sunk (if b then (Done, spread view (Field a i) to) else refused view NoField).1 Of n
      by_test true there = field_sunk a i to free there clean
      by_test false none = sunk

  -- ---- names

  bound_sunk : (name : List ℕ) (number : ℕ) (a : Addr) → IsClean view Of (Some a) → Sunk (with_name view name number a) Of n
  bound_sunk name number a clean = record { given = sunk.given; named = named_now; low = sunk.low; anchored = sunk.anchored }
    where
      by_name : (k id : ℕ) (b : Addr) (other : List ℕ) (d : Bool) → cond d (Some (number, a)) (get view.roots other) ≡ Some (k, b) → names view (Some b) ≡ Some id → Of id → ⊥
      by_name k id b other true is name of = clean id (ap (λ c. names view (Some c)) (pair_same number k a b is) ∙ name) of
      by_name k id b other false is name of = sunk.named (Root k) id refl (ap (names view) (found_by_number view.roots law.named.numbers other (k, b) is) ∙ name) of

      by_root : (k id : ℕ) (o : Option Addr) → address_at (insert view.roots name (number, a)) k ≡ o → names view o ≡ Some id → Of id → ⊥
      by_root k id None is leads of = none_some id leads
      by_root k id (Some b) is leads of =
          let found = owner (insert view.roots name (number, a)) k b is in
          by_name k id b found.0 (eq_by_cmp name_cmp found.0 name) (sym (get-insert names_total view.roots name (number, a) found.0) ∙ found.1) leads of

      named_now : (x : RefSource) (id : ℕ) → is_kept (with_name view name number a) x ≡ true → names (with_name view name number a) (stored (with_name view name number a) x) ≡ Some id → Of id → IsFieldOf (with_name view name number a) Of x
      named_now (Root k) id up leads of = by_root k id (address_at (insert view.roots name (number, a)) k) refl leads of
      named_now (Handle c r) id up leads of = sunk.named (Handle c r) id up leads of
      named_now (Field b i) id up leads of = sunk.named (Field b i) id up leads of

  unbound_sunk : (name : List ℕ) (number : ℕ) (a : Addr) → Sunk (without_name view name number a) Of n
  unbound_sunk name number a = record { given = sunk.given; named = named_now; low = sunk.low; anchored = sunk.anchored }
    where
      by_name : (k id : ℕ) (b : Addr) (other : List ℕ) (d : Bool) → cond d None (get view.roots other) ≡ Some (k, b) → names view (Some b) ≡ Some id → Of id → ⊥
      by_name k id b other true is name of = none_some {A = ℕ × Addr} (k, b) is
      by_name k id b other false is name of = sunk.named (Root k) id refl (ap (names view) (found_by_number view.roots law.named.numbers other (k, b) is) ∙ name) of

      by_root : (k id : ℕ) (o : Option Addr) → address_at (remove view.roots name) k ≡ o → names view o ≡ Some id → Of id → ⊥
      by_root k id None is leads of = none_some id leads
      by_root k id (Some b) is leads of =
          let found = owner (remove view.roots name) k b is in
          by_name k id b found.0 (eq_by_cmp name_cmp found.0 name) (sym (get-remove names_total view.roots name found.0) ∙ found.1) leads of

      named_now : (x : RefSource) (id : ℕ) → is_kept (without_name view name number a) x ≡ true → names (without_name view name number a) (stored (without_name view name number a) x) ≡ Some id → Of id → IsFieldOf (without_name view name number a) Of x
      named_now (Root k) id up leads of = by_root k id (address_at (remove view.roots name) k) refl leads of
      named_now (Handle c r) id up leads of = sunk.named (Handle c r) id up leads of
      named_now (Field b i) id up leads of = sunk.named (Field b i) id up leads of

  -- ---- bytes

  bytes_sunk : (a : Addr) (at : ℕ) (bytes : List ℕ) (object : Object) → object_at view.cars a ≡ Some object → at + length bytes ≤ length object.bytes → Sunk (with_bytes_at view a at bytes) Of n
  bytes_sunk a at bytes object here inside =
      sunk_reshaped view (with_bytes_at view a at bytes) Of n
      (reshaped_object view a (λ it. with_bytes it at bytes) (λ it is. subst (λ (o : Object). IsShaped o (with_bytes o at bytes)) (some_same object it (sym here ∙ is)) (bytes_shaped object at bytes inside)))
      sunk (λ x id up name of. sunk.named x id up (ap (names view) (sym (stored_same x)) ∙ name) of)
    where
      stored_same : (x : RefSource) → stored (with_bytes_at view a at bytes) x ≡ stored view x
      stored_same (Root k) = refl
      stored_same (Handle c r) = refl
      stored_same (Field b i) =
          ap (λ o. field_of o i) (object_after view.cars a (λ it. with_bytes it at bytes) b)
          ∙ same_fields (same_address a b) (λ it. with_bytes it at bytes) (object_at view.cars a) (object_at view.cars b) i (λ it. refl) (λ is. ap (object_at view.cars) (same_address-true a b is))

  -- ---- commands

  module _ (client : ℕ) (c : client < CLIENTS) where
    load_sunk : (to reg index : ℕ) → to < REGISTERS → Sunk (row_load view client to index (register view client reg)).1 Of n
    load_sunk to reg index r = by_address (register view client reg) refl
      where
        by_field : (a : Addr) → register view client reg ≡ Some a → (f : Option (Option Addr)) → field_at (object_at view.cars (resolve view a)) index ≡ f → Sunk (load_field view client to f).1 Of n
        by_field a is None field = sunk
        by_field a is (Some None) field = handle_sunk client to None c r clean_none
        by_field a is (Some (Some b)) field = hold_sunk client to (resolve view b) (object_at view.cars (resolve view b)) c r (clean_field client reg index a b is field)

        by_address : (o : Option Addr) → register view client reg ≡ o → Sunk (row_load view client to index o).1 Of n
        by_address None is = sunk
        by_address (Some a) is = by_field a is (field_at (object_at view.cars (resolve view a)) index) refl

    store_sunk : (reg index value : ℕ) → Sunk (row_store view index (register view client reg) (register view client value)).1 Of n
    store_sunk reg index value = by_address (register view client reg) (register view client value) refl refl
      where
        by_address : (o p : Option Addr) → register view client reg ≡ o → register view client value ≡ p → Sunk (row_store view index o p).1 Of n
        by_address None p is_o is_p = sunk
        by_address (Some a) None is_o is_p = sunk
        by_address (Some a) (Some b) is_o is_p = set_sunk (resolve view a) index (Some (resolve view b)) (free_held client reg a is_o) (clean_held client value b is_p)

    clear_sunk : (reg index : ℕ) → Sunk (row_clear view index (register view client reg)).1 Of n
    clear_sunk reg index = by_address (register view client reg) refl
      where
        by_address : (o : Option Addr) → register view client reg ≡ o → Sunk (row_clear view index o).1 Of n
        by_address None is = sunk
        by_address (Some a) is = set_sunk (resolve view a) index None (free_held client reg a is) clean_none

    show_sunk : (o : Option Object) → Sunk (row_data view o).1 Of n
    show_sunk None = sunk
    show_sunk (Some object) = sunk

    id_sunk : (o : Option Object) → Sunk (row_id view o).1 Of n
    id_sunk None = sunk
    id_sunk (Some object) = sunk

    put_sunk : (at : ℕ) (bytes : List ℕ) (o : Option Addr) → Sunk (row_put view at bytes o).1 Of n
    put_sunk at bytes None = sunk
    put_sunk at bytes (Some a) = by_object (resolve view a) (object_at view.cars (resolve view a)) refl
      where
        by_test : (a : Addr) (object : Object) → object_at view.cars a ≡ Some object → (b : Bool) → nat_lt (length object.bytes) (at + length bytes) ≡ b → Sunk (if b then refused view OutOfRange else (Done, with_bytes_at view a at bytes)).1 Of n
        by_test a object here true over = sunk
        by_test a object here false within = bytes_sunk a at bytes object here (ltb-false (length object.bytes) (at + length bytes) within)

        by_object : (a : Addr) (o : Option Object) → object_at view.cars a ≡ o → Sunk (put_bytes view a at bytes o).1 Of n
        by_object a None here = sunk
        by_object a (Some object) here = by_test a object here (nat_lt (length object.bytes) (at + length bytes)) refl

    copy_sunk : (to reg : ℕ) → to < REGISTERS → Sunk (row_copy view client to (register view client reg)).1 Of n
    copy_sunk to reg r = by_address (register view client reg) refl
      where
        by_address : (o : Option Addr) → register view client reg ≡ o → Sunk (row_copy view client to o).1 Of n
        by_address None is = sunk
        by_address (Some a) is = hold_sunk client to (resolve view a) (object_at view.cars (resolve view a)) c r (clean_held client reg a is)

    drop_sunk : (reg : ℕ) → reg < REGISTERS → (o : Option Addr) → Sunk (row_drop view client reg o).1 Of n
    drop_sunk reg r None = sunk
    drop_sunk reg r (Some a) = handle_sunk client reg None c r clean_none

    root_sunk : (name : List ℕ) (number reg : ℕ) → Sunk (row_root view name number (register view client reg)).1 Of n
    root_sunk name number reg = by_address (register view client reg) refl
      where
        by_test : (b : Bool) (a : Addr) → IsClean view Of (Some a) → Sunk (if b then refused view TooManyRoots else (Done, with_name view name number a)).1 Of n
        by_test true a clean = sunk
        by_test false a clean = bound_sunk name number a clean

        by_name : (a : Addr) → IsClean view Of (Some a) → (o : Option (ℕ × Addr)) → get view.roots name ≡ o → Sunk (bind view name o number a).1 Of n
        by_name a clean None is = by_test (nat_le ROOTS (len view.roots)) a clean
        by_name a clean (Some bound) is = spread_sinks view Of n sunk (Root bound.0) (Some a) (ap is_some (found_by_number view.roots law.named.numbers name bound is)) refl (λ id leads of. clean id leads of)

        by_address : (o : Option Addr) → register view client reg ≡ o → Sunk (row_root view name number o).1 Of n
        by_address None is = sunk
        by_address (Some a) is = by_name (resolve view a) (clean_held client reg a is) (get view.roots name) refl

    unroot_sunk : (name : List ℕ) (o : Option (ℕ × Addr)) → Sunk (row_unroot view name o).1 Of n
    unroot_sunk name None = sunk
    unroot_sunk name (Some bound) = unbound_sunk name bound.0 bound.1

    find_sunk : (to : ℕ) (name : List ℕ) → to < REGISTERS → Sunk (row_find view client to (get view.roots name)).1 Of n
    find_sunk to name r = by_name (get view.roots name) refl
      where
        by_name : (o : Option (ℕ × Addr)) → get view.roots name ≡ o → Sunk (row_find view client to o).1 Of n
        by_name None is = sunk
        by_name (Some bound) is = hold_sunk client to (resolve view bound.1) (object_at view.cars (resolve view bound.1)) c r (clean_name name bound is)

    swap_sunk : (reg index old value : ℕ) → Sunk (row_swap view index (register view client reg) (register view client old) (register view client value)).1 Of n
    swap_sunk reg index old value = by_address (register view client reg) (register view client old) (register view client value) refl refl
      where
        by_test : (b : Bool) (a d : Addr) (found : Object) → is_aside view a.car ≡ false → is_some (field_at (object_at view.cars a) index) ≡ true → IsClean view Of (Some d) → Sunk (if b then (Done, spread view (Field a index) (Some d)) else refused view (Held found.id)).1 Of n
        by_test true a d found free there clean = field_sunk a index (Some d) free there clean
        by_test false a d found free there clean = sunk

        by_field : (a d : Addr) → is_aside view a.car ≡ false → IsClean view Of (Some d) → (f : Option (Option Addr)) → field_at (object_at view.cars a) index ≡ f → (found was : Option Object) → Sunk (swap_field view a index f found was d).1 Of n
        by_field a d free clean None field found was = sunk
        by_field a d free clean (Some None) field found was = sunk
        by_field a d free clean (Some (Some b)) field None was = sunk
        by_field a d free clean (Some (Some b)) field (Some found) None = sunk
        by_field a d free clean (Some (Some b)) field (Some found) (Some was) = by_test (nat_eq found.id was.id) a d found free (ap is_some field) clean

        by_address : (o p q : Option Addr) → register view client reg ≡ o → register view client value ≡ q → Sunk (row_swap view index o p q).1 Of n
        by_address None p q is_o is_q = sunk
        by_address (Some a) None q is_o is_q = sunk
        by_address (Some a) (Some b) None is_o is_q = sunk
        by_address (Some a) (Some b) (Some d) is_o is_q =
            let field = field_at (object_at view.cars (resolve view a)) index in
            by_field (resolve view a) (resolve view d) (free_held client reg a is_o) (clean_held client value d is_q) field refl (named_in view field) (object_held view (Some b))

    close_sunk : (m : ℕ) → m ≤ REGISTERS → Sunk (emptied view client m) Of n
    close_sunk zero within = sunk
    close_sunk (suc m) within =
        let before = close_sunk m (omega (arith, within)) in
        spread_sinks (emptied view client m) Of n before (Handle client m) None (c, omega (arith, within)) tt (λ id name of. none_some id name)

    -- what is sunk stays so, whatever command is given
    pub command_sunk : (cmd : Cmd) (picks : Picks) → HasRegisters cmd → ArePicked view picks → Sunk (row view client cmd picks).1 Of n
    command_sunk (New reg count bytes) picks r picked = new_sunk view law Of n sunk client reg count picks.car bytes c r picked.car
    command_sunk (Load to reg index) picks r picked = load_sunk to reg index r.0
    command_sunk (Store reg index value) picks r picked = store_sunk reg index value
    command_sunk (Clear reg index) picks r picked = clear_sunk reg index
    command_sunk (Show reg) picks r picked = show_sunk (object_held view (register view client reg))
    command_sunk (Put reg at bytes) picks r picked = put_sunk at bytes (register view client reg)
    command_sunk (Copy to reg) picks r picked = copy_sunk to reg r.0
    command_sunk (IdOf reg) picks r picked = id_sunk (object_held view (register view client reg))
    command_sunk (Forget reg) picks r picked = drop_sunk reg r (register view client reg)
    command_sunk (Bind name reg) picks r picked = root_sunk name picks.root reg
    command_sunk (Unbind name) picks r picked = unroot_sunk name (get view.roots name)
    command_sunk (Find to name) picks r picked = find_sunk to name r
    command_sunk (Swap reg index old value) picks r picked = swap_sunk reg index old value
    command_sunk Close picks r picked = close_sunk REGISTERS (omega arith)
    command_sunk cmd picks r picked = sunk
