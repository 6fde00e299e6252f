-- The row of each command keeps the heap law, whatever world the space stands for.
use Rattle.std.proofs.Common.{◌≡◌, ℕ, ◌+◌, ◌<◌, ◌≤◌, ◌||◌, nat_lt, nat_le, nat_eq, if◌then◌else◌, Bool, true, false, not, refl, ap, sym, subst, ◌∙◌, List, length, Option, Some, None, arith, is_some, zero, suc}
use Rattle.std.specs.Option.{IsSomeAnd, option_and_then, option_flatten}
use Rattle.std.specs.List.{slice_get}
use Rattle.std.specs.FinMap.{get, len}
use Rattle.std.proofs.lemmas.Bool.{ltb-false, leb-false, or_parts}
use Rattle.pm_types.specs.declared.limits.TheConstants.{CLIENTS, REGISTERS, FIELDS, OBJECT_BYTES, LAST_ID, ROOTS}
use Rattle.pm_types.specs.declared.address.Addr.{Addr}
use Rattle.pm_types.specs.declared.object.Object as kept_objects
use Rattle.pm_types.specs.declared.source.RefSource.TheVariants.{Root, Handle, Field}
use Rattle.pm_types.specs.declared.command.Cmd.{Cmd}
use Rattle.pm_types.specs.declared.command.Cmd.TheVariants.{New, Load, Store, Clear, Show, Put, Copy, IdOf, Forget, Bind, Unbind, Find, Swap, Close, Save, Settle, Unsave, Watch}
use Rattle.pm_types.specs.declared.reply.Reply.{Reply}
use Rattle.pm_types.specs.declared.reply.Reply.TheVariants.{Done, NoField, OutOfRange, TooManyRoots, TooLarge, IdsSpent, Ident, Held}
use Rattle.pm_cars.specs.Cars.{look_of}
use Rattle.pm_roots.specs.Bindings.{IsFree}
use Rattle.pm_view.specs.View.{SpaceView}
use Rattle.pm_view.specs.Reading.{object_at, field_of, stored, resolve}
use Rattle.pm_view.specs.Seen.{seen, MayStore}
use Rattle.pm_view.specs.Law.{HeapLaw}
use Rattle.pm_view.specs.Rows.{spread, with_name, with_bytes_at, spent, born, birthplace, IsVacant}
use Rattle.pm_types.specs.Registers.{HasRegisters}
use Rattle.pm_view.specs.Commands.{register, hold, object_held, row_copy, row_id, row_data, row_drop, field_at, load_field, row_load, set_field, row_store, row_clear, named_in, swap_field, row_swap, put_bytes, row_put, bind, row_root, row_unroot, row_find, emptied, fresh, row_new, row, Picks, ArePicked}
use Rattle.pm_law_commands.proofs.RowLemmas.SpreadKept.{spread_keeps_law}
use Rattle.pm_law_commands.proofs.RowLemmas.Bytes.{bytes_keep_law}
use Rattle.pm_law_commands.proofs.RowLemmas.Binding.{name_keeps_law, unbinding_keeps_law}
use Rattle.pm_law_commands.proofs.RowLemmas.Numbers.{found_by_number}
use Rattle.pm_law_commands.proofs.RowLemmas.Born.{born_gives}
use Rattle.pm_law_commands.proofs.Held.{LeadsTo, leads, may_store}
use Rattle.pm_law_commands.proofs.Births.{spent_law, may_be_born}

-- the space after a row keeps the heap law
abbrev LawAfter : Reply × SpaceView → Type 0
LawAfter after = HeapLaw after.1

module _ (view : SpaceView) (law : HeapLaw view) where
  hold_keeps : (client to : ℕ) (a : Addr) (object : kept_objects.Object) → client < CLIENTS → to < REGISTERS → LeadsTo view a object → HeapLaw (hold view client to (resolve view a) (object_at view.cars (resolve view a))).1
  hold_keeps client to a object c r there =
      subst (λ o. HeapLaw (hold view client to (resolve view a) o).1) (sym there.here) (spread_keeps_law view (Handle client to) (Some (resolve view a)) law (c, r) tt (may_store view a object there))

  leads_in : (client reg : ℕ) (a : Addr) → register view client reg ≡ Some a → (object : kept_objects.Object) × LeadsTo view a object
  leads_in client reg a is = leads view (Handle client reg) a law refl is

  copy_keeps : (client to reg : ℕ) → client < CLIENTS → to < REGISTERS → HeapLaw (row_copy view client to (register view client reg)).1
  copy_keeps client to reg c r = by_case (register view client reg) refl
    where
      by_case : (o : Option Addr) → register view client reg ≡ o → HeapLaw (row_copy view client to o).1
      by_case None is = law
      by_case (Some a) is = let found = leads_in client reg a is in hold_keeps client to a found.0 c r found.1

  drop_keeps : (client reg : ℕ) (o : Option Addr) → client < CLIENTS → reg < REGISTERS → HeapLaw (row_drop view client reg o).1
  drop_keeps client reg None c r = law
  drop_keeps client reg (Some a) c r = spread_keeps_law view (Handle client reg) None law (c, r) tt tt

  load_keeps : (client to reg index : ℕ) → client < CLIENTS → to < REGISTERS → HeapLaw (row_load view client to index (register view client reg)).1
  load_keeps client to reg index c r = by_case (register view client reg) refl
    where
      by_field : (a : Addr) (object : kept_objects.Object) → LeadsTo view a object → (f : Option (Option Addr)) → field_at (Some object) index ≡ f → HeapLaw (load_field view client to f).1
      by_field a object there None is = law
      by_field a object there (Some None) is = spread_keeps_law view (Handle client to) None law (c, r) tt tt
      by_field a object there (Some (Some b)) is =
          let stores : stored view (Field (resolve view a) index) ≡ Some b = ap (λ o. field_of o index) there.here ∙ ap option_flatten is in
          let next = leads view (Field (resolve view a) index) b law (ap not there.free) stores in
          hold_keeps client to b next.0 c r next.1

      by_case : (o : Option Addr) → register view client reg ≡ o → HeapLaw (row_load view client to index o).1
      by_case None is = law
      by_case (Some a) is =
          let found = leads_in client reg a is in
          subst (λ o. HeapLaw (load_field view client to (field_at o index)).1) (sym found.1.here) (by_field a found.0 found.1 (field_at (Some found.0) index) refl)

  set_keeps : (a : Addr) (object : kept_objects.Object) (index : ℕ) (value : Option Addr) → LeadsTo view a object → MayStore (seen view) value → HeapLaw (set_field view (resolve view a) index value).1
  set_keeps a object index value there may = by_test (is_some (field_at (object_at view.cars (resolve view a)) index)) refl
    where
      same : (o : Option kept_objects.Object) → is_some (field_at o index) ≡ is_some (option_and_then (λ (o : kept_objects.Object). slice_get o.fields index) o)
      same None = refl
      same (Some o) = refl

      by_test : (b : Bool) → is_some (field_at (object_at view.cars (resolve view a)) index) ≡ b → LawAfter (if b then (Done, spread view (Field (resolve view a) index) value) else (NoField, view))
      by_test true has = spread_keeps_law view (Field (resolve view a) index) value law (there.free, sym (same (object_at view.cars (resolve view a))) ∙ has) tt may
      by_test false has = law

  store_keeps : (client reg index value : ℕ) → HeapLaw (row_store view index (register view client reg) (register view client value)).1
  store_keeps client reg index value = by_reg (register view client reg) refl (register view client value) refl
    where
      by_reg : (o : Option Addr) → register view client reg ≡ o → (p : Option Addr) → register view client value ≡ p → HeapLaw (row_store view index o p).1
      by_reg None is p at = law
      by_reg (Some a) is None at = law
      by_reg (Some a) is (Some b) at =
          let found = leads_in client reg a is in
          let other = leads_in client value b at in
          set_keeps a found.0 index (Some (resolve view b)) found.1 (may_store view b other.0 other.1)

  clear_keeps : (client reg index : ℕ) → HeapLaw (row_clear view index (register view client reg)).1
  clear_keeps client reg index = by_reg (register view client reg) refl
    where
      by_reg : (o : Option Addr) → register view client reg ≡ o → HeapLaw (row_clear view index o).1
      by_reg None is = law
      by_reg (Some a) is = let found = leads_in client reg a is in set_keeps a found.0 index None found.1 tt

  swap_keeps : (client reg index old value : ℕ) → HeapLaw (row_swap view index (register view client reg) (register view client old) (register view client value)).1
  swap_keeps client reg index old value = by_reg (register view client reg) refl (register view client old) (register view client value) refl
    where
      by_field : (a c : Addr) (object new : kept_objects.Object) → LeadsTo view a object → LeadsTo view c new → (f : Option (Option Addr)) → field_at (object_at view.cars (resolve view a)) index ≡ f → (found was : Option kept_objects.Object)
          → HeapLaw (swap_field view (resolve view a) index f found was (resolve view c)).1
      by_field a c object new there to None is found was = law
      by_field a c object new there to (Some None) is found was = law
      by_field a c object new there to (Some (Some b)) is None was = law
      by_field a c object new there to (Some (Some b)) is (Some found) None = law
      by_field a c object new there to (Some (Some b)) is (Some found) (Some was) = by_test (nat_eq found.id was.id)
        where
          by_test : (t : Bool) → LawAfter (if t then (Done, spread view (Field (resolve view a) index) (Some (resolve view c))) else (Held found.id, view))
          by_test true = subst (λ (t : Reply × SpaceView). HeapLaw t.1) (ap (λ b. if b then (Done, spread view (Field (resolve view a) index) (Some (resolve view c))) else (NoField, view)) (ap is_some is)) (set_keeps a object index (Some (resolve view c)) there (may_store view c new to))
          by_test false = law

      by_reg : (o : Option Addr) → register view client reg ≡ o → (p q : Option Addr) → register view client value ≡ q → HeapLaw (row_swap view index o p q).1
      by_reg None is p q at = law
      by_reg (Some a) is None q at = law
      by_reg (Some a) is (Some b) None at = law
      by_reg (Some a) is (Some b) (Some c) at =
          let found = leads_in client reg a is in
          let new = leads_in client value c at in
          let field = field_at (object_at view.cars (resolve view a)) index in
          by_field a c found.0 new.0 found.1 new.1 field refl (named_in view field) (object_held view (Some b))

  put_keeps : (client reg at : ℕ) (bytes : List ℕ) → HeapLaw (row_put view at bytes (register view client reg)).1
  put_keeps client reg at bytes = by_reg (register view client reg) refl
    where
      by_test : (a : Addr) (object : kept_objects.Object) → LeadsTo view a object → (b : Bool) → nat_lt (length object.bytes) (at + length bytes) ≡ b → LawAfter (if b then (OutOfRange, view) else (Done, with_bytes_at view (resolve view a) at bytes))
      by_test a object there true over = law
      by_test a object there false within =
          bytes_keep_law view (resolve view a) at bytes law (subst (λ o. IsSomeAnd o (λ (object : kept_objects.Object). at + length bytes ≤ length object.bytes)) (sym there.here) (ltb-false (length object.bytes) (at + length bytes) within))

      by_reg : (o : Option Addr) → register view client reg ≡ o → HeapLaw (row_put view at bytes o).1
      by_reg None is = law
      by_reg (Some a) is =
          let found = leads_in client reg a is in
          subst (λ o. HeapLaw (put_bytes view (resolve view a) at bytes o).1) (sym found.1.here) (by_test a found.0 found.1 (nat_lt (length found.0.bytes) (at + length bytes)) refl)

  root_keeps : (client reg number : ℕ) (name : List ℕ) → IsFree view.roots number → HeapLaw (row_root view name number (register view client reg)).1
  root_keeps client reg number name free = by_reg (register view client reg) refl
    where
      by_room : (a : Addr) (object : kept_objects.Object) → LeadsTo view a object → get view.roots name ≡ None → (b : Bool) → nat_le ROOTS (len view.roots) ≡ b → LawAfter (if b then (TooManyRoots, view) else (Done, with_name view name number (resolve view a)))
      by_room a object there none true full = law
      by_room a object there none false room = name_keeps_law view name number (resolve view a) law free none (leb-false ROOTS (len view.roots) room) (may_store view a object there)

      by_name : (a : Addr) (object : kept_objects.Object) → LeadsTo view a object → (o : Option (ℕ × Addr)) → get view.roots name ≡ o → HeapLaw (bind view name o number (resolve view a)).1
      by_name a object there None none = by_room a object there none (nat_le ROOTS (len view.roots)) refl
      by_name a object there (Some bound) is =
          spread_keeps_law view (Root bound.0) (Some (resolve view a)) law (ap is_some (found_by_number view.roots law.named.numbers name bound is)) refl (may_store view a object there)

      by_reg : (o : Option Addr) → register view client reg ≡ o → HeapLaw (row_root view name number o).1
      by_reg None is = law
      by_reg (Some a) is = let found = leads_in client reg a is in by_name a found.0 found.1 (get view.roots name) refl

  unroot_keeps : (name : List ℕ) → HeapLaw (row_unroot view name (get view.roots name)).1
  unroot_keeps name = by_case (get view.roots name) refl
    where
      by_case : (o : Option (ℕ × Addr)) → get view.roots name ≡ o → HeapLaw (row_unroot view name o).1
      by_case None is = law
      by_case (Some bound) is = unbinding_keeps_law view name bound.0 bound.1 law is

  find_keeps : (client to : ℕ) (name : List ℕ) → client < CLIENTS → to < REGISTERS → HeapLaw (row_find view client to (get view.roots name)).1
  find_keeps client to name c r = by_case (get view.roots name) refl
    where
      by_case : (o : Option (ℕ × Addr)) → get view.roots name ≡ o → HeapLaw (row_find view client to o).1
      by_case None is = law
      by_case (Some bound) is = let there = leads view (Root bound.0) bound.1 law refl (found_by_number view.roots law.named.numbers name bound is) in hold_keeps client to bound.1 there.0 c r there.1

  emptied_keeps : (client n : ℕ) → client < CLIENTS → n ≤ REGISTERS → HeapLaw (emptied view client n)
  emptied_keeps client zero c within = law
  emptied_keeps client (suc n) c within = spread_keeps_law (emptied view client n) (Handle client n) None (emptied_keeps client n c (omega (arith, within))) (c, omega (arith, within)) tt tt

  new_keeps : (client reg count number : ℕ) (bytes : List ℕ) → client < CLIENTS → reg < REGISTERS → IsVacant view.cars number → HeapLaw (row_new view client reg count bytes number).1
  new_keeps client reg count number bytes c r vacant = by_size (nat_lt FIELDS count || nat_lt OBJECT_BYTES (length bytes)) refl (nat_lt LAST_ID view.next) refl
    where
      by_size : (b : Bool) → (nat_lt FIELDS count || nat_lt OBJECT_BYTES (length bytes)) ≡ b → (d : Bool) → nat_lt LAST_ID view.next ≡ d
          → LawAfter (if b then (TooLarge, view) else if d then (IdsSpent, view) else (Ident view.next, spread (born (spent view) number (fresh view count bytes)) (Handle client reg) (Some (birthplace (spent view) number (fresh view count bytes)))))
      by_size true large d test = law
      by_size false fits true spent_all = law
      by_size false fits false more =
          let both = or_parts (nat_lt FIELDS count) (nat_lt OBJECT_BYTES (length bytes)) fits in
          let room = ltb-false LAST_ID view.next more in
          let gives = born_gives (spent view) number (fresh view count bytes) (spent_law view law room) (may_be_born view law room count bytes (ltb-false FIELDS count both.0) (ltb-false OBJECT_BYTES (length bytes) both.1)) vacant in
          spread_keeps_law (born (spent view) number (fresh view count bytes)) (Handle client reg) (Some (birthplace (spent view) number (fresh view count bytes))) gives.law (c, r) tt (ap look_of gives.here, gives.free)

  -- the row of a command keeps the heap law
  pub row_keeps : (client : ℕ) (cmd : Cmd) (picks : Picks) → client < CLIENTS → HasRegisters cmd → ArePicked view picks → HeapLaw (row view client cmd picks).1
  row_keeps client (New reg count bytes) picks c regs picked = new_keeps client reg count picks.car bytes c regs picked.car
  row_keeps client (Load to reg index) picks c regs picked = load_keeps client to reg index c regs.0
  row_keeps client (Store reg index value) picks c regs picked = store_keeps client reg index value
  row_keeps client (Clear reg index) picks c regs picked = clear_keeps client reg index
  row_keeps client (Show reg) picks c regs picked = data_keeps (object_held view (register view client reg))
    where
      data_keeps : (o : Option kept_objects.Object) → HeapLaw (row_data view o).1
      data_keeps None = law
      data_keeps (Some object) = law
  row_keeps client (Put reg at bytes) picks c regs picked = put_keeps client reg at bytes
  row_keeps client (Copy to reg) picks c regs picked = copy_keeps client to reg c regs.0
  row_keeps client (IdOf reg) picks c regs picked = id_keeps (object_held view (register view client reg))
    where
      id_keeps : (o : Option kept_objects.Object) → HeapLaw (row_id view o).1
      id_keeps None = law
      id_keeps (Some object) = law
  row_keeps client (Forget reg) picks c regs picked = drop_keeps client reg (register view client reg) c regs
  row_keeps client (Bind name reg) picks c regs picked = root_keeps client reg picks.root name picked.root
  row_keeps client (Unbind name) picks c regs picked = unroot_keeps name
  row_keeps client (Find to name) picks c regs picked = find_keeps client to name c regs
  row_keeps client (Swap reg index old value) picks c regs picked = swap_keeps client reg index old value
  row_keeps client Close picks c regs picked = emptied_keeps client REGISTERS c (omega arith)
  row_keeps client Save picks c regs picked = law
  row_keeps client Settle picks c regs picked = law
  row_keeps client Unsave picks c regs picked = law
  row_keeps client Watch picks c regs picked = law
