-- What holds of the space after every command, where it holds of the rows that commands are made of: the one walk over
-- all commands and their refusals.
use Rattle.std.proofs.Common.{◌≡◌, refl, sym, subst, ℕ, ◌+◌, ◌≤◌, ◌||◌, nat_lt, nat_le, nat_eq, if◌then◌else◌, Bool, true, false, List, length, Option, Some, None, is_some}
use Rattle.std.specs.Option.{IsSomeAnd}
use Rattle.std.specs.FinMap.{get, len}
use Rattle.std.proofs.lemmas.Bool.{ltb-false}
use Rattle.pm_types.specs.declared.limits.TheConstants.{ROOTS, REGISTERS, FIELDS, OBJECT_BYTES, LAST_ID}
use Rattle.pm_types.specs.declared.address.Addr.{Addr}
use Rattle.pm_types.specs.declared.object.Object.{Object}
use Rattle.pm_types.specs.declared.source.RefSource.{RefSource}
use Rattle.pm_types.specs.declared.source.RefSource.TheVariants.{Root, Handle, Field}
use Rattle.pm_types.specs.declared.command.Cmd.{Cmd}
use Rattle.pm_types.specs.declared.command.Cmd.TheVariants.{New, Load, Store, Clear, Show, Put, Copy, IdOf, Forget, Bind, Unbind, Find, Swap, Close, Save, Settle, Unsave, Watch}
use Rattle.pm_types.specs.declared.reply.Reply.{Reply}
use Rattle.pm_types.specs.declared.reply.Reply.TheVariants.{Ident, TooLarge, IdsSpent, Done, NoField, OutOfRange, TooManyRoots, Held}
use Rattle.pm_view.specs.View.{SpaceView}
use Rattle.pm_view.specs.Reading.{object_at, resolve}
use Rattle.pm_view.specs.Rows.{HasBytesAt, spread, with_name, without_name, with_bytes_at, spent, born, birthplace}
use Rattle.pm_view.specs.Commands.{emptied, register, hold, object_held, row_copy, row_id, row_data, row_drop, field_at, load_field, row_load, set_field, row_store, row_clear, named_in, swap_field, row_swap, put_bytes, row_put, bind, row_root, row_unroot, row_find, fresh, row_new, is_new, is_close, row, Picks}

-- It holds of the space as it is, and once a source is set, bytes are changed, or a name is bound or unbound; and, where
-- the premises of these hold, once an object was made and once all registers of the client are empty.
pub record OfRows (view : SpaceView) (P : SpaceView → Type 0) (MayMake MayEmpty : Type 0) (client : ℕ) (picks : Picks) : Type 0 where
  pub still : P view
  pub spread : (x : RefSource) (to : Option Addr) → P (spread view x to)
  pub bytes : (a : Addr) (at : ℕ) (bytes : List ℕ) → HasBytesAt view.cars a at (length bytes) → P (with_bytes_at view a at bytes)
  pub bound : (name : List ℕ) (number : ℕ) (a : Addr) → P (with_name view name number a)
  pub unbound : (name : List ℕ) (number : ℕ) (a : Addr) → P (without_name view name number a)
  pub made : MayMake → (reg count : ℕ) (bytes : List ℕ) → P (row_new view client reg count bytes picks.car).1
  pub emptied : MayEmpty → P (emptied view client REGISTERS)

-- it holds of the space beside a reply
abbrev OfReply : (SpaceView → Type 0) → Reply × SpaceView → Type 0
OfReply P after = P after.1

module _ (view : SpaceView) (P : SpaceView → Type 0) (MayMake MayEmpty : Type 0) (client : ℕ) (picks : Picks) (of : OfRows view P MayMake MayEmpty client picks) where
  abbrev After : Reply × SpaceView → Type 0
  After after = OfReply P after

  holding_holds : (to : ℕ) (a : Addr) (o : Option Object) → After (hold view client to a o)
  holding_holds to a None = of.still
  holding_holds to a (Some object) = of.spread (Handle client to) (Some a)

  if_holds : (b : Bool) (t u : SpaceView) (one two : Reply) → P t → P u → After (if b then (one, t) else (two, u))
  if_holds true t u one two holds other = holds
  if_holds false t u one two holds other = other

  set_holds : (a : Addr) (index : ℕ) (value : Option Addr) → After (set_field view a index value)
  set_holds a index value = if_holds (is_some (field_at (object_at view.cars a) index)) (spread view (Field a index) value) view Done NoField (of.spread (Field a index) value) of.still

  -- it holds after every command, where `new` may make an object and `close` may empty the registers
  pub row_holds : (cmd : Cmd) → (is_new cmd ≡ true → MayMake) → (is_close cmd ≡ true → MayEmpty) → After (row view client cmd picks)
  row_holds (New reg count bytes) make empty = of.made (make refl) reg count bytes
  row_holds (Load to reg index) make empty = by_address (register view client reg)
    where
      by_field : (f : Option (Option Addr)) → After (load_field view client to f)
      by_field None = of.still
      by_field (Some None) = of.spread (Handle client to) None
      by_field (Some (Some b)) = holding_holds to (resolve view b) (object_at view.cars (resolve view b))

      by_address : (o : Option Addr) → After (row_load view client to index o)
      by_address None = of.still
      by_address (Some a) = by_field (field_at (object_at view.cars (resolve view a)) index)
  row_holds (Store reg index value) make empty = by_address (register view client reg) (register view client value)
    where
      by_address : (o p : Option Addr) → After (row_store view index o p)
      by_address None p = of.still
      by_address (Some a) None = of.still
      by_address (Some a) (Some b) = set_holds (resolve view a) index (Some (resolve view b))
  row_holds (Clear reg index) make empty = by_address (register view client reg)
    where
      by_address : (o : Option Addr) → After (row_clear view index o)
      by_address None = of.still
      by_address (Some a) = set_holds (resolve view a) index None
  row_holds (Show reg) make empty = by_object (object_held view (register view client reg))
    where
      by_object : (o : Option Object) → After (row_data view o)
      by_object None = of.still
      by_object (Some object) = of.still
  row_holds (Put reg at bytes) make empty = by_address (register view client reg)
    where
      by_test : (a : Addr) (object : Object) → object_at view.cars a ≡ Some object → (b : Bool) → nat_lt (length object.bytes) (at + length bytes) ≡ b → After (if b then (OutOfRange, view) else (Done, with_bytes_at view a at bytes))
      by_test a object there true over = of.still
      by_test a object there false within =
          of.bytes a at bytes (subst (λ o. IsSomeAnd o (λ (object : Object). at + length bytes ≤ length object.bytes)) (sym there) (ltb-false (length object.bytes) (at + length bytes) within))

      by_object : (a : Addr) (o : Option Object) → object_at view.cars a ≡ o → After (put_bytes view a at bytes o)
      by_object a None there = of.still
      by_object a (Some object) there = by_test a object there (nat_lt (length object.bytes) (at + length bytes)) refl

      by_address : (o : Option Addr) → After (row_put view at bytes o)
      by_address None = of.still
      by_address (Some a) = by_object (resolve view a) (object_at view.cars (resolve view a)) refl
  row_holds (Copy to reg) make empty = by_address (register view client reg)
    where
      by_address : (o : Option Addr) → After (row_copy view client to o)
      by_address None = of.still
      by_address (Some a) = holding_holds to (resolve view a) (object_at view.cars (resolve view a))
  row_holds (IdOf reg) make empty = by_object (object_held view (register view client reg))
    where
      by_object : (o : Option Object) → After (row_id view o)
      by_object None = of.still
      by_object (Some object) = of.still
  row_holds (Forget reg) make empty = by_address (register view client reg)
    where
      by_address : (o : Option Addr) → After (row_drop view client reg o)
      by_address None = of.still
      by_address (Some a) = of.spread (Handle client reg) None
  row_holds (Bind name reg) make empty = by_address (register view client reg)
    where
      by_name : (a : Addr) (o : Option (ℕ × Addr)) → After (bind view name o picks.root a)
      by_name a None = if_holds (nat_le ROOTS (len view.roots)) view (with_name view name picks.root a) TooManyRoots Done of.still (of.bound name picks.root a)
      by_name a (Some bound) = of.spread (Root bound.0) (Some a)

      by_address : (o : Option Addr) → After (row_root view name picks.root o)
      by_address None = of.still
      by_address (Some a) = by_name (resolve view a) (get view.roots name)
  row_holds (Unbind name) make empty = by_name (get view.roots name)
    where
      by_name : (o : Option (ℕ × Addr)) → After (row_unroot view name o)
      by_name None = of.still
      by_name (Some bound) = of.unbound name bound.0 bound.1
  row_holds (Find to name) make empty = by_name (get view.roots name)
    where
      by_name : (o : Option (ℕ × Addr)) → After (row_find view client to o)
      by_name None = of.still
      by_name (Some bound) = holding_holds to (resolve view bound.1) (object_at view.cars (resolve view bound.1))
  row_holds (Swap reg index old value) make empty = by_address (register view client reg) (register view client old) (register view client value)
    where
      by_field : (a c : Addr) (f : Option (Option Addr)) (found was : Option Object) → After (swap_field view a index f found was c)
      by_field a c None found was = of.still
      by_field a c (Some None) found was = of.still
      by_field a c (Some (Some b)) None was = of.still
      by_field a c (Some (Some b)) (Some found) None = of.still
      by_field a c (Some (Some b)) (Some found) (Some was) = if_holds (nat_eq found.id was.id) (spread view (Field a index) (Some c)) view Done (Held found.id) (of.spread (Field a index) (Some c)) of.still

      by_address : (o p q : Option Addr) → After (row_swap view index o p q)
      by_address None p q = of.still
      by_address (Some a) None q = of.still
      by_address (Some a) (Some b) None = of.still
      by_address (Some a) (Some b) (Some c) = let field = field_at (object_at view.cars (resolve view a)) index in by_field (resolve view a) (resolve view c) field (named_in view field) (object_held view (Some b))
  row_holds Close make empty = of.emptied (empty refl)
  row_holds Save make empty = of.still
  row_holds Settle make empty = of.still
  row_holds Unsave make empty = of.still
  row_holds Watch make empty = of.still

-- an object was made, and a register holds it
abbrev pub object_made : SpaceView → ℕ → ℕ → ℕ → ℕ → List ℕ → SpaceView
object_made view client reg count number bytes = spread (born (spent view) number (fresh view count bytes)) (Handle client reg) (Some (birthplace (spent view) number (fresh view count bytes)))

-- and after a `new`, where it holds as it is and once an object was made
module _ (view : SpaceView) (P : SpaceView → Type 0) (still : P view) (client reg count number : ℕ) (bytes : List ℕ) where
  pub new_holds : ((nat_lt FIELDS count || nat_lt OBJECT_BYTES (length bytes)) ≡ false → nat_lt LAST_ID view.next ≡ false → P (object_made view client reg count number bytes)) → P (row_new view client reg count bytes number).1
  new_holds holds = by_size (nat_lt FIELDS count || nat_lt OBJECT_BYTES (length bytes)) (nat_lt LAST_ID view.next) holds
    where
      by_size : (b d : Bool) → (b ≡ false → d ≡ false → P (object_made view client reg count number bytes)) → OfReply P (if b then (TooLarge, view) else if d then (IdsSpent, view) else (Ident view.next, object_made view client reg count number bytes))
      by_size true d holds = still
      by_size false true holds = still
      by_size false false holds = holds refl refl
