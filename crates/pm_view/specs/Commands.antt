-- What a client's command answers on a space, and the space after it. Whatever is stored is followed first.
use Rattle.std.specs.Prelude.{ℕ, ◌+◌, Bool, true, false, ◌||◌, nat_lt, nat_le, nat_eq, if◌then◌else◌, List, length, replicate, zero, suc, Option, Some, None, is_some}
use Rattle.std.specs.List.{slice_get}
use Rattle.std.specs.FinMap.{get, len}
use Rattle.pm_types.specs.declared.limits.TheConstants.{FIELDS, OBJECT_BYTES, LAST_ID, ROOTS, REGISTERS}
use Rattle.pm_types.specs.declared.address.Addr.{Addr}
use Rattle.pm_types.specs.declared.object.Object.{Object}
use Rattle.pm_types.specs.declared.source.RefSource.TheVariants.{Root, Handle, Field}
use Rattle.pm_types.specs.declared.command.Cmd.{Cmd}
use Rattle.pm_types.specs.declared.command.Cmd.TheVariants.{New, Load, Store, Clear, Show, Put, Copy, IdOf, Forget, Bind, Unbind, Find, Swap, Close, Save, Settle, Unsave, Watch}
use Rattle.pm_types.specs.declared.reply.Reply.{Reply}
use Rattle.pm_types.specs.declared.reply.Reply.TheVariants.{Done, Ident, Null, Shown, TooLarge, IdsSpent, NoHandle, NoField, OutOfRange, TooManyRoots, NoRoot, Idle, Held}
use Rattle.pm_roots.specs.Bindings.{IsFree}
use Rattle.pm_view.specs.View.{SpaceView}
use Rattle.pm_view.specs.Reading.{object_at, resolve}
use Rattle.pm_view.specs.Rows.{spread, with_name, without_name, with_bytes_at, spent, born, birthplace, IsVacant}

-- what a register of a client stores
abbrev pub register : SpaceView → ℕ → ℕ → Option Addr
register view client reg = get view.registers (client, reg)

-- a refusal leaves the space as it is
abbrev pub refused : SpaceView → Reply → Reply × SpaceView
refused view reply = (reply, view)

-- a register holds the object at this address, whose identity is the reply
abbrev pub hold : SpaceView → ℕ → ℕ → Addr → Option Object → Reply × SpaceView
hold view client to a None = refused view NoHandle
hold view client to a (Some object) = (Ident object.id, spread view (Handle client to) (Some a))

-- `copy`: one register holds what the other holds
abbrev pub row_copy : SpaceView → ℕ → ℕ → Option Addr → Reply × SpaceView
row_copy view client to None = refused view NoHandle
row_copy view client to (Some a) = hold view client to (resolve view a) (object_at view.cars (resolve view a))

-- `id`: the identity of what the register holds
abbrev pub row_id : SpaceView → Option Object → Reply × SpaceView
row_id view None = refused view NoHandle
row_id view (Some object) = (Ident object.id, view)

-- `data`: the bytes of what the register holds
abbrev pub row_data : SpaceView → Option Object → Reply × SpaceView
row_data view None = refused view NoHandle
row_data view (Some object) = (Shown object.bytes, view)

-- the object that a register holds, none where it is empty
abbrev pub object_held : SpaceView → Option Addr → Option Object
object_held view None = None
object_held view (Some a) = object_at view.cars (resolve view a)

-- `drop`: the register is empty
abbrev pub row_drop : SpaceView → ℕ → ℕ → Option Addr → Reply × SpaceView
row_drop view client reg None = refused view NoHandle
row_drop view client reg (Some a) = (Done, spread view (Handle client reg) None)

-- what a field of an object stores: nothing where there is no such field
abbrev pub field_at : Option Object → ℕ → Option (Option Addr)
field_at None index = None
field_at (Some object) index = slice_get object.fields index

-- `load`: one register holds what a field of the object stores that the other holds; a null field empties it
abbrev pub load_field : SpaceView → ℕ → ℕ → Option (Option Addr) → Reply × SpaceView
load_field view client to None = refused view NoField
load_field view client to (Some None) = (Null, spread view (Handle client to) None)
load_field view client to (Some (Some b)) = hold view client to (resolve view b) (object_at view.cars (resolve view b))

abbrev pub row_load : SpaceView → ℕ → ℕ → ℕ → Option Addr → Reply × SpaceView
row_load view client to index None = refused view NoHandle
row_load view client to index (Some a) = load_field view client to (field_at (object_at view.cars (resolve view a)) index)

-- a field of the object at an address is set, where it is there
abbrev pub set_field : SpaceView → Addr → ℕ → Option Addr → Reply × SpaceView
set_field view a index value = if is_some (field_at (object_at view.cars a) index) then (Done, spread view (Field a index) value) else refused view NoField

-- `store`: a field of the object that one register holds stores what the other holds
abbrev pub row_store : SpaceView → ℕ → Option Addr → Option Addr → Reply × SpaceView
row_store view index None value = refused view NoHandle
row_store view index (Some a) None = refused view NoHandle
row_store view index (Some a) (Some b) = set_field view (resolve view a) index (Some (resolve view b))

-- `clear`: a field is null
abbrev pub row_clear : SpaceView → ℕ → Option Addr → Reply × SpaceView
row_clear view index None = refused view NoHandle
row_clear view index (Some a) = set_field view (resolve view a) index None

-- `swap`: a field that stores the one object stores the other; objects are compared, and not addresses
abbrev pub swap_field : SpaceView → Addr → ℕ → Option (Option Addr) → Option Object → Option Object → Addr → Reply × SpaceView
swap_field view a index None found old value = refused view NoField
swap_field view a index (Some None) found old value = refused view Null
swap_field view a index (Some (Some b)) None old value = refused view NoHandle
swap_field view a index (Some (Some b)) (Some found) None value = refused view NoHandle
swap_field view a index (Some (Some b)) (Some found) (Some old) value = if nat_eq found.id old.id then (Done, spread view (Field a index) (Some value)) else refused view (Held found.id)

abbrev pub named_in : SpaceView → Option (Option Addr) → Option Object
named_in view None = None
named_in view (Some field) = object_held view field

abbrev pub row_swap : SpaceView → ℕ → Option Addr → Option Addr → Option Addr → Reply × SpaceView
row_swap view index None old value = refused view NoHandle
row_swap view index (Some a) None value = refused view NoHandle
row_swap view index (Some a) (Some b) None = refused view NoHandle
row_swap view index (Some a) (Some b) (Some c) =
    let field = field_at (object_at view.cars (resolve view a)) index in
    swap_field view (resolve view a) index field (named_in view field) (object_held view (Some b)) (resolve view c)

-- `put`: bytes of the object that the register holds are changed
abbrev pub put_bytes : SpaceView → Addr → ℕ → List ℕ → Option Object → Reply × SpaceView
put_bytes view a at bytes None = refused view NoHandle
put_bytes view a at bytes (Some object) = if nat_lt (length object.bytes) (at + length bytes) then refused view OutOfRange else (Done, with_bytes_at view a at bytes)

abbrev pub row_put : SpaceView → ℕ → List ℕ → Option Addr → Reply × SpaceView
row_put view at bytes None = refused view NoHandle
row_put view at bytes (Some a) = put_bytes view (resolve view a) at bytes (object_at view.cars (resolve view a))

-- `root`: a name stands for what the register holds; a new name gets this number, which no name has
abbrev pub bind : SpaceView → List ℕ → Option (ℕ × Addr) → ℕ → Addr → Reply × SpaceView
bind view name None number a = if nat_le ROOTS (len view.roots) then refused view TooManyRoots else (Done, with_name view name number a)
bind view name (Some bound) number a = (Done, spread view (Root bound.0) (Some a))

abbrev pub row_root : SpaceView → List ℕ → ℕ → Option Addr → Reply × SpaceView
row_root view name number None = refused view NoHandle
row_root view name number (Some a) = bind view name (get view.roots name) number (resolve view a)

-- `unroot`: a name is not bound any more
abbrev pub row_unroot : SpaceView → List ℕ → Option (ℕ × Addr) → Reply × SpaceView
row_unroot view name None = refused view NoRoot
row_unroot view name (Some bound) = (Done, without_name view name bound.0 bound.1)

-- `find`: the register holds what the name stands for
abbrev pub row_find : SpaceView → ℕ → ℕ → Option (ℕ × Addr) → Reply × SpaceView
row_find view client to None = refused view NoRoot
row_find view client to (Some bound) = hold view client to (resolve view bound.1) (object_at view.cars (resolve view bound.1))

-- the registers of a client from this number down are emptied, the lowest one first
abbrev pub emptied : SpaceView → ℕ → ℕ → SpaceView
emptied view client zero = view
emptied view client (suc register) = spread (emptied view client register) (Handle client register) None

-- `close`: all registers of the client are empty
abbrev pub row_close : SpaceView → ℕ → Reply × SpaceView
row_close view client = (Done, emptied view client REGISTERS)

-- an object of so many null fields and these bytes, under the next identity
abbrev pub fresh : SpaceView → ℕ → List ℕ → Object
fresh view count bytes = record { id = view.next; fields = replicate count None; bytes = bytes }

-- `new`: an object is born, and the register holds it; a new car gets this number, which no car has
abbrev pub row_new : SpaceView → ℕ → ℕ → ℕ → List ℕ → ℕ → Reply × SpaceView
row_new view client reg count bytes number =
    if nat_lt FIELDS count || nat_lt OBJECT_BYTES (length bytes) then refused view TooLarge
    else if nat_lt LAST_ID view.next then refused view IdsSpent
    else (
      Ident view.next,
      spread (born (spent view) number (fresh view count bytes)) (Handle client reg) (Some (birthplace (spent view) number (fresh view count bytes))),
    )

-- the command changes the space, and not what is saved of it or watched
abbrev pub is_act : Cmd → Bool
is_act Save = false
is_act Settle = false
is_act Unsave = false
is_act Watch = false
is_act cmd = true

-- the command makes an object
abbrev pub is_new : Cmd → Bool
is_new (New reg count bytes) = true
is_new cmd = false

-- the command empties all registers of its client
abbrev pub is_close : Cmd → Bool
is_close Close = true
is_close cmd = false

-- what is picked for a command: the number of a root that no name has, and the least number from 1 on that no car has
pub record Picks : Type 0 where
  pub root : ℕ
  pub car : ℕ

-- they are what is asked
pub record ArePicked (view : SpaceView) (picks : Picks) : Type 0 where
  pub root : IsFree view.roots picks.root
  pub car : IsVacant view.cars picks.car

-- The row of a command: its reply, and the whole space after it. What saves, settles, drops a copy or watches is no
-- command of the space, and has no row: it stands here as a refusal.
abbrev pub row : SpaceView → ℕ → Cmd → Picks → Reply × SpaceView
row view client (New reg count bytes) picks = row_new view client reg count bytes picks.car
row view client (Load to reg index) picks = row_load view client to index (register view client reg)
row view client (Store reg index value) picks = row_store view index (register view client reg) (register view client value)
row view client (Clear reg index) picks = row_clear view index (register view client reg)
row view client (Show reg) picks = row_data view (object_held view (register view client reg))
row view client (Put reg at bytes) picks = row_put view at bytes (register view client reg)
row view client (Copy to reg) picks = row_copy view client to (register view client reg)
row view client (IdOf reg) picks = row_id view (object_held view (register view client reg))
row view client (Forget reg) picks = row_drop view client reg (register view client reg)
row view client (Bind name reg) picks = row_root view name picks.root (register view client reg)
row view client (Unbind name) picks = row_unroot view name (get view.roots name)
row view client (Find to name) picks = row_find view client to (get view.roots name)
row view client (Swap reg index old value) picks = row_swap view index (register view client reg) (register view client old) (register view client value)
row view client Close picks = row_close view client
row view client Save picks = refused view Idle
row view client Settle picks = refused view Idle
row view client Unsave picks = refused view Idle
row view client Watch picks = refused view Idle
