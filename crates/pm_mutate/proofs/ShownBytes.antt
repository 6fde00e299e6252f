-- A reply that shows bytes shows those of an object, and leaves the space as it is.
use Rattle.std.proofs.Common.{◌≡◌, ℕ, ◌+◌, ◌||◌, Bool, true, false, if◌then◌else◌, List, length, nat_lt, nat_le, nat_eq, is_some, Option, Some, None, Result, Ok, Err, IfOk, refl, sym, subst}
use Rattle.std.specs.FinMap.{get, len}
use Rattle.pm_types.specs.declared.limits.TheConstants.{FIELDS, OBJECT_BYTES, LAST_ID, ROOTS}
use Rattle.pm_types.specs.declared.no_memory.NoMemory.{NoMemory}
use Rattle.pm_types.specs.Replies.{IsShortReply, is_shown}
use Rattle.pm_types.specs.declared.address.Addr.{Addr}
use Rattle.pm_types.specs.declared.object.Object.{Object}
use Rattle.pm_types.specs.declared.command.Cmd.{Cmd}
use Rattle.pm_types.specs.declared.command.Cmd.TheVariants.{New, Load, Store, Clear, Show, Put, Copy, IdOf, Forget, Bind, Unbind, Find, Swap, Close, Save, Settle, Unsave, Watch}
use Rattle.pm_types.specs.declared.reply.Reply.{Reply}
use Rattle.pm_types.specs.declared.reply.Reply.TheVariants.{Shown}
use Rattle.pm_view.specs.View.{SpaceView}
use Rattle.pm_view.specs.Law.{HeapLaw}
use Rattle.pm_view.specs.Reading.{object_at, resolve}
use Rattle.pm_view.specs.Commands.{Picks, bind, field_at, hold, load_field, named_in, object_held, put_bytes, register, row, row_clear, row_copy, row_data, row_drop, row_find, row_id, row_load, row_new, row_put, row_root, row_store, row_swap, row_unroot, set_field, swap_field}
use Rattle.pm_mutate.specs.Commands.Picked.{IsRow}
use Rattle.pm_mutate.specs.Acts.{LeavesWhereShown}

-- the reply shows no bytes, or at most an object's, and then the space after it is the one before
abbrev IsQuiet : SpaceView → Reply × SpaceView → Type 0
IsQuiet view given = is_shown given.0 ≡ true → (given.1 ≡ view) × IsShortReply given.0

never : {A : Type 0} → false ≡ true → A
never is = absurd (cc is)

either : (view : SpaceView) (b : Bool) (one other : Reply × SpaceView) → IsQuiet view one → IsQuiet view other → IsQuiet view (if b then one else other)
either view true one other is also = is
either view false one other is also = also

holds : (view : SpaceView) (client to : ℕ) (a : Addr) (found : Option Object) → IsQuiet view (hold view client to a found)
holds view client to a None = never
holds view client to a (Some object) = never

loads : (view : SpaceView) (client to : ℕ) (found : Option (Option Addr)) → IsQuiet view (load_field view client to found)
loads view client to None = never
loads view client to (Some None) = never
loads view client to (Some (Some b)) = holds view client to (resolve view b) (object_at view.cars (resolve view b))

load_quiet : (view : SpaceView) (client to index : ℕ) (at : Option Addr) → IsQuiet view (row_load view client to index at)
load_quiet view client to index None = never
load_quiet view client to index (Some a) = loads view client to (field_at (object_at view.cars (resolve view a)) index)

copy_quiet : (view : SpaceView) (client to : ℕ) (at : Option Addr) → IsQuiet view (row_copy view client to at)
copy_quiet view client to None = never
copy_quiet view client to (Some a) = holds view client to (resolve view a) (object_at view.cars (resolve view a))

id_quiet : (view : SpaceView) (found : Option Object) → IsQuiet view (row_id view found)
id_quiet view None = never
id_quiet view (Some object) = never

-- what stands at an address is within the limits
data_quiet : (view : SpaceView) (law : HeapLaw view) (at : Option Addr) (found : Option Object) → object_held view at ≡ found → IsQuiet view (row_data view found)
data_quiet view law at None is = never
data_quiet view law None (Some object) is = absurd (cc is)
data_quiet view law (Some a) (Some object) is = λ shown. (refl, (law.built.objects (resolve view a) object is).bytes)

drop_quiet : (view : SpaceView) (client reg : ℕ) (at : Option Addr) → IsQuiet view (row_drop view client reg at)
drop_quiet view client reg None = never
drop_quiet view client reg (Some a) = never

sets : (view : SpaceView) (a : Addr) (index : ℕ) (value : Option Addr) → IsQuiet view (set_field view a index value)
sets view a index value = either view (is_some (field_at (object_at view.cars a) index)) _ _ never never

store_quiet : (view : SpaceView) (index : ℕ) (at value : Option Addr) → IsQuiet view (row_store view index at value)
store_quiet view index None value = never
store_quiet view index (Some a) None = never
store_quiet view index (Some a) (Some b) = sets view (resolve view a) index (Some (resolve view b))

clear_quiet : (view : SpaceView) (index : ℕ) (at : Option Addr) → IsQuiet view (row_clear view index at)
clear_quiet view index None = never
clear_quiet view index (Some a) = sets view (resolve view a) index None

swaps : (view : SpaceView) (a : Addr) (index : ℕ) (field : Option (Option Addr)) (found old : Option Object) (value : Addr) → IsQuiet view (swap_field view a index field found old value)
swaps view a index None found old value = never
swaps view a index (Some None) found old value = never
swaps view a index (Some (Some b)) None old value = never
swaps view a index (Some (Some b)) (Some found) None value = never
swaps view a index (Some (Some b)) (Some found) (Some old) value = either view (nat_eq found.id old.id) _ _ never never

swap_quiet : (view : SpaceView) (index : ℕ) (at old value : Option Addr) → IsQuiet view (row_swap view index at old value)
swap_quiet view index None old value = never
swap_quiet view index (Some a) None value = never
swap_quiet view index (Some a) (Some b) None = never
swap_quiet view index (Some a) (Some b) (Some c) =
    let field = field_at (object_at view.cars (resolve view a)) index in
    swaps view (resolve view a) index field (named_in view field) (object_held view (Some b)) (resolve view c)

puts : (view : SpaceView) (a : Addr) (at : ℕ) (bytes : List ℕ) (found : Option Object) → IsQuiet view (put_bytes view a at bytes found)
puts view a at bytes None = never
puts view a at bytes (Some object) = either view (nat_lt (length object.bytes) (at + length bytes)) _ _ never never

put_quiet : (view : SpaceView) (at : ℕ) (bytes : List ℕ) (held : Option Addr) → IsQuiet view (row_put view at bytes held)
put_quiet view at bytes None = never
put_quiet view at bytes (Some a) = puts view (resolve view a) at bytes (object_at view.cars (resolve view a))

binds : (view : SpaceView) (name : List ℕ) (bound : Option (ℕ × Addr)) (number : ℕ) (a : Addr) → IsQuiet view (bind view name bound number a)
binds view name None number a = either view (nat_le ROOTS (len view.roots)) _ _ never never
binds view name (Some bound) number a = never

root_quiet : (view : SpaceView) (name : List ℕ) (number : ℕ) (at : Option Addr) → IsQuiet view (row_root view name number at)
root_quiet view name number None = never
root_quiet view name number (Some a) = binds view name (get view.roots name) number (resolve view a)

unroot_quiet : (view : SpaceView) (name : List ℕ) (bound : Option (ℕ × Addr)) → IsQuiet view (row_unroot view name bound)
unroot_quiet view name None = never
unroot_quiet view name (Some bound) = never

find_quiet : (view : SpaceView) (client to : ℕ) (bound : Option (ℕ × Addr)) → IsQuiet view (row_find view client to bound)
find_quiet view client to None = never
find_quiet view client to (Some bound) = holds view client to (resolve view bound.1) (object_at view.cars (resolve view bound.1))

new_quiet : (view : SpaceView) (client reg count : ℕ) (bytes : List ℕ) (number : ℕ) → IsQuiet view (row_new view client reg count bytes number)
new_quiet view client reg count bytes number =
    either view (nat_lt FIELDS count || nat_lt OBJECT_BYTES (length bytes)) _ _ never (either view (nat_lt LAST_ID view.next) _ _ never never)

row_quiet : (view : SpaceView) → HeapLaw view → (client : ℕ) (cmd : Cmd) (picks : Picks) → IsQuiet view (row view client cmd picks)
row_quiet view law client (New reg count bytes) picks = new_quiet view client reg count bytes picks.car
row_quiet view law client (Load to reg index) picks = load_quiet view client to index (register view client reg)
row_quiet view law client (Store reg index value) picks = store_quiet view index (register view client reg) (register view client value)
row_quiet view law client (Clear reg index) picks = clear_quiet view index (register view client reg)
row_quiet view law client (Show reg) picks = data_quiet view law (register view client reg) (object_held view (register view client reg)) refl
row_quiet view law client (Put reg at bytes) picks = put_quiet view at bytes (register view client reg)
row_quiet view law client (Copy to reg) picks = copy_quiet view client to (register view client reg)
row_quiet view law client (IdOf reg) picks = id_quiet view (object_held view (register view client reg))
row_quiet view law client (Forget reg) picks = drop_quiet view client reg (register view client reg)
row_quiet view law client (Bind name reg) picks = root_quiet view name picks.root (register view client reg)
row_quiet view law client (Unbind name) picks = unroot_quiet view name (get view.roots name)
row_quiet view law client (Find to name) picks = find_quiet view client to (get view.roots name)
row_quiet view law client (Swap reg index old value) picks = swap_quiet view index (register view client reg) (register view client old) (register view client value)
row_quiet view law client Close picks = never
row_quiet view law client Save picks = never
row_quiet view law client Settle picks = never
row_quiet view law client Unsave picks = never
row_quiet view law client Watch picks = never

module _ (v w : SpaceView) (law : HeapLaw v) (client : ℕ) (cmd : Cmd) where
  told : (reply : Reply) → IsRow v client cmd (reply, w) → IsQuiet v (reply, w)
  told reply is = subst (IsQuiet v) (sym is.2) (row_quiet v law client cmd is.0)

  short : (reply : Reply) → IsQuiet v (reply, w) → IsShortReply reply
  short (Shown bytes) is = (is refl).1
  short reply is = tt

  -- a command whose reply shows bytes leaves the space as it is
  pub shown_leaves : (r : Result Reply NoMemory) → IfOk r (λ reply. IsRow v client cmd (reply, w)) → IfOk r (λ reply. LeavesWhereShown v reply w)
  shown_leaves (Ok reply) is = λ shown. (told reply is shown).0
  shown_leaves (Err e) is = tt

  -- and shows at most an object's
  pub shown_short : (r : Result Reply NoMemory) → IfOk r (λ reply. IsRow v client cmd (reply, w)) → IfOk r IsShortReply
  shown_short (Ok reply) is = short reply (told reply is)
  shown_short (Err e) is = tt
