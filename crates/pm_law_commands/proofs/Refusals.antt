-- A row that refuses leaves the space as it is.
use Rattle.std.proofs.Common.{◌≡◌, ℕ, ◌+◌, ◌||◌, nat_lt, nat_le, nat_eq, if◌then◌else◌, Bool, true, false, refl, sym, List, length, Option, Some, None, is_some}
use Rattle.std.specs.FinMap.{get, len}
use Rattle.std.proofs.lemmas.Bool.{true≢false}
use Rattle.pm_types.specs.declared.limits.TheConstants.{FIELDS, OBJECT_BYTES, LAST_ID, ROOTS}
use Rattle.pm_types.specs.declared.address.Addr.{Addr}
use Rattle.pm_types.specs.declared.object.Object.{Object}
use Rattle.pm_types.specs.declared.source.RefSource.TheVariants.{Handle, Field}
use Rattle.pm_types.specs.declared.command.Cmd.{Cmd}
use Rattle.pm_types.specs.declared.command.Cmd.TheVariants.{New, Load, Store, Clear, Show, Put, Copy, IdOf, Forget, Bind, Unbind, Find, Swap, Close, Save, Settle, Unsave, Watch}
use Rattle.pm_types.specs.declared.reply.Reply.{Reply}
use Rattle.pm_types.specs.declared.reply.Reply.TheVariants.{Done, Ident, Null, NoField, OutOfRange, TooManyRoots, TooLarge, IdsSpent, NoHandle, NoRoot, Held}
use Rattle.pm_model.specs.Answer.{is_refusal}
use Rattle.pm_view.specs.View.{SpaceView}
use Rattle.pm_view.specs.Reading.{object_at, resolve}
use Rattle.pm_view.specs.Rows.{spread, with_name, with_bytes_at, spent, born, birthplace}
use Rattle.pm_view.specs.Commands.{register, hold, object_held, row_copy, row_id, row_data, row_drop, field_at, load_field, row_load, row_store, row_clear, named_in, swap_field, row_swap, put_bytes, row_put, bind, row_root, row_unroot, row_find, fresh, row_new, row, Picks}

-- where a row refuses, it leaves the space
abbrev IsStill : SpaceView → Cmd → Reply × SpaceView → Type 0
IsStill view cmd after = is_refusal cmd after.0 ≡ true → after.1 ≡ view

module _ (view : SpaceView) where
  left : (cmd : Cmd) (reply : Reply) → IsStill view cmd (reply, view)
  left cmd reply refuses = refl

  -- a command that was done refused nothing
  done : (cmd : Cmd) (t : SpaceView) → IsStill view cmd (Done, t)
  done cmd t refuses = absurd (true≢false (sym refuses))

  hold_still : (cmd : Cmd) (client to : ℕ) (a : Addr) (o : Option Object) → IsStill view cmd (hold view client to a o)
  hold_still cmd client to a None = left cmd NoHandle
  hold_still cmd client to a (Some object) = λ refuses. absurd (true≢false (sym refuses))

  if_done : (cmd : Cmd) (b : Bool) (t : SpaceView) (reply : Reply) → IsStill view cmd (if b then (Done, t) else (reply, view))
  if_done cmd true t reply = done cmd t
  if_done cmd false t reply = left cmd reply

  unless_done : (cmd : Cmd) (b : Bool) (t : SpaceView) (reply : Reply) → IsStill view cmd (if b then (reply, view) else (Done, t))
  unless_done cmd true t reply = left cmd reply
  unless_done cmd false t reply = done cmd t

  copy_still : (cmd : Cmd) (client to : ℕ) (o : Option Addr) → IsStill view cmd (row_copy view client to o)
  copy_still cmd client to None = left cmd NoHandle
  copy_still cmd client to (Some a) = hold_still cmd client to (resolve view a) (object_at view.cars (resolve view a))

  find_still : (cmd : Cmd) (client to : ℕ) (o : Option (ℕ × Addr)) → IsStill view cmd (row_find view client to o)
  find_still cmd client to None = left cmd NoRoot
  find_still cmd client to (Some bound) = hold_still cmd client to (resolve view bound.1) (object_at view.cars (resolve view bound.1))

  load_still : (client to reg index : ℕ) (o : Option Addr) → IsStill view (Load to reg index) (row_load view client to index o)
  load_still client to reg index None = left (Load to reg index) NoHandle
  load_still client to reg index (Some a) = by_field (field_at (object_at view.cars (resolve view a)) index)
    where
      by_field : (f : Option (Option Addr)) → IsStill view (Load to reg index) (load_field view client to f)
      by_field None = left (Load to reg index) NoField
      by_field (Some None) = λ refuses. absurd (true≢false (sym refuses))
      by_field (Some (Some b)) = hold_still (Load to reg index) client to (resolve view b) (object_at view.cars (resolve view b))

  store_still : (cmd : Cmd) (index : ℕ) (o p : Option Addr) → IsStill view cmd (row_store view index o p)
  store_still cmd index None p = left cmd NoHandle
  store_still cmd index (Some a) None = left cmd NoHandle
  store_still cmd index (Some a) (Some b) = if_done cmd (is_some (field_at (object_at view.cars (resolve view a)) index)) (spread view (Field (resolve view a) index) (Some (resolve view b))) NoField

  clear_still : (cmd : Cmd) (index : ℕ) (o : Option Addr) → IsStill view cmd (row_clear view index o)
  clear_still cmd index None = left cmd NoHandle
  clear_still cmd index (Some a) = if_done cmd (is_some (field_at (object_at view.cars (resolve view a)) index)) (spread view (Field (resolve view a) index) None) NoField

  swap_still : (cmd : Cmd) (index : ℕ) (o p q : Option Addr) → IsStill view cmd (row_swap view index o p q)
  swap_still cmd index None p q = left cmd NoHandle
  swap_still cmd index (Some a) None q = left cmd NoHandle
  swap_still cmd index (Some a) (Some b) None = left cmd NoHandle
  swap_still cmd index (Some a) (Some b) (Some c) =
      let field = field_at (object_at view.cars (resolve view a)) index in by_field field (named_in view field) (object_held view (Some b))
    where
      by_field : (f : Option (Option Addr)) (found was : Option Object) → IsStill view cmd (swap_field view (resolve view a) index f found was (resolve view c))
      by_field None found was = left cmd NoField
      by_field (Some None) found was = left cmd Null
      by_field (Some (Some d)) None was = left cmd NoHandle
      by_field (Some (Some d)) (Some found) None = left cmd NoHandle
      by_field (Some (Some d)) (Some found) (Some was) = if_done cmd (nat_eq found.id was.id) (spread view (Field (resolve view a) index) (Some (resolve view c))) (Held found.id)

  put_still : (cmd : Cmd) (at : ℕ) (bytes : List ℕ) (o : Option Addr) → IsStill view cmd (row_put view at bytes o)
  put_still cmd at bytes None = left cmd NoHandle
  put_still cmd at bytes (Some a) = by_object (object_at view.cars (resolve view a))
    where
      by_object : (o : Option Object) → IsStill view cmd (put_bytes view (resolve view a) at bytes o)
      by_object None = left cmd NoHandle
      by_object (Some object) = unless_done cmd (nat_lt (length object.bytes) (at + length bytes)) (with_bytes_at view (resolve view a) at bytes) OutOfRange

  root_still : (cmd : Cmd) (name : List ℕ) (number : ℕ) (o : Option Addr) → IsStill view cmd (row_root view name number o)
  root_still cmd name number None = left cmd NoHandle
  root_still cmd name number (Some a) = by_name (get view.roots name)
    where
      by_name : (o : Option (ℕ × Addr)) → IsStill view cmd (bind view name o number (resolve view a))
      by_name None = unless_done cmd (nat_le ROOTS (len view.roots)) (with_name view name number (resolve view a)) TooManyRoots
      by_name (Some bound) = done cmd _

  new_still : (cmd : Cmd) (client reg count : ℕ) (bytes : List ℕ) (number : ℕ) → IsStill view cmd (row_new view client reg count bytes number)
  new_still cmd client reg count bytes number = by_size (nat_lt FIELDS count || nat_lt OBJECT_BYTES (length bytes)) (nat_lt LAST_ID view.next)
    where
      by_size : (b d : Bool) → IsStill view cmd (if b then (TooLarge, view) else if d then (IdsSpent, view) else (Ident view.next, spread (born (spent view) number (fresh view count bytes)) (Handle client reg) (Some (birthplace (spent view) number (fresh view count bytes)))))
      by_size true d = left cmd TooLarge
      by_size false true = left cmd IdsSpent
      by_size false false = λ refuses. absurd (true≢false (sym refuses))

  -- a command that is refused leaves the space as it is
  pub row_still : (client : ℕ) (cmd : Cmd) (picks : Picks) → IsStill view cmd (row view client cmd picks)
  row_still client (New reg count bytes) picks = new_still (New reg count bytes) client reg count bytes picks.car
  row_still client (Load to reg index) picks = load_still client to reg index (register view client reg)
  row_still client (Store reg index value) picks = store_still (Store reg index value) index (register view client reg) (register view client value)
  row_still client (Clear reg index) picks = clear_still (Clear reg index) index (register view client reg)
  row_still client (Show reg) picks = by_object (object_held view (register view client reg))
    where
      by_object : (o : Option Object) → IsStill view (Show reg) (row_data view o)
      by_object None = left (Show reg) NoHandle
      by_object (Some object) = λ refuses. refl
  row_still client (Put reg at bytes) picks = put_still (Put reg at bytes) at bytes (register view client reg)
  row_still client (Copy to reg) picks = copy_still (Copy to reg) client to (register view client reg)
  row_still client (IdOf reg) picks = by_object (object_held view (register view client reg))
    where
      by_object : (o : Option Object) → IsStill view (IdOf reg) (row_id view o)
      by_object None = left (IdOf reg) NoHandle
      by_object (Some object) = λ refuses. refl
  row_still client (Forget reg) picks = by_address (register view client reg)
    where
      by_address : (o : Option Addr) → IsStill view (Forget reg) (row_drop view client reg o)
      by_address None = left (Forget reg) NoHandle
      by_address (Some a) = done (Forget reg) _
  row_still client (Bind name reg) picks = root_still (Bind name reg) name picks.root (register view client reg)
  row_still client (Unbind name) picks = by_name (get view.roots name)
    where
      by_name : (o : Option (ℕ × Addr)) → IsStill view (Unbind name) (row_unroot view name o)
      by_name None = left (Unbind name) NoRoot
      by_name (Some bound) = done (Unbind name) _
  row_still client (Find to name) picks = find_still (Find to name) client to (get view.roots name)
  row_still client (Swap reg index old value) picks = swap_still (Swap reg index old value) index (register view client reg) (register view client old) (register view client value)
  row_still client Close picks = done Close _
  row_still client Save picks = λ refuses. refl
  row_still client Settle picks = λ refuses. refl
  row_still client Unsave picks = λ refuses. refl
  row_still client Watch picks = λ refuses. refl
