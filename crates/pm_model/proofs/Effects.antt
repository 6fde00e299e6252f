-- What an answer does to a world: each is one of eleven effects, and the laws of answers are laws of these.
use Rattle.std.proofs.Common.{◌≡◌, ◌≤◌, ◌<◌, ℕ, zero, suc, ◌+◌, Bool, true, false, List, length, replicate, slice_get, Option, Some, None, refl, if◌then◌else◌, arith, ltb, nat_eq, ◌||◌}
use Rattle.std.specs.Option.{IsSome, IfSome}
use Rattle.std.specs.FinMap.{get}
use Rattle.std.proofs.lemmas.Bool.{ltb-true, ltb-false, or_parts}
use Rattle.std.proofs.lemmas.Bool.Decides.{nat_tests}
use Rattle.std.proofs.lemmas.List.{length-replicate}
use Rattle.pm_types.specs.declared.limits.TheConstants.{FIELDS, OBJECT_BYTES, LAST_ID, LAST_COPY, WATCHES}
use Rattle.pm_types.specs.declared.command.Cmd.{Cmd}
use Rattle.pm_types.specs.declared.command.Cmd.TheVariants.{New, Load, Store, Clear, Show, Put, IdOf, Forget, Bind, Unbind, Find, Save, Settle, Watch, Close, Swap, Unsave}
use Rattle.pm_types.specs.declared.command.Cmd.TheVariants as commands
use Rattle.pm_types.specs.declared.reply.Reply.{Reply}
use Rattle.pm_types.specs.declared.reply.Reply.TheVariants.{Done, Ident, Null, Shown, Saved, TooLarge, IdsSpent, NoHandle, NoField, OutOfRange, TooManyRoots, NoRoot, Busy, SavesSpent, Idle, TooManyWatches, Held}
use Rattle.pm_model.specs.Heap.{Object, field_of, with_field, with_bytes}
use Rattle.pm_model.specs.World.{World, Saving, Copy, held, holding, emptying, closing, with_object, changing, naming, unbinding, beginning, settling, dropping, watching}
use Rattle.pm_model.specs.Copying.{copy}
use Rattle.pm_model.specs.Answer.{answer, fresh, has_no_room, is_refusal, answer_new, loading, answer_load, writing, answer_store, answer_clear, answer_data, putting, answer_put, answer_copy, answer_id, answer_drop, answer_root, answer_unroot, answer_find, answer_save, answer_settle, answer_watch, swapping, answer_swap, answer_unsave}
use Rattle.pm_model.specs.Journal.{says_saved}
use Rattle.pm_model.specs.Frames.{makes_object, changed_object, changed_field, changed_name, sets_register, saves, is_settle, sets_watch}
use Rattle.pm_model.specs.Closed.{IsClosed}

pub data Effect : Type 0 where
  -- nothing
  Nothing : Effect
  -- this object gets the next identity, and the register holds it
  Makes : ℕ → Object → Effect
  -- the register holds this, or nothing
  Holds : ℕ → Option ℕ → Effect
  -- the object of this identity, which was this, gets this into a field
  Sets : ℕ → Object → ℕ → Option ℕ → Effect
  -- the object of this identity, which was this, gets these bytes from a place on
  Puts : ℕ → Object → ℕ → List ℕ → Effect
  -- the name stands for this, or for nothing
  Names : List ℕ → Option ℕ → Effect
  -- the registers of the client are empty
  Closes : Effect
  -- the copy of the world is begun under this number
  Begins : ℕ → Effect
  -- this copy settles under this number
  Settles : ℕ → Copy → Effect
  -- the copy in progress is none any more
  Drops : Effect
  -- one more watch is set
  Watches : Effect

-- the world after an effect of a client's command
abbrev pub effected : World → ℕ → Effect → World
effected world client Nothing = world
effected world client (Makes reg object) = holding (with_object world object) client reg world.next
effected world client (Holds reg None) = emptying world client reg
effected world client (Holds reg (Some id)) = holding world client reg id
effected world client (Sets id object index value) = changing world id (with_field object index value)
effected world client (Puts id object at bytes) = changing world id (with_bytes object at bytes)
effected world client (Names name None) = unbinding world name
effected world client (Names name (Some id)) = naming world name id
effected world client Closes = closing world client
effected world client (Begins number) = beginning world number (copy world)
effected world client (Settles number copy) = settling world number copy
effected world client Drops = dropping world
effected world client Watches = watching world

-- what is named is an object, where whatever the world names is one
abbrev pub IsKnown : World → Option ℕ → Type 0
IsKnown world to = IsClosed world → IfSome to (λ id. IsSome (get world.heap id))

-- the reply to a command that was not refused, and that settled nothing
pub record IsFine (cmd : Cmd) (reply : Reply) : Type 0 where
  pub accepted : is_refusal cmd reply ≡ false
  pub unsaved : says_saved reply ≡ false

pub record IsMade (world : World) (cmd : Cmd) (reply : Reply) (reg : ℕ) (object : Object) : Type 0 where
  pub fine : IsFine cmd reply
  pub room : world.next ≤ LAST_ID
  pub null : (index to : ℕ) → slice_get object.fields index ≡ Some (Some to) → ⊥
  pub fields : length object.fields ≤ FIELDS
  pub bytes : length object.bytes ≤ OBJECT_BYTES
  pub makes : makes_object cmd ≡ true
  pub sets : sets_register cmd reg ≡ true

pub record IsHeld (world : World) (cmd : Cmd) (reply : Reply) (reg : ℕ) (to : Option ℕ) : Type 0 where
  pub fine : IsFine cmd reply
  pub known : IsKnown world to
  pub sets : sets_register cmd reg ≡ true

pub record IsSet (world : World) (client : ℕ) (cmd : Cmd) (reply : Reply) (id : ℕ) (object : Object) (index : ℕ) (value : Option ℕ) : Type 0 where
  pub fine : IsFine cmd reply
  pub there : get world.heap id ≡ Some object
  pub within : index < length object.fields
  pub known : IsKnown world value
  pub reg : ℕ
  pub aims : held world client reg ≡ Some id
  pub changes : changed_object cmd ≡ Some reg
  pub writes : changed_field cmd ≡ Some (reg, index)

pub record IsPut (world : World) (client : ℕ) (cmd : Cmd) (reply : Reply) (id : ℕ) (object : Object) (at : ℕ) (bytes : List ℕ) : Type 0 where
  pub fine : IsFine cmd reply
  pub there : get world.heap id ≡ Some object
  pub within : at + length bytes ≤ length object.bytes
  pub reg : ℕ
  pub aims : held world client reg ≡ Some id
  pub changes : changed_object cmd ≡ Some reg

pub record IsNamed (world : World) (cmd : Cmd) (reply : Reply) (name : List ℕ) (to : Option ℕ) : Type 0 where
  pub fine : IsFine cmd reply
  pub known : IsKnown world to
  pub room : IfSome to (λ id. has_no_room world name ≡ false)
  pub names : changed_name cmd ≡ Some name

pub record IsBegun (world : World) (cmd : Cmd) (reply : Reply) (number : ℕ) : Type 0 where
  pub fine : IsFine cmd reply
  pub none : world.saving ≡ None
  pub next : number ≡ world.settled + 1
  pub below : world.settled < LAST_COPY
  pub saves : saves cmd ≡ true

pub record IsSettled (world : World) (cmd : Cmd) (reply : Reply) (number : ℕ) (copy : Copy) : Type 0 where
  pub accepted : is_refusal cmd reply ≡ false
  pub said : reply ≡ Saved number
  pub was : world.saving ≡ Some (number, copy)
  pub saves : saves cmd ≡ true
  pub settles : is_settle cmd ≡ true

pub record IsWatched (world : World) (cmd : Cmd) (reply : Reply) : Type 0 where
  pub fine : IsFine cmd reply
  pub below : world.watches < WATCHES
  pub watches : sets_watch cmd ≡ true

-- the effect is the one of a command that was answered so
abbrev pub IsOf : World → ℕ → Cmd → Reply → Effect → Type 0
IsOf world client cmd reply Nothing = says_saved reply ≡ false
IsOf world client cmd reply (Makes reg object) = IsMade world cmd reply reg object
IsOf world client cmd reply (Holds reg to) = IsHeld world cmd reply reg to
IsOf world client cmd reply (Sets id object index value) = IsSet world client cmd reply id object index value
IsOf world client cmd reply (Puts id object at bytes) = IsPut world client cmd reply id object at bytes
IsOf world client cmd reply (Names name to) = IsNamed world cmd reply name to
IsOf world client cmd reply Closes = IsFine cmd reply × ((reg : ℕ) → sets_register cmd reg ≡ true)
IsOf world client cmd reply (Begins number) = IsBegun world cmd reply number
IsOf world client cmd reply (Settles number copy) = IsSettled world cmd reply number copy
IsOf world client cmd reply Drops = IsFine cmd reply × (saves cmd ≡ true)
IsOf world client cmd reply Watches = IsWatched world cmd reply

-- a reply and a next world that are those of an effect
pub record Does (world : World) (client : ℕ) (cmd : Cmd) (given : Reply × World) : Type 0 where
  pub effect : Effect
  pub is : given.1 ≡ effected world client effect
  pub allowed : IsOf world client cmd given.0 effect

nothing : (world : World) (client : ℕ) (cmd : Cmd) (reply : Reply) → says_saved reply ≡ false → Does world client cmd (reply, world)
nothing world client cmd reply unsaved = record { effect = Nothing; is = refl; allowed = unsaved }

fine : {cmd : Cmd} {reply : Reply} → is_refusal cmd reply ≡ false → says_saved reply ≡ false → IsFine cmd reply
fine accepted unsaved = record { accepted = accepted; unsaved = unsaved }

-- of two answers the one that a test picks
picked : (world : World) (client : ℕ) (cmd : Cmd) (b : Bool) (one two : Reply × World) → (b ≡ true → Does world client cmd one) → (b ≡ false → Does world client cmd two) → Does world client cmd (if b then one else two)
picked world client cmd true one two if_true if_false = if_true refl
picked world client cmd false one two if_true if_false = if_false refl

-- a number is itself
same_number : (n : ℕ) → nat_eq n n ≡ true
same_number n = grind (arith, nat_tests)

-- what a register or a name stands for is known
held_known : (world : World) (client reg : ℕ) (to : Option ℕ) → held world client reg ≡ to → IsKnown world to
held_known world client reg None is closed = tt
held_known world client reg (Some id) is closed = closed.registers client reg id is

named_known : (world : World) (name : List ℕ) (to : Option ℕ) → get world.roots name ≡ to → IsKnown world to
named_known world name None is closed = tt
named_known world name (Some id) is closed = closed.graph.named name id is

field_known : (world : World) (id index : ℕ) (to : Option ℕ) → field_of (get world.heap id) index ≡ Some to → IsKnown world to
field_known world id index None is closed = tt
field_known world id index (Some to) is closed = closed.graph.fields id index to is

-- a field that holds nothing
abbrev null_field : Option ℕ
null_field = None

all_null : (count index to : ℕ) → slice_get (replicate count null_field) index ≡ Some (Some to) → ⊥
all_null zero index to is = cc
all_null (suc count) zero to is = cc
all_null (suc count) (suc index) to is = all_null count index to is

new_does : (world : World) (client reg count : ℕ) (bytes : List ℕ) → Does world client (New reg count bytes) (answer_new world client reg count bytes)
new_does world client reg count bytes =
    let cmd = New reg count bytes in
    picked world client cmd (ltb FIELDS count || ltb OBJECT_BYTES (length bytes)) _ _ (λ is. nothing world client cmd TooLarge refl) (λ small.
    picked world client cmd (ltb LAST_ID world.next) _ _ (λ is. nothing world client cmd IdsSpent refl) (λ left.
    let parts = or_parts (ltb FIELDS count) (ltb OBJECT_BYTES (length bytes)) small in
    record {
      effect = Makes reg (fresh count bytes);
      is = refl;
      allowed = record {
        fine = fine refl refl;
        room = ltb-false LAST_ID world.next left;
        null = all_null count;
        fields = rw (length-replicate count null_field) (ltb-false FIELDS count parts.0);
        bytes = ltb-false OBJECT_BYTES (length bytes) parts.1;
        makes = refl;
        sets = same_number reg;
      };
    }))

-- a register gets what is known
holds : (world : World) (client : ℕ) (cmd : Cmd) (reply : Reply) (reg id : ℕ) → IsFine cmd reply → IsKnown world (Some id) → sets_register cmd reg ≡ true → Does world client cmd (reply, holding world client reg id)
holds world client cmd reply reg id is known sets = record { effect = Holds reg (Some id); is = refl; allowed = record { fine = is; known = known; sets = sets } }

empties : (world : World) (client : ℕ) (cmd : Cmd) (reply : Reply) (reg : ℕ) → IsFine cmd reply → sets_register cmd reg ≡ true → Does world client cmd (reply, emptying world client reg)
empties world client cmd reply reg is sets = record { effect = Holds reg None; is = refl; allowed = record { fine = is; known = λ closed. tt; sets = sets } }

loading_does : (world : World) (client to reg index id : ℕ) (found : Option (Option ℕ)) → field_of (get world.heap id) index ≡ found → Does world client (Load to reg index) (loading world client to found)
loading_does world client to reg index id None is = nothing world client (Load to reg index) NoField refl
loading_does world client to reg index id (Some None) is = empties world client (Load to reg index) Null to (fine refl refl) (same_number to)
loading_does world client to reg index id (Some (Some found)) is = holds world client (Load to reg index) (Ident found) to found (fine refl refl) (field_known world id index (Some found) is) (same_number to)

load_does : (world : World) (client to reg index : ℕ) (from : Option ℕ) → Does world client (Load to reg index) (answer_load world client to index from)
load_does world client to reg index None = nothing world client (Load to reg index) NoHandle refl
load_does world client to reg index (Some id) = loading_does world client to reg index id _ refl

-- a command that writes a field of the object that a register holds
pub record Aims (world : World) (client : ℕ) (cmd : Cmd) (reg index id : ℕ) : Type 0 where
  pub aims : held world client reg ≡ Some id
  pub changes : changed_object cmd ≡ Some reg
  pub writes : changed_field cmd ≡ Some (reg, index)

writing_does : (world : World) (client : ℕ) (cmd : Cmd) (reg index id : ℕ) (value : Option ℕ) (found : Option Object) → get world.heap id ≡ found → Aims world client cmd reg index id → IsKnown world value
    → Does world client cmd (writing world id index value found)
writing_does world client cmd reg index id value None there aims known = nothing world client cmd NoField refl
writing_does world client cmd reg index id value (Some object) there aims known =
    picked world client cmd (ltb index (length object.fields)) _ _
    (λ less.
    record {
      effect = Sets id object index value;
      is = refl;
      allowed =
          record { fine = fine refl refl; there = there; within = ltb-true index (length object.fields) less; known = known; reg = reg; aims = aims.aims; changes = aims.changes; writes = aims.writes };
    })
    (λ more. nothing world client cmd NoField refl)

store_does : (world : World) (client reg index value : ℕ) (from to : Option ℕ) → held world client reg ≡ from → held world client value ≡ to → Does world client (Store reg index value) (answer_store world index from to)
store_does world client reg index value None to is is_to = nothing world client (Store reg index value) NoHandle refl
store_does world client reg index value (Some id) None is is_to = nothing world client (Store reg index value) NoHandle refl
store_does world client reg index value (Some id) (Some to) is is_to =
    writing_does world client (Store reg index value) reg index id (Some to) _ refl (record { aims = is; changes = refl; writes = refl }) (held_known world client value (Some to) is_to)

clear_does : (world : World) (client reg index : ℕ) (from : Option ℕ) → held world client reg ≡ from → Does world client (Clear reg index) (answer_clear world index from)
clear_does world client reg index None is = nothing world client (Clear reg index) NoHandle refl
clear_does world client reg index (Some id) is = writing_does world client (Clear reg index) reg index id None _ refl (record { aims = is; changes = refl; writes = refl }) (λ closed. tt)

data_does : (world : World) (client reg : ℕ) (from : Option ℕ) → Does world client (Show reg) (answer_data world from)
data_does world client reg None = nothing world client (Show reg) NoHandle refl
data_does world client reg (Some id) = nothing world client (Show reg) (Shown _) refl

putting_does : (world : World) (client reg at id : ℕ) (bytes : List ℕ) (found : Option Object) → get world.heap id ≡ found → held world client reg ≡ Some id → Does world client (Put reg at bytes) (putting world id at bytes found)
putting_does world client reg at id bytes None there is = nothing world client (Put reg at bytes) OutOfRange refl
putting_does world client reg at id bytes (Some object) there is =
    picked world client (Put reg at bytes) (ltb (length object.bytes) (at + length bytes)) _ _ (λ past. nothing world client (Put reg at bytes) OutOfRange refl) (λ within.
    record {
      effect = Puts id object at bytes;
      is = refl;
      allowed = record { fine = fine refl refl; there = there; within = ltb-false (length object.bytes) (at + length bytes) within; reg = reg; aims = is; changes = refl };
    })

put_does : (world : World) (client reg at : ℕ) (bytes : List ℕ) (from : Option ℕ) → held world client reg ≡ from → Does world client (Put reg at bytes) (answer_put world at bytes from)
put_does world client reg at bytes None is = nothing world client (Put reg at bytes) NoHandle refl
put_does world client reg at bytes (Some id) is = putting_does world client reg at id bytes _ refl is

copy_does : (world : World) (client to reg : ℕ) (from : Option ℕ) → held world client reg ≡ from → Does world client (commands.Copy to reg) (answer_copy world client to from)
copy_does world client to reg None is = nothing world client (commands.Copy to reg) NoHandle refl
copy_does world client to reg (Some id) is = holds world client (commands.Copy to reg) (Ident id) to id (fine refl refl) (held_known world client reg (Some id) is) (same_number to)

id_does : (world : World) (client reg : ℕ) (from : Option ℕ) → Does world client (IdOf reg) (answer_id world from)
id_does world client reg None = nothing world client (IdOf reg) NoHandle refl
id_does world client reg (Some id) = nothing world client (IdOf reg) (Ident id) refl

drop_does : (world : World) (client reg : ℕ) (from : Option ℕ) → Does world client (Forget reg) (answer_drop world client reg from)
drop_does world client reg None = nothing world client (Forget reg) NoHandle refl
drop_does world client reg (Some id) = empties world client (Forget reg) Done reg (fine refl refl) (same_number reg)

root_does : (world : World) (client reg : ℕ) (name : List ℕ) (from : Option ℕ) → held world client reg ≡ from → Does world client (Bind name reg) (answer_root world name from)
root_does world client reg name None is = nothing world client (Bind name reg) NoHandle refl
root_does world client reg name (Some id) is =
    picked world client (Bind name reg) (has_no_room world name) _ _ (λ full. nothing world client (Bind name reg) TooManyRoots refl)
    (λ room.
    record {
      effect = Names name (Some id);
      is = refl;
      allowed = record { fine = fine refl refl; known = held_known world client reg (Some id) is; room = room; names = refl };
    })

unroot_does : (world : World) (client : ℕ) (name : List ℕ) (to : Option ℕ) → Does world client (Unbind name) (answer_unroot world name to)
unroot_does world client name None = nothing world client (Unbind name) NoRoot refl
unroot_does world client name (Some id) =
    record { effect = Names name None; is = refl; allowed = record { fine = fine refl refl; known = λ closed. tt; room = tt; names = refl } }

find_does : (world : World) (client to : ℕ) (name : List ℕ) (found : Option ℕ) → get world.roots name ≡ found → Does world client (Find to name) (answer_find world client to found)
find_does world client to name None is = nothing world client (Find to name) NoRoot refl
find_does world client to name (Some id) is = holds world client (Find to name) (Ident id) to id (fine refl refl) (named_known world name (Some id) is) (same_number to)

save_does : (world : World) (client : ℕ) (saving : Saving) → world.saving ≡ saving → Does world client Save (answer_save world saving)
save_does world client None is =
    picked world client Save (ltb world.settled LAST_COPY) _ _
    (λ less.
    record {
      effect = Begins (world.settled + 1);
      is = refl;
      allowed = record { fine = fine refl refl; none = is; next = refl; below = ltb-true world.settled LAST_COPY less; saves = refl };
    })
    (λ more. nothing world client Save SavesSpent refl)
save_does world client (Some begun) is = nothing world client Save (Busy begun.0) refl

settle_does : (world : World) (client : ℕ) (saving : Saving) → world.saving ≡ saving → Does world client Settle (answer_settle world saving)
settle_does world client None is = nothing world client Settle Idle refl
settle_does world client (Some begun) is = record { effect = Settles begun.0 begun.1; is = refl; allowed = record { accepted = refl; said = refl; was = is; saves = refl; settles = refl } }

watch_does : (world : World) (client : ℕ) → Does world client Watch (answer_watch world)
watch_does world client =
    picked world client Watch (ltb world.watches WATCHES) _ _
    (λ less. record { effect = Watches; is = refl; allowed = record { fine = fine refl refl; below = ltb-true world.watches WATCHES less; watches = refl } })
    (λ more. nothing world client Watch TooManyWatches refl)

swapping_does : (world : World) (client reg index old value id is_old is_value : ℕ) (found : Option (Option ℕ)) → held world client reg ≡ Some id → held world client value ≡ Some is_value
    → Does world client (Swap reg index old value) (swapping world id index is_old is_value found)
swapping_does world client reg index old value id is_old is_value None is to = nothing world client (Swap reg index old value) NoField refl
swapping_does world client reg index old value id is_old is_value (Some None) is to = nothing world client (Swap reg index old value) Null refl
swapping_does world client reg index old value id is_old is_value (Some (Some found)) is to =
    picked world client (Swap reg index old value) (nat_eq found is_old) _ _
    (λ same. writing_does world client (Swap reg index old value) reg index id (Some is_value) _ refl (record { aims = is; changes = refl; writes = refl }) (held_known world client value (Some is_value) to))
    (λ other. nothing world client (Swap reg index old value) (Held found) refl)

swap_does : (world : World) (client reg index old value : ℕ) (from one two : Option ℕ) → held world client reg ≡ from → held world client value ≡ two
    → Does world client (Swap reg index old value) (answer_swap world index from one two)
swap_does world client reg index old value None one two is to = nothing world client (Swap reg index old value) NoHandle refl
swap_does world client reg index old value (Some id) None two is to = nothing world client (Swap reg index old value) NoHandle refl
swap_does world client reg index old value (Some id) (Some one) None is to = nothing world client (Swap reg index old value) NoHandle refl
swap_does world client reg index old value (Some id) (Some one) (Some two) is to = swapping_does world client reg index old value id one two _ is to

unsave_does : (world : World) (client : ℕ) (saving : Saving) → Does world client Unsave (answer_unsave world saving)
unsave_does world client None = nothing world client Unsave Idle refl
unsave_does world client (Some begun) = record { effect = Drops; is = refl; allowed = (fine refl refl, refl) }

close_does : (world : World) (client : ℕ) → Does world client Close (Done, closing world client)
close_does world client = record { effect = Closes; is = refl; allowed = (fine refl refl, λ reg. refl) }

-- each answer has one of the effects
pub does : (world : World) (client : ℕ) (cmd : Cmd) → Does world client cmd (answer world client cmd)
unfolding answer
does world client (New reg count bytes) = new_does world client reg count bytes
does world client (Load to reg index) = load_does world client to reg index (held world client reg)
does world client (Store reg index value) = store_does world client reg index value _ _ refl refl
does world client (Clear reg index) = clear_does world client reg index _ refl
does world client (Show reg) = data_does world client reg (held world client reg)
does world client (Put reg at bytes) = put_does world client reg at bytes _ refl
does world client (commands.Copy to reg) = copy_does world client to reg _ refl
does world client (IdOf reg) = id_does world client reg (held world client reg)
does world client (Forget reg) = drop_does world client reg (held world client reg)
does world client (Bind name reg) = root_does world client reg name _ refl
does world client (Unbind name) = unroot_does world client name (get world.roots name)
does world client (Find to name) = find_does world client to name _ refl
does world client Save = save_does world client world.saving refl
does world client Settle = settle_does world client world.saving refl
does world client Watch = watch_does world client
does world client Close = close_does world client
does world client (Swap reg index old value) = swap_does world client reg index old value _ _ _ refl refl
does world client Unsave = unsave_does world client world.saving
