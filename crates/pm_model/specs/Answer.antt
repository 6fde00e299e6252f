-- What each command answers, and the world that it leaves.
use Rattle.std.specs.Prelude.{ℕ, Bool, true, false, ◌||◌, List, length, Option, Some, None, nat_lt, nat_le, nat_eq, is_some, not, ◌+◌, ◌&&◌, [], if◌then◌else◌, replicate}
use Rattle.std.specs.FinMap.{get, len}
use Rattle.pm_types.specs.declared.limits.TheConstants.{FIELDS, OBJECT_BYTES, LAST_ID, LAST_COPY, ROOTS, WATCHES}
use Rattle.pm_types.specs.declared.command.Cmd.{Cmd}
use Rattle.pm_types.specs.declared.command.Cmd.TheVariants.{New, Load, Store, Clear, Show, Put, Copy, IdOf, Forget, Bind, Unbind, Find, Save, Settle, Watch, Close, Swap, Unsave}
use Rattle.pm_types.specs.declared.reply.Reply.{Reply}
use Rattle.pm_types.specs.declared.reply.Reply.TheVariants.{Done, Ident, Null, Shown, Begun, Saved, Watching, TooLarge, IdsSpent, NoHandle, NoField, OutOfRange, TooManyRoots, NoRoot, Busy, SavesSpent, Idle, TooManyWatches, Dropped, Held}
use Rattle.pm_model.specs.Heap.{Object, field_of, with_field, with_bytes}
use Rattle.pm_model.specs.World.{World, Saving, held, holding, emptying, closing, with_object, changing, naming, unbinding, beginning, settling, dropping, watching}
use Rattle.pm_model.specs.Copying.{copy}

-- a refusal gives the same world back
abbrev pub refused : World → Reply → Reply × World
refused world reply = (reply, world)

-- an object of so many null fields and these bytes
abbrev pub fresh : ℕ → List ℕ → Object
fresh count bytes = record { fields = replicate count None; bytes = bytes }

-- `new`: an object under the next identity, which the register then holds
abbrev pub answer_new : World → ℕ → ℕ → ℕ → List ℕ → Reply × World
answer_new world client reg count bytes =
    if nat_lt FIELDS count || nat_lt OBJECT_BYTES (length bytes) then refused world TooLarge
    else if nat_lt LAST_ID world.next then refused world IdsSpent
    else (Ident world.next, holding (with_object world (fresh count bytes)) client reg world.next)

-- a register gets what a field holds
abbrev pub loading : World → ℕ → ℕ → Option (Option ℕ) → Reply × World
loading world client to None = refused world NoField
loading world client to (Some None) = (Null, emptying world client to)
loading world client to (Some (Some id)) = (Ident id, holding world client to id)

-- `load`: one register gets what a field of the object holds that the other holds
abbrev pub answer_load : World → ℕ → ℕ → ℕ → Option ℕ → Reply × World
answer_load world client to index None = refused world NoHandle
answer_load world client to index (Some id) = loading world client to (field_of (get world.heap id) index)

-- a field of an object becomes null, or gets an identity
abbrev pub writing : World → ℕ → ℕ → Option ℕ → Option Object → Reply × World
writing world id index value None = refused world NoField
writing world id index value (Some object) = if nat_lt index (length object.fields) then (Done, changing world id (with_field object index value)) else refused world NoField

-- `store`: a field of the object that one register holds gets what the other holds
abbrev pub answer_store : World → ℕ → Option ℕ → Option ℕ → Reply × World
answer_store world index None value = refused world NoHandle
answer_store world index (Some id) None = refused world NoHandle
answer_store world index (Some id) (Some value) = writing world id index (Some value) (get world.heap id)

-- `clear`: a field of the object that the register holds becomes null
abbrev pub answer_clear : World → ℕ → Option ℕ → Reply × World
answer_clear world index None = refused world NoHandle
answer_clear world index (Some id) = writing world id index None (get world.heap id)

-- the bytes of an object, and none where there is no object
abbrev pub bytes_of : Option Object → List ℕ
bytes_of None = []
bytes_of (Some object) = object.bytes

-- `data`: the bytes of the object that the register holds
abbrev pub answer_data : World → Option ℕ → Reply × World
answer_data world None = refused world NoHandle
answer_data world (Some id) = (Shown (bytes_of (get world.heap id)), world)

-- bytes of an object get new values
abbrev pub putting : World → ℕ → ℕ → List ℕ → Option Object → Reply × World
putting world id at bytes None = refused world OutOfRange
putting world id at bytes (Some object) = if nat_lt (length object.bytes) (at + length bytes) then refused world OutOfRange else (Done, changing world id (with_bytes object at bytes))

-- `put`: bytes of the object that the register holds get new values
abbrev pub answer_put : World → ℕ → List ℕ → Option ℕ → Reply × World
answer_put world at bytes None = refused world NoHandle
answer_put world at bytes (Some id) = putting world id at bytes (get world.heap id)

-- `copy`: one register holds what the other holds
abbrev pub answer_copy : World → ℕ → ℕ → Option ℕ → Reply × World
answer_copy world client to None = refused world NoHandle
answer_copy world client to (Some id) = (Ident id, holding world client to id)

-- `id`: the identity that the register holds
abbrev pub answer_id : World → Option ℕ → Reply × World
answer_id world None = refused world NoHandle
answer_id world (Some id) = (Ident id, world)

-- `drop`: the register is empty
abbrev pub answer_drop : World → ℕ → ℕ → Option ℕ → Reply × World
answer_drop world client reg None = refused world NoHandle
answer_drop world client reg (Some id) = (Done, emptying world client reg)

-- the name is not bound, and as many names are as can be
abbrev pub has_no_room : World → List ℕ → Bool
has_no_room world name = not (is_some (get world.roots name)) && nat_le ROOTS (len world.roots)

-- `root`: the name stands for what the register holds, in place of an earlier one
abbrev pub answer_root : World → List ℕ → Option ℕ → Reply × World
answer_root world name None = refused world NoHandle
answer_root world name (Some id) = if has_no_room world name then refused world TooManyRoots else (Done, naming world name id)

-- `unroot`: the name stands for nothing
abbrev pub answer_unroot : World → List ℕ → Option ℕ → Reply × World
answer_unroot world name None = refused world NoRoot
answer_unroot world name (Some id) = (Done, unbinding world name)

-- `find`: the register holds what the name stands for
abbrev pub answer_find : World → ℕ → ℕ → Option ℕ → Reply × World
answer_find world client to None = refused world NoRoot
answer_find world client to (Some id) = (Ident id, holding world client to id)

-- `save`: the copy of the world is begun, under the number after the one that settled last
abbrev pub answer_save : World → Saving → Reply × World
answer_save world None = if nat_lt world.settled LAST_COPY then (Begun (world.settled + 1), beginning world (world.settled + 1) (copy world)) else refused world SavesSpent
answer_save world (Some begun) = refused world (Busy begun.0)

-- `settle`: the copy in progress is the one that settled last
abbrev pub answer_settle : World → Saving → Reply × World
answer_settle world None = refused world Idle
answer_settle world (Some begun) = (Saved begun.0, settling world begun.0 begun.1)

-- `watch`: one more watch is set
abbrev pub answer_watch : World → Reply × World
answer_watch world = if nat_lt world.watches WATCHES then (Watching (world.watches + 1), watching world) else refused world TooManyWatches

-- a field gets an identity where it holds another, the old one
abbrev pub swapping : World → ℕ → ℕ → ℕ → ℕ → Option (Option ℕ) → Reply × World
swapping world id index old value None = refused world NoField
swapping world id index old value (Some None) = refused world Null
swapping world id index old value (Some (Some found)) = if nat_eq found old then writing world id index (Some value) (get world.heap id) else refused world (Held found)

-- `swap`: a field of the object that the first register holds gets what the third holds, where it holds what the second holds
abbrev pub answer_swap : World → ℕ → Option ℕ → Option ℕ → Option ℕ → Reply × World
answer_swap world index None old value = refused world NoHandle
answer_swap world index (Some id) None value = refused world NoHandle
answer_swap world index (Some id) (Some old) None = refused world NoHandle
answer_swap world index (Some id) (Some old) (Some value) = swapping world id index old value (field_of (get world.heap id) index)

-- `unsave`: the copy in progress is none any more
abbrev pub answer_unsave : World → Saving → Reply × World
answer_unsave world None = refused world Idle
answer_unsave world (Some begun) = (Dropped begun.0, dropping world)

-- the reply to a client's command in a world, and the world after it
unfoldable pub answer : World → ℕ → Cmd → Reply × World
answer world client (New reg count bytes) = answer_new world client reg count bytes
answer world client (Load to reg index) = answer_load world client to index (held world client reg)
answer world client (Store reg index value) = answer_store world index (held world client reg) (held world client value)
answer world client (Clear reg index) = answer_clear world index (held world client reg)
answer world client (Show reg) = answer_data world (held world client reg)
answer world client (Put reg at bytes) = answer_put world at bytes (held world client reg)
answer world client (Copy to reg) = answer_copy world client to (held world client reg)
answer world client (IdOf reg) = answer_id world (held world client reg)
answer world client (Forget reg) = answer_drop world client reg (held world client reg)
answer world client (Bind name reg) = answer_root world name (held world client reg)
answer world client (Unbind name) = answer_unroot world name (get world.roots name)
answer world client (Find to name) = answer_find world client to (get world.roots name)
answer world client Save = answer_save world world.saving
answer world client Settle = answer_settle world world.saving
answer world client Watch = answer_watch world
answer world client Close = (Done, closing world client)
answer world client (Swap reg index old value) = answer_swap world index (held world client reg) (held world client old) (held world client value)
answer world client Unsave = answer_unsave world world.saving

-- the command is `swap`
abbrev pub is_swap : Cmd → Bool
is_swap (Swap reg index old value) = true
is_swap cmd = false

-- the replies that refuse a command; null refuses `swap` alone
abbrev pub is_refusal : Cmd → Reply → Bool
is_refusal cmd Done = false
is_refusal cmd (Ident id) = false
is_refusal cmd Null = is_swap cmd
is_refusal cmd (Shown bytes) = false
is_refusal cmd (Begun number) = false
is_refusal cmd (Saved number) = false
is_refusal cmd (Watching number) = false
is_refusal cmd TooLarge = true
is_refusal cmd IdsSpent = true
is_refusal cmd NoHandle = true
is_refusal cmd NoField = true
is_refusal cmd OutOfRange = true
is_refusal cmd TooManyRoots = true
is_refusal cmd NoRoot = true
is_refusal cmd (Busy number) = true
is_refusal cmd SavesSpent = true
is_refusal cmd Idle = true
is_refusal cmd TooManyWatches = true
is_refusal cmd (Dropped number) = false
is_refusal cmd (Held id) = true
