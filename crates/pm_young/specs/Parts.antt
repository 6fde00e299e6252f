-- What a command does to the space, to the nursery, and to the identities that entered. What a world has is a premise
-- here, since nobody knows every world within.
use Rattle.std.specs.Prelude.{◌≡◌, ◌⊎◌, ◌↔◌, ℕ, ◌+◌, ◌<◌, ◌≤◌, true, false, List, [], ◌++◌, length, slice_get, Option, Some, None, IsSome, is_some}
use Rattle.std.specs.FinMap.{get}
use Rattle.pm_types.specs.Replies.{IsShortReply}
use Rattle.pm_types.specs.declared.command.Cmd.{Cmd}
use Rattle.pm_types.specs.declared.command.Cmd.TheVariants.{Store, Swap}
use Rattle.pm_types.specs.declared.reply.Reply.{Reply}
use Rattle.pm_types.specs.declared.reply.Reply.TheVariants.{Done}
use Rattle.pm_disk.specs.declared.disk.Disk.{Ghosts}
use Rattle.pm_model.specs.Heap.{Object, with_field}
use Rattle.pm_model.specs.World.{World, changing, emptying, held}
use Rattle.pm_model.specs.Answer.{answer, is_refusal}
use Rattle.pm_view.specs.View.{SpaceView}
use Rattle.pm_view.specs.Represents.{Represents}
use Rattle.pm_view.specs.Objects.{KeepsObjects}
use Rattle.pm_nursery.specs.Young.{NurseryView, IsYoung}
use Rattle.pm_nursery.specs.Escaping.{AreEscaping, Escapes, IsAscending, young_then}
use Rattle.pm_nursery.specs.Answering.{reads_register}
use Rattle.pm_nursery.specs.Joined.{IsJoined}
use Rattle.pm_nursery.specs.Moving.{young_changing, young_holding}
use Rattle.pm_nursery.specs.Sweeping.{among, AreYoung}
use Rattle.pm_engine.specs.declared.works.works.Works.{Works}
use Rattle.pm_engine.specs.Works.Working.{Adds, AddsNothing, frozen_in, place_in, saving_in, view_in}
use Rattle.pm_young.specs.Entering.{IsPresent}

-- these are the first ones, ascending, of what escapes at the command
pub record AreFirstEscaping (world : World) (nursery : NurseryView) (client : ℕ) (cmd : Cmd) (ids : List ℕ) : Type 0 where
  pub ascending : IsAscending ids
  pub each : (id : ℕ) → among ids id ≡ true → Escapes world nursery client cmd id
  pub before : (id other : ℕ) → among ids other ≡ true → id < other → Escapes world nursery client cmd id
      → among ids id ≡ true

-- Objects of these young identities, ascending, came into cars, and no others; what was in one stays. No identity was
-- taken back.
pub record ComesYoung (view after : SpaceView) (nursery : NurseryView) (ids : List ℕ) : Type 0 where
  pub ascending : IsAscending ids
  pub young : AreYoung nursery ids
  pub here : (id : ℕ) → among ids id ≡ true → IsPresent after id
  pub only : (id : ℕ) → IsPresent after id → IsPresent view id ⊎ (among ids id ≡ true)
  pub stays : (id : ℕ) → IsPresent view id → IsPresent after id
  pub next : view.next ≤ after.next

-- the identity was young and did not enter, or was given just now
abbrev pub StaysOrIsBorn : SpaceView → SpaceView → NurseryView → List ℕ → ℕ → Type 0
StaysOrIsBorn view after nursery ids id =
    (IsSome (get nursery.objects id) × (among ids id ≡ false)) ⊎ ((view.next ≤ id) × (id < after.next))

-- a world within and the nursery stand for this world, whose next identity no object has
pub record StandsFor (view : SpaceView) (nursery : NurseryView) (within world : World) : Type 0 where
  pub represents : Represents view within
  pub young : IsYoung within nursery world
  pub fresh : get world.heap world.next ≡ None

-- The reply is the world's, and what escapes is what may; a world within and the nursery stand for the next world, and
-- what was within is so.
pub record AnswersWorld (client : ℕ) (cmd : Cmd) (reply : Reply) (after : SpaceView) (old new : NurseryView)
    (ids : List ℕ) (within world : World) : Type 0 where
  pub reply_is : reply ≡ (answer world client cmd).0
  pub later : World
  pub represents : Represents after later
  pub is_young : IsYoung later new (answer world client cmd).1
  pub stays : (id : ℕ) → IsSome (get within.heap id) → IsSome (get later.heap id)
  pub escaping : AreEscaping world old client cmd ids
  pub then_young : (id : ℕ) → is_some (get new.objects id) ≡ young_then world old client cmd ids id

-- A command was answered: what escapes at it came into cars, and of each world for which space and nursery stand the
-- answer is its own.
pub record AnswersWith (client : ℕ) (cmd : Cmd) (view after : SpaceView) (old new : NurseryView) (ids : List ℕ)
    (reply : Reply) : Type 0 where
  pub short : IsShortReply reply
  pub comes : ComesYoung view after old ids
  pub young : (id : ℕ) → IsSome (get new.objects id) → StaysOrIsBorn view after old ids id
  pub worlds : (within world : World) → StandsFor view old within world
      → AnswersWorld client cmd reply after old new ids within world

-- memory ran out in it: a first part of what would have escaped came into cars
pub record LosesWith (client : ℕ) (cmd : Cmd) (view after : SpaceView) (old : NurseryView) (ids : List ℕ) : Type 0 where
  pub comes : ComesYoung view after old ids
  pub first : (within world : World) → StandsFor view old within world
      → AreFirstEscaping world old client cmd ids

-- a command was answered, and what escaped entered
pub record AnswersSpace (client : ℕ) (cmd : Cmd) (view after : SpaceView) (old new : NurseryView)
    (before later : List ℕ) (reply : Reply) : Type 0 where
  pub ids : List ℕ
  pub entered : later ≡ before ++ ids
  pub answers : AnswersWith client cmd view after old new ids reply

-- memory ran out, and what had escaped entered
pub record LosesSpace (client : ℕ) (cmd : Cmd) (view after : SpaceView) (old : NurseryView) (before later : List ℕ)
    : Type 0 where
  pub ids : List ℕ
  pub entered : later ≡ before ++ ids
  pub loses : LosesWith client cmd view after old ids

-- a command was answered, and nothing escaped
abbrev pub AnswersStill : ℕ → Cmd → SpaceView → SpaceView → NurseryView → NurseryView → Reply → Type 0
AnswersStill client cmd view after old new reply = AnswersWith client cmd view after old new [] reply

-- memory ran out, and nothing had escaped
abbrev pub LosesStill : ℕ → Cmd → SpaceView → SpaceView → NurseryView → Type 0
LosesStill client cmd view after old = LosesWith client cmd view after old []

-- the space stands for a world within, with the nursery, for some world
abbrev pub StandsForSome : SpaceView → NurseryView → Type 0
StandsForSome view nursery = (within : World) × (world : World) × StandsFor view nursery within world

-- ---- escapes

-- each register that the command reads holds no young object, or this one
abbrev pub ReadsNoneBut : NurseryView → ℕ → Cmd → ℕ → Type 0
ReadsNoneBut nursery client cmd id =
    (register : ℕ) → reads_register cmd register ≡ true
    → (get nursery.registers (client, register) ≡ None) ⊎ (get nursery.registers (client, register) ≡ Some id)

-- What escapes at the command is what is joined to this object, in each world for which they stand.
abbrev pub LetsJoinedEscape : SpaceView → NurseryView → ℕ → Cmd → ℕ → Type 0
LetsJoinedEscape view nursery client cmd id =
    (within world : World) → StandsFor view nursery within world → (other : ℕ)
    → Escapes world nursery client cmd other ↔ IsJoined nursery.objects id other

-- a `swap` finds in the field what its register for the old object holds
abbrev pub FindsOld : Cmd → World → ℕ → Object → Type 0
FindsOld (Swap reg index old value) world client known =
    (found : ℕ) × (held world client old ≡ Some found) × (slice_get known.fields index ≡ Some (Some found))
FindsOld cmd world client known = Unit {0}

-- The command sets a field of the object that one register holds to what the other holds, and is done.
pub record IsAccepted (world : World) (client : ℕ) (cmd : Cmd) (reg index value : ℕ) : Type 0 where
  pub object : ℕ
  pub other : ℕ
  pub known : Object
  pub held_object : held world client reg ≡ Some object
  pub held_other : held world client value ≡ Some other
  pub there : get world.heap object ≡ Some known
  pub field : index < length known.fields
  pub swapped : FindsOld cmd world client known
  pub answer_is : answer world client cmd ≡ (Done, changing world object (with_field known index (Some other)))

-- it is so in each world for which they stand
abbrev pub IsAcceptedIn : SpaceView → NurseryView → ℕ → Cmd → ℕ → ℕ → ℕ → Type 0
IsAcceptedIn view nursery client cmd reg index value =
    (within world : World) → StandsFor view nursery within world → IsAccepted world client cmd reg index value

-- each world for which the space stands has the field set too
abbrev pub StoresToo : SpaceView → ℕ → ℕ → ℕ → ℕ → SpaceView → Type 0
StoresToo view client reg index value after =
    (within : World) → Represents view within → Represents after (answer within client (Store reg index value)).1

-- ---- births

-- An object was born young, under the next identity, and the register holds it: it holds nothing in the space any more.
pub record IsBornYoung (client reg : ℕ) (object : Object) (view after : SpaceView) (old new : NurseryView) : Type 0 where
  pub nursery : new ≡ young_holding (young_changing old view.next object) client reg view.next
  pub objects : KeepsObjects view after
  pub next : after.next ≡ view.next + 1
  pub worlds : (within : World) → Represents view within
      → Represents after (record (emptying within client reg) { next = within.next + 1 })

-- objects stay, and no identity is taken back
pub record KeepsCars (view after : SpaceView) : Type 0 where
  pub objects : KeepsObjects view after
  pub next : view.next ≤ after.next

-- ---- refusals

-- the command is refused with this reply in each world for which they stand
pub record IsRefusedIn (view : SpaceView) (nursery : NurseryView) (client : ℕ) (cmd : Cmd) (reply : Reply) : Type 0 where
  pub refusal : is_refusal cmd reply ≡ true
  pub answer_is : (within world : World) → StandsFor view nursery within world → answer world client cmd ≡ (reply, world)

-- it is refused so, or accepted
abbrev pub IsJudgedIn : SpaceView → NurseryView → ℕ → Cmd → ℕ → ℕ → ℕ → Option Reply → Type 0
IsJudgedIn view nursery client cmd reg index value None = IsAcceptedIn view nursery client cmd reg index value
IsJudgedIn view nursery client cmd reg index value (Some reply) = IsRefusedIn view nursery client cmd reply

module _ {D : Type 0} {F : Type 0} {g : Ghosts D} where
  -- A command was answered: its entry is at the journal's end.
  pub record AnswersParts (client : ℕ) (cmd : Cmd) (old new : Works D F g) (was now : NurseryView)
      (before later : List ℕ) (reply : Reply) : Type 0 where
    pub adds : Adds client cmd reply old new
    pub space : AnswersSpace client cmd (view_in old) (view_in new) was now before later reply

  -- memory ran out: no entry was added
  pub record LosesParts (client : ℕ) (cmd : Cmd) (old new : Works D F g) (was : NurseryView) (before later : List ℕ)
      : Type 0 where
    pub nothing : AddsNothing old new
    pub space : LosesSpace client cmd (view_in old) (view_in new) was before later

  -- copies, pages and chooser stay
  pub record KeepsStored (old new : Works D F g) : Type 0 where
    pub frozen : frozen_in new ≡ frozen_in old
    pub saver : new.saver ≡ old.saver
    pub pages : new.pages ≡ old.pages
    pub place : place_in new ≡ place_in old
