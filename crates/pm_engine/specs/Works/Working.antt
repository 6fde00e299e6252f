-- What calls do to what an engine works with.
use Rattle.std.specs.Prelude.{◌≡◌, ◌⊎◌, ℕ, ◌+◌, ◌-◌, ◌<◌, ◌≤◌, ◌^◌, Bool, true, IsSome, IfErr, OnErr, Result, List, [], ◌∷◌, ◌++◌, length, Option, Some, None, vec_len, vec_capacity}
use Rattle.pm_types.specs.Replies.{IsShortReply}
use Rattle.pm_types.specs.declared.limits.TheConstants.{LAST_COPY, WATCHES}
use Rattle.pm_types.specs.declared.command.Cmd.{Cmd}
use Rattle.pm_types.specs.declared.command.Cmd.TheVariants as cmds
use Rattle.pm_types.specs.declared.command.Cmd.TheVariants.{Save, Settle, Unsave}
use Rattle.pm_types.specs.declared.entry.Entry.{Entry}
use Rattle.pm_types.specs.declared.event.Flushed.{Flushed}
use Rattle.pm_types.specs.declared.event.Watch.{Watch}
use Rattle.pm_types.specs.declared.reply.Reply.{Reply}
use Rattle.pm_types.specs.declared.reply.Reply.TheVariants.{Begun, Busy, Dropped, Idle, Saved, SavesSpent, TooManyWatches, Watching}
use Rattle.pm_disk.specs.declared.disk.Disk.{Ghosts}
use Rattle.pm_disk.specs.Made.{MadeMore}
use Rattle.pm_shadow.specs.State.{State, abandoned_in}
use Rattle.pm_shadow.specs.Pages.{state, disk_of}
use Rattle.pm_view.specs.View.{Cars, SpaceView}
use Rattle.pm_view.specs.Watches.{watch_in}
use Rattle.pm_view.specs.Work.{work}
use Rattle.pm_view.specs.Bounded.{KeepsWatches}
use Rattle.pm_space.specs.Shown.{view}
use Rattle.pm_copies.specs.Listed.{copy_in}
use Rattle.pm_saving.specs.Progress.{Progress, Saving, cars_or_none, copy_of}
use Rattle.pm_saving.specs.Paging.{left_of}
use Rattle.pm_saving.specs.Tied.{IsTied, Settles}
use Rattle.pm_save.specs.Shown.{frozen_of, saving}
use Rattle.pm_save.specs.Progress.Answers.{IsFlushed, KeepsCopy, OnMemory, Spares}
use Rattle.pm_save.specs.declared.progress.fault.SaveFault.{SaveFault}
use Rattle.pm_save.specs.declared.progress.fault.SaveFault.TheVariants.{Disk, Memory}
use Rattle.pm_save.specs.Writer.Settling.{SparesEither, StandsThen, settling_syncs, settling_writes}
use Rattle.pm_saving.specs.Events.{StaysBegun}
use Rattle.pm_saving.specs.Serving.{Before}
use Rattle.pm_mutate.specs.Acts as mutate
use Rattle.pm_law_collect.specs.Work.Raises.{raises}
use Rattle.pm_engine.specs.Works.Acting.{DoesItsRow}
use Rattle.pm_engine.specs.Works.Course.{told_before}
use Rattle.pm_engine.specs.Works.Told.{told_of}
use Rattle.pm_engine.specs.declared.works.works.Works.{Works}
use Rattle.pm_types.specs.Counts.{raised}

module _ {D : Type 0} {F : Type 0} {g : Ghosts D} where
  -- what is seen of the space, its cars as they were frozen, the saver, the pages and the disk
  abbrev pub view_in : Works D F g → SpaceView
  view_in it = view it.space.parts

  abbrev pub frozen_in : Works D F g → Option Cars
  frozen_in it = frozen_of it.space.parts

  abbrev pub saving_in : Works D F g → Saving
  saving_in it = saving it.saver

  abbrev pub state_in : Works D F g → State
  state_in it = state it.pages

  abbrev pub disk_at : Works D F g → D
  disk_at it = disk_of it.pages

  abbrev pub contents_in : Works D F g → Option (List ℕ)
  contents_in it = g.contents (disk_of it.pages)

  -- the chooser
  abbrev pub place_in : Works D F g → F
  place_in it = it.space.parts.place

  -- the watches that are set
  abbrev pub watches_in : Works D F g → List Watch
  watches_in it = it.watches.items

  -- the entries that were let go, and the whole journal: these, and behind them those that are kept
  abbrev pub past_in : Works D F g → List Entry
  past_in it = told_of it.past.entries

  abbrev pub journal_in : Works D F g → List Entry
  journal_in it = past_in it ++ it.journal.items

  -- what had been made before each entry of the journal
  abbrev pub course_in : Works D F g → List Before
  course_in it = told_before it.course

  -- what was made until now
  abbrev pub made_in : Works D F g → Before
  made_in it = record { steps = it.steps; events = it.events }

  -- so many entries more take no memory
  abbrev pub room_in : Works D F g → ℕ
  room_in it = vec_capacity it.journal - vec_len it.journal

  -- The entry of a command is the last of those that are kept, and none was let go; what had been made before it is at the
  -- end of the course; one event more was made, which is none of the collector. The watches stay, and there is room for one
  -- entry less.
  pub record Adds (client : ℕ) (cmd : Cmd) (reply : Reply) (old new : Works D F g) : Type 0 where
    pub past : new.past ≡ old.past
    pub journal : new.journal.items ≡ old.journal.items ++ record { client = client; cmd = cmd; reply = reply } ∷ []
    pub course : course_in new ≡ course_in old ++ made_in old ∷ []
    pub watches : watches_in new ≡ watches_in old
    pub events : new.events ≡ raised old.events
    pub steps : new.steps ≡ old.steps
    pub room : room_in old ≤ room_in new + 1

  -- space, saver and pages stay
  pub record KeepsStore (old new : Works D F g) : Type 0 where
    pub space : new.space ≡ old.space
    pub saver : new.saver ≡ old.saver
    pub pages : new.pages ≡ old.pages

  -- what is seen of the space stays, and so do the copies
  pub record Keeps (old new : Works D F g) : Type 0 where
    pub view : view_in new ≡ view_in old
    pub frozen : frozen_in new ≡ frozen_in old
    pub saving : saving_in new ≡ saving_in old

  -- the journal stays, and so do its course and the watches, no event was made, and there is room for as many entries
  pub record AddsNothing (old new : Works D F g) : Type 0 where
    pub past : new.past ≡ old.past
    pub journal : new.journal.items ≡ old.journal.items
    pub course : course_in new ≡ course_in old
    pub watches : watches_in new ≡ watches_in old
    pub events : new.events ≡ old.events
    pub steps : new.steps ≡ old.steps
    pub room : room_in old ≤ room_in new

  -- All entries that are kept were let go, where the journal has at most 2^63, and else none. The journal stays, and so does
  -- all else, and there is room for as many more.
  pub record Forgets (old new : Works D F g) : Type 0 where
    pub journal : journal_in new ≡ journal_in old
    pub course : new.course ≡ old.course
    pub watches : new.watches ≡ old.watches
    pub events : new.events ≡ old.events
    pub steps : new.steps ≡ old.steps
    pub store : KeepsStore old new
    pub kept : length (journal_in old) ≤ 2 ^ 63 → new.journal.items ≡ []
    pub beyond : 2 ^ 63 < length (journal_in old) → new.journal.items ≡ old.journal.items
    pub room : room_in new + length new.journal.items ≡ room_in old + length old.journal.items

  -- all of it stays
  pub record IsLeft (old new : Works D F g) : Type 0 where
    pub keeps : Keeps old new
    pub nothing : AddsNothing old new

  -- all of it stays, and so do the pages and what the disk holds
  pub record IsAsItWas (old new : Works D F g) : Type 0 where
    pub left : IsLeft old new
    pub state : state_in new ≡ state_in old
    pub contents : contents_in new ≡ contents_in old

  -- A command on the space: the entry is at the journal's end, the reply and the space after it are those of its row, and
  -- of every world that the space stands for, and the copies stay. A reply shows at most an object's bytes. Each watch
  -- keeps its bound.
  pub record Acts (client : ℕ) (cmd : Cmd) (old new : Works D F g) (reply : Reply) : Type 0 where
    pub adds : Adds client cmd reply old new
    pub served : mutate.Serves (view_in old) client cmd reply (view_in new)
    pub frozen : frozen_in new ≡ frozen_in old
    pub saving : saving_in new ≡ saving_in old
    pub short : IsShortReply reply
    pub work : work (view_in new) ≤ work (view_in old) + raises cmd
    pub row : DoesItsRow client cmd (view_in old) (view_in new) reply
    pub bound : KeepsWatches (view_in old) (view_in new)

  -- ---- copies

  -- A copy is in progress already.
  pub record IsBusy (client : ℕ) (old new : Works D F g) (number : ℕ) : Type 0 where
    pub adds : Adds client Save (Busy number) old new
    pub keeps : Keeps old new
    pub begun : Progress
    pub is_begun : (saving_in old).progress ≡ Some begun
    pub number_is : number ≡ begun.number

  -- The numbers of copies are spent.
  pub record IsSpent (client : ℕ) (old new : Works D F g) : Type 0 where
    pub adds : Adds client Save SavesSpent old new
    pub keeps : Keeps old new
    pub none : (saving_in old).progress ≡ None
    pub last : (state_in old).header.epoch ≡ LAST_COPY

  -- The copy in the space at this moment is in progress, under the number after that of the current one.
  pub record BeginsCopy (client : ℕ) (old new : Works D F g) (number : ℕ) : Type 0 where
    pub adds : Adds client Save (Begun number) old new
    pub view : view_in new ≡ view_in old
    pub none : (saving_in old).progress ≡ None
    pub below : (state_in old).header.epoch < LAST_COPY
    pub begun : Progress
    pub is_begun : (saving_in new).progress ≡ Some begun
    pub number_is : number ≡ begun.number
    pub next : begun.number ≡ (state_in old).header.epoch + 1
    pub copy : copy_of (cars_or_none (frozen_in new)) begun ≡ copy_in (view_in old)

  -- No copy is in progress.
  pub record IsIdle (client : ℕ) (cmd : Cmd) (old new : Works D F g) : Type 0 where
    pub adds : Adds client cmd Idle old new
    pub keeps : Keeps old new
    pub none : (saving_in old).progress ≡ None
    pub pages : new.pages ≡ old.pages

  -- The copy in progress is given up.
  pub record DropsCopy (client : ℕ) (old new : Works D F g) (number : ℕ) : Type 0 where
    pub adds : Adds client Unsave (Dropped number) old new
    pub view : view_in new ≡ view_in old
    pub begun : Progress
    pub is_begun : (saving_in old).progress ≡ Some begun
    pub number_is : number ≡ begun.number
    pub none : (saving_in new).progress ≡ None
    pub pages : state_in new ≡ abandoned_in (state_in old)
    pub disk : disk_at new ≡ disk_at old

  -- The copy in progress is the settled one, each image stands for it, and so many writes and syncs were made.
  pub record SettlesCopy (client : ℕ) (old new : Works D F g) (number : ℕ) : Type 0 where
    pub adds : Adds client Settle (Saved number) old new
    pub view : view_in new ≡ view_in old
    pub settles : Settles (saving_in old) (saving_in new) (cars_or_none (frozen_in old)) (state_in old) (state_in new) (contents_in old) (contents_in new) number
    pub now : StandsThen g.contents g.image (saving_in old).progress (cars_or_none (frozen_in old)) (state_in new) (disk_at old) (disk_at new) number
    pub made : MadeMore (settling_writes (saving_in old) (state_in old)) (settling_syncs (state_in old)) 0 (g.made (disk_at old)) (g.made (disk_at new))

  -- ---- watches

  -- As many watches are set as may be.
  pub record IsFull (client : ℕ) (old new : Works D F g) : Type 0 where
    pub adds : Adds client cmds.Watch TooManyWatches old new
    pub keeps : Keeps old new
    pub full : length (watches_in old) ≡ WATCHES

  -- One more watch is set, with what is to be noted of the space and the whole journal as they were.
  pub record SetsWatch (client : ℕ) (old new : Works D F g) (number : ℕ) : Type 0 where
    pub past : new.past ≡ old.past
    pub journal : new.journal.items ≡ old.journal.items ++ record { client = client; cmd = cmds.Watch; reply = Watching number } ∷ []
    pub course : course_in new ≡ course_in old ++ made_in old ∷ []
    pub watches : watches_in new ≡ watches_in old ++ watch_in (view_in old) (length (journal_in old)) ∷ []
    pub events : new.events ≡ raised old.events
    pub steps : new.steps ≡ old.steps
    pub room : room_in old ≤ room_in new + 1
    pub keeps : Keeps old new
    pub number_is : number ≡ length (watches_in old) + 1
    pub few : length (watches_in old) < WATCHES

  abbrev pub Watches : ℕ → Works D F g → Works D F g → Reply → Type 0
  Watches client old new TooManyWatches = IsFull client old new
  Watches client old new (Watching number) = SetsWatch client old new number
  Watches client old new reply = ⊥

  abbrev pub Saves : ℕ → Works D F g → Works D F g → Reply → Type 0
  Saves client old new (Busy number) = IsBusy client old new number
  Saves client old new SavesSpent = IsSpent client old new
  Saves client old new (Begun number) = BeginsCopy client old new number
  Saves client old new reply = ⊥

  abbrev pub Unsaves : ℕ → Works D F g → Works D F g → Reply → Type 0
  Unsaves client old new Idle = IsIdle client Unsave old new
  Unsaves client old new (Dropped number) = DropsCopy client old new number
  Unsaves client old new reply = ⊥

  abbrev pub SettlesIt : ℕ → Works D F g → Works D F g → Reply → Type 0
  SettlesIt client old new Idle = IsIdle client Settle old new
  SettlesIt client old new (Saved number) = SettlesCopy client old new number
  SettlesIt client old new reply = ⊥

  -- what a command does, once it is answered
  abbrev pub Answers : ℕ → Cmd → Works D F g → Works D F g → Reply → Type 0
  Answers client Save old new reply = Saves client old new reply
  Answers client Settle old new reply = SettlesIt client old new reply
  Answers client Unsave old new reply = Unsaves client old new reply
  Answers client cmds.Watch old new reply = Watches client old new reply
  Answers client cmd old new reply = Acts client cmd old new reply

  -- ---- what holds between calls, and what is left of it

  abbrev pub IsTiedIn : Works D F g → Type 0
  IsTiedIn it = IsTied (saving_in it) (frozen_in it) (state_in it) (contents_in it)

  -- the current copy stands where it stood
  pub record LastsIn (old new : Works D F g) : Type 0 where
    pub header : (state_in new).header ≡ (state_in old).header
    pub has : KeepsCopy (state_in old) (state_in new) (contents_in old) (contents_in new)

  -- no call of the disk was made, and the current copy stands where it stood
  pub record StaysStill (old new : Works D F g) : Type 0 where
    pub disk : disk_at new ≡ disk_at old
    pub lasts : LastsIn old new

  -- Nothing was answered: the space stays, and so do the copies, but that more pages of the one in progress may have been
  -- written.
  pub record Rests (old new : Works D F g) : Type 0 where
    pub nothing : AddsNothing old new
    pub view : view_in new ≡ view_in old
    pub frozen : frozen_in new ≡ frozen_in old
    pub settled : (saving_in new).settled ≡ (saving_in old).settled
    pub progress : StaysBegun (saving_in old).progress (saving_in new).progress

  -- Memory ran out: the current copy stands where it stood, also at each moment of the call.
  pub record LastsSo (old new : Works D F g) : Type 0 where
    pub tied : IsTiedIn new
    pub lasts : LastsIn old new
    pub spares : Spares g.contents g.moment g.since (state_in old) (disk_at old) (disk_at new)

  -- A crash at any moment of the call leaves the current copy or the one in progress; where none is, no call of the disk was
  -- made.
  pub record LeavesEither (old new : Works D F g) : Type 0 where
    pub either : SparesEither g.contents g.moment g.since (saving_in old).progress (cars_or_none (frozen_in old)) (state_in old) (disk_at old) (disk_at new)
    pub none : (saving_in old).progress ≡ None → disk_at new ≡ disk_at old

  -- the disk fails in `settle` alone, and while a copy is in progress
  abbrev pub IsFaultFor : Bool → Works D F g → SaveFault → Type 0
  IsFaultFor settles old Disk = (settles ≡ true) × IsSome (saving_in old).progress
  IsFaultFor settles old (Memory _) = Unit {0}

  -- The next page of the copy in progress was written, or none was left; one event more was made.
  pub record FlushesOn (old new : Works D F g) (answer : Flushed) : Type 0 where
    pub past : new.past ≡ old.past
    pub journal : new.journal.items ≡ old.journal.items
    pub course : course_in new ≡ course_in old
    pub watches : watches_in new ≡ watches_in old
    pub events : new.events ≡ raised old.events
    pub steps : new.steps ≡ old.steps
    pub space : new.space ≡ old.space
    pub flushed : IsFlushed (saving_in old) (saving_in new) (cars_or_none (frozen_in old)) (state_in old) (state_in new) (contents_in old) (contents_in new) answer

  -- some of the copy in progress was left to be written, and is, or there was no room for an entry
  abbrev pub IsShort : Works D F g → Works D F g → Type 0
  IsShort old new = ((0 < left_of (saving_in old).progress) × (0 < left_of (saving_in new).progress)) ⊎ (room_in old ≡ 0)

  -- Nothing was answered: why, and what is left then.
  pub record FailsSo {T : Type 0} (settles : Bool) (old new : Works D F g) (result : Result T SaveFault) : Type 0 where
    pub rests : OnErr result (Rests old new)
    pub memory : OnMemory result (LastsSo old new)
    pub fault : IfErr result (IsFaultFor settles old)

  -- What `settle` may leave, whatever it answers: at each moment of the call the current copy or the one in progress; and
  -- memory runs out only where something of that copy was left to be written, and is, or no entry had room.
  pub record MayLeave {T : Type 0} (old new : Works D F g) (result : Result T SaveFault) : Type 0 where
    pub leaves : LeavesEither old new
    pub short : OnMemory result (IsShort old new)

  -- What every other command leaves, whatever it answers: no call of the disk was made, and after a fault all is as it was.
  pub record LeavesDisk {T : Type 0} (old new : Works D F g) (result : Result T SaveFault) : Type 0 where
    pub still : StaysStill old new
    pub left : OnErr result (IsLeft old new)

  -- An event of the collector was made: all but the space stays, and of that the frozen cars and the chooser.
  pub record CollectsOn (old new : Works D F g) : Type 0 where
    pub pages : new.pages ≡ old.pages
    pub saver : new.saver ≡ old.saver
    pub frozen : frozen_in new ≡ frozen_in old
    pub past : new.past ≡ old.past
    pub journal : new.journal.items ≡ old.journal.items
    pub course : course_in new ≡ course_in old
    pub watches : watches_in new ≡ watches_in old
    pub events : new.events ≡ raised old.events
    pub steps : new.steps ≡ raised old.steps
