-- The ships to one standby, one after another.
use Rattle.std.specs.Prelude.{◌≡◌, ◌⊎◌, ℕ, false, List, [], ◌∷◌, Contains, Some}
use Rattle.pm_disk.specs.Disk.{LeavesOnly}
use Rattle.pm_disk.specs.declared.disk.Disk.{Ghosts}
use Rattle.pm_model.specs.World.{Copy, empty_copy}
use Rattle.pm_image.specs.Blank.{blank_store}
use Rattle.pm_image.specs.Stands.{StandsForCopy}
use Rattle.pm_shadow.specs.Pages.{disk_of, state}
use Rattle.pm_shadow.specs.declared.pages.Pages.{Pages}
use Rattle.pm_saving.specs.Tied.{HasCopy}
use Rattle.pm_save.specs.Progress.Answers.{TellsOn}
use Rattle.pm_ship.specs.declared.disks.ShipEnd.{ShipEnd}
use Rattle.pm_ship.specs.Disks.{ShipsDisks}
use Rattle.pm_ship.specs.Shipped.{LeavesEither}

-- copies that a store has settled, each under its number
abbrev pub Chain : Type 0
Chain = List (ℕ × Copy)

-- the image stands for copy 0 of nothing, or for one of these
abbrev pub StandsForOne : Chain → List ℕ → Type 0
StandsForOne chain image =
    StandsForCopy image 0 empty_copy ⊎ ((number : ℕ) × (copy : Copy) × Contains chain (number, copy) × StandsForCopy image number copy)

-- what was settled was settled before
abbrev pub Grows : Chain → Chain → Type 0
Grows before after = (number : ℕ) (copy : Copy) → Contains before (number, copy) → Contains after (number, copy)

module _ {E : Type 0} (e : Ghosts E) where
  -- The disk holds a new store, as it was made, and a crash leaves nothing else.
  pub record IsJustMade (disk : E) : Type 0 where
    pub blank : e.contents disk ≡ Some blank_store
    pub only : (image : List ℕ) → e.image disk image → image ≡ blank_store

  -- Between two calls the disk is only looked at, as attaching it does.
  pub record IsLookedAt (before after : E) : Type 0 where
    pub told : e.contents after ≡ e.contents before
    pub leaves : LeavesOnly e.moment e.since before after (e.image before)

module _ {D E : Type 0} (d : Ghosts D) (e : Ghosts E) where
  -- One ship: the pages of the first store, those of the standby before and after it, and the copies that the first store
  -- had settled by then.
  pub record Call : Type 0 where
    pub from : Pages D d
    pub before : Pages E e
    pub after : Pages E e
    pub chain : Chain

  -- The pages of the first store stand for one of its copies. Those of the standby have a copy, and no publish of them
  -- failed.
  pub record IsCalled (call : Call) : Type 0 where
    pub bytes : List ℕ
    pub told : d.contents (disk_of call.from) ≡ Some bytes
    pub copy : Copy
    pub stands : StandsForCopy bytes (state call.from).header.epoch copy
    pub settled : Contains call.chain ((state call.from).header.epoch, copy)
    pub mine : Copy
    pub has : (was : List ℕ) → e.contents (disk_of call.before) ≡ Some was → HasCopy (state call.before) was mine
    pub sound : (state call.before).failed ≡ false

  -- what `ship` says of it, whatever it answered
  pub record IsShip (call : Call) : Type 0 where
    pub images : LeavesEither call.from call.before call.after
    pub told : TellsOn (e.contents (disk_of call.before)) (e.contents (disk_of call.after))

  -- From this disk on, while the first store had settled these copies, these ships came one after another, up to that disk.
  abbrev pub AreShips : E → Chain → List Call → E → Type 0
  AreShips start chain [] end = IsLookedAt e start end
  AreShips start chain (call ∷ calls) end =
      IsLookedAt e start (disk_of call.before) × Grows chain call.chain × IsCalled call × IsShip call
      × AreShips (disk_of call.after) call.chain calls end

  -- the copies that the first store had settled by the last of them
  abbrev pub settled_by : Chain → List Call → Chain
  settled_by chain [] = chain
  settled_by chain (call ∷ calls) = settled_by call.chain calls

  -- ---- whole commands

  -- One command: the disks of the first store and of the standby before it, what it left of them, and the copies that the
  -- first store had settled by then.
  pub record Command : Type 0 where
    pub disk : D
    pub other : E
    pub end : ShipEnd D E
    pub chain : Chain

  -- The first disk told its contents. Where they stand for a copy, it is one that the first store had settled.
  pub record IsCommand (command : Command) : Type 0 where
    pub bytes : List ℕ
    pub told : d.contents command.disk ≡ Some bytes
    pub settled : (number : ℕ) (copy : Copy) → StandsForCopy bytes number copy → Contains command.chain (number, copy)
    pub ships : ShipsDisks d e command.disk command.other command.end

  -- From this disk on, while the first store had settled these copies, these commands came one after another, up to that
  -- disk.
  abbrev pub AreCommands : E → Chain → List Command → E → Type 0
  AreCommands start chain [] end = IsLookedAt e start end
  AreCommands start chain (command ∷ commands) end =
      IsLookedAt e start command.other × Grows chain command.chain × IsCommand command
      × AreCommands command.end.other command.chain commands end

  -- the copies that the first store had settled by the last of them
  abbrev pub settled_at_last : Chain → List Command → Chain
  settled_at_last chain [] = chain
  settled_at_last chain (command ∷ commands) = settled_at_last command.chain commands
