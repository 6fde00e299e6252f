-- A logbook in turn: what a pass has of it, and what it gives back.
use Rattle.std.specs.Prelude.{◌≡◌, ℕ, ◌<◌, ◌^◌, [], ◌∷◌, length, Some, Option as Opt, Result, Ok, Err}
use Rattle.atomic_table.specs.Table.{Me}
use Rattle.pm_types.specs.declared.command.Cmd.{Cmd}
use Rattle.pm_types.specs.declared.entry.Entry.{Entry}
use Rattle.pm_types.specs.declared.fault.EngineFault.{EngineFault}
use Rattle.pm_types.specs.declared.fault.EngineFault.TheVariants.{Memory, Disk, Reopen}
use Rattle.pm_disk.specs.declared.disk.Disk.{Ghosts}
use Rattle.pm_model.specs.Journal.{IsLegal}
use Rattle.pm_saving.specs.Serving.{opening}
use Rattle.pm_engine.specs.declared.engine.Engine.{Engine}
use Rattle.pm_engine.specs.Shown.{disk_in, serving}
use Rattle.pm_passes.specs.declared.view.Numbers.{Numbers}
use Rattle.pm_passes.specs.declared.view.View.{View}
use Rattle.pm_passes.specs.Numbering.{NotLess}
use Rattle.pm_passes.specs.Views.{entered, given, given_telling}
use Rattle.pm_seats.specs.declared.events.Seen.{Seen}
use Rattle.pm_seats.specs.declared.fault.SeatFault.{SeatFault}
use Rattle.pm_seats.specs.declared.fault.SeatFault.TheVariants.{Engine as Answered, Spent}
use Rattle.pm_seats.specs.declared.logbook.Logbook.{Logbook}
use Rattle.pm_seats.specs.Kept.{StopsNow}
use Rattle.pm_seats.specs.Shown.{first_in, log_in, next_in, numbers_in, engine_in}
use Rattle.pm_seats.specs.Events.{StaysTied}
use Rattle.pm_seats.specs.Sharing.{entries_of, entry_of}

-- a pass that gave the value back after this fault of the engine, of which these numbers are counted now
abbrev pub given_answered : EngineFault → View Entry → Numbers → View Entry
given_answered (Memory _) v now = given v now
given_answered (Disk before after) v now = given_telling v now
given_answered (Reopen count) v now = given_telling v now

-- the same after any fault
abbrev pub given_after : SeatFault → View Entry → Numbers → View Entry
given_after (Answered fault) v now = given_answered fault v now
given_after (Spent events) v now = given_telling v now

-- the same after an answer of `call`, and after one of `collect` or `flush`
abbrev pub after_client : ℕ → Cmd → Result Seen SeatFault → View Entry → Numbers → View Entry
after_client client cmd (Ok seen) v now = given (entered v (entry_of client cmd seen.reply)) now
after_client client cmd (Err fault) v now = given_after fault v now

abbrev pub after_event : {T : Type 0} → Result T SeatFault → View Entry → Numbers → View Entry
after_event (Ok made) v now = given v now
after_event (Err fault) v now = given_after fault v now

module _ {D : Type 0} {F : Type 0} {g : Ghosts D} where
  -- the pass has the logbook, which is made of this first engine, and knows all of its log
  pub record HasBook (first : Engine D F g) (me : Me (Opt (Logbook D F g)) (View Entry)) : Type 0 where
    pub book : Logbook D F g
    pub held : me.1 ≡ (0, Some book) ∷ []
    pub log_is : log_in book ≡ me.0.all
    pub next_is : next_in book ≡ me.0.next
    pub was : numbers_in book ≡ me.0.was
    pub tied : first_in book ≡ first

  -- what was done to the logbook that a pass had as `old`, and has as `new`
  pub record IsEvent (first : Engine D F g) (Does : Logbook D F g → Logbook D F g → Type 0)
      (v : View Entry) (old new : Logbook D F g) : Type 0 where
    pub does : Does old new
    pub stays : StaysTied old new
    pub log_is : log_in old ≡ v.all
    pub next_is : next_in old ≡ v.next
    pub was : numbers_in old ≡ v.was
    pub tied : first_in old ≡ first
    pub stops : StopsNow (serving (engine_in new)).stopped (g.count (disk_in first)) (g.count (disk_in (engine_in new)))
    pub legal : IsLegal (opening (serving first)) (entries_of (log_in new))
    pub few : length (log_in new) < 2 ^ 50

  -- the pass has the logbook still
  pub record HasMade (first : Engine D F g) (Does : Logbook D F g → Logbook D F g → Type 0)
      (v : View Entry) (me : Me (Opt (Logbook D F g)) (View Entry)) : Type 0 where
    pub old : Logbook D F g
    pub new : Logbook D F g
    pub held : me.1 ≡ (0, Some new) ∷ []
    pub event : IsEvent first Does v old new

  -- it has given it back
  pub record HasGiven (first : Engine D F g) (Does : Logbook D F g → Logbook D F g → Type 0)
      (After : View Entry → Numbers → View Entry) (v : View Entry) (me : Me (Opt (Logbook D F g)) (View Entry))
      : Type 0 where
    pub old : Logbook D F g
    pub new : Logbook D F g
    pub event : IsEvent first Does v old new
    pub back : me ≡ (After v (numbers_in new), [])

  -- the logbook that the pass has may be given back
  pub record MayGive (first : Engine D F g) (me : Me (Opt (Logbook D F g)) (View Entry)) : Type 0 where
    pub book : Logbook D F g
    pub held : me.1 ≡ (0, Some book) ∷ []
    pub log_is : log_in book ≡ me.0.all
    pub next_is : next_in book ≡ me.0.next
    pub more : NotLess me.0.was (numbers_in book)
    pub tied : first_in book ≡ first

  -- the logbook that it had was given back
  pub record GivesBack (After : View Entry → Numbers → View Entry) (old new : Me (Opt (Logbook D F g)) (View Entry))
      : Type 0 where
    pub book : Logbook D F g
    pub held : old.1 ≡ (0, Some book) ∷ []
    pub back : new ≡ (After old.0 (numbers_in book), [])
