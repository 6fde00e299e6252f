-- How a conversation ends.
use Rattle.std.specs.Prelude.{◌≡◌, ◌⊎◌, ℕ, ◌<◌, ◌≤◌, List, [], ◌∷◌, ◌++◌, Option, Some, None, Result, Ok, Err, length}
use Rattle.std.specs.List.{concat}
use Rattle.pm_types.specs.Counts.{Rose, greatest_count}
use Rattle.pm_peer.specs.declared.next.Next.{Next}
use Rattle.pm_peer.specs.declared.next.Next.TheVariants.{Cut, End}
use Rattle.pm_peer.specs.FirstLine.{IsAnswer, IsEnding}
use Rattle.pm_peer.specs.Hearing.{HearsQuiet}
use Rattle.pm_peer.specs.Questions.{asked_at}
use Rattle.pm_saving.specs.Serving.{Serving}
use Rattle.pm_engine.specs.declared.events.stop.Stop.{Stop}
use Rattle.pm_engine.specs.declared.events.stop.Stop.TheVariants as stop
use Rattle.pm_engine.specs.Shown.{tally_in}
use Rattle.pm_talk.specs.declared.ending.Ending.{Ending}
use Rattle.pm_talk.specs.declared.ending.Ending.TheVariants.{Hearing, Telling, Device}
use Rattle.pm_talk.specs.Replies.{FailsDisk, Says}
use Rattle.pm_talk.specs.Texts.{cut_line, disk_fault_line, last_lines}
use Rattle.pm_talk.specs.Turns.{EndsLine}
use Rattle.pm_talk.specs.Wires.{HearsPieces, TellsFirst, TellsLines, Wire}

-- the answer is one of the end
abbrev pub IsOfEnd : Next → Type 0
IsOfEnd Cut = Unit {0}
IsOfEnd End = Unit {0}
IsOfEnd answer = ⊥

-- the lines that are told at the end: that half a line was cut, if it was, and then those of what the engine came to
abbrev pub lines_behind : Next → Serving → List (List ℕ)
lines_behind Cut it = cut_line ∷ last_lines (tally_in it)
lines_behind answer it = last_lines (tally_in it)

-- The input came to its end behind so many turns, with these bytes kept: nothing or half a line is left of it. As many turns
-- as a count has numbers are the end too.
pub record MeetsEnd (kept : List ℕ) (turns : ℕ) (old new : Wire) (answer : Next) : Type 0 where
  pub pieces : List (List ℕ)
  pub hears : HearsPieces pieces old new
  pub end : IsOfEnd answer
  pub last : IsAnswer answer (length pieces) (kept ++ concat pieces) [] [] ⊎ (greatest_count ≤ turns)
  -- the peer has none left
  pub emptied : turns < greatest_count → IsEnding answer (length pieces) → (bytes : List ℕ) → old.left ≡ Some bytes → new.left ≡ Some []

-- The conversation came to its end: the last lines were told, and the engine is as it was behind the last turn.
pub record EndsWell (kept : List ℕ) (turns : ℕ) (it : Serving) (old new : Wire) : Type 0 where
  pub answer : Next
  pub mid : Wire
  pub meets : MeetsEnd kept turns old mid answer
  pub tells : TellsLines (lines_behind answer it) mid new

-- The peer failed while the last lines were told.
pub record BreaksAtEnd (kept : List ℕ) (turns : ℕ) (it : Serving) (old new : Wire) : Type 0 where
  pub answer : Next
  pub mid : Wire
  pub meets : MeetsEnd kept turns old mid answer
  pub tells : TellsFirst (lines_behind answer it) mid new

-- A line was heard, and the peer failed while the line was told that is the answer to it: nothing is made behind that.
pub record BreaksInTurn (events : ℕ) (kept : List ℕ) (before after : Serving) (old new : Wire) : Type 0 where
  pub pieces : List (List ℕ)
  pub heard : List ℕ
  pub behind : List ℕ
  pub ends : EndsLine kept pieces heard behind
  pub mid : Wire
  pub hears : HearsPieces pieces old mid
  pub line : List ℕ
  pub due : ℕ
  pub says : Says events (asked_at heard) before after line due
  pub tells : TellsFirst (line ∷ []) mid new

-- A line was heard, the disk failed, and that is told, unless the peer fails too.
pub record BreaksDisk (kept : List ℕ) (before after : Serving) (old new : Wire) : Type 0 where
  pub pieces : List (List ℕ)
  pub heard : List ℕ
  pub behind : List ℕ
  pub ends : EndsLine kept pieces heard behind
  pub mid : Wire
  pub hears : HearsPieces pieces old mid
  pub fails : FailsDisk (asked_at heard) before after
  pub tells : TellsLines (disk_fault_line ∷ []) mid new ⊎ TellsFirst (disk_fault_line ∷ []) mid new

-- How it ends behind so many turns, of which these bytes are kept, from the engine then to that at the end.
abbrev pub EndsBy : ℕ → Result (Unit {0}) Ending → List ℕ → ℕ → Serving → Serving → Wire → Wire → Type 0
EndsBy events (Ok done) kept turns before after old new = (after ≡ before) × EndsWell kept turns before old new
EndsBy events (Err Hearing) kept turns before after old new = (after ≡ before) × HearsQuiet kept old.left new.left old.talk new.talk
EndsBy events (Err Telling) kept turns before after old new = ((after ≡ before) × BreaksAtEnd kept turns before old new) ⊎ BreaksInTurn events kept before after old new
EndsBy events (Err Device) kept turns before after old new = BreaksDisk kept before after old new

-- why a run stopped, as the disk sees it: for the disk or not
abbrev pub disk_stop : Result (Unit {0}) Ending → Option Stop
disk_stop (Err Device) = Some stop.Device
disk_stop result = None

-- The peer's count of failed calls rose where it failed, and stands still where nothing did.
abbrev pub CountsPeer : Result (Unit {0}) Ending → ℕ → ℕ → Type 0
CountsPeer (Ok done) before after = after ≡ before
CountsPeer (Err Hearing) before after = Rose before after
CountsPeer (Err Telling) before after = Rose before after
CountsPeer (Err Device) before after = (after ≡ before) ⊎ Rose before after
