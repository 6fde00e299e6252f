-- What parts of a conversation do.
use Rattle.std.specs.Prelude.{◌≡◌, ◌⊎◌, ℕ, Bool, true, false, List, [], ◌∷◌, ◌++◌, Option, Some, None, Result, Ok, Err, length}
use Rattle.std.specs.List.{concat}
use Rattle.pm_types.specs.Counts.{Rose}
use Rattle.pm_peer.specs.declared.next.Next.{Next}
use Rattle.pm_peer.specs.declared.next.Next.TheVariants.{Cut, End}
use Rattle.pm_peer.specs.declared.said.Said.{Said}
use Rattle.pm_peer.specs.FirstLine.{IsAnswer, IsEnding}
use Rattle.pm_peer.specs.Hearing.{HearsQuiet}
use Rattle.pm_peer.specs.declared.asked.Asked.{Asked}
use Rattle.pm_script.specs.declared.fault.Cause.{Cause}
use Rattle.pm_saving.specs.Serving.{Serving}
use Rattle.pm_engine.specs.declared.events.stop.Stop.{Stop}
use Rattle.pm_engine.specs.declared.events.stop.Stop.TheVariants as stop
use Rattle.pm_talk.specs.declared.ending.Ending.{Ending}
use Rattle.pm_talk.specs.declared.ending.Ending.TheVariants.{Hearing, Telling, Device}
use Rattle.pm_talk.specs.Ends.{BreaksDisk, BreaksInTurn, EndsBy, MeetsEnd}
use Rattle.pm_talk.specs.Events.{Collects}
use Rattle.pm_talk.specs.Replies.{FailsDisk, Says}
use Rattle.pm_talk.specs.Talks.{HasTurns}
use Rattle.pm_talk.specs.Texts.{disk_fault_line}
use Rattle.pm_talk.specs.Turns.{IsPatient, IsTurn, Turn, said_in}
use Rattle.pm_talk.specs.Wires.{HearsPieces, TellsFirst, TellsLines, Wire}

-- why a conversation stops here, as the disk sees it
abbrev pub turn_stop : {T : Type 0} → Result T Ending → Option Stop
turn_stop (Err Device) = Some stop.Device
turn_stop result = None

-- the peer's count of failed calls rose where it failed, and stands still where nothing did
abbrev pub CountsTurn : {T : Type 0} → Result T Ending → ℕ → ℕ → Type 0
CountsTurn (Ok done) before after = after ≡ before
CountsTurn (Err Hearing) before after = Rose before after
CountsTurn (Err Telling) before after = Rose before after
CountsTurn (Err Device) before after = (after ≡ before) ⊎ Rose before after

-- a line was told and the events were made that were due; or the peer failed in it
abbrev pub FinishesTurn : List ℕ → ℕ → Serving → Serving → Wire → Wire → Result (Unit {0}) Ending → Type 0
FinishesTurn told due before after old new (Ok done) = TellsLines (told ∷ []) old new × Collects due before after
FinishesTurn told due before after old new (Err Telling) = (after ≡ before) × TellsFirst (told ∷ []) old new
FinishesTurn told due before after old new (Err ending) = ⊥

-- A line was answered: one line was told, and behind that the events were made that were due.
pub record AnswersTurn (events : ℕ) (asked : Result Asked Cause) (before after : Serving) (old new : Wire) : Type 0 where
  pub line : List ℕ
  pub mid : Serving
  pub due : ℕ
  pub says : Says events asked before mid line due
  pub behind : Collects due mid after
  pub tells : TellsLines (line ∷ []) old new

-- The peer failed while the answer was told.
pub record BreaksAnswer (events : ℕ) (asked : Result Asked Cause) (before after : Serving) (old new : Wire) : Type 0 where
  pub line : List ℕ
  pub due : ℕ
  pub says : Says events asked before after line due
  pub tells : TellsFirst (line ∷ []) old new

-- what came of a line that says something
abbrev pub AnswersTo : ℕ → Result Asked Cause → Serving → Serving → Wire → Wire → Result (Unit {0}) Ending → Type 0
AnswersTo events asked before after old new (Ok done) = AnswersTurn events asked before after old new
AnswersTo events asked before after old new (Err Hearing) = ⊥
AnswersTo events asked before after old new (Err Telling) = BreaksAnswer events asked before after old new
AnswersTo events asked before after old new (Err Device) = FailsDisk asked before after × (TellsLines (disk_fault_line ∷ []) old new ⊎ TellsFirst (disk_fault_line ∷ []) old new)

-- what was heard, where its turn was taken
abbrev pub took : Next → Result (Unit {0}) Ending → Result Next Ending
took next (Ok done) = Ok next
took next (Err ending) = Err ending

-- A turn was taken.
pub record TakesTurn (events : ℕ) (kept behind : List ℕ) (before after : Serving) (old new : Wire) : Type 0 where
  pub turn : Turn
  pub is : IsTurn events turn
  pub kept_is : turn.kept ≡ kept
  pub behind_is : turn.behind ≡ behind
  pub before_is : turn.before ≡ before
  pub after_is : turn.after ≡ after
  pub said : (all : List Said) → old.talk ≡ Some all → new.talk ≡ Some (all ++ said_in turn)
  pub patient : (all : List Said) → old.talk ≡ Some all → IsPatient turn
  pub front : (bytes : List ℕ) → old.left ≡ Some bytes → (rest : List ℕ) × (bytes ≡ concat turn.pieces ++ rest) × (new.left ≡ Some rest)

-- The input came to its end.
pub record HearsEnd (kept : List ℕ) (answer : Next) (old new : Wire) : Type 0 where
  pub pieces : List (List ℕ)
  pub hears : HearsPieces pieces old new
  pub last : IsAnswer answer (length pieces) (kept ++ concat pieces) [] []
  pub emptied : IsEnding answer (length pieces) → (bytes : List ℕ) → old.left ≡ Some bytes → new.left ≡ Some []

-- the input was at its end
abbrev pub is_ending : Next → Bool
is_ending Cut = true
is_ending End = true
is_ending next = false

-- what came of a turn
abbrev pub TurnsTo : ℕ → Result Next Ending → List ℕ → List ℕ → Serving → Serving → Wire → Wire → Type 0
TurnsTo events (Ok Cut) kept behind before after old new = (after ≡ before) × HearsEnd kept Cut old new
TurnsTo events (Ok End) kept behind before after old new = (after ≡ before) × HearsEnd kept End old new
TurnsTo events (Ok next) kept behind before after old new = TakesTurn events kept behind before after old new
TurnsTo events (Err Hearing) kept behind before after old new = (after ≡ before) × HearsQuiet kept old.left new.left old.talk new.talk
TurnsTo events (Err Telling) kept behind before after old new = BreaksInTurn events kept before after old new
TurnsTo events (Err Device) kept behind before after old new = BreaksDisk kept before after old new

-- what came of turns behind so many, from the last one
abbrev pub EndsTurns : ℕ → Result Next Ending → List ℕ → ℕ → Serving → Serving → Wire → Wire → Type 0
EndsTurns events (Ok answer) kept turns before after old new = (after ≡ before) × MeetsEnd kept turns old new answer
EndsTurns events (Err Hearing) kept turns before after old new = (after ≡ before) × HearsQuiet kept old.left new.left old.talk new.talk
EndsTurns events (Err Telling) kept turns before after old new = BreaksInTurn events kept before after old new
EndsTurns events (Err Device) kept turns before after old new = BreaksDisk kept before after old new

-- Turns were taken, one behind another, until this.
pub record TakesTurns (events : ℕ) (result : Result Next Ending) (kept : List ℕ) (from to : Serving) (old new : Wire) : Type 0 where
  pub turns : List Turn
  pub behind : List ℕ
  pub it : Serving
  pub mid : Wire
  pub has : HasTurns events kept from turns behind it old mid
  pub ends : EndsTurns events result behind (length turns) it to mid new

-- The same until the conversation ended so.
pub record TakesAll (events : ℕ) (result : Result (Unit {0}) Ending) (kept : List ℕ) (from to : Serving) (old new : Wire) : Type 0 where
  pub turns : List Turn
  pub behind : List ℕ
  pub it : Serving
  pub mid : Wire
  pub has : HasTurns events kept from turns behind it old mid
  pub ends : EndsBy events result behind (length turns) it to mid new
