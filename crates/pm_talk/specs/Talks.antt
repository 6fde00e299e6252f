-- A whole conversation.
use Rattle.std.specs.Prelude.{◌≡◌, ◌⊎◌, ℕ, List, [], ◌∷◌, ◌++◌, Some, Result, Err, length}
use Rattle.std.specs.List.{AllByRecursion}
use Rattle.pm_peer.specs.declared.said.Said.{Said}
use Rattle.pm_saving.specs.Serving.{Serving}
use Rattle.pm_talk.specs.declared.buffers.Buffers.{Buffers}
use Rattle.pm_talk.specs.declared.ending.Ending.{Ending}
use Rattle.pm_talk.specs.declared.ending.Ending.TheVariants.{Telling}
use Rattle.pm_talk.specs.Ends.{EndsBy}
use Rattle.pm_talk.specs.Texts.{greeting}
use Rattle.pm_talk.specs.Turns.{Follow, IsPatient, IsTurn, Turn, heard_of, said_of}
use Rattle.pm_talk.specs.Wires.{TellsFirst, TellsLines, Wire}

-- the bytes that were heard and are in no answer yet
abbrev pub kept_in : Buffers → List ℕ
kept_in it = it.lines.kept

-- The turns so far: what was heard and told in them, in order, and what is kept behind them.
pub record HasTurns (events : ℕ) (kept : List ℕ) (from : Serving) (turns : List Turn) (behind : List ℕ) (to : Serving) (old new : Wire) : Type 0 where
  pub each : AllByRecursion (IsTurn events) turns
  pub follow : Follow kept from turns behind to
  -- where the peer tells its talk, what was said in them was added to it, and nothing was heard where a line was kept
  pub said : (before : List Said) → old.talk ≡ Some before → new.talk ≡ Some (before ++ said_of turns)
  pub patient : (before : List Said) → old.talk ≡ Some before → AllByRecursion IsPatient turns
  -- where it tells its bytes, those that were heard were the first, and the others are left
  pub front : (bytes : List ℕ) → old.left ≡ Some bytes → (rest : List ℕ) × (bytes ≡ heard_of turns ++ rest) × (new.left ≡ Some rest)

-- The greeting was told, then the turns were taken, one behind another, and then the conversation ended so.
pub record Converses (number events : ℕ) (from to : Serving) (old new : Wire) (result : Result (Unit {0}) Ending) : Type 0 where
  pub begun : Wire
  pub greets : TellsLines (greeting number ∷ []) old begun
  pub turns : List Turn
  pub behind : List ℕ
  pub it : Serving
  pub mid : Wire
  pub has : HasTurns events [] from turns behind it begun mid
  pub ends : EndsBy events result behind (length turns) it to mid new

-- The peer failed while the greeting was told, and nothing else was done.
pub record BreaksGreeting (number : ℕ) (from to : Serving) (old new : Wire) (result : Result (Unit {0}) Ending) : Type 0 where
  pub why : result ≡ Err Telling
  pub still : to ≡ from
  pub tells : TellsFirst (greeting number ∷ []) old new

-- What is said in a conversation, and what becomes of the engine.
abbrev pub Talks : ℕ → ℕ → Serving → Serving → Wire → Wire → Result (Unit {0}) Ending → Type 0
Talks number events from to old new result = BreaksGreeting number from to old new result ⊎ Converses number events from to old new result
