-- The turns of a conversation.
use Rattle.std.specs.Prelude.{◌≡◌, ℕ, true, false, List, [], ◌∷◌, ◌++◌, map}
use Rattle.std.specs.List.{concat, flat_map}
use Rattle.pm_script.specs.Lines.{is_silent}
use Rattle.pm_peer.specs.declared.said.Said.{Said}
use Rattle.pm_peer.specs.declared.said.Said.TheVariants.{Heard, Told}
use Rattle.pm_peer.specs.FirstLine.{has_newline}
use Rattle.pm_peer.specs.Hearing.{IsEnough}
use Rattle.pm_peer.specs.Questions.{asked_at}
use Rattle.pm_saving.specs.Serving.{Serving}
use Rattle.pm_talk.specs.Events.{Collects}
use Rattle.pm_talk.specs.Replies.{Says}

-- A turn: the bytes that were heard before it and are in no line yet, the pieces that were heard in it, in order, the line
-- that they end, without its newline, the bytes behind that, the lines that were told, and the engine before and after.
pub record Turn : Type 0 where
  pub kept : List ℕ
  pub pieces : List (List ℕ)
  pub heard : List ℕ
  pub behind : List ℕ
  pub told : List (List ℕ)
  pub before : Serving
  pub after : Serving

-- The line is the first one of what was kept and heard, and no byte behind the piece that ends it was waited for.
pub record EndsLine (kept : List ℕ) (pieces : List (List ℕ)) (heard behind : List ℕ) : Type 0 where
  pub first : kept ++ concat pieces ≡ heard ++ 10 ∷ behind
  pub one : has_newline heard ≡ false
  pub enough : IsEnough pieces

-- One line was told to it, and behind that the events were made that were due.
pub record IsAnswered (events : ℕ) (turn : Turn) : Type 0 where
  pub line : List ℕ
  pub told : turn.told ≡ line ∷ []
  pub mid : Serving
  pub due : ℕ
  pub says : Says events (asked_at turn.heard) turn.before mid line due
  pub behind : Collects due mid turn.after

-- A turn, where so many events of the collector come behind the reply to a command. A silent line is told nothing.
pub record IsTurn (events : ℕ) (turn : Turn) : Type 0 where
  pub ends : EndsLine turn.kept turn.pieces turn.heard turn.behind
  pub silent : is_silent turn.heard ≡ true → (turn.told ≡ []) × (turn.after ≡ turn.before)
  pub spoken : is_silent turn.heard ≡ false → IsAnswered events turn

-- Each turn begins where the one before it ended; they lead from the first to the last.
abbrev pub Follow : List ℕ → Serving → List Turn → List ℕ → Serving → Type 0
Follow kept from [] behind to = (kept ≡ behind) × (from ≡ to)
Follow kept from (turn ∷ turns) behind to = (turn.kept ≡ kept) × (turn.before ≡ from) × Follow turn.behind turn.after turns behind to

-- what was said in a turn: the pieces that were heard, and then what was told
abbrev pub said_in : Turn → List Said
said_in turn = map (λ piece. Heard piece) turn.pieces ++ map (λ line. Told line) turn.told

-- what was said in turns, in order
abbrev pub said_of : List Turn → List Said
said_of turns = flat_map said_in turns

-- the bytes that were heard in turns, in order
abbrev pub heard_of : List Turn → List ℕ
heard_of turns = flat_map (λ turn. concat turn.pieces) turns

-- where a whole line was kept nothing was heard
abbrev pub IsPatient : Turn → Type 0
IsPatient turn = has_newline turn.kept ≡ true → turn.pieces ≡ []
