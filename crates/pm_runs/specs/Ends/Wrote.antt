-- What a command wrote.
use Rattle.std.specs.Prelude.{◌≡◌, ℕ, List, ◌++◌, Some, length}
use Rattle.pm_io.specs.declared.sink.Sink as sink
use Rattle.pm_serial.specs.Output.Writing.{PutsAll, PutsPart}
use Rattle.pm_runs.specs.declared.ends.ended.Detail.{Detail}
use Rattle.pm_runs.specs.declared.ends.ended.Detail.TheVariants.{Fine, Writing}

-- the command is done
abbrev pub IsFine : Detail → Type 0
IsFine Fine = Unit {0}
IsFine detail = ⊥

-- the sink failed
abbrev pub IsOfSink : Detail → Type 0
IsOfSink (Writing before after) = Unit {0}
IsOfSink detail = ⊥

-- it came to the text that it was to write
abbrev pub IsWriting : Detail → Type 0
IsWriting Fine = Unit {0}
IsWriting (Writing before after) = Unit {0}
IsWriting detail = ⊥

module _ {K : Type 0} (k : sink.Ghosts K) where
  -- What a command that writes one text put into the sink, by how it ended.
  pub record WroteText (old new : K) (text : List ℕ) (detail : Detail) : Type 0 where
    -- where it is done, all of the text, and all of it is finished
    pub all : IsFine detail → PutsAll (k.written old) (k.written new) text
    pub all_finished : IsFine detail → (before : List ℕ) → k.written old ≡ Some before → k.finished new ≡ length (before ++ text)
    -- where the sink failed, a first part of it
    pub part : IsOfSink detail → PutsPart (k.written old) (k.written new) text
    -- and else the sink is not called
    pub none : (IsWriting detail → ⊥) → new ≡ old
