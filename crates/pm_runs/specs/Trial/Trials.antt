-- What a trial writes.
use Rattle.std.specs.Prelude.{◌≡◌, ℕ, codes, List, ◌++◌, Option, Some, length}
use Rattle.hex.specs.Hex.{encode_lower}
use Rattle.sha2.specs.Sha256.{sha256}
use Rattle.pm_types.specs.declared.entry.Entry.{Entry}
use Rattle.pm_io.specs.declared.sink.Sink as sink
use Rattle.pm_model.specs.Text.{text}
use Rattle.pm_engine.specs.Shown.{Total}
use Rattle.pm_serial.specs.Writing.{tail_of}
use Rattle.pm_serial.specs.Output.Writing.{PutsAll, PutsPart}
use Rattle.pm_engine.specs.declared.events.stop.Stop.{Stop}
use Rattle.pm_serial.specs.Causes.{CountsSink, IsElsewhere}
use Rattle.pm_engine.specs.Events.Causes.{IsDone}
use Rattle.pm_serial.specs.Stepping.{IsOfSink}

-- `digest H`: a digest, in lower-case hexadecimal digits
abbrev pub shown_digest : List ℕ → List ℕ
shown_digest digest = codes "digest " ++ encode_lower digest ++ codes "\n"

-- the line of the SHA-256 of a text
abbrev pub digest_line : List ℕ → List ℕ
digest_line text = shown_digest (sha256 text)

-- What a trial put into the sink for the text of its journal and for the lines behind it, by why it stopped, if it did. Of
-- a sink that does not tell what was put nothing is said but its count.
pub record WroteTrial {K : Type 0} (written : K → Option (List ℕ)) (finished count : K → ℕ) (old new : K) (text tail : List ℕ) (stop : Option Stop) : Type 0 where
  -- where it is done, the line of the digest and the lines behind it, and all of it is finished
  pub all : IsDone stop → PutsAll (written old) (written new) (digest_line text ++ tail)
  pub all_finished : IsDone stop → (before : List ℕ) → written old ≡ Some before → finished new ≡ length (before ++ (digest_line text ++ tail))
  -- where the sink failed, a first part of that
  pub part : IsOfSink stop → PutsPart (written old) (written new) (digest_line text ++ tail)
  -- where memory ran out or the disk failed it is not called
  pub none : IsElsewhere stop → new ≡ old
  -- the count of failed calls rose where the run stopped for the sink
  pub cause : CountsSink stop (count old) (count new)

module _ {K : Type 0} (k : sink.Ghosts K) where
  -- the same of a journal and of what an engine came to
  abbrev pub WroteDigest : K → K → List Entry → Total → Option Stop → Type 0
  WroteDigest old new journal total stop = WroteTrial k.written k.finished k.count old new (text journal) (tail_of total) stop
