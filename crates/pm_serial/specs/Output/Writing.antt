-- What goes to a sink through a buffer. Of a sink that does not tell what was put nothing is said.
use Rattle.std.specs.Prelude.{◌≡◌, ℕ, ◌+◌, ◌≤◌, List, ◌++◌, length, Option, Some}
use Rattle.pm_io.specs.Streams.{AppendsPart}
use Rattle.pm_script.specs.declared.reply.TheConstants.{REPLY_BYTES}
use Rattle.pm_serial.specs.declared.output.output.TheConstants.{BUFFER_BYTES}

-- all of the text was put
abbrev pub PutsAll : Option (List ℕ) → Option (List ℕ) → List ℕ → Type 0
PutsAll told now text = (bytes : List ℕ) → told ≡ Some bytes → now ≡ Some (bytes ++ text)

-- so much is finished, which is all that stood there and the text behind it
abbrev pub FinishesAll : Option (List ℕ) → ℕ → List ℕ → Type 0
FinishesAll told finished text = (bytes : List ℕ) → told ≡ Some bytes → finished ≡ length (bytes ++ text)

-- a first part of the text was put, which may be none or all of it
abbrev pub PutsPart : Option (List ℕ) → Option (List ℕ) → List ℕ → Type 0
PutsPart told now text = (bytes : List ℕ) → told ≡ Some bytes → AppendsPart bytes text now

-- a first part of these bytes was put behind what stood there, and what is gathered is the rest of them
pub record IsDivided (bytes text : List ℕ) (now : Option (List ℕ)) (later : List ℕ) : Type 0 where
  pub done : List ℕ
  pub put : now ≡ Some (bytes ++ done)
  pub rest : done ++ later ≡ text

-- The piece was added to what is gathered: a first part of both together was put, and the rest is gathered.
abbrev pub GoesOn : List ℕ → Option (List ℕ) → Option (List ℕ) → List ℕ → List ℕ → Type 0
GoesOn piece told now gathered later = (bytes : List ℕ) → told ≡ Some bytes → IsDivided bytes (gathered ++ piece) now later

-- No more of the text is missing than the buffer has room for and a reply line may have.
abbrev pub IsNear : Option (List ℕ) → Option (List ℕ) → List ℕ → Type 0
IsNear told now text = (bytes all : List ℕ) → told ≡ Some bytes → now ≡ Some all → length (bytes ++ text) ≤ length all + (BUFFER_BYTES + REPLY_BYTES)
