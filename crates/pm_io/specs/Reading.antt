-- What an answer of reading all says.
use Rattle.std.specs.Prelude.{◌≡◌, ℕ, List, codes}
use Rattle.pm_types.specs.Counts.{Rose}
use Rattle.pm_io.specs.declared.reading.ReadAll.{ReadAll}
use Rattle.pm_io.specs.declared.reading.ReadAll.TheVariants.{Failed, TooLong, Memory}

-- what a failure says of the source's count of faults: it rose where the source failed, and stayed at the others
abbrev pub CountsAs : ReadAll → ℕ → ℕ → Type 0
CountsAs Failed before after = Rose before after
CountsAs TooLong before after = after ≡ before
CountsAs (Memory _) before after = after ≡ before

-- the words for a failure
abbrev pub text_of : ReadAll → List ℕ
text_of Failed = codes "the source failed"
text_of TooLong = codes "the source is too long"
text_of (Memory _) = codes "no memory"
