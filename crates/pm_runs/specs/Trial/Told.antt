-- What was told of bytes, one behind another.
use Rattle.std.specs.Prelude.{ℕ, List, [], ◌∷◌, ◌++◌}
use Rattle.pm_runs.specs.declared.trial.told.Told.{Told}
use Rattle.pm_runs.specs.declared.trial.told.Told.TheVariants.{Nothing, Byte'}

-- the bytes
abbrev pub bytes_of : Told → List ℕ
bytes_of Nothing = []
bytes_of (Byte' snapshot before byte) = bytes_of before ++ byte ∷ []
