-- Who made each entry of a journal.
use Rattle.std.specs.Prelude.{ℕ, List, [], ◌∷◌, ◌++◌}
use Rattle.pm_seats.specs.declared.callers.Callers.{Callers}
use Rattle.pm_seats.specs.declared.callers.Callers.TheVariants.{Nothing, Then'}

-- the callers, in order
abbrev pub callers_of : Callers → List ℕ
callers_of Nothing = []
callers_of (Then' snapshot before number) = callers_of before ++ number ∷ []
