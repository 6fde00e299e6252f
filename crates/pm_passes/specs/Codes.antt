-- The code of a value of any type, by which a pass remembers what its own type does not name.
use base.Stored.{Gv, Coded}

-- a code is its own code
abbrev pub coded_code : Coded Gv
coded_code = record { code = λ g. g; inj = λ x y p. p }
