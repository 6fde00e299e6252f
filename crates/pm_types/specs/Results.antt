-- Steps of reading, one after the other, of which the first fault ends all.
use Rattle.std.specs.Prelude.{Result, Ok, Err}

-- the first step, and with its value the second; a fault ends both
infixl 10 ◌>>=◌
abbrev pub ◌>>=◌ : {A B E : Type 0} → Result A E → (A → Result B E) → Result B E
(Ok x) >>= f = f x
(Err e) >>= f = Err e
