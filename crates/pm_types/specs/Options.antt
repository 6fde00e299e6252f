-- Steps of reading, one after the other, of which the first that gives nothing ends all.
use Rattle.std.specs.Prelude.{Option, Some, None}

-- the first step, and with its value the second
infixl 10 ◌>>=◌
abbrev pub ◌>>=◌ : {A B : Type 0} → Option A → (A → Option B) → Option B
None >>= f = None
(Some x) >>= f = f x
