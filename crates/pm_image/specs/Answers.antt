-- What a reader of a page may answer, by what reading gives: the value, or the place of the first fault.
use Rattle.std.specs.Prelude.{◌≡◌, ℕ, Result, Ok, Err}
use Rattle.pm_image.specs.declared.fault.PageFault.{PageFault}
use Rattle.pm_image.specs.declared.fault.PageFault.TheVariants.{Malformed, Memory}

-- the answer of a reader that takes no memory
abbrev pub answer : {X : Type 0} → Result X ℕ → Result X PageFault
answer (Ok x) = Ok x
answer (Err at) = Err (Malformed at)

-- what was answered is what reading gives, unless memory ran out
abbrev pub Gives : {X : Type 0} → Result X PageFault → Result X ℕ → Type 0
Gives (Ok x) read = read ≡ Ok x
Gives (Err (Malformed at)) read = read ≡ Err at
Gives (Err (Memory _)) read = Unit {0}
