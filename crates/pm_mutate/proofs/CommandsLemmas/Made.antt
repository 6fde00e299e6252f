-- Rows that were made for another reason, and rows by which nothing changes.
use Rattle.std.proofs.Common.{refl, Result, Ok, Err, IfOk}
use Rattle.pm_space.specs.declared.parts.Parts.{Parts}
use Rattle.pm_space.specs.Shown.{MakesRow}

-- a row was made of which more is said
pub made_as : {F A E : Type 0} {old new : Parts F} {r : Result A E} {Says Means : A → Type 0} → MakesRow old new r Says → IfOk r Means → MakesRow old new r Means
made_as made ok = record { ok = ok; err = made.err; rest = made.rest }

-- a row was made by which nothing changes
pub made_still : {F A E : Type 0} {Means : A → Type 0} (parts : Parts F) (r : Result A E) → IfOk r Means → MakesRow parts parts r Means
made_still parts (Ok reply) ok = record { ok = ok; err = tt; rest = record { frozen = refl; place = refl } }
made_still parts (Err fault) ok = record { ok = tt; err = refl; rest = record { frozen = refl; place = refl } }
