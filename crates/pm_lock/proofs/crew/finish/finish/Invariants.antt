use Rattle.std.proofs.Common.{◌≡◌, ℕ, ◌<◌, None}
use Rattle.pm_lock.specs.Shown.{fault_in}
use Rattle.pm_lock.specs.Turns.{HasNothing}
use Rattle.pm_lock.specs.Crew.Whole.{LastsBook}
use Rattle.pm_lock.proofs.crew.finish.finish.Given as goal

-- the workers so far have nothing left
abbrev pub invariant-loop-who : goal.invariant-loop-who
invariant-loop-who g l =
    record {
      lasts : LastsBook l.fn.book l.book;
      nothing : fault_in l.book ≡ None → (one : ℕ) → one < l.who → HasNothing one l.book;
    }
