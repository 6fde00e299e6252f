use Rattle.std.proofs.Common.{◌≡◌, drop}
use Rattle.pm_copies.specs.Opened.{has_object}
use Rattle.pm_reopen.proofs.opened_cars.has_object.Given as goal

abbrev pub invariant-loop-listed : goal.invariant-loop-listed
invariant-loop-listed l = has_object l.slots ≡ has_object (drop l.listed-index l.slots)
