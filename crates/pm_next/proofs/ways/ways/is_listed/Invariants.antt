use Rattle.std.proofs.Common.{◌≡◌, drop}
use Rattle.pm_trains.specs.Trains.{is_among}
use Rattle.pm_next.proofs.ways.ways.is_listed.Given as goal

-- it is none of those so far
abbrev pub invariant-loop-listed : goal.invariant-loop-listed
invariant-loop-listed l = is_among l.train (drop l.listed-index l.trains) ≡ is_among l.train l.trains
