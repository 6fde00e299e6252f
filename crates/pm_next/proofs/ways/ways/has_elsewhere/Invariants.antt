use Rattle.std.proofs.Common.{◌≡◌, drop}
use Rattle.std.specs.List.{list_any}
use Rattle.pm_next.specs.Ways.Ways.{leads_elsewhere}
use Rattle.pm_next.proofs.ways.ways.has_elsewhere.Given as goal

-- none of the sources so far leads elsewhere
abbrev pub invariant-loop-source : goal.invariant-loop-source
invariant-loop-source g l =
    list_any (leads_elsewhere l.parts.trains.trains l.train l.way) (drop l.source-index l.sources) ≡ list_any (leads_elsewhere l.parts.trains.trains l.train l.way) l.sources
