use Rattle.std.proofs.Common.{◌≡◌, drop}
use Rattle.std.specs.List.{list_any}
use Rattle.pm_view.specs.Candidates.{is_bare}
use Rattle.pm_next.proofs.ways.ways.has_bare.Given as goal

-- none of the sources so far is one
abbrev pub invariant-loop-source : goal.invariant-loop-source
invariant-loop-source l = list_any is_bare (drop l.source-index l.sources) ≡ list_any is_bare l.sources
