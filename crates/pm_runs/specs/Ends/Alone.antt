-- What a command leaves that touches one disk at most.
use Rattle.pm_runs.specs.declared.ends.ended.Alone.{Alone}
use Rattle.pm_runs.specs.declared.ends.ended.Ended.{Ended}

-- an end, without the other disk
abbrev pub alone : {D E S K : Type 0} → Ended D E S K → Alone D S K
alone ended = record {
  status = ended.status;
  detail = ended.detail;
  journal = ended.journal;
  tally = ended.tally;
  young = ended.young;
  disk = ended.disk;
  source = ended.source;
  sink = ended.sink;
}
