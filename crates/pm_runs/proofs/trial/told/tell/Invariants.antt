use Rattle.std.proofs.Common.{◌≡◌, ◌++◌, take}
use Rattle.pm_runs.specs.Trial.Told.{bytes_of}
use Rattle.pm_runs.proofs.trial.told.tell.Given as goal

-- the bytes so far were told
abbrev pub invariant-loop-byte : goal.invariant-loop-byte
invariant-loop-byte l = bytes_of l.told ≡ bytes_of l.fn.told ++ take l.byte-index l.bytes
