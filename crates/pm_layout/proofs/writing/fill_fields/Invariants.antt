use Rattle.std.proofs.Common.{◌≡◌, ◌++◌, ◌*◌, take, drop}
use Rattle.std.specs.List.{flat_map}
use Rattle.pm_layout.specs.Spelling.{field}
use Rattle.pm_layout.proofs.writing.fill_fields.Given as goal

-- the fields so far, and behind them what was there
abbrev pub invariant-loop-i : goal.invariant-loop-i
invariant-loop-i l = l.out ≡ flat_map field (take l.i l.fields) ++ drop (12 * l.i) l.fn.out
