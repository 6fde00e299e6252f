use Rattle.std.proofs.Common.{◌≡◌, ◌++◌, length, take, drop}
use Rattle.std.specs.List.{flat_map}
use Rattle.pm_image.specs.CarPages.{record_spelling}
use Rattle.pm_image.proofs.car_writing.fill_records.Given as goal

-- the records so far, and behind them what was there
abbrev pub invariant-loop-record : goal.invariant-loop-record
invariant-loop-record l = record {
  counted : l.at ≡ length (flat_map record_spelling (take l.record-index l.records));
  so_far : l.out ≡ flat_map record_spelling (take l.record-index l.records) ++ drop l.at l.fn.out;
}
