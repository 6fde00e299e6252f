use Rattle.std.proofs.Common.{◌≡◌, ◌++◌, length, map, take, drop}
use Rattle.std.specs.Option.{option_map}
use Rattle.pm_graphs.specs.Linking.{resolved_by}
use Rattle.pm_reopen.proofs.opened_car.follow_all.Given as goal

-- the fields before the one at hand were followed, and those from it on are still to be
abbrev pub invariant-loop-index : goal.invariant-loop-index
invariant-loop-index l = record {
  so_far : take l.index l.followed.items ++ map (option_map (resolved_by l.leads)) (drop l.index l.followed.items) ≡ map (option_map (resolved_by l.leads)) l.fn.fields;
  same : length l.followed.items ≡ length l.fn.fields;
}
