use Rattle.std.specs.FinMap as map
use Rattle.pm_types.proofs.Orders.{places_total, places_antisymmetric}
use Rattle.pm_nursery.proofs.Rows.{none_listed, none_sorted}
use Rattle.pm_nursery.proofs.Turned.{none_turned}
use Rattle.pm_nursery.proofs.registers.Registers.new.Goals as goal

pub invariant_of-result : goal.invariant_of-result
invariant_of-result c = record {
  rise = none_sorted places_total places_antisymmetric c.new.result.items c.new.ensures.items;
  index = none_turned (map.from_entries c.new.result.items) c.new-2.result.items (none_listed places_total places_antisymmetric c.new.result.items c.new.ensures.items) c.new-2.ensures.items;
}

pub returns : goal.returns
returns c = none_listed places_total places_antisymmetric c.new.result.items c.new.ensures.items
