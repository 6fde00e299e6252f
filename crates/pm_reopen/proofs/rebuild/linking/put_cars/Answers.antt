use Rattle.std.proofs.Common.{rules}
use Rattle.pm_reopen.proofs.RebuildLemmas.LinkLaws.{none_put, put_full, put_new, put_more, all_put}
use Rattle.pm_reopen.proofs.rebuild.linking.put_cars.Goals as goal

pub loop-car-init : goal.loop-car-init
loop-car-init c = none_put c.args.cars c.into_vec-left.result.items c.expecting-table.result c.into_vec-left.ensures c.expecting-table.ensures.current c.expecting-table.ensures.frozen

pub put_car-requires-clause-from_one : goal.put_car-requires-clause-from_one
put_car-requires-clause-from_one c = (put_full c.args.cars c.loop-car.left.items c.pop.new.self.items c.loop-car.table (c.in-Some.field-0-0, c.in-Some.car) c.loop-car.invariant c.in-Some.ensures.items c.requires.full).from_one

pub put_car-requires-clause-is_new : goal.put_car-requires-clause-is_new
put_car-requires-clause-is_new c = put_new c.args.cars c.loop-car.left.items c.pop.new.self.items c.loop-car.table (c.in-Some.field-0-0, c.in-Some.car) c.loop-car.invariant c.in-Some.ensures.items c.requires.differ

pub loop-car-preserved : goal.loop-car-preserved
loop-car-preserved c =
    put_more c.args.cars c.loop-car.left.items c.pop.new.self.items c.loop-car.table (c.in-Some.field-0-0, c.in-Some.car) c.loop-car.invariant c.in-Some.ensures.items
    c.put_car.new.table c.in_ok-put_car.ensures.cars c.in_ok-put_car.ensures.frozen

pub returns-clause-cars : goal.returns-clause-cars
returns-clause-cars c = all_put c.args.cars c.loop-car.left.items c.loop-car.table c.loop-car.invariant (search rules)
