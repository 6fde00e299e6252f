use Rattle.std.proofs.Common.{arith, ◌∙◌, get_or}
use Rattle.pm_space.specs.Linked.{counted}
use Rattle.pm_space.proofs.Rooms.{few_times, counted_more, room_more}
use Rattle.pm_space.proofs.room.make_room_for_each.Goals as goal

pub count_car-requires : goal.count_car-requires
count_car-requires c =
    let car = get_or c.args.cars.now c.loop-car.car-index 0 in
    let few = few_times c.args.cars.now c.loop-car.car-index car in
    let so_far = c.loop-car.invariant.counted car in
    omega (arith, few, so_far, c.loop-car-test.true, c.type_inv.cars)

pub loop-car-preserved : goal.loop-car-preserved
loop-car-preserved c =
    let cars = c.args.cars.now in
    let i = c.loop-car.car-index in
    let inside = c.loop-car-test.true in
    let counts = counted_more cars i inside (counted c.loop-car.counts) (counted c.count_car.new.counts) c.loop-car.invariant.counted c.in_ok-count.ensures.counts in
    record {
      counted = counts;
      room = room_more cars i inside c.loop-car.links c.reserve.new.self c.in_ok-count.count c.loop-car.invariant.room
          (c.in_ok-count.ensures.count ∙ counts (get_or cars i 0)) c.in_ok-reserve.ensures.room c.reserve.ensures.kept;
      sets = c.reserve.ensures.sets ∙ c.loop-car.invariant.sets;
      queues = c.reserve.ensures.queues ∙ c.loop-car.invariant.queues;
      kept = λ other more had. c.reserve.ensures.kept other more (c.loop-car.invariant.kept other more had);
    }
