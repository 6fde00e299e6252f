use Rattle.pm_space.proofs.HeldCars.{held_there}
use Rattle.pm_mutate.proofs.births.placing.prepare.Goals as goal

pub make_room_for_birth-requires : goal.make_room_for_birth-requires
make_room_for_birth-requires g c = record { there = held_there c.args.parts.now.cars c.args.car c.requires.there }
