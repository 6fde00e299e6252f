use Rattle.pmos.proofs.run_texts.Goals as goal

pub run-requires-clause-chooser : goal.run-requires-clause-chooser
run-requires-clause-chooser g c κs lives = (c.requires.makes c.read_place-chosen.result).is_chooser c.make-place.result c.make-place.ensures

pub run-requires-clause-chooses : goal.run-requires-clause-chooses
run-requires-clause-chooses g c κs lives = (c.requires.makes c.read_place-chosen.result).chooses c.make-place.result c.make-place.ensures
