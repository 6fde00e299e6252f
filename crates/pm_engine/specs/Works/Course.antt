-- What was told of a journal's entries.
use Rattle.std.specs.Prelude.{List, [], ◌∷◌, ◌++◌}
use Rattle.pm_saving.specs.Serving.{Before}
use Rattle.pm_engine.specs.declared.works.course.Course.{Course}
use Rattle.pm_engine.specs.declared.works.course.Course.TheVariants.{Nothing, Then'}

-- what had been made before each entry
abbrev pub told_before : Course → List Before
told_before Nothing = []
told_before (Then' snapshot before steps events) = told_before before ++ record { steps = steps; events = events } ∷ []
