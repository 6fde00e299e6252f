-- What a run with a nursery puts behind its last reply.
use Rattle.std.specs.Prelude.{ℕ, List, [], ◌++◌, codes, decimal}
use Rattle.pm_model.specs.Text.{tail}
use Rattle.pm_young.specs.Seen.{YoungTotal}

-- the line of the nursery: how many objects are young, and how many entered a car
abbrev pub young_line : ℕ → ℕ → List ℕ
young_line young entered = codes "young " ++ decimal young ++ codes " " ++ decimal entered ++ codes "\n"

-- the end line, and the line of the nursery behind it
abbrev pub young_tail_of : YoungTotal → List ℕ
young_tail_of total = tail total.steps total.completed total.standing [] ++ young_line total.young total.entered
