-- Which entries were let go.
use Rattle.std.specs.Prelude.{List, [], ◌++◌}
use Rattle.pm_types.specs.declared.entry.Entry.{Entry}
use Rattle.pm_engine.specs.declared.works.forgotten.Forgotten.{Forgotten}
use Rattle.pm_engine.specs.declared.works.forgotten.Forgotten.TheVariants.{Nothing, Then'}

-- the entries that were let go, in order
abbrev pub told_of : Forgotten → List Entry
told_of Nothing = []
told_of (Then' snapshot before entries) = told_of before ++ entries.value.items
