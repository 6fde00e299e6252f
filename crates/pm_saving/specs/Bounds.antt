-- That the watches of an engine keep their bounds.
use Rattle.std.specs.List.{AllByRecursion}
use Rattle.pm_view.specs.Bounded.{KeepsBound}
use Rattle.pm_saving.specs.Serving.{Serving, opening}

-- Each watch that is set keeps its bound behind the journal, from the world on that was opened: what was lost when it was
-- set is what the world had lost behind the entries that the journal had then.
abbrev pub KeepsBounds : Serving → Type 0
KeepsBounds it = AllByRecursion (KeepsBound (opening it) it.journal it.view) it.watches
