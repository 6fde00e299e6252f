-- What the table of pages shows.
use Rattle.std.specs.Prelude.{ℕ}
use Rattle.pm_shadow.specs.Uses.{use_of}
use Rattle.pm_shadow.specs.declared.page_use.PageUse.{PageUse}
use Rattle.pm_shadow.specs.declared.table.Table.{Table}

-- what each page is used for
abbrev pub uses_in : Table → ℕ → PageUse
uses_in it = use_of it.uses.items
