-- How an entry is kept. No public clause cites this module.
use Rattle.std.specs.Prelude.{ℕ}
use Rattle.pm_types.specs.declared.source.RefSource.{RefSource}
use Rattle.pm_types.specs.declared.source.RefSource.TheVariants as source
use Rattle.pm_remset.specs.declared.entry.Kind.{Kind}
use Rattle.pm_remset.specs.declared.entry.Kind.TheVariants as kind

-- the source that is kept so
abbrev pub source_of : Kind → ℕ → ℕ → ℕ → RefSource
source_of kind.Root number holder index = source.Root number
source_of kind.Handle number holder index = source.Handle holder index
source_of kind.Field number holder index = source.Field (record { car = number; slot = holder }) index
