-- The order of the index. No public clause cites this module.
use Rattle.std.specs.Prelude.{ℕ}
use Rattle.std.specs.declared.cmp.Ordering.{Ordering}
use Rattle.std.specs.Ordering.{nat_cmp, ordering_then}
use Rattle.pm_types.specs.declared.source.RefSource.{RefSource}
use Rattle.pm_types.specs.contracts.source.RefSourceOrd.TheImpl.{ghosts}

-- a slot and a source that names it are ordered by the slot, and then by the source
abbrev pub pair_cmp : ℕ × RefSource → ℕ × RefSource → Ordering
pair_cmp p q = ordering_then (nat_cmp p.0 q.0) (ghosts.cmp p.1 q.1)
