-- What a run that stopped says of the sink.
use Rattle.std.specs.Prelude.{◌≡◌, ℕ, Option, Some, None}
use Rattle.pm_types.specs.Counts.{Rose}
use Rattle.pm_engine.specs.declared.events.stop.Stop.{Stop}
use Rattle.pm_engine.specs.declared.events.stop.Stop.TheVariants.{Memory, Writing, Device}

-- The sink's count rose where the run stopped for it, and may have risen while what was gathered was put that a stop for
-- memory or the disk leaves; it stands still where the run did not stop.
abbrev pub CountsSink : Option Stop → ℕ → ℕ → Type 0
CountsSink None before after = after ≡ before
CountsSink (Some Writing) before after = Rose before after
CountsSink (Some stop) before after = Unit {0}

-- the run stopped for memory or the disk, after which every reply so far is written
abbrev pub IsElsewhere : Option Stop → Type 0
IsElsewhere (Some (Memory _)) = Unit {0}
IsElsewhere (Some Device) = Unit {0}
IsElsewhere stop = ⊥
