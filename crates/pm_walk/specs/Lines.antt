-- The lines of a dump, from what a walk met and from the names of a space.
use Rattle.std.specs.Prelude.{ℕ, List}
use Rattle.std.specs.Option.{unwrap_or}
use Rattle.pm_types.specs.declared.address.Addr.{Addr}
use Rattle.pm_dump.specs.Dump.{line_text, ObjectLine, RootLine}
use Rattle.pm_view.specs.View.{SpaceView}
use Rattle.pm_view.specs.Reading.{resolve, named_by}
use Rattle.pm_walk.specs.Walked.{meant_at}

-- the line of an object of this identity at this address
abbrev pub found_line : SpaceView → ℕ × Addr → List ℕ
found_line view e = line_text (ObjectLine e.0 (meant_at view e.1))

-- the line of a name that is bound to this address
abbrev pub named_line : SpaceView → List ℕ × (ℕ × Addr) → List ℕ
named_line view e = line_text (RootLine e.0 (unwrap_or (named_by view e.1.1) 0))

-- the line of the object to which an address leads
abbrev pub led_line : SpaceView → Addr → List ℕ
led_line view to = line_text (ObjectLine (unwrap_or (named_by view to) 0) (meant_at view (resolve view to)))
