-- What contracts see of a writer.
use Rattle.std.specs.Prelude.{option_map}
use Rattle.pm_saving.specs.Progress.{Saving}
use Rattle.pm_save.specs.Progress.Seen.{progress_seen}
use Rattle.pm_save.specs.declared.writer.writer.Writer.{Writer}

-- the settled cars and the copy in progress
abbrev pub writing : Writer → Saving
writing it = record { settled = it.settled.items; progress = option_map (progress_seen it.settled.items) it.progress }
