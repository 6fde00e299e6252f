-- What the lines of a script ask.
use Rattle.std.specs.Prelude.{ℕ, ◌+◌, List, [], ◌∷◌, length}
use Rattle.std.specs.List.{flat_map, sum_by}
use Rattle.pm_model.specs.declared.request.Request.{Request}
use Rattle.pm_script.specs.declared.line.Line.{Line}
use Rattle.pm_script.specs.declared.line.Line.TheVariants.{Client, Gc, Flush}

-- what a line asks of the graph
abbrev pub request_of : Line → List Request
request_of (Client client cmd) = record { client = client; cmd = cmd } ∷ []
request_of (Gc count) = []
request_of (Flush count) = []

-- what lines ask of it, in order
abbrev pub requests_asked : List Line → List Request
requests_asked lines = flat_map request_of lines

-- how many events of the collector a line asks for
abbrev pub steps_of : Line → ℕ
steps_of (Client client cmd) = 0
steps_of (Gc count) = count
steps_of (Flush count) = 0

-- how many of them lines ask for
abbrev pub steps_asked : List Line → ℕ
steps_asked lines = sum_by steps_of lines

-- how many events that write pages a line asks for
abbrev pub flushes_of : Line → ℕ
flushes_of (Client client cmd) = 0
flushes_of (Gc count) = 0
flushes_of (Flush count) = count

-- how many of them lines ask for
abbrev pub flushes_asked : List Line → ℕ
flushes_asked lines = sum_by flushes_of lines

-- how many events lines ask for: one for each command, and those of the two other kinds
abbrev pub events_asked : List Line → ℕ
events_asked lines = length (requests_asked lines) + steps_asked lines + flushes_asked lines
