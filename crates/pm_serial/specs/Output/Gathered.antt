-- What is gathered in a buffer.
use Rattle.std.specs.Prelude.{ℕ, List, take}
use Rattle.pm_serial.specs.declared.output.output.Output.{Output}

-- the bytes that were added and did not go to the sink yet
abbrev pub gathered : Output → List ℕ
gathered it = take it.used it.bytes.items
