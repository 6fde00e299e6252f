-- What contracts see of the commands that are still to be asked.
use Rattle.std.specs.Prelude.{List, map}
use Rattle.std.specs.VecDeque.{deque_items}
use Rattle.pm_types.specs.declared.command.Cmd.{Cmd}
use Rattle.pm_script.specs.declared.parted.parts.Parts.{Parts}

-- the commands that are left, a list for each client
abbrev pub lists_in : Parts → List (List Cmd)
lists_in parts = map deque_items parts.queues.items
