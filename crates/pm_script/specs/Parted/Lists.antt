-- Lists of commands, one for each client.
use Rattle.std.specs.Prelude.{ℕ, List, [], length, slice_index_or}
use Rattle.std.specs.List.{sum_by}
use Rattle.pm_types.specs.declared.command.Cmd.{Cmd}

-- the list of one client
abbrev pub list_of : List (List Cmd) → ℕ → List Cmd
list_of lists client = slice_index_or lists client []

-- how many commands there are
abbrev pub count_left : List (List Cmd) → ℕ
count_left lists = sum_by length lists
