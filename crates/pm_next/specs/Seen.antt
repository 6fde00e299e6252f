-- Which event a row of the code is.
use Rattle.pm_next.specs.declared.row.Row.{Row}
use Rattle.pm_next.specs.declared.row.Row.TheVariants as rows
use Rattle.pm_view.specs.Events.{nothing, select, apply, doom, start, fix, move_anchor, move_out, move_on, finish, sweep, free, free_doomed}
use Rattle.pm_view.specs.Events as events

-- the row of the definition
abbrev pub seen_row : Row → events.Row
seen_row rows.Nothing = nothing
seen_row (rows.Select train) = select train
seen_row (rows.Apply car) = apply car
seen_row (rows.Doom train) = doom train
seen_row (rows.Start car a) = start car a
seen_row (rows.Fix car source to) = fix car source to
seen_row (rows.MoveAnchor a to) = move_anchor a to
seen_row (rows.MoveOut a) = move_out a
seen_row (rows.MoveOn a train) = move_on a train
seen_row (rows.Finish car) = finish car
seen_row (rows.Sweep a) = sweep a
seen_row (rows.Free car) = free car
seen_row (rows.FreeDoomed train car) = free_doomed train car
