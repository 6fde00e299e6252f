-- Which events are made here.
use Rattle.pm_view.specs.Events.{Row, select, doom, start}

-- the event selects a train
abbrev pub IsSelect : Row → Type 0
IsSelect (select train) = Unit {0}
IsSelect row = ⊥

-- the event decides what becomes of a train
abbrev pub IsDecide : Row → Type 0
IsDecide (doom train) = Unit {0}
IsDecide (start car a) = Unit {0}
IsDecide row = ⊥
