-- Which fault is told, where several workers met one.
use Rattle.std.specs.Prelude.{ℕ, Bool, true, false, List, [], ◌∷◌, Option, Some, None, if◌then◌else◌, nat_lt}
use Rattle.pm_types.specs.declared.fault.EngineFault.TheVariants.{Memory, Disk, Reopen}
use Rattle.pm_engine.specs.declared.events.stop.Stop.{Stop}
use Rattle.pm_engine.specs.Events.Causes.{stop_of}
use Rattle.pm_seats.specs.declared.fault.SeatFault.{SeatFault}
use Rattle.pm_seats.specs.declared.fault.SeatFault.TheVariants.{Engine as Answered, Spent}

-- how much a fault weighs
abbrev pub weight : Option SeatFault → ℕ
weight None = 0
weight (Some (Spent events)) = 1
weight (Some (Answered (Memory _))) = 2
weight (Some (Answered (Reopen count))) = 3
weight (Some (Answered (Disk before after))) = 4

-- the one that weighs more; of two of a kind the first
abbrev pub worse_of : Option SeatFault → Option SeatFault → Option SeatFault
worse_of first second = if nat_lt (weight first) (weight second) then second else first

-- the worst of this one and of what several met, in their order
abbrev pub worst_from : Option SeatFault → List (Option SeatFault) → Option SeatFault
worst_from worst [] = worst
worst_from worst (met ∷ others) = worst_from (worse_of worst met) others

-- the worst of what several met
abbrev pub worst_of : List (Option SeatFault) → Option SeatFault
worst_of all = worst_from None all

-- whether it is a fault that the disk met in that call
abbrev pub is_disk : Option SeatFault → Bool
is_disk None = false
is_disk (Some (Spent events)) = false
is_disk (Some (Answered (Memory _))) = false
is_disk (Some (Answered (Reopen count))) = false
is_disk (Some (Answered (Disk before after))) = true

-- a fault that is told is one of the engine
abbrev pub IsOfEngine : Option SeatFault → Type 0
IsOfEngine None = Unit {0}
IsOfEngine (Some (Spent events)) = ⊥
IsOfEngine (Some (Answered fault)) = Unit {0}

-- why a run stops after it
abbrev pub stop_met : Option SeatFault → Option Stop
stop_met None = None
stop_met (Some (Spent events)) = None
stop_met (Some (Answered fault)) = Some (stop_of fault)
