use denote.Param.Send.{sendable}
use Rattle.pm_disk.proofs.Crossing.{disk_send}
use Rattle.pm_case_runs.proofs.meeting_cases.running.run_words.Goals as goal

pub pmos-requires-send-D : goal.pmos-requires-send-D
pmos-requires-send-D g c κs within = search (sendable, disk_send)

pub pmos-requires-send-E : goal.pmos-requires-send-E
pmos-requires-send-E g c κs within = search (sendable, disk_send)
