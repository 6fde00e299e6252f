use denote.Param.Send.{sendable}
use Rattle.pm_disk.proofs.Crossing.{disk_send}
use Rattle.pm_lock_cases.proofs.called.push_gated.Goals as goal

pub push_run-requires-send-D : goal.push_run-requires-send-D
push_run-requires-send-D g c κs within = search (sendable, disk_send)
