use denote.Param.Send.{sendable}
use Rattle.pm_disk.proofs.Crossing.{disk_send}
use Rattle.pm_lock_cases.proofs.shared.push_passes.Goals as goal

pub push_shared-requires-send-D : goal.push_shared-requires-send-D
push_shared-requires-send-D g c κs within = search (sendable, disk_send)
