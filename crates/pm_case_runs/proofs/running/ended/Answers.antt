use denote.Param.Send.{sendable}
use Rattle.pm_disk.proofs.Crossing.{disk_send}
use Rattle.pm_disk.proofs.FuseLemmas.Crossing.{fuse_send}
use Rattle.pm_case_runs.proofs.running.ended.Goals as goal

pub pmos-requires-send-D : goal.pmos-requires-send-D
pmos-requires-send-D g c κs within = search (sendable, fuse_send, disk_send)

pub pmos-requires-send-E : goal.pmos-requires-send-E
pmos-requires-send-E g c κs within = search (sendable, fuse_send, disk_send)
