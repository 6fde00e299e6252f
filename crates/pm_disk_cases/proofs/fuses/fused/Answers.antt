use denote.Param.Send.{sendable}
use Rattle.pm_disk.proofs.Crossing.{disk_send}
use Rattle.pm_disk.proofs.FuseLemmas.Crossing.{fuse_send}
use Rattle.pm_disk_cases.proofs.fuses.fused.Goals as goal

pub is_sent-requires-send-T : goal.is_sent-requires-send-T
is_sent-requires-send-T c κs = search (sendable, fuse_send, disk_send)
