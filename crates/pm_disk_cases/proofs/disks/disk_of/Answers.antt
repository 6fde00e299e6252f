use denote.Param.Send.{sendable}
use Rattle.pm_disk.proofs.Crossing.{disk_send}
use Rattle.pm_disk_cases.proofs.disks.disk_of.Goals as goal

pub is_sent-requires-send-T : goal.is_sent-requires-send-T
is_sent-requires-send-T c κs = search (sendable, disk_send)
