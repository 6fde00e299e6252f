use denote.Param.Send.{sendable}
use Rattle.pm_disk.proofs.Crossing.{disk_send}
use Rattle.pm_lock_cases.proofs.reopened.push_run.Goals as goal

pub run_calls-fault-requires-send-D : goal.run_calls-fault-requires-send-D
run_calls-fault-requires-send-D g c κs within = search (sendable, disk_send)
