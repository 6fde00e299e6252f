-- A disk in memory may go to another thread.
use denote.Param.Send.{IsSend, owning_send, sendable}
use Rattle.std.proofs.Crossing.{crosses}
use Rattle.pm_disk.specs.contracts.moments.Moments as Moments
use Rattle.pm_disk.specs.contracts.call.DiskCall as DiskCall
use Rattle.pm_disk.specs.contracts.mem_disk.MemDisk as MemDisk

pub moments_send : IsSend Moments.the_row
moments_send = owning_send Moments.the_type tt (λ d. tt) (λ k x w. tt)

pub call_send : IsSend DiskCall.the_row
call_send = search (sendable, crosses) depth 20

pub disk_send : IsSend MemDisk.the_row
disk_send = search (sendable, crosses, moments_send, call_send) depth 20
