-- A disk with a fuse may go to another thread where its inner disk may.
use denote.RattleType.{RattleType}
use denote.Param.Send.{IsSend, owning_send, recorded_send, struct_send, sendable}
use denote.Struct.Declared.{shape}
use Rattle.pm_disk.specs.contracts.fuse.misses.Misses as Misses
use Rattle.pm_disk.specs.contracts.fuse.fuse_disk.FuseDisk as FuseDisk

pub misses_send : IsSend Misses.the_row
misses_send = owning_send Misses.the_type tt (λ d. tt) (λ k x w. tt)

fuse_fields : (D : RattleType) → IsSend D → IsSend (FuseDisk.the_field D).row
fuse_fields D d = struct_send (shape (FuseDisk.the_type D)) (d, (search sendable, (search sendable, (misses_send, tt))))

pub fuse_send : (D : RattleType) → IsSend D → IsSend (FuseDisk.the_row D)
fuse_send D d = recorded_send (FuseDisk.the_field D).row _ _ (FuseDisk.the_type D).to_one (fuse_fields D d)
