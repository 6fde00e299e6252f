-- A disk over a file crosses threads where its runtime and its file do.
use denote.RattleType.{RattleType}
use denote.Param.Send.{IsSend, sendable, recorded_send, struct_send}
use denote.Struct.Declared.{shape}
use Rattle.std.proofs.Crossing as crossing
use Rattle.std.specs.contracts.rt.LibcRuntime as runtime
use Rattle.std.specs.contracts.fs.File as file
use Rattle.std.specs.contracts.fs.FileAsRawFd.TheImpl as described
use Rattle.std.specs.declared.os.fd.AsRawFd as descriptor
use Rattle.pm_file.specs.declared.store_file.StoreFile as store
use Rattle.pm_file.specs.contracts.store_file.FileStoreFile.TheImpl as stored
use Rattle.pm_file.specs.contracts.file_disk.FileDisk as disk
use Rattle.pm_file.specs.contracts.opening.Held as held
use Rattle.pm_file.proofs.opening.Held.TheSendSync as helds

held_send : (T : RattleType) (g : store.Ghosts T.Denot) (f : descriptor.Ghosts T.Denot) → IsSend T → IsSend (held.the_row T g f)
held_send T g f t = recorded_send (held.the_field T g f).row _ _ (held.the_type T g f).to_one (helds.the_field_send T g f t)

pub disk_send : (R T : RattleType) (g : store.Ghosts T.Denot) (f : descriptor.Ghosts T.Denot) → IsSend R → IsSend T → IsSend (disk.the_row R T g f)
disk_send R T g f r t =
    recorded_send (disk.the_field R T g f).row _ _ (disk.the_type R T g f).to_one (
    struct_send (shape (disk.the_type R T g f)) (
      search (sendable, r),
      (
        search (crossing.crosses, sendable) depth 60 fits 20000,
        (search (held_send, crossing.crosses, sendable, t) depth 60 fits 20000, (search (crossing.crosses, sendable) depth 60 fits 20000, (search sendable, tt))),
      ),
    )
    )

-- so does the disk over a real file
pub real_disk_send : IsSend (disk.the_row runtime.the_row file.the_row stored.ghosts described.ghosts)
real_disk_send =
    disk_send runtime.the_row file.the_row stored.ghosts described.ghosts (search (crossing.crosses, sendable) depth 60 fits 20000) (search (crossing.crosses, sendable) depth 60 fits 20000)
