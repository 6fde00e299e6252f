-- A logbook crosses threads where its disk and its chooser do, and then callers in threads may share it.
use denote.RattleType.{RattleType}
use denote.Param.Send.{IsSend, IsSync, sendable, recorded_send, recorded_sync, struct_send, struct_sync}
use denote.Struct.Declared.{shape}
use Rattle.std.proofs.Crossing as crossing
use Rattle.pm_types.specs.contracts.entry.Entry as entry
use Rattle.pm_disk.specs.declared.disk.Disk.{Ghosts}
use Rattle.pm_engine.specs.contracts.Engine as engine
use Rattle.pm_engine.proofs.Crosses.{engine_fields, engine_send, snapshot_send}
use Rattle.pm_passes.proofs.home.Home.TheSendSync as homes
use Rattle.pm_seats.specs.contracts.callers.Callers as callers
use Rattle.pm_seats.specs.contracts.logbook.Logbook as logbook
use Rattle.pm_seats.specs.contracts.shared.Shared as sharing

-- who made each entry, of which no byte is kept
callers_send : IsSend (callers.the_field).row
callers_send = search (crossing.crosses, sendable) depth 60 fits 20000

module _ (D F : RattleType) (g : Ghosts D.Denot) (d : IsSend D) (f : IsSend F) where
  logbook_fields : IsSend (logbook.the_field D F g).row
  logbook_fields =
      struct_send (shape (logbook.the_type D F g)) (engine_fields D F g d f, (callers_send, (search sendable, (snapshot_send (engine.the_row D F g) (engine_send D F g d f), tt))))

  pub logbook_send : IsSend (logbook.the_row D F g)
  logbook_send = recorded_send (logbook.the_field D F g).row _ _ (logbook.the_type D F g).to_one logbook_fields

  shared_fields : IsSync (sharing.the_field D F g).row
  shared_fields = struct_sync (shape (sharing.the_type D F g)) (homes.the_field_sync (logbook.the_row D F g) entry.the_row (engine.the_row D F g) _ logbook_send, tt)

  pub shared_sync : IsSync (sharing.the_row D F g)
  shared_sync = recorded_sync (sharing.the_field D F g).row _ _ (sharing.the_type D F g).to_one shared_fields
