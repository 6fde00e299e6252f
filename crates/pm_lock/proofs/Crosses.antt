-- A book crosses threads where its disk and its chooser do.
use denote.RattleType.{RattleType}
use denote.Param.Send.{IsSend, sendable, recorded_send, struct_send}
use denote.Struct.Declared.{shape}
use Rattle.std.proofs.Crossing as crossing
use Rattle.pm_disk.specs.declared.disk.Disk.{Ghosts}
use Rattle.pm_script.specs.contracts.Script as script
use Rattle.pm_script.proofs.parted.parts.Parts.TheSendSync as parts
use Rattle.pm_engine.specs.contracts.Engine as engine
use Rattle.pm_engine.proofs.Crosses.{engine_fields, engine_send, snapshot_send}
use Rattle.pm_lock.specs.contracts.book.Book as book

script_send : IsSend script.the_row
script_send = search (crossing.crosses, sendable) depth 60 fits 20000

module _ (D F : RattleType) (g : Ghosts D.Denot) (d : IsSend D) (f : IsSend F) where
  book_fields : IsSend (book.the_field D F g).row
  book_fields =
      struct_send (shape (book.the_type D F g)) (
        engine_fields D F g d f,
        (
          parts.the_field_send,
          (
            search sendable,
            (
              search sendable,
              (
                search (crossing.crosses, sendable) depth 20,
                (snapshot_send (engine.the_row D F g) (engine_send D F g d f), (snapshot_send script.the_row script_send, tt)),
              ),
            ),
          ),
        ),
      )

  pub book_send : IsSend (book.the_row D F g)
  book_send = recorded_send (book.the_field D F g).row _ _ (book.the_type D F g).to_one book_fields
