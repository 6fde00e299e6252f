-- An engine crosses threads where its disk and its chooser do.
use denote.RattleType.{RattleType}
use denote.Param.Send.{IsSend, sendable, recorded_send, struct_send}
use denote.Struct.Declared.{shape}
use Rattle.std.specs.contracts.snapshot.Snapshot as snapshot
use Rattle.std.proofs.Crossing as crossing
use Rattle.pm_disk.specs.declared.disk.Disk.{Ghosts}
use Rattle.pm_space.specs.contracts.Space as space
use Rattle.pm_space.proofs.space.Space.TheSendSync as spaces
use Rattle.pm_shadow.specs.contracts.Pages as pages
use Rattle.pm_shadow.proofs.pages.Pages.TheSendSync as page_sets
use Rattle.pm_save.proofs.saver.Saver.TheSendSync as savers
use Rattle.pm_engine.specs.contracts.works.start.Start as start
use Rattle.pm_engine.specs.contracts.works.works.Works as works
use Rattle.pm_engine.specs.contracts.works.course.Course as course
use Rattle.pm_engine.specs.contracts.works.forgotten.Forgotten as forgotten
use Rattle.pm_engine.specs.contracts.works.past.Past as past
use Rattle.pm_engine.specs.contracts.engine.Engine as engine

-- a value as it was, which has no bytes
pub snapshot_send : (X : RattleType) → IsSend X → IsSend (snapshot.the_row X)
snapshot_send X s = search (crossing.crosses, sendable) depth 20

space_send : (F : RattleType) → IsSend F → IsSend (space.the_row F)
space_send F f = recorded_send (space.the_field F).row _ _ (space.the_type F).to_one (spaces.the_field_send F f)

pages_send : (D : RattleType) (g : Ghosts D.Denot) → IsSend D → IsSend (pages.the_row D g)
pages_send D g d = recorded_send (pages.the_field D g).row _ _ (pages.the_type D g).to_one (page_sets.the_field_send D g d)

-- what had been made before each entry, of which no byte is kept
course_send : IsSend (course.the_field).row
course_send = search (crossing.crosses, sendable) depth 60 fits 20000

-- the entries that were let go, of which none is kept, and how many there were
forgotten_send : IsSend (forgotten.the_field).row
forgotten_send = search (crossing.crosses, sendable) depth 60 fits 20000

past_fields : IsSend (past.the_field).row
past_fields = struct_send (shape past.the_type) (forgotten_send, (search sendable, tt))

module _ (D F : RattleType) (g : Ghosts D.Denot) (d : IsSend D) (f : IsSend F) where
  -- what an engine was opened with
  start_fields : IsSend (start.the_field D F g).row
  start_fields =
      struct_send (shape (start.the_type D F g)) (
        search sendable,
        (snapshot_send (space.the_row F) (space_send F f), (snapshot_send (pages.the_row D g) (pages_send D g d), (search sendable, tt))),
      )

  -- what an engine works on
  works_fields : IsSend (works.the_field D F g).row
  works_fields =
      struct_send (shape (works.the_type D F g)) (
        page_sets.the_field_send D g d,
        (
          spaces.the_field_send F f,
          (
            savers.the_field_send,
            (
              past_fields,
              (
                search (crossing.crosses, sendable) depth 40 fits 20000,
                (course_send, (search (crossing.crosses, sendable) depth 40 fits 20000, (search sendable, (search sendable, tt)))),
              ),
            ),
          ),
        ),
      )

  -- an engine
  pub engine_fields : IsSend (engine.the_field D F g).row
  engine_fields = struct_send (shape (engine.the_type D F g)) (works_fields, (start_fields, (search (crossing.crosses, sendable) depth 20, (search (crossing.crosses, sendable) depth 20, tt))))

  pub engine_send : IsSend (engine.the_row D F g)
  engine_send = recorded_send (engine.the_field D F g).row _ _ (engine.the_type D F g).to_one engine_fields
