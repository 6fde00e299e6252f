use denote.Param.{param}
use denote.Exit.{no}
use denote.Param.Send.{arg_send, param_send, recorded_send, sendable, struct_send}
use denote.Struct.Declared.{shape}
use denote.Struct.Field.{shr_ref_field, u32-field}
use denote.Struct.Tuple.{field_at, type_at}
use mathlib.Core.List.{[], ◌∷◌}
use mir.Syntax.{named}
use Rattle.std.specs.contracts.alloc.Global as heap
use Rattle.std.proofs.Crossing as crossing
use Rattle.pm_types.specs.contracts.command.Cmd as command
use Rattle.pm_types.specs.contracts.entry.Entry as entry
use Rattle.pm_types.proofs.command.Cmd.TheSendSync as commands
use Rattle.pm_passes.specs.contracts.pass.Pass as pass
use Rattle.pm_passes.proofs.pass.Pass.TheSendSync as passes
use Rattle.pm_seats.specs.contracts.shared.Shared as sharing
use Rattle.pm_seats.proofs.Crosses.{shared_sync}
use Rattle.pm_lock_cases.proofs.shared.call_together.Goals as goal

pub join-one-requires-send-F : goal.join-one-requires-send-F
join-one-requires-send-F g c κs within =
    let shared = shared_sync (param 0 g.row.D) (param 1 g.row.F) g.D.Disk c.type_bounds.send-D c.type_bounds.send-F in
    -- pm_lock_cases::shared::fn::call_together::join+arg2+Self
    let name = 112 ∷ 109 ∷ 95 ∷ 108 ∷ 111 ∷ 99 ∷ 107 ∷ 95 ∷ 99 ∷ 97 ∷ 115 ∷ 101 ∷ 115 ∷ 58 ∷ 58 ∷ 115 ∷ 104 ∷ 97 ∷ 114 ∷ 101 ∷ 100 ∷ 58 ∷ 58 ∷ 102 ∷ 110 ∷ 58 ∷ 58 ∷ 99 ∷ 97 ∷ 108 ∷ 108 ∷ 95 ∷ 116 ∷ 111 ∷ 103 ∷ 101 ∷ 116 ∷ 104 ∷ 101 ∷ 114 ∷ 58 ∷ 58 ∷ 106 ∷ 111 ∷ 105 ∷ 110 ∷ 43 ∷ 97 ∷ 114 ∷ 103 ∷ 50 ∷ 43 ∷ 83 ∷ 101 ∷ 108 ∷ 102 ∷ [] in
    let rows =
    (shr_ref_field (record { mir = named 6; lft = κs.1.1.1.1.1.1.0 }) (param 2 g.row.R) tt).row
    ∷ (shr_ref_field (record { mir = named 7; lft = κs.1.1.1.1.1.1.1.0 }) heap.the_row tt).row
    ∷ (shr_ref_field (record { mir = named 8; lft = κs.1.1.1.1.1.1.1.1.0 }) (sharing.the_row (param 0 g.row.D) (param 1 g.row.F) g.D.Disk) tt).row
    ∷ pass.the_row entry.the_row
    ∷ (shr_ref_field (record { mir = named 9; lft = κs.1.1.1.1.1.1.1.1.1.0 }) command.the_row tt).row
    ∷ (shr_ref_field (record { mir = named 10; lft = κs.1.1.1.1.1.1.1.1.1.1.0 }) u32-field.row tt).row
    ∷ [] in
    param_send 1 _ (arg_send _ no _ (recorded_send (field_at name rows).row _ _ (type_at name rows).to_one (struct_send (shape (type_at name rows)) (
      search (sendable, c.type_bounds.sync-R),
      (
        search (sendable, crossing.crosses) depth 20,
        (
          search (sendable, shared),
          (
            search (sendable, passes.the_send),
            (search (sendable, commands.the_sync), (search sendable, tt)),
          ),
        ),
      ),
    ))))
