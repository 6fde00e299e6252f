use denote.Exit.{no}
use denote.Param.{param}
use denote.Param.Send.{IsSend, IsSync, arg_send, param_send, recorded_send, sendable, struct_send}
use denote.Struct.Declared.{shape}
use denote.Struct.Field.{mut_ref_field, mut_slice_field, shr_ref_field}
use denote.Struct.Tuple.{field_at, type_at}
use mir.Syntax.{named}
use Rattle.std.specs.contracts.alloc.Global as heap
use Rattle.std.proofs.Crossing as crossing
use Rattle.std.proofs.Common.{◌∷◌, [], rules}
use Rattle.std.proofs.Math.Seq.{of_parts}
use Rattle.pm_types.specs.contracts.entry.Entry as entry
use Rattle.pm_engine.specs.Shown.{disk_in}
use Rattle.pm_passes.specs.contracts.pass.Pass as pass
use Rattle.pm_passes.proofs.pass.Pass.TheSendSync as passes
use Rattle.pm_passes.specs.Passes.{view_of}
use Rattle.pm_seats.specs.contracts.shared.Shared as sharing
use Rattle.pm_seats.specs.Sharing.{first_engine}
use Rattle.pm_seats.proofs.Crosses.{shared_sync}
use Rattle.pm_callers.specs.contracts.task.Task as task
use Rattle.pm_callers.proofs.task.Task.TheSendSync as tasks
use Rattle.pm_callers.proofs.Meeting.{half_enough, no_others, parts_are, spread_alone, spread_joined, spread_unjoined, still_enough, told_first, told_met, told_none, told_second, two_at_least}
use Rattle.pm_callers.proofs.workers.+workers.Goals as goal

-- ---- what crosses threads

pub beside-join_mut-requires-send-F : goal.beside-join_mut-requires-send-F
beside-join_mut-requires-send-F g t c κs within =
    let send_D : IsSend (param 0 g.row.D) = search sendable in
    let send_F : IsSend (param 1 g.row.F) = search sendable in
    let sync_G : IsSync (param 2 g.row.G) = search sendable in
    let sync_R : IsSync (param 3 g.row.R) = search (sendable, c.requires.crosses) in
    let shared = shared_sync (param 0 g.row.D) (param 1 g.row.F) g.D.Disk send_D send_F in
    -- pm_callers::workers::fn::beside::first+Self
    let name = 112 ∷ 109 ∷ 95 ∷ 99 ∷ 97 ∷ 108 ∷ 108 ∷ 101 ∷ 114 ∷ 115 ∷ 58 ∷ 58 ∷ 119 ∷ 111 ∷ 114 ∷ 107 ∷ 101 ∷ 114 ∷ 115 ∷ 58 ∷ 58 ∷ 102 ∷ 110 ∷ 58 ∷ 58 ∷ 98 ∷ 101 ∷ 115 ∷ 105 ∷ 100 ∷ 101 ∷ 58 ∷ 58 ∷ 102 ∷ 105 ∷ 114 ∷ 115 ∷ 116 ∷ 43 ∷ 83 ∷ 101 ∷ 108 ∷ 102 ∷ [] in
    let rows =
    (shr_ref_field (record { mir = named 8; lft = κs.1.1.1.1.1.1.1.1.0 }) (param 3 g.row.R) tt).row
    ∷ (shr_ref_field (record { mir = named 9; lft = κs.1.1.1.1.1.1.1.1.1.0 }) heap.the_row tt).row
    ∷ (shr_ref_field (record { mir = named 10; lft = κs.1.1.1.1.1.1.1.1.1.1.0 }) (sharing.the_row (param 0 g.row.D) (param 1 g.row.F) g.D.Disk) tt).row
    ∷ (shr_ref_field (record { mir = named 11; lft = κs.1.1.1.1.1.1.1.1.1.1.1.0 }) (param 2 g.row.G) tt).row
    ∷ (mut_ref_field (record { mir = named 12; lft = κs.1.1.1.1.1.1.1.1.1.1.1.1.0 }) (pass.the_row entry.the_row) tt).row
    ∷ (mut_slice_field (record { mir = named 13; lft = κs.1.1.1.1.1.1.1.1.1.1.1.1.1.0 }) task.the_row tt).row
    ∷ [] in
    param_send 1 _ (arg_send _ no _ (recorded_send (field_at name rows).row _ _ (type_at name rows).to_one (struct_send (shape (type_at name rows)) (
      search (sendable, sync_R),
      (
        search (sendable, crossing.crosses) depth 20,
        (
          search (sendable, shared),
          (
            search (sendable, sync_G),
            (search (sendable, passes.the_send), (search (sendable, tasks.the_send), tt)),
          ),
        ),
      ),
    ))))

-- ---- tasks of which one is the last

pub spread-work-requires-clause-task : goal.spread-work-requires-clause-task
spread-work-requires-clause-task g t c = (parts_are c.args.tasks.now c.in-Some.others.now c.in-Some.task.now c.in-Some.ensures.cases.0 c.requires.tasks).1

pub spread-split-requires-clause-shares : goal.spread-split-requires-clause-shares
spread-split-requires-clause-shares g t c = two_at_least _ _ _ c.in-Some.ensures.cases.1 c.requires.shares

pub spread-beside-met-requires-clause-tasks : goal.spread-beside-met-requires-clause-tasks
spread-beside-met-requires-clause-tasks g t c κs within = (parts_are c.args.tasks.now c.in-Some.others.now c.in-Some.task.now c.in-Some.ensures.cases.0 c.requires.tasks).0

pub spread-beside-met-requires-clause-task : goal.spread-beside-met-requires-clause-task
spread-beside-met-requires-clause-task g t c κs within = (parts_are c.args.tasks.now c.in-Some.others.now c.in-Some.task.now c.in-Some.ensures.cases.0 c.requires.tasks).1

pub spread-beside-met-requires-clause-shares : goal.spread-beside-met-requires-clause-shares
spread-beside-met-requires-clause-shares g t c κs within = half_enough _ _ (view_of c.args.pass.now) (view_of c.split.new.pass) (view_of c.in-Ok.other) c.in-Some.ensures.cases.1 c.requires.shares c.in-Ok.ensures.parts

pub spread-beside-met-requires-clause-pass : goal.spread-beside-met-requires-clause-pass
spread-beside-met-requires-clause-pass g t c κs within =
    let base = g.D.Disk.count (disk_in (first_engine c.args.shared.now)) in
    record { is_pass = c.in-Ok.ensures.pass; told = told_first base (view_of c.args.pass.now) (view_of c.split.new.pass) (view_of c.in-Ok.other) c.requires.pass.told c.in-Ok.ensures.parts }

pub spread-beside-met-requires-clause-other : goal.spread-beside-met-requires-clause-other
spread-beside-met-requires-clause-other g t c κs within =
    let base = g.D.Disk.count (disk_in (first_engine c.args.shared.now)) in
    record { is_pass = c.in-Ok.ensures.other; told = told_second base (view_of c.args.pass.now) (view_of c.split.new.pass) (view_of c.in-Ok.other) c.requires.pass.told c.in-Ok.ensures.parts }

pub spread-spread-met-requires-clause-tasks : goal.spread-spread-met-requires-clause-tasks
spread-spread-met-requires-clause-tasks g t c κs within = (parts_are c.args.tasks.now c.in-Some.others.now c.in-Some.task.now c.in-Some.ensures.cases.0 c.requires.tasks).0

pub spread-spread-met-requires-clause-shares : goal.spread-spread-met-requires-clause-shares
spread-spread-met-requires-clause-shares g t c κs within = still_enough _ _ (view_of c.args.pass.now) (view_of c.split.new.pass) c.in-Some.ensures.cases.1 c.requires.shares c.in-Err.ensures.none

pub spread-spread-met-requires-clause-pass : goal.spread-spread-met-requires-clause-pass
spread-spread-met-requires-clause-pass g t c κs within =
    let base = g.D.Disk.count (disk_in (first_engine c.args.shared.now)) in
    record { is_pass = c.in-Err.ensures.pass; told = told_none base (view_of c.args.pass.now) (view_of c.split.new.pass) c.requires.pass.told c.in-Err.ensures.none }

pub spread-returns-then-is_empty-clause-works : goal.spread-returns-then-is_empty-clause-works
spread-returns-then-is_empty-clause-works g t c =
    let base = g.D.Disk.count (disk_in (first_engine c.args.shared.now)) in
    let none = no_others c.in-Some.others.now c.is_empty.result c.is_empty.ensures (search rules) in
    spread_alone base c.args.tasks.now _ c.in-Some.others.now c.in-Some.others.now c.in-Some.task.now c.work.new.task (view_of c.args.pass.now) (view_of c.work.new.pass) c.work.result c.in-Some.ensures.cases.0 (search (rules, of_parts)) none none c.work.ensures.works

pub spread-returns-in-Ok-clause-pass : goal.spread-returns-in-Ok-clause-pass
spread-returns-in-Ok-clause-pass g t c =
    let base = g.D.Disk.count (disk_in (first_engine c.args.shared.now)) in
    record { is_pass = c.meet.ensures.pass; told = told_met base (view_of c.beside-met.new.pass) (view_of c.beside-met.new.other) (view_of c.meet.new.into) c.beside-met.ensures.pass.told c.meet.ensures.meets }

pub spread-returns-in-Ok-clause-works : goal.spread-returns-in-Ok-clause-works
spread-returns-in-Ok-clause-works g t c =
    let base = g.D.Disk.count (disk_in (first_engine c.args.shared.now)) in
    spread_joined base c.args.tasks.now _ c.in-Some.others.now c.beside-met.new.tasks c.in-Some.task.now c.beside-met.new.task (view_of c.args.pass.now) (view_of c.meet.new.into) c.worse.result c.in-Some.ensures.cases.0 (search (rules, of_parts))
    (view_of c.split.new.pass) (view_of c.in-Ok.other) (view_of c.beside-met.new.pass) (view_of c.beside-met.new.other) c.beside-met.result.0 c.beside-met.result.1 c.worse.ensures c.in-Ok.ensures.parts c.beside-met.ensures.together c.beside-met.ensures.works c.meet.ensures.meets

pub spread-returns-in-Err-clause-works : goal.spread-returns-in-Err-clause-works
spread-returns-in-Err-clause-works g t c =
    let base = g.D.Disk.count (disk_in (first_engine c.args.shared.now)) in
    spread_unjoined base c.args.tasks.now _ c.in-Some.others.now c.spread-met.new.tasks c.in-Some.task.now (view_of c.args.pass.now) (view_of c.spread-met.new.pass) c.worse-in-Err.result c.in-Some.ensures.cases.0 (search (rules, of_parts))
    (view_of c.split.new.pass) c.spread-met.result c.without_pass.result c.in-Err.none c.worse-in-Err.ensures c.in-Err.ensures.none c.spread-met.ensures.works c.without_pass.ensures.ends c.without_pass.ensures.memory
