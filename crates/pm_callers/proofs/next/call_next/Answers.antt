use Rattle.std.proofs.Common.{None, Some, ap, arith, length, refl}
use Rattle.pm_types.specs.declared.command.Cmd.{Cmd}
use Rattle.pm_engine.specs.Shown.{disk_in}
use Rattle.pm_passes.specs.Passes.{view_of}
use Rattle.pm_script.proofs.PartedLemmas.Beside.{queue_first}
use Rattle.pm_seats.specs.Sharing.{first_engine}
use Rattle.pm_callers.specs.declared.task.Task.TheVariants.{Client}
use Rattle.pm_callers.proofs.Stepping.{called, called_told, failed, queue_empty, queue_taken, still_told}
use Rattle.pm_callers.proofs.next.call_next.Goals as goal

pub returns-in_default-clause-next : goal.returns-in_default-clause-next
returns-in_default-clause-next g c =
    let was = c.args.commands.now in
    (refl, refl, queue_empty {R = Unit {0}} None was.items was.len was.ok.0 c.in_default.ensures.variant refl)

pub returns-in-Ok-clause-pass : goal.returns-in-Ok-clause-pass
returns-in-Ok-clause-pass g c =
    let base = g.D.Disk.count (disk_in (first_engine c.args.shared.now)) in
    record {
      is_pass = c.in-Ok.ensures.pass;
      told = called_told base c.args.client c.in-Some.cmd.now (view_of c.args.pass.now) (view_of c.call.new.pass) c.in-Ok.seen c.in-Ok.ensures.answer c.requires.pass.told;
    }

pub returns-in-Ok-clause-next : goal.returns-in-Ok-clause-next
returns-in-Ok-clause-next g c =
    let base = g.D.Disk.count (disk_in (first_engine c.args.shared.now)) in
    let was = c.args.commands.now in
    let is = c.pop_front.new.self in
    let first = queue_first (λ cmd. cmd.now) was.items was.items was.len (Some c.in-Some.cmd) refl was.ok.0 c.in-Some.ensures.variant c.in-Some.ensures.lookup in
    let next = queue_taken c.pop_front.result was.items first.0 is.items c.in-Some.cmd.now was.len c.pop_front.ensures.items was.ok.0 c.pop_front.ensures.variant first.1 in
    let fewer = ap (length {A = Cmd}) next in
    (called base c.args.client (view_of c.args.pass.now) (view_of c.call.new.pass) c.in-Some.cmd.now was is c.in-Ok.seen next c.in-Ok.ensures.answer, omega (arith, fewer))

pub returns-in-Err-clause-pass : goal.returns-in-Err-clause-pass
returns-in-Err-clause-pass g c =
    let base = g.D.Disk.count (disk_in (first_engine c.args.shared.now)) in
    record {
      is_pass = c.in-Err.ensures.pass;
      told = still_told base (Client c.args.client c.args.commands.now) (Client c.args.client c.args.commands.now) _ _ _ (failed base (view_of c.args.pass.now) (view_of c.call.new.pass) (Client c.args.client c.args.commands.now) c.in-Err.fault c.requires.pass.told c.in-Err.ensures.answer) c.requires.pass.told;
    }

pub returns-in-Err-clause-next : goal.returns-in-Err-clause-next
returns-in-Err-clause-next g c =
    let base = g.D.Disk.count (disk_in (first_engine c.args.shared.now)) in
    let was = c.args.commands.now in
    let first = queue_first (λ cmd. cmd.now) was.items was.items was.len (Some c.in-Some.cmd) refl was.ok.0 c.in-Some.ensures.variant c.in-Some.ensures.lookup in (
      failed base (view_of c.args.pass.now) (view_of c.call.new.pass) (Client c.args.client c.args.commands.now) c.in-Err.fault c.requires.pass.told c.in-Err.ensures.answer,
      refl,
      (c.in-Some.cmd.now, first.0, first.1),
    )
