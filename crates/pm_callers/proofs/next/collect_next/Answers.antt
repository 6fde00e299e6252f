use Rattle.std.proofs.Common.{◌-◌, arith, refl}
use Rattle.pm_engine.specs.Shown.{disk_in}
use Rattle.pm_passes.specs.Passes.{view_of}
use Rattle.pm_seats.specs.Sharing.{first_engine}
use Rattle.pm_callers.specs.declared.task.Task.TheVariants.{Collector}
use Rattle.pm_callers.proofs.Stepping.{collected, failed, still_told}
use Rattle.pm_callers.proofs.next.collect_next.Goals as goal

pub returns-in-Ok-clause-pass : goal.returns-in-Ok-clause-pass
returns-in-Ok-clause-pass g c =
    let base = g.D.Disk.count (disk_in (first_engine c.args.shared.now)) in
    let some = c.if-left-eq0.false in
    record {
      is_pass = c.in-Ok.ensures.pass;
      told = still_told base (Collector c.args.left.now) (Collector (c.args.left.now - 1)) _ _ _ (collected base (view_of c.args.pass.now) (view_of c.collect.new.pass) c.args.left.now (c.args.left.now - 1) (omega (arith, some)) c.in-Ok.ensures.answer) c.requires.pass.told;
    }

pub returns-in-Ok-clause-next : goal.returns-in-Ok-clause-next
returns-in-Ok-clause-next g c =
    let base = g.D.Disk.count (disk_in (first_engine c.args.shared.now)) in
    let some = c.if-left-eq0.false in
    (collected base (view_of c.args.pass.now) (view_of c.collect.new.pass) c.args.left.now (c.args.left.now - 1) (omega (arith, some)) c.in-Ok.ensures.answer, omega (arith, some))

pub returns-in-Err-clause-pass : goal.returns-in-Err-clause-pass
returns-in-Err-clause-pass g c =
    let base = g.D.Disk.count (disk_in (first_engine c.args.shared.now)) in
    record {
      is_pass = c.in-Err.ensures.pass;
      told = still_told base (Collector c.args.left.now) (Collector c.args.left.now) _ _ _ (failed base (view_of c.args.pass.now) (view_of c.collect.new.pass) (Collector c.args.left.now) c.in-Err.fault c.requires.pass.told c.in-Err.ensures.answer) c.requires.pass.told;
    }

pub returns-in-Err-clause-next : goal.returns-in-Err-clause-next
returns-in-Err-clause-next g c =
    let base = g.D.Disk.count (disk_in (first_engine c.args.shared.now)) in
    let some = c.if-left-eq0.false in
    (failed base (view_of c.args.pass.now) (view_of c.collect.new.pass) (Collector c.args.left.now) c.in-Err.fault c.requires.pass.told c.in-Err.ensures.answer, refl, omega (arith, some))
