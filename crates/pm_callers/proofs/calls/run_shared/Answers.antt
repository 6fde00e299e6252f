use Rattle.std.proofs.Common.{List, ◌≤◌, ◌^◌, length, arith, sym, subst, ◌∙◌}
use Rattle.pm_engine.specs.Shown.{disk_in}
use Rattle.pm_passes.specs.Passes.{view_of}
use Rattle.pm_seats.specs.Sharing.{first_engine}
use Rattle.pm_callers.specs.declared.task.Task.{Task}
use Rattle.pm_callers.specs.Works.{WorkTogether}
use Rattle.pm_callers.proofs.Closing.{enough_at_first, runs_tasks}
use Rattle.pm_callers.proofs.calls.run_shared.Goals as goal

pub spread-fault-requires-clause-shares : goal.spread-fault-requires-clause-shares
spread-fault-requires-clause-shares g c κs within =
    let v = view_of c.args.pass in
    subst (λ (tasks : List Task). 2 ^ length tasks ≤ v.shares) (sym c.as_mut_slice.ensures.value) (enough_at_first _ c.args.tasks.items v c.requires.opens c.requires.few)

pub spread-fault-requires-clause-pass : goal.spread-fault-requires-clause-pass
spread-fault-requires-clause-pass g c κs within = let told = c.requires.opens.faults in record { is_pass = c.requires.pass; told = omega (arith, told) }

pub returns : goal.returns
returns g c =
    let first = first_engine c.args.shared in
    let now = c.close-engine.result in
    let closed = c.close-engine.ensures in
    let opens = c.requires.opens in
    let v = view_of c.args.pass in
    let w = view_of c.spread-fault.new.pass in
    let works =
    subst (λ (tasks : List Task). WorkTogether (g.D.Disk.count (disk_in first)) tasks c.spread-fault.new.tasks v w c.spread-fault.result) c.as_mut_slice.ensures.value
    c.spread-fault.ensures.works in
    runs_tasks first now c.args.tasks.items c.spread-fault.new.tasks v w c.spread-fault.result opens works (closed.whole (works.counts.shares ∙ opens.shares)) c.keep_its_pass.ensures.own c.requires.tasks c.requires.apart
    c.keep_their_images.ensures.settled closed.goes closed.faults closed.events closed.lines
