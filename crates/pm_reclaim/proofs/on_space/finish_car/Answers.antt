use Rattle.std.proofs.Common.{Ok}
use Rattle.pm_view.specs.View.{SpaceView}
use Rattle.pm_view.specs.Law.{HeapLaw}
use Rattle.pm_view.specs.Stale.{IsSole}
use Rattle.pm_space.specs.Quiet.{IsQuiet}
use Rattle.pm_space.specs.Shown.{view}
use Rattle.pm_reclaim.proofs.Making.{holds_after, makes_found}
use Rattle.pm_reclaim.proofs.on_space.finish_car.Goals as goal

pub invariant_of-space : goal.invariant_of-space
invariant_of-space g c =
    let space = c.prepared_row.new.space in
    let v = view space.parts in
    let w = view c.finish_at.new.parts in
    let event = c.finish_at.ensures.event in
    record {
      kept = holds_after g.F.Fn space.parts.place v w HeapLaw (Ok c.finish_at.result) space.kept (λ new step event. c.an_event_that_was_made_keeps_all.ensures.law v new step space.kept event) event tt;
      still = holds_after g.F.Fn space.parts.place v w (λ (u : SpaceView). IsQuiet u space.quiet) (Ok c.finish_at.result) space.still c.prepared_row.ensures.kept.still event tt;
      sole = holds_after g.F.Fn space.parts.place v w (λ (u : SpaceView). IsSole u space.moved) (Ok c.finish_at.result) space.sole c.prepared_row.ensures.kept.sole event tt;
    }

pub returns : goal.returns
returns g c =
    let all = c.an_event_that_was_made_keeps_all.ensures in
    let space = c.prepared_row.new.space in
    makes_found g.F.Fn c.args.space.now.parts space.parts c.finish_at.new.parts c.prepared_row.ensures.parts space.kept (Ok c.finish_at.result) all.worlds all.places all.work all.rank all.sunk all.phase all.progress c.finish_at.ensures.event tt tt c.finish_at.ensures.rest
