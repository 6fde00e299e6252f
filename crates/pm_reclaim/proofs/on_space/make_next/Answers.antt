use Rattle.pm_view.specs.View.{SpaceView}
use Rattle.pm_view.specs.Law.{HeapLaw}
use Rattle.pm_view.specs.Stale.{IsSole}
use Rattle.pm_space.specs.Quiet.{IsQuiet}
use Rattle.pm_space.specs.Shown.{view}
use Rattle.pm_reclaim.proofs.Making.{holds_after, makes_found}
use Rattle.pm_reclaim.proofs.on_space.make_next.Goals as goal

pub invariant_of-space : goal.invariant_of-space
invariant_of-space g c =
    let space = c.prepared_row-row.new.space in
    let v = view space.parts in
    let w = view c.make.new.parts in
    let ok = c.make.ensures.row.ok in
    let err = c.make.ensures.row.err in
    record {
      kept = holds_after g.F.Fn space.parts.place v w HeapLaw c.make.result space.kept (λ new step event. c.an_event_that_was_made_keeps_all.ensures.law v new step space.kept event) ok err;
      still = holds_after g.F.Fn space.parts.place v w (λ (u : SpaceView). IsQuiet u space.quiet) c.make.result space.still c.prepared_row-row.ensures.kept.still ok err;
      sole = holds_after g.F.Fn space.parts.place v w (λ (u : SpaceView). IsSole u space.moved) c.make.result space.sole c.prepared_row-row.ensures.kept.sole ok err;
    }

pub returns : goal.returns
returns g c =
    let all = c.an_event_that_was_made_keeps_all.ensures in
    let space = c.prepared_row-row.new.space in
    makes_found g.F.Fn c.args.space.now.parts space.parts c.make.new.parts c.prepared_row-row.ensures.parts space.kept c.make.result all.worlds all.places all.work all.rank all.sunk all.phase all.progress c.make.ensures.row.ok c.make.ensures.row.err c.make.ensures.short c.make.ensures.row.rest
