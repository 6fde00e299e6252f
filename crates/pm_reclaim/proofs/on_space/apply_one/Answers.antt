use Rattle.pm_view.specs.View.{SpaceView}
use Rattle.pm_view.specs.Law.{HeapLaw}
use Rattle.pm_view.specs.Events.{Row, apply, next_row}
use Rattle.pm_view.specs.Stale.{IsSole}
use Rattle.pm_space.specs.Quiet.{IsQuiet}
use Rattle.pm_space.specs.Shown.{view}
use Rattle.pm_evac.specs.Steps.{IsApply, TakesMemory}
use Rattle.pm_reclaim.proofs.Making.{holds_after, found_takes, makes_found}
use Rattle.pm_reclaim.proofs.on_space.apply_one.Goals as goal

-- such an event may take memory
takes_memory : (row : Row) → IsApply row → TakesMemory row
takes_memory (apply car) is = tt
takes_memory row is = absurd is

pub invariant_of-space : goal.invariant_of-space
invariant_of-space g c =
    let space = c.prepared_row.new.space in
    let v = view space.parts in
    let w = view c.apply_at.new.parts in
    let ok = c.apply_at.ensures.row.ok in
    let err = c.apply_at.ensures.row.err in
    record {
      kept = holds_after g.F.Fn space.parts.place v w HeapLaw c.apply_at.result space.kept (λ new step event. c.an_event_that_was_made_keeps_all.ensures.law v new step space.kept event) ok err;
      still = holds_after g.F.Fn space.parts.place v w (λ (u : SpaceView). IsQuiet u space.quiet) c.apply_at.result space.still c.prepared_row.ensures.kept.still ok err;
      sole = holds_after g.F.Fn space.parts.place v w (λ (u : SpaceView). IsSole u space.moved) c.apply_at.result space.sole c.prepared_row.ensures.kept.sole ok err;
    }

pub returns : goal.returns
returns g c =
    let all = c.an_event_that_was_made_keeps_all.ensures in
    let space = c.prepared_row.new.space in
    makes_found g.F.Fn c.args.space.now.parts space.parts c.apply_at.new.parts c.prepared_row.ensures.parts space.kept c.apply_at.result all.worlds all.places all.work all.rank all.sunk all.phase all.progress c.apply_at.ensures.row.ok c.apply_at.ensures.row.err
    (found_takes c.args.space.now.parts space.parts c.apply_at.result c.prepared_row.ensures.parts (takes_memory (next_row (view c.args.space.now.parts)) c.requires)) c.apply_at.ensures.row.rest
