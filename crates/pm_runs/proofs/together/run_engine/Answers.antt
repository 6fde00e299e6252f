use Rattle.std.proofs.Common.{◌≡◌, ◌∙◌, ap, refl, sym, subst, List, None, Some}
use Rattle.std.proofs.Math.Logic.{∥∥₁_map₂}
use Rattle.pm_types.specs.declared.entry.Entry.{Entry}
use Rattle.pm_engine.specs.Shown.{disk_in, past_of, serving, tally_in, unmade_in}
use Rattle.pm_engine.specs.Events.Causes.{why}
use Rattle.pm_engine.proofs.WorksLemmas.Whole.{whole_kept}
use Rattle.pm_runs.specs.declared.ends.ended.Detail.TheVariants.{Fine}
use Rattle.pm_runs.specs.declared.writes.Writes.TheVariants.{Replies}
use Rattle.pm_serial.specs.Acknowledged.{AcknowledgesLast}
use Rattle.pm_serial.specs.Writing.{tail_of}
use Rattle.pm_runs.specs.Threads.Together.{ServesBy, ServesTogether}
use Rattle.pm_runs.specs.Ends.Ends.{IsUnwritten, ended_by, stop_in}
use Rattle.pm_runs.specs.Ends.Journals.{ServesLines}
use Rattle.pm_runs.specs.Ends.Causes.{ShowsCauses}
use Rattle.pm_runs.specs.Engines.{RunsEngine}
use Rattle.pm_runs.proofs.EndsLemmas.Parts.{at_end}
use Rattle.pm_runs.proofs.Ran.{acknowledged_last, engine_run, clients_served, causes_end, served_by, served_together, sink_back}
use Rattle.pm_runs.proofs.together.run_engine.Goals as goal

pub returns-clause-serves : goal.returns-clause-serves
returns-clause-serves g c =
    let run = c.run_workers-outcome in
    let new = run.result.1 in
    let stop = why run.result.0 in
    let a = c.args.disk_before in
    let b = c.faults.result in
    let x = c.faults-sink_before.result in
    let y = c.faults-sink_after.result in
    let parts = c.into_parts-disk in
    let whole = whole_kept (serving new).journal (past_of new) parts.result.1.items run.ensures.whole parts.ensures.journal in
    let e = c.end_with.ensures in
    at_end (λ it. ServesLines c.args.script it.detail it.journal.items it.tally) c.end_with.result {detail = ended_by stop a b x y} {disk = disk_in new}
    (◌∙◌ {c = ended_by stop a b x y} e.detail c.ended_by-detail.ensures) e.tally e.young (e.disk ∙ parts.ensures.disk) e.source e.sink
    (subst (λ (j : List Entry). ServesLines c.args.script (ended_by stop a b x y) j (Some parts.result.2)) (sym (ap (λ v. v.items) e.journal ∙ whole))
    (clients_served c.args.script (serving new) (unmade_in new) parts.result.2 stop a b x y parts.ensures.tally run.ensures.answers))

pub returns-clause-runs : goal.returns-clause-runs
returns-clause-runs g c =
    let run = c.run_workers-outcome in
    let new = run.result.1 in
    let stop = why run.result.0 in
    let a = c.args.disk_before in
    let b = c.faults.result in
    let x = c.faults-sink_before.result in
    let y = c.faults-sink_after.result in
    let kept = c.keep_their_images.ensures in
    let parts = c.into_parts-disk in
    let whole = whole_kept (serving new).journal (past_of new) parts.result.1.items run.ensures.whole parts.ensures.journal in
    let e = c.end_with.ensures in
    ∥∥₁_map₂ run.ensures.disk run.ensures.start (λ on_disk start.
    at_end (λ it. RunsEngine g.K.Sink Replies c.args.engine c.args.sink it) c.end_with.result {detail = ended_by stop a b x y} {disk = disk_in new}
    (◌∙◌ {c = ended_by stop a b x y} e.detail c.ended_by-detail.ensures) e.tally e.young (e.disk ∙ parts.ensures.disk) e.source e.sink
    (engine_run g.K.Sink Replies c.args.engine new parts.result.2 c.args.source c.args.sink run.new.sink c.end_with.result stop a b x y
    (ap (λ v. v.items) e.journal ∙ whole) on_disk start
    (record {
      served = kept.served;
      course = kept.told;
      watching = kept.watching;
      standing = kept.standing;
      lawful = kept.law;
      history = kept.history;
      bounded = kept.bounds;
      store = kept.store;
      few = kept.few;
      gone = kept.gone;
    }) kept.closed kept.legal parts.ensures.tally parts.ensures.honest run.ensures.sink))

pub returns-clause-together : goal.returns-clause-together
returns-clause-together g c =
    let run = c.run_workers-outcome in
    let new = run.result.1 in
    let stop = why run.result.0 in
    let a = c.args.disk_before in
    let b = c.faults.result in
    let x = c.faults-sink_before.result in
    let y = c.faults-sink_after.result in
    let parts = c.into_parts-disk in
    let whole = whole_kept (serving new).journal (past_of new) parts.result.1.items run.ensures.whole parts.ensures.journal in
    let e = c.end_with.ensures in
    at_end (λ it. ServesTogether (λ lines. lines ≡ c.args.script) it.detail it.journal.items it.tally) c.end_with.result {detail = ended_by stop a b x y} {disk = disk_in new}
    (◌∙◌ {c = ended_by stop a b x y} e.detail c.ended_by-detail.ensures) e.tally e.young (e.disk ∙ parts.ensures.disk) e.source e.sink
    (served_together c.args.script (serving new) (unmade_in new) c.end_with.result.journal.items parts.result.2 stop a b x y parts.ensures.tally (ap (λ v. v.items) e.journal ∙ whole) run.ensures.order)

pub returns-clause-by : goal.returns-clause-by
returns-clause-by g c =
    let run = c.run_workers-outcome in
    let new = run.result.1 in
    let stop = why run.result.0 in
    let a = c.args.disk_before in
    let b = c.faults.result in
    let x = c.faults-sink_before.result in
    let y = c.faults-sink_after.result in
    let parts = c.into_parts-disk in
    let whole = whole_kept (serving new).journal (past_of new) parts.result.1.items run.ensures.whole parts.ensures.journal in
    let e = c.end_with.ensures in
    at_end (λ it. ServesBy c.args.way (λ lines. lines ≡ c.args.script) it.detail it.journal.items it.tally) c.end_with.result {detail = ended_by stop a b x y} {disk = disk_in new}
    (◌∙◌ {c = ended_by stop a b x y} e.detail c.ended_by-detail.ensures) e.tally e.young (e.disk ∙ parts.ensures.disk) e.source e.sink
    (served_by c.args.script (serving new) (unmade_in new) c.end_with.result.journal.items parts.result.2 stop a b x y parts.ensures.tally (ap (λ v. v.items) e.journal ∙ whole) c.args.way run.ensures.by)

pub returns-clause-saved : goal.returns-clause-saved
returns-clause-saved g c =
    let run = c.run_workers-outcome in
    let new = run.result.1 in
    let stop = why run.result.0 in
    let a = c.args.disk_before in
    let b = c.faults.result in
    let x = c.faults-sink_before.result in
    let y = c.faults-sink_after.result in
    let parts = c.into_parts-disk in
    let whole = whole_kept (serving new).journal (past_of new) parts.result.1.items run.ensures.whole parts.ensures.journal in
    let e = c.end_with.ensures in
    at_end (λ it. AcknowledgesLast g.K.Sink c.args.sink it.sink it.journal.items (stop_in it.detail)) c.end_with.result {detail = ended_by stop a b x y} {disk = disk_in new}
    (◌∙◌ {c = ended_by stop a b x y} e.detail c.ended_by-detail.ensures) e.tally e.young (e.disk ∙ parts.ensures.disk) e.source e.sink
    (acknowledged_last g.K.Sink c.args.sink run.new.sink (tail_of (tally_in (serving new))) (serving new).journal c.end_with.result.journal.items stop a b x y
    (ap (λ v. v.items) e.journal ∙ whole) run.ensures.sink)

pub returns-clause-causes : goal.returns-clause-causes
returns-clause-causes g c =
    let run = c.run_workers-outcome in
    let new = run.result.1 in
    let stop = why run.result.0 in
    let a = c.args.disk_before in
    let b = c.faults.result in
    let x = c.faults-sink_before.result in
    let y = c.faults-sink_after.result in
    let parts = c.into_parts-disk in
    let e = c.end_with.ensures in
    at_end (λ it. ShowsCauses g.D.Disk g.S.Source g.K.Sink (disk_in c.args.engine) c.args.source c.args.sink it) c.end_with.result {detail = ended_by stop a b x y} {disk = disk_in new}
    (◌∙◌ {c = ended_by stop a b x y} e.detail c.ended_by-detail.ensures) e.tally e.young (e.disk ∙ parts.ensures.disk) e.source e.sink
    (causes_end g.D.Disk g.S.Source g.K.Sink (disk_in c.args.engine) (disk_in new) c.args.source c.args.sink run.new.sink c.end_with.result (Some parts.result.2) None stop a b x y refl tt
    c.requires.count (c.faults.ensures ∙ ap g.D.Disk.count parts.ensures.disk) c.faults-sink_before.ensures c.faults-sink_after.ensures run.ensures.cause run.ensures.sink.cause run.ensures.past)

pub returns-clause-last : goal.returns-clause-last
returns-clause-last g c =
    let run = c.run_workers-outcome in
    let new = run.result.1 in
    let stop = why run.result.0 in
    let a = c.args.disk_before in
    let b = c.faults.result in
    let x = c.faults-sink_before.result in
    let y = c.faults-sink_after.result in
    let parts = c.into_parts-disk in
    let whole = whole_kept (serving new).journal (past_of new) parts.result.1.items run.ensures.whole parts.ensures.journal in
    let e = c.end_with.ensures in
    at_end (λ it. IsUnwritten it.detail → ServesLines c.args.script Fine it.journal.items it.tally) c.end_with.result {detail = ended_by stop a b x y} {disk = disk_in new}
    (◌∙◌ {c = ended_by stop a b x y} e.detail c.ended_by-detail.ensures) e.tally e.young (e.disk ∙ parts.ensures.disk) e.source e.sink
    (λ unwritten. subst (λ (j : List Entry). ServesLines c.args.script Fine j (Some parts.result.2)) (sym (ap (λ v. v.items) e.journal ∙ whole))
    (clients_served c.args.script (serving new) (unmade_in new) parts.result.2 None a b x y parts.ensures.tally (run.ensures.last (sink_back stop a b x y unwritten))))
