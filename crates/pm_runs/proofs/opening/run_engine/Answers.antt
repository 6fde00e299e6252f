use Rattle.std.proofs.Common.{◌∙◌, ap, refl, sym, subst, List, None, Some}
use Rattle.pm_types.specs.declared.entry.Entry.{Entry}
use Rattle.pm_engine.specs.Shown.{disk_in, past_of, recent, serving, unmade_in}
use Rattle.pm_engine.specs.Events.Causes.{why}
use Rattle.pm_engine.proofs.WorksLemmas.Whole.{front_none, whole_kept}
use Rattle.pm_runs.specs.Ends.Ends.{IsUnwritten, ended_by, stop_in}
use Rattle.pm_runs.specs.Wrote.{AcknowledgesFor, WritesLast}
use Rattle.pm_runs.specs.Ends.Journals.{ServesAll, ServesInOrder, ServesLines}
use Rattle.pm_runs.specs.Ends.Causes.{ShowsCauses}
use Rattle.pm_runs.specs.Engines.{RunsEngine}
use Rattle.pm_runs.proofs.EndsLemmas.Parts.{at_end}
use Rattle.pm_runs.proofs.Ran.{acknowledged, all_served, engine_run, lines_served, order_served, causes_end, sink_back}
use Rattle.pm_runs.proofs.opening.run_engine.Goals as goal

pub returns-clause-serves : goal.returns-clause-serves
returns-clause-serves g c =
    let run = c.write_lines-outcome in
    let stop = why run.result in
    let a = c.args.disk_before in
    let b = c.faults.result in
    let x = c.faults-sink_before.result in
    let y = c.faults-sink_after.result in
    let parts = c.into_parts-disk in
    let none = run.ensures.runs.entries ∙ front_none (past_of c.args.engine) (recent c.args.engine) c.requires.fresh.journal in
    let whole = whole_kept (serving run.new.engine).journal (past_of run.new.engine) parts.result.1.items none parts.ensures.journal in
    let e = c.end_with.ensures in
    at_end (λ it. ServesLines c.args.lines.items it.detail it.journal.items it.tally) c.end_with.result {detail = ended_by stop a b x y} {disk = disk_in run.new.engine}
    (◌∙◌ {c = ended_by stop a b x y} e.detail c.ended_by-detail.ensures) e.tally e.young (e.disk ∙ parts.ensures.disk) e.source e.sink
    (subst (λ (j : List Entry). ServesLines c.args.lines.items (ended_by stop a b x y) j (Some parts.result.2)) (sym (ap (λ v. v.items) e.journal ∙ whole))
    (lines_served c.args.lines.items (serving run.new.engine) (unmade_in run.new.engine) parts.result.2 stop a b x y c.requires.few parts.ensures.tally run.ensures.runs.answers))

pub returns-clause-order : goal.returns-clause-order
returns-clause-order g c =
    let run = c.write_lines-outcome in
    let stop = why run.result in
    let a = c.args.disk_before in
    let b = c.faults.result in
    let x = c.faults-sink_before.result in
    let y = c.faults-sink_after.result in
    let parts = c.into_parts-disk in
    let none = run.ensures.runs.entries ∙ front_none (past_of c.args.engine) (recent c.args.engine) c.requires.fresh.journal in
    let whole = whole_kept (serving run.new.engine).journal (past_of run.new.engine) parts.result.1.items none parts.ensures.journal in
    let e = c.end_with.ensures in
    at_end (λ it. ServesInOrder c.args.lines.items it.detail it.journal.items it.tally) c.end_with.result {detail = ended_by stop a b x y} {disk = disk_in run.new.engine}
    (◌∙◌ {c = ended_by stop a b x y} e.detail c.ended_by-detail.ensures) e.tally e.young (e.disk ∙ parts.ensures.disk) e.source e.sink
    (subst (λ (j : List Entry). ServesInOrder c.args.lines.items (ended_by stop a b x y) j (Some parts.result.2)) (sym (ap (λ v. v.items) e.journal ∙ whole))
    (order_served c.args.lines.items (serving run.new.engine) (unmade_in run.new.engine) parts.result.2 stop a b x y parts.ensures.tally run.ensures.runs.answers))

pub returns-clause-runs : goal.returns-clause-runs
returns-clause-runs g c =
    let run = c.write_lines-outcome in
    let stop = why run.result in
    let a = c.args.disk_before in
    let b = c.faults.result in
    let x = c.faults-sink_before.result in
    let y = c.faults-sink_after.result in
    let kept = c.keep_their_images.ensures in
    let parts = c.into_parts-disk in
    let none = run.ensures.runs.entries ∙ front_none (past_of c.args.engine) (recent c.args.engine) c.requires.fresh.journal in
    let whole = whole_kept (serving run.new.engine).journal (past_of run.new.engine) parts.result.1.items none parts.ensures.journal in
    let e = c.end_with.ensures in
    at_end (λ it. RunsEngine g.K.Sink c.args.writes c.args.engine c.args.sink it) c.end_with.result {detail = ended_by stop a b x y} {disk = disk_in run.new.engine}
    (◌∙◌ {c = ended_by stop a b x y} e.detail c.ended_by-detail.ensures) e.tally e.young (e.disk ∙ parts.ensures.disk) e.source e.sink
    (engine_run g.K.Sink c.args.writes c.args.engine run.new.engine parts.result.2 c.args.source c.args.sink run.new.sink c.end_with.result stop a b x y
    (ap (λ v. v.items) e.journal ∙ whole) run.ensures.runs.disk run.ensures.runs.start
    (record {
      served = kept.served;
      course = kept.told;
      watching = kept.watching;
      standing = kept.standing;
      lawful = kept.law;
      history = kept.history;
      bounded = kept.bounds;
      store = kept.store;
      few = kept.few;
      gone = kept.gone;
    }) kept.closed kept.legal parts.ensures.tally parts.ensures.honest run.ensures.runs.wrote.sink)

pub returns-clause-saved : goal.returns-clause-saved
returns-clause-saved g c =
    let run = c.write_lines-outcome in
    let stop = why run.result in
    let a = c.args.disk_before in
    let b = c.faults.result in
    let x = c.faults-sink_before.result in
    let y = c.faults-sink_after.result in
    let parts = c.into_parts-disk in
    let none = run.ensures.runs.entries ∙ front_none (past_of c.args.engine) (recent c.args.engine) c.requires.fresh.journal in
    let whole = whole_kept (serving run.new.engine).journal (past_of run.new.engine) parts.result.1.items none parts.ensures.journal in
    let e = c.end_with.ensures in
    at_end (λ it. AcknowledgesFor g.K.Sink c.args.writes c.args.sink it.sink it.journal.items (stop_in it.detail)) c.end_with.result {detail = ended_by stop a b x y} {disk = disk_in run.new.engine}
    (◌∙◌ {c = ended_by stop a b x y} e.detail c.ended_by-detail.ensures) e.tally e.young (e.disk ∙ parts.ensures.disk) e.source e.sink
    (acknowledged g.K.Sink c.args.writes c.args.sink run.new.sink (serving run.new.engine).journal c.end_with.result.journal.items stop a b x y
    (ap (λ v. v.items) e.journal ∙ whole) run.ensures.runs.wrote.saved)

pub returns-clause-causes : goal.returns-clause-causes
returns-clause-causes g c =
    let run = c.write_lines-outcome in
    let stop = why run.result in
    let a = c.args.disk_before in
    let b = c.faults.result in
    let x = c.faults-sink_before.result in
    let y = c.faults-sink_after.result in
    let parts = c.into_parts-disk in
    let e = c.end_with.ensures in
    at_end (λ it. ShowsCauses g.D.Disk g.S.Source g.K.Sink (disk_in c.args.engine) c.args.source c.args.sink it) c.end_with.result {detail = ended_by stop a b x y} {disk = disk_in run.new.engine}
    (◌∙◌ {c = ended_by stop a b x y} e.detail c.ended_by-detail.ensures) e.tally e.young (e.disk ∙ parts.ensures.disk) e.source e.sink
    (causes_end g.D.Disk g.S.Source g.K.Sink (disk_in c.args.engine) (disk_in run.new.engine) c.args.source c.args.sink run.new.sink c.end_with.result (Some parts.result.2) None stop a b x y refl tt
    c.requires.count (c.faults.ensures ∙ ap g.D.Disk.count parts.ensures.disk) c.faults-sink_before.ensures c.faults-sink_after.ensures run.ensures.runs.disk.cause run.ensures.runs.wrote.cause run.ensures.runs.disk.past)

pub returns-clause-last : goal.returns-clause-last
returns-clause-last g c =
    let run = c.write_lines-outcome in
    let stop = why run.result in
    let a = c.args.disk_before in
    let b = c.faults.result in
    let x = c.faults-sink_before.result in
    let y = c.faults-sink_after.result in
    let parts = c.into_parts-disk in
    let none = run.ensures.runs.entries ∙ front_none (past_of c.args.engine) (recent c.args.engine) c.requires.fresh.journal in
    let whole = whole_kept (serving run.new.engine).journal (past_of run.new.engine) parts.result.1.items none parts.ensures.journal in
    let e = c.end_with.ensures in
    at_end (λ it. WritesLast c.args.writes → IsUnwritten it.detail → ServesAll c.args.lines.items it.journal.items it.tally) c.end_with.result {detail = ended_by stop a b x y} {disk = disk_in run.new.engine}
    (◌∙◌ {c = ended_by stop a b x y} e.detail c.ended_by-detail.ensures) e.tally e.young (e.disk ∙ parts.ensures.disk) e.source e.sink
    (λ last unwritten. subst (λ (j : List Entry). ServesAll c.args.lines.items j (Some parts.result.2)) (sym (ap (λ v. v.items) e.journal ∙ whole))
    (all_served c.args.lines.items (serving run.new.engine) (unmade_in run.new.engine) parts.result.2 c.requires.few parts.ensures.tally (run.ensures.last last (sink_back stop a b x y unwritten))))
