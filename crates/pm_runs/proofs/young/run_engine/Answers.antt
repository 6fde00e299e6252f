use Rattle.std.proofs.Common.{◌∙◌, ap, refl, sym, subst, List, None, Some}
use Rattle.pm_types.specs.declared.entry.Entry.{Entry}
use Rattle.pm_engine.specs.Events.Causes.{why}
use Rattle.pm_serial.specs.Acknowledged.{Acknowledges}
use Rattle.pm_young.specs.Seen.{disk_in, serving}
use Rattle.pm_runs.specs.declared.writes.Writes.TheVariants.{Replies}
use Rattle.pm_runs.specs.Ends.Ends.{ended_by, stop_in}
use Rattle.pm_runs.specs.Ends.Causes.{ShowsCauses}
use Rattle.pm_runs.specs.Young.Engines.{RunsYoungEngine}
use Rattle.pm_runs.specs.Young.Journals.{ServesYoung}
use Rattle.pm_runs.proofs.EndsLemmas.Parts.{at_end}
use Rattle.pm_runs.proofs.Ran.{acknowledged, causes_end}
use Rattle.pm_runs.proofs.YoungLemmas.Ended.{young_run, young_served}
use Rattle.pm_runs.proofs.young.run_engine.Goals as goal

pub returns-clause-serves : goal.returns-clause-serves
returns-clause-serves g c =
    let run = c.run_young_lines-outcome in
    let stop = why run.result in
    let a = c.args.disk_before in
    let b = c.faults.result in
    let x = c.faults-sink_before.result in
    let y = c.faults-sink_after.result in
    let parts = c.into_parts-disk in
    let e = c.end_with.ensures in
    at_end (λ it. ServesYoung c.args.lines.items it.detail it.journal.items it.young) c.end_with.result {detail = ended_by stop a b x y} {disk = disk_in run.new.engine}
    (◌∙◌ {c = ended_by stop a b x y} e.detail c.ended_by-detail.ensures) e.tally e.young (e.disk ∙ parts.ensures.disk) e.source e.sink
    (subst (λ (j : List Entry). ServesYoung c.args.lines.items (ended_by stop a b x y) j (Some parts.result.2)) (sym (ap (λ v. v.items) e.journal ∙ parts.ensures.journal))
    (young_served c.args.lines.items run.new.engine parts.result.2 stop a b x y c.requires.few parts.ensures.tally run.ensures.answers))

pub returns-clause-runs : goal.returns-clause-runs
returns-clause-runs g c =
    let run = c.run_young_lines-outcome in
    let stop = why run.result in
    let a = c.args.disk_before in
    let b = c.faults.result in
    let x = c.faults-sink_before.result in
    let y = c.faults-sink_after.result in
    let kept = c.keep_their_images.ensures in
    let parts = c.into_parts-disk in
    let e = c.end_with.ensures in
    at_end (λ it. RunsYoungEngine g.K.Sink c.args.lines.items c.args.engine c.args.sink it) c.end_with.result {detail = ended_by stop a b x y} {disk = disk_in run.new.engine}
    (◌∙◌ {c = ended_by stop a b x y} e.detail c.ended_by-detail.ensures) e.tally e.young (e.disk ∙ parts.ensures.disk) e.source e.sink
    (young_run g.K.Sink c.args.lines.items c.args.engine run.new.engine parts.result.2 c.args.source c.args.sink run.new.sink c.end_with.result stop a b x y
    (ap (λ v. v.items) e.journal ∙ parts.ensures.journal) run.ensures kept.told kept.comes_in kept.closed kept.legal parts.ensures.tally)

pub returns-clause-saved : goal.returns-clause-saved
returns-clause-saved g c =
    let run = c.run_young_lines-outcome in
    let stop = why run.result in
    let a = c.args.disk_before in
    let b = c.faults.result in
    let x = c.faults-sink_before.result in
    let y = c.faults-sink_after.result in
    let parts = c.into_parts-disk in
    let e = c.end_with.ensures in
    at_end (λ it. Acknowledges g.K.Sink c.args.sink it.sink it.journal.items (stop_in it.detail)) c.end_with.result {detail = ended_by stop a b x y} {disk = disk_in run.new.engine}
    (◌∙◌ {c = ended_by stop a b x y} e.detail c.ended_by-detail.ensures) e.tally e.young (e.disk ∙ parts.ensures.disk) e.source e.sink
    (acknowledged g.K.Sink Replies c.args.sink run.new.sink (serving run.new.engine).journal c.end_with.result.journal.items stop a b x y
    (ap (λ v. v.items) e.journal ∙ parts.ensures.journal) run.ensures.saved)

pub returns-clause-causes : goal.returns-clause-causes
returns-clause-causes g c =
    let run = c.run_young_lines-outcome in
    let stop = why run.result in
    let a = c.args.disk_before in
    let b = c.faults.result in
    let x = c.faults-sink_before.result in
    let y = c.faults-sink_after.result in
    let parts = c.into_parts-disk in
    let e = c.end_with.ensures in
    at_end (λ it. ShowsCauses g.D.Disk g.S.Source g.K.Sink (disk_in c.args.engine) c.args.source c.args.sink it) c.end_with.result {detail = ended_by stop a b x y} {disk = disk_in run.new.engine}
    (◌∙◌ {c = ended_by stop a b x y} e.detail c.ended_by-detail.ensures) e.tally e.young (e.disk ∙ parts.ensures.disk) e.source e.sink
    (causes_end g.D.Disk g.S.Source g.K.Sink (disk_in c.args.engine) (disk_in run.new.engine) c.args.source c.args.sink run.new.sink c.end_with.result None (Some parts.result.2) stop a b x y refl tt
    c.requires.count (c.faults.ensures ∙ ap g.D.Disk.count parts.ensures.disk) c.faults-sink_before.ensures c.faults-sink_after.ensures run.ensures.disk.cause run.ensures.sink.cause run.ensures.disk.past)
