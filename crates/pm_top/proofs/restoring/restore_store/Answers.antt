use Rattle.pm_top.specs.Commands.{RestoresStore}
use Rattle.pm_runs.proofs.EndsLemmas.Parts.{at_end}
use Rattle.pm_top.proofs.Restored.{restores_read, restores_unread}
use Rattle.pm_top.proofs.restoring.restore_store.Goals as goal

pub returns-in-Ok-clause-restores : goal.returns-in-Ok-clause-restores
returns-in-Ok-clause-restores g c =
    let it = c.end_unopened.result in
    let e = c.end_unopened.ensures in
    let ran = c.restore_dump-disk in
    let read = c.in-Ok.ensures in
    at_end (λ it. RestoresStore g.D.Disk g.S.Source g.K.Sink c.args.disk c.args.source c.args.sink it) it e.detail e.tally e.young e.disk e.source e.sink
    (restores_read g.D.Disk g.S.Source g.K.Sink c.in-Ok.dump c.args.disk ran.result.0 c.args.source c.read_source.new.source c.args.sink it ran.result.1 e.journal
    ran.ensures.ends read.sound read.emptied read.found read.short ran.ensures.leaves ran.ensures.keeps)

pub returns-in-Err-clause-restores : goal.returns-in-Err-clause-restores
returns-in-Err-clause-restores g c =
    let it = c.end_unopened-in-Err.result in
    let e = c.end_unopened-in-Err.ensures in
    let read = c.in-Err.ensures in
    at_end (λ it. RestoresStore g.D.Disk g.S.Source g.K.Sink c.args.disk c.args.source c.args.sink it) it e.detail e.tally e.young e.disk e.source e.sink
    (restores_unread g.D.Disk g.S.Source g.K.Sink c.args.disk c.args.source c.read_source.new.source c.args.sink it c.in-Err.detail e.journal
    read.ends read.stops read.rest (g.met.D.Disk.only_now c.args.disk))
