use Rattle.std.proofs.Common.{inl, refl, ◌≤◌, ◌∙◌, List, ap, sym, subst}
use Rattle.pm_types.specs.Counts.{greatest_count}
use Rattle.pm_model.specs.World.{begin}
use Rattle.pm_script.specs.declared.line.YoungLine.{YoungLine}
use Rattle.pm_script.specs.Parted.Asked.{events_asked}
use Rattle.pm_script.specs.Young.{IsYoungScript}
use Rattle.pm_young_run.specs.Asked.{as_lines}
use Rattle.pm_runs.specs.Ends.Causes.{ShowsCauses}
use Rattle.pm_runs.specs.Young.Runs.{RunsYoung}
use Rattle.pm_runs.proofs.EndsLemmas.Parts.{at_end}
use Rattle.pm_runs.proofs.EndsLemmas.Faults.{causes_read}
use Rattle.pm_runs.proofs.EndsLemmas.Opened.{uncalled_run}
use Rattle.pm_runs.proofs.EndsLemmas.Unread.{causes_unread, ends_unread, refused_unread, script_unread, store_unread}
use Rattle.pm_runs.proofs.YoungLemmas.Read.{young_enters, young_order, young_read, young_unordered, young_unread}
use Rattle.pm_runs.proofs.YoungLemmas.Stores.{young_unrun}
use Rattle.pm_runs.proofs.young.run_young.Goals as goal

pub open_and_run-requires-clause-few : goal.open_and_run-requires-clause-few
open_and_run-requires-clause-few g c = subst (λ (lines : List YoungLine). events_asked (as_lines lines) ≤ greatest_count) (sym c.into_lines.ensures.lines) c.in-Ok.ensures.few

pub returns-in-Ok-clause-runs : goal.returns-in-Ok-clause-runs
returns-in-Ok-clause-runs g c =
    let it = c.open_and_run.result in
    let ran = c.open_and_run.ensures in
    let lines = c.into_lines.result.items in
    let read = c.in-Ok.ensures in
    let start = begin ran.store.store.begun.number ran.store.store.begun.copy in
    record {
      ends = ran.serves.ends;
      read = λ past bytes told. ap g.S.Source.left ran.source ∙ read.emptied bytes told;
      script = λ bytes told. young_read bytes lines it.detail it.journal.items it.young (subst (IsYoungScript bytes) (sym c.into_lines.ensures.lines) (read.found bytes told)) ran.serves;
      order = λ bytes told. young_order bytes lines it.detail it.journal.items it.young (subst (IsYoungScript bytes) (sym c.into_lines.ensures.lines) (read.found bytes told)) ran.serves;
      store = ran.store.store;
      entered = λ bytes told others script.
          young_enters bytes start lines others it.detail it.journal.items it.young (subst (IsYoungScript bytes) (sym c.into_lines.ensures.lines) (read.found bytes told)) script ran.store.entered;
      saved = ran.saved;
    }

pub returns-in-Ok-clause-causes : goal.returns-in-Ok-clause-causes
returns-in-Ok-clause-causes g c =
    causes_read g.D.Disk g.S.Source g.K.Sink c.args.disk c.args.source c.read_young_source.new.source c.args.sink c.open_and_run.result c.in-Ok.ensures.counted c.open_and_run.ensures.causes

pub returns-in-Err-clause-runs : goal.returns-in-Err-clause-runs
returns-in-Err-clause-runs g c =
    let it = c.end_unopened.result in
    let e = c.end_unopened.ensures in
    let detail = c.in-Err.detail in
    let f = c.in-Err.ensures in
    at_end (λ it. RunsYoung g.D.Disk g.S.Source g.K.Sink c.args.place c.args.disk c.args.source c.args.sink it) it e.detail e.tally e.young e.disk e.source e.sink
    (record {
      ends = ends_unread detail f.ends;
      read = λ past. absurd (script_unread detail f.ends past);
      script = λ bytes told. young_unread bytes detail it.journal.items f.ends (f.stops bytes told);
      order = λ bytes told. young_unordered bytes detail it.journal.items;
      store =
          young_unrun g.D.Disk g.K.Sink c.args.place c.args.disk c.args.disk c.read_young_source.new.source c.args.sink it detail e.journal (store_unread detail f.ends)
          (uncalled_run g.D.Disk c.args.disk detail (g.met.D.Disk.only_now c.args.disk) (store_unread detail f.ends) (λ bytes. refused_unread bytes detail f.ends)) (inl refl);
      entered = λ bytes told lines script past. tt;
      saved = tt;
    })

pub returns-in-Err-clause-causes : goal.returns-in-Err-clause-causes
returns-in-Err-clause-causes g c =
    let it = c.end_unopened.result in
    let e = c.end_unopened.ensures in
    at_end (λ it. ShowsCauses g.D.Disk g.S.Source g.K.Sink c.args.disk c.args.source c.args.sink it) it e.detail e.tally e.young e.disk e.source e.sink
    (causes_unread g.D.Disk g.S.Source g.K.Sink c.args.disk c.args.source c.read_young_source.new.source c.args.sink it c.in-Err.detail c.in-Err.ensures.ends c.in-Err.ensures.cause)
