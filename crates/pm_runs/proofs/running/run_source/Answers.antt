use Rattle.std.proofs.Common.{inl, refl, ◌≤◌, ◌∙◌, List, ap, sym, subst}
use Rattle.pm_types.specs.Counts.{greatest_count}
use Rattle.pm_script.specs.declared.line.Line.{Line}
use Rattle.pm_script.specs.Parted.Asked.{events_asked}
use Rattle.pm_script.specs.Script.{IsScript}
use Rattle.pm_runs.specs.declared.writes.Writes.TheVariants.{Replies}
use Rattle.pm_runs.specs.Ends.Causes.{ShowsCauses}
use Rattle.pm_runs.specs.Runs.{RunsScript}
use Rattle.pm_runs.proofs.EndsLemmas.Parts.{at_end}
use Rattle.pm_runs.proofs.EndsLemmas.Faults.{causes_read}
use Rattle.pm_runs.proofs.EndsLemmas.Opened.{uncalled_run}
use Rattle.pm_runs.proofs.Stores.{store_unrun}
use Rattle.pm_runs.proofs.EndsLemmas.Scripts.{order_read, script_read, unordered}
use Rattle.pm_runs.proofs.EndsLemmas.Unread.{causes_unread, ends_unread, reads_unread, refused_unread, script_unread, store_unread}
use Rattle.pm_runs.proofs.running.run_source.Goals as goal

pub run_lines-requires-clause-few : goal.run_lines-requires-clause-few
run_lines-requires-clause-few g c = subst (λ (lines : List Line). events_asked lines ≤ greatest_count) (sym c.into_lines.ensures.lines) c.in-Ok.ensures.few

pub returns-in-Ok-clause-runs : goal.returns-in-Ok-clause-runs
returns-in-Ok-clause-runs g c =
    let it = c.run_lines.result in
    let ran = c.run_lines.ensures in
    let lines = c.into_lines.result.items in
    let read = c.in-Ok.ensures in
    record {
      ends = ran.serves.ends;
      read = λ past bytes told. ap g.S.Source.left ran.source ∙ read.emptied bytes told;
      script = λ bytes told. script_read bytes lines it.detail it.journal.items it.tally (subst (IsScript bytes) (sym c.into_lines.ensures.lines) (read.found bytes told)) ran.serves;
      order = λ bytes told. order_read bytes lines it.detail it.journal.items it.tally (subst (IsScript bytes) (sym c.into_lines.ensures.lines) (read.found bytes told)) ran.order;
      store = ran.store;
      saved = ran.saved;
    }

pub returns-in-Ok-clause-causes : goal.returns-in-Ok-clause-causes
returns-in-Ok-clause-causes g c =
    causes_read g.D.Disk g.S.Source g.K.Sink c.args.disk c.args.source c.read_source.new.source c.args.sink c.run_lines.result c.in-Ok.ensures.counted c.run_lines.ensures.causes

pub returns-in-Err-clause-runs : goal.returns-in-Err-clause-runs
returns-in-Err-clause-runs g c =
    let it = c.end_unopened.result in
    let e = c.end_unopened.ensures in
    let detail = c.in-Err.detail in
    let f = c.in-Err.ensures in
    at_end (λ it. RunsScript g.D.Disk g.S.Source g.K.Sink c.args.place c.args.disk c.args.source c.args.sink it) it e.detail e.tally e.young e.disk e.source e.sink
    (record {
      ends = ends_unread detail f.ends;
      read = λ past. absurd (script_unread detail f.ends past);
      script = λ bytes told. reads_unread bytes detail it.journal.items e.journal f.ends (f.stops bytes told);
      order = λ bytes told. unordered bytes detail it.journal.items e.journal (script_unread detail f.ends);
      store =
          store_unrun g.D.Disk g.K.Sink c.args.place Replies c.args.disk c.args.disk c.read_source.new.source c.args.sink it detail e.journal (store_unread detail f.ends)
          (uncalled_run g.D.Disk c.args.disk detail (g.met.D.Disk.only_now c.args.disk) (store_unread detail f.ends) (λ bytes. refused_unread bytes detail f.ends)) (inl refl);
      saved = tt;
    })

pub returns-in-Err-clause-causes : goal.returns-in-Err-clause-causes
returns-in-Err-clause-causes g c =
    let it = c.end_unopened.result in
    let e = c.end_unopened.ensures in
    at_end (λ it. ShowsCauses g.D.Disk g.S.Source g.K.Sink c.args.disk c.args.source c.args.sink it) it e.detail e.tally e.young e.disk e.source e.sink
    (causes_unread g.D.Disk g.S.Source g.K.Sink c.args.disk c.args.source c.read_source.new.source c.args.sink it c.in-Err.detail c.in-Err.ensures.ends c.in-Err.ensures.cause)
