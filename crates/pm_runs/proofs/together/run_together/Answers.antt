use Rattle.std.proofs.Common.{◌≡◌, inl, refl, ◌∙◌, ap, arith, sym, List, None}
use Rattle.pm_script.specs.declared.line.Line.{Line}
use Rattle.pm_script.proofs.ScriptLaws.{one_reading}
use Rattle.pm_runs.specs.Threads.Together.{IsToldScript}
use Rattle.pm_runs.specs.declared.ends.ended.Detail.TheVariants.{Fine}
use Rattle.pm_runs.specs.declared.writes.Writes.TheVariants.{Replies}
use Rattle.pm_runs.specs.Ends.Causes.{ShowsCauses}
use Rattle.pm_runs.specs.Ends.Stages.{IsPast, the_output}
use Rattle.pm_runs.specs.Runs.{RunsBy}
use Rattle.pm_runs.proofs.EndsLemmas.Parts.{at_end, with_parts}
use Rattle.pm_runs.proofs.EndsLemmas.Faults.{causes_read}
use Rattle.pm_runs.proofs.EndsLemmas.Opened.{uncalled_run}
use Rattle.pm_runs.proofs.Stores.{by_none, by_of, runs_by, store_unrun, together_none}
use Rattle.pm_runs.proofs.EndsLemmas.Scripts.{script_read}
use Rattle.pm_runs.proofs.EndsLemmas.Unread.{causes_unread, ends_unread, reads_unread, refused_unread, script_unread, store_unread, unwritten_unread}
use Rattle.pm_runs.proofs.together.run_together.Goals as goal

pub returns-in-Ok-clause-runs : goal.returns-in-Ok-clause-runs
returns-in-Ok-clause-runs g c =
    let it = c.open_and_run.result in
    let ran = c.open_and_run.ensures in
    let read = c.in-Ok.ensures in
    let told : (lines : List Line) → IsToldScript (g.S.Source.left c.args.source) lines → lines ≡ c.in-Ok.script =
    λ lines (is : IsToldScript (g.S.Source.left c.args.source) lines). sym (one_reading is.0 c.in-Ok.script lines (read.found is.0 is.1) is.2) in
    runs_by g.D.Disk g.S.Source g.K.Sink c.args.way c.args.place c.args.disk c.args.source c.args.sink it (record {
      ends = ran.serves.ends;
      read = λ past bytes told. ap g.S.Source.left ran.source ∙ read.emptied bytes told;
      script = λ bytes told. script_read bytes c.in-Ok.script it.detail it.journal.items it.tally (read.found bytes told) ran.serves;
      store = ran.store;
      last = λ unwritten bytes told. script_read bytes c.in-Ok.script Fine it.journal.items it.tally (read.found bytes told) (ran.last unwritten);
      order = λ lines is. ran.together lines (told lines is);
      saved = ran.saved;
    })
    (by_of c.args.way (λ lines. lines ≡ c.in-Ok.script) (IsToldScript (g.S.Source.left c.args.source)) it.detail it.journal.items it.tally told ran.by)

pub returns-in-Ok-clause-causes : goal.returns-in-Ok-clause-causes
returns-in-Ok-clause-causes g c =
    causes_read g.D.Disk g.S.Source g.K.Sink c.args.disk c.args.source c.read_source.new.source c.args.sink c.open_and_run.result c.in-Ok.ensures.counted c.open_and_run.ensures.causes

pub returns-in-Err-clause-runs : goal.returns-in-Err-clause-runs
returns-in-Err-clause-runs g c =
    let it = c.end_unopened.result in
    let e = c.end_unopened.ensures in
    let detail = c.in-Err.detail in
    let f = c.in-Err.ensures in
    let unrun : IsPast the_output detail → ⊥ = λ past. script_unread detail f.ends (omega (arith, past)) in
    at_end (λ it. RunsBy g.D.Disk g.S.Source g.K.Sink c.args.way c.args.place c.args.disk c.args.source c.args.sink it) it e.detail e.tally e.young e.disk e.source e.sink
    (runs_by g.D.Disk g.S.Source g.K.Sink c.args.way c.args.place c.args.disk c.args.source c.args.sink (with_parts it detail None None c.args.disk c.read_source.new.source c.args.sink) (record {
      ends = ends_unread detail f.ends;
      read = λ past. absurd (script_unread detail f.ends past);
      script = λ bytes told. reads_unread bytes detail it.journal.items e.journal f.ends (f.stops bytes told);
      store = ∣
          store_unrun g.D.Disk g.K.Sink c.args.place Replies c.args.disk c.args.disk c.read_source.new.source c.args.sink it detail e.journal (store_unread detail f.ends)
          (uncalled_run g.D.Disk c.args.disk detail c.images_since_now.ensures (store_unread detail f.ends) (λ bytes. refused_unread bytes detail f.ends)) (inl refl) ∣₁;
      last = λ unwritten. absurd (unwritten_unread detail f.ends unwritten);
      order = together_none (IsToldScript (g.S.Source.left c.args.source)) detail it.journal.items e.journal unrun;
      saved = tt;
    }) (by_none c.args.way (IsToldScript (g.S.Source.left c.args.source)) detail it.journal.items e.journal unrun))

pub returns-in-Err-clause-causes : goal.returns-in-Err-clause-causes
returns-in-Err-clause-causes g c =
    let it = c.end_unopened.result in
    let e = c.end_unopened.ensures in
    at_end (λ it. ShowsCauses g.D.Disk g.S.Source g.K.Sink c.args.disk c.args.source c.args.sink it) it e.detail e.tally e.young e.disk e.source e.sink
    (causes_unread g.D.Disk g.S.Source g.K.Sink c.args.disk c.args.source c.read_source.new.source c.args.sink it c.in-Err.detail c.in-Err.ensures.ends c.in-Err.ensures.cause)
