use Rattle.std.proofs.Common.{◌≡◌, ◌∙◌, inr, ap, sym, subst, List, Option, None}
use Rattle.std.specs.Prelude.{IfSome}
use Rattle.std.proofs.Math.Logic.{∥∥₁_map}
use Rattle.pm_types.specs.declared.entry.Entry.{Entry}
use Rattle.pm_disk.specs.Made.{Made}
use Rattle.pm_copies.specs.Listed.{copy_in}
use Rattle.pm_saving.specs.Images.{IsTold}
use Rattle.pm_saving.specs.Serving.{opening}
use Rattle.pm_place.specs.Choosers.{IsChooser}
use Rattle.pm_engine.specs.declared.tally.Tally.{Tally}
use Rattle.pm_engine.specs.Shown.{disk_in, opened_disk, serving}
use Rattle.pm_serial.specs.Acknowledged.{AcknowledgesLast}
use Rattle.pm_runs.specs.Threads.Together.{ServesBy, ServesTogether}
use Rattle.pm_runs.specs.declared.ends.ended.Detail.TheVariants.{Fine}
use Rattle.pm_runs.specs.declared.writes.Writes.TheVariants.{Replies}
use Rattle.pm_runs.specs.Ends.Ends.{IsUnwritten, not_opened, stop_in}
use Rattle.pm_runs.specs.Ends.Journals.{ServesLines}
use Rattle.pm_runs.specs.Ends.Causes.{ShowsCauses}
use Rattle.pm_runs.specs.Runs.{RunsStore}
use Rattle.pm_runs.proofs.EndsLemmas.Parts.{at_end}
use Rattle.pm_runs.proofs.Ran.{fresh_engine}
use Rattle.pm_runs.proofs.EndsLemmas.Faults.{ends_open, undone_open, open_causes, causes_after}
use Rattle.pm_runs.proofs.EndsLemmas.Opened.{opened_run, refused_run, refused_for, none_opened, tried_open, unopened_unwritten}
use Rattle.pm_runs.proofs.Openings.{comes_opened}
use Rattle.pm_runs.proofs.Stores.{by_none, if_there, store_run, store_unrun, serves_none, together_none}
use Rattle.pm_runs.proofs.together.open_and_run.Goals as goal

pub run_engine-requires-clause-fresh : goal.run_engine-requires-clause-fresh
run_engine-requires-clause-fresh g c κs lives = let it = c.in-Ok.engine in fresh_engine it (serving it).number (serving it).opened (serving it).saving c.in-Ok.ensures.begins c.in-Ok.ensures.idle

pub run_engine-requires-clause-chooser : goal.run_engine-requires-clause-chooser
run_engine-requires-clause-chooser g c κs lives = subst (IsChooser g.F.Fn) (sym c.in-Ok.ensures.chooser) c.requires.chooser

pub run_engine-requires-clause-count : goal.run_engine-requires-clause-count
run_engine-requires-clause-count g c κs lives = c.faults-before.ensures ∙ sym c.in-Ok.ensures.count.0

pub returns-in-Ok-clause-store : goal.returns-in-Ok-clause-store
returns-in-Ok-clause-store g c =
    let engine = c.in-Ok.engine in
    let opens = c.in-Ok.ensures in
    let it = c.run_engine.result in
    let told_then : IsTold (g.D.Disk.contents c.args.disk) → IsTold (g.D.Disk.contents (opened_disk engine)) =
    λ told. (told.0, ap g.D.Disk.contents opens.opening ∙ opens.told ∙ told.1) in
    ∥∥₁_map c.run_engine.ensures.runs (λ ran.
    store_run g.D.Disk g.K.Sink c.args.place Replies c.args.disk c.args.sink it
    (record { number = (serving engine).number; copy = copy_in (serving engine).opened; closed = ran.closed; legal = ran.legal })
    ran.late ran.there ran.no_young opens.stands
    (comes_opened g.D.Disk c.args.place c.args.disk engine it.disk opens.chooser opens.opening opens.told opens.made it.tally (opening (serving engine)) it.journal.items ran.idle ran.comes_to)
    (opened_run g.D.Disk c.args.disk (disk_in engine) it.disk (serving engine).number (copy_in (serving engine).opened) it.detail it.journal.items
    opens.told opens.leaves opens.stands ran.legal (λ told. ran.images (told_then told)) (λ told. ran.last (told_then told)) ran.idle ran.late)
    ran.replies)

pub returns-in-Ok-clause-causes : goal.returns-in-Ok-clause-causes
returns-in-Ok-clause-causes g c =
    causes_after g.D.Disk g.S.Source g.K.Sink c.args.disk (disk_in c.in-Ok.engine) c.args.source c.args.sink c.run_engine.result
    c.in-Ok.ensures.count.0 (ap (λ (made : Made). made.past) c.in-Ok.ensures.made) c.run_engine.ensures.causes

pub returns-in-Err-clause-serves : goal.returns-in-Err-clause-serves
returns-in-Err-clause-serves g c =
    let e = c.end_unopened.ensures in
    let fault = c.in-Err.fault in
    at_end (λ it. ServesLines c.args.script it.detail it.journal.items it.tally) c.end_unopened.result (e.detail ∙ c.not_opened.ensures) e.tally e.young e.disk e.source e.sink
    (subst (λ (j : List Entry). ServesLines c.args.script (not_opened fault) j None) (sym e.journal)
    (serves_none c.args.script (not_opened fault) (ends_open fault) (tried_open fault) (undone_open fault)))

pub returns-in-Err-clause-store : goal.returns-in-Err-clause-store
returns-in-Err-clause-store g c =
    let it = c.end_unopened.result in
    let e = c.end_unopened.ensures in
    let f = c.in-Err in
    at_end (λ it. ∥ RunsStore g.D.Disk g.K.Sink c.args.place Replies c.args.disk c.args.sink it ∥₁) it (e.detail ∙ c.not_opened.ensures) e.tally e.young e.disk e.source e.sink
    ∣ store_unrun g.D.Disk g.K.Sink c.args.place Replies c.args.disk f.disk c.args.source c.args.sink it (not_opened f.fault) e.journal (none_opened f.fault)
    (refused_run g.D.Disk c.args.disk f.disk (not_opened f.fault) (none_opened f.fault) (tried_open f.fault) f.ensures.told f.ensures.leaves
    (λ bytes told. refused_for bytes f.fault (f.ensures.fault bytes told))) (inr f.ensures.made) ∣₁

pub returns-in-Err-clause-together : goal.returns-in-Err-clause-together
returns-in-Err-clause-together g c =
    let e = c.end_unopened.ensures in
    let fault = c.in-Err.fault in
    at_end (λ it. ServesTogether (λ lines. lines ≡ c.args.script) it.detail it.journal.items it.tally) c.end_unopened.result (e.detail ∙ c.not_opened.ensures) e.tally e.young e.disk e.source e.sink
    (together_none (λ lines. lines ≡ c.args.script) (not_opened fault) c.end_unopened.result.journal.items e.journal (undone_open fault))

pub returns-in-Err-clause-by : goal.returns-in-Err-clause-by
returns-in-Err-clause-by g c =
    let e = c.end_unopened.ensures in
    let fault = c.in-Err.fault in
    at_end (λ it. ServesBy c.args.way (λ lines. lines ≡ c.args.script) it.detail it.journal.items it.tally) c.end_unopened.result (e.detail ∙ c.not_opened.ensures) e.tally e.young e.disk e.source e.sink
    (by_none c.args.way (λ lines. lines ≡ c.args.script) (not_opened fault) c.end_unopened.result.journal.items e.journal (undone_open fault))

pub returns-in-Ok-clause-saved : goal.returns-in-Ok-clause-saved
returns-in-Ok-clause-saved g c = if_there c.run_engine.result.tally c.run_engine.ensures.saved

pub returns-in-Err-clause-saved : goal.returns-in-Err-clause-saved
returns-in-Err-clause-saved g c =
    let it = c.end_unopened.result in
    subst (λ (tally : Option Tally). IfSome tally (λ told. AcknowledgesLast g.K.Sink c.args.sink it.sink it.journal.items (stop_in it.detail))) (sym c.end_unopened.ensures.tally) tt

pub returns-in-Err-clause-causes : goal.returns-in-Err-clause-causes
returns-in-Err-clause-causes g c =
    let it = c.end_unopened.result in
    let e = c.end_unopened.ensures in
    let f = c.in-Err in
    at_end (λ it. ShowsCauses g.D.Disk g.S.Source g.K.Sink c.args.disk c.args.source c.args.sink it) it (e.detail ∙ c.not_opened.ensures) e.tally e.young e.disk e.source e.sink
    (open_causes g.D.Disk g.S.Source g.K.Sink c.args.disk f.disk c.args.source c.args.sink it f.fault f.ensures.cause (ap (λ (made : Made). made.past) f.ensures.made))

pub returns-in-Err-clause-last : goal.returns-in-Err-clause-last
returns-in-Err-clause-last g c =
    let e = c.end_unopened.ensures in
    at_end (λ it. IsUnwritten it.detail → ServesLines c.args.script Fine it.journal.items it.tally) c.end_unopened.result (e.detail ∙ c.not_opened.ensures) e.tally e.young e.disk e.source e.sink
    (λ unwritten. absurd (unopened_unwritten c.in-Err.fault unwritten))
