use Rattle.std.proofs.Common.{sym, subst, refl, ◌∙◌, List, ℕ}
use Rattle.pm_model.specs.World.{empty_copy}
use Rattle.pm_image.specs.Blank.{blank_store}
use Rattle.pm_image.specs.Stands.{StandsForCopy}
use Rattle.pm_image.proofs.BlankLaws.{blank_stands}
use Rattle.pm_runs.specs.Ends.Causes.{ShowsCauses}
use Rattle.pm_top.specs.Commands.{MakesStore}
use Rattle.pm_top.proofs.NotMade.{calls_none, init_causes, none_made}
use Rattle.pm_runs.proofs.EndsLemmas.Parts.{at_end}
use Rattle.pm_top.proofs.making.make_store.Goals as goal

pub returns-in-Ok-clause-causes : goal.returns-in-Ok-clause-causes
returns-in-Ok-clause-causes g c =
    let e = c.end_unopened.ensures in
    at_end (λ it. ShowsCauses g.D.Disk g.S.Source g.K.Sink c.args.disk c.args.source c.args.sink it) c.end_unopened.result e.detail e.tally e.young e.disk e.source e.sink
    (record { reading = refl; writing = refl; device = c.in-Ok.ensures.cause; rule = tt; opened = tt; one = tt; reads = c.init.ensures.made.most.past })

pub returns-in-Ok-clause-makes : goal.returns-in-Ok-clause-makes
returns-in-Ok-clause-makes g c =
    let e = c.end_unopened.ensures in
    at_end (λ it. MakesStore g.D.Disk c.args.disk c.args.source c.args.sink it) c.end_unopened.result e.detail e.tally e.young e.disk e.source e.sink
    (record {
      makes = λ bytes told.
          let is = c.in-Ok.ensures.blank bytes told in
          (c.in-Ok.ensures.empty bytes told, is, λ left now. subst (λ (image : List ℕ). StandsForCopy image 0 empty_copy) (sym (c.in-Ok.ensures.only blank_store is left now)) blank_stands);
      calls = record { made = c.in-Ok.ensures.made.done; order = c.init.ensures.order };
      leaves = c.init.ensures.leaves;
      source_stays = refl;
      sink_stays = refl;
      no_event = e.journal;
      no_tally = refl;
      no_young = refl;
    })

pub returns-in-Err-clause-causes : goal.returns-in-Err-clause-causes
returns-in-Err-clause-causes g c =
    let it = c.end_unopened-in-Err.result in
    let e = c.end_unopened-in-Err.ensures in
    at_end (λ it. ShowsCauses g.D.Disk g.S.Source g.K.Sink c.args.disk c.args.source c.args.sink it) it (e.detail ∙ c.not_made.ensures) e.tally e.young e.disk e.source e.sink
    (init_causes g.D.Disk g.S.Source g.K.Sink c.args.disk c.init.new.disk c.args.source c.args.sink it c.in-Err.fault c.in-Err.ensures.cause c.init.ensures.made.most.past)

pub returns-in-Err-clause-makes : goal.returns-in-Err-clause-makes
returns-in-Err-clause-makes g c =
    let e = c.end_unopened-in-Err.ensures in
    let f = c.in-Err.ensures in
    let now = c.init.new.disk in
    at_end (λ it. MakesStore g.D.Disk c.args.disk c.args.source c.args.sink it) c.end_unopened-in-Err.result (e.detail ∙ c.not_made.ensures) e.tally e.young e.disk e.source e.sink
    (record {
      makes = none_made g.D.Disk (g.D.Disk.count c.args.disk) (g.D.Disk.count now) c.args.disk now c.in-Err.fault f.fault f.cause f.still f.kept;
      calls = record {
        made = calls_none (g.D.Disk.made c.args.disk) (g.D.Disk.made now) c.in-Err.fault c.init.ensures.made.most;
        order = c.init.ensures.order;
      };
      leaves = c.init.ensures.leaves;
      source_stays = refl;
      sink_stays = refl;
      no_event = e.journal;
      no_tally = refl;
      no_young = refl;
    })
