use Rattle.std.proofs.Common.{rules, ◌≡◌}
use Rattle.pm_space.specs.Shown.{view}
use Rattle.pm_engine.proofs.WorksLemmas.Uncounted.{act_counts}
use Rattle.pm_engine.proofs.works.works.act_and_copy_reply.Goals as goal

pub returns-clause-bound : goal.returns-clause-bound
returns-clause-bound g c = record {
  rank = c.act.ensures.course.rank;
  sunk = c.act.ensures.course.sunk;
  counts = act_counts (view c.args.space.now.parts) (view c.act.new.space.parts) c.args.client c.args.cmd.now c.act.result c.act.ensures.row c.act.ensures.err;
}

pub returns-in_err-told-clause-err : goal.returns-in_err-told-clause-err
returns-in_err-told-clause-err g c =
    let same : view c.act.new.space.parts ≡ view c.args.space.now.parts = c.in_ok-reply.ensures.shown c.in_err-told.ensures.shown in search (rules, same)
