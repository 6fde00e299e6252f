use Rattle.std.proofs.Common.{length, ap, ◌∙◌, arith}
use Rattle.std.specs.Option.{option_map}
use Rattle.std.proofs.lemmas.List.{length-set}
use Rattle.pm_graphs.specs.Linking.{resolved_by}
use Rattle.pm_reopen.proofs.RebuildLemmas.Ends.{put_next}
use Rattle.pm_reopen.proofs.opened_car.follow_all.Goals as goal

pub loop-index-preserved : goal.loop-index-preserved
loop-index-preserved c =
    let l = c.loop-index in
    let fields = l.followed.items in
    let test = c.loop-index-test.true in
    let end = c.len-index-end.ensures in
    let all = ap length c.into_vec-followed.ensures in
    let same = l.invariant.same in
    record {
      so_far = put_next (option_map (resolved_by c.args.leads.now)) fields l.index c.index.result.now c.follow.result (omega (arith, test, end, all, same)) c.index.ensures c.follow.ensures ∙ l.invariant.so_far;
      same = length-set fields l.index c.follow.result ∙ same;
    }
