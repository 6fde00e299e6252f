use Rattle.std.proofs.Common.{◌∙◌, arith}
use Rattle.pm_graphs.proofs.LinkingLaws.{lead_more}
use Rattle.pm_graphs.proofs.leads.lead_slots.Goals as goal

pub loop-left-preserved : goal.loop-left-preserved
loop-left-preserved c =
    let l = c.loop-left in
    let inside = l.invariant.inside in
    record {
      so_far = c.in_ok-put_lead.ensures ∙ lead_more c.args.slots.now l.left c.index-slots-left.result l.leads c.loop-left-test.true inside c.index-slots-left.is l.invariant.so_far;
      inside = omega arith;
    }
