use Rattle.pm_save.proofs.ProgressLemmas.CountLemmas.{all_counted}
use Rattle.pm_save.proofs.progress.cuts.Counter.end.Goals as goal

pub returns : goal.returns
returns c met had = all_counted met c.args.self _ had c.in_ok-push.ensures.items c.entries_are_cut_in_one_way.ensures.one
