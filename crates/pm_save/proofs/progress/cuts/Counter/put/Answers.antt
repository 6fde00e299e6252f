use Rattle.std.proofs.Common.{refl}
use Rattle.pm_save.proofs.ProgressLemmas.CountLemmas.{one_more}
use Rattle.pm_save.proofs.progress.cuts.Counter.put.Goals as goal

pub returns : goal.returns
returns c entry is met had = one_more met entry c.args.size c.make_room.new.self _ (c.in_ok-make_room.ensures.roomy met entry is had) is refl refl refl
