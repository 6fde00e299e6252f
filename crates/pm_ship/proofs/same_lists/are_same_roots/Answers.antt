use Rattle.std.proofs.lemmas.Slice.Eq.{slice_eq-Decides}
use Rattle.pm_ship.proofs.RootLemmas.{same_root}
use Rattle.pm_ship.proofs.same_lists.are_same_roots.Goals as goal

pub returns : goal.returns
returns c = slice_eq-Decides same_root c.args.roots.now c.args.others.now c.eq.result c.eq.ensures
