use Rattle.std.proofs.Common.{[]}
use Rattle.std.specs.FinMap.{empty_of_len}
use Rattle.slab.specs.Slab as slab
use Rattle.pm_roots.proofs.Views.{len_shown}
use Rattle.pm_roots.proofs.roots.Roots.new.Goals as goal

pub returns : goal.returns
returns c = rw c.new.ensures.items (empty_of_len _ (len_shown [] (slab.get c.new-2.result) tt))
