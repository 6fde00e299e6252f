use Rattle.std.proofs.Common.{List, subst}
use Rattle.pm_copies.specs.Built.{Placed}
use Rattle.pm_space.specs.Shown.{cars_of}
use Rattle.pm_reopen.specs.Rebuild.Linking.{AreTold}
use Rattle.pm_reopen.proofs.RebuildLemmas.BuiltLaws.{parts_built}
use Rattle.pm_reopen.proofs.rebuild.building.build_parts.Goals as goal

pub returns-clause-view : goal.returns-clause-view
returns-clause-view g c =
    let roots = c.in_ok-roots.roots in
    let links = c.in_ok-roots.links in
    let told = subst (λ (placed : List Placed). AreTold placed roots links) c.as_slice.ensures c.in_ok-roots.ensures.told in
    parts_built c.args.cars c.args.list c.args.next (cars_of c.in_ok-cars.cars) links c.in_ok-cars.trains roots c.in_ok-handles.handles c.new-2.result
    c.requires.may.differ c.in_ok-cars.ensures.cars c.in_ok-cars.ensures.trains c.in_ok-roots.ensures.bound c.in_ok-roots.ensures.numbers
    told.remember told.queues c.in_ok-handles.ensures c.new-2.ensures
