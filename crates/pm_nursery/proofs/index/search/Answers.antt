use Rattle.std.proofs.Common.{◌≡◌, ◌-◌, length, Some, rules}
use Rattle.std.specs.List.{slice_get}
use Rattle.pm_nursery.specs.Turned.{holder_cmp}
use Rattle.pm_nursery.proofs.Rows.{behind, lesser, searched}
use Rattle.pm_nursery.proofs.Together.{holders_total, holders_antisymmetric}
use Rattle.pm_nursery.proofs.index.search.Goals as goal

pub returns-clause-found : goal.returns-clause-found
returns-clause-found c =
    (searched holders_total holders_antisymmetric c.args.pairs.now c.requires c.args.pair c.binary_search.result c.binary_search.ensures.bound c.binary_search.ensures.position).0

pub returns-clause-absent : goal.returns-clause-absent
returns-clause-absent c =
    (searched holders_total holders_antisymmetric c.args.pairs.now c.requires c.args.pair c.binary_search.result c.binary_search.ensures.bound c.binary_search.ensures.position).1

pub returns-then-lt-clause-absent : goal.returns-then-lt-clause-absent
returns-then-lt-clause-absent c =
    let last : slice_get c.args.pairs.now (length c.args.pairs.now - 1) ≡ Some c.in-Some.last.now = search rules in
    behind holders_total holders_antisymmetric c.args.pairs.now c.requires c.args.pair c.in-Some.last.now last (lesser (holder_cmp c.in-Some.last.now c.args.pair) (search rules))
