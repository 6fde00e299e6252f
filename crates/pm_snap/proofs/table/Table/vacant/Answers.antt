use Rattle.std.proofs.Common.{subst}
use Rattle.pm_snap.specs.Snapped.{IsLowestUnused}
use Rattle.pm_snap.proofs.Passed.{least_is_lowest, next_is_lowest}
use Rattle.pm_snap.proofs.table.Table.vacant.Goals as goal

pub returns-in-Some : goal.returns-in-Some
returns-in-Some g c = subst (λ s. IsLowestUnused s.current c.in-Some.key) c.self.view_is (least_is_lowest c.self.inside.values c.self.inside.used c.self.inside.freed c.self.inside.next c.self.invariant.keys c.in-Some.key c.in-Some.ensures.some)

pub returns-in-None : goal.returns-in-None
returns-in-None g c = subst (λ s. IsLowestUnused s.current c.self.inside.next) c.self.view_is (next_is_lowest c.self.inside.values c.self.inside.used c.self.inside.freed c.self.inside.next c.self.invariant.keys c.in-None.ensures.none)
