use Rattle.std.proofs.Common.{arith}
use Rattle.pm_types.specs.Near.{seen_far}
use Rattle.pm_types.proofs.Fills.{get_seen}
use Rattle.pm_types.proofs.Hashed.{get_hashed}
use Rattle.pm_types.proofs.numbered.Numbered.get.Goals as goal

pub returns-in-Some : goal.returns-in-Some
returns-in-Some g c =
    let seen = get_seen c.self.inside.near.places.items (seen_far c.self.inside.far) c.args.self.now c.self.view_is c.args.number in
    grind (arith, seen, c.in-Some.ensures)

pub returns-in-None : goal.returns-in-None
returns-in-None g c =
    let seen = get_seen c.self.inside.near.places.items (seen_far c.self.inside.far) c.args.self.now c.self.view_is c.args.number in
    let hashed = get_hashed c.self.inside.far c.args.number in
    grind (arith, seen, hashed, c.in-None.ensures, c.get-in-None.ensures.value)
