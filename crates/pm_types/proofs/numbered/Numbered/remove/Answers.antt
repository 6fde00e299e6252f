use Rattle.std.proofs.Common.{refl, ◌∙◌, arith}
use Rattle.pm_types.specs.Near.{filled, seen_far}
use Rattle.pm_types.proofs.Fills.{get_seen, taken}
use Rattle.pm_types.proofs.Hashed.{get_hashed, removed}
use Rattle.pm_types.proofs.numbered.Numbered.remove.Goals as goal

pub returns-clause-value : goal.returns-clause-value
returns-clause-value g c =
    let seen = get_seen c.self.inside.near.places.items (seen_far c.self.inside.far) c.args.self.now c.self.view_is c.args.number in
    let hashed = get_hashed c.self.inside.far c.args.number in
    grind (arith, seen, hashed, c.take-near.ensures.value, c.remove-far.ensures.value, c.or-removed.ensures)

pub returns-clause-after : goal.returns-clause-after
returns-clause-after g c =
    let far = seen_far c.self.inside.far in
    let without = removed c.self.inside.far c.remove-far.new.self far refl c.args.number c.remove-far.ensures.updates in
    (λ i. filled (c.take-near.ensures.after i) 0 (without i)) ∙ taken c.self.inside.near.places.items far c.args.self.now c.self.view_is c.args.number
