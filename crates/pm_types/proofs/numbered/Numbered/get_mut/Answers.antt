use Rattle.std.proofs.Common.{◌≡◌, refl, ap, ◌∙◌, arith, is_some, true, None}
use Rattle.pm_types.specs.Near.{near_at, filled, seen_far}
use Rattle.pm_types.proofs.Fills.{get_seen, has_place, put_near, put_far}
use Rattle.pm_types.proofs.Hashed.{get_hashed, inserted}
use Rattle.pm_types.proofs.Lent.{on_some, from_some}
use Rattle.pm_types.proofs.numbered.Numbered.get_mut.Goals as goal

pub returns-then-is_some : goal.returns-then-is_some
returns-then-is_some g c =
    let xs = c.self.inside.near.places.items in
    let far = seen_far c.self.inside.far in
    let there : is_some (near_at xs c.args.number) ≡ true = grind (arith, c.get.ensures, c.if-is_some.true) in
    let fits = has_place xs c.args.number there in
    let seen = get_seen xs far c.args.self.now c.self.view_is c.args.number in (
      (
        refl,
        (λ w. on_some c.get_mut.result (λ given. ap (λ ys. filled ys 0 far) (from_some c.get_mut.result (c.get_mut.follows.holds w) given) ∙ put_near xs far c.args.self.now c.self.view_is c.args.number w fits)),
        ap (λ ys. filled ys 0 far) c.get_mut.follows.holds-at-none ∙ c.self.view_is,
      ),
      record { writes_back = tt; value = grind (arith, seen, there, c.get_mut.ensures.value) },
    )

pub returns-else-is_some : goal.returns-else-is_some
returns-else-is_some g c =
    let xs = c.self.inside.near.places.items in
    let table = c.self.inside.far in
    let far = seen_far table in
    let none : near_at xs c.args.number ≡ None = grind (arith, c.get.ensures, c.if-is_some.false) in
    let seen = get_seen xs far c.args.self.now c.self.view_is c.args.number in
    let hashed = get_hashed table c.args.number in
    let lent = c.get_mut-else-is_some in (
      (
        refl,
        (λ w. on_some lent.result (λ given. ap (filled xs 0) (inserted table (lent.follows.lender w) far refl c.args.number w ((lent.follows.holds w).3 (grind (arith, given, lent.ensures.value))))
            ∙ put_far xs far c.args.self.now c.self.view_is c.args.number w none)),
        ap (λ t. filled xs 0 (seen_far t)) lent.follows.holds-at-none ∙ c.self.view_is,
      ),
      record { writes_back = tt; value = grind (arith, seen, none, hashed, lent.ensures.value) },
    )
