use Rattle.std.proofs.Common.{◌-◌, subst, List}
use Rattle.pm_cars.specs.Entries.{Entry, IsAt}
use Rattle.pm_cars.specs.Rows.{Row}
use Rattle.pm_cars.proofs.Places.{at_later}
use Rattle.pm_cars.proofs.row.Row.numbered_place.Goals as goal

pub returns-then-is_at : goal.returns-then-is_at
returns-then-is_at c =
    let inside = c.self.inside in
    let slot = c.args.slot in
    let at = subst (λ (es : List Entry). IsAt es slot slot) c.deref.ensures.value (c.is_at.ensures c.if-is_at.true) in
    subst (λ (row : Row). IsAt row.items slot (slot - inside.blanks)) c.self.view_is (at_later inside.items.items slot inside.blanks slot c.if-self-number.true at)
