use Rattle.std.proofs.Common.{◌≡◌, ℕ, List, Some, get_or, sym, ap, subst, ◌∙◌, rules}
use Rattle.std.specs.Map.{keys_of}
use Rattle.std.specs.FinMap.{get}
use Rattle.pm_types.specs.Orders.{place_cmp}
use Rattle.pm_types.proofs.Orders.{places_total, places_antisymmetric}
use Rattle.pm_model.specs.World.{Registers}
use Rattle.pm_nursery.specs.Rows.{IsAt, IsGap}
use Rattle.pm_nursery.proofs.Rows.{found, missed}
use Rattle.pm_nursery.proofs.registers.Registers.get.Goals as goal

pub returns-in-Ok : goal.returns-in-Ok
returns-in-Ok c =
    let es = c.self.inside.held.items in
    let place : ℕ × ℕ = (c.args.client, c.args.register) in
    let is : IsAt (keys_of es) place c.in-Ok.at = search rules in
    let e : (ℕ × ℕ) × ℕ = c.index.result.now in
    let was : e ≡ get_or es c.in-Ok.at e = search rules in
    ap (λ (x : (ℕ × ℕ) × ℕ). Some x.1) was ∙ sym (found places_total places_antisymmetric es c.self.invariant.rise place c.in-Ok.at e is) ∙ ap (λ (r : Registers). get r place) c.self.view_is

pub returns-in-Err : goal.returns-in-Err
returns-in-Err c =
    let es = c.self.inside.held.items in
    let place : ℕ × ℕ = (c.args.client, c.args.register) in
    let gap : IsGap place_cmp (keys_of es) place c.in-Err.field-0 = subst (λ (xs : List ((ℕ × ℕ) × ℕ)). IsGap place_cmp (keys_of xs) place c.in-Err.field-0) c.deref.ensures.value c.in-Err.ensures.absent in
    sym (missed places_total places_antisymmetric es c.self.invariant.rise place c.in-Err.field-0 gap) ∙ ap (λ (r : Registers). get r place) c.self.view_is
