use Rattle.std.proofs.Common.{◌≡◌, ℕ, List, Some, get_or, sym, ap, subst, ◌∙◌, rules}
use Rattle.std.specs.Map.{keys_of}
use Rattle.std.specs.FinMap as map
use Rattle.std.specs.FinMap.{get}
use Rattle.pm_types.specs.Orders.{place_cmp}
use Rattle.pm_types.proofs.Orders.{places_total, places_antisymmetric}
use Rattle.pm_model.specs.World.{Registers}
use Rattle.pm_nursery.specs.Holding.{AreIndexed, IsTurned}
use Rattle.pm_nursery.specs.Rows.{IsAt, IsGap}
use Rattle.pm_nursery.proofs.Rows.{found, missed, none_taken, sorted_taken, taken}
use Rattle.pm_nursery.proofs.Turned.{taken_turned}
use Rattle.pm_nursery.proofs.registers.Registers.forget.Goals as goal

pub invariant_of-self : goal.invariant_of-self
invariant_of-self c =
    let es = c.self.inside.held.items in
    let place : ℕ × ℕ = (c.args.client, c.args.register) in
    let is : IsAt (keys_of es) place c.in-Ok.at = subst (λ (xs : List ((ℕ × ℕ) × ℕ)). IsAt (keys_of xs) place c.in-Ok.at) c.deref.ensures.value c.in-Ok.ensures.found in
    let e : (ℕ × ℕ) × ℕ = c.remove-id.result in
    let was : e ≡ get_or es c.in-Ok.at e = search rules in
    let held : get (map.from_entries es) place ≡ Some e.1 = found places_total places_antisymmetric es c.self.invariant.rise place c.in-Ok.at e is ∙ ap (λ (x : (ℕ × ℕ) × ℕ). Some x.1) (sym was) in
    subst (λ (xs : List ((ℕ × ℕ) × ℕ)). AreIndexed xs c.take.new.pairs.items) (sym c.remove-id.ensures.items)
    (record {
      rise = sorted_taken places_total places_antisymmetric es c.in-Ok.at c.self.invariant.rise;
      index = subst (λ (r : Registers). IsTurned r c.take.new.pairs.items) (sym (taken places_total places_antisymmetric es c.self.invariant.rise place c.in-Ok.at e is))
          (taken_turned (map.from_entries es) c.self.inside.turned.items c.self.invariant.index place e.1 held c.take.new.pairs.items c.take.ensures.taken);
    })

pub returns-in-Ok : goal.returns-in-Ok
returns-in-Ok c =
    let es = c.self.inside.held.items in
    let place : ℕ × ℕ = (c.args.client, c.args.register) in
    let is : IsAt (keys_of es) place c.in-Ok.at = subst (λ (xs : List ((ℕ × ℕ) × ℕ)). IsAt (keys_of xs) place c.in-Ok.at) c.deref.ensures.value c.in-Ok.ensures.found in
    ap (map.from_entries {R = place_cmp}) c.remove-id.ensures.items ∙ taken places_total places_antisymmetric es c.self.invariant.rise place c.in-Ok.at c.remove-id.result is ∙ ap (λ (r : Registers). map.remove r place) c.self.view_is

pub returns-in_default : goal.returns-in_default
returns-in_default c =
    let es = c.self.inside.held.items in
    let place : ℕ × ℕ = (c.args.client, c.args.register) in
    let gap : IsGap place_cmp (keys_of es) place c.in_default.field-0 = subst (λ (xs : List ((ℕ × ℕ) × ℕ)). IsGap place_cmp (keys_of xs) place c.in_default.field-0) c.deref.ensures.value c.in_default.ensures.absent in
    none_taken places_total places_antisymmetric c.args.self.now place (ap (λ (r : Registers). get r place) (sym c.self.view_is) ∙ missed places_total places_antisymmetric es c.self.invariant.rise place c.in_default.field-0 gap)
