use Rattle.std.proofs.Common.{◌≡◌, ℕ, List, Some, None, false, get_or, nat_eq, set, refl, sym, ap, subst, ◌∙◌, arith, rules}
use Rattle.std.specs.Map.{keys_of}
use Rattle.std.specs.FinMap as map
use Rattle.std.specs.FinMap.{get}
use Rattle.std.proofs.lemmas.Bool.Decides.{nat_tests}
use Rattle.pm_types.specs.Orders.{place_cmp}
use Rattle.pm_types.proofs.Orders.{places_total, places_antisymmetric}
use Rattle.pm_model.specs.World.{Registers}
use Rattle.pm_nursery.specs.Holding.{AreIndexed, IsTurned}
use Rattle.pm_nursery.specs.Rows.{IsAt, IsGap}
use Rattle.pm_nursery.proofs.Rows.{found, missed, put_new, put_old, same_put, sorted_new, sorted_old}
use Rattle.pm_nursery.proofs.Turned.{moved_turned, not_there, put_turned, there}
use Rattle.pm_nursery.proofs.registers.Registers.hold.Goals as goal

pub exchange-requires-clause-there : goal.exchange-requires-clause-there
exchange-requires-clause-there c =
    let es = c.self.inside.held.items in
    let place : ℕ × ℕ = (c.args.client, c.args.register) in
    let is : IsAt (keys_of es) place c.in-Ok.at = subst (λ (xs : List ((ℕ × ℕ) × ℕ)). IsAt (keys_of xs) place c.in-Ok.at) c.deref.ensures.value c.in-Ok.ensures.found in
    let e : (ℕ × ℕ) × ℕ = c.index.result.now in
    let read : e ≡ get_or es c.in-Ok.at e = search rules in
    let held : get (map.from_entries es) place ≡ Some e.1 = found places_total places_antisymmetric es c.self.invariant.rise place c.in-Ok.at e is ∙ ap (λ (x : (ℕ × ℕ) × ℕ). Some x.1) (sym read) in
    let kept = subst (IsTurned (map.from_entries es)) (sym c.in_ok-reserve.ensures.items) c.self.invariant.index in
    there (map.from_entries es) c.reserve.new.self.items kept place e.1 held

pub exchange-requires-clause-new : goal.exchange-requires-clause-new
exchange-requires-clause-new c =
    let es = c.self.inside.held.items in
    let place : ℕ × ℕ = (c.args.client, c.args.register) in
    let is : IsAt (keys_of es) place c.in-Ok.at = subst (λ (xs : List ((ℕ × ℕ) × ℕ)). IsAt (keys_of xs) place c.in-Ok.at) c.deref.ensures.value c.in-Ok.ensures.found in
    let e : (ℕ × ℕ) × ℕ = c.index.result.now in
    let read : e ≡ get_or es c.in-Ok.at e = search rules in
    let held : get (map.from_entries es) place ≡ Some e.1 = found places_total places_antisymmetric es c.self.invariant.rise place c.in-Ok.at e is ∙ ap (λ (x : (ℕ × ℕ) × ℕ). Some x.1) (sym read) in
    let kept = subst (IsTurned (map.from_entries es)) (sym c.in_ok-reserve.ensures.items) c.self.invariant.index in
    let apart = c.if-old-id.true in
    not_there (map.from_entries es) c.reserve.new.self.items kept place (Some e.1) held c.args.id (let other : nat_eq e.1 c.args.id ≡ false = grind (arith, nat_tests, apart) in other)

pub invariant_of-self-then-old-id : goal.invariant_of-self-then-old-id
invariant_of-self-then-old-id c =
    let es = c.self.inside.held.items in
    let place : ℕ × ℕ = (c.args.client, c.args.register) in
    let is : IsAt (keys_of es) place c.in-Ok.at = subst (λ (xs : List ((ℕ × ℕ) × ℕ)). IsAt (keys_of xs) place c.in-Ok.at) c.deref.ensures.value c.in-Ok.ensures.found in
    let e : (ℕ × ℕ) × ℕ = c.index.result.now in
    let read : e ≡ get_or es c.in-Ok.at e = search rules in
    let held : get (map.from_entries es) place ≡ Some e.1 = found places_total places_antisymmetric es c.self.invariant.rise place c.in-Ok.at e is ∙ ap (λ (x : (ℕ × ℕ) × ℕ). Some x.1) (sym read) in
    let kept = subst (IsTurned (map.from_entries es)) (sym c.in_ok-reserve.ensures.items) c.self.invariant.index in
    let m : (ℕ × ℕ) × ℕ = c.index_mut.result.now in
    let lent : m ≡ get_or es c.in-Ok.at m = search rules in
    let after : List ((ℕ × ℕ) × ℕ) = set es c.in-Ok.at ((get_or es c.in-Ok.at m).0, c.args.id) in
    let listed : AreIndexed after c.exchange.new.pairs.items = record {
      rise = sorted_old places_total places_antisymmetric es c.self.invariant.rise place c.in-Ok.at m is c.args.id;
      index = subst (λ (r : Registers). IsTurned r c.exchange.new.pairs.items) (sym (put_old places_total places_antisymmetric es c.self.invariant.rise place c.in-Ok.at m is c.args.id))
          (moved_turned (map.from_entries es) c.reserve.new.self.items kept place c.args.id (c.requires.client, c.requires.register) e.1 held c.exchange.new.pairs.items c.exchange.ensures);
    } in
    subst (λ (x : (ℕ × ℕ) × ℕ). AreIndexed (set es c.in-Ok.at (x.0, c.args.id)) c.exchange.new.pairs.items) (sym lent) listed

pub returns-then-old-id-clause-ok : goal.returns-then-old-id-clause-ok
returns-then-old-id-clause-ok c =
    let es = c.self.inside.held.items in
    let place : ℕ × ℕ = (c.args.client, c.args.register) in
    let is : IsAt (keys_of es) place c.in-Ok.at = subst (λ (xs : List ((ℕ × ℕ) × ℕ)). IsAt (keys_of xs) place c.in-Ok.at) c.deref.ensures.value c.in-Ok.ensures.found in
    let m : (ℕ × ℕ) × ℕ = c.index_mut.result.now in
    let lent : m ≡ get_or es c.in-Ok.at m = search rules in
    ap (λ (x : (ℕ × ℕ) × ℕ). map.from_entries {R = place_cmp} (set es c.in-Ok.at (x.0, c.args.id))) lent
    ∙ put_old places_total places_antisymmetric es c.self.invariant.rise place c.in-Ok.at m is c.args.id
    ∙ ap (λ (r : Registers). map.insert r place c.args.id) c.self.view_is

pub returns-else-old-id-clause-ok : goal.returns-else-old-id-clause-ok
returns-else-old-id-clause-ok c =
    let es = c.self.inside.held.items in
    let place : ℕ × ℕ = (c.args.client, c.args.register) in
    let is : IsAt (keys_of es) place c.in-Ok.at = subst (λ (xs : List ((ℕ × ℕ) × ℕ)). IsAt (keys_of xs) place c.in-Ok.at) c.deref.ensures.value c.in-Ok.ensures.found in
    let e : (ℕ × ℕ) × ℕ = c.index.result.now in
    let read : e ≡ get_or es c.in-Ok.at e = search rules in
    let same : e.1 ≡ c.args.id = c.if-old-id.false in
    let held : get (map.from_entries es) place ≡ Some c.args.id = found places_total places_antisymmetric es c.self.invariant.rise place c.in-Ok.at e is ∙ ap (λ (x : (ℕ × ℕ) × ℕ). Some x.1) (sym read) ∙ ap (λ (x : ℕ). Some x) same in
    same_put places_total places_antisymmetric (map.from_entries es) place c.args.id held ∙ ap (λ (r : Registers). map.insert r place c.args.id) c.self.view_is

pub add-requires-clause-new : goal.add-requires-clause-new
add-requires-clause-new c =
    let es = c.self.inside.held.items in
    let place : ℕ × ℕ = (c.args.client, c.args.register) in
    let gap : IsGap place_cmp (keys_of es) place c.in-Err.at = subst (λ (xs : List ((ℕ × ℕ) × ℕ)). IsGap place_cmp (keys_of xs) place c.in-Err.at) c.deref.ensures.value c.in-Err.ensures.absent in
    let kept = subst (IsTurned (map.from_entries es)) (sym c.in_ok-reserve.ensures.items) c.self.invariant.index in
    not_there (map.from_entries es) c.reserve.new.self.items kept place None (missed places_total places_antisymmetric es c.self.invariant.rise place c.in-Err.at gap) c.args.id refl

pub invariant_of-self-in-Err : goal.invariant_of-self-in-Err
invariant_of-self-in-Err c =
    let es = c.self.inside.held.items in
    let place : ℕ × ℕ = (c.args.client, c.args.register) in
    let gap : IsGap place_cmp (keys_of es) place c.in-Err.at = subst (λ (xs : List ((ℕ × ℕ) × ℕ)). IsGap place_cmp (keys_of xs) place c.in-Err.at) c.deref.ensures.value c.in-Err.ensures.absent in
    let none = missed places_total places_antisymmetric es c.self.invariant.rise place c.in-Err.at gap in
    let kept = subst (IsTurned (map.from_entries es)) (sym c.in_ok-reserve.ensures.items) c.self.invariant.index in
    subst (λ (xs : List ((ℕ × ℕ) × ℕ)). AreIndexed xs c.add.new.pairs.items) (sym c.in_ok-insert-in-Err.ensures.items)
    (record {
      rise = sorted_new places_total places_antisymmetric es c.self.invariant.rise place c.in-Err.at c.args.id gap;
      index = subst (λ (r : Registers). IsTurned r c.add.new.pairs.items) (sym (put_new places_total places_antisymmetric es c.self.invariant.rise place c.in-Err.at c.args.id gap))
          (put_turned (map.from_entries es) c.reserve.new.self.items kept place c.args.id (c.requires.client, c.requires.register) none c.add.new.pairs.items c.add.ensures);
    })

pub returns-in_ok-insert-in-Err-clause-ok : goal.returns-in_ok-insert-in-Err-clause-ok
returns-in_ok-insert-in-Err-clause-ok c =
    let es = c.self.inside.held.items in
    let place : ℕ × ℕ = (c.args.client, c.args.register) in
    let gap : IsGap place_cmp (keys_of es) place c.in-Err.at = subst (λ (xs : List ((ℕ × ℕ) × ℕ)). IsGap place_cmp (keys_of xs) place c.in-Err.at) c.deref.ensures.value c.in-Err.ensures.absent in
    ap (map.from_entries {R = place_cmp}) c.in_ok-insert-in-Err.ensures.items
    ∙ put_new places_total places_antisymmetric es c.self.invariant.rise place c.in-Err.at c.args.id gap
    ∙ ap (λ (r : Registers). map.insert r place c.args.id) c.self.view_is
