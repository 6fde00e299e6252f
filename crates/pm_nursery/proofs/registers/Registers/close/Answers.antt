use Rattle.std.proofs.Common.{ℕ, List, nat_eq, not, refl, sym, subst, rules}
use Rattle.std.specs.List.Sorted.{IsStrictlySortedBy}
use Rattle.std.specs.Map.{keys_of}
use Rattle.std.specs.FinMap.{from_entries}
use Rattle.std.proofs.lemmas.Fn.{filter_same}
use Rattle.pm_types.specs.Orders.{place_cmp}
use Rattle.pm_types.proofs.Orders.{places_total, places_antisymmetric}
use Rattle.pm_model.specs.World.{Registers}
use Rattle.pm_model.proofs.Retained.{retained}
use Rattle.pm_nursery.specs.Holding.{IsTurned}
use Rattle.pm_nursery.specs.Turned.{Pair}
use Rattle.pm_nursery.proofs.Rows.{sorted_left}
use Rattle.pm_nursery.proofs.Turned.{closed_turned}
use Rattle.pm_nursery.proofs.registers.Registers.close.Goals as goal

pub invariant_of-self : goal.invariant_of-self
invariant_of-self c =
    let es = c.self.inside.held.items in
    let kept = filter_same _ (λ (e : (ℕ × ℕ) × ℕ). not (nat_eq e.0.0 c.args.client)) _ (λ k b f' t. search rules) _ _ c.retain.ensures.filtered in
    let left = filter_same _ (λ (p : Pair). not (nat_eq p.1.0 c.args.client)) _ (λ k b f' t. search rules) _ _ c.retain-2.ensures.filtered in
    record {
      rise = subst (λ (xs : List ((ℕ × ℕ) × ℕ)). IsStrictlySortedBy place_cmp (keys_of xs)) (sym kept) (sorted_left places_total places_antisymmetric (λ (e : (ℕ × ℕ) × ℕ). not (nat_eq e.0.0 c.args.client)) es c.self.invariant.rise);
      index = subst (λ (r : Registers). IsTurned r c.retain-2.new.self.items) (sym (retained places_total places_antisymmetric (λ place. not (nat_eq place.0 c.args.client)) es _ (from_entries es) refl kept))
          (closed_turned (from_entries es) c.self.inside.turned.items c.self.invariant.index c.args.client c.retain-2.new.self.items left);
    }

pub returns : goal.returns
returns c =
    let kept = filter_same _ (λ (e : (ℕ × ℕ) × ℕ). not (nat_eq e.0.0 c.args.client)) _ (λ k b f' t. search rules) _ _ c.retain.ensures.filtered in
    retained places_total places_antisymmetric (λ place. not (nat_eq place.0 c.args.client)) _ _ _ c.self.view_is kept
