use Rattle.std.proofs.Common.{ℕ, nat_eq, not, rules}
use Rattle.std.proofs.lemmas.Map.Made.{filter_same_pairs}
use Rattle.pm_types.proofs.Orders.{places_total, places_antisymmetric}
use Rattle.pm_model.proofs.Retained.{retained}
use Rattle.pm_model.proofs.registers.Registers.close.Goals as goal

pub returns : goal.returns
returns c =
    let kept = filter_same_pairs _ (λ (e : (ℕ × ℕ) × ℕ). not (nat_eq e.0.0 c.args.client)) _ (λ k v b w f' t. search rules) _ _ c.retain.ensures.filtered in
    retained places_total places_antisymmetric (λ place. not (nat_eq place.0 c.args.client)) _ _ _ c.self.view_is kept
