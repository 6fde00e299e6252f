use Rattle.std.proofs.Common.{◌≡◌, ℕ, map, subst, ap, ◌∙◌, rules}
use Rattle.std.proofs.lemmas.List.{take_all}
use Rattle.pm_model.specs.World.{Registers}
use Rattle.pm_nursery.specs.Holding.{AreHeld}
use Rattle.pm_nursery.proofs.Held.{are_held}
use Rattle.pm_nursery.proofs.registers.Registers.ids.Goals as goal

pub returns : goal.returns
returns c =
    let all : c.loop-id.ids.items ≡ map (λ (e : (ℕ × ℕ) × ℕ). e.1) c.as_slice-held.result.now =
    c.loop-id.invariant ∙ ap (map (λ (e : (ℕ × ℕ) × ℕ). e.1)) (take_all c.loop-id.id-index c.as_slice-held.result.now (search rules)) in
    subst (λ (r : Registers). AreHeld r c.loop-id.ids.items) c.self.view_is
    (are_held c.self.inside.held.items c.self.invariant.rise c.loop-id.ids.items (all ∙ ap (map (λ (e : (ℕ × ℕ) × ℕ). e.1)) c.as_slice-held.ensures.value))
