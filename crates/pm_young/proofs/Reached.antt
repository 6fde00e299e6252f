-- What the world reaches stands in the space, or is young.
use Rattle.std.proofs.Common.{◌≡◌, ◌⊎◌, inl, inr, ⊎_elim, ℕ, [], Option, Some, None, refl, sym, ap, ◌∙◌}
use Rattle.std.specs.Option.{IsSome}
use Rattle.std.specs.FinMap.{get}
use Rattle.std.proofs.Math.Logic.{∥∥₁_map}
use Rattle.pm_disk.specs.declared.disk.Disk.{Ghosts}
use Rattle.pm_model.specs.Heap.{Holds}
use Rattle.pm_model.specs.World.{World}
use Rattle.pm_model.specs.Reachability.{IsReachable}
use Rattle.pm_model.proofs.Reaching.{reachable_next, along}
use Rattle.pm_view.specs.Counts.{IsStanding}
use Rattle.pm_view.specs.Represents.{IsHeld}
use Rattle.pm_saving.specs.Serving.{world}
use Rattle.pm_engine.specs.declared.works.start.Start.{Start}
use Rattle.pm_engine.specs.declared.works.works.Works.{Works}
use Rattle.pm_engine.specs.Works.Seen.{seen}
use Rattle.pm_engine.specs.Works.Working.{view_in}
use Rattle.pm_nursery.specs.Young.{NurseryView, IsNursery, IsYoung, or_else}
use Rattle.pm_nursery.proofs.Parts.{found_of, same_holds}
use Rattle.pm_law_young.proofs.Reaches.{within_holds}
use Rattle.pm_young.specs.Kept.{StandsYoung}

module _ (within world : World) (nursery : NurseryView) (is : IsYoung within nursery world) (sound : IsNursery nursery) where
  abbrev Lies : ℕ → Type 0
  Lies id = IsReachable within.heap (IsHeld within) id ⊎ IsSome (get nursery.objects id)

  held_there : (id : ℕ) → IsHeld within id → IsSome (get within.heap id)
  held_there id (inl named) = is.roots named.0 id named.1
  held_there id (inr held) = is.held held.0 id held.1

  there : (id : ℕ) → IsReachable within.heap (IsHeld within) id → IsSome (get within.heap id)
  there id path = along within.heap (λ x. IsSome (get within.heap x)) (λ from to here holds. is.fields from to holds) path.0 path.1 id (held_there path.0 path.2) path.3

  holds_young : (from to : ℕ) → IsSome (get nursery.objects from) → Holds world.heap from to → Holds nursery.objects from to
  holds_young from to young holds =
      let object = found_of (get nursery.objects from) young in
      same_holds world.heap nursery.objects from to (is.young from object.0 object.1 ∙ sym object.1) holds

  register_lies : (place : ℕ × ℕ) (id : ℕ) (n : Option ℕ) → get nursery.registers place ≡ n → or_else n (get within.registers place) ≡ Some id → Lies id
  register_lies place id None was here = inl (id, [], inr (place, here), refl)
  register_lies place id (Some y) was here = inr (sound.held id (place, was ∙ here))

  begins : (id : ℕ) → IsHeld world id → Lies id
  begins id (inl named) = inl (id, [], inl (named.0, ap (λ (w : World). get w.roots named.0) is.rest ∙ named.1), refl)
  begins id (inr held) = register_lies held.0 id (get nursery.registers held.0) refl (sym (is.registers held.0) ∙ held.1)

  step : (from to : ℕ) → Lies from → Holds world.heap from to → Lies to
  step from to (inl path) holds = inl (reachable_next within.heap (IsHeld within) from to path (within_holds within world nursery is from to (there from path) holds))
  step from to (inr young) holds = inr (sound.closed from to (holds_young from to young holds))

  pub lies : (id : ℕ) → IsReachable world.heap (IsHeld world) id → Lies id
  lies id path = along world.heap Lies step path.0 path.1 id (begins path.0 path.2) path.3

module _ {D : Type 0} {F : Type 0} {g : Ghosts D} (start : Start D F g) (works : Works D F g) (nursery : NurseryView) (sound : IsNursery nursery) where
  pub stands_or_young : ∥ StandsYoung start works nursery ∥₁ → (id : ℕ) → IsReachable (world (seen start None works)).heap (IsHeld (world (seen start None works))) id
      → ∥ IsStanding (view_in works) id ⊎ IsSome (get nursery.objects id) ∥₁
  stands_or_young known id path = ∥∥₁_map known (λ it.
      ⊎_elim (λ reached. inl (it.represents.reached id reached)) (λ young. inr young) (lies it.within (world (seen start None works)) nursery it.young sound id path))
