-- What the world reaches among the young is what the nursery's registers reach.
use Rattle.std.proofs.Common.{◌≡◌, ◌⊎◌, inl, inr, ⊎_elim, ℕ, [], Option, Some, None, refl, sym, ap, ◌∙◌}
use Rattle.std.specs.Option.{IsSome}
use Rattle.std.specs.FinMap.{get}
use Rattle.pm_model.specs.Heap.{Holds}
use Rattle.pm_model.specs.World.{World, Roots}
use Rattle.pm_model.specs.Reachability.{IsReachable}
use Rattle.pm_model.proofs.Reaching.{reachable_next, along}
use Rattle.pm_view.specs.Represents.{IsHeld}
use Rattle.pm_nursery.specs.Young.{NurseryView, IsHeldYoung, IsNursery, IsYoung, or_else}
use Rattle.pm_nursery.proofs.Parts.{found_of, none_some, holder, same_holds, leads_there}

module _ (within world : World) (nursery : NurseryView) (is : IsYoung within nursery world) where
  abbrev YoungReached : ℕ → Type 0
  YoungReached id = IsReachable nursery.objects (IsHeldYoung nursery) id

  -- ---- a young object that the nursery reaches

  young_holds : (from to : ℕ) → Holds nursery.objects from to → Holds world.heap from to
  young_holds from to holds =
      let object = holder nursery.objects from to holds in
      same_holds nursery.objects world.heap from to (object.1 ∙ sym (is.young from object.0 object.1)) holds

  young_held : (id : ℕ) → IsHeldYoung nursery id → IsHeld world id
  young_held id here = inr (here.0, is.registers here.0 ∙ ap (λ (n : Option ℕ). or_else n (get within.registers here.0)) here.1)

  pub world_reaches : (id : ℕ) → YoungReached id → IsReachable world.heap (IsHeld world) id
  world_reaches id path = (path.0, path.1, young_held path.0 path.2, leads_there nursery.objects world.heap young_holds path.0 path.1 id path.3)

  -- ---- one that the world reaches

  pub within_holds : (from to : ℕ) → IsSome (get within.heap from) → Holds world.heap from to → Holds within.heap from to
  within_holds from to there holds =
      let object = found_of (get within.heap from) there in
      same_holds world.heap within.heap from to (is.inside from object.0 object.1 ∙ sym object.1) holds

  holds_young : (from to : ℕ) → IsSome (get nursery.objects from) → Holds world.heap from to → Holds nursery.objects from to
  holds_young from to there holds =
      let object = found_of (get nursery.objects from) there in
      same_holds world.heap nursery.objects from to (is.young from object.0 object.1 ∙ sym object.1) holds

  same_roots : within.roots ≡ world.roots
  same_roots = ap (λ (w : World). w.roots) is.rest

  module _ (sound : IsNursery nursery) where
    -- what is reached is within, or reached by the nursery's registers
    abbrev Lies : ℕ → Type 0
    Lies id = IsSome (get within.heap id) ⊎ YoungReached id

    is_young : (id : ℕ) → YoungReached id → IsSome (get nursery.objects id)
    is_young id path = along nursery.objects (λ x. IsSome (get nursery.objects x)) (λ from to there holds. sound.closed from to holds) path.0 path.1 id (sound.held path.0 path.2) path.3

    register_lies : (place : ℕ × ℕ) (id : ℕ) (n w : Option ℕ) → get nursery.registers place ≡ n → get within.registers place ≡ w → or_else n w ≡ Some id → Lies id
    register_lies place id None w was within_is here = inl (is.held place id (within_is ∙ here))
    register_lies place id (Some y) w was within_is here = inr (id, [], (place, was ∙ here), refl)

    pub begins : (id : ℕ) → IsHeld world id → Lies id
    begins id (inl named) = inl (is.roots named.0 id (ap (λ (roots : Roots). get roots named.0) same_roots ∙ named.1))
    begins id (inr held) = register_lies held.0 id (get nursery.registers held.0) (get within.registers held.0) refl refl (sym (is.registers held.0) ∙ held.1)

    step : (from to : ℕ) → Lies from → Holds world.heap from to → Lies to
    step from to (inl there) holds = inl (is.fields from to (within_holds from to there holds))
    step from to (inr path) holds = inr (reachable_next nursery.objects (IsHeldYoung nursery) from to path (holds_young from to (is_young from path) holds))

    pub nursery_reaches : (id : ℕ) → IsSome (get nursery.objects id) → IsReachable world.heap (IsHeld world) id → YoungReached id
    nursery_reaches id there path =
        ⊎_elim
        (λ (inside : IsSome (get within.heap id)). let object = found_of (get within.heap id) inside in absurd (none_some (get within.heap id) object.0 (is.apart id there) object.1))
        (λ (reached : YoungReached id). reached)
        (along world.heap Lies step path.0 path.1 id (begins path.0 path.2) path.3)

    -- whoever is held and not within is young
    pub held_young : (id : ℕ) → IsHeld world id → get within.heap id ≡ None → IsSome (get nursery.objects id)
    held_young id held none =
        ⊎_elim
        (λ (inside : IsSome (get within.heap id)). let object = found_of (get within.heap id) inside in absurd (none_some (get within.heap id) object.0 none object.1))
        (λ (reached : YoungReached id). is_young id reached)
        (begins id held)
