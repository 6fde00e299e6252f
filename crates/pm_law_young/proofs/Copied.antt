-- The copy of the world within is the world's copy.
use Rattle.std.proofs.Common.{◌≡◌, ℕ, [], Option, Some, None, refl, sym, ap, ◌∙◌}
use Rattle.std.specs.Option.{IsSome}
use Rattle.std.specs.Cmp.{nat_cmp_total}
use Rattle.std.specs.FinMap.{get, same_map, nat_cmp-IsAntisymmetric}
use Rattle.pm_model.specs.Heap.{Object, Heap}
use Rattle.pm_model.specs.World.{World, Roots}
use Rattle.pm_model.specs.Copying.{IsRoot, copied, copy}
use Rattle.pm_model.specs.Reachability.{IsReachable}
use Rattle.pm_model.proofs.Reaching.{along, reachable_next}
use Rattle.pm_model.proofs.Reached.{copied_kept, copied_reached}
use Rattle.pm_nursery.specs.Young.{NurseryView, IsYoung}
use Rattle.pm_nursery.proofs.Parts.{found_of, none_some, holder, same_holds, leads_there}
use Rattle.pm_law_young.proofs.Reaches.{within_holds}

module _ (within world : World) (nursery : NurseryView) (is : IsYoung within nursery world) where
  abbrev roots : Roots
  roots = within.roots

  abbrev Reached : Heap → ℕ → Type 0
  Reached heap id = IsReachable heap (IsRoot roots) id

  -- a path from a name within is one of the world
  outward : (id : ℕ) → Reached within.heap id → Reached world.heap id
  outward id path = (
    path.0,
    path.1,
    path.2,
    leads_there within.heap world.heap (λ from to holds.
        let object = holder within.heap from to holds in
        same_holds within.heap world.heap from to (object.1 ∙ sym (is.inside from object.0 object.1)) holds) path.0 path.1 id path.3,
  )

  -- and one of the world does not leave what is within
  abbrev Inside : ℕ → Type 0
  Inside id = IsSome (get within.heap id) × Reached within.heap id

  inward : (id : ℕ) → Reached world.heap id → Inside id
  inward id path =
      along world.heap Inside
      (λ from to inside holds.
      let held = within_holds within world nursery is from to inside.0 holds in
      (is.fields from to held, reachable_next within.heap (IsRoot roots) from to inside.1 held))
      path.0 path.1 id (is.roots path.2.0 path.0 path.2.1, (path.0, [], path.2, refl)) path.3

  same_at : (next id : ℕ) → get (copied within.heap roots next).heap id ≡ get (copied world.heap roots next).heap id
  same_at next id = by (get (copied within.heap roots next).heap id) (get (copied world.heap roots next).heap id) refl refl
    where
      by : (one other : Option Object) → get (copied within.heap roots next).heap id ≡ one → get (copied world.heap roots next).heap id ≡ other → one ≡ other
      by (Some object) other here there =
          let kept = copied_kept within.heap roots next id object here in
          sym (copied_reached world.heap roots next id object (outward id kept.1) (is.inside id object kept.0)) ∙ there
      by None None here there = refl
      by None (Some object) here there =
          let kept = copied_kept world.heap roots next id object there in
          let inside = inward id kept.1 in
          let found = found_of (get within.heap id) inside.0 in
          absurd (none_some (get (copied within.heap roots next).heap id) found.0 here (copied_reached within.heap roots next id found.0 inside.1 found.1))

  same_heap : (next : ℕ) → (copied within.heap roots next).heap ≡ (copied world.heap roots next).heap
  same_heap next = same_map nat_cmp_total nat_cmp-IsAntisymmetric _ _ (same_at next)

  pub same_copy : copy within ≡ copy world
  same_copy =
      (λ i. record { heap = same_heap within.next i; roots = within.roots; next = within.next })
      ∙ ap (λ (w : World). copied world.heap w.roots w.next) is.rest
