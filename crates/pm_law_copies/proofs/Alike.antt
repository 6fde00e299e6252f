-- Heaps that agree on what the roots reach are copied alike.
use Rattle.std.proofs.Common.{◌≡◌, ◌⊎◌, inl, inr, ℕ, refl, sym, subst, ◌∙◌, List, [], ◌∷◌, Option, Some, None}
use Rattle.std.specs.Option.{IsSomeAnd}
use Rattle.std.specs.List.{Contains}
use Rattle.std.specs.FinMap.{get, same_map, nat_cmp-IsAntisymmetric}
use Rattle.std.proofs.lemmas.Cmp.{nat_cmp_total}
use Rattle.pm_model.specs.Heap.{Object, Heap, Holds}
use Rattle.pm_model.specs.World.{Roots}
use Rattle.pm_model.specs.Reachability.{Leads, IsReachable}
use Rattle.pm_model.specs.Copying.{reached, copied, IsRoot}
use Rattle.pm_model.proofs.Reaching.{reachable_next}
use Rattle.pm_model.proofs.Reached.{copied_kept, copied_reached}

same_option : {X : Type 0} (o p : Option X) → ((x : X) → o ≡ Some x → p ≡ Some x) → ((x : X) → p ≡ Some x → o ≡ Some x) → o ≡ p
same_option None None there back = refl
same_option None (Some y) there back = back y refl
same_option (Some x) p there back = sym (there x refl)

module _ (h k : Heap) (roots : Roots) (agree : (id : ℕ) → IsReachable h (IsRoot roots) id → get h id ≡ get k id) where
  holds_too : (from to : ℕ) → IsReachable h (IsRoot roots) from → Holds h from to → Holds k from to
  holds_too from to reached holds = subst (λ o. IsSomeAnd o (λ (object : Object). Contains object.fields (Some to))) (agree from reached) holds

  held_too : (from to : ℕ) → IsReachable h (IsRoot roots) from → Holds k from to → Holds h from to
  held_too from to reached holds = subst (λ o. IsSomeAnd o (λ (object : Object). Contains object.fields (Some to))) (sym (agree from reached)) holds

  leads_too : (from : ℕ) (path : List ℕ) (to : ℕ) → IsReachable h (IsRoot roots) from → Leads h from path to → Leads k from path to
  leads_too from [] to reached leads = leads
  leads_too from (next ∷ path) to reached leads = (holds_too from next reached leads.0, leads_too next path to (reachable_next h (IsRoot roots) from next reached leads.0) leads.1)

  led_too : (from : ℕ) (path : List ℕ) (to : ℕ) → IsReachable h (IsRoot roots) from → Leads k from path to → Leads h from path to
  led_too from [] to reached leads = leads
  led_too from (next ∷ path) to reached leads =
      let holds = held_too from next reached leads.0 in
      (holds, led_too next path to (reachable_next h (IsRoot roots) from next reached holds) leads.1)

  pub reached_there : (id : ℕ) → IsReachable h (IsRoot roots) id → IsReachable k (IsRoot roots) id
  reached_there id from = (from.0, from.1, from.2, leads_too from.0 from.1 id (from.0, [], from.2, refl) from.3)

  pub reached_here : (id : ℕ) → IsReachable k (IsRoot roots) id → IsReachable h (IsRoot roots) id
  reached_here id from = (from.0, from.1, from.2, led_too from.0 from.1 id (from.0, [], from.2, refl) from.3)

  same_heap : (next : ℕ) → (copied h roots next).heap ≡ (copied k roots next).heap
  same_heap next = same_map nat_cmp_total nat_cmp-IsAntisymmetric _ _ (λ id. same_option (get (copied h roots next).heap id) (get (copied k roots next).heap id)
      (λ object is. let there = copied_kept h roots next id object is in copied_reached k roots next id object (reached_there id there.1) (sym (agree id there.1) ∙ there.0))
      (λ object is. let there = copied_kept k roots next id object is in let from = reached_here id there.1 in copied_reached h roots next id object from (agree id from ∙ there.0)))

  pub copied_alike : (next : ℕ) → copied h roots next ≡ copied k roots next
  copied_alike next = λ i. record { heap = same_heap next i; roots = roots; next = next }

-- ---- what names an identity that is reached

-- a root stands for it, or an object holds it
pub named_last : (heap : Heap) (Begins : ℕ → Type 0) (from : ℕ) (path : List ℕ) (to : ℕ) → Begins from → Leads heap from path to → Begins to ⊎ ((holder : ℕ) × Holds heap holder to)
named_last heap Begins from [] to begins leads = inl (subst Begins leads begins)
named_last heap Begins from (next ∷ path) to begins leads = last from next path to leads.0 leads.1
  where
    last : (from next : ℕ) (path : List ℕ) (to : ℕ) → Holds heap from next → Leads heap next path to → Begins to ⊎ ((holder : ℕ) × Holds heap holder to)
    last from next [] to holds leads = inr (from, subst (Holds heap from) leads holds)
    last from next (after ∷ path) to holds leads = last next after path to leads.0 leads.1
