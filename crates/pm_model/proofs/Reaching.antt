-- Paths along fields.
use Rattle.std.proofs.Common.{ℕ, List, [], ◌∷◌, ◌++◌, refl, sym, subst}
use Rattle.pm_model.specs.Heap.{Heap, Holds}
use Rattle.pm_model.specs.Reachability.{Leads, IsReachable}

-- a path goes on to what its end holds
goes_on : (heap : Heap) (from : ℕ) (path : List ℕ) (to next : ℕ) → Leads heap from path to → Holds heap to next → Leads heap from (path ++ next ∷ []) next
goes_on heap from [] to next leads holds = (subst (λ x. Holds heap x next) (sym leads) holds, refl)
goes_on heap from (step ∷ path) to next leads holds = (leads.0, goes_on heap step path to next leads.1 holds)

-- what is reachable holds what is reachable
pub reachable_next : (heap : Heap) (Begins : ℕ → Type 0) (from to : ℕ) → IsReachable heap Begins from → Holds heap from to → IsReachable heap Begins to
reachable_next heap Begins from to reached holds = (reached.0, reached.1 ++ to ∷ [], reached.2, goes_on heap reached.0 reached.1 from to reached.3 holds)

-- what holds of a path's first identity, and of all that an identity of it holds, holds of its last
pub along : (heap : Heap) (P : ℕ → Type 0) → ((from to : ℕ) → P from → Holds heap from to → P to) → (from : ℕ) (path : List ℕ) (to : ℕ) → P from → Leads heap from path to → P to
along heap P keeps from [] to here leads = subst P leads here
along heap P keeps from (next ∷ path) to here leads = along heap P keeps next path to (keeps from next here leads.0) leads.1
