-- What is joined to an object is the least that has it and is detached.
use Rattle.std.proofs.Common.{◌≡◌, inl, inr, ⊎_elim, ℕ, Bool, true, false, List, [], ◌∷◌, ◌++◌, refl, sym, subst, arith}
use Rattle.std.specs.List.Sorted.{IsStrictlySortedBy}
use Rattle.std.proofs.lemmas.Bool.Decides.{nat_tests}
use Rattle.pm_model.specs.Heap.{Heap, Holds}
use Rattle.pm_nursery.specs.Sweeping.{among, IsDetached}
use Rattle.pm_nursery.specs.Escaping.{IsAscending}
use Rattle.pm_nursery.specs.Walking.{HoldsNothing}
use Rattle.pm_nursery.specs.Joined.{Touches, Joins, IsJoined, AreJoined}

touches_back : (objects : Heap) (one other : ℕ) → Touches objects one other → Touches objects other one
touches_back objects one other touches = ⊎_elim (λ (holds : Holds objects one other). inr holds) (λ (holds : Holds objects other one). inl holds) touches

-- a path goes on to what its end touches
goes_on : (objects : Heap) (from : ℕ) (path : List ℕ) (to next : ℕ) → Joins objects from path to → Touches objects to next → Joins objects from (path ++ next ∷ []) next
goes_on objects from [] to next joins touches = (subst (λ x. Touches objects x next) (sym joins) touches, refl)
goes_on objects from (step ∷ path) to next joins touches = (joins.0, goes_on objects step path to next joins.1 touches)

pub joined_next : (objects : Heap) (id from to : ℕ) → IsJoined objects id from → Touches objects from to → IsJoined objects id to
joined_next objects id from to joined touches = (joined.0 ++ to ∷ [], goes_on objects id joined.0 from to joined.1 touches)

-- what holds of the first identity, and with one of each that it touches, holds of the last
pub along : (objects : Heap) (P : ℕ → Type 0) → ((from to : ℕ) → P from → Touches objects from to → P to) → (from : ℕ) (path : List ℕ) (to : ℕ) → P from → Joins objects from path to → P to
along objects P keeps from [] to here joins = subst P joins here
along objects P keeps from (next ∷ path) to here joins = along objects P keeps next path to (keeps from next here joins.0) joins.1

-- a path can be gone back
pub joined_back : (objects : Heap) (from to : ℕ) → IsJoined objects from to → IsJoined objects to from
joined_back objects from to joined = back from joined.0 to joined.1
  where
    back : (from : ℕ) (path : List ℕ) (to : ℕ) → Joins objects from path to → IsJoined objects to from
    back from [] to joins = ([], sym joins)
    back from (next ∷ path) to joins = joined_next objects to next from (back next path to joins.1) (touches_back objects from next joins.0)

-- two tests that say yes together say the same
same_test : (one other : Bool) → (one ≡ true → other ≡ true) → (other ≡ true → one ≡ true) → one ≡ other
same_test true other there back = sym (there refl)
same_test false true there back = back refl
same_test false false there back = refl

pub joined_detached : (objects : Heap) (id : ℕ) (ids : List ℕ) → AreJoined objects id ids → IsDetached objects ids
joined_detached objects id ids are from to holds =
    same_test (among ids from) (among ids to)
    (λ inside. are.all to (joined_next objects id from to (are.each from inside) (inl holds)))
    (λ inside. are.all from (joined_next objects id to from (are.each to inside) (inr holds)))

-- ---- where no object holds another

pub one_ascends : (id : ℕ) → IsAscending (id ∷ [])
unfolding IsStrictlySortedBy
one_ascends id = (tt, tt)

pub alone_joined : (objects : Heap) → HoldsNothing objects → (id : ℕ) → AreJoined objects id (id ∷ [])
alone_joined objects alone id = record {
  each = λ other inside. ([], first id other inside);
  all = λ other joined. back other joined.0 joined.1;
}
  where
    first : (id other : ℕ) → among (id ∷ []) other ≡ true → id ≡ other
    first id other inside = grind (arith, nat_tests, inside)

    itself : (id : ℕ) → among (id ∷ []) id ≡ true
    itself id = grind (arith, nat_tests)

    back : (other : ℕ) (path : List ℕ) → Joins objects id path other → among (id ∷ []) other ≡ true
    back other [] joins = subst (λ x. among (id ∷ []) x ≡ true) joins (itself id)
    back other (next ∷ path) joins = absurd (⊎_elim (λ (holds : Holds objects id next). alone id next holds) (λ (holds : Holds objects next id). alone next id holds) joins.0)
