-- A heap in which the next identity and all later ones are unused.
use Rattle.std.proofs.Common.{◌≡◌, ℕ, ◌+◌, ◌≤◌, ◌==◌, Bool, true, false, cond, refl, ap, sym, ◌∙◌, Option, Some, None, arith, lit≤}
use Rattle.std.specs.Ordering.{nat_cmp, is_eq, eq_by_cmp}
use Rattle.std.specs.Cmp.{nat_cmp_total}
use Rattle.std.specs.FinMap.{get, insert, remove, empty, get-empty, get-insert, get-remove, same_map, nat_cmp-IsAntisymmetric}
use Rattle.std.proofs.lemmas.Bool.{eqb-true}
use Rattle.std.proofs.lemmas.Bool.Decides.{nat_tests}
use Rattle.pm_model.specs.Heap.{Object, Heap}
use Rattle.pm_model.specs.Oracles.{IsSound}

pub tied_nat : (m n : ℕ) → is_eq (nat_cmp m n) ≡ (m == n)
tied_nat m n = grind (arith, nat_tests)

-- to take away what was put at an unused identity gives the heap back
cond_back : {X : Type 0} (b : Bool) (v : X) (old : Option X) → (b ≡ true → None ≡ old) → cond b None (cond b (Some v) old) ≡ old
cond_back true v old is = is refl
cond_back false v old is = refl

pub taken_back : (heap : Heap) (next : ℕ) (object : Object) → get heap next ≡ None → remove (insert heap next object) next ≡ heap
taken_back heap next object unused =
    same_map nat_cmp_total nat_cmp-IsAntisymmetric _ _ (λ q.
    get-remove nat_cmp_total (insert heap next object) next q
    ∙ ap (cond (eq_by_cmp nat_cmp q next) None) (get-insert nat_cmp_total heap next object q)
    ∙ cond_back (eq_by_cmp nat_cmp q next) object (get heap q) (λ tied. sym (ap (get heap) (eqb-true q next (sym (tied_nat q next) ∙ tied)) ∙ unused)))

cond_other : {X : Type 0} (b : Bool) (x y : X) → b ≡ false → cond b x y ≡ y
cond_other true x y is = cc
cond_other false x y is = refl

not_tied : (q next : ℕ) → next + 1 ≤ q → eq_by_cmp nat_cmp q next ≡ false
not_tied q next above = tied_nat q next ∙ grind (arith, nat_tests)

other : (q id : ℕ) → (q ≡ id → ⊥) → (q == id) ≡ false
other q id not = grind (arith, nat_tests)

-- the heap with one more object, and the next identity raised, is sound
pub sound_insert : (heap : Heap) (next : ℕ) (object : Object) → IsSound heap next → next ≤ 4294967295 → IsSound (insert heap next object) (next + 1)
sound_insert heap next object sound small =
    record {
      first = omega arith;
      last = omega arith;
      unused = λ id above. get-insert nat_cmp_total heap next object id ∙ cond_other _ (Some object) (get heap id) (not_tied id next above) ∙ sound.unused id (omega arith);
    }

-- the empty heap is sound
pub sound_empty : IsSound empty 1
sound_empty = record { first = omega arith; last = lit≤ tt; unused = λ id above. get-empty nat_cmp id }

-- an identity that has an object is not an unused one, so the heap stays sound when that object is another
pub sound_changed : (heap : Heap) (next id : ℕ) (old new : Object) → IsSound heap next → get heap id ≡ Some old → IsSound (insert heap id new) next
sound_changed heap next id old new sound there =
    record {
      first = sound.first;
      last = sound.last;
      unused = λ q above.
          get-insert nat_cmp_total heap id new q
          ∙ cond_other _ (Some new) (get heap q) (tied_nat q id ∙ other q id (λ same. let none = sound.unused q above in let some = ap (get heap) same ∙ there in cc)) ∙ sound.unused q above;
    }
