-- What is reached of a heap is what is reachable in it.
use Rattle.std.proofs.Common.{◌≡◌, ℕ, zero, suc, ◌-◌, ◌≤◌, Bool, true, false, cond, List, [], ◌∷◌, ◌++◌, Option, Some, None, refl, ap, sym, subst, ◌∙◌, ◌⊎◌, inl, inr, ⊎_elim, arith}
use Rattle.std.specs.List.{Contains, flat_map}
use Rattle.std.specs.Option.{IsSomeAnd, is_some}
use Rattle.std.specs.Ordering.{nat_cmp, eq_by_cmp}
use Rattle.std.specs.Cmp.{nat_cmp_total, eq_by_cmp_equiv}
use Rattle.std.specs.FinMap.{get, insert, remove, len, values, contains_key, get-empty, get-insert, get-remove, len-remove, empty_of_len, same_map, nat_cmp-IsAntisymmetric}
use Rattle.std.proofs.lemmas.Bool.{eqb-true, cases_Bool, cases_eq}
use Rattle.std.proofs.lemmas.List.Elements.{Contains-append_right, Contains-append_left, Contains-append_cases}
use Rattle.std.proofs.lemmas.Option.{none-some}
use Rattle.pm_model.specs.Heap.{Object, Heap, Holds}
use Rattle.pm_model.specs.World.{Roots}
use Rattle.pm_model.specs.Reachability.{Leads, IsReachable}
use Rattle.pm_model.specs.Copying.{field_id, held_ids, with_object_or, reached, copied, IsRoot}
use Rattle.pm_model.proofs.Members.{at_first, in_rest, in_none, first_or_rest, is_value, at_key}
use Rattle.pm_types.proofs.Orders.{names_total}
use Rattle.pm_model.proofs.Reaching.{reachable_next}
use Rattle.pm_model.proofs.Unused.{tied_nat}

-- the identities that fields hold, and no others
held_if_field : (fields : List (Option ℕ)) (to : ℕ) → Contains fields (Some to) → Contains (flat_map field_id fields) to
held_if_field [] to within = absurd (in_none (Some to) within)
held_if_field (field ∷ fields) to within =
    ⊎_elim
    (λ here. Contains-append_left (field_id field) (flat_map field_id fields) to (subst (λ f. Contains (field_id f) to) (sym here) (at_first to [])))
    (λ there. Contains-append_right (field_id field) (flat_map field_id fields) to (held_if_field fields to there))
    (first_or_rest field (Some to) fields within)

field_if_held : (fields : List (Option ℕ)) (to : ℕ) → Contains (flat_map field_id fields) to → Contains fields (Some to)
field_if_held [] to within = absurd (in_none to within)
field_if_held (None ∷ fields) to within = in_rest None (Some to) fields (field_if_held fields to within)
field_if_held (Some id ∷ fields) to within =
    ⊎_elim
    (λ here. subst (λ x. Contains (Some id ∷ fields) (Some x)) here (at_first (Some id) fields))
    (λ there. in_rest (Some id) (Some to) fields (field_if_held fields to there))
    (first_or_rest id to (flat_map field_id fields) within)

pub holds_if : (heap : Heap) (from to : ℕ) (object : Object) → get heap from ≡ Some object → Contains (held_ids object) to → Holds heap from to
holds_if heap from to object is within = subst (λ o. IsSomeAnd o (λ object. Contains object.fields (Some to))) (sym is) (field_if_held object.fields to within)

pub held_if : (heap : Heap) (from to : ℕ) (object : Object) → get heap from ≡ Some object → Holds heap from to → Contains (held_ids object) to
held_if heap from to object is holds = held_if_field object.fields to (subst (λ o. IsSomeAnd o (λ object. Contains object.fields (Some to))) is holds)

-- the object at an identity, once another or the same was put or taken away
apart : (a b : ℕ) → (a ≡ b → ⊥) → eq_by_cmp nat_cmp a b ≡ false
apart a b not = ⊎_elim (λ tied. absurd (not (eqb-true a b (sym (tied_nat a b) ∙ tied)))) (λ is. is) (cases_Bool (eq_by_cmp nat_cmp a b))

there_same : (heap : Heap) (id q : ℕ) (object : Object) → (q ≡ id → ⊥) → get (insert heap id object) q ≡ get heap q
there_same heap id q object not = get-insert nat_cmp_total heap id object q ∙ ap (λ b. cond b (Some object) (get heap q)) (apart q id not)

here_new : (heap : Heap) (id : ℕ) (object : Object) → get (insert heap id object) id ≡ Some object
here_new heap id object = get-insert nat_cmp_total heap id object id ∙ ap (λ b. cond b (Some object) (get heap id)) ((eq_by_cmp_equiv nat_cmp_total).refl id)

there_left : (heap : Heap) (id q : ℕ) → (q ≡ id → ⊥) → get (remove heap id) q ≡ get heap q
there_left heap id q not = get-remove nat_cmp_total heap id q ∙ ap (λ b. cond b None (get heap q)) (apart q id not)

cond_left : {X : Type 0} (b : Bool) (o : Option X) (x : X) → cond b None o ≡ Some x → o ≡ Some x
cond_left true o x is = absurd (none-some x is)
cond_left false o x is = is

still : (heap : Heap) (id q : ℕ) (object : Object) → get (remove heap id) q ≡ Some object → get heap q ≡ Some object
still heap id q object is = cond_left (eq_by_cmp nat_cmp q id) (get heap q) object (sym (get-remove nat_cmp_total heap id q) ∙ is)

cond_some_and : {X : Type 0} (b : Bool) (o : Option X) (P : X → Type 0) → IsSomeAnd (cond b None o) P → IsSomeAnd o P
cond_some_and true o P holds = absurd holds
cond_some_and false o P holds = holds

-- what leads on where an object was taken away led on before
held_before : (heap : Heap) (id from to : ℕ) → Holds (remove heap id) from to → Holds heap from to
held_before heap id from to holds =
    cond_some_and (eq_by_cmp nat_cmp from id) (get heap from) (λ object. Contains object.fields (Some to))
    (subst (λ o. IsSomeAnd o (λ object. Contains object.fields (Some to))) (get-remove nat_cmp_total heap id from) holds)

led_before : (heap : Heap) (id from : ℕ) (path : List ℕ) (to : ℕ) → Leads (remove heap id) from path to → Leads heap from path to
led_before heap id from [] to leads = leads
led_before heap id from (next ∷ path) to leads = (held_before heap id from next leads.0, led_before heap id next path to leads.1)

-- a path from where no object is goes nowhere
stays_there : (heap : Heap) (from : ℕ) (path : List ℕ) (to : ℕ) → get heap from ≡ None → Leads heap from path to → from ≡ to
stays_there heap from [] to none leads = leads
stays_there heap from (next ∷ path) to none leads = absurd (subst (λ o. IsSomeAnd o (λ object. Contains object.fields (Some next))) none leads.0)

-- a path to another identity need not pass by this one: it begins where it began, or at what this one holds
around : (heap : Heap) (id : ℕ) (object : Object) → get heap id ≡ Some object → (from : ℕ) (path : List ℕ) (to : ℕ) → Leads heap from path to
    → (start : ℕ) × (way : List ℕ) × ((start ≡ from) ⊎ Contains (held_ids object) start) × Leads (remove heap id) start way to
around heap id object is from [] to leads = (from, [], inl refl, leads)
around heap id object is from (next ∷ path) to leads =
    let rest = around heap id object is next path to leads.1 in
    ⊎_elim
    (λ (same : rest.0 ≡ next). ⊎_elim
    (λ (here : from ≡ id). (rest.0, rest.1, inr (subst (Contains (held_ids object)) (sym same) (held_if heap id next object is (subst (λ x. Holds heap x next) here leads.0))), rest.3))
    (λ (not : from ≡ id → ⊥). (
      from,
      rest.0 ∷ rest.1,
      inl refl,
      (subst (λ x. Holds (remove heap id) from x) (sym same) (subst (λ o. IsSomeAnd o (λ object. Contains object.fields (Some next))) (sym (there_left heap id from not)) leads.0), rest.3),
    ))
    (cases_eq from id))
    (λ held. (rest.0, rest.1, inr held, rest.3))
    rest.2

abbrev pub IsFrom : Heap → List ℕ → ℕ → Type 0
IsFrom heap ids id = IsReachable heap (Contains ids) id

-- what holds where an object is kept beside what is reached of the rest
kept_beside : (heap : Heap) (first : ℕ) (rest : List ℕ) (found : Object) (inner : Heap) (id : ℕ) (object : Object) → get heap first ≡ Some found
    → (get inner id ≡ Some object → (get (remove heap first) id ≡ Some object) × IsFrom (remove heap first) (held_ids found ++ rest) id)
    → get (insert inner first found) id ≡ Some object → (get heap id ≡ Some object) × IsFrom heap (first ∷ rest) id
kept_beside heap first rest found inner id object is inside kept =
    ⊎_elim
    (λ (here : id ≡ first). (
      ap (get heap) here ∙ is ∙ sym (here_new inner first found) ∙ ap (get (insert inner first found)) (sym here) ∙ kept,
      (first, [], at_first first rest, sym here),
    ))
    (λ not. let deep = inside (sym (there_same inner first id found not) ∙ kept) in (
      still heap first id object deep.0,
      ⊎_elim
          (λ held. (first, deep.1.0 ∷ deep.1.1, at_first first rest, (holds_if heap first deep.1.0 found is held, led_before heap first deep.1.0 deep.1.1 id deep.1.3)))
          (λ waiting. (deep.1.0, deep.1.1, in_rest first deep.1.0 rest waiting, led_before heap first deep.1.0 deep.1.1 id deep.1.3))
          (Contains-append_cases (held_ids found) rest deep.1.0 deep.1.2),
    ))
    (cases_eq id first)

widen : (heap : Heap) (first : ℕ) (rest : List ℕ) (id : ℕ) → IsFrom heap rest id → IsFrom heap (first ∷ rest) id
widen heap first rest id from = (from.0, from.1, in_rest first from.0 rest from.2, from.3)

-- what is kept is an object of the heap, as it is, and is reachable
pub kept : (n : ℕ) (heap : Heap) (ids : List ℕ) (id : ℕ) (object : Object) → get (reached n heap ids) id ≡ Some object → (get heap id ≡ Some object) × IsFrom heap ids id
unfolding reached
kept zero heap ids id object is = absurd (none-some object (sym (get-empty nat_cmp id) ∙ is))
kept (suc n) heap [] id object is = absurd (none-some object (sym (get-empty nat_cmp id) ∙ is))
kept (suc n) heap (first ∷ rest) id object is =
    elim (get heap first) as (λ found. get heap first ≡ found → get (with_object_or found (reached (suc n) heap rest) (λ object. insert (reached n (remove heap first) (held_ids object ++ rest)) first object)) id ≡ Some object
    → (get heap id ≡ Some object) × IsFrom heap (first ∷ rest) id) [
      | None ↦ λ none there. let deep = kept (suc n) heap rest id object there in (deep.0, widen heap first rest id deep.1)
      | Some found ↦ λ some there. kept_beside heap first rest found (reached n (remove heap first) (held_ids found ++ rest)) id object some (kept n (remove heap first) (held_ids found ++ rest) id object) there
    ] refl is

-- one fewer object
one_less : (b : Bool) (count n : ℕ) → b ≡ true → count ≤ suc n → cond b (count - 1) count ≤ n
one_less true count n is small = omega arith
one_less false count n is small = cc

pub fewer : (heap : Heap) (first n : ℕ) (found : Object) → get heap first ≡ Some found → len heap ≤ suc n → len (remove heap first) ≤ n
fewer heap first n found is small = subst (λ m. m ≤ n) (sym (len-remove nat_cmp_total heap first)) (one_less (contains_key heap first) (len heap) n (ap is_some is) small)

pub no_objects : (heap : Heap) (id : ℕ) (object : Object) → len heap ≤ 0 → get heap id ≡ Some object → ⊥
no_objects heap id object small is = none-some object (sym (get-empty nat_cmp id) ∙ ap (λ (heap : Heap). get heap id) (sym (empty_of_len heap (omega (arith, small)))) ∙ is)

-- what is reachable elsewhere, where the first identity has no object
past_none : (heap : Heap) (first : ℕ) (rest : List ℕ) (id : ℕ) (object : Object) → get heap first ≡ None → get heap id ≡ Some object → IsFrom heap (first ∷ rest) id → IsFrom heap rest id
past_none heap first rest id object none is from =
    ⊎_elim
    (λ (here : first ≡ from.0).
    let begins : get heap from.0 ≡ None = ap (get heap) (sym here) ∙ none in
    absurd (none-some object (sym begins ∙ ap (get heap) (stays_there heap from.0 from.1 id begins from.3) ∙ is)))
    (λ there. (from.0, from.1, there, from.3))
    (first_or_rest first from.0 rest from.2)

-- what is reachable but the first identity, where that has an object, which is taken away
past_some : (heap : Heap) (first : ℕ) (rest : List ℕ) (found : Object) (id : ℕ) (object : Object) → get heap first ≡ Some found → get heap id ≡ Some object → (id ≡ first → ⊥) → IsFrom heap (first ∷ rest) id
    → IsFrom (remove heap first) (held_ids found ++ rest) id
past_some heap first rest found id object some is not from =
    let way = around heap first found some from.0 from.1 id from.3 in
    let gone : get (remove heap first) first ≡ None =
    get-remove nat_cmp_total heap first first ∙ ap (λ b. cond b None (get heap first)) ((eq_by_cmp_equiv nat_cmp_total).refl first) in
    ⊎_elim
    (λ (same : way.0 ≡ from.0). ⊎_elim
    (λ (here : first ≡ from.0).
    let begins : get (remove heap first) way.0 ≡ None = ap (get (remove heap first)) (same ∙ sym here) ∙ gone in
    absurd (not (sym (stays_there (remove heap first) way.0 way.1 id begins way.3) ∙ same ∙ sym here)))
    (λ there. (way.0, way.1, Contains-append_right (held_ids found) rest way.0 (subst (Contains rest) (sym same) there), way.3))
    (first_or_rest first from.0 rest from.2))
    (λ held. (way.0, way.1, Contains-append_left (held_ids found) rest way.0 held, way.3))
    way.2

-- what is reachable is kept
pub all_kept : (n : ℕ) (heap : Heap) (ids : List ℕ) (id : ℕ) (object : Object) → len heap ≤ n → IsFrom heap ids id → get heap id ≡ Some object → get (reached n heap ids) id ≡ Some object
unfolding reached
all_kept zero heap ids id object small from is = absurd (no_objects heap id object small is)
all_kept (suc n) heap [] id object small from is = absurd (in_none from.0 from.2)
all_kept (suc n) heap (first ∷ rest) id object small from is =
    elim (get heap first) as (λ found. get heap first ≡ found
    → get (with_object_or found (reached (suc n) heap rest) (λ object. insert (reached n (remove heap first) (held_ids object ++ rest)) first object)) id ≡ Some object) [
      | None ↦ λ none. all_kept (suc n) heap rest id object small (past_none heap first rest id object none is from) is
      | Some found ↦ λ some.
          let inner = reached n (remove heap first) (held_ids found ++ rest) in
          ⊎_elim
          (λ (here : id ≡ first). ap (get (insert inner first found)) here ∙ here_new inner first found ∙ sym some ∙ ap (get heap) (sym here) ∙ is)
          (λ not. there_same inner first id found not
          ∙ all_kept n (remove heap first) (held_ids found ++ rest) id object (fewer heap first n found some small) (past_some heap first rest found id object some is not from) (there_left heap first id not ∙ is))
          (cases_eq id first)
    ] refl

-- what an answer is where there is one decides it
same_option : {X : Type 0} (o p : Option X) → ((x : X) → o ≡ Some x → p ≡ Some x) → ((x : X) → p ≡ Some x → o ≡ Some x) → o ≡ p
same_option None None there back = refl
same_option None (Some y) there back = back y refl
same_option (Some x) p there back = sym (there x refl)

-- only which identities it begins with counts, not their order or number, nor more fuel than is needed
pub reached_same : (n m : ℕ) (heap : Heap) (ids others : List ℕ) → len heap ≤ n → len heap ≤ m → ((id : ℕ) → Contains ids id → Contains others id) → ((id : ℕ) → Contains others id → Contains ids id)
    → reached n heap ids ≡ reached m heap others
reached_same n m heap ids others small small' there back =
    same_map nat_cmp_total nat_cmp-IsAntisymmetric _ _ (λ id. same_option (get (reached n heap ids) id) (get (reached m heap others) id)
    (λ object is. let deep = kept n heap ids id object is in all_kept m heap others id object small' (deep.1.0, deep.1.1, there deep.1.0 deep.1.2, deep.1.3) deep.0)
    (λ object is. let deep = kept m heap others id object is in all_kept n heap ids id object small (deep.1.0, deep.1.1, back deep.1.0 deep.1.2, deep.1.3) deep.0))

-- a path from what is reachable leads on in what is kept
pub leads_inside : (n : ℕ) (heap : Heap) (ids : List ℕ) → len heap ≤ n → (from : ℕ) (path : List ℕ) (to : ℕ) → IsFrom heap ids from → Leads heap from path to → Leads (reached n heap ids) from path to
leads_inside n heap ids small from [] to here leads = leads
leads_inside n heap ids small from (next ∷ path) to here leads =
    let P = λ (object : Object). Contains object.fields (Some next) in (
      elim (get heap from) as (λ found. get heap from ≡ found → IsSomeAnd found P → IsSomeAnd (get (reached n heap ids) from) P) [
        | None ↦ λ none holds. absurd holds
        | Some object ↦ λ some holds. subst (λ o. IsSomeAnd o P) (sym (all_kept n heap ids from object small here some)) holds
      ] refl leads.0,
      leads_inside n heap ids small next path to (reachable_next heap (Contains ids) from next here leads.0) leads.1,
    )

-- what is reached of what was reached is all of it
pub reached_again : (n m : ℕ) (heap : Heap) (ids : List ℕ) → len heap ≤ n → len (reached n heap ids) ≤ m → reached m (reached n heap ids) ids ≡ reached n heap ids
reached_again n m heap ids small small' =
    same_map nat_cmp_total nat_cmp-IsAntisymmetric _ _ (λ id. same_option (get (reached m (reached n heap ids) ids) id) (get (reached n heap ids) id)
    (λ object is. (kept m (reached n heap ids) ids id object is).0)
    (λ object is.
    let from = (kept n heap ids id object is).1 in
    all_kept m (reached n heap ids) ids id object small' (from.0, from.1, from.2, leads_inside n heap ids small from.0 from.1 id (from.0, [], from.2, refl) from.3) is))

-- where all of a heap is reachable, it is all kept
pub reached_whole : (n : ℕ) (heap : Heap) (ids : List ℕ) → len heap ≤ n → ((id : ℕ) (object : Object) → get heap id ≡ Some object → IsFrom heap ids id) → reached n heap ids ≡ heap
reached_whole n heap ids small whole =
    same_map nat_cmp_total nat_cmp-IsAntisymmetric _ _ (λ id. same_option (get (reached n heap ids) id) (get heap id)
    (λ object is. (kept n heap ids id object is).0)
    (λ object is. all_kept n heap ids id object small (whole id object is) is))

pub same_count : (n : ℕ) → n ≤ n
same_count n = omega arith

-- what is kept of a heap with these roots
pub copied_kept : (heap : Heap) (roots : Roots) (next id : ℕ) (object : Object) → get (copied heap roots next).heap id ≡ Some object → (get heap id ≡ Some object) × IsReachable heap (IsRoot roots) id
copied_kept heap roots next id object is =
    let deep = kept (len heap) heap (values roots) id object is in
    (deep.0, (deep.1.0, deep.1.1, at_key names_total roots deep.1.0 deep.1.2, deep.1.3))

from_roots : (heap : Heap) (roots : Roots) (id : ℕ) → IsReachable heap (IsRoot roots) id → IsFrom heap (values roots) id
from_roots heap roots id from = (from.0, from.1, is_value names_total roots from.2.0 from.0 from.2.1, from.3)

pub copied_reached : (heap : Heap) (roots : Roots) (next id : ℕ) (object : Object) → IsReachable heap (IsRoot roots) id → get heap id ≡ Some object → get (copied heap roots next).heap id ≡ Some object
copied_reached heap roots next id object from is = all_kept (len heap) heap (values roots) id object (same_count (len heap)) (from_roots heap roots id from) is

pub copied_again : (heap : Heap) (roots : Roots) (next : ℕ) → copied (copied heap roots next).heap roots next ≡ copied heap roots next
copied_again heap roots next i =
    record { heap = reached_again (len heap) (len (reached (len heap) heap (values roots))) heap (values roots) (same_count (len heap)) (same_count _) i; roots = roots; next = next }
