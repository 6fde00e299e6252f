-- The pairs of who is held and who holds it are those of all young fields.
use Rattle.std.proofs.Common.{◌≡◌, ⊎_elim, ℕ, true, List, [], ◌∷◌, ◌++◌, Option, Some, None, refl, sym, ap, subst, ◌∙◌, append_assoc, append-nil, ◌↔◌}
use Rattle.std.specs.List.{Contains, flat_map}
use Rattle.std.specs.Option.{IsSomeAnd}
use Rattle.std.specs.Ordering.{eq_by_cmp}
use Rattle.std.specs.Cmp.{eq_by_cmp_equiv}
use Rattle.std.specs.FinMap.{get}
use Rattle.std.specs.Set.{is_member}
use Rattle.std.specs.BTreeSet.{BTreeSet, contains}
use Rattle.std.proofs.lemmas.List.Elements.{Contains-append_cases, Contains-append_left, Contains-append_right}
use Rattle.std.proofs.lemmas.Map.Views.{Contains-from_any, list_any-from_Contains}
use Rattle.pm_types.specs.Orders.{place_cmp}
use Rattle.pm_types.proofs.Orders.{places_total, places_antisymmetric}
use Rattle.pm_types.proofs.Shown.{tied}
use Rattle.pm_model.specs.Heap.{Object, Heap}
use Rattle.pm_model.proofs.Members.{at_first, in_rest, in_none, first_or_rest}
use Rattle.pm_nursery.specs.Walking.{AreHeldBy, pair_of, held_by}

-- the pairs of an object
abbrev pub pairs_of : ℕ × Object → List (ℕ × ℕ)
pairs_of e = held_by e.0 e.1.fields

-- a pair of fields
pub pair_there : (id to : ℕ) (fields : List (Option ℕ)) → Contains fields (Some to) → Contains (held_by id fields) (to, id)
pair_there id to [] within = absurd (in_none (Some to) within)
pair_there id to (field ∷ fields) within =
    ⊎_elim
    (λ (here : field ≡ Some to). Contains-append_left (pair_of id field) (held_by id fields) (to, id) (subst (λ f. Contains (pair_of id f) (to, id)) (sym here) (at_first (to, id) [])))
    (λ (there : Contains fields (Some to)). Contains-append_right (pair_of id field) (held_by id fields) (to, id) (pair_there id to fields there))
    (first_or_rest field (Some to) fields within)

of_field : (id : ℕ) (field : Option ℕ) (pair : ℕ × ℕ) → Contains (pair_of id field) pair → (pair.1 ≡ id) × (field ≡ Some pair.0)
of_field id None pair within = absurd (in_none pair within)
of_field id (Some to) pair within =
    ⊎_elim
    (λ (same : (to, id) ≡ pair). (ap (λ (p : ℕ × ℕ). p.1) (sym same), ap (λ (p : ℕ × ℕ). Some p.0) same))
    (λ (never : Contains [] pair). absurd (in_none pair never))
    (first_or_rest (to, id) pair [] within)

pub of_pair : (id : ℕ) (fields : List (Option ℕ)) (pair : ℕ × ℕ) → Contains (held_by id fields) pair → (pair.1 ≡ id) × Contains fields (Some pair.0)
of_pair id [] pair within = absurd (in_none pair within)
of_pair id (field ∷ fields) pair within =
    ⊎_elim
    (λ (here : Contains (pair_of id field) pair). let said = of_field id field pair here in (said.0, subst (Contains (field ∷ fields)) said.1 (at_first field fields)))
    (λ (there : Contains (held_by id fields) pair). let said = of_pair id fields pair there in (said.0, in_rest field (Some pair.0) fields said.1))
    (Contains-append_cases (pair_of id field) (held_by id fields) pair within)

-- of all entries
in_all : (es : List (ℕ × Object)) (e : ℕ × Object) (pair : ℕ × ℕ) → Contains es e → Contains (pairs_of e) pair → Contains (flat_map pairs_of es) pair
in_all [] e pair within here = absurd (in_none e within)
in_all (first ∷ es) e pair within here =
    ⊎_elim
    (λ (same : first ≡ e). Contains-append_left (pairs_of first) (flat_map pairs_of es) pair (subst (λ e. Contains (pairs_of e) pair) (sym same) here))
    (λ (there : Contains es e). Contains-append_right (pairs_of first) (flat_map pairs_of es) pair (in_all es e pair there here))
    (first_or_rest first e es within)

of_all : (es : List (ℕ × Object)) (pair : ℕ × ℕ) → Contains (flat_map pairs_of es) pair → (e : ℕ × Object) × Contains es e × Contains (pairs_of e) pair
of_all [] pair within = absurd (in_none pair within)
of_all (first ∷ es) pair within =
    ⊎_elim
    (λ (here : Contains (pairs_of first) pair). let it : (e : ℕ × Object) × Contains (first ∷ es) e × Contains (pairs_of e) pair = (first, at_first first es, here) in it)
    (λ (there : Contains (flat_map pairs_of es) pair). let rest = of_all es pair there in (rest.0, in_rest first rest.0 es rest.1, rest.2))
    (Contains-append_cases (pairs_of first) (flat_map pairs_of es) pair within)

same_pair : (p q : ℕ × ℕ) → eq_by_cmp place_cmp p q ≡ true → p ≡ q
same_pair p q at = places_antisymmetric p q (tied (place_cmp p q) at)

pub pairs_are_held : (objects : Heap) (es : List (ℕ × Object)) (pairs : List (ℕ × ℕ)) (set : BTreeSet (ℕ × ℕ)) → ((id : ℕ) (object : Object) → (get objects id ≡ Some object) ↔ Contains es (id, object)) → pairs ≡ flat_map pairs_of es
    → ((q : ℕ × ℕ) → contains place_cmp set q ≡ is_member (eq_by_cmp place_cmp) pairs q) → AreHeldBy objects set
pairs_are_held objects es pairs set listed are took = record {
  each = λ from to has.
      let within : Contains pairs (to, from) = Contains-from_any {eq = eq_by_cmp place_cmp} same_pair (to, from) pairs (sym (took (to, from)) ∙ has) in
      let entry = of_all es (to, from) (subst (λ xs. Contains xs (to, from)) are within) in
      let pair = of_pair entry.0.0 entry.0.1.fields (to, from) entry.2 in
      let there : get objects entry.0.0 ≡ Some entry.0.1 = (listed entry.0.0 entry.0.1).1 entry.1 in
      subst (λ (o : Option Object). IsSomeAnd o (λ object. Contains object.fields (Some to))) (sym (ap (get objects) pair.0 ∙ there)) pair.1;
  all = λ from to holds. by from to (get objects from) refl holds;
}
  where
    by : (from to : ℕ) (o : Option Object) → get objects from ≡ o → IsSomeAnd o (λ object. Contains object.fields (Some to)) → contains place_cmp set (to, from) ≡ true
    by from to None none holds = absurd holds
    by from to (Some object) here holds =
        took (to, from)
        ∙ list_any-from_Contains (eq_by_cmp_equiv places_total) (to, from) pairs
        (subst (λ xs. Contains xs (to, from)) (sym are) (in_all es (from, object) (to, from) ((listed from object).0 here) (pair_there from to object.fields holds)))
