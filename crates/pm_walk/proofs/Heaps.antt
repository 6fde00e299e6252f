-- What a whole walk met is the heap of the copy.
use Rattle.std.proofs.Common.{◌≡◌, ℕ, IsTrue, refl, ap, sym, subst, ◌∙◌, List, Option, Some, None, is_some}
use Rattle.std.specs.List.{slice_get, AllByRecursion}
use Rattle.std.specs.Option.{IsSome, IfSome, option_and_then, option_map, unwrap_or}
use Rattle.std.specs.Cmp.{nat_cmp_total}
use Rattle.std.specs.Ordering.{nat_cmp}
use Rattle.std.specs.FinMap.{FinMap, get, entries, same_map, nat_cmp-IsAntisymmetric}
use Rattle.std.proofs.lemmas.Option.{same_Some}
use Rattle.pm_types.specs.Mapped.{mapped, mapped_entries}
use Rattle.pm_types.proofs.Mapped.{get-mapped, entries-mapped}
use Rattle.pm_types.specs.Orders.{name_cmp}
use Rattle.pm_types.proofs.Orders.{names_total, names_antisymmetric}
use Rattle.pm_types.specs.declared.address.Addr.{Addr}
use Rattle.pm_types.specs.declared.object.Object as kept
use Rattle.pm_types.specs.declared.source.RefSource.TheVariants.{Field}
use Rattle.pm_model.specs.Heap.{Object}
use Rattle.pm_view.specs.View.{SpaceView}
use Rattle.pm_view.specs.Reading.{object_at, stored, resolve, named_by}
use Rattle.pm_view.specs.Law.{HeapLaw}
use Rattle.pm_copies.specs.Listed.{copy_in}
use Rattle.pm_dump.proofs.Copies.{in_entries}
use Rattle.pm_law_copies.specs.Walks.Kept.{IsKeptAt}
use Rattle.pm_law_copies.proofs.WalksLemmas.Walked.{names_led, root_kept, least}
use Rattle.pm_walk.specs.declared.walk.Walk.{Walk}
use Rattle.pm_walk.specs.Walked.{met_in, meant, meant_at, IsKept, IsSoundWalk, IsWholeWalk}
use Rattle.pm_walk.proofs.Lists.{not_none, known}
use Rattle.pm_walk.proofs.Steps.{field_stored}

-- an address that leads to an object names it
pub named_there : (view : SpaceView) (to : Addr) → IsKept view (resolve view to) → (id : ℕ) × (named_by view to ≡ Some id)
named_there view to there = (there.0.id, ap (option_map (λ (o : kept.Object). o.id)) there.1.here)

pub is_named : (view : SpaceView) (to : Addr) → IsKept view (resolve view to) → IsSome (named_by view to)
is_named view to there = let named = named_there view to there in ap is_some named.1

module _ (view : SpaceView) (law : HeapLaw view) (walk : Walk) (sound : IsSoundWalk view walk) where
  -- what was met at an address is of the copy
  pub met_there : (id : ℕ) (a : Addr) → get (met_in walk) id ≡ Some a → (object : kept.Object) × IsKeptAt view a object × (object.id ≡ id)
  met_there id a is =
      let it = sound.only id a is in
      let one = it.1 in
      let same : one.at ≡ a = same_Some one.at a (sym (sound.met it.0 one it.2) ∙ ap (get (met_in walk)) it.3 ∙ is) in
      let found = sound.each it.0 one it.2 in
      (found.object, subst (λ b. IsKeptAt view b found.object) same found.kept, sym found.identity ∙ it.3)

  -- an object stands at each address that was met
  pub stand : AllByRecursion (λ (e : ℕ × Addr). IsSome (object_at view.cars e.1)) (entries (met_in walk))
  stand = in_entries nat_cmp_total (λ id a. IsSome (object_at view.cars a)) (met_in walk) (λ id a is. let it = met_there id a is in ap is_some it.1.here)

  module _ (whole : IsWholeWalk view walk) where
    inside_next : (a : Addr) (object : kept.Object) (index : ℕ) (to : Addr) → IsKeptAt view a object → IsTrue (is_some (get (met_in walk) object.id)) → slice_get object.fields index ≡ Some (Some to) → IfSome (named_by view to) (λ id. IsTrue (is_some (get (met_in walk) id)))
    inside_next a object index to at inside held =
        let there = known (get (met_in walk) object.id) inside in
        let it = sound.only object.id there.0 there.1 in
        let found = sound.each it.0 it.1 it.2 in
        let same : it.1.at ≡ a = law.built.apart it.1.at a found.object object found.kept.here at.here (sym found.identity ∙ it.3) in
        whole.done it.0 it.1 index to it.2 (ap (λ b. stored view (Field b index)) same ∙ field_stored view a object index to at.here held)

    -- the copy has nothing that was not met
    pub all_met : (id : ℕ) → IsSome (get (copy_in view).heap id) → IsSome (get (met_in walk) id)
    all_met id some = least view law (λ id. is_some (get (met_in walk) id)) whole.begun inside_next id some

    answer : (id : ℕ) (o : Option Addr) → get (met_in walk) id ≡ o → get (copy_in view).heap id ≡ option_map (meant_at view) o
    answer id None is = none_of (get (copy_in view).heap id) refl
      where
        none_of : (p : Option Object) → get (copy_in view).heap id ≡ p → p ≡ None
        none_of None none = refl
        none_of (Some x) some = absurd (let there = known (get (met_in walk) id) (all_met id (ap is_some some)) in not_none there.0 (sym is ∙ there.1))
    answer id (Some a) is =
        let it = met_there id a is in
        ap (get (copy_in view).heap) (sym it.2) ∙ it.1.kept ∙ ap Some (sym (ap (meant view) it.1.here))

    -- what was met is the heap of the copy
    pub heap_met : (copy_in view).heap ≡ mapped (meant_at view) (met_in walk)
    heap_met = same_map nat_cmp_total nat_cmp-IsAntisymmetric (copy_in view).heap (mapped (meant_at view) (met_in walk)) (λ id. answer id (get (met_in walk) id) refl ∙ sym (get-mapped nat_cmp (meant_at view) (met_in walk) id))

    pub objects_met : entries (copy_in view).heap ≡ mapped_entries (meant_at view) (entries (met_in walk))
    objects_met = ap entries heap_met ∙ entries-mapped nat_cmp (meant_at view) (met_in walk)

-- the identity of the object to which a bound address leads
abbrev pub root_id : SpaceView → ℕ × Addr → ℕ
root_id view bound = unwrap_or (named_by view bound.1) 0

module _ (view : SpaceView) (law : HeapLaw view) where
  root_named : (name : List ℕ) (o : Option (ℕ × Addr)) → get view.roots name ≡ o → option_and_then (λ (bound : ℕ × Addr). named_by view bound.1) o ≡ option_map (root_id view) o
  root_named name None is = refl
  root_named name (Some bound) is = let named = named_there view bound.1 (root_kept view law name bound is) in named.1 ∙ ap Some (sym (ap (λ (n : Option ℕ). unwrap_or n 0) named.1))

  -- names that stand for what the addresses of the space lead to
  pub names_listed : (roots : FinMap name_cmp ℕ) → ((name : List ℕ) → get roots name ≡ option_and_then (λ (bound : ℕ × Addr). named_by view bound.1) (get view.roots name)) → entries roots ≡ mapped_entries (root_id view) (entries view.roots)
  names_listed roots led =
      ap entries (same_map names_total names_antisymmetric roots (mapped (root_id view) view.roots) (λ name. led name ∙ root_named name (get view.roots name) refl ∙ sym (get-mapped name_cmp (root_id view) view.roots name)))
      ∙ entries-mapped name_cmp (root_id view) view.roots

  -- the names of the copy
  pub names_met : entries (copy_in view).roots ≡ mapped_entries (root_id view) (entries view.roots)
  names_met = names_listed (copy_in view).roots (names_led view law)
