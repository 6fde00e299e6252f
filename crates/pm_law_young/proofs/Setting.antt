-- A field of a young object is set to an object within.
use Rattle.std.proofs.Common.{◌≡◌, ◌⊎◌, ⊎_elim, inl, inr, ℕ, zero, suc, Bool, true, false, cond, List, [], ◌∷◌, Option, Some, None, slice_set, refl, sym, ap, subst, ◌∙◌}
use Rattle.std.specs.Option.{IsSome, IsSomeAnd}
use Rattle.std.specs.List.{Contains}
use Rattle.std.specs.Ordering.{nat_cmp, eq_by_cmp}
use Rattle.std.specs.Cmp.{nat_cmp_total}
use Rattle.std.specs.FinMap.{get, insert, get-insert, same_map, nat_cmp-IsAntisymmetric}
use Rattle.std.proofs.lemmas.Option.{same_Some, none-some}
use Rattle.pm_model.specs.Heap.{Object, Heap, Holds, with_field}
use Rattle.pm_model.specs.World.{World, changing}
use Rattle.pm_model.proofs.Members.{at_first, in_rest, in_none, first_or_rest}
use Rattle.pm_nursery.specs.Young.{NurseryView, IsNursery, IsYoung}
use Rattle.pm_nursery.specs.Sweeping.{among, AreYoung, ComesIn, GoesOut}
use Rattle.pm_nursery.specs.Joined.{AreJoined}
use Rattle.pm_nursery.specs.Moving.{Names, young_changing}
use Rattle.pm_nursery.proofs.Parts.{is_there, holder}
use Rattle.pm_law_young.proofs.Carrying.{world_after, comes_there, stays}
use Rattle.pm_nursery.proofs.Joining.{along, joined_detached}
use Rattle.pm_nursery.proofs.Sound.{changed_sound, field_small, here}
use Rattle.pm_law_young.proofs.Moves.{old_changed, young_changed}

-- ---- fields

-- what a field names that another one of the object was set to null beside
set_none_named : (fields : List (Option ℕ)) (index to : ℕ) → Contains (slice_set fields index None) (Some to) → Contains fields (Some to)
set_none_named [] index to within = absurd (in_none (Some to) within)
set_none_named (field ∷ fields) zero to within =
    ⊎_elim
    (λ (never : None ≡ Some to). absurd (none-some to never))
    (λ (there : Contains fields (Some to)). in_rest field (Some to) fields there)
    (first_or_rest None (Some to) fields within)
set_none_named (field ∷ fields) (suc index) to within =
    ⊎_elim
    (λ (same : field ≡ Some to). subst (Contains (field ∷ fields)) same (at_first field fields))
    (λ (there : Contains (slice_set fields index None) (Some to)). in_rest field (Some to) fields (set_none_named fields index to there))
    (first_or_rest field (Some to) (slice_set fields index None) within)

-- what a field names where one was set: that one, or what it names where that one is null
set_named : (fields : List (Option ℕ)) (index value to : ℕ) → Contains (slice_set fields index (Some value)) (Some to) → (value ≡ to) ⊎ Contains (slice_set fields index None) (Some to)
set_named [] index value to within = absurd (in_none (Some to) within)
set_named (field ∷ fields) zero value to within =
    ⊎_elim
    (λ (same : Some value ≡ Some to). inl (same_Some value to same))
    (λ (there : Contains fields (Some to)). inr (in_rest None (Some to) fields there))
    (first_or_rest (Some value) (Some to) fields within)
set_named (field ∷ fields) (suc index) value to within =
    ⊎_elim
    (λ (same : field ≡ Some to). inr (subst (Contains (field ∷ slice_set fields index None)) same (at_first field (slice_set fields index None))))
    (λ (there : Contains (slice_set fields index (Some value)) (Some to)).
    ⊎_elim
    (λ (is : value ≡ to). inl is)
    (λ (rest : Contains (slice_set fields index None) (Some to)). inr (in_rest field (Some to) (slice_set fields index None) rest))
    (set_named fields index value to there))
    (first_or_rest field (Some to) (slice_set fields index (Some value)) within)

-- the last of two settings stands
set_twice : (fields : List (Option ℕ)) (index : ℕ) (one other : Option ℕ) → slice_set (slice_set fields index one) index other ≡ slice_set fields index other
set_twice [] index one other = refl
set_twice (field ∷ fields) zero one other = refl
set_twice (field ∷ fields) (suc index) one other = ap (λ rest. field ∷ rest) (set_twice fields index one other)

pub field_twice : (object : Object) (index : ℕ) (one other : Option ℕ) → with_field (with_field object index one) index other ≡ with_field object index other
field_twice object index one other = ap (λ (fields : List (Option ℕ)). record object { fields = fields }) (set_twice object.fields index one other)

changed_twice : (heap : Heap) (id : ℕ) (one other : Object) → insert (insert heap id one) id other ≡ insert heap id other
changed_twice heap id one other =
    same_map nat_cmp_total nat_cmp-IsAntisymmetric _ _ (λ q.
    get-insert nat_cmp_total (insert heap id one) id other q
    ∙ ap (cond (eq_by_cmp nat_cmp q id) (Some other)) (get-insert nat_cmp_total heap id one q)
    ∙ last (eq_by_cmp nat_cmp q id) (get heap q)
    ∙ sym (get-insert nat_cmp_total heap id other q))
  where
    last : (b : Bool) (old : Option Object) → cond b (Some other) (cond b (Some one) old) ≡ cond b (Some other) old
    last true old = refl
    last false old = refl

-- ---- the nursery in which that field is null

module _ (nursery : NurseryView) (sound : IsNursery nursery) (id index : ℕ) (known : Object) (known_is : get nursery.objects id ≡ Some known) where
  abbrev cleared : Object
  cleared = with_field known index None

  abbrev left : NurseryView
  left = young_changing nursery id cleared

  known_names : (to : ℕ) → Contains known.fields (Some to) → IsSome (get nursery.objects to)
  known_names to within = sound.closed id to (subst (λ (o : Option Object). IsSomeAnd o (λ object. Contains object.fields (Some to))) (sym known_is) within)

  left_sound : IsNursery left
  left_sound = changed_sound nursery sound id cleared (is_there (get nursery.objects id) known known_is) (field_small known index None (sound.small id known known_is)) (λ to within. known_names to (set_none_named known.fields index to within))

  -- what is joined there is young
  joined_young : (ids : List ℕ) → AreJoined left.objects id ids → AreYoung left ids
  joined_young ids are other inside =
      let joined = are.each other inside in
      along left.objects (λ x. IsSome (get left.objects x))
      (λ from to there touches.
      ⊎_elim
      (λ (holds : Holds left.objects from to). left_sound.closed from to holds)
      (λ (holds : Holds left.objects to from). let found = holder left.objects to from holds in is_there (get left.objects to) found.0 found.1)
      touches)
      id joined.0 other (is_there (get left.objects id) cleared (here nursery.objects id cleared)) joined.1

  module _ (within world later : World) (after : NurseryView) (ids : List ℕ) (is : IsYoung within nursery world) (joined : AreJoined left.objects id ids) (comes : ComesIn within left ids later) (goes : GoesOut left ids after) (value : ℕ) (value_there : IsSome (get within.heap value)) where
    abbrev then' : Object
    then' = with_field known index (Some value)

    between : IsYoung within left (changing world id cleared)
    between = young_changed within world nursery is id cleared (is_there (get nursery.objects id) known known_is)

    carried_in : IsYoung later after (changing world id cleared)
    carried_in = world_after left after ids left_sound (joined_detached left.objects id ids joined) goes within (changing world id cleared) later between (joined_young ids joined) comes

    came_in : (other : ℕ) → among ids other ≡ true → IsSome (get later.heap other)
    came_in = comes_there within (changing world id cleared) later left ids between (joined_young ids joined) comes

    stayed : (other : ℕ) → IsSome (get within.heap other) → IsSome (get later.heap other)
    stayed = stays within (changing world id cleared) later left ids between (joined_young ids joined) comes

    -- what its fields name is within
    names_then : Names later.heap then'
    names_then to within_fields =
        ⊎_elim
        (λ (same : value ≡ to). stayed to (subst (λ x. IsSome (get within.heap x)) same value_there))
        (λ (rest : Contains (slice_set known.fields index None) (Some to)).
        let holds : Holds left.objects id to = subst (λ (o : Option Object). IsSomeAnd o (λ object. Contains object.fields (Some to))) (sym (here nursery.objects id cleared)) rest in
        came_in to (joined.all to (to ∷ [], (inl holds, refl))))
        (set_named known.fields index value to within_fields)

    pub set_old_value : IsYoung (changing later id then') after (changing world id then')
    set_old_value =
        subst (λ (heap : Heap). IsYoung (changing later id then') after (record world { heap = heap })) (changed_twice world.heap id cleared then')
        (old_changed later (changing world id cleared) after carried_in id then' (came_in id (joined.all id ([], refl))) names_then)
