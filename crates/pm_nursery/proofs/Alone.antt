-- Objects of which none holds another, where one comes, is written, or is taken away.
use Rattle.std.proofs.Common.{◌≡◌, ⊎_elim, ℕ, Bool, true, false, if◌then◌else◌, List, [], ◌∷◌, length, get_or, set, Option, Some, None, is_some, refl, sym, ap, subst, ◌∙◌, arith}
use Rattle.std.specs.Option.{IsSomeAnd}
use Rattle.std.specs.List.{All, Contains}
use Rattle.std.specs.Ordering.{nat_cmp}
use Rattle.std.specs.Map.{keys_of}
use Rattle.std.specs.Cmp.{nat_cmp_total}
use Rattle.std.specs.FinMap.{from_entries, get, insert, remove, get-empty, nat_cmp-IsAntisymmetric}
use Rattle.pm_model.specs.Heap.{Object, Heap, Holds, with_field}
use Rattle.pm_model.proofs.Maps.{remove_cases}
use Rattle.pm_nursery.specs.Rows.{IsAt}
use Rattle.pm_nursery.specs.Sweeping.{among}
use Rattle.pm_nursery.specs.Walking.{AreGone, AreListed, HoldsNothing}
use Rattle.pm_nursery.proofs.Changed.{found_there, still_rise, written}
use Rattle.pm_nursery.proofs.Named.{set_or_was}
use Rattle.pm_nursery.proofs.Parts.{holder, same_holds}
use Rattle.pm_nursery.proofs.Rows.{none_listed, none_sorted}
use Rattle.pm_nursery.proofs.Sound.{cases}

-- null fields name nothing
never_named : (object : Object) → All (λ field. field ≡ None) object.fields → (to : ℕ) → Contains object.fields (Some to) → ⊥
never_named object null to within = let never : Some to ≡ None = subst (λ (f : Option ℕ). f ≡ None) within.2 (null within.0 (Some to) within.1) in cc never

empty_alone : (heap : Heap) → ((id : ℕ) → get heap id ≡ None) → HoldsNothing heap
empty_alone heap none from to holds =
    let never : IsSomeAnd {T = Object} None (λ object. Contains object.fields (Some to)) = subst (λ (o : Option Object). IsSomeAnd o (λ object. Contains object.fields (Some to))) (none from) holds in absurd never

pub no_length : {X : Type 0} (xs : List X) → length xs ≡ 0 → xs ≡ []
no_length [] is = refl
no_length (x ∷ xs) is = absurd (omega (arith, is))

no_entry_alone : (es : List (ℕ × Object)) → es ≡ [] → HoldsNothing (from_entries {R = nat_cmp} es)
no_entry_alone es none = empty_alone (from_entries es) (λ id. ap (λ (heap : Heap). get heap id) (none_listed nat_cmp_total nat_cmp-IsAntisymmetric es none) ∙ get-empty nat_cmp id)

pub nothing_listed : (es : List (ℕ × Object)) → es ≡ [] → (may_hold : Bool) → AreListed es may_hold
nothing_listed es none may_hold = record { rise = none_sorted nat_cmp_total nat_cmp-IsAntisymmetric es none; alone = λ is. no_entry_alone es none }

-- one comes, or is another, and names nothing that the one before did not
given_alone : (heap : Heap) (id : ℕ) (object : Object) → HoldsNothing heap → ((to : ℕ) → Contains object.fields (Some to) → ⊥) → HoldsNothing (insert heap id object)
given_alone heap id object alone nothing from to holds =
    let found = holder (insert heap id object) from to holds in
    ⊎_elim
    (λ (it : (from ≡ id) × (object ≡ found.0)).
    let named : Contains found.0.fields (Some to) = subst (λ (o : Option Object). IsSomeAnd o (λ object. Contains object.fields (Some to))) found.1 holds in
    nothing to (subst (λ (o : Object). Contains o.fields (Some to)) (sym it.1) named))
    (λ (it : (from ≡ id → ⊥) × (get heap from ≡ Some found.0)). alone from to (same_holds (insert heap id object) heap from to (found.1 ∙ sym it.1) holds))
    (cases heap id object from found.0 found.1)

pub born_alone : (heap : Heap) (id : ℕ) (object : Object) → HoldsNothing heap → All (λ field. field ≡ None) object.fields → HoldsNothing (insert heap id object)
born_alone heap id object alone null = given_alone heap id object alone (never_named object null)

-- what an object names that was there it holds
held_there : (heap : Heap) (id : ℕ) (object : Object) → get heap id ≡ Some object → (to : ℕ) → Contains object.fields (Some to) → Holds heap id to
held_there heap id object is to named = subst (λ (o : Option Object). IsSomeAnd o (λ object. Contains object.fields (Some to))) (sym is) named

pub written_alone : (heap : Heap) (id : ℕ) (object after : Object) → get heap id ≡ Some object → after.fields ≡ object.fields → HoldsNothing heap → HoldsNothing (insert heap id after)
written_alone heap id object after is same alone =
    given_alone heap id after alone (λ to named. alone id to (held_there heap id object is to (subst (λ fields. Contains fields (Some to)) same named)))

pub nulled_alone : (heap : Heap) (id : ℕ) (object : Object) → get heap id ≡ Some object → (index : ℕ) (value : Option ℕ) → is_some value ≡ false → HoldsNothing heap → HoldsNothing (insert heap id (with_field object index value))
nulled_alone heap id object is index value none alone =
    given_alone heap id (with_field object index value) alone (λ to named.
    ⊎_elim
    (λ (it : value ≡ Some to). let never : is_some (Some to) ≡ false = subst (λ (v : Option ℕ). is_some v ≡ false) it none in cc never)
    (λ (it : Contains object.fields (Some to)). alone id to (held_there heap id object is to it))
    (set_or_was object.fields index to value named))

-- those that are left are as they were
pub left_alone : (heap after : Heap) → ((id : ℕ) (object : Object) → get after id ≡ Some object → get heap id ≡ Some object) → HoldsNothing heap → HoldsNothing after
left_alone heap after were alone from to holds =
    let found = holder after from to holds in
    alone from to (same_holds after heap from to (found.1 ∙ sym (were from found.0 found.1)) holds)

pub taken_alone : (heap : Heap) (id : ℕ) → HoldsNothing heap → HoldsNothing (remove heap id)
taken_alone heap id = left_alone heap (remove heap id) (λ q object is. remove_cases nat_cmp_total nat_cmp-IsAntisymmetric heap id q object is)

pub gone_alone : (heap after : Heap) (ids : List ℕ) → AreGone heap ids after → HoldsNothing heap → HoldsNothing after
gone_alone heap after ids gone = left_alone heap after (λ id object is. by (among ids id) (get heap id) object (sym (gone id) ∙ is))
  where
    by : (b : Bool) (o : Option Object) (object : Object) → (if b then None else o) ≡ Some object → o ≡ Some object
    by true o object is = cc is
    by false o object is = is

-- ---- entries that are written

module _ (es : List (ℕ × Object)) (v : Heap) (seen : from_entries {R = nat_cmp} es ≡ v) (id at : ℕ) (e : ℕ × Object) (is : IsAt (keys_of es) id at) (read : e ≡ get_or es at e) where
  pub kept_listed : (may_hold : Bool) → AreListed es may_hold → (w : Object) → (get v id ≡ Some e.1 → HoldsNothing v → HoldsNothing (insert v id w)) → AreListed (set es at (e.0, w)) may_hold
  kept_listed may_hold listed w stays = record {
    rise = still_rise es v seen listed.rise id at e is read w;
    alone = λ no. subst HoldsNothing (sym (written es v seen listed.rise id at e is read w)) (stays (found_there es v seen listed.rise id at e is read) (subst HoldsNothing seen (listed.alone no)));
  }

  -- one that may hold another now
  pub told_listed : (may_hold : Bool) → AreListed es may_hold → (w : Object) → AreListed (set es at (e.0, w)) true
  told_listed may_hold listed w = record { rise = still_rise es v seen listed.rise id at e is read w; alone = λ never. cc never }
