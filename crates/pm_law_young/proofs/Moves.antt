-- Steps of a young world: the world within, or the nursery, or both make it, and the world makes it.
use Rattle.std.proofs.Common.{◌≡◌, ⊎_elim, ℕ, ◌+◌, Bool, true, false, cond, not, nat_eq, List, Option, Some, None, refl, sym, ap, subst, ◌∙◌}
use Rattle.std.specs.Option.{IsSome}
use Rattle.std.specs.Ordering.{eq_by_cmp}
use Rattle.std.specs.Cmp.{nat_cmp_total}
use Rattle.std.specs.FinMap.{get, insert, remove, retain_keys, get-insert, get-remove, nat_cmp-IsAntisymmetric}
use Rattle.pm_types.specs.Orders.{place_cmp}
use Rattle.pm_types.proofs.Orders.{names_total, names_antisymmetric, places_total, places_antisymmetric}
use Rattle.pm_model.specs.Heap.{Object, Heap}
use Rattle.pm_model.specs.World.{World, Registers, Copy, changing, holding, emptying, closing, naming, unbinding, with_object, beginning, settling, dropping, watching}
use Rattle.pm_model.proofs.Maps.{insert_other, insert_cases, remove_cases, retain_cases, retain_get}
use Rattle.pm_nursery.specs.Young.{NurseryView, IsYoung, or_else}
use Rattle.pm_nursery.specs.Moving.{Names, young_changing, young_holding, young_forgetting, young_closing}
use Rattle.pm_nursery.proofs.Sound.{cases, here, inserted_closed, stays}
use Rattle.pm_nursery.proofs.Parts.{found_of, is_there, none_some}

-- one map has another's objects also where both get the same
more_of : (one other : Heap) (id : ℕ) (object : Object) → ((q : ℕ) (x : Object) → get one q ≡ Some x → get other q ≡ Some x)
    → (q : ℕ) (x : Object) → get (insert one id object) q ≡ Some x → get (insert other id object) q ≡ Some x
more_of one other id object has q x is =
    ⊎_elim
    (λ (it : (q ≡ id) × (object ≡ x)). ap (get (insert other id object)) it.0 ∙ here other id object ∙ ap Some it.1)
    (λ (it : (q ≡ id → ⊥) × (get one q ≡ Some x)). insert_other nat_cmp_total nat_cmp-IsAntisymmetric other id object q it.0 ∙ has q x it.1)
    (cases one id object q x is)

-- and where the other alone gets one that the first has not
apart_of : (one other : Heap) (id : ℕ) (object : Object) → get one id ≡ None → ((q : ℕ) (x : Object) → get one q ≡ Some x → get other q ≡ Some x)
    → (q : ℕ) (x : Object) → get one q ≡ Some x → get (insert other id object) q ≡ Some x
apart_of one other id object none has q x is =
    insert_other nat_cmp_total nat_cmp-IsAntisymmetric other id object q (λ same. none_some (get one id) x none (ap (get one) (sym same) ∙ is)) ∙ has q x is

-- ---- registers

-- a register is set within, and the nursery has it no more
set_old : (b : Bool) (id : ℕ) (n w : Option ℕ) → cond b (Some id) (or_else n w) ≡ or_else (cond b None n) (cond b (Some id) w)
set_old true id n w = refl
set_old false id n w = refl

-- it is set in the nursery, and empty within
set_young : (b : Bool) (id : ℕ) (n w : Option ℕ) → cond b (Some id) (or_else n w) ≡ or_else (cond b (Some id) n) (cond b None w)
set_young true id n w = refl
set_young false id n w = refl

-- it is empty in both
set_none : (b : Bool) (n w : Option ℕ) → cond b None (or_else n w) ≡ or_else (cond b None n) (cond b None w)
set_none true n w = refl
set_none false n w = refl

kept_both : (b : Bool) (n w : Option ℕ) → cond b (or_else n w) None ≡ or_else (cond b n None) (cond b w None)
kept_both true n w = refl
kept_both false n w = refl

-- a register that the nursery has is empty within
vacant_old : (b : Bool) (id y : ℕ) (n w : Option ℕ) → ((y : ℕ) → n ≡ Some y → w ≡ None) → cond b None n ≡ Some y → cond b (Some id) w ≡ None
vacant_old true id y n w none is = cc is
vacant_old false id y n w none is = none y is

vacant_young : (b : Bool) (id y : ℕ) (n w : Option ℕ) → ((y : ℕ) → n ≡ Some y → w ≡ None) → cond b (Some id) n ≡ Some y → cond b None w ≡ None
vacant_young true id y n w none is = refl
vacant_young false id y n w none is = none y is

vacant_none : (b : Bool) (y : ℕ) (n w : Option ℕ) → ((y : ℕ) → n ≡ Some y → w ≡ None) → cond b None n ≡ Some y → cond b None w ≡ None
vacant_none true y n w none is = refl
vacant_none false y n w none is = none y is

vacant_kept : (b : Bool) (y : ℕ) (n w : Option ℕ) → ((y : ℕ) → n ≡ Some y → w ≡ None) → cond b n None ≡ Some y → cond b w None ≡ None
vacant_kept true y n w none is = none y is
vacant_kept false y n w none is = refl

inserted : (m : Registers) (place : ℕ × ℕ) (id : ℕ) (q : ℕ × ℕ) → get (insert m place id) q ≡ cond (eq_by_cmp place_cmp q place) (Some id) (get m q)
inserted m place id q = get-insert places_total m place id q

removed : (m : Registers) (place q : ℕ × ℕ) → get (remove m place) q ≡ cond (eq_by_cmp place_cmp q place) None (get m q)
removed m place q = get-remove places_total m place q

retained : (m : Registers) (client : ℕ) (q : ℕ × ℕ) → get (retain_keys m (λ place. not (nat_eq place.0 client))) q ≡ cond (not (nat_eq q.0 client)) (get m q) None
retained m client q = retain_get places_total places_antisymmetric m (λ place. not (nat_eq place.0 client)) q

module _ (within world : World) (nursery : NurseryView) (is : IsYoung within nursery world) where
  -- ---- objects

  -- an object within is changed, and what it names is within
  pub old_changed : (id : ℕ) (object : Object) → IsSome (get within.heap id) → Names within.heap object → IsYoung (changing within id object) nursery (changing world id object)
  old_changed id object there names = record {
    rest = ap (λ (w : World). record w { heap = insert within.heap id object }) is.rest;
    registers = is.registers;
    vacant = is.vacant;
    inside = more_of within.heap world.heap id object is.inside;
    young = λ q x here. apart_of nursery.objects world.heap id object (not_young id there) is.young q x here;
    apart = λ q young. insert_other nat_cmp_total nat_cmp-IsAntisymmetric within.heap id object q (λ same. both q young (subst (λ x. IsSome (get within.heap x)) (sym same) there)) ∙ is.apart q young;
    roots = λ name q here. stays within.heap id object q (is.roots name q here);
    held = λ place q here. stays within.heap id object q (is.held place q here);
    fields = inserted_closed within.heap id object is.fields names;
  }
    where
      both : (q : ℕ) → IsSome (get nursery.objects q) → IsSome (get within.heap q) → ⊥
      both q young old = let found = found_of (get within.heap q) old in none_some (get within.heap q) found.0 (is.apart q young) found.1

      not_young : (q : ℕ) → IsSome (get within.heap q) → get nursery.objects q ≡ None
      not_young q old = by (get nursery.objects q) refl
        where
          by : (o : Option Object) → get nursery.objects q ≡ o → o ≡ None
          by None is = refl
          by (Some x) is = absurd (both q (is_there (get nursery.objects q) x is) old)

  -- a young object is changed
  pub young_changed : (id : ℕ) (object : Object) → IsSome (get nursery.objects id) → IsYoung within (young_changing nursery id object) (changing world id object)
  young_changed id object there = record {
    rest = ap (λ (w : World). record w { heap = within.heap; registers = within.registers }) is.rest;
    registers = is.registers;
    vacant = is.vacant;
    inside = λ q x here. apart_of within.heap world.heap id object (is.apart id there) is.inside q x here;
    young = more_of nursery.objects world.heap id object is.young;
    apart = λ q young. let found = found_of (get (insert nursery.objects id object) q) young in
        ⊎_elim
        (λ (it : (q ≡ id) × (object ≡ found.0)). ap (get within.heap) it.0 ∙ is.apart id there)
        (λ (it : (q ≡ id → ⊥) × (get nursery.objects q ≡ Some found.0)). is.apart q (is_there (get nursery.objects q) found.0 it.1))
        (cases nursery.objects id object q found.0 found.1);
    roots = is.roots;
    held = is.held;
    fields = is.fields;
  }

  -- ---- registers

  module _ (client reg : ℕ) where
    -- a register holds an object within
    pub held_old : (id : ℕ) → IsSome (get within.heap id) → IsYoung (holding within client reg id) (young_forgetting nursery client reg) (holding world client reg id)
    held_old id there = record {
      rest = ap (λ (w : World). record w { registers = insert within.registers (client, reg) id }) is.rest;
      registers = λ place. inserted world.registers (client, reg) id place
          ∙ ap (cond (eq_by_cmp place_cmp place (client, reg)) (Some id)) (is.registers place)
          ∙ set_old (eq_by_cmp place_cmp place (client, reg)) id (get nursery.registers place) (get within.registers place)
          ∙ (λ i. or_else (sym (removed nursery.registers (client, reg) place) i) (sym (inserted within.registers (client, reg) id place) i));
      vacant = λ place y here. inserted within.registers (client, reg) id place
          ∙ vacant_old (eq_by_cmp place_cmp place (client, reg)) id y (get nursery.registers place) (get within.registers place) (is.vacant place) (sym (removed nursery.registers (client, reg) place) ∙ here);
      inside = is.inside;
      young = is.young;
      apart = is.apart;
      roots = is.roots;
      held = λ place y here.
          ⊎_elim
          (λ (it : (place ≡ (client, reg)) × (id ≡ y)). subst (λ x. IsSome (get within.heap x)) it.1 there)
          (λ (it : (place ≡ (client, reg) → ⊥) × (get within.registers place ≡ Some y)). is.held place y it.1)
          (insert_cases places_total places_antisymmetric within.registers (client, reg) id place y here);
      fields = is.fields;
    }

    -- it holds a young object
    pub held_young : (id : ℕ) → IsYoung (emptying within client reg) (young_holding nursery client reg id) (holding world client reg id)
    held_young id = record {
      rest = ap (λ (w : World). record w { registers = remove within.registers (client, reg) }) is.rest;
      registers = λ place. inserted world.registers (client, reg) id place
          ∙ ap (cond (eq_by_cmp place_cmp place (client, reg)) (Some id)) (is.registers place)
          ∙ set_young (eq_by_cmp place_cmp place (client, reg)) id (get nursery.registers place) (get within.registers place)
          ∙ (λ i. or_else (sym (inserted nursery.registers (client, reg) id place) i) (sym (removed within.registers (client, reg) place) i));
      vacant = λ place y here. removed within.registers (client, reg) place
          ∙ vacant_young (eq_by_cmp place_cmp place (client, reg)) id y (get nursery.registers place) (get within.registers place) (is.vacant place) (sym (inserted nursery.registers (client, reg) id place) ∙ here);
      inside = is.inside;
      young = is.young;
      apart = is.apart;
      roots = is.roots;
      held = λ place y here. is.held place y (remove_cases places_total places_antisymmetric within.registers (client, reg) place y here);
      fields = is.fields;
    }

    -- it is empty
    pub emptied : IsYoung (emptying within client reg) (young_forgetting nursery client reg) (emptying world client reg)
    emptied = record {
      rest = ap (λ (w : World). record w { registers = remove within.registers (client, reg) }) is.rest;
      registers = λ place. removed world.registers (client, reg) place
          ∙ ap (cond (eq_by_cmp place_cmp place (client, reg)) None) (is.registers place)
          ∙ set_none (eq_by_cmp place_cmp place (client, reg)) (get nursery.registers place) (get within.registers place)
          ∙ (λ i. or_else (sym (removed nursery.registers (client, reg) place) i) (sym (removed within.registers (client, reg) place) i));
      vacant = λ place y here. removed within.registers (client, reg) place
          ∙ vacant_none (eq_by_cmp place_cmp place (client, reg)) y (get nursery.registers place) (get within.registers place) (is.vacant place) (sym (removed nursery.registers (client, reg) place) ∙ here);
      inside = is.inside;
      young = is.young;
      apart = is.apart;
      roots = is.roots;
      held = λ place y here. is.held place y (remove_cases places_total places_antisymmetric within.registers (client, reg) place y here);
      fields = is.fields;
    }

  -- all registers of a client are empty
  pub closed : (client : ℕ) → IsYoung (closing within client) (young_closing nursery client) (closing world client)
  closed client = record {
    rest = ap (λ (w : World). record w { registers = retain_keys within.registers (λ place. not (nat_eq place.0 client)) }) is.rest;
    registers = λ place. retained world.registers client place
        ∙ ap (λ (o : Option ℕ). cond (not (nat_eq place.0 client)) o None) (is.registers place)
        ∙ kept_both (not (nat_eq place.0 client)) (get nursery.registers place) (get within.registers place)
        ∙ (λ i. or_else (sym (retained nursery.registers client place) i) (sym (retained within.registers client place) i));
    vacant = λ place y here. retained within.registers client place
        ∙ vacant_kept (not (nat_eq place.0 client)) y (get nursery.registers place) (get within.registers place) (is.vacant place) (sym (retained nursery.registers client place) ∙ here);
    inside = is.inside;
    young = is.young;
    apart = is.apart;
    roots = is.roots;
    held = λ place y here. is.held place y (retain_cases places_total places_antisymmetric within.registers (λ place. not (nat_eq place.0 client)) place y here);
    fields = is.fields;
  }

  -- ---- names

  pub named : (name : List ℕ) (id : ℕ) → IsSome (get within.heap id) → IsYoung (naming within name id) nursery (naming world name id)
  named name id there = record {
    rest = ap (λ (w : World). record w { roots = insert w.roots name id }) is.rest;
    registers = is.registers;
    vacant = is.vacant;
    inside = is.inside;
    young = is.young;
    apart = is.apart;
    roots = λ q y here.
        ⊎_elim
        (λ (it : (q ≡ name) × (id ≡ y)). subst (λ x. IsSome (get within.heap x)) it.1 there)
        (λ (it : (q ≡ name → ⊥) × (get within.roots q ≡ Some y)). is.roots q y it.1)
        (insert_cases names_total names_antisymmetric within.roots name id q y here);
    held = is.held;
    fields = is.fields;
  }

  pub unnamed : (name : List ℕ) → IsYoung (unbinding within name) nursery (unbinding world name)
  unnamed name = record {
    rest = ap (λ (w : World). record w { roots = remove w.roots name }) is.rest;
    registers = is.registers;
    vacant = is.vacant;
    inside = is.inside;
    young = is.young;
    apart = is.apart;
    roots = λ q y here. is.roots q y (remove_cases names_total names_antisymmetric within.roots name q y here);
    held = is.held;
    fields = is.fields;
  }

  -- ---- births

  -- an object is born young, under the next identity, which no object has
  pub born : (object : Object) → get world.heap world.next ≡ None → IsYoung (record within { next = within.next + 1 }) (young_changing nursery world.next object) (with_object world object)
  born object none = record {
    rest = ap (λ (w : World). record w { next = w.next + 1 }) is.rest;
    registers = is.registers;
    vacant = is.vacant;
    inside = λ q x here. apart_of within.heap world.heap world.next object (not_there (get within.heap world.next) (λ x here. is.inside world.next x here)) is.inside q x here;
    young = more_of nursery.objects world.heap world.next object is.young;
    apart = λ q young. let found = found_of (get (insert nursery.objects world.next object) q) young in
        ⊎_elim
        (λ (it : (q ≡ world.next) × (object ≡ found.0)). ap (get within.heap) it.0 ∙ not_there (get within.heap world.next) (λ x here. is.inside world.next x here))
        (λ (it : (q ≡ world.next → ⊥) × (get nursery.objects q ≡ Some found.0)). is.apart q (is_there (get nursery.objects q) found.0 it.1))
        (cases nursery.objects world.next object q found.0 found.1);
    roots = is.roots;
    held = is.held;
    fields = is.fields;
  }
    where
      not_there : (o : Option Object) → ((x : Object) → o ≡ Some x → get world.heap world.next ≡ Some x) → o ≡ None
      not_there None has = refl
      not_there (Some x) has = absurd (none_some (get world.heap world.next) x none (has x refl))

  -- ---- copies and watches

  -- the same copy is begun, settled or dropped in both, and the same watch is set
  pub begun : (number : ℕ) (copy : Copy) → IsYoung (beginning within number copy) nursery (beginning world number copy)
  begun number copy = saved (ap (λ (w : World). beginning w number copy) is.rest)
    where
      saved : beginning within number copy ≡ record (beginning world number copy) { heap = within.heap; registers = within.registers } → IsYoung (beginning within number copy) nursery (beginning world number copy)
      saved rest = record { rest = rest; registers = is.registers; vacant = is.vacant; inside = is.inside; young = is.young; apart = is.apart; roots = is.roots; held = is.held; fields = is.fields }

  pub settled : (number : ℕ) (copy : Copy) → IsYoung (settling within number copy) nursery (settling world number copy)
  settled number copy = saved (ap (λ (w : World). settling w number copy) is.rest)
    where
      saved : settling within number copy ≡ record (settling world number copy) { heap = within.heap; registers = within.registers } → IsYoung (settling within number copy) nursery (settling world number copy)
      saved rest = record { rest = rest; registers = is.registers; vacant = is.vacant; inside = is.inside; young = is.young; apart = is.apart; roots = is.roots; held = is.held; fields = is.fields }

  pub dropped : IsYoung (dropping within) nursery (dropping world)
  dropped = record { rest = ap dropping is.rest; registers = is.registers; vacant = is.vacant; inside = is.inside; young = is.young; apart = is.apart; roots = is.roots; held = is.held; fields = is.fields }

  pub watched : IsYoung (watching within) nursery (watching world)
  watched = record { rest = ap watching is.rest; registers = is.registers; vacant = is.vacant; inside = is.inside; young = is.young; apart = is.apart; roots = is.roots; held = is.held; fields = is.fields }
