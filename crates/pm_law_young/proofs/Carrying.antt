-- Where young objects come in, the world stays.
use Rattle.std.proofs.Common.{◌≡◌, ℕ, Bool, true, false, if◌then◌else◌, List, [], Option, Some, None, refl, sym, ap, subst, ◌∙◌}
use Rattle.std.specs.Option.{IsSome}
use Rattle.std.specs.FinMap.{get, get-empty}
use Rattle.std.specs.Ordering.{nat_cmp}
use Rattle.pm_types.specs.Orders.{place_cmp}
use Rattle.pm_model.specs.Heap.{Object, Holds}
use Rattle.pm_model.specs.World.{World, Roots}
use Rattle.pm_model.proofs.Reaching.{reachable_next, along}
use Rattle.pm_nursery.specs.Young.{NurseryView, IsHeldYoung, IsNursery, IsYoung, no_nursery, or_else}
use Rattle.pm_nursery.specs.Sweeping.{among, carried, left_held, AreReached, AreYoung, ComesIn, GoesOut, IsDetached}
use Rattle.pm_nursery.proofs.Sound.{left_there}
use Rattle.pm_nursery.proofs.Parts.{found_of, is_there, none_some, same_holds, picks, passes}

-- ---- registers

-- a register holds the same, wherever it is held
same_held : (ids : List ℕ) (n w : Option ℕ) → or_else n w ≡ or_else (left_held ids n) (carried ids n w)
same_held ids None w = refl
same_held ids (Some id) w = by (among ids id)
  where
    by : (b : Bool) → Some id ≡ or_else (if b then None else Some id) (if b then Some id else w)
    by true = refl
    by false = refl

-- one that is left in the nursery is empty within
left_vacant : (ids : List ℕ) (n w : Option ℕ) (id : ℕ) → ((y : ℕ) → n ≡ Some y → w ≡ None) → left_held ids n ≡ Some id → carried ids n w ≡ None
left_vacant ids None w id none is = cc is
left_vacant ids (Some y) w id none is = by (among ids y) is
  where
    by : (b : Bool) → (if b then None else Some y) ≡ Some id → (if b then Some y else w) ≡ None
    by true never = cc never
    by false here = none y refl

-- what one holds that came in, or was held within
data Came : List ℕ → Option ℕ → Option ℕ → ℕ → Type 0 where
  new : {ids : List ℕ} {n w : Option ℕ} {id : ℕ} → n ≡ Some id → among ids id ≡ true → Came ids n w id
  old : {ids : List ℕ} {n w : Option ℕ} {id : ℕ} → w ≡ Some id → Came ids n w id

came : (ids : List ℕ) (n w : Option ℕ) (id : ℕ) → carried ids n w ≡ Some id → Came ids n w id
came ids None w id is = old is
came ids (Some y) w id is = by (among ids y) refl is
  where
    by : (b : Bool) → among ids y ≡ b → (if b then Some y else w) ≡ Some id → Came ids (Some y) w id
    by true was here = let same : y ≡ id = cc here in new here (subst (λ x. among ids x ≡ true) same was)
    by false was here = old here

-- ---- objects

module _ (within world later : World) (nursery : NurseryView) (ids : List ℕ) (is : IsYoung within nursery world) (young : AreYoung nursery ids) (comes : ComesIn within nursery ids later) where
  -- what was within is there
  pub stays : (id : ℕ) → IsSome (get within.heap id) → IsSome (get later.heap id)
  stays id there = subst IsSome (sym (comes.heap id)) (by (among ids id) refl)
    where
      by : (b : Bool) → among ids id ≡ b → IsSome (if b then get nursery.objects id else get within.heap id)
      by true inside = young id inside
      by false outside = there

  -- and what came in
  pub comes_there : (id : ℕ) → among ids id ≡ true → IsSome (get later.heap id)
  comes_there id inside = subst IsSome (sym (comes.heap id ∙ picks (among ids id) (get nursery.objects id) (get within.heap id) inside)) (young id inside)

  -- it is the world's
  pub inside_world : (id : ℕ) (object : Object) → get later.heap id ≡ Some object → get world.heap id ≡ Some object
  inside_world id object here = by (among ids id) (sym (comes.heap id) ∙ here)
    where
      by : (b : Bool) → (if b then get nursery.objects id else get within.heap id) ≡ Some object → get world.heap id ≡ Some object
      by true there = is.young id object there
      by false there = is.inside id object there

  pub same_rest : later ≡ record world { heap = later.heap; registers = later.registers }
  same_rest = comes.rest ∙ ap (λ (w : World). record w { heap = later.heap; registers = later.registers }) is.rest

  same_roots : later.roots ≡ within.roots
  same_roots = ap (λ (w : World). w.roots) comes.rest

  -- whatever a name or a register names is there
  pub named : (name : List ℕ) (id : ℕ) → get later.roots name ≡ Some id → IsSome (get later.heap id)
  named name id here = stays id (is.roots name id (sym (ap (λ (roots : Roots). get roots name) same_roots) ∙ here))

  pub held : (place : ℕ × ℕ) (id : ℕ) → get later.registers place ≡ Some id → IsSome (get later.heap id)
  held place id here = by (came ids (get nursery.registers place) (get within.registers place) id (sym (comes.registers place) ∙ here))
    where
      by : Came ids (get nursery.registers place) (get within.registers place) id → IsSome (get later.heap id)
      by (new was inside) = comes_there id inside
      by (old was) = stays id (is.held place id was)

  -- and whatever a field does, where young fields that came in name what came in
  pub fields : ((from to : ℕ) → among ids from ≡ true → Holds nursery.objects from to → among ids to ≡ true) → (from to : ℕ) → Holds later.heap from to → IsSome (get later.heap to)
  fields goes from to holds = by (among ids from) refl
    where
      by : (b : Bool) → among ids from ≡ b → IsSome (get later.heap to)
      by true inside = comes_there to (goes from to inside (same_holds later.heap nursery.objects from to (comes.heap from ∙ picks (among ids from) (get nursery.objects from) (get within.heap from) inside) holds))
      by false outside = stays to (is.fields from to (same_holds later.heap within.heap from to (comes.heap from ∙ passes (among ids from) (get nursery.objects from) (get within.heap from) outside) holds))

-- ---- escapes

module _ (nursery after : NurseryView) (ids : List ℕ) (sound : IsNursery nursery) (apart : IsDetached nursery.objects ids) (goes : GoesOut nursery ids after) where
  pub world_after : (within world later : World) → IsYoung within nursery world → AreYoung nursery ids → ComesIn within nursery ids later → IsYoung later after world
  world_after within world later is young comes = record {
    rest = same_rest within world later nursery ids is young comes;
    registers = λ place. is.registers place ∙ same_held ids (get nursery.registers place) (get within.registers place)
        ∙ (λ i. or_else (sym (goes.registers place) i) (sym (comes.registers place) i));
    vacant = λ place id here.
        comes.registers place ∙ left_vacant ids (get nursery.registers place) (get within.registers place) id (is.vacant place) (sym (goes.registers place) ∙ here);
    inside = inside_world within world later nursery ids is young comes;
    young = λ id object here. is.young id object (left_there nursery after ids sound apart goes id object here).0;
    apart = λ id there.
        let object = found_of (get after.objects id) there in
        let was = left_there nursery after ids sound apart goes id object.0 object.1 in
        comes.heap id ∙ passes (among ids id) (get nursery.objects id) (get within.heap id) was.1 ∙ is.apart id (is_there (get nursery.objects id) object.0 was.0);
    roots = named within world later nursery ids is young comes;
    held = held within world later nursery ids is young comes;
    fields = fields within world later nursery ids is young comes (λ from to inside holds. sym (apart from to holds) ∙ inside);
  }

-- ---- sweeps

module _ (within world later : World) (nursery : NurseryView) (ids : List ℕ) (is : IsYoung within nursery world) (sound : IsNursery nursery) (reached : AreReached nursery ids) (comes : ComesIn within nursery ids later) where
  -- what is reached is young
  reached_young : AreYoung nursery ids
  reached_young id inside =
      let path = reached.each id inside in
      along nursery.objects (λ x. IsSome (get nursery.objects x)) (λ from to there holds. sound.closed from to holds) path.0 path.1 id (sound.held path.0 path.2) path.3

  all_held : (n w : Option ℕ) → ((id : ℕ) → n ≡ Some id → among ids id ≡ true) → or_else n w ≡ carried ids n w
  all_held None w inside = refl
  all_held (Some id) w inside = sym (picks (among ids id) (Some id) w (inside id refl))

  no_object : (id : ℕ) (object : Object) → get no_nursery.objects id ≡ Some object → ⊥
  no_object id object here = none_some (get no_nursery.objects id) object (get-empty nat_cmp id) here

  pub world_swept : IsYoung later no_nursery world
  world_swept = record {
    rest = same_rest within world later nursery ids is reached_young comes;
    registers = λ place. is.registers place
        ∙ all_held (get nursery.registers place) (get within.registers place) (λ id here. reached.all id (id, [], (place, here), refl))
        ∙ (λ i. or_else (sym (get-empty place_cmp place) i) (sym (comes.registers place) i));
    vacant = λ place id here. absurd (none_some (get no_nursery.registers place) id (get-empty place_cmp place) here);
    inside = inside_world within world later nursery ids is reached_young comes;
    young = λ id object here. absurd (no_object id object here);
    apart = λ id there. let object = found_of (get no_nursery.objects id) there in absurd (no_object id object.0 object.1);
    roots = named within world later nursery ids is reached_young comes;
    held = held within world later nursery ids is reached_young comes;
    fields = fields within world later nursery ids is reached_young comes
        (λ from to inside holds. reached.all to (reachable_next nursery.objects (IsHeldYoung nursery) from to (reached.each from inside) holds));
  }
