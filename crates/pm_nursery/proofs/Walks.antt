-- The walk meets what is arrived at, and ends.
use Rattle.std.proofs.Common.{◌≡◌, ◌⊎◌, ⊎_elim, inl, inr, ℕ, suc, ◌+◌, ◌-◌, ◌*◌, ◌<◌, ◌≤◌, ◌||◌, nat_eq, Bool, true, false, cond, if◌then◌else◌, List, [], ◌∷◌, ◌++◌, length, map, Option, Some, None, Result, Ok, Err, refl, sym, ap, subst, ◌∙◌, arith}
use Rattle.std.specs.List.{Contains, flat_map, list_any}
use Rattle.std.specs.List.Sorted.{IsStrictlySortedBy}
use Rattle.std.specs.Option.{IsSome, IsSomeAnd}
use Rattle.std.specs.Result.{OnOk}
use Rattle.std.specs.Ordering.{nat_cmp, eq_by_cmp}
use Rattle.std.specs.Cmp.{nat_cmp_total, eq_by_cmp_equiv}
use Rattle.std.specs.FinMap.{get, len, keys, entries, contains_key-keys, len-entries, nat_cmp-IsAntisymmetric}
use Rattle.std.specs.BTreeMap.{is_at}
use Rattle.std.specs.BTreeSet.{BTreeSet, contains}
use Rattle.std.proofs.lemmas.Bool.Decides.{nat_tests}
use Rattle.std.proofs.lemmas.List.{length_push}
use Rattle.std.proofs.lemmas.List.Elements.{Contains-append_cases, Contains-append_left, Contains-append_right, Contains-push, Contains-push_cases}
use Rattle.std.proofs.lemmas.Map.Keys.{IsDistinct-from_sorted}
use Rattle.std.proofs.lemmas.Map.Made.{length-le_from_is_member}
use Rattle.pm_types.specs.Orders.{place_cmp}
use Rattle.pm_types.proofs.Shown.{tied}
use Rattle.pm_model.specs.Heap.{Object, Heap}
use Rattle.pm_model.specs.Copying.{field_id}
use Rattle.pm_model.proofs.Members.{at_first, in_none, first_or_rest}
use Rattle.pm_model.proofs.Reached.{holds_if}
use Rattle.pm_nursery.specs.Sweeping.{among}
use Rattle.pm_nursery.specs.Walking.{Steps, Goes, Arrives, AreMet, Meets, PushesHolders, passed, went}

pub on_ok_more : {A E : Type 0} {P Q : Type 0} (r : Result A E) → OnOk r P → (P → Q) → OnOk r Q
on_ok_more (Ok x) holds more = more holds
on_ok_more (Err e) holds more = tt

pub one_more_key : (added : Bool) (n m : ℕ) → n ≡ m + (if added then 1 else 0) → added ≡ true → n ≡ m + 1
one_more_key true n m is was = is
one_more_key false n m is was = cc was

-- ---- one object

held_there : (fields : List (Option ℕ)) (to : ℕ) → Contains fields (Some to) → Contains (flat_map field_id fields) to
held_there [] to within = absurd (in_none (Some to) within)
held_there (field ∷ fields) to within =
    ⊎_elim
    (λ (here : field ≡ Some to). Contains-append_left (field_id field) (flat_map field_id fields) to (subst (λ f. Contains (field_id f) to) (sym here) (at_first to [])))
    (λ (there : Contains fields (Some to)). Contains-append_right (field_id field) (flat_map field_id fields) to (held_there fields to there))
    (first_or_rest field (Some to) fields within)

module _ (objects : Heap) (pairs : BTreeSet (ℕ × ℕ)) (id : ℕ) (object : Object) (is : get objects id ≡ Some object) (before middle later : List ℕ) (held : middle ≡ before ++ flat_map field_id object.fields) (beside : PushesHolders pairs id middle later) where
  pub pushed_each : (other : ℕ) → Contains later other → Contains before other ⊎ Steps objects pairs id other
  pushed_each other within =
      ⊎_elim
      (λ (first : Contains middle other).
      ⊎_elim
      (λ (old : Contains before other). inl old)
      (λ (named : Contains (flat_map field_id object.fields) other). inr (inl (holds_if objects id other object is named)))
      (Contains-append_cases before (flat_map field_id object.fields) other (subst (λ xs. Contains xs other) held first)))
      (λ (holder : contains place_cmp pairs (id, other) ≡ true). inr (inr holder))
      (beside.each other within)

  pub pushed_all : (other : ℕ) → Contains before other ⊎ Steps objects pairs id other → Contains later other
  pushed_all other (inl old) = beside.kept other (subst (λ xs. Contains xs other) (sym held) (Contains-append_left before (flat_map field_id object.fields) other old))
  pushed_all other (inr (inl holds)) =
      let named : Contains object.fields (Some other) = subst (λ (o : Option Object). IsSomeAnd o (λ object. Contains object.fields (Some other))) is holds in
      beside.kept other (subst (λ xs. Contains xs other) (sym held) (Contains-append_right before (flat_map field_id object.fields) other (held_there object.fields other named)))
  pushed_all other (inr (inr holder)) = beside.all other holder

-- ---- paths

goes_on : (objects : Heap) (pairs : BTreeSet (ℕ × ℕ)) (from : ℕ) (path : List ℕ) (to next : ℕ) → Goes objects pairs from path to → Steps objects pairs to next → Goes objects pairs from (path ++ next ∷ []) next
goes_on objects pairs from [] to next goes step = (subst (λ x. Steps objects pairs x next) (sym goes) step, refl)
goes_on objects pairs from (first ∷ path) to next goes step = (goes.0, goes_on objects pairs first path to next goes.1 step)

arrives_next : (objects : Heap) (pairs : BTreeSet (ℕ × ℕ)) (starts : List ℕ) (from to : ℕ) → Arrives objects pairs starts from → Steps objects pairs from to → Arrives objects pairs starts to
arrives_next objects pairs starts from to arrives step = (arrives.0, arrives.1 ++ to ∷ [], arrives.2, goes_on objects pairs arrives.0 arrives.1 from to arrives.3 step)

-- ---- what is met

is_same : (id q : ℕ) → is_at (nat_cmp id) q ≡ true → id ≡ q
is_same id q at = nat_cmp-IsAntisymmetric id q (tied (nat_cmp id q) at)

itself : (id : ℕ) → is_at (nat_cmp id) id ≡ true
itself id = grind (arith, nat_tests)

-- what is met or pending so far
pub record Walking (objects : Heap) (pairs : BTreeSet (ℕ × ℕ)) (starts : List ℕ) (met : BTreeSet ℕ) (pending : List ℕ) : Type 0 where
  pub ordered : IsStrictlySortedBy nat_cmp met.keys
  pub each : (x : ℕ) → contains nat_cmp met x ≡ true → Arrives objects pairs starts x
  pub waits : (x : ℕ) → Contains pending x → Arrives objects pairs starts x
  pub there : (x : ℕ) → contains nat_cmp met x ≡ true → IsSome (get objects x)
  pub begun : (x : ℕ) → Contains starts x → IsSome (get objects x) → (contains nat_cmp met x ≡ true) ⊎ Contains pending x
  pub next : (x y : ℕ) → contains nat_cmp met x ≡ true → Steps objects pairs x y → IsSome (get objects y) → (contains nat_cmp met y ≡ true) ⊎ Contains pending y

module _ (objects : Heap) (pairs : BTreeSet (ℕ × ℕ)) (starts : List ℕ) where
  none_met : (met : BTreeSet ℕ) (x : ℕ) → met.keys ≡ [] → contains nat_cmp met x ≡ true → ⊥
  none_met met x none has = let never : list_any (is_at (nat_cmp x)) [] ≡ true = subst (λ (ks : List ℕ). list_any (is_at (nat_cmp x)) ks ≡ true) none has in cc never

  pub walking_begins : (met : BTreeSet ℕ) → met.keys ≡ [] → IsStrictlySortedBy nat_cmp met.keys → Walking objects pairs starts met starts
  walking_begins met none ordered = record {
    ordered = ordered;
    each = λ x has. absurd (none_met met x none has);
    waits = λ x within. (x, [], within, refl);
    there = λ x has. absurd (none_met met x none has);
    begun = λ x within there. inr within;
    next = λ x y has. absurd (none_met met x none has);
  }

  module _ (met after : BTreeSet ℕ) (front later : List ℕ) (id : ℕ) (walking : Walking objects pairs starts met (front ++ id ∷ [])) where
    -- one that was pending is so still, or was looked at
    split : (x : ℕ) → Contains (front ++ id ∷ []) x → Contains front x ⊎ (id ≡ x)
    split x within = Contains-push_cases front id x within

    passed_on : (get objects id ≡ None) ⊎ (contains nat_cmp met id ≡ true) → after.keys ≡ met.keys → later ≡ front → Walking objects pairs starts after later
    passed_on why same pending = record {
      ordered = subst (IsStrictlySortedBy nat_cmp) (sym same) walking.ordered;
      each = λ x has. walking.each x (back x has);
      waits = λ x within. walking.waits x (Contains-append_left front (id ∷ []) x (subst (λ xs. Contains xs x) pending within));
      there = λ x has. walking.there x (back x has);
      begun = λ x within there. goes x there (walking.begun x within there);
      next = λ x y has step there. goes y there (walking.next x y (back x has) step there);
    }
      where
        back : (x : ℕ) → contains nat_cmp after x ≡ true → contains nat_cmp met x ≡ true
        back x has = ap (λ (ks : List ℕ). list_any (is_at (nat_cmp x)) ks) (sym same) ∙ has

        on : (x : ℕ) → contains nat_cmp met x ≡ true → contains nat_cmp after x ≡ true
        on x has = ap (λ (ks : List ℕ). list_any (is_at (nat_cmp x)) ks) same ∙ has

        looked : (x : ℕ) → IsSome (get objects x) → id ≡ x → (get objects id ≡ None) ⊎ (contains nat_cmp met id ≡ true) → (contains nat_cmp after x ≡ true) ⊎ Contains later x
        looked x there here (inl none) = let gone : get objects x ≡ None = ap (get objects) (sym here) ∙ none in absurd (let never : IsSome {T = Object} None = subst IsSome gone there in cc never)
        looked x there here (inr was) = inl (on x (subst (λ y. contains nat_cmp met y ≡ true) here was))

        goes : (x : ℕ) → IsSome (get objects x) → (contains nat_cmp met x ≡ true) ⊎ Contains (front ++ id ∷ []) x → (contains nat_cmp after x ≡ true) ⊎ Contains later x
        goes x there (inl has) = inl (on x has)
        goes x there (inr within) = ⊎_elim (λ (before : Contains front x). inr (subst (λ xs. Contains xs x) (sym pending) before)) (λ (here : id ≡ x). looked x there here why) (split x within)

    went_on : IsSome (get objects id) → ((q : ℕ) → contains nat_cmp after q ≡ cond (is_at (nat_cmp id) q) true (contains nat_cmp met q)) → IsStrictlySortedBy nat_cmp after.keys
        → ((other : ℕ) → Contains later other → Contains front other ⊎ Steps objects pairs id other) → ((other : ℕ) → Contains front other ⊎ Steps objects pairs id other → Contains later other)
        → Walking objects pairs starts after later
    went_on is_there now ordered pushed all = record {
      ordered = ordered;
      each = λ x has. ⊎_elim (λ (here : id ≡ x). subst (Arrives objects pairs starts) here at_id) (λ (old : contains nat_cmp met x ≡ true). walking.each x old) (back x has);
      waits = λ x within. ⊎_elim
          (λ (before : Contains front x). walking.waits x (Contains-append_left front (id ∷ []) x before))
          (λ (step : Steps objects pairs id x). arrives_next objects pairs starts id x at_id step)
          (pushed x within);
      there = λ x has. ⊎_elim (λ (here : id ≡ x). subst (λ y. IsSome (get objects y)) here is_there) (λ (old : contains nat_cmp met x ≡ true). walking.there x old) (back x has);
      begun = λ x within there. goes x (walking.begun x within there);
      next = λ x y has step there. ⊎_elim
          (λ (here : id ≡ x). inr (all y (inr (subst (λ z. Steps objects pairs z y) (sym here) step))))
          (λ (old : contains nat_cmp met x ≡ true). goes y (walking.next x y old step there))
          (back x has);
    }
      where
        at_id : Arrives objects pairs starts id
        at_id = walking.waits id (Contains-push front id)

        back : (x : ℕ) → contains nat_cmp after x ≡ true → (id ≡ x) ⊎ (contains nat_cmp met x ≡ true)
        back x has = by (is_at (nat_cmp id) x) refl (sym (now x) ∙ has)
          where
            by : (b : Bool) → is_at (nat_cmp id) x ≡ b → cond b true (contains nat_cmp met x) ≡ true → (id ≡ x) ⊎ (contains nat_cmp met x ≡ true)
            by true tie has = inl (is_same id x tie)
            by false tie has = inr has

        or_true : (b : Bool) → cond b true true ≡ true
        or_true true = refl
        or_true false = refl

        on : (x : ℕ) → contains nat_cmp met x ≡ true → contains nat_cmp after x ≡ true
        on x has = now x ∙ ap (cond (is_at (nat_cmp id) x) true) has ∙ or_true (is_at (nat_cmp id) x)

        here_met : contains nat_cmp after id ≡ true
        here_met = now id ∙ ap (λ b. cond b true (contains nat_cmp met id)) (itself id)

        goes : (x : ℕ) → (contains nat_cmp met x ≡ true) ⊎ Contains (front ++ id ∷ []) x → (contains nat_cmp after x ≡ true) ⊎ Contains later x
        goes x (inl has) = inl (on x has)
        goes x (inr within) = ⊎_elim (λ (before : Contains front x). inr (all x (inl before))) (λ (here : id ≡ x). inl (subst (λ y. contains nat_cmp after y ≡ true) here here_met)) (split x within)

    pub walking_goes_on : Meets objects pairs id met front after later → Walking objects pairs starts after later
    walking_goes_on (passed why same pending) = passed_on why same pending
    walking_goes_on (went is_there now one_more ordered pushed all) = went_on is_there now ordered pushed all

  -- ---- the end of it

  among_keys : (ks : List ℕ) (x : ℕ) → among ks x ≡ list_any (is_at (nat_cmp x)) ks
  among_keys [] x = refl
  among_keys (k ∷ ks) x = λ i. same_test k x i || among_keys ks x i
    where
      same_test : (k x : ℕ) → nat_eq k x ≡ is_at (nat_cmp x) k
      same_test k x = grind (arith, nat_tests)

  pub walking_ends : (met : BTreeSet ℕ) (pending ids : List ℕ) → pending ≡ [] → ids ≡ met.keys → Walking objects pairs starts met pending → AreMet objects pairs starts ids
  walking_ends met pending ids none are walking = record {
    each = λ x inside. walking.each x (to x inside);
    begun = λ x within there. done x (walking.begun x within there);
    next = λ x y inside step there. done y (walking.next x y (to x inside) step there);
  }
    where
      same : (x : ℕ) → among ids x ≡ contains nat_cmp met x
      same x = ap (λ (ks : List ℕ). among ks x) are ∙ among_keys met.keys x

      to : (x : ℕ) → among ids x ≡ true → contains nat_cmp met x ≡ true
      to x inside = sym (same x) ∙ inside

      done : (x : ℕ) → (contains nat_cmp met x ≡ true) ⊎ Contains pending x → among ids x ≡ true
      done x (inl has) = same x ∙ has
      done x (inr within) = absurd (in_none x (subst (λ xs. Contains xs x) none within))

  -- ---- what is left to do

  len_met : (ks : List ℕ) → IsStrictlySortedBy nat_cmp ks → ((q : ℕ) → list_any (is_at (nat_cmp q)) ks ≡ true → IsSome (get objects q)) → length ks ≤ len objects
  len_met ks ordered there =
      let few : length ks ≤ length (keys objects) = length-le_from_is_member {eq = eq_by_cmp nat_cmp} (eq_by_cmp_equiv nat_cmp_total) ks (keys objects) (IsDistinct-from_sorted nat_cmp ks ordered) (λ q has. sym (contains_key-keys objects q) ∙ there q has) in
      let as_many : length (keys objects) ≡ length (entries objects) = length_keys (entries objects) in
      let total = len-entries objects in
      omega (arith, few, as_many, total)
    where
      length_keys : (es : List (ℕ × Object)) → length (map (λ e. e.0) es) ≡ length es
      length_keys [] = refl
      length_keys (e ∷ es) = ap suc (length_keys es)

  -- each object that is not met counts for more than any list has elements
  abbrev pub to_do : BTreeSet ℕ → List ℕ → ℕ
  to_do met pending = 9223372036854775808 * (len objects - length met.keys) + length pending

  pub less_to_do : (met after : BTreeSet ℕ) (front later : List ℕ) (id : ℕ) → Walking objects pairs starts met (front ++ id ∷ []) → Meets objects pairs id met front after later → length later < 9223372036854775808
      → to_do after later < to_do met (front ++ id ∷ [])
  less_to_do met after front later id walking (passed why same pending) small =
      let more = length_push front id in
      let as_many : length after.keys ≡ length met.keys = ap length same in
      let fewer : length later ≡ length front = ap length pending in
      subst (λ n. 9223372036854775808 * (len objects - n) + length later < 9223372036854775808 * (len objects - length met.keys) + length (front ++ id ∷ [])) (sym as_many) (omega (arith, more, fewer))
  less_to_do met after front later id walking (went is_there now one_more ordered pushed all) small =
      let next = walking_goes_on met after front later id walking (went is_there now one_more ordered pushed all) in
      let few = len_met after.keys ordered next.there in
      omega (arith, few, one_more, small)
