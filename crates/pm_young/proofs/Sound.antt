-- What an engine with a nursery keeps goes on, whatever comes into its space.
use Rattle.std.proofs.Common.{◌≡◌, ⊎_elim, inl, inr, ℕ, ◌<◌, true, false, nat_eq, List, [], ◌∷◌, ◌++◌, Option, None, option_map, sym, ap, subst, ◌∙◌, arith}
use Rattle.std.specs.Option.{IsSome}
use Rattle.std.specs.FinMap.{get}
use Rattle.std.specs.List.{AllByRecursion, IsDistinct}
use Rattle.std.proofs.Math.Logic.{∥∥₁_elim, ∥∥₁_map}
use Rattle.std.proofs.Props.{props}
use Rattle.std.proofs.lemmas.Bool.{false_from_ne_true}
use Rattle.std.proofs.lemmas.Bool.Decides.{nat_tests}
use Rattle.std.proofs.lemmas.Map.Keys.{IsDistinct-cons, IsDistinct-from_apart, IsDistinct-head, IsDistinct-tail, below_from_sorted}
use Rattle.pm_disk.specs.declared.disk.Disk.{Ghosts}
use Rattle.pm_space.specs.declared.space.Space.{Space}
use Rattle.pm_model.specs.Heap.{Object}
use Rattle.pm_view.specs.View.{Cars, SpaceView}
use Rattle.pm_view.specs.Law.{HeapLaw}
use Rattle.pm_view.specs.Reading.{object_at}
use Rattle.pm_space.specs.Shown.{view}
use Rattle.pm_saving.specs.Tied.{IsTied}
use Rattle.pm_saving.specs.Serving.{numbered_copy, world}
use Rattle.pm_save.specs.Shown.{frozen_of}
use Rattle.pm_engine.specs.declared.works.start.Start.{Start}
use Rattle.pm_engine.specs.declared.works.works.Works.{Works}
use Rattle.pm_engine.specs.Works.Seen.{IsCrashSafe, seen}
use Rattle.pm_engine.specs.Works.Working.{contents_in, frozen_in, saving_in, state_in, view_in}
use Rattle.pm_nursery.specs.Young.{NurseryView, IsNursery, no_nursery}
use Rattle.pm_nursery.specs.Escaping.{IsAscending}
use Rattle.pm_nursery.specs.Sweeping.{among, AreReached, AreYoung}
use Rattle.pm_law_young.proofs.Carrying.{stays, world_swept}
use Rattle.pm_law_young.proofs.Reaches.{nursery_reaches, world_reaches}
use Rattle.pm_young.specs.declared.engine.YoungEngine.{YoungEngine}
use Rattle.pm_young.specs.Calls.{YoungGoesOn}
use Rattle.pm_young.specs.Seen.{entered_in, serving, young_in}
use Rattle.pm_young.specs.Entering.{AreFirstKept, AreKept, IsGivenSince, IsPresent, KeepsEntered, MayComeIn}
use Rattle.pm_young.specs.Bringing.{AreFirstReached, CarriesReached, Enters, MayYoungComeIn, StandsApart}
use Rattle.pm_young.specs.Kept.{StandsYoung}
use Rattle.pm_young.proofs.Carried.{path_young, reached_young}
use Rattle.pm_young.proofs.Linked.{stored_there}
use Rattle.pm_young.proofs.Opened.{no_young, none_young}
use Rattle.pm_young.proofs.Listed.{among_both, among_first, among_second, itself, left_one, right_one, same_id}

-- ---- what a crash leaves does not read the space

module _ {D : Type 0} {F : Type 0} {g : Ghosts D} (start : Start D F g) (stopped : Option ℕ) (works : Works D F g) (space : Space F) (events : ℕ) (same : frozen_of space.parts ≡ frozen_in works) where
  abbrev with_space : Works D F g
  with_space = record works { space = space; events = events }

  moved : IsCrashSafe start stopped works → IsCrashSafe start stopped with_space
  moved safe = record {
    journal = record {
      closed = safe.journal.closed;
      legal = safe.journal.legal;
      saving = safe.journal.saving ∙ ap (λ (frozen : Option Cars). option_map (numbered_copy frozen) (saving_in works).progress) (sym same);
      watching = safe.journal.watching;
      told = safe.journal.told;
    };
    stored = λ none. let stored = safe.stored none in record {
      tied = subst (λ (frozen : Option Cars). IsTied (saving_in works) frozen (state_in works) (contents_in works)) (sym same) stored.tied;
      numbered = stored.numbered;
      has = stored.has;
    };
    images = record { later = safe.images.later; told = safe.images.told; now = safe.images.now; ever = safe.images.ever };
  }

  pub safe_moved : ∥ IsCrashSafe start stopped works ∥₁ → ∥ IsCrashSafe start stopped with_space ∥₁
  safe_moved known = ∥∥₁_map known moved

-- ---- what may come in

may_once : (v : SpaceView) (id : ℕ) → IsProp (MayComeIn v id)
may_once v id = hlevel props

-- a young identity is at no place
may_come : (opened v : SpaceView) (nursery : NurseryView) (entered : List ℕ) → HeapLaw opened → KeepsEntered opened v nursery entered → MayYoungComeIn v nursery
may_come opened v nursery entered law keeps id young =
    let since = keeps.young id young in
    record {
      first = let least = law.built.next.0 in omega (arith, least, since.0);
      given = since.1;
      unused = λ a is.
          ⊎_elim
          (λ (was : IsPresent opened id).
          let object = stored_there (object_at opened.cars was.0) id was.1 in
          let given = (law.built.objects was.0 object.0 object.1).given in
          let below : id < opened.next = subst (λ n. n < opened.next) object.2 given in
          omega (arith, below, since.0))
          (λ there. let none = keeps.apart id there in none_there none young)
          (keeps.present id (a, is));
    }
  where
    none_there : {A : Type 0} {o : Option A} → o ≡ None → IsSome o → ⊥
    none_there none is = let never : IsSome {T = Object} None = subst IsSome none is in cc never

pub may_all_come : (opened v : SpaceView) (nursery : NurseryView) (entered : List ℕ) → HeapLaw opened → ∥ KeepsEntered opened v nursery entered ∥₁ → MayYoungComeIn v nursery
may_all_come opened v nursery entered law known id young = ∥∥₁_elim known (may_once v id) (λ keeps. may_come opened v nursery entered law keeps id young)

module _ {D : Type 0} {F : Type 0} {g : Ghosts D} (start : Start D F g) (works : Works D F g) (nursery : NurseryView) where
  pub stands_apart : ∥ StandsYoung start works nursery ∥₁ → ∥ StandsApart (view_in works) nursery ∥₁
  stands_apart known = ∥∥₁_map known (λ it. record { world = it.within; represents = it.represents; none = it.young.apart })

-- ---- what entered

all_apart : (x : ℕ) (ys : List ℕ) → (among ys x ≡ true → ⊥) → AllByRecursion (λ y. nat_eq x y ≡ false) ys
all_apart x [] none = tt
all_apart x (y ∷ ys) none = (
  false_from_ne_true (nat_eq x y) (λ same. none (left_one (nat_eq y x) (among ys x) (subst (λ z. nat_eq z x ≡ true) (same_id x y same) (itself x)))),
  all_apart x ys (λ there. none (right_one (nat_eq y x) (among ys x) there)),
)

all_both : (P : ℕ → Type 0) (xs ys : List ℕ) → AllByRecursion P xs → AllByRecursion P ys → AllByRecursion P (xs ++ ys)
all_both P [] ys all more = more
all_both P (x ∷ xs) ys all more = (all.0, all_both P xs ys all.1 more)

pub distinct_both : (xs ys : List ℕ) → IsDistinct nat_eq xs → IsDistinct nat_eq ys → ((id : ℕ) → among xs id ≡ true → among ys id ≡ true → ⊥) → IsDistinct nat_eq (xs ++ ys)
distinct_both [] ys one two apart = two
distinct_both (x ∷ xs) ys one two apart =
    IsDistinct-cons nat_eq x (xs ++ ys)
    (all_both (λ y. nat_eq x y ≡ false) xs ys (IsDistinct-head nat_eq x xs one) (all_apart x ys (apart x (left_one (nat_eq x x) (among xs x) (itself x)))))
    (distinct_both xs ys (IsDistinct-tail nat_eq x xs one) two (λ id here. apart id (right_one (nat_eq x id) (among xs id) here)))

pub distinct_ascending : (ids : List ℕ) → IsAscending ids → IsDistinct nat_eq ids
distinct_ascending ids up = IsDistinct-from_apart nat_eq ids (λ i j d less inside. let below = below_from_sorted ids i j d up less inside in grind (arith, nat_tests, below))

-- young identities entered, and nothing is young any more
module _ (opened v w : SpaceView) (nursery : NurseryView) (before later ids : List ℕ) (up : IsAscending ids) (young : AreYoung nursery ids) (enters : Enters v w before later ids) where
  entered_more : KeepsEntered opened v nursery before → KeepsEntered opened w no_nursery later
  entered_more keeps = record {
    present = λ id is.
        ⊎_elim
        (λ was. ⊎_elim (λ there. inl there) (λ old. inr (put id (among_first before ids id old))) (keeps.present id (is.0, was)))
        (λ new. inr (put id (among_second before ids id new)))
        (enters.adds.only is.0 id is.1);
    once = subst (IsDistinct nat_eq) (sym enters.entered)
        (distinct_both before ids keeps.once (distinct_ascending ids up) (λ id old new. let none = keeps.apart id old in let is = young id new in let never : IsSome {T = Object} None = subst IsSome none is in cc never));
    apart = λ id is. no_young id;
    given = λ id is. given id (⊎_elim (λ old. keeps.given id old) (λ new. keeps.young id (young id new)) (among_both before ids id (subst (λ (xs : List ℕ). among xs id ≡ true) enters.entered is)));
    young = λ id is. absurd (none_young id is);
  }
    where
      put : (id : ℕ) → among (before ++ ids) id ≡ true → among later id ≡ true
      put id is = subst (λ (xs : List ℕ). among xs id ≡ true) (sym enters.entered) is

      given : (id : ℕ) → IsGivenSince opened v id → IsGivenSince opened w id
      given id since = (since.0, subst (λ (n : ℕ). id < n) (sym enters.adds.next) since.1)

  pub keeps_more : ∥ KeepsEntered opened v nursery before ∥₁ → ∥ KeepsEntered opened w no_nursery later ∥₁
  keeps_more known = ∥∥₁_map known entered_more

-- ---- sweeps

module _ {D : Type 0} {F : Type 0} {g : Ghosts D} (start : Start D F g) (works : Works D F g) (space : Space F) (events : ℕ) (nursery : NurseryView) (sound : IsNursery nursery) where
  -- all that is reached came in, and nothing is young
  pub within_swept : (before later : List ℕ) → CarriesReached (view_in works) nursery before (view space.parts) later → ∥ StandsYoung start works nursery ∥₁
      → ∥ StandsYoung start (record works { space = space; events = events }) no_nursery ∥₁
  within_swept before later carries known = ∥∥₁_map known (λ it.
      let young = reached_young nursery carries.ids carries.reached sound in
      let came = carries.brings it.within it.represents (λ id inside. it.young.apart id (young id inside)) in
      let w = world (seen start None works) in
      record {
        within = came.0;
        represents = came.1;
        young = world_swept it.within w came.0 nursery carries.ids it.young sound carries.reached came.2;
        opened = λ id there. stays it.within w came.0 nursery carries.ids it.young young came.2 id (it.opened id there);
      })

  -- what came in is what the world reaches
  pub are_kept : (ids : List ℕ) → IsAscending ids → AreReached nursery ids → ∥ StandsYoung start works nursery ∥₁ → ∥ AreKept (world (seen start None works)) nursery ids ∥₁
  are_kept ids up reached known = ∥∥₁_map known (λ it.
      let w = world (seen start None works) in
      record {
        ascending = up;
        each = λ id inside. (reached_young nursery ids reached sound id inside, world_reaches it.within w nursery it.young id (reached.each id inside));
        all = λ id kept. reached.all id (nursery_reaches it.within w nursery it.young sound id kept.0 kept.1);
      })

  -- or the first of that
  pub are_first_kept : (ids : List ℕ) → AreFirstReached nursery ids → ∥ StandsYoung start works nursery ∥₁ → ∥ AreFirstKept (world (seen start None works)) nursery ids ∥₁
  are_first_kept ids first known = ∥∥₁_map known (λ it.
      let w = world (seen start None works) in
      record {
        ascending = first.ascending;
        each = λ id inside. (path_young nursery sound id (first.each id inside), world_reaches it.within w nursery it.young id (first.each id inside));
        before = λ id other there less kept. first.before id other there less (nursery_reaches it.within w nursery it.young sound id kept.0 kept.1);
      })

-- ---- calls that go on

module _ {D : Type 0} {F : Type 0} {g : Ghosts D} where
  -- young identities entered, and nothing is young any more
  pub goes_entering : (old new : YoungEngine D F g) (ids : List ℕ) → (serving new).opened ≡ (serving old).opened → Enters (serving old).view (serving new).view (entered_in old) (entered_in new) ids
      → AreYoung (young_in old) ids → young_in new ≡ no_nursery → YoungGoesOn old new
  goes_entering old new ids opened enters young none = record {
    opened = opened;
    more = ids;
    entered = enters.entered;
    late = λ id is. inl (young id is);
    young = λ id is. absurd (none_young id (subst (λ (n : NurseryView). IsSome (get n.objects id)) none is));
    next = let same = enters.adds.next in omega (arith, same);
  }
