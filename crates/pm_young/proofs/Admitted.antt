-- Objects that come into cars one after another, without their fields.
use Rattle.std.proofs.Common.{◌≡◌, ◌⊎◌, ⊎_elim, inl, inr, ℕ, ◌+◌, ◌<◌, ◌≤◌, Bool, true, false, cond, ◌||◌, if◌then◌else◌, nat_eq, List, [], ◌∷◌, ◌++◌, length, take, get_or, Option, Some, None, Result, Ok, Err, OnErr, refl, sym, ap, subst, ◌∙◌, arith, append_assoc, append-nil}
use Rattle.std.specs.Option.{IsSome, option_map}
use Rattle.std.specs.Ordering.{nat_cmp, eq_by_cmp}
use Rattle.std.specs.Cmp.{nat_cmp_total}
use Rattle.std.specs.FinMap.{get, insert, get-insert}
use Rattle.std.specs.List.{slice_get}
use Rattle.std.proofs.lemmas.Bool.Decides.{nat_tests}
use Rattle.std.proofs.lemmas.List.{length_push, take_all, take_more}
use Rattle.std.proofs.lemmas.Option.{get_or_from_slice_get}
use Rattle.pm_types.specs.declared.address.Addr.{Addr}
use Rattle.pm_model.specs.Heap.{Object, Heap}
use Rattle.pm_model.specs.World.{World, changing}
use Rattle.pm_view.specs.View.{SpaceView}
use Rattle.pm_view.specs.Reading.{id_at, is_aside}
use Rattle.pm_view.specs.Sources.{same_address}
use Rattle.pm_view.specs.Counts.{IsStandingAt}
use Rattle.pm_view.specs.Objects.{AddsObject}
use Rattle.pm_view.specs.Represents.{Represents}
use Rattle.pm_law_commands.proofs.RowLemmas.SameSource.{same_address-true}
use Rattle.pm_nursery.specs.Escaping.{IsAscending}
use Rattle.pm_nursery.specs.Sweeping.{among}
use Rattle.pm_nursery.proofs.Changed.{among-more}
use Rattle.pm_nursery.proofs.Parts.{found_of, passes}
use Rattle.pm_young.specs.Entering.{MayComeIn}
use Rattle.pm_young.specs.Bringing.{AddsThese, ArePlaces, BringsBlank, BringsOne, Enters, MayAllComeIn, blank}
use Rattle.pm_young.specs.Rows.{AreBorn, IsBornBlank}
use Rattle.pm_young.proofs.Rows.{born_next}
use Rattle.pm_young.proofs.Listed.{among_next, among_now, among_still, among_here, not_before, pushed_at, same_id}

-- ---- a map in which one identity has another value

pub tied_id : (q k : ℕ) → eq_by_cmp nat_cmp q k ≡ nat_eq k q
tied_id q k = grind (arith, nat_tests)

-- what is at an identity, where one more of the list has its value
pub one_more : (b c : Bool) (value new old : Option Object) → (c ≡ true → value ≡ new) → cond c value (if b then new else old) ≡ (if b || c then new else old)
one_more true true value new old is = is refl
one_more true false value new old is = refl
one_more false true value new old is = is refl
one_more false false value new old is = refl

-- ---- the space

no_object : (o : Option ℕ) (id : ℕ) → o ≡ None → o ≡ Some id → ⊥
no_object o id none is = cc (none, is)

-- every other object stays where it was
pub stays_put : (v w : SpaceView) (id : ℕ) (place : Addr) → AddsObject v w id place → (a : Addr) (q : ℕ) → id_at v a ≡ Some q → id_at w a ≡ Some q
stays_put v w id place adds a q is = by (same_address place a) refl
  where
    by : (b : Bool) → same_address place a ≡ b → id_at w a ≡ Some q
    by true same = absurd (no_object (id_at v a) q (subst (λ (x : Addr). id_at v x ≡ None) (same_address-true place a same) adds.none) is)
    by false other = adds.ids a other ∙ is

-- what is somewhere was there, or has just come in
pub came_or_was : (v w : SpaceView) (id : ℕ) (place : Addr) → AddsObject v w id place → (a : Addr) (q : ℕ) → id_at w a ≡ Some q → (id_at v a ≡ Some q) ⊎ (id ≡ q)
came_or_was v w id place adds a q is = by (same_address place a) refl
  where
    by : (b : Bool) → same_address place a ≡ b → (id_at v a ≡ Some q) ⊎ (id ≡ q)
    by true same = let here : id_at w a ≡ Some id = subst (λ (x : Addr). id_at w x ≡ Some id) (same_address-true place a same) adds.here in inr (cc (here, is))
    by false other = inl (sym (adds.ids a other) ∙ is)

-- nothing has come in
pub adds_none : (v w : SpaceView) → w ≡ v → AddsThese v w []
adds_none v w same = record {
  here = λ id is. absurd (cc is);
  only = λ a id is. inl (subst (λ (u : SpaceView). id_at u a ≡ Some id) same is);
  stays = λ a id is. subst (λ (u : SpaceView). id_at u a ≡ Some id) (sym same) is;
  aside = λ car. ap (λ (u : SpaceView). is_aside u car) same;
  next = ap (λ (u : SpaceView). u.next) same;
}

module _ (v u w : SpaceView) (ids : List ℕ) (i : ℕ) (inside : i < length ids) (place : Addr) (adds : AddsObject u w (get_or ids i 0) place) where
  -- one more has
  pub adds_more : AddsThese v u (take i ids) → w.next ≡ u.next → AddsThese v w (take (i + 1) ids)
  adds_more all next = record {
    here = λ id is.
        ⊎_elim
        (λ before. let at = all.here id before in (at.0, stays_put u w (get_or ids i 0) place adds at.0 id at.1))
        (λ (here : get_or ids i 0 ≡ id). (place, adds.here ∙ ap Some here))
        (among_next ids i id inside is);
    only = λ a id is.
        ⊎_elim
        (λ there. ⊎_elim (λ was. inl was) (λ before. inr (among_still ids i id inside before)) (all.only a id there))
        (λ (here : get_or ids i 0 ≡ id). inr (subst (λ (x : ℕ). among (take (i + 1) ids) x ≡ true) here (among_now ids i inside)))
        (came_or_was u w (get_or ids i 0) place adds a id is);
    stays = λ a id is. stays_put u w (get_or ids i 0) place adds a id (all.stays a id is);
    aside = λ car. adds.aside car ∙ all.aside car;
    next = next ∙ all.next;
  }

  -- and has its place
  pub places_more : (places : List Addr) → length places ≡ i → ArePlaces u ids places → ArePlaces w ids (places ++ place ∷ [])
  places_more places many are at id a here is =
      ⊎_elim
      (λ (was : slice_get places at ≡ Some a).
      let stood = are at id a here was in
      let still : IsStandingAt w id a = record { kept = adds.aside a.car ∙ stood.kept; here = stays_put u w (get_or ids i 0) place adds a id stood.here } in still)
      (λ (last : (at ≡ length places) × (place ≡ a)).
      let same : get_or ids i 0 ≡ id = ap (λ (n : ℕ). get_or ids n 0) (sym (last.0 ∙ many)) ∙ get_or_from_slice_get ids at id 0 here in
      let stands : IsStandingAt w id place = record { kept = adds.free; here = adds.here ∙ ap Some same } in
      subst (IsStandingAt w id) last.1 stands)
      (pushed_at places place a at is)

  -- each world has its object too
  pub brings_more : (objects : Heap) → IsSome (get objects (get_or ids i 0)) → IsAscending ids → BringsBlank v objects (take i ids) u → BringsOne u objects (get_or ids i 0) w
      → BringsBlank v objects (take (i + 1) ids) w
  brings_more objects young up before one = λ world stands none.
      let id = get_or ids i 0 in
      let object = found_of (get objects id) young in
      let was = before world stands (λ q is. none q (among_still ids i q inside is)) in
      let later : World = was.0 in
      let comes = was.2 in
      let vacant : get later.heap id ≡ None = comes.heap id ∙ passes (among (take i ids) id) (option_map blank (get objects id)) (get world.heap id) (not_before ids i up inside) ∙ none id (among_now ids i inside) in
      let new : Option Object = Some (blank object.0) in (
        changing later id (blank object.0),
        one later object.0 was.1 vacant object.1,
        record {
          rest = ap (λ (x : World). record x { heap = insert later.heap id (blank object.0) }) comes.rest;
          heap = λ q.
              get-insert nat_cmp_total later.heap id (blank object.0) q
              ∙ (λ j. cond (tied_id q id j) new (comes.heap q j))
              ∙ one_more (among (take i ids) q) (nat_eq id q) new (option_map blank (get objects q)) (get world.heap q)
              (λ same. sym (ap (λ (x : ℕ). option_map blank (get objects x)) (sym (same_id id q same)) ∙ ap (option_map blank) object.1))
              ∙ ap (λ b. if b then option_map blank (get objects q) else get world.heap q) (sym (among-more ids i q inside));
        },
      )

-- an identity that has not come in may do so still
may_still : (v u : SpaceView) (ids : List ℕ) (i : ℕ) → i < length ids → AddsThese v u (take i ids) → IsAscending ids → MayAllComeIn v ids → MayComeIn u (get_or ids i 0)
may_still v u ids i inside all up may =
    let was = may (get_or ids i 0) (among_here ids i inside) in
    record {
      first = was.first;
      given = subst (λ (n : ℕ). get_or ids i 0 < n) (sym all.next) was.given;
      unused = λ a is. ⊎_elim (λ there. was.unused a there) (λ before. let never = not_before ids i up inside in cc (never, before)) (all.only a (get_or ids i 0) is);
    }

-- ---- one after another

-- What holds once so many of the identities came in.
pub record Admitting (v u : SpaceView) (objects : Heap) (ids before later : List ℕ) (places : List Addr) (i : ℕ) : Type 0 where
  pub worlds : BringsBlank v objects (take i ids) u
  pub many : length places ≡ i
  pub places_are : ArePlaces u ids places
  pub entered : Enters v u before later (take i ids)
  pub rows : AreBorn v objects (take i ids) places u

pub admitting_none : (v u : SpaceView) (objects : Heap) (ids before later : List ℕ) (places : List Addr) → u ≡ v → places ≡ [] → later ≡ before → Admitting v u objects ids before later places 0
admitting_none v u objects ids before later places same none still = record {
  worlds = λ world stands all. (world, subst (λ (x : SpaceView). Represents x world) (sym same) stands, record { rest = refl; heap = λ q. refl });
  many = ap length none;
  places_are = λ at id a here is. absurd (let gone = ap (λ (xs : List Addr). slice_get xs at) none in cc (gone, is));
  entered = record { entered = still ∙ sym (append-nil before); adds = adds_none v u same };
  rows = subst (λ (ps : List Addr). AreBorn v objects [] ps u) (sym none) same;
}

pub admitting_more : (v u w : SpaceView) (objects : Heap) (ids before later more : List ℕ) (places pushed : List Addr) (i : ℕ) → i < length ids → (place : Addr)
    → AddsObject u w (get_or ids i 0) place → w.next ≡ u.next → BringsOne u objects (get_or ids i 0) w → IsBornBlank u (get_or ids i 0) (get objects (get_or ids i 0)) place w → IsSome (get objects (get_or ids i 0)) → IsAscending ids
    → more ≡ later ++ get_or ids i 0 ∷ [] → pushed ≡ places ++ place ∷ []
    → Admitting v u objects ids before later places i → Admitting v w objects ids before more pushed (i + 1)
admitting_more v u w objects ids before later more places pushed i inside place adds next one born young up noted put so_far = record {
  worlds = brings_more v u w ids i inside place adds objects young up so_far.worlds one;
  many = ap length put ∙ length_push places place ∙ ap (λ n. n + 1) so_far.many;
  places_are = subst (ArePlaces w ids) (sym put) (places_more v u w ids i inside place adds places so_far.many so_far.places_are);
  entered = record {
    entered = noted ∙ ap (λ (xs : List ℕ). xs ++ get_or ids i 0 ∷ []) so_far.entered.entered ∙ append_assoc before (take i ids) (get_or ids i 0 ∷ []) ∙ ap (λ (xs : List ℕ). before ++ xs) (sym (take_more ids i 0 inside));
    adds = adds_more v u w ids i inside place adds so_far.entered.adds next;
  };
  rows = born_next v u w objects ids i places pushed place inside put so_far.rows born;
}

pub may_come_next : (v u : SpaceView) (objects : Heap) (ids before later : List ℕ) (places : List Addr) (i : ℕ) → i < length ids → IsAscending ids → MayAllComeIn v ids
    → Admitting v u objects ids before later places i → MayComeIn u (get_or ids i 0)
may_come_next v u objects ids before later places i inside up may so_far = may_still v u ids i inside so_far.entered.adds up may

-- all of them came in
pub admitted_all : (v u : SpaceView) (objects : Heap) (ids before later : List ℕ) (places : List Addr) (i : ℕ) → length ids ≤ i → Admitting v u objects ids before later places i → BringsBlank v objects ids u
admitted_all v u objects ids before later places i few so_far = subst (λ (xs : List ℕ). BringsBlank v objects xs u) (take_all i ids few) so_far.worlds

-- the room that was taken is enough for all
pub room_first : (before now ids : List ℕ) (capacity : ℕ) → now ≡ before → length now + length ids ≤ capacity → length before + length ids ≤ capacity
room_first before now ids capacity same enough = subst (λ (xs : List ℕ). length xs + length ids ≤ capacity) same enough

-- where it was refused, this holds
pub on_err : {A E P : Type 0} (r : Result A E) → P → OnErr r P
on_err (Ok x) it = tt
on_err (Err e) it = it

pub admitted_rows : (v u : SpaceView) (objects : Heap) (ids before later : List ℕ) (places : List Addr) (i : ℕ) → length ids ≤ i → Admitting v u objects ids before later places i → AreBorn v objects ids places u
admitted_rows v u objects ids before later places i few so_far = subst (λ (xs : List ℕ). AreBorn v objects xs places u) (take_all i ids few) so_far.rows
