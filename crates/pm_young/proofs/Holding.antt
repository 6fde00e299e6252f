-- Registers that come to hold objects, one after another.
use Rattle.std.proofs.Common.{◌≡◌, ⊎_elim, ℕ, ◌+◌, ◌<◌, ◌≤◌, Bool, true, false, cond, ◌||◌, if◌then◌else◌, nat_eq, List, [], ◌∷◌, ◌++◌, length, take, get_or, Option, Some, None, refl, sym, ap, subst, ◌∙◌, append_assoc, append-nil}
use Rattle.std.specs.Option.{IsSome}
use Rattle.std.specs.Ordering.{eq_by_cmp}
use Rattle.std.specs.FinMap.{get, insert, get-insert}
use Rattle.std.specs.List.{Contains}
use Rattle.std.proofs.lemmas.List.{take_all}
use Rattle.std.proofs.lemmas.List.Elements.{Contains-append_cases, Contains-append_left, Contains-append_right}
use Rattle.pm_types.specs.Orders.{place_cmp}
use Rattle.pm_types.proofs.Orders.{places_total, places_antisymmetric}
use Rattle.pm_types.specs.declared.address.Addr.{Addr}
use Rattle.pm_types.specs.declared.source.RefSource.TheVariants.{Handle}
use Rattle.pm_model.specs.Heap.{Heap}
use Rattle.pm_model.specs.World.{World, Registers, holding}
use Rattle.pm_model.proofs.Maps.{insert_here, insert_other}
use Rattle.pm_model.proofs.Members.{at_first, first_or_rest, in_none}
use Rattle.pm_view.specs.View.{SpaceView}
use Rattle.pm_view.specs.Counts.{IsStandingAt}
use Rattle.pm_view.specs.Objects.{KeepsObjects}
use Rattle.pm_view.specs.Represents.{Represents}
use Rattle.pm_view.specs.Rows.{spread}
use Rattle.pm_mutate.specs.Young.{HoldsToo}
use Rattle.pm_nursery.specs.Holding.{AreHolders}
use Rattle.pm_nursery.specs.Young.{NurseryView, IsNursery, IsRegister}
use Rattle.pm_nursery.specs.Sweeping.{among, carried}
use Rattle.pm_nursery.proofs.Changed.{among-more}
use Rattle.pm_young.specs.Bringing.{BringsHeld, BringsHolders, ComesHeld, HasAll}
use Rattle.pm_young.specs.Rows.{IsNowHeld, with_holders}
use Rattle.pm_young.proofs.Rows.{holders_more}
use Rattle.pm_young.proofs.Linked.{keeps_itself, keeps_on}
use Rattle.pm_young.proofs.Listed.{among_here, same_id, itself}

-- ---- the registers that name one object

-- The world once these registers hold the object.
pub record HeldBy (world : World) (so_far : List (ℕ × (ℕ × ℕ))) (id : ℕ) (later : World) : Type 0 where
  pub rest : later ≡ record world { registers = later.registers }
  pub held : (place : ℕ × ℕ) → Contains so_far (id, place) → get later.registers place ≡ Some id
  pub others : (place : ℕ × ℕ) → (Contains so_far (id, place) → ⊥) → get later.registers place ≡ get world.registers place

-- What holds once so many of the registers that name the object hold it.
pub record HoldingOne (v u : SpaceView) (id : ℕ) (at : Addr) (whole left : List (ℕ × (ℕ × ℕ))) : Type 0 where
  pub so_far : List (ℕ × (ℕ × ℕ))
  pub parted : so_far ++ left ≡ whole
  pub worlds : (world : World) → Represents v world → IsSome (get world.heap id) → (later : World) × Represents u later × HeldBy world so_far id later
  pub keeps : KeepsObjects v u
  pub row : u ≡ with_holders v at so_far
  pub next : u.next ≡ v.next

pub holding_none : (v : SpaceView) (id : ℕ) (at : Addr) (whole : List (ℕ × (ℕ × ℕ))) → HoldingOne v v id at whole whole
holding_none v id at whole = record {
  so_far = [];
  parted = refl;
  worlds = λ world stands some. (world, stands, record { rest = refl; held = λ place within. absurd (in_none (id, place) within); others = λ place not. refl });
  keeps = keeps_itself v;
  row = refl;
  next = refl;
}

either_way : (b : Bool) (id : ℕ) (old : Option ℕ) → old ≡ Some id → cond b (Some id) old ≡ Some id
either_way true id old is = refl
either_way false id old is = is

module _ (v u w : SpaceView) (id : ℕ) (at : Addr) (whole left : List (ℕ × (ℕ × ℕ))) (holder : ℕ × (ℕ × ℕ)) (same : holder.0 ≡ id) (so_far : HoldingOne v u id at whole (holder ∷ left)) where
  abbrev more : List (ℕ × (ℕ × ℕ))
  more = so_far.so_far ++ holder ∷ []

  holds_more : (world later : World) → HeldBy world so_far.so_far id later → HeldBy world more id (holding later holder.1.0 holder.1.1 id)
  holds_more world later was = record {
    rest = ap (λ (x : World). record x { registers = insert later.registers (holder.1.0, holder.1.1) id }) was.rest;
    held = λ place within.
        ⊎_elim
        (λ before. get-insert places_total later.registers holder.1 id place ∙ either_way (eq_by_cmp place_cmp place holder.1) id (get later.registers place) (was.held place before))
        (λ (now : Contains (holder ∷ []) (id, place)).
        ⊎_elim
        (λ (here : holder ≡ (id, place)). subst (λ (p : ℕ × ℕ). get (insert later.registers holder.1 id) p ≡ Some id) (ap (λ (h : ℕ × (ℕ × ℕ)). h.1) here) (insert_here places_total places_antisymmetric later.registers holder.1 id))
        (λ never. absurd (in_none (id, place) never))
        (first_or_rest holder (id, place) [] now))
        (Contains-append_cases so_far.so_far (holder ∷ []) (id, place) within);
    others = λ place not.
        insert_other places_total places_antisymmetric later.registers holder.1 id place
        (λ (is : place ≡ holder.1). not (subst (Contains more) (λ i. (same i, sym is i)) (Contains-append_right so_far.so_far (holder ∷ []) holder (at_first holder []))))
        ∙ was.others place (λ before. not (Contains-append_left so_far.so_far (holder ∷ []) (id, place) before));
  }

  pub holding_more : IsStandingAt u id at → HoldsToo u holder.1.0 holder.1.1 at w → w ≡ spread u (Handle holder.1.0 holder.1.1) (Some at) → KeepsObjects u w → w.next ≡ u.next → HoldingOne v w id at whole left
  holding_more here holds row keeps next = record {
    so_far = more;
    parted = append_assoc so_far.so_far (holder ∷ []) left ∙ so_far.parted;
    worlds = λ world stands some.
        let was = so_far.worlds world stands some in
        let heap : was.0.heap ≡ world.heap = ap (λ (x : World). x.heap) was.2.rest in
        (holding was.0 holder.1.0 holder.1.1 id, holds was.0 id was.1 here.here (subst (λ (h : Heap). IsSome (get h id)) (sym heap) some), holds_more world was.0 was.2);
    keeps = keeps_on v u w so_far.keeps keeps;
    row = row ∙ ap (λ (x : SpaceView). spread x (Handle holder.1.0 holder.1.1) (Some at)) so_far.row ∙ sym (holders_more v at so_far.so_far holder);
    next = next ∙ so_far.next;
  }

-- the next of those that are left is one of all
pub next_of_all : (v u : SpaceView) (id : ℕ) (at : Addr) (whole left : List (ℕ × (ℕ × ℕ))) (holder : ℕ × (ℕ × ℕ)) → HoldingOne v u id at whole (holder ∷ left) → Contains whole holder
next_of_all v u id at whole left holder so_far = subst (λ (xs : List (ℕ × (ℕ × ℕ))). Contains xs holder) so_far.parted (Contains-append_right so_far.so_far (holder ∷ left) holder (at_first holder left))

-- its register is one of a client
pub is_register : (nursery : NurseryView) → IsNursery nursery → (id : ℕ) (whole : List (ℕ × (ℕ × ℕ))) → AreHolders nursery.registers id whole → (holder : ℕ × (ℕ × ℕ)) → Contains whole holder → (holder.0 ≡ id) × IsRegister holder.1
is_register nursery sound id whole all holder within = let is = all.each holder within in (is.0, sound.places holder.1 id is.1)

-- all of them hold it
pub holding_ends : (v u : SpaceView) (registers : Registers) (id : ℕ) (at : Addr) (whole left : List (ℕ × (ℕ × ℕ))) → left ≡ [] → AreHolders registers id whole → HoldingOne v u id at whole left → BringsHolders v registers id u
holding_ends v u registers id at whole left none all so_far = λ world stands some.
    let later = so_far.worlds world stands some in
    let is_whole : so_far.so_far ≡ whole = sym (append-nil so_far.so_far) ∙ ap (λ (xs : List (ℕ × (ℕ × ℕ))). so_far.so_far ++ xs) (sym none) ∙ so_far.parted in
    let was : HeldBy world whole id later.0 = subst (λ (xs : List (ℕ × (ℕ × ℕ))). HeldBy world xs id later.0) is_whole later.2 in
    (later.0, later.1, record { rest = was.rest; registers = λ place. by world later.0 was place (get registers place) refl })
  where
    by : (world later : World) → HeldBy world whole id later → (place : ℕ × ℕ) (o : Option ℕ) → get registers place ≡ o → get later.registers place ≡ carried (id ∷ []) o (get world.registers place)
    by world later was place None is = was.others place (λ within. let here = (all.each (id, place) within).1 in cc (is, here))
    by world later was place (Some y) is = pick (nat_eq id y) refl
      where
        pick : (b : Bool) → nat_eq id y ≡ b → get later.registers place ≡ (if b || false then Some y else get world.registers place)
        pick true same =
            let one : id ≡ y = same_id id y same in
            was.held place (all.all place (is ∙ ap Some (sym one))) ∙ ap Some one
        pick false other = was.others place (λ within. let here = (all.each (id, place) within).1 in
            let one : y ≡ id = (let two : Some y ≡ Some id = sym is ∙ here in cc two) in
            let never : nat_eq id y ≡ true = subst (λ n. nat_eq id n ≡ true) (sym one) (itself id) in cc (never, other))

-- by their rows
pub holding_row : (v u : SpaceView) (registers : Registers) (id : ℕ) (at : Addr) (whole left : List (ℕ × (ℕ × ℕ))) → left ≡ [] → AreHolders registers id whole → HoldingOne v u id at whole left → IsNowHeld v registers id at u
holding_row v u registers id at whole left none all so_far =
    let is_whole : so_far.so_far ≡ whole = sym (append-nil so_far.so_far) ∙ ap (λ (xs : List (ℕ × (ℕ × ℕ))). so_far.so_far ++ xs) (sym none) ∙ so_far.parted in
    (whole, all, so_far.row ∙ ap (with_holders v at) is_whole)

-- ---- object after object

-- What holds once the registers that name one of so many objects hold it.
pub record HoldingAll (v u : SpaceView) (registers : Registers) (ids : List ℕ) (i : ℕ) : Type 0 where
  pub worlds : (world : World) → Represents v world → HasAll world ids → (later : World) × Represents u later × ComesHeld world registers (take i ids) later
  pub keeps : KeepsObjects v u
  pub next : u.next ≡ v.next

nothing_carried : (n w : Option ℕ) → w ≡ carried [] n w
nothing_carried None w = refl
nothing_carried (Some id) w = refl

pub held_none : (v : SpaceView) (registers : Registers) (ids : List ℕ) → HoldingAll v v registers ids 0
held_none v registers ids = record {
  worlds = λ world stands all. (world, stands, record { rest = refl; registers = λ place. nothing_carried (get registers place) (get world.registers place) });
  keeps = keeps_itself v;
  next = refl;
}

carried_more : (ids : List ℕ) (i : ℕ) → i < length ids → (n w : Option ℕ) → carried (get_or ids i 0 ∷ []) n (carried (take i ids) n w) ≡ carried (take (i + 1) ids) n w
carried_more ids i inside None w = refl
carried_more ids i inside (Some y) w = by (nat_eq (get_or ids i 0) y) (among (take i ids) y) ∙ ap (λ b. if b then Some y else w) (sym (among-more ids i y inside))
  where
    by : (b c : Bool) → (if b || false then Some y else (if c then Some y else w)) ≡ (if c || b then Some y else w)
    by true true = refl
    by true false = refl
    by false true = refl
    by false false = refl

pub held_more : (v u w : SpaceView) (registers : Registers) (ids : List ℕ) (i : ℕ) → i < length ids → BringsHolders u registers (get_or ids i 0) w → KeepsObjects u w → w.next ≡ u.next
    → HoldingAll v u registers ids i → HoldingAll v w registers ids (i + 1)
held_more v u w registers ids i inside holds keeps next so_far = record {
  worlds = λ world stands all.
      let was = so_far.worlds world stands all in
      let heap : was.0.heap ≡ world.heap = ap (λ (x : World). x.heap) was.2.rest in
      let now = holds was.0 was.1 (subst (λ (h : Heap). IsSome (get h (get_or ids i 0))) (sym heap) (all (get_or ids i 0) (among_here ids i inside))) in (
        now.0,
        now.1,
        record {
          rest = now.2.rest ∙ ap (λ (x : World). record x { registers = now.0.registers }) was.2.rest;
          registers = λ place.
              now.2.registers place
              ∙ ap (carried (get_or ids i 0 ∷ []) (get registers place)) (was.2.registers place)
              ∙ carried_more ids i inside (get registers place) (get world.registers place);
        },
      );
  keeps = keeps_on v u w so_far.keeps keeps;
  next = next ∙ so_far.next;
}

pub held_all : (v u : SpaceView) (registers : Registers) (ids : List ℕ) (i : ℕ) → length ids ≤ i → HoldingAll v u registers ids i → BringsHeld v registers ids u
held_all v u registers ids i few so_far = λ world stands all.
    let later = so_far.worlds world stands all in
    (later.0, later.1, subst (λ (xs : List ℕ). ComesHeld world registers xs later.0) (take_all i ids few) later.2)
