-- What is seen of links where those of one car were written.
use Rattle.std.proofs.Common.{◌≡◌, ℕ, ◌≤◌, ◌+◌, ◌==◌, arith, Bool, true, false, cond, refl, ap, sym, subst, ◌∙◌, [], ◌∷◌, ◌++◌, Option, Some, None, Result, Ok, Err, OnOk, ⊎_elim}
use Rattle.std.specs.Ordering.{nat_cmp, eq_by_cmp}
use Rattle.std.specs.Cmp.{nat_cmp_total}
use Rattle.std.specs.Option.{option_map}
use Rattle.std.specs.FinMap.{FinMap, get, insert, remove, get-remove, same_map, nat_cmp-IsAntisymmetric}
use Rattle.std.proofs.lemmas.Bool.Decides.{nat_tests}
use Rattle.std.proofs.lemmas.Bool.{cases_Bool, cond-true, cond-false, eqb-true, eq-eqb}
use Rattle.pm_types.specs.Mapped.{mapped}
use Rattle.pm_types.proofs.Mapped.{get-mapped, mapped-insert}
use Rattle.pm_types.specs.declared.source.Change.{Change}
use Rattle.pm_law_commands.proofs.RowLemmas.News.{at_insert}
use Rattle.pm_view.specs.Barrier.{pushed}
use Rattle.pm_space.specs.declared.links.Links.{Links}
use Rattle.pm_space.specs.Linked.{Linked, set_of, queue_of, sets_of, queues_of, HasRoomOf, HasRoom}

-- a test whose first answer is the one that stands where it holds
chosen_anyway : {X : Type 0} (b : Bool) (x y : X) → (b ≡ true → x ≡ y) → cond b x y ≡ y
chosen_anyway true x y same = same refl
chosen_anyway false x y same = refl

-- a key that is given the value that it has
pub insert_again : {X : Type 0} (m : FinMap nat_cmp X) (k : ℕ) (v : X) → get m k ≡ Some v → insert m k v ≡ m
insert_again m k v is =
    same_map nat_cmp_total nat_cmp-IsAntisymmetric _ _ (λ q.
    at_insert m k v q ∙ chosen_anyway (k == q) (Some v) (get m q) (λ here. sym is ∙ ap (get m) (eqb-true k q here)))

twice : {X : Type 0} (b : Bool) (v w : X) (o : Option X) → cond b (Some w) (cond b (Some v) o) ≡ cond b (Some w) o
twice true v w o = refl
twice false v w o = refl

-- a key that is given a value, and then another
pub insert_twice : {X : Type 0} (m : FinMap nat_cmp X) (k : ℕ) (v w : X) → insert (insert m k v) k w ≡ insert m k w
insert_twice m k v w =
    same_map nat_cmp_total nat_cmp-IsAntisymmetric _ _ (λ q.
    at_insert (insert m k v) k w q ∙ ap (cond (k == q) (Some w)) (at_insert m k v q) ∙ twice (k == q) v w (get m q) ∙ sym (at_insert m k w q))

-- what one car has that is there
abbrev pub at_car : {X : Type 0} (f : Links → X) (v : Linked) (car : ℕ) (it : Links) → get v car ≡ Some it → get (mapped f v) car ≡ Some (f it)
at_car f v car it found = get-mapped nat_cmp f v car ∙ ap (option_map f) found

-- what one car has that is not there
pub not_at_car : {X : Type 0} (f : Links → X) (v : Linked) (car : ℕ) → get v car ≡ None → get (mapped f v) car ≡ None
not_at_car f v car none = get-mapped nat_cmp f v car ∙ ap (option_map f) none

module _ (v : Linked) (car : ℕ) (it w : Links) (found : get v car ≡ Some it) where
  same_part : {X : Type 0} (f : Links → X) → f w ≡ f it → mapped f (insert v car w) ≡ mapped f v
  same_part f same =
      mapped-insert nat_cmp f nat_cmp_total nat_cmp-IsAntisymmetric v car w
      ∙ ap (insert (mapped f v) car) same
      ∙ insert_again (mapped f v) car (f it) (at_car f v car it found)

  pub sets_kept : w.set ≡ it.set → sets_of (insert v car w) ≡ sets_of v
  sets_kept same = same_part set_of same

  pub queues_kept : w.queue.changes ≡ it.queue.changes → queues_of (insert v car w) ≡ queues_of v
  queues_kept same = same_part queue_of same

  pub queues_pushed : (change : Change) → w.queue.changes ≡ it.queue.changes ++ change ∷ [] → queues_of (insert v car w) ≡ pushed (queues_of v) car (get (queues_of v) car) change
  queues_pushed change is =
      mapped-insert nat_cmp queue_of nat_cmp_total nat_cmp-IsAntisymmetric v car w
      ∙ ap (insert (queues_of v) car) is
      ∙ sym (ap (λ o. pushed (queues_of v) car o change) (at_car queue_of v car it found))

  -- room in the queue of a car that was written, and in that of another
  pub room_at : (other more : ℕ) → (car ≡ other → HasRoomOf (Some w) more) → ((car == other) ≡ false → HasRoom v other more) → HasRoom (insert v car w) other more
  room_at other more here apart =
      ⊎_elim
      (λ (same : (car == other) ≡ true). subst (λ o. HasRoomOf o more) (sym (at_insert v car w other ∙ cond-true _ _ _ same)) (here (eqb-true car other same)))
      (λ (differs : (car == other) ≡ false). subst (λ o. HasRoomOf o more) (sym (at_insert v car w other ∙ cond-false _ _ _ differs)) (apart differs))
      (cases_Bool (car == other))

  pub room_there : (count : ℕ) → count ≤ w.queue.spare → HasRoom (insert v car w) car count
  room_there count fits = room_at car count (λ same. fits) (λ differs. absurd (let same = eq-eqb car car refl in cc))

  pub had_room : (other more : ℕ) → car ≡ other → HasRoom v other more → more ≤ it.queue.spare
  had_room other more same room = subst (λ o. HasRoomOf o more) (ap (get v) (sym same) ∙ found) room

  pub room_kept : it.queue.spare ≤ w.queue.spare → (other more : ℕ) → HasRoom v other more → HasRoom (insert v car w) other more
  room_kept rises other more room = room_at other more (λ same. let had = had_room other more same room in omega (arith, had, rises)) (λ differs. room)

  pub room_used : w.queue.spare + 1 ≡ it.queue.spare → (other more : ℕ) → HasRoom v other (more + cond (car == other) 1 0) → HasRoom (insert v car w) other more
  room_used less other more room =
      room_at other more
      (λ same.
      let had = had_room other (more + cond (car == other) 1 0) same room in
      let one : ◌≡◌ {A = ℕ} (cond (car == other) 1 0) 1 = cond-true _ _ _ (eq-eqb car other same) in
      omega (arith, had, less, one))
      (λ differs. subst (HasRoom v other) (ap (λ n. more + n) (cond-false (car == other) 1 0 differs) ∙ omega arith) room)

-- what follows from what holds where a call ended well
pub on_ok : {A E P Q : Type 0} (r : Result A E) → (P → Q) → OnOk r P → OnOk r Q
on_ok (Ok x) f p = f p
on_ok (Err e) f p = tt

-- what is seen of links that were added
pub part_added : {X : Type 0} (f : Links → X) (v : Linked) (car : ℕ) (w : Links) (x : X) → f w ≡ x → mapped f (insert v car w) ≡ insert (mapped f v) car x
part_added f v car w x is = mapped-insert nat_cmp f nat_cmp_total nat_cmp-IsAntisymmetric v car w ∙ ap (insert (mapped f v) car) is

-- room in the queue of links that were added
pub room_added : (v : Linked) (car : ℕ) (w : Links) (count : ℕ) → count ≤ w.queue.spare → HasRoom (insert v car w) car count
room_added v car w count fits = subst (λ o. HasRoomOf o count) (sym (at_insert v car w car ∙ cond-true _ _ _ (eq-eqb car car refl))) fits

gone_again : {X : Type 0} (b : Bool) (w : X) (o : Option X) → (b ≡ true → o ≡ None) → cond b None (cond b (Some w) o) ≡ o
gone_again true w o none = sym (none refl)
gone_again false w o none = refl

tied : (q k : ℕ) → eq_by_cmp nat_cmp q k ≡ (k == q)
tied q k = grind (arith, nat_tests)

pub at_remove : {X : Type 0} (m : FinMap nat_cmp X) (k q : ℕ) → get (remove m k) q ≡ cond (k == q) None (get m q)
at_remove m k q = get-remove nat_cmp_total m k q ∙ ap (λ b. cond b None (get m q)) (tied q k)

-- what was inserted under a key that was not used, and removed again
pub insert_undone : {X : Type 0} (m : FinMap nat_cmp X) (k : ℕ) (w : X) → get m k ≡ None → remove (insert m k w) k ≡ m
insert_undone m k w none =
    same_map nat_cmp_total nat_cmp-IsAntisymmetric _ _ (λ q.
    at_remove (insert m k w) k q
    ∙ ap (cond (k == q) None) (at_insert m k w q)
    ∙ gone_again (k == q) w (get m q) (λ here. ap (get m) (sym (eqb-true k q here)) ∙ none))
