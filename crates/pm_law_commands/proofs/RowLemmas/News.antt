-- What the write barrier makes of queues and of effective sets.
use Rattle.std.proofs.Common.{◌≡◌, ℕ, Bool, true, false, cond, ◌==◌, if◌then◌else◌, ap, refl, sym, ◌∙◌, subst, List, [], ◌∷◌, ◌++◌, length, ◌≤◌, arith, Option, Some, None, is_some}
use Rattle.std.proofs.lemmas.Bool.{cond-false, eqb-true, eq-eqb, true≢false, both_ways}
use Rattle.std.proofs.lemmas.List.{append_assoc, append-nil}
use Rattle.std.specs.Option.{option_map}
use Rattle.std.specs.Ordering.{nat_cmp}
use Rattle.std.specs.Cmp.{nat_cmp_total, eq_by_cmp_equiv}
use Rattle.std.specs.FinMap.{FinMap, get, insert, get-insert, get-remove}
use Rattle.pm_types.proofs.Orders.{sources_total}
use Rattle.pm_types.specs.declared.address.Addr.{Addr}
use Rattle.pm_types.specs.declared.source.RefSource.{RefSource}
use Rattle.pm_types.specs.declared.source.Change.{Change}
use Rattle.pm_view.specs.Sources.{same_source, slot_in}
use Rattle.pm_view.specs.View.{Queues, Sources}
use Rattle.pm_view.specs.Effective.{with_source, applied, effective_in}
use Rattle.pm_view.specs.Barrier.{heard, left, entered, barrier, pushed, told, news}
use Rattle.pm_law_commands.proofs.RowLemmas.SameSource.{source_ties, tied_nat}
use Rattle.pm_law_commands.proofs.RowLemmas.Spreading.{by_slots, hears, heard_change, changed}

news_either : (b : Bool) (c : Change) (xs ys zs : List Change) → xs ≡ ys ++ zs → cond b (c ∷ xs) xs ≡ cond b (c ∷ ys) ys ++ zs
news_either true c xs ys zs is = ap (λ xs. c ∷ xs) is
news_either false c xs ys zs is = is

-- what a car is told of two lists is what it is told of the one and then of the other
pub news-append : (e : ℕ) (cs ds : List (ℕ × Change)) → news e (cs ++ ds) ≡ news e cs ++ news e ds
news-append e [] ds = refl
news-append e (c ∷ cs) ds = news_either (c.0 == e) c.1 _ _ _ (news-append e cs ds)

-- a value of a map of numbers at a key, once another was inserted
pub at_insert : {X : Type 0} (m : FinMap nat_cmp X) (k : ℕ) (v : X) (q : ℕ) → get (insert m k v) q ≡ cond (k == q) (Some v) (get m q)
at_insert m k v q = get-insert nat_cmp_total m k v q ∙ ap (λ b. cond b (Some v) (get m q)) ((eq_by_cmp_equiv nat_cmp_total).symm q k ∙ tied_nat k q)

-- a queue with a further change
abbrev with_last : Change → Option (List Change) → Option (List Change)
with_last c o = option_map (λ q. q ++ c ∷ []) o

none_there : (queues : Queues) (car : ℕ) (c : Change) (e : ℕ) (b : Bool) → (car == e) ≡ b → None ≡ get queues car → get queues e ≡ cond b (with_last c (get queues e)) (get queues e)
none_there queues car c e true is none = let here : get queues e ≡ None = ap (get queues) (sym (eqb-true car e is)) ∙ sym none in here ∙ ap (with_last c) (sym here)
none_there queues car c e false is none = refl

some_there : (queues : Queues) (car : ℕ) (q : List Change) (c : Change) (e : ℕ) (b : Bool) → (car == e) ≡ b → Some q ≡ get queues car
    → cond b (Some (q ++ c ∷ [])) (get queues e) ≡ cond b (with_last c (get queues e)) (get queues e)
some_there queues car q c e true is some = ap (with_last c) (some ∙ ap (get queues) (eqb-true car e is))
some_there queues car q c e false is some = refl

get_pushed : (queues : Queues) (car : ℕ) (o : Option (List Change)) (c : Change) → o ≡ get queues car → (e : ℕ)
    → get (pushed queues car o c) e ≡ cond (car == e) (with_last c (get queues e)) (get queues e)
get_pushed queues car None c is e = none_there queues car c e (car == e) refl is
get_pushed queues car (Some q) c is e = at_insert queues car (q ++ c ∷ []) e ∙ some_there queues car q c e (car == e) refl is

after_push : (b : Bool) (c : Change) (n : List Change) (o : Option (List Change))
    → option_map (λ q. q ++ n) (cond b (with_last c o) o) ≡ option_map (λ q. q ++ cond b (c ∷ n) n) o
after_push true c n None = refl
after_push true c n (Some q) = ap Some (append_assoc q (c ∷ []) n)
after_push false c n o = refl

no_news : (o : Option (List Change)) → o ≡ option_map (λ q. q ++ []) o
no_news None = refl
no_news (Some q) = ap Some (sym (append-nil q))

-- the queue of a car has what the car was told at its end
pub get-told : (queues : Queues) (cs : List (ℕ × Change)) (e : ℕ) → get (told queues cs) e ≡ option_map (λ q. q ++ news e cs) (get queues e)
get-told queues [] e = no_news (get queues e)
get-told queues (c ∷ cs) e =
    get-told (pushed queues c.0 (get queues c.0) c.1) cs e
    ∙ ap (option_map (λ q. q ++ news e cs)) (get_pushed queues c.0 (get queues c.0) c.1 refl e)
    ∙ after_push (c.0 == e) c.1 (news e cs) (get queues e)

-- ---- effective sets

applied-append : (set : Sources) (cs ds : List Change) → applied set (cs ++ ds) ≡ applied (applied set cs) ds
applied-append set [] ds = refl
applied-append set (c ∷ cs) ds = applied-append (with_source set c.source c.slot) cs ds

-- what a set gives once a source was put or taken out
get_with_source : (set : Sources) (x : RefSource) (w : Option ℕ) (y : RefSource) → get (with_source set x w) y ≡ cond (same_source x y) w (get set y)
get_with_source set x None y = get-remove sources_total set x y ∙ ap (λ b. cond b None (get set y)) ((eq_by_cmp_equiv sources_total).symm y x ∙ source_ties x y)
get_with_source set x (Some n) y = get-insert sources_total set x n y ∙ ap (λ b. cond b (Some n) (get set y)) ((eq_by_cmp_equiv sources_total).symm y x ∙ source_ties x y)

-- at most one change of a source, as a list
abbrev pub as_changes : RefSource → Option (Option ℕ) → List Change
as_changes x None = []
as_changes x (Some slot) = record { source = x; slot = slot } ∷ []

cond_same : {A : Type 0} (b : Bool) (x : A) → x ≡ cond b x x
cond_same true x = refl
cond_same false x = refl

one_change : (set : Sources) (x : RefSource) (w : Option (Option ℕ)) (y : RefSource) → get (applied set (as_changes x w)) y ≡ cond (same_source x y) (changed w (get set y)) (get set y)
one_change set x None y = cond_same (same_source x y) (get set y)
one_change set x (Some w) y = get_with_source set x w y

-- what an effective set gives once the car was told a change or none
pub effective-told : (set : Option Sources) (queue : Option (List Change)) (x : RefSource) (w : Option (Option ℕ)) (y : RefSource)
    → is_some set ≡ is_some queue → (is_some queue ≡ false → w ≡ None)
    → effective_in set (option_map (λ q. q ++ as_changes x w) queue) y ≡ cond (same_source x y) (changed w (effective_in set queue y)) (effective_in set queue y)
effective-told None None x w y both none = cond_same (same_source x y) None ∙ ap (λ w. cond (same_source x y) (changed w None) None) (sym (none refl))
effective-told None (Some q) x w y both none = absurd (true≢false (sym both))
effective-told (Some set) None x w y both none = absurd (true≢false both)
effective-told (Some set) (Some q) x w y both none = ap (λ set. get set y) (applied-append set q (as_changes x w)) ∙ one_change (applied set q) x w y

-- ---- the barrier tells a car of one change at most

heard_there : (h b : Bool) (x : RefSource) (slot : Option ℕ) → cond b (as_changes x (cond h (Some slot) None)) [] ≡ as_changes x (cond h (cond b (Some slot) None) None)
heard_there true true x slot = refl
heard_there true false x slot = refl
heard_there false true x slot = refl
heard_there false false x slot = refl

if_heard : (h : Bool) (x : RefSource) (car e : ℕ) (slot : Option ℕ) → news e (if h then (car, record { source = x; slot = slot }) ∷ [] else []) ≡ cond (car == e) (as_changes x (cond h (Some slot) None)) []
if_heard true x car e slot = refl
if_heard false x car e slot = cond_same (car == e) []

same_hearer : (aside : ℕ → Bool) (x : RefSource) (car e : ℕ) (slot : Option ℕ) (b : Bool) → (car == e) ≡ b
    → cond b (as_changes x (cond (hears aside x car) (Some slot) None)) [] ≡ cond b (as_changes x (cond (hears aside x e) (Some slot) None)) []
same_hearer aside x car e slot true is = ap (λ c. as_changes x (cond (hears aside x c) (Some slot) None)) (eqb-true car e is)
same_hearer aside x car e slot false is = refl

news_heard : (aside : ℕ → Bool) (x : RefSource) (car e : ℕ) (slot : Option ℕ)
    → news e (heard aside x car slot) ≡ as_changes x (cond (hears aside x e) (cond (car == e) (Some slot) None) None)
news_heard aside x car e slot = if_heard (hears aside x car) x car e slot ∙ same_hearer aside x car e slot (car == e) refl ∙ heard_there (hears aside x e) (car == e) x slot

-- the cases of two addresses, by whether they lie in one car, and each in this car, and whether the car hears
none_left : (h : Bool) (x : RefSource) → [] ≡ as_changes x (cond h None None)
none_left true x = refl
none_left false x = refl

only_left : (h b : Bool) (x : RefSource) (s : ℕ) → as_changes x (cond h (cond b (Some None) None) None) ≡ as_changes x (cond h (by_slots None (cond b (Some s) None)) None)
only_left true true x s = refl
only_left true false x s = refl
only_left false true x s = refl
only_left false false x s = refl

only_entered : (h b : Bool) (x : RefSource) (n : ℕ) (o : Option ℕ) → (b ≡ false → o ≡ None)
    → as_changes x (cond h (cond b (Some (Some n)) None) None) ≡ as_changes x (cond h (by_slots (cond b (Some n) None) o) None)
only_entered true true x n o none = refl
only_entered true false x n o none = ap (λ o. as_changes x (by_slots None o)) (sym (none refl))
only_entered false true x n o none = refl
only_entered false false x n o none = refl

both_told : (h a b : Bool) (x : RefSource) (s n : ℕ) → (a ≡ true → b ≡ true → ⊥)
    → as_changes x (cond h (cond a (Some None) None) None) ++ as_changes x (cond h (cond b (Some (Some n)) None) None)
    ≡ as_changes x (cond h (by_slots (cond b (Some n) None) (cond a (Some s) None)) None)
both_told true true true x s n apart = absurd (apart refl refl)
both_told true true false x s n apart = refl
both_told true false true x s n apart = refl
both_told true false false x s n apart = refl
both_told false true true x s n apart = refl
both_told false true false x s n apart = refl
both_told false false true x s n apart = refl
both_told false false false x s n apart = refl

two_cars : (aside : ℕ → Bool) (x : RefSource) (old new : Addr) (e : ℕ) (one : Bool) → (old.car == new.car) ≡ one
    → news e (if one then entered aside x (Some new) else left aside x (Some old) ++ entered aside x (Some new)) ≡ as_changes x (heard_change aside x (Some old) (Some new) e)
two_cars aside x old new e true is =
    news_heard aside x new.car e (Some new.slot)
    ∙ only_entered (hears aside x e) (new.car == e) x new.slot (slot_in e (Some old)) (λ no. cond-false _ _ _ (ap (λ c. c == e) (eqb-true old.car new.car is) ∙ no))
two_cars aside x old new e false is =
    news-append e (left aside x (Some old)) (entered aside x (Some new))
    ∙ (λ i. news_heard aside x old.car e None i ++ news_heard aside x new.car e (Some new.slot) i)
    ∙ both_told (hears aside x e) (old.car == e) (new.car == e) x old.slot new.slot
    (λ a b. both_ways (old.car == new.car) is (eq-eqb old.car new.car (eqb-true old.car e a ∙ sym (eqb-true new.car e b))))

-- what one car is told by the barrier
pub news_of_barrier : (aside : ℕ → Bool) (x : RefSource) (old new : Option Addr) (e : ℕ) → news e (barrier aside x old new) ≡ as_changes x (heard_change aside x old new e)
news_of_barrier aside x None None e = none_left (hears aside x e) x
news_of_barrier aside x None (Some new) e = news_heard aside x new.car e (Some new.slot) ∙ only_entered (hears aside x e) (new.car == e) x new.slot None (λ no. refl)
news_of_barrier aside x (Some old) None e =
    news-append e (left aside x (Some old)) [] ∙ append-nil (news e (left aside x (Some old)))
    ∙ news_heard aside x old.car e None ∙ only_left (hears aside x e) (old.car == e) x old.slot
news_of_barrier aside x (Some old) (Some new) e = two_cars aside x old new e (old.car == new.car) refl

at_most_one : (x : RefSource) (w : Option (Option ℕ)) → length (as_changes x w) ≤ 1
at_most_one x None = omega arith
at_most_one x (Some slot) = omega arith

-- so a car is told at most once
pub told_once : (aside : ℕ → Bool) (x : RefSource) (old new : Option Addr) (e : ℕ) → length (news e (barrier aside x old new)) ≤ 1
told_once aside x old new e = subst (λ n. length n ≤ 1) (sym (news_of_barrier aside x old new e)) (at_most_one x (heard_change aside x old new e))
