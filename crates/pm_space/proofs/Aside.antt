-- Whether a car is set aside, and whether it hears of a source.
use Rattle.std.proofs.Common.{◌≡◌, ℕ, ◌==◌, ◌&&◌, ◌↔◌, Bool, true, false, if◌then◌else◌, refl, ap, sym, subst, ◌∙◌, List, [], ◌∷◌, Option, Some, None, IsSome, IsSomeAnd, IsTrue, is_some, ⊎_elim}
use Rattle.std.specs.Option.{option_map, unwrap_or}
use Rattle.std.specs.Ordering.{nat_cmp}
use Rattle.std.specs.FinMap.{get}
use Rattle.std.proofs.lemmas.Bool.{cases_Bool, eqb-true, eq-eqb}
use Rattle.pm_types.specs.declared.source.Change.{Change}
use Rattle.pm_trains.specs.Trains.{Train, cars_at, train_of, is_among}
use Rattle.pm_trains.specs.Changes.{StandsIn}
use Rattle.pm_view.specs.View.{Queues}
use Rattle.pm_view.specs.Barrier.{pushed, told}
use Rattle.pm_view.specs.Reading.{cars_of}
use Rattle.pm_space.specs.declared.links.Links.{Links}
use Rattle.pm_space.specs.Linked.{Linked, set_of, queue_of, sets_of, queues_of, AreHoused}
use Rattle.pm_types.proofs.Mapped.{get-mapped}

among_there : (car : ℕ) (o : Option (List ℕ)) → IsSomeAnd o (λ cars. IsTrue (is_among car cars)) → is_among car (unwrap_or o []) ≡ true
among_there car None there = absurd there
among_there car (Some cars) there = there

there_among : (car : ℕ) (o : Option (List ℕ)) → is_among car (unwrap_or o []) ≡ true → IsSomeAnd o (λ cars. IsTrue (is_among car cars))
there_among car None is = absurd cc
there_among car (Some cars) is = is

-- a car that is found in a train is one of the cars of that train, and of no other
pub found_among : (ts : List Train) (car n m : ℕ) → train_of ts car ≡ Some n → ((k : ℕ) → (train_of ts car ≡ Some k) ↔ StandsIn ts car k) → (n == m) ≡ is_among car (cars_of ts m)
found_among ts car n m is law =
    ⊎_elim
    (λ (among : is_among car (cars_of ts m) ≡ true).
    let same = sym is ∙ (law m).1 (there_among car (cars_at ts m) among) in
    let equal : n ≡ m = cc in
    eq-eqb n m equal ∙ sym among)
    (λ (apart : is_among car (cars_of ts m) ≡ false).
    ⊎_elim
    (λ (equal : (n == m) ≡ true).
    let there = among_there car (cars_at ts m) ((law m).0 (is ∙ ap Some (eqb-true n m equal))) in
    absurd cc)
    (λ (differs : (n == m) ≡ false). differs ∙ sym apart)
    (cases_Bool (n == m)))
    (cases_Bool (is_among car (cars_of ts m)))

-- a car that has links has a remembered set
set_there : (links : Linked) (car : ℕ) → is_some (get links car) ≡ true → IsSome (get (sets_of links) car)
set_there links car there = subst IsSome (sym (get-mapped nat_cmp set_of links car)) (mapped_there (get links car) there)
  where
    mapped_there : (o : Option Links) → is_some o ≡ true → IsSome (option_map set_of o)
    mapped_there None is = absurd cc
    mapped_there (Some it) is = refl

-- a car that has links is in a train
pub housed : (links : Linked) (ts : List Train) (car : ℕ) → AreHoused (sets_of links) ts → is_some (get links car) ≡ true → IsSome (train_of ts car)
housed links ts car all there = all car (set_there links car there)

unheard : (q : Queues) (o : Option (List Change)) (car : ℕ) (a b : Bool) (change : Change) → (a ≡ false → o ≡ None) → (a && b) ≡ false → get q car ≡ o
    → q ≡ told q (if b then (car, change) ∷ [] else [])
unheard q o car true true change none is same = absurd cc
unheard q o car true false change none is same = refl
unheard q o car false true change none is same = sym (ap (λ o. pushed q car o change) (same ∙ none refl))
unheard q o car false false change none is same = refl

not_there : (o : Option Links) → is_some o ≡ false → option_map queue_of o ≡ None
not_there None is = refl
not_there (Some it) is = absurd cc

-- a car that does not hear, or is not there, is told nothing
pub told_unheard : (links : Linked) (car : ℕ) (b : Bool) (change : Change) → (is_some (get links car) && b) ≡ false → queues_of links ≡ told (queues_of links) (if b then (car, change) ∷ [] else [])
told_unheard links car b change is =
    unheard (queues_of links) (option_map queue_of (get links car)) car (is_some (get links car)) b change (not_there (get links car)) is (get-mapped nat_cmp queue_of links car)
