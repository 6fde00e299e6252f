-- Objects counted car by car and train by train.
use Rattle.std.proofs.Common.{◌≡◌, ℕ, ◌<◌, ◌+◌, ◌==◌, ◌↔◌, arith, min, cond, nat_le, refl, ap, sym, subst, ◌∙◌, List, [], ◌∷◌, length, map, take, get_or, slice_index, zero, suc, Some, IsSome, IsSomeAnd, IsTrue}
use Rattle.std.specs.List.{sum_by, list_any}
use Rattle.std.proofs.lemmas.List.{get_or-map}
use Rattle.std.proofs.lemmas.List.Folds.{list_any_at}
use Rattle.std.proofs.lemmas.Bool.{eq-eqb}
use Rattle.pm_types.specs.Counts.{greatest_count, capped}
use Rattle.pm_trains.specs.Trains.{Train, cars_at, train_of}
use Rattle.pm_trains.specs.Sound.{Rise}
use Rattle.pm_trains.specs.Changes.{StandsIn}
use Rattle.pm_trains.proofs.Numbers.{cars_there}
use Rattle.pm_view.specs.View.{SpaceView}
use Rattle.pm_view.specs.Counts.{standing_of, old_in}

-- a count and one more thing to count
pub capped_more : (m n sum more : ℕ) → sum ≡ capped m → more ≡ capped n → min (sum + more) greatest_count ≡ capped (m + n)
capped_more m n sum more is more_is = omega (arith, is, more_is)

-- each car of a train that stands is in that train
pub all_housed : (ts : List Train) (train : ℕ) (cars : List ℕ) → cars_at ts train ≡ Some cars → ((car : ℕ) → (train_of ts car ≡ Some train) ↔ StandsIn ts car train)
    → (k : ℕ) → k < length cars → IsSome (train_of ts (get_or cars k 0))
all_housed ts train cars is law k inside =
    let there : StandsIn ts (get_or cars k 0) train =
    subst (λ o. IsSomeAnd o (λ cs. IsTrue (list_any (λ c. c == get_or cars k 0) cs))) (sym is) (list_any_at (λ c. c == get_or cars k 0) cars k 0 inside (eq-eqb _ _ refl)) in
    subst IsSome (sym ((law (get_or cars k 0)).1 there)) refl

-- what was counted in the train at a place
pub counted_there : (ts : List Train) (place number : ℕ) (d : Train) (f : ℕ → ℕ) (n : ℕ) → Rise 0 ts → place < length ts → number ≡ slice_index (map (λ (t : Train). t.number) ts) place
    → IsSomeAnd (cars_at ts number) (λ cars. n ≡ capped (sum_by f cars)) → n ≡ capped (sum_by f (get_or ts place d).cars)
counted_there ts place number d f n rise inside is counted =
    subst (λ o. IsSomeAnd o (λ cars. n ≡ capped (sum_by f cars)))
    (cars_there 0 ts number place d rise (record { inside = inside; named = λ e. sym (is ∙ get_or-map (λ (t : Train). t.number) ts place e 0 inside) })) counted

-- the same where only a train that is numbered up to this one counts
pub counted_if_old : (ts : List Train) (place number youngest : ℕ) (d : Train) (f : ℕ → ℕ) (n : ℕ) → Rise 0 ts → place < length ts → number ≡ slice_index (map (λ (t : Train). t.number) ts) place
    → IsSomeAnd (cars_at ts number) (λ cars. n ≡ capped (cond (nat_le number youngest) (sum_by f cars) 0))
    → n ≡ capped (cond (nat_le (get_or ts place d).number youngest) (sum_by f (get_or ts place d).cars) 0)
counted_if_old ts place number youngest d f n rise inside is counted =
    let named : number ≡ (get_or ts place d).number = is ∙ get_or-map (λ (t : Train). t.number) ts place d 0 inside in
    subst (λ o. IsSomeAnd o (λ cars. n ≡ capped (cond (nat_le number youngest) (sum_by f cars) 0)))
    (cars_there 0 ts number place d rise (record { inside = inside; named = λ e. sym (is ∙ get_or-map (λ (t : Train). t.number) ts place e 0 inside) })) counted
    ∙ ap (λ m. capped (cond (nat_le m youngest) (sum_by f (get_or ts place d).cars) 0)) named

-- the objects of the trains up to a place, and those of the next one
pub old_more : (view : SpaceView) (youngest : ℕ) (ts : List Train) (i : ℕ) (d : Train) → i < length ts
    → old_in view youngest (take (i + 1) ts) ≡ old_in view youngest (take i ts) + cond (nat_le (get_or ts i d).number youngest) (standing_of view (get_or ts i d)) 0
old_more view youngest [] i d inside = absurd (omega arith)
old_more view youngest (t ∷ ts) zero d inside = omega arith
old_more view youngest (t ∷ ts) (suc i) d inside =
    let rest = old_more view youngest ts i d (omega (arith, inside)) in
    let next : suc i + 1 ≡ suc (i + 1) = omega arith in
    ap (λ n. old_in view youngest (take n (t ∷ ts))) next ∙ ap (λ n. cond (nat_le t.number youngest) (standing_of view t) 0 + n) rest ∙ omega arith
