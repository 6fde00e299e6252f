-- Sums over the cars of a train, and what the cars are told.
use Rattle.std.proofs.Common.{◌≡◌, ℕ, ◌+◌, ◌≤◌, ◌==◌, Bool, true, false, cond, refl, ap, sym, subst, ◌∙◌, List, [], ◌∷◌, ◌++◌, length, Option, Some, None, arith}
use Rattle.std.specs.Option.{unwrap_or, option_map}
use Rattle.std.specs.List.{sum_by, count_by}
use Rattle.std.specs.FinMap.{get}
use Rattle.std.proofs.lemmas.List.{length-append}
use Rattle.std.proofs.lemmas.List.Sums.{sum_by-cons}
use Rattle.pm_types.specs.declared.source.Change.{Change}
use Rattle.pm_trains.specs.Trains.{Train, cars_at}
use Rattle.pm_trains.specs.Sound as line
use Rattle.pm_trains.proofs.Cars.{places_cons}
use Rattle.pm_view.specs.View.{Queues}
use Rattle.pm_view.specs.Reading.{cars_of}
use Rattle.pm_view.specs.Barrier.{told, news}
use Rattle.pm_law_commands.proofs.RowLemmas.News.{get-told}
use Rattle.pm_law_collect.proofs.PhasesLemmas.Small.{turned}

pub sum_both : (f g h : ℕ → ℕ) (xs : List ℕ) → ((x : ℕ) → f x ≤ g x + h x) → sum_by f xs ≤ sum_by g xs + sum_by h xs
sum_both f g h [] le = omega arith
sum_both f g h (x ∷ xs) le =
    let one = sum_by-cons f x xs in
    let two = sum_by-cons g x xs in
    let three = sum_by-cons h x xs in
    let here = le x in
    let rest = sum_both f g h xs le in
    omega (arith, one, two, three, here, rest)

-- how many changes of a list a car is told
abbrev pub heard_by : List (ℕ × Change) → ℕ → ℕ
heard_by cs e = length (news e cs)

pub few_news : (cs : List (ℕ × Change)) (e : ℕ) → heard_by cs e ≤ length cs
few_news [] e = omega arith
few_news (c ∷ cs) e = by_case (c.0 == e) (few_news cs e)
  where
    by_case : (b : Bool) → length (news e cs) ≤ length cs → length (cond b (c.1 ∷ news e cs) (news e cs)) ≤ length (c ∷ cs)
    by_case true rest = omega (arith, rest)
    by_case false rest = omega (arith, rest)

one_more : (c : ℕ × Change) (cs : List (ℕ × Change)) (xs : List ℕ) → sum_by (heard_by (c ∷ cs)) xs ≡ count_by (λ d. d == c.0) xs + sum_by (heard_by cs) xs
one_more c cs [] = omega arith
one_more c cs (x ∷ xs) =
    let one = sum_by-cons (heard_by (c ∷ cs)) x xs in
    let two = sum_by-cons (heard_by cs) x xs in
    let three = sum_by-cons (λ d. cond (d == c.0) 1 0) x xs in
    let rest = one_more c cs xs in
    let here : heard_by (c ∷ cs) x ≡ cond (x == c.0) 1 0 + heard_by cs x = ap (λ b. length (cond b (c.1 ∷ news x cs) (news x cs))) (turned c.0 x) ∙ by_case (x == c.0) in
    omega (arith, one, two, three, rest, here)
  where
    by_case : (b : Bool) → length (cond b (c.1 ∷ news x cs) (news x cs)) ≡ cond b 1 0 + heard_by cs x
    by_case true = omega arith
    by_case false = omega arith

no_news : (xs : List ℕ) → sum_by (heard_by []) xs ≡ 0
no_news [] = refl
no_news (x ∷ xs) = let one = sum_by-cons (heard_by []) x xs in let rest = no_news xs in omega (arith, one, rest)

-- cars of which none is listed twice are told no more than was told
pub told_once : (cs : List (ℕ × Change)) (xs : List ℕ) → ((q : ℕ) → count_by (λ d. d == q) xs ≤ 1) → sum_by (heard_by cs) xs ≤ length cs
told_once [] xs once = let none = no_news xs in omega (arith, none)
told_once (c ∷ cs) xs once = let more = one_more c cs xs in let rest = told_once cs xs once in let here = once c.0 in omega (arith, more, rest, here)

-- no car is listed twice in a train where none is in all
pub own_places : (q n : ℕ) (ts : List Train) → count_by (λ d. d == q) (cars_of ts n) ≤ line.places q ts
own_places q n [] = omega arith
own_places q n (t ∷ ts) = by_case (t.number == n) (own_places q n ts)
  where
    by_case : (b : Bool) → count_by (λ d. d == q) (cars_of ts n) ≤ line.places q ts → count_by (λ d. d == q) (unwrap_or (cond b (Some t.cars) (cars_at ts n)) []) ≤ line.places q (t ∷ ts)
    by_case true rest = let both = places_cons q t ts in omega (arith, both)
    by_case false rest = let both = places_cons q t ts in omega (arith, both, rest)

-- a queue is longer by what its car was told
pub queue_told : (queues : Queues) (cs : List (ℕ × Change)) (e : ℕ) → length (unwrap_or (get (told queues cs) e) []) ≤ length (unwrap_or (get queues e) []) + heard_by cs e
queue_told queues cs e = subst (λ o. length (unwrap_or o []) ≤ length (unwrap_or (get queues e) []) + heard_by cs e) (sym (get-told queues cs e)) (by_queue (get queues e))
  where
    by_queue : (o : Option (List Change)) → length (unwrap_or (option_map (λ q. q ++ news e cs) o) []) ≤ length (unwrap_or o []) + heard_by cs e
    by_queue None = omega arith
    by_queue (Some q) = let sum = length-append q (news e cs) in omega (arith, sum)
