-- Lists that are gone through from their ends.
use Rattle.std.proofs.Common.{◌≡◌, ℕ, zero, suc, ◌+◌, ◌-◌, ◌<◌, ◌≤◌, List, [], ◌∷◌, ◌++◌, length, map, take, drop, get_or, refl, sym, ap, ◌∙◌, arith, append_assoc}
use Rattle.std.proofs.Math.ListN.{set}
use Rattle.std.proofs.lemmas.Grind.{take-set_at}
use Rattle.std.proofs.lemmas.List.{drop-set-lt, drop_more}
use Rattle.std.specs.List.{AllByRecursion}

-- the elements from one on are that one and those behind it
pub drop_here : {X : Type 0} (xs : List X) (i : ℕ) (x : X) → i < length xs → x ≡ get_or xs i x → drop i xs ≡ x ∷ drop (i + 1) xs
drop_here {X} xs i x inside is = drop_more xs i x inside ∙ ap (λ (y : X). y ∷ drop (i + 1) xs) (sym is)

-- what holds of each of two lists holds of each of the second
pub second_all : {X : Type 0} (P : X → Type 0) (xs ys : List X) → AllByRecursion P (xs ++ ys) → AllByRecursion P ys
second_all P [] ys all = all
second_all P (x ∷ xs) ys all = second_all P xs ys all.1

-- the elements from the one before on are that one and the others
pub drop_back : {X : Type 0} (xs : List X) (left : ℕ) (x : X) → 0 < left → left ≤ length xs → x ≡ get_or xs (left - 1) x → drop (left - 1) xs ≡ x ∷ drop left xs
drop_back xs left x some inside is =
    let back : left - 1 + 1 ≡ left = omega arith in
    drop_here xs (left - 1) x (omega arith) is ∙ ap (λ (k : ℕ). x ∷ drop k xs) back

pub map_dropped : {X Y : Type 0} (f : X → Y) (xs : List X) (i : ℕ) → map f (drop i xs) ≡ drop i (map f xs)
map_dropped f [] zero = refl
map_dropped f [] (suc i) = refl
map_dropped f (x ∷ xs) zero = refl
map_dropped f (x ∷ xs) (suc i) = map_dropped f xs i

pub map_both : {X Y : Type 0} (f : X → Y) (xs ys : List X) → map f (xs ++ ys) ≡ map f xs ++ map f ys
map_both f [] ys = refl
map_both f (x ∷ xs) ys = ap (λ rest. f x ∷ rest) (map_both f xs ys)

-- the last one of a front was taken
pub last_taken : {X Y : Type 0} (f : X → Y) (all done : List Y) (left front : List X) (x : X) → all ≡ map f left ++ done → left ≡ front ++ x ∷ [] → all ≡ map f front ++ f x ∷ done
last_taken f all done left front x is last =
    is ∙ ap (λ xs. map f xs ++ done) last ∙ ap (λ ys. ys ++ done) (map_both f front (x ∷ [])) ∙ append_assoc (map f front) (f x ∷ []) done

-- a list of no element is empty
pub none_long : {X : Type 0} (xs : List X) → length xs ≡ 0 → xs ≡ []
none_long [] none = refl
none_long (x ∷ xs) none = absurd (omega (arith, none))

-- the first of those that are still to come was put in its place
pub put_next : {X : Type 0} (f : X → X) (xs : List X) (i : ℕ) (x y : X) → i < length xs → x ≡ get_or xs i x → y ≡ f x
    → take (i + 1) (set xs i y) ++ map f (drop (i + 1) (set xs i y)) ≡ take i xs ++ map f (drop i xs)
put_next f xs i x y inside is put =
    ap (λ done. done ++ map f (drop (i + 1) (set xs i y))) (take-set_at xs i (i + 1) y refl inside)
    ∙ append_assoc (take i xs) (y ∷ []) (map f (drop (i + 1) (set xs i y)))
    ∙ (λ k. take i xs ++ put k ∷ map f (drop-set-lt (i + 1) xs i y (omega arith) k))
    ∙ ap (λ left. take i xs ++ map f left) (sym (drop_here xs i x inside is))
