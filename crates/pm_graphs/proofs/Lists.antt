-- Elements of lists.
use Rattle.std.proofs.Common.{◌≡◌, ℕ, zero, suc, ◌+◌, ◌<◌, List, [], ◌∷◌, ◌++◌, length, drop, get_or, sym, subst, ◌∙◌, arith}
use Rattle.std.proofs.Math.Seq.{drop-cons}
use Rattle.std.specs.Prelude.{Option, None, Some, IfSome}
use Rattle.std.specs.List.{AllByRecursion}
use Rattle.pm_image.specs.declared.settled.KeptPage.{KeptPage}
use Rattle.pm_graphs.specs.Reading.{car_list}

-- the elements from one on are that one and those behind it
pub drop_here : {A : Type 0} (xs : List A) (i : ℕ) (x : A) → i < length xs → x ≡ get_or xs i x → drop i xs ≡ x ∷ drop (i + 1) xs
drop_here xs i x lt is =
    let next : suc i ≡ i + 1 = omega arith in
    drop-cons xs i x lt ∙ (λ k. sym is k ∷ drop (next k) xs)

-- the same of an element that is copied
pub drop_got : {A : Type 0} (xs : List A) (i : ℕ) (d : A) → i < length xs → drop i xs ≡ get_or xs i d ∷ drop (i + 1) xs
drop_got xs i d lt =
    let next : suc i ≡ i + 1 = omega arith in
    drop-cons xs i d lt ∙ (λ k. get_or xs i d ∷ drop (next k) xs)

all_drop : {A : Type 0} (P : A → Type 0) (xs : List A) (i : ℕ) → AllByRecursion P xs → AllByRecursion P (drop i xs)
all_drop P [] zero all = tt
all_drop P [] (suc i) all = tt
all_drop P (x ∷ xs) zero all = all
all_drop P (x ∷ xs) (suc i) all = all_drop P xs i all.1

-- what holds of each holds of one
pub all_at : {A : Type 0} (P : A → Type 0) (xs : List A) (i : ℕ) (x : A) → i < length xs → x ≡ get_or xs i x → AllByRecursion P xs → P x
all_at P xs i x lt is all = (subst (λ (ys : List _). AllByRecursion P ys) (drop_here xs i x lt is) (all_drop P xs i all)).0

pub all_both : {A : Type 0} (P : A → Type 0) (xs ys : List A) → AllByRecursion P xs → AllByRecursion P ys → AllByRecursion P (xs ++ ys)
all_both P [] ys one two = two
all_both P (x ∷ xs) ys one two = (one.0, all_both P xs ys one.1 two)

pub all_listed : (P : KeptPage → Type 0) (car : Option KeptPage) → IfSome car P → AllByRecursion P (car_list car)
all_listed P None is = tt
all_listed P (Some kept) is = (is, tt)

-- and of each part of a list
pub first_all : {A : Type 0} (P : A → Type 0) (xs ys : List A) → AllByRecursion P (xs ++ ys) → AllByRecursion P xs
first_all P [] ys all = tt
first_all P (x ∷ xs) ys all = (all.0, first_all P xs ys all.1)

pub second_all : {A : Type 0} (P : A → Type 0) (xs ys : List A) → AllByRecursion P (xs ++ ys) → AllByRecursion P ys
second_all P [] ys all = all
second_all P (x ∷ xs) ys all = second_all P xs ys all.1
