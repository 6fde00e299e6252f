-- A name that is bound is found by its number, where no two names have one number.
use Rattle.std.proofs.Common.{◌≡◌, ◌⊎◌, inl, inr, ℕ, ◌==◌, Bool, true, false, cond, T, refl, ap, sym, ◌∙◌, List, [], ◌∷◌, Option, Some, None, is_some}
use Rattle.std.specs.Ordering.{eq_by_cmp}
use Rattle.std.specs.FinMap.{get, entries, entries_sorted, get-entries}
use Rattle.std.specs.FinMap.Entries.{find, below_all, is_sorted}
use Rattle.std.proofs.lemmas.Bool.{eqb-true, eq-eqb, true≢false, cond-true}
use Rattle.std.proofs.lemmas.Map.Views.{tells_apart}
use Rattle.pm_types.specs.Orders.{name_cmp}
use Rattle.pm_types.proofs.Orders.{names_total, names_antisymmetric}
use Rattle.pm_types.specs.declared.address.Addr.{Addr}
use Rattle.pm_roots.specs.Bindings.{Bindings, address_in, address_at, AllNumbersDiffer}
use Rattle.pm_roots.proofs.Sorted.{first, second, find_below, find_first}

abbrev Rows : Type 0
Rows = List (List ℕ × (ℕ × Addr))

-- two names are one, or the order tells them apart
decide : (p q : List ℕ) → (p ≡ q) ⊎ (eq_by_cmp name_cmp p q ≡ false)
decide p q =
    elim (eq_by_cmp name_cmp p q) as (λ b. eq_by_cmp name_cmp p q ≡ b → (p ≡ q) ⊎ (b ≡ false)) [
      | true ↦ λ is. inl (tells_apart names_antisymmetric p q is)
      | false ↦ λ is. inr refl
    ] refl

some_none : {A : Type 0} (x : A) → Some x ≡ None → ⊥
some_none x is = cc

-- what is found among the later names is found
found_later : (e : List ℕ × (ℕ × Addr)) (es : Rows) (p : List ℕ) (bound : ℕ × Addr) → T (below_all name_cmp e.0 es) → find name_cmp p es ≡ Some bound → find name_cmp p (e ∷ es) ≡ Some bound
found_later e es p bound below is = elim (decide p e.0) [
  | inl same ↦ absurd (some_none bound (sym is ∙ ap (λ q. find name_cmp q es) same ∙ find_below names_total e.0 es below))
  | inr apart ↦ ap (λ b. cond b (Some e.1) (find name_cmp p es)) apart ∙ is
]

-- the first row of a number has a name
head_owner : (e : List ℕ × (ℕ × Addr)) (es : Rows) (n : ℕ) (a : Addr) (b : Bool) → (e.1.0 == n) ≡ b → T (is_sorted name_cmp (e ∷ es)) → cond b (Some e.1.1) (address_in n es) ≡ Some a
    → (address_in n es ≡ Some a → (q : List ℕ) × (find name_cmp q es ≡ Some (n, a))) → (q : List ℕ) × (find name_cmp q (e ∷ es) ≡ Some (n, a))
head_owner e es n a true same sorted is later =
    let address : e.1.1 ≡ a = cc in
    (e.0, find_first names_total e es ∙ (λ i. Some (eqb-true e.1.0 n same i, address i)))
head_owner e es n a false same sorted is later = let owner = later is in (owner.0, found_later e es owner.0 (n, a) (first _ _ sorted) owner.1)

owner_in : (es : Rows) → T (is_sorted name_cmp es) → (n : ℕ) (a : Addr) → address_in n es ≡ Some a → (q : List ℕ) × (find name_cmp q es ≡ Some (n, a))
owner_in [] sorted n a is = cc
owner_in (e ∷ es) sorted n a is = head_owner e es n a (e.1.0 == n) refl sorted is (owner_in es (second _ _ sorted) n a)

-- the number of a name that is bound has an address
listed_cond : (b : Bool) (e : ℕ × Addr) (o : Option (ℕ × Addr)) (n : ℕ) (a : Addr) (rest : Option Addr) → cond b (Some e) o ≡ Some (n, a) → (o ≡ Some (n, a) → is_some rest ≡ true) → is_some (cond (e.0 == n) (Some e.1) rest) ≡ true
listed_cond true e o n a rest is later = let number : e.0 ≡ n = ap (λ (o : Option (ℕ × Addr)). elim o as (λ _. ℕ) [ None ↦ n | Some bound ↦ bound.0 ]) is in ap is_some (cond-true _ _ _ (eq-eqb e.0 n number))
listed_cond false e o n a rest is later = some_either (e.0 == n) e.1 rest (later is)
  where
    some_either : (b : Bool) (x : Addr) (rest : Option Addr) → is_some rest ≡ true → is_some (cond b (Some x) rest) ≡ true
    some_either true x rest some = refl
    some_either false x rest some = some

listed_in : (es : Rows) (q : List ℕ) (n : ℕ) (a : Addr) → find name_cmp q es ≡ Some (n, a) → is_some (address_in n es) ≡ true
listed_in [] q n a is = cc
listed_in (e ∷ es) q n a is = listed_cond (eq_by_cmp name_cmp q e.0) e.1 (find name_cmp q es) n a (address_in n es) is (listed_in es q n a)

some_is : (o : Option Addr) → is_some o ≡ true → (a : Addr) × (o ≡ Some a)
some_is None some = absurd (true≢false (sym some))
some_is (Some a) some = (a, refl)

-- a number that has an address has a name
pub owner : (roots : Bindings) (n : ℕ) (a : Addr) → address_at roots n ≡ Some a → (name : List ℕ) × (get roots name ≡ Some (n, a))
owner roots n a is = let found = owner_in (entries roots) (entries_sorted roots) n a is in (found.0, get-entries roots found.0 ∙ found.1)

-- a name that is bound is found by its number
pub found_by_number : (roots : Bindings) → AllNumbersDiffer roots → (name : List ℕ) (bound : ℕ × Addr) → get roots name ≡ Some bound → address_at roots bound.0 ≡ Some bound.1
found_by_number roots differ name bound is =
    let some = some_is (address_at roots bound.0) (listed_in (entries roots) name bound.0 bound.1 (sym (get-entries roots name) ∙ is)) in
    let other = owner roots bound.0 some.0 some.1 in
    let same : name ≡ other.0 = differ name other.0 bound.0 bound.1 some.0 is other.1 in
    let both : Some bound ≡ Some (bound.0, some.0) = sym is ∙ ap (get roots) same ∙ other.1 in
    some.1 ∙ ap (λ (o : Option (ℕ × Addr)). elim o as (λ _. Option Addr) [ None ↦ None | Some bound ↦ Some bound.1 ]) (sym both)
