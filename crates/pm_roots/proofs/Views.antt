-- What names with their numbers, and addresses by number, are seen as.
use Rattle.std.proofs.Common.{◌≡◌, ℕ, zero, suc, ◌<◌, Bool, true, false, cond, ◌&&◌, T, List, [], ◌∷◌, length, ◌⊎◌, inl, inr, Option, Some, None, IsSome, IfSome, IfNone, get_or, slice_get, Result, Ok, Err, refl, sym, ap, subst, ◌∙◌, arith}
use Rattle.std.specs.Ordering.{is_lt, is_eq, eq_by_cmp}
use Rattle.std.specs.Option.{option_map, unwrap_or}
use Rattle.std.specs.Cmp.{tied_itself}
use Rattle.std.specs.FinMap.{get, len, entries, get-from_sorted, entries-from_sorted, len-entries}
use Rattle.std.specs.FinMap.Entries.{find, below_all, is_sorted}
use Rattle.std.proofs.lemmas.Bool.Decides.{nat_tests}
use Rattle.std.proofs.lemmas.Map.Views.{tells_apart}
use Rattle.std.proofs.lemmas.Grind.{common_steps}
use Rattle.pm_types.specs.Memory.{no_memory}
use Rattle.pm_types.specs.declared.address.Addr.{Addr}
use Rattle.pm_roots.specs.declared.fault.BindFault.{BindFault}
use Rattle.pm_roots.specs.declared.fault.BindFault.TheVariants.{TooMany, Memory}
use Rattle.pm_types.specs.Orders.{name_cmp}
use Rattle.pm_types.proofs.Orders.{names_total, names_antisymmetric}
use Rattle.pm_roots.specs.Bindings.{Bindings, address_in, address_at, IsBound, IsFree, AllNumbersDiffer}
use Rattle.pm_roots.specs.Kept.{Numbered, address_of, rows, shown, IsKept}
use Rattle.pm_roots.proofs.Sorted.{first, second, find_below, find_first}

-- a number with its address
abbrev pub with_its_address : (ℕ → Option Addr) → ℕ → ℕ × Addr
with_its_address g n = (n, address_of g n)

map_cond : {A B : Type 0} (f : A → B) (b : Bool) (x y : Option A) → option_map f (cond b x y) ≡ cond b (option_map f x) (option_map f y)
map_cond f true x y = refl
map_cond f false x y = refl

below_rows : (g : ℕ → Option Addr) (x : List ℕ) (es : Numbered) → below_all name_cmp x (rows g es) ≡ below_all name_cmp x es
below_rows g x [] = refl
below_rows g x (e ∷ es) = ap (λ b. is_lt (name_cmp x e.0) && b) (below_rows g x es)

sorted_rows : (g : ℕ → Option Addr) (es : Numbered) → is_sorted name_cmp (rows g es) ≡ is_sorted name_cmp es
sorted_rows g [] = refl
sorted_rows g (e ∷ es) = λ i. below_rows g e.0 es i && sorted_rows g es i

find_rows : (g : ℕ → Option Addr) (q : List ℕ) (es : Numbered) → find name_cmp q (rows g es) ≡ option_map (with_its_address g) (find name_cmp q es)
find_rows g q [] = refl
find_rows g q (e ∷ es) = ap (cond (eq_by_cmp name_cmp q e.0) (Some (with_its_address g e.1))) (find_rows g q es) ∙ sym (map_cond (with_its_address g) _ _ _)

length_rows : (g : ℕ → Option Addr) (es : Numbered) → length (rows g es) ≡ length es
length_rows g [] = refl
length_rows g (e ∷ es) = ap suc (length_rows g es)

-- a number that some name has is in the list
address_found : (g : ℕ → Option Addr) (p : List ℕ) (n : ℕ) (es : Numbered) → find name_cmp p es ≡ Some n → address_in n (rows g es) ≡ Some (address_of g n)
address_found g p n [] h = grind arith
address_found g p n (e ∷ es) h = grind (arith, nat_tests, common_steps, address_found g p n es)

-- two names are one, or the order tells them apart
pub decide : (p q : List ℕ) → (p ≡ q) ⊎ (eq_by_cmp name_cmp p q ≡ false)
decide p q =
    elim (eq_by_cmp name_cmp p q) as (λ b. eq_by_cmp name_cmp p q ≡ b → (p ≡ q) ⊎ (b ≡ false)) [
      | true ↦ λ is. inl (tells_apart names_antisymmetric p q is)
      | false ↦ λ is. inr refl
    ] refl

pub ties : (p q : List ℕ) → p ≡ q → eq_by_cmp name_cmp p q ≡ true
ties p q is = subst (λ r. eq_by_cmp name_cmp p r ≡ true) is (ap is_eq (tied_itself names_total p))

-- what is found among the later names is found
found_later : (e : List ℕ × ℕ) (es : Numbered) (p : List ℕ) (n : ℕ) → T (below_all name_cmp e.0 es) → find name_cmp p es ≡ Some n → find name_cmp p (e ∷ es) ≡ Some n
found_later e es p n below is = elim (decide p e.0) [
  | inl same ↦ absurd (Some-None n (sym is ∙ ap (λ q. find name_cmp q es) same ∙ find_below names_total e.0 es below))
  | inr apart ↦ ap (λ b. cond b (Some e.1) (find name_cmp p es)) apart ∙ is
]
  where
    Some-None : (n : ℕ) → Some n ≡ None → ⊥
    Some-None n e = cc

-- a number that no name has is not
address_missed : (g : ℕ → Option Addr) (n : ℕ) (es : Numbered) → T (is_sorted name_cmp es) → ((p : List ℕ) → find name_cmp p es ≡ Some n → ⊥) → address_in n (rows g es) ≡ None
address_missed g n [] s h = refl
address_missed g n (e ∷ es) s h =
    let rest : address_in n (rows g es) ≡ None = address_missed g n es (second _ _ s) (λ p is. h p (found_later e es p n (first _ _ s) is)) in
    let other : e.1 ≡ n → ⊥ = λ is. h e.0 (find_first names_total e es ∙ ap Some is) in
    grind (arith, nat_tests, rest, other)

has_address : (g : ℕ → Option Addr) (n : ℕ) → IsSome (g n) → g n ≡ Some (address_of g n)
has_address g n h = grind (arith, common_steps)

mapped : (g : ℕ → Option Addr) (n : ℕ) (a : Addr) (found : Option ℕ) → option_map (with_its_address g) found ≡ Some (n, a) → (found ≡ Some n) × (address_of g n ≡ a)
mapped g n a None h = absurd (grind arith)
mapped g n a (Some m) h =
    let number : m ≡ n = ap (λ (o : Option (ℕ × Addr)). (unwrap_or {T = ℕ × Addr} o (m, a)).0) h in
    (ap Some number, ap (address_of g) (sym number) ∙ ap (λ (o : Option (ℕ × Addr)). (unwrap_or {T = ℕ × Addr} o (m, a)).1) h)

module _ (es : Numbered) (g : ℕ → Option Addr) (sorted : T (is_sorted name_cmp es)) where
  pub get_shown : (q : List ℕ) → get (shown es g) q ≡ option_map (with_its_address g) (find name_cmp q es)
  get_shown q = get-from_sorted name_cmp (rows g es) q (subst T (sym (sorted_rows g es)) sorted) ∙ find_rows g q es

  pub entries_shown : entries (shown es g) ≡ rows g es
  entries_shown = entries-from_sorted name_cmp (rows g es) (subst T (sym (sorted_rows g es)) sorted)

  pub len_shown : len (shown es g) ≡ length es
  len_shown = len-entries (shown es g) ∙ ap length entries_shown ∙ length_rows g es

module _ (es : Numbered) (g : ℕ → Option Addr) (kept : IsKept es g) where
  -- what a bound name has
  pub got : (q : List ℕ) (n : ℕ) (a : Addr) → get (shown es g) q ≡ Some (n, a) → (find name_cmp q es ≡ Some n) × (g n ≡ Some a)
  got q n a h =
      let parts = mapped g n a _ (sym (get_shown es g kept.sorted q) ∙ h) in
      (parts.0, has_address g n (kept.addressed q n parts.0) ∙ ap Some parts.1)

  pub get_bound : (q : List ℕ) (n : ℕ) (a : Addr) → find name_cmp q es ≡ Some n → g n ≡ Some a → get (shown es g) q ≡ Some (n, a)
  get_bound q n a found is =
      get_shown es g kept.sorted q ∙ ap (option_map (with_its_address g)) found ∙ ap (λ o. Some (n, unwrap_or o (record { car = 0; slot = 0 }))) is

  pub get_absent : (q : List ℕ) → find name_cmp q es ≡ None → get (shown es g) q ≡ None
  get_absent q none = get_shown es g kept.sorted q ∙ ap (option_map (with_its_address g)) none

  pub bound_shown : (n : ℕ) (found : Option Addr) → found ≡ g n → IfSome found (IsBound (shown es g) n)
  bound_shown n None is = tt
  bound_shown n (Some a) is =
      let owner = kept.named n (subst IsSome is refl) in
      record { name = owner.0; bound = get_bound owner.0 n a owner.1 (sym is) }

  pub free_shown : (n : ℕ) (found : Option Addr) → found ≡ g n → IfNone found (IsFree (shown es g) n)
  free_shown n (Some a) is = tt
  free_shown n None is = λ q a h. let there = (got q n a h).1 in absurd (grind (arith, is, there))

  pub differ_shown : AllNumbersDiffer (shown es g)
  differ_shown p q n a b hp hq = kept.differ p q n (got p n a hp).0 (got q n b hq).0

  -- the address under a number
  pub at_shown : (n : ℕ) → address_at (shown es g) n ≡ g n
  at_shown n = ap (address_in n) (entries_shown es g kept.sorted) ∙ by_case (g n) refl
    where
      by_case : (found : Option Addr) → g n ≡ found → address_in n (rows g es) ≡ found
      by_case None is = address_missed g n es kept.sorted (λ p h. let there = kept.addressed p n h in grind (arith, common_steps))
      by_case (Some a) is =
          let owner = kept.named n (subst IsSome (sym is) refl) in
          address_found g owner.0 n es owner.1 ∙ ap (λ o. Some (unwrap_or o (record { car = 0; slot = 0 }))) is

-- the same of the map that they are seen as
module _ (es : Numbered) (g : ℕ → Option Addr) (kept : IsKept es g) (m : Bindings) (seen : shown es g ≡ m) where
  pub bound_now : (q : List ℕ) (n : ℕ) (a : Addr) → find name_cmp q es ≡ Some n → g n ≡ Some a → get m q ≡ Some (n, a)
  bound_now q n a found is = ap (λ m. get m q) (sym seen) ∙ get_bound es g kept q n a found is

  pub absent_now : (q : List ℕ) → find name_cmp q es ≡ None → get m q ≡ None
  absent_now q none = ap (λ m. get m q) (sym seen) ∙ get_absent es g kept q none

  pub counted_now : length es ≡ len m
  counted_now = sym (len_shown es g kept.sorted) ∙ ap len seen

-- the row at a place
pub row_at : (es : Numbered) (g : ℕ → Option Addr) (place : ℕ) (e : List ℕ × ℕ) (a : Addr) → place < length es → e ≡ get_or es place e → g e.1 ≡ Some a → slice_get (rows g es) place ≡ Some (e.0, (e.1, a))
row_at [] g place e a lt is at = absurd (omega arith)
row_at (x ∷ es) g zero e a lt is at =
    ap (λ (y : List ℕ × ℕ). Some (y.0, (y.1, address_of g y.1))) (sym is) ∙ ap (λ o. Some (e.0, (e.1, unwrap_or o (record { car = 0; slot = 0 })))) at
row_at (x ∷ es) g (suc place) e a lt is at = row_at es g place e a (omega arith) is at

pub ok_is_no_err : {A B : Type 0} {a : A} {b : B} → Ok a ≡ Err b → ⊥
ok_is_no_err is = cc

pub some_is_no_none : {A : Type 0} {a : A} → Some a ≡ None → ⊥
some_is_no_none is = cc

pub none_is_not_some : {A : Type 0} {found : Option A} → found ≡ None → IsSome found → ⊥
none_is_not_some {found = found} none there = grind (arith, common_steps)

pub memory_is_not_too_many : {A : Type 0} → ◌≡◌ {A = Result A BindFault} (Err (Memory no_memory)) (Err TooMany) → ⊥
memory_is_not_too_many is = cc
