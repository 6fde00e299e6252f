-- Reading fields one after the other, as a loop does.
use Rattle.std.proofs.Common.{◌≡◌, ℕ, zero, suc, ◌-◌, ◌+◌, ◌≤◌, ◌<◌, Bool, true, false, cond, eqb, ltb, List, [], ◌∷◌, ◌++◌, Option, Some, None, Result, Ok, Err, refl, sym, ap, subst, ◌∙◌, arith}
use Rattle.std.proofs.lemmas.List.{append-nil}
use Rattle.pm_types.specs.declared.address.Addr.{Addr}
use Rattle.pm_layout.specs.declared.fault.LayoutFault.{LayoutFault}
use Rattle.pm_layout.specs.declared.fault.LayoutFault.TheVariants.{Short, Kind, Fields, Count, Null, Ident, Memory}
use Rattle.pm_types.specs.Results.{◌>>=◌}
use Rattle.pm_types.proofs.Fronts.{with_front, regroup}
use Rattle.pm_layout.specs.Reading.{CanRunOut, Fails, address_at, field_at, fields_at}

-- one field more was read
pub goes_on : (bytes : List ℕ) (front : List (Option Addr)) (count i place : ℕ) (f : Option Addr) (total : Result (List (Option Addr)) LayoutFault) → i < count → field_at bytes place ≡ Ok f
    → with_front front (fields_at bytes (count - i) place) ≡ total → with_front (front ++ f ∷ []) (fields_at bytes (count - (i + 1)) (place + 12)) ≡ total
unfolding fields_at
goes_on bytes front count i place f total lt h so_far =
    let k : count - i ≡ suc (count - (i + 1)) = omega arith in
    let one : with_front front (fields_at bytes (count - i) place) ≡ with_front (front ++ f ∷ []) (fields_at bytes (count - (i + 1)) (place + 12)) = rw (k, h) (regroup front f (fields_at bytes (count - (i + 1)) (place + 12))) in
    sym one ∙ so_far

-- a fault of one field is that of all
pub ends : (bytes : List ℕ) (e : LayoutFault) (front : List (Option Addr)) (count i place : ℕ) (total : Result (List (Option Addr)) LayoutFault) → i < count → field_at bytes place ≡ Err e
    → with_front front (fields_at bytes (count - i) place) ≡ total → total ≡ Err e
unfolding fields_at
ends bytes e front count i place total lt h so_far =
    let k : count - i ≡ suc (count - (i + 1)) = omega arith in
    let one : with_front front (fields_at bytes (count - i) place) ≡ Err e = rw (k, h) refl in
    sym so_far ∙ one

-- all of the fields were read
pub is_done : (bytes : List ℕ) (front : List (Option Addr)) (count i place : ℕ) (total : Result (List (Option Addr)) LayoutFault) → count ≤ i → with_front front (fields_at bytes (count - i) place) ≡ total → total ≡ Ok front
unfolding fields_at
is_done bytes front count i place total le so_far =
    let k : count - i ≡ 0 = omega arith in
    let one : with_front front (fields_at bytes (count - i) place) ≡ Ok front = rw k (ap (λ (fs : List (Option Addr)). Ok fs) (append-nil front)) in
    sym so_far ∙ one

-- the fault that reading meets may be answered
pub fails_as : {X : Type 0} (e : LayoutFault) (read : Result X LayoutFault) → read ≡ Err e → Fails e read
fails_as (Memory _) read h = subst (λ (r : Result _ LayoutFault). CanRunOut r) (sym h) tt
fails_as (Short at) read h = h
fails_as (Kind at byte) read h = h
fails_as (Fields at n) read h = h
fails_as (Count at n) read h = h
fails_as (Null at) read h = h
fails_as (Ident at) read h = h

-- ---- where memory can run out

-- of two that a test chooses from, both can
can_cond : {X : Type 0} (b : Bool) (x y : Result X LayoutFault) → CanRunOut x → CanRunOut y → CanRunOut (cond b x y)
can_cond true x y h k = h
can_cond false x y h k = k

-- of two steps, both can
can_then : {A B : Type 0} (r : Result A LayoutFault) (f : A → Result B LayoutFault) → CanRunOut r → ((x : A) → CanRunOut (f x)) → CanRunOut (r >>= f)
can_then (Ok x) f h k = k x
can_then (Err (Short at)) f h k = absurd h
can_then (Err (Kind at byte)) f h k = absurd h
can_then (Err (Fields at n)) f h k = absurd h
can_then (Err (Count at n)) f h k = absurd h
can_then (Err (Null at)) f h k = tt
can_then (Err (Ident at)) f h k = absurd h
can_then (Err (Memory _)) f h k = tt

field_can : (bytes : List ℕ) (p : ℕ) → CanRunOut (field_at bytes p)
unfolding field_at
field_can bytes p =
    let a = address_at bytes p in
    can_cond (ltb 0 a.car) (Ok (Some a)) (cond (eqb a.slot 0) (Ok None) (Err (Null p))) tt (can_cond (eqb a.slot 0) (Ok None) (Err (Null p)) tt tt)

pub fields_can : (n : ℕ) (bytes : List ℕ) (p : ℕ) → CanRunOut (fields_at bytes n p)
unfolding fields_at
fields_can zero bytes p = tt
fields_can (suc n) bytes p =
    can_then (field_at bytes p) (λ first. fields_at bytes n (p + 12) >>= λ others. Ok (first ∷ others)) (field_can bytes p)
    (λ first. can_then (fields_at bytes n (p + 12)) (λ others. Ok (first ∷ others)) (fields_can n bytes (p + 12)) (λ others. tt))
