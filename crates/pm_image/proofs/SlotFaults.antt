-- Slots that can not be read: where their faults stand.
use Rattle.std.proofs.Common.{◌≡◌, ℕ, zero, suc, ◌+◌, ◌*◌, ◌<◌, ◌≤◌, Bool, true, false, cond, eqb, ltb, leb, ◌||◌, List, ◌∷◌, length, get_or, Some, None, Result, Ok, Err, refl, sym, ap, subst, ◌∙◌, arith, inl, inr}
use Rattle.std.proofs.lemmas.Bool.{cases_lt}
use Rattle.pm_types.specs.declared.limits.TheConstants.{OBJECT_BYTES, LAST_ID}
use Rattle.pm_types.specs.declared.object.Slot.{Slot}
use Rattle.pm_types.specs.declared.object.Slot.TheVariants.{Moved}
use Rattle.pm_layout.specs.declared.fault.LayoutFault.{LayoutFault}
use Rattle.pm_layout.specs.declared.fault.LayoutFault.TheVariants.{Short, Kind, Fields, Count, Null, Ident, Memory}
use Rattle.pm_types.specs.Results.{◌>>=◌}
use Rattle.pm_layout.specs.Reading.{CanRunOut, Gives, address_at, number_from, live_end, end_at, ident_at, field_count_at, byte_count_at, field_at, fields_at, live_at, target_at, moved_at, slot_at}
use Rattle.pm_layout.proofs.Slots.{end_takes, field_count_takes}
use Rattle.pm_layout.proofs.Laws.{nothing_left, kind_live, end_cut}
use Rattle.pm_image.specs.CarPages.{is_short, fault_place}

-- memory ran out only where the slot is not short
not_short : {X : Type 0} (read : Result X LayoutFault) → CanRunOut read → is_short read ≡ false
not_short (Ok x) can = refl
not_short (Err (Short at)) can = absurd can
not_short (Err (Kind at byte)) can = refl
not_short (Err (Fields at n)) can = refl
not_short (Err (Count at n)) can = refl
not_short (Err (Null at)) can = refl
not_short (Err (Ident at)) can = refl
not_short (Err (Memory _)) can = refl

-- a reader answers that a slot is short just where it is
pub same_short : {X : Type 0} (answered read : Result X LayoutFault) → Gives answered read → is_short answered ≡ is_short read
same_short (Ok x) read given = ap is_short (sym given)
same_short (Err (Short at)) read given = ap is_short (sym given)
same_short (Err (Kind at byte)) read given = ap is_short (sym given)
same_short (Err (Fields at n)) read given = ap is_short (sym given)
same_short (Err (Count at n)) read given = ap is_short (sym given)
same_short (Err (Null at)) read given = ap is_short (sym given)
same_short (Err (Ident at)) read given = ap is_short (sym given)
same_short (Err (Memory _)) read given = sym (not_short read given)

live_short : (most : ℕ) (bytes : List ℕ) (at : ℕ) → length bytes < at + 13 → live_at most bytes at ≡ Err (Short at)
unfolding live_at
live_short most bytes at lt = rw (end_cut bytes at (λ long. absurd (omega arith))) refl

-- what has no room for the head of a Live slot is short
headless : (most : ℕ) (bytes : List ℕ) (at : ℕ) → get_or bytes at 0 ≡ 1 → length bytes < at + 13 → slot_at most bytes at ≡ Err (Short at)
headless most bytes at kind lt =
    elim (cases_lt at (length bytes)) [
      | inl some ↦ kind_live most bytes at some kind ∙ live_short most bytes at lt
      | inr none ↦ nothing_left most bytes at none
    ]

-- a Live slot that is not short has its head
pub has_head : (most : ℕ) (bytes : List ℕ) (at : ℕ) → get_or bytes at 0 ≡ 1 → is_short (slot_at most bytes at) ≡ false → at + 13 ≤ length bytes
has_head most bytes at kind long =
    elim (cases_lt (length bytes) (at + 13)) [
      | inl lt ↦ let is : true ≡ false = ap is_short (sym (headless most bytes at kind lt)) ∙ long in absurd cc
      | inr le ↦ le
    ]

-- ---- faults are inside the bytes

-- the fault, if there is one, is no further than this
abbrev IsWithin : {X : Type 0} → ℕ → Result X LayoutFault → Type 0
IsWithin n (Ok x) = Unit {0}
IsWithin n (Err fault) = fault_place 0 fault ≤ n

cond_within : {X : Type 0} (n : ℕ) (b : Bool) (x y : Result X LayoutFault) → IsWithin n x → IsWithin n y → IsWithin n (cond b x y)
cond_within n true x y h k = h
cond_within n false x y h k = k

then_within : {A B : Type 0} (n : ℕ) (r : Result A LayoutFault) (f : A → Result B LayoutFault) → IsWithin n r → ((x : A) → r ≡ Ok x → IsWithin n (f x)) → IsWithin n (r >>= f)
then_within n (Ok x) f h k = k x refl
then_within n (Err fault) f h k = h

field_within : (n : ℕ) (bytes : List ℕ) (p : ℕ) → p ≤ n → IsWithin n (field_at bytes p)
unfolding field_at
field_within n bytes p le =
    let a = address_at bytes p in
    cond_within n (ltb 0 a.car) (Ok (Some a)) (cond (eqb a.slot 0) (Ok None) (Err (Null p))) tt (cond_within n (eqb a.slot 0) (Ok None) (Err (Null p)) tt le)

fields_within : (n : ℕ) (bytes : List ℕ) (count p : ℕ) → p + 12 * count ≤ n → IsWithin n (fields_at bytes count p)
unfolding fields_at
fields_within n bytes zero p le = tt
fields_within n bytes (suc count) p le =
    then_within n (field_at bytes p) (λ first. fields_at bytes count (p + 12) >>= λ others. Ok (first ∷ others)) (field_within n bytes p (omega arith))
    (λ first read. then_within n (fields_at bytes count (p + 12)) (λ others. Ok (first ∷ others)) (fields_within n bytes count (p + 12) (omega arith)) (λ others is. tt))

end_within : (n : ℕ) (bytes : List ℕ) (at : ℕ) → IsWithin n (end_at bytes at)
unfolding end_at
end_within n bytes at =
    cond_within n (ltb (length bytes) (at + 13)) (Err (Short at)) (cond (ltb (length bytes) (live_end bytes at)) (Err (Short at)) (Ok (live_end bytes at))) (omega arith)
    (cond_within n (ltb (length bytes) (live_end bytes at)) (Err (Short at)) (Ok (live_end bytes at)) (omega arith) tt)

ident_within : (n : ℕ) (bytes : List ℕ) (p : ℕ) → p ≤ n → IsWithin n (ident_at bytes p)
unfolding ident_at
ident_within n bytes p le =
    let id = number_from 8 bytes p in
    cond_within n (eqb id 0 || ltb LAST_ID id) (Err (Ident p)) (Ok id) le tt

field_count_within : (n most : ℕ) (bytes : List ℕ) (p : ℕ) → p ≤ n → IsWithin n (field_count_at most bytes p)
unfolding field_count_at
field_count_within n most bytes p le =
    let count = number_from 2 bytes p in
    cond_within n (ltb most count) (Err (Fields p count)) (Ok count) le tt

byte_count_within : (n : ℕ) (bytes : List ℕ) (p : ℕ) → p ≤ n → IsWithin n (byte_count_at bytes p)
unfolding byte_count_at
byte_count_within n bytes p le =
    let count = number_from 2 bytes p in
    cond_within n (ltb OBJECT_BYTES count) (Err (Count p count)) (Ok count) le tt

live_within : (most : ℕ) (bytes : List ℕ) (at : ℕ) → IsWithin (length bytes) (live_at most bytes at)
unfolding live_at
live_within most bytes at =
    then_within _ (end_at bytes at) _ (end_within _ bytes at) (λ end end_is.
    let e = end_takes bytes at end end_is in
    let inside : live_end bytes at ≤ length bytes = let is = e.0 in let le = e.1 in omega arith in
    then_within _ (ident_at bytes (at + 1)) _ (ident_within _ bytes (at + 1) (omega arith)) (λ id id_is.
    then_within _ (field_count_at most bytes (at + 9)) _ (field_count_within _ most bytes (at + 9) (omega arith)) (λ n n_is.
    let counted : number_from 2 bytes (at + 9) ≡ n = (field_count_takes most bytes (at + 9) n n_is).0 in
    then_within _ (byte_count_at bytes (at + 11)) _ (byte_count_within _ bytes (at + 11) (omega arith)) (λ count count_is.
    then_within _ (fields_at bytes n (at + 13)) _ (fields_within _ bytes n (at + 13) (omega arith)) (λ fs fs_is. tt)))))

target_within : (n : ℕ) (bytes : List ℕ) (p : ℕ) → p ≤ n → IsWithin n (target_at bytes p)
unfolding target_at
target_within n bytes p le =
    let a = address_at bytes p in
    cond_within n (ltb 0 a.car) (Ok a) (Err (Null p)) tt le

moved_within : (bytes : List ℕ) (at : ℕ) → at + 1 ≤ length bytes → IsWithin (length bytes) (moved_at bytes at)
unfolding moved_at
moved_within bytes at le =
    cond_within _ (ltb (length bytes) (at + 13)) (Err (Short at)) (target_at bytes (at + 1) >>= λ to. Ok (Moved to, at + 13)) (omega arith)
    (then_within _ (target_at bytes (at + 1)) _ (target_within _ bytes (at + 1) le) (λ to is. tt))

some_within : (most : ℕ) (bytes : List ℕ) (at : ℕ) → at < length bytes → IsWithin (length bytes) (slot_at most bytes at)
unfolding slot_at
some_within most bytes at lt =
    let kind = get_or bytes at 0 in
    cond_within _ (leb (length bytes) at) (Err (Short at)) (cond (eqb kind 1) (live_at most bytes at) (cond (eqb kind 2) (moved_at bytes at) (Err (Kind at kind)))) (omega arith)
    (cond_within _ (eqb kind 1) (live_at most bytes at) (cond (eqb kind 2) (moved_at bytes at) (Err (Kind at kind))) (live_within most bytes at)
    (cond_within _ (eqb kind 2) (moved_at bytes at) (Err (Kind at kind)) (moved_within bytes at (omega arith)) (omega arith)))

slot_within : (most : ℕ) (bytes : List ℕ) (at : ℕ) → IsWithin (length bytes) (slot_at most bytes at)
slot_within most bytes at =
    elim (cases_lt at (length bytes)) [
      | inl lt ↦ some_within most bytes at lt
      | inr none ↦ subst (λ (r : Result (Slot × ℕ) LayoutFault). IsWithin (length bytes) r) (sym (nothing_left most bytes at none)) (omega arith)
    ]

-- a fault that was answered stands inside the bytes, where the record does
pub fault_inside : (most : ℕ) (bytes : List ℕ) (at place : ℕ) (fault : LayoutFault) → place ≤ length bytes → Gives (Err fault) (slot_at most bytes at) → fault_place place fault ≤ length bytes
fault_inside most bytes at place (Short a) inside given = inside
fault_inside most bytes at place (Kind a byte) inside given = subst (λ (r : Result (Slot × ℕ) LayoutFault). IsWithin (length bytes) r) given (slot_within most bytes at)
fault_inside most bytes at place (Fields a n) inside given = subst (λ (r : Result (Slot × ℕ) LayoutFault). IsWithin (length bytes) r) given (slot_within most bytes at)
fault_inside most bytes at place (Count a n) inside given = subst (λ (r : Result (Slot × ℕ) LayoutFault). IsWithin (length bytes) r) given (slot_within most bytes at)
fault_inside most bytes at place (Null a) inside given = subst (λ (r : Result (Slot × ℕ) LayoutFault). IsWithin (length bytes) r) given (slot_within most bytes at)
fault_inside most bytes at place (Ident a) inside given = subst (λ (r : Result (Slot × ℕ) LayoutFault). IsWithin (length bytes) r) given (slot_within most bytes at)
fault_inside most bytes at place (Memory _) inside given = inside
