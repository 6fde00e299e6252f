-- What is spelled at a place is read there.
use Rattle.std.proofs.Common.{◌≡◌, ℕ, ◌+◌, ◌-◌, ◌*◌, ◌^◌, ◌<◌, ◌≤◌, Bool, false, cond, eqb, ltb, leb, ◌||◌, List, [], ◌∷◌, ◌++◌, length, get_or, take, drop, Option, Some, None, Result, Ok, Err, refl, ap, ◌∙◌, arith}
use Rattle.std.specs.List.{flat_map, slice_range, AllByRecursion}
use Rattle.std.specs.Prelude.{IfSome}
use Rattle.std.proofs.lemmas.Bool.{le-ltb, lt-ltb, lt-leb}
use Rattle.std.proofs.lemmas.List.{take_at}
use Rattle.byteorder.specs.Endian.{big_bytes}
use Rattle.pm_types.specs.declared.limits.TheConstants.{OBJECT_BYTES, LAST_ID}
use Rattle.pm_types.specs.declared.address.Addr.{Addr}
use Rattle.pm_types.specs.declared.object.Object.{Object}
use Rattle.pm_types.specs.declared.object.Slot.{Slot}
use Rattle.pm_types.specs.declared.object.Slot.TheVariants.{Live, Moved}
use Rattle.pm_layout.specs.declared.fault.LayoutFault.{LayoutFault}
use Rattle.pm_layout.specs.declared.fault.LayoutFault.TheVariants.{Short, Kind, Fields, Count, Null, Ident}
use Rattle.pm_layout.specs.Spelling.{address, field, spelling, HasCar, IsAddress, IsInRange, Stands, IsSpelled}
use Rattle.pm_types.specs.Results.{◌>>=◌}
use Rattle.pm_layout.specs.Reading.{number_from, live_end, end_at, ident_at, field_count_at, byte_count_at, field_at, fields_at, live_at, target_at, moved_at, slot_at}
use Rattle.pm_layout.proofs.Steps.{holds, passes, other_than_zero}
use Rattle.pm_layout.proofs.Sizes.{field_length, fields_length}
use Rattle.pm_layout.proofs.Texts.{Stands-split, Stands-end, number_is, byte_is}

-- ---- fields

-- the two numbers of an address
pub record IsRead (bytes : List ℕ) (p car slot : ℕ) : Type 0 where
  pub car_is : number_from 8 bytes p ≡ car
  pub slot_is : number_from 4 bytes (p + 8) ≡ slot

pub address_again : (bytes : List ℕ) (p q car slot : ℕ) → p ≤ length bytes → car < 2 ^ 64 → slot < 2 ^ 32 → Stands bytes p (big_bytes 8 car ++ big_bytes 4 slot) q → IsRead bytes p car slot
address_again bytes p q car slot start small_car small_slot s =
    let parts = Stands-split bytes (big_bytes 8 car) (big_bytes 4 slot) p (p + 8) q start refl s in
    record { car_is = number_is 8 bytes p (p + 8) car small_car parts.first; slot_is = number_is 4 bytes (p + 8) q slot small_slot parts.second }

field_again : (bytes : List ℕ) (p q : ℕ) (f : Option Addr) → p ≤ length bytes → HasCar f → IfSome f IsAddress → Stands bytes p (field f) q → field_at bytes p ≡ Ok f
unfolding field_at field address
field_again bytes p q None start car small s =
    let r = address_again bytes p q 0 0 start (omega arith) (omega arith) s in
    let decided : ℕ → ℕ → Result (Option Addr) LayoutFault = λ c n. cond (ltb 0 c) (Ok (Some (record { car = c; slot = n }))) (cond (eqb n 0) (Ok None) (Err (Null p))) in
    ap (λ (c : ℕ). decided c (number_from 4 bytes (p + 8))) r.car_is ∙ ap (λ (n : ℕ). decided 0 n) r.slot_is
field_again bytes p q (Some a) start car small s =
    let r = address_again bytes p q a.car a.slot start small.car small.slot s in
    let decided : ℕ → ℕ → Result (Option Addr) LayoutFault = λ c n. cond (ltb 0 c) (Ok (Some (record { car = c; slot = n }))) (cond (eqb n 0) (Ok None) (Err (Null p))) in
    ap (λ (c : ℕ). decided c (number_from 4 bytes (p + 8))) r.car_is ∙ ap (λ (n : ℕ). decided a.car n) r.slot_is
    ∙ holds (ltb 0 a.car) (Ok (Some a)) (cond (eqb a.slot 0) (Ok None) (Err (Null p))) (lt-ltb 0 a.car car)

target_again : (bytes : List ℕ) (p q : ℕ) (a : Addr) → p ≤ length bytes → 0 < a.car → IsAddress a → Stands bytes p (address a) q → target_at bytes p ≡ Ok a
unfolding target_at address
target_again bytes p q a start car small s =
    let r = address_again bytes p q a.car a.slot start small.car small.slot s in
    let decided : ℕ → ℕ → Result Addr LayoutFault = λ c n. cond (ltb 0 c) (Ok (record { car = c; slot = n })) (Err (Null p)) in
    ap (λ (c : ℕ). decided c (number_from 4 bytes (p + 8))) r.car_is ∙ ap (λ (n : ℕ). decided a.car n) r.slot_is
    ∙ holds (ltb 0 a.car) (Ok a) (Err (Null p)) (lt-ltb 0 a.car car)

fields_again : (fs : List (Option Addr)) (bytes : List ℕ) (p q : ℕ) → p ≤ length bytes → AllByRecursion HasCar fs → AllByRecursion (λ f. IfSome f IsAddress) fs → Stands bytes p (flat_map field fs) q → fields_at bytes (length fs) p ≡ Ok fs
unfolding fields_at
fields_again [] bytes p q start cars small s = refl
fields_again (f ∷ fs) bytes p q start cars small s =
    let parts = Stands-split bytes (field f) (flat_map field fs) p (p + 12) q start (ap (λ (k : ℕ). p + k) (field_length f)) s in
    let inside : p + 12 ≤ length bytes = parts.first.inside in
    rw (field_again bytes p (p + 12) f start cars.0 small.0 parts.first, fields_again fs bytes (p + 12) q inside cars.1 small.1 parts.second) refl

-- ---- slots

end_again : (bytes : List ℕ) (at end : ℕ) → live_end bytes at ≡ end → end ≤ length bytes → end_at bytes at ≡ Ok end
unfolding end_at
end_again bytes at end e inside =
    let long : at + 13 ≤ length bytes = omega arith in
    let whole : live_end bytes at ≤ length bytes = omega arith in
    passes (ltb (length bytes) (at + 13)) (Err (Short at)) (cond (ltb (length bytes) (live_end bytes at)) (Err (Short at)) (Ok (live_end bytes at))) (le-ltb _ _ long)
    ∙ passes (ltb (length bytes) (live_end bytes at)) (Err (Short at)) (Ok (live_end bytes at)) (le-ltb _ _ whole)
    ∙ ap (λ (k : ℕ). Ok k) e

ident_again : (bytes : List ℕ) (p id : ℕ) → number_from 8 bytes p ≡ id → 0 < id → id ≤ LAST_ID → ident_at bytes p ≡ Ok id
unfolding ident_at
ident_again bytes p id e low high =
    let decided : ℕ → Result ℕ LayoutFault = λ n. cond (eqb n 0 || ltb LAST_ID n) (Err (Ident p)) (Ok n) in
    let right : (eqb id 0 || ltb LAST_ID id) ≡ false = ap (λ (b : Bool). b || ltb LAST_ID id) (other_than_zero id low) ∙ le-ltb _ _ high in
    ap decided e ∙ passes (eqb id 0 || ltb LAST_ID id) (Err (Ident p)) (Ok id) right

field_count_again : (most : ℕ) (bytes : List ℕ) (p n : ℕ) → number_from 2 bytes p ≡ n → n ≤ most → field_count_at most bytes p ≡ Ok n
unfolding field_count_at
field_count_again most bytes p n e le =
    let decided : ℕ → Result ℕ LayoutFault = λ k. cond (ltb most k) (Err (Fields p k)) (Ok k) in
    ap decided e ∙ passes (ltb most n) (Err (Fields p n)) (Ok n) (le-ltb _ _ le)

byte_count_again : (bytes : List ℕ) (p n : ℕ) → number_from 2 bytes p ≡ n → n ≤ OBJECT_BYTES → byte_count_at bytes p ≡ Ok n
unfolding byte_count_at
byte_count_again bytes p n e le =
    let decided : ℕ → Result ℕ LayoutFault = λ k. cond (ltb OBJECT_BYTES k) (Err (Count p k)) (Ok k) in
    ap decided e ∙ passes (ltb OBJECT_BYTES n) (Err (Count p n)) (Ok n) (le-ltb _ _ le)

live_again : (most : ℕ) (bytes : List ℕ) (at : ℕ) (o : Object) (next : ℕ) → most < 65536 → at ≤ length bytes → IsInRange (Live o) → IsSpelled most bytes at (Live o) next → live_at most bytes at ≡ Ok (Live o, next)
unfolding live_at spelling
live_again most bytes at o next small start range s =
    let fits = s.fits in
    let n = length o.fields in
    let count = length o.bytes in
    let few : n ≤ most = fits.within.0 in
    let short : count ≤ OBJECT_BYTES = fits.within.1 in
    let p5 = at + 13 + 12 * n in
    let tail4 = flat_map field o.fields ++ o.bytes in
    let tail3 = big_bytes 2 count ++ tail4 in
    let tail2 = big_bytes 2 n ++ tail3 in
    let tail1 = big_bytes 8 o.id ++ tail2 in
    let s0 = Stands-split bytes (1 ∷ []) tail1 at (at + 1) next start refl s.stands in
    let s1 = Stands-split bytes (big_bytes 8 o.id) tail2 (at + 1) (at + 9) next s0.first.inside (omega arith) s0.second in
    let s2 = Stands-split bytes (big_bytes 2 n) tail3 (at + 9) (at + 11) next s1.first.inside (omega arith) s1.second in
    let s3 = Stands-split bytes (big_bytes 2 count) tail4 (at + 11) (at + 13) next s2.first.inside (omega arith) s2.second in
    let s4 = Stands-split bytes (flat_map field o.fields) o.bytes (at + 13) p5 next s3.first.inside (ap (λ (k : ℕ). at + 13 + k) (fields_length o.fields)) s3.second in
    let ended : p5 + count ≡ next = Stands-end bytes o.bytes p5 next s4.first.inside s4.second in
    let id_is : number_from 8 bytes (at + 1) ≡ o.id = number_is 8 bytes (at + 1) (at + 9) o.id (let top = range.0 in omega arith) s1.first in
    let n_is : number_from 2 bytes (at + 9) ≡ n = number_is 2 bytes (at + 9) (at + 11) n (omega arith) s2.first in
    let count_is : number_from 2 bytes (at + 11) ≡ count = number_is 2 bytes (at + 11) (at + 13) count (omega arith) s3.first in
    let whole : live_end bytes at ≡ next = omega (arith, n_is, count_is, ended) in
    let inside : next ≤ length bytes = s4.second.inside in
    let e0 = end_again bytes at next whole inside in
    let e1 = ident_again bytes (at + 1) o.id id_is fits.numbered.0 range.0 in
    let e2 = field_count_again most bytes (at + 9) n n_is few in
    let e3 = byte_count_again bytes (at + 11) count count_is short in
    let e4 = fields_again o.fields bytes (at + 13) p5 s3.first.inside fits.numbered.1 range.1 s4.first in
    let first_place : next - count ≡ p5 = omega arith in
    let long : length o.bytes ≡ next - p5 = omega arith in
    let text : slice_range bytes (next - count) next ≡ o.bytes =
    ap (λ (k : ℕ). take (next - k) (drop k bytes)) first_place ∙ ap (λ (t : List ℕ). take (next - p5) t) s4.second.parts ∙ take_at o.bytes (drop next bytes) (next - p5) long in
    let made : List ℕ → Result (Slot × ℕ) LayoutFault = λ t. Ok (Live (record { id = o.id; fields = o.fields; bytes = t }), next) in
    rw (e0, e1, e2, e3, e4) (ap made text)

moved_again : (most : ℕ) (bytes : List ℕ) (at : ℕ) (to : Addr) (next : ℕ) → at ≤ length bytes → IsInRange (Moved to) → IsSpelled most bytes at (Moved to) next → moved_at bytes at ≡ Ok (Moved to, next)
unfolding moved_at spelling
moved_again most bytes at to next start range s =
    let s0 = Stands-split bytes (2 ∷ []) (address to) at (at + 1) next start refl s.stands in
    let ended : at + 1 + length (address to) ≡ next = Stands-end bytes (address to) (at + 1) next s0.first.inside s0.second in
    let twelve : length (address to) ≡ 12 = unfold address in refl in
    let inside : next ≤ length bytes = s0.second.inside in
    let long : at + 13 ≤ length bytes = omega arith in
    let e = target_again bytes (at + 1) next to s0.first.inside s.fits.numbered range s0.second in
    let place : at + 13 ≡ next = omega arith in
    passes (ltb (length bytes) (at + 13)) (Err (Short at)) (target_at bytes (at + 1) >>= λ a. Ok (Moved a, at + 13)) (le-ltb _ _ long)
    ∙ rw e (ap (λ (k : ℕ). Ok (Moved to, k)) place)

-- what is spelled at a place is read there
pub slot_again : (most : ℕ) (bytes : List ℕ) (at : ℕ) (slot : Slot) (next : ℕ) → most < 65536 → at ≤ length bytes → IsInRange slot → IsSpelled most bytes at slot next → slot_at most bytes at ≡ Ok (slot, next)
unfolding slot_at spelling
slot_again most bytes at (Live o) next small start range s =
    let kind : get_or bytes at 0 ≡ 1 = byte_is bytes (big_bytes 8 o.id ++ (big_bytes 2 (length o.fields) ++ (big_bytes 2 (length o.bytes) ++ (flat_map field o.fields ++ o.bytes)))) at next 1 s.stands in
    let s0 = Stands-split bytes (1 ∷ []) (big_bytes 8 o.id ++ (big_bytes 2 (length o.fields) ++ (big_bytes 2 (length o.bytes) ++ (flat_map field o.fields ++ o.bytes)))) at (at + 1) next start refl s.stands in
    let inside : at + 1 ≤ length bytes = s0.first.inside in
    let chosen : ℕ → Result (Slot × ℕ) LayoutFault = λ k. cond (eqb k 1) (live_at most bytes at) (cond (eqb k 2) (moved_at bytes at) (Err (Kind at k))) in
    passes (leb (length bytes) at) (Err (Short at)) (chosen (get_or bytes at 0)) (lt-leb _ _ (omega arith)) ∙ ap chosen kind ∙ live_again most bytes at o next small start range s
slot_again most bytes at (Moved to) next small start range s =
    let kind : get_or bytes at 0 ≡ 2 = byte_is bytes (address to) at next 2 s.stands in
    let s0 = Stands-split bytes (2 ∷ []) (address to) at (at + 1) next start refl s.stands in
    let inside : at + 1 ≤ length bytes = s0.first.inside in
    let chosen : ℕ → Result (Slot × ℕ) LayoutFault = λ k. cond (eqb k 1) (live_at most bytes at) (cond (eqb k 2) (moved_at bytes at) (Err (Kind at k))) in
    passes (leb (length bytes) at) (Err (Short at)) (chosen (get_or bytes at 0)) (lt-leb _ _ (omega arith)) ∙ ap chosen kind ∙ moved_again most bytes at to next start range s
