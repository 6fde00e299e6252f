-- What is read is spelled so, and what is spelled so is read.
use Rattle.std.proofs.Common.{◌≡◌, ℕ, zero, suc, ◌+◌, ◌-◌, ◌*◌, ◌<◌, ◌≤◌, cond, eqb, ltb, leb, ◌||◌, List, [], ◌∷◌, ◌++◌, length, get_or, drop, Option, Some, None, Result, Ok, Err, refl, sym, ap, subst, ◌∙◌, inl, inr, arith, length-take, length-drop}
use Rattle.std.specs.List.{flat_map, slice_range, AllByRecursion}
use Rattle.std.specs.Prelude.{IfOk}
use Rattle.std.proofs.lemmas.Bool.{eqb-true, ltb-false, ltb-true, leb-false}
use Rattle.byteorder.specs.Endian.{big_bytes}
use Rattle.pm_types.specs.declared.limits.TheConstants.{OBJECT_BYTES, LAST_ID}
use Rattle.pm_types.specs.declared.address.Addr.{Addr}
use Rattle.pm_types.specs.declared.object.Slot.{Slot}
use Rattle.pm_types.specs.declared.object.Slot.TheVariants.{Live, Moved}
use Rattle.pm_layout.specs.declared.fault.LayoutFault.{LayoutFault}
use Rattle.pm_layout.specs.declared.fault.LayoutFault.TheVariants.{Short, Kind, Fields, Count, Null, Ident}
use Rattle.pm_layout.specs.Spelling.{address, field, spelling, HasCar, Stands, IsSpelled}
use Rattle.pm_types.specs.Results.{◌>>=◌}
use Rattle.pm_layout.specs.Reading.{Gives, number_from, live_end, end_at, ident_at, field_count_at, byte_count_at, address_at, field_at, fields_at, live_at, target_at, moved_at, slot_at}
use Rattle.pm_layout.proofs.Steps.{chosen, neither, not_positive, not_zero}
use Rattle.pm_types.proofs.Results.{bind_ok, ok_same, if_ok, wanted_ok}
use Rattle.pm_layout.proofs.Numbers.{IsBytes, wide_2, wide_4, wide_8}
use Rattle.pm_layout.proofs.Texts.{Stands-then, number_stands, byte_stands, between_stands}

-- ---- what is read is spelled so

-- the twelve bytes of an address
pub address_stands : (bytes : List ℕ) (p q : ℕ) → p + 12 ≡ q → q ≤ length bytes → IsBytes bytes → Stands bytes p (address (address_at bytes p)) q
unfolding address
address_stands bytes p q e inside fits =
    Stands-then bytes (big_bytes 8 (number_from 8 bytes p)) (big_bytes 4 (number_from 4 bytes (p + 8))) p (p + 8) q
    (number_stands 8 wide_8 bytes p (p + 8) refl (omega arith) fits)
    (number_stands 4 wide_4 bytes (p + 8) q (omega arith) inside fits)

-- twelve zero bytes are those of a null field
null_address : (bytes : List ℕ) (p : ℕ) → number_from 8 bytes p ≡ 0 → number_from 4 bytes (p + 8) ≡ 0 → address (address_at bytes p) ≡ field None
unfolding address field
null_address bytes p car slot = ap (λ (n : ℕ). big_bytes 8 n ++ big_bytes 4 (number_from 4 bytes (p + 8))) car ∙ ap (λ (n : ℕ). big_bytes 8 0 ++ big_bytes 4 n) slot

some_field : (a : Addr) → field (Some a) ≡ address a
unfolding field
some_field a = refl

pub field_takes : (bytes : List ℕ) (p q : ℕ) (f : Option Addr) → p + 12 ≡ q → q ≤ length bytes → IsBytes bytes → field_at bytes p ≡ Ok f → Stands bytes p (field f) q × HasCar f
unfolding field_at
field_takes bytes p q f e inside fits read =
    let a = address_at bytes p in
    let whole = address_stands bytes p q e inside fits in
    let way = chosen (ltb 0 a.car) (Ok (Some a)) (cond (eqb a.slot 0) (Ok None) (Err (Null p))) (Ok f) read in
    elim way [
      | inl some ↦
          let P : Option Addr → Type 0 = λ g. Stands bytes p (field g) q × HasCar g in
          subst P (ok_same (Some a) f some.1) (subst (λ (t : List ℕ). Stands bytes p t q) (sym (some_field a)) whole, ltb-true 0 a.car some.0)
      | inr none ↦
          let g = wanted_ok (eqb a.slot 0) (Null p) (Ok None) f none.1 in
          let P : Option Addr → Type 0 = λ g. Stands bytes p (field g) q × HasCar g in
          subst P (ok_same None f g.1) (subst (λ (t : List ℕ). Stands bytes p t q) (null_address bytes p (not_positive a.car none.0) (eqb-true _ _ g.0)) whole, tt)
    ]

target_takes : (bytes : List ℕ) (p q : ℕ) (a : Addr) → p + 12 ≡ q → q ≤ length bytes → IsBytes bytes → target_at bytes p ≡ Ok a → Stands bytes p (address a) q × (0 < a.car)
unfolding target_at
target_takes bytes p q a e inside fits read =
    let b = address_at bytes p in
    let g = wanted_ok (ltb 0 b.car) (Null p) (Ok b) a read in
    let P : Addr → Type 0 = λ x. Stands bytes p (address x) q × (0 < x.car) in
    subst P (ok_same b a g.1) (address_stands bytes p q e inside fits, ltb-true 0 b.car g.0)

-- nothing stands between a place and itself
nothing_stands : (bytes : List ℕ) (p q : ℕ) → p ≡ q → q ≤ length bytes → Stands bytes p [] q
nothing_stands bytes p q e inside = record { inside = inside; parts = ap (λ (k : ℕ). drop k bytes) e }

-- what the fields that were read are
record FieldsRead (bytes : List ℕ) (p n q : ℕ) (fs : List (Option Addr)) : Type 0 where
  stands : Stands bytes p (flat_map field fs) q
  counted : length fs ≡ n
  cars : AllByRecursion HasCar fs

fields_take : (n : ℕ) (bytes : List ℕ) (p q : ℕ) (fs : List (Option Addr)) → p + 12 * n ≡ q → q ≤ length bytes → IsBytes bytes → fields_at bytes n p ≡ Ok fs → FieldsRead bytes p n q fs
unfolding fields_at
fields_take zero bytes p q fs e inside fits read =
    subst (λ (x : List (Option Addr)). FieldsRead bytes p 0 q x) (ok_same [] fs read) (record { stands = nothing_stands bytes p q (omega arith) inside; counted = refl; cars = tt })
fields_take (suc n) bytes p q fs e inside fits read =
    let a = bind_ok (field_at bytes p) (λ first. fields_at bytes n (p + 12) >>= λ others. Ok (first ∷ others)) fs read in
    let b = bind_ok (fields_at bytes n (p + 12)) (λ others. Ok (a.0 ∷ others)) fs a.2 in
    let first = field_takes bytes p (p + 12) a.0 refl (omega arith) fits a.1 in
    let others = fields_take n bytes (p + 12) q b.0 (omega arith) inside fits b.1 in
    subst (λ (x : List (Option Addr)). FieldsRead bytes p (suc n) q x) (ok_same (a.0 ∷ b.0) fs b.2) (record {
      stands = Stands-then bytes (field a.0) (flat_map field b.0) p (p + 12) q first.0 others.stands;
      counted = ap suc others.counted;
      cars = (first.1, others.cars);
    })

pub end_takes : (bytes : List ℕ) (at end : ℕ) → end_at bytes at ≡ Ok end → (live_end bytes at ≡ end) × (end ≤ length bytes)
unfolding end_at
end_takes bytes at end read =
    let g = if_ok (ltb (length bytes) (at + 13)) (Short at) (cond (ltb (length bytes) (live_end bytes at)) (Err (Short at)) (Ok (live_end bytes at))) end read in
    let h = if_ok (ltb (length bytes) (live_end bytes at)) (Short at) (Ok (live_end bytes at)) end g.1 in
    let e = ok_same (live_end bytes at) end h.1 in
    let inside : live_end bytes at ≤ length bytes = ltb-false _ _ h.0 in
    (e, subst (λ (k : ℕ). k ≤ length bytes) e inside)

pub ident_takes : (bytes : List ℕ) (p id : ℕ) → ident_at bytes p ≡ Ok id → (number_from 8 bytes p ≡ id) × (0 < id) × (id ≤ LAST_ID)
unfolding ident_at
ident_takes bytes p id read =
    let n = number_from 8 bytes p in
    let g = if_ok (eqb n 0 || ltb LAST_ID n) (Ident p) (Ok n) id read in
    let both = neither (eqb n 0) (ltb LAST_ID n) g.0 in
    let e = ok_same n id g.1 in
    let P : ℕ → Type 0 = λ k. (n ≡ k) × (0 < k) × (k ≤ LAST_ID) in
    subst P e (refl, not_zero n both.0, ltb-false LAST_ID n both.1)

pub field_count_takes : (most : ℕ) (bytes : List ℕ) (p n : ℕ) → field_count_at most bytes p ≡ Ok n → (number_from 2 bytes p ≡ n) × (n ≤ most)
unfolding field_count_at
field_count_takes most bytes p n read =
    let m = number_from 2 bytes p in
    let g = if_ok (ltb most m) (Fields p m) (Ok m) n read in
    let P : ℕ → Type 0 = λ k. (m ≡ k) × (k ≤ most) in
    subst P (ok_same m n g.1) (refl, ltb-false most m g.0)

byte_count_takes : (bytes : List ℕ) (p n : ℕ) → byte_count_at bytes p ≡ Ok n → (number_from 2 bytes p ≡ n) × (n ≤ OBJECT_BYTES)
unfolding byte_count_at
byte_count_takes bytes p n read =
    let m = number_from 2 bytes p in
    let g = if_ok (ltb OBJECT_BYTES m) (Count p m) (Ok m) n read in
    let P : ℕ → Type 0 = λ k. (m ≡ k) × (k ≤ OBJECT_BYTES) in
    subst P (ok_same m n g.1) (refl, ltb-false OBJECT_BYTES m g.0)

-- the last bytes before a place are as many as they are
last_length : (bytes : List ℕ) (n end : ℕ) → n ≤ end → end ≤ length bytes → length (slice_range bytes (end - n) end) ≡ n
last_length bytes n end le inside = omega (arith, length-take (end - (end - n)) (drop (end - n) bytes), length-drop (end - n) bytes)

-- the parts of a Live slot that was read stand one after the other
live_stands : (bytes : List ℕ) (at id n count end : ℕ) (fs : List (Option Addr)) → IsBytes bytes → end ≤ length bytes → at + 13 + 12 * n + count ≡ end → get_or bytes at 0 ≡ 1
    → number_from 8 bytes (at + 1) ≡ id → number_from 2 bytes (at + 9) ≡ n → number_from 2 bytes (at + 11) ≡ count → FieldsRead bytes (at + 13) n (end - count) fs
    → Stands bytes at (spelling (Live (record { id = id; fields = fs; bytes = slice_range bytes (end - count) end }))) end
unfolding spelling
live_stands bytes at id n count end fs fits inside e kind ident fields_is count_is read =
    let text = slice_range bytes (end - count) end in
    let long : length text ≡ count = last_length bytes count end (omega arith) inside in
    let s0 = byte_stands bytes at 1 (omega arith) kind in
    let s1 : Stands bytes (at + 1) (big_bytes 8 id) (at + 9) = subst (λ (k : ℕ). Stands bytes (at + 1) (big_bytes 8 k) (at + 9)) ident (number_stands 8 wide_8 bytes (at + 1) (at + 9) (omega arith) (omega arith) fits) in
    let s2 : Stands bytes (at + 9) (big_bytes 2 (length fs)) (at + 11) = subst (λ (k : ℕ). Stands bytes (at + 9) (big_bytes 2 k) (at + 11)) (fields_is ∙ sym read.counted) (number_stands 2 wide_2 bytes (at + 9) (at + 11) (omega arith) (omega arith) fits) in
    let s3 : Stands bytes (at + 11) (big_bytes 2 (length text)) (at + 13) = subst (λ (k : ℕ). Stands bytes (at + 11) (big_bytes 2 k) (at + 13)) (count_is ∙ sym long) (number_stands 2 wide_2 bytes (at + 11) (at + 13) (omega arith) (omega arith) fits) in
    let s5 = between_stands bytes (end - count) end (omega arith) inside in
    let t4 = Stands-then bytes (flat_map field fs) text (at + 13) (end - count) end read.stands s5 in
    let t3 = Stands-then bytes (big_bytes 2 (length text)) (flat_map field fs ++ text) (at + 11) (at + 13) end s3 t4 in
    let t2 = Stands-then bytes (big_bytes 2 (length fs)) (big_bytes 2 (length text) ++ (flat_map field fs ++ text)) (at + 9) (at + 11) end s2 t3 in
    let t1 = Stands-then bytes (big_bytes 8 id) (big_bytes 2 (length fs) ++ (big_bytes 2 (length text) ++ (flat_map field fs ++ text))) (at + 1) (at + 9) end s1 t2 in
    Stands-then bytes (1 ∷ []) (big_bytes 8 id ++ (big_bytes 2 (length fs) ++ (big_bytes 2 (length text) ++ (flat_map field fs ++ text)))) at (at + 1) end s0 t1

live_takes : (most : ℕ) (bytes : List ℕ) (at : ℕ) (x : Slot × ℕ) → IsBytes bytes → at < length bytes → get_or bytes at 0 ≡ 1 → live_at most bytes at ≡ Ok x → IsSpelled most bytes at x.0 x.1
unfolding live_at
live_takes most bytes at x fits lt kind read =
    let made : ℕ → ℕ → ℕ → List (Option Addr) → Slot × ℕ = λ end id count fs. (Live (record { id = id; fields = fs; bytes = slice_range bytes (end - count) end }), end) in
    let a = bind_ok (end_at bytes at) (λ end. ident_at bytes (at + 1) >>= λ id. field_count_at most bytes (at + 9) >>= λ n. byte_count_at bytes (at + 11) >>= λ count. fields_at bytes n (at + 13) >>= λ fs. Ok (made end id count fs)) x read in
    let b = bind_ok (ident_at bytes (at + 1)) (λ id. field_count_at most bytes (at + 9) >>= λ n. byte_count_at bytes (at + 11) >>= λ count. fields_at bytes n (at + 13) >>= λ fs. Ok (made a.0 id count fs)) x a.2 in
    let c = bind_ok (field_count_at most bytes (at + 9)) (λ n. byte_count_at bytes (at + 11) >>= λ count. fields_at bytes n (at + 13) >>= λ fs. Ok (made a.0 b.0 count fs)) x b.2 in
    let d = bind_ok (byte_count_at bytes (at + 11)) (λ count. fields_at bytes c.0 (at + 13) >>= λ fs. Ok (made a.0 b.0 count fs)) x c.2 in
    let f = bind_ok (fields_at bytes c.0 (at + 13)) (λ fs. Ok (made a.0 b.0 d.0 fs)) x d.2 in
    let end = end_takes bytes at a.0 a.1 in
    let ident = ident_takes bytes (at + 1) b.0 b.1 in
    let n = field_count_takes most bytes (at + 9) c.0 c.1 in
    let count = byte_count_takes bytes (at + 11) d.0 d.1 in
    let whole : at + 13 + 12 * c.0 + d.0 ≡ a.0 = omega (arith, end.0, n.0, count.0) in
    let inside : a.0 ≤ length bytes = end.1 in
    let fs = fields_take c.0 bytes (at + 13) (a.0 - d.0) f.0 (omega arith) (omega arith) fits f.1 in
    let long = last_length bytes d.0 a.0 (omega arith) inside in
    let spelled : IsSpelled most bytes at (made a.0 b.0 d.0 f.0).0 a.0 = record {
      fits = record { within = (omega (arith, fs.counted, n.1), omega (arith, long, count.1)); numbered = (ident.1, fs.cars) };
      stands = live_stands bytes at b.0 c.0 d.0 a.0 f.0 fits inside whole kind ident.0 n.0 count.0 fs;
    } in
    subst (λ (y : Slot × ℕ). IsSpelled most bytes at y.0 y.1) {x = made a.0 b.0 d.0 f.0} (ok_same (made a.0 b.0 d.0 f.0) x f.2) spelled

moved_takes : (most : ℕ) (bytes : List ℕ) (at : ℕ) (x : Slot × ℕ) → IsBytes bytes → at < length bytes → get_or bytes at 0 ≡ 2 → moved_at bytes at ≡ Ok x → IsSpelled most bytes at x.0 x.1
unfolding moved_at spelling
moved_takes most bytes at x fits lt kind read =
    let made : Addr → Slot × ℕ = λ to. (Moved to, at + 13) in
    let g = if_ok (ltb (length bytes) (at + 13)) (Short at) (target_at bytes (at + 1) >>= λ to. Ok (made to)) x read in
    let a = bind_ok (target_at bytes (at + 1)) (λ to. Ok (made to)) x g.1 in
    let inside : at + 13 ≤ length bytes = ltb-false _ _ g.0 in
    let to = target_takes bytes (at + 1) (at + 13) a.0 (omega arith) inside fits a.1 in
    let spelled : IsSpelled most bytes at (Moved a.0) (at + 13) = record {
      fits = record { within = tt; numbered = to.1 };
      stands = Stands-then bytes (2 ∷ []) (address a.0) at (at + 1) (at + 13) (byte_stands bytes at 2 lt kind) to.0;
    } in
    subst (λ (y : Slot × ℕ). IsSpelled most bytes at y.0 y.1) (ok_same (made a.0) x a.2) spelled

-- what is read is spelled there
pub slot_takes : (most : ℕ) (bytes : List ℕ) (at : ℕ) (x : Slot × ℕ) → IsBytes bytes → slot_at most bytes at ≡ Ok x → IsSpelled most bytes at x.0 x.1
unfolding slot_at
slot_takes most bytes at x fits read =
    let kind = get_or bytes at 0 in
    let g = if_ok (leb (length bytes) at) (Short at) (cond (eqb kind 1) (live_at most bytes at) (cond (eqb kind 2) (moved_at bytes at) (Err (Kind at kind)))) x read in
    let lt : at < length bytes = leb-false _ _ g.0 in
    let way = chosen (eqb kind 1) (live_at most bytes at) (cond (eqb kind 2) (moved_at bytes at) (Err (Kind at kind))) (Ok x) g.1 in
    elim way [
      | inl live ↦ live_takes most bytes at x fits lt (eqb-true kind 1 live.0) live.1
      | inr other ↦
          let h = wanted_ok (eqb kind 2) (Kind at kind) (moved_at bytes at) x other.1 in
          moved_takes most bytes at x fits lt (eqb-true kind 2 h.0) h.1
    ]

-- what was answered is spelled there
pub is_found : (most : ℕ) (bytes : List ℕ) (at : ℕ) (r : Result (Slot × ℕ) LayoutFault) → IsBytes bytes → Gives r (slot_at most bytes at) → IfOk r (λ x. IsSpelled most bytes at x.0 x.1)
is_found most bytes at (Ok x) fits given = slot_takes most bytes at x fits given
is_found most bytes at (Err e) fits given = tt
