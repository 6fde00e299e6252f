-- What is read of a car's page is spelled so.
use Rattle.std.proofs.Common.{◌≡◌, ℕ, zero, suc, ◌+◌, ◌-◌, ◌≤◌, Bool, true, false, cond, eqb, ltb, ◌||◌, ◌&&◌, List, [], ◌∷◌, ◌++◌, length, get_or, take, drop, replicate, Result, Ok, Err, refl, sym, ap, subst, ◌∙◌, arith}
use Rattle.std.specs.List.{flat_map, AllByRecursion}
use Rattle.std.proofs.lemmas.Bool.{ltb-false}
use Rattle.std.proofs.lemmas.List.{take-append-drop}
use Rattle.byteorder.specs.Endian.{big_bytes}
use Rattle.pm_types.specs.declared.limits.TheConstants.{PAGE_BYTES, LAST_SLOT, CAR_HEAD_BYTES}
use Rattle.pm_types.specs.declared.object.Slot.{Slot}
use Rattle.pm_types.specs.declared.object.Slot.TheVariants.{Live, Moved}
use Rattle.pm_layout.specs.declared.fault.LayoutFault.{LayoutFault}
use Rattle.pm_layout.specs.Spelling.{spelling, HasSpelling, Stands}
use Rattle.pm_layout.specs.Reading.{number_from, slot_at}
use Rattle.pm_layout.proofs.Steps.{neither}
use Rattle.pm_types.proofs.Results.{ok_same, if_ok, bind_ok}
use Rattle.pm_layout.proofs.Numbers.{IsBytes, wide_2, wide_4, wide_8}
use Rattle.pm_layout.proofs.Texts.{Stands-then, Stands-end, number_stands}
use Rattle.pm_layout.proofs.Slots.{slot_takes}
use Rattle.pm_image.specs.declared.car.CarImage.{CarImage}
use Rattle.pm_image.specs.Steps.{tested, magic_at, rest_at}
use Rattle.pm_types.specs.Results.{◌>>=◌}
use Rattle.pm_image.specs.CarPages.{CarScope, Numbers, HasCarPage, Ascend, AreFree, car_at, car_magic, car_spelling, is_named, is_short, is_taken, numbered, padded, record_at, record_spelling, records_at, with_identity}
use Rattle.pm_image.proofs.PageEnds.{tested_ok, magic_takes, rest_takes}
use Rattle.pm_image.proofs.SlotIdents.{is_live_slot, ident_of, slot_front}
use Rattle.pm_image.proofs.CarSizes.{records_length}

-- no object had the identity of the slot, if it has one
abbrev pub IsFree : ℕ → Numbers → Slot → Type 0
IsFree next met slot = is_live_slot slot ≡ true → is_taken next met (ident_of slot) ≡ false

-- a record that stands in the page
pub record IsRecord (scope : CarScope) (met : Numbers) (least : ℕ) (page : List ℕ) (place number : ℕ) (slot : Slot) (end : ℕ) : Type 0 where
  pub stands : Stands page place (record_spelling (number, slot)) end
  pub low : least ≤ number
  pub high : number ≤ LAST_SLOT
  pub free : IsFree scope.next met slot
  pub has : HasSpelling scope.most slot

numbered_ok : (place number : ℕ) (read : Result (Slot × ℕ) LayoutFault) (x : (ℕ × Slot) × ℕ) → numbered place number read ≡ Ok x → (y : Slot × ℕ) × (read ≡ Ok y) × (((number, y.0), y.1) ≡ x)
numbered_ok place number (Ok (slot, end)) x e = ((slot, end), refl, ok_same ((number, slot), end) x e)
numbered_ok place number (Err fault) x e = absurd cc

-- the second of two tests did not hold where the first did
not_both : (a b : Bool) → (a && b) ≡ false → a ≡ true → b ≡ false
not_both true b e is = e
not_both false b e is = absurd cc

record_takes : (scope : CarScope) (met : Numbers) (least : ℕ) (page : List ℕ) (place : ℕ) (x : (ℕ × Slot) × ℕ) → IsBytes page → record_at scope met least page place ≡ Ok x → IsRecord scope met least page place x.0.0 x.0.1 x.1
unfolding record_at
record_takes scope met least page place x fits is =
    let number = number_from 4 page place in
    let read = slot_at scope.most page (place + 4) in
    let id = number_from 8 page (place + 5) in
    let g = if_ok (is_short read || (ltb number least || ltb LAST_SLOT number)) place (cond (eqb (get_or page (place + 4) 0) 1 && is_taken scope.next met id) (Err (place + 5)) (numbered place number read)) x is in
    let range = neither (ltb number least) (ltb LAST_SLOT number) (neither (is_short read) (ltb number least || ltb LAST_SLOT number) g.0).1 in
    let h = if_ok (eqb (get_or page (place + 4) 0) 1 && is_taken scope.next met id) (place + 5) (numbered place number read) x g.1 in
    let n = numbered_ok place number read x h.1 in
    let front = slot_front scope.most page (place + 4) n.0 n.1 in
    let spelled = slot_takes scope.most page (place + 4) n.0 fits n.1 in
    let inside = front.inside in
    let there : place + 4 + 1 ≡ place + 5 = omega arith in
    let free : IsFree scope.next met n.0.0 = λ live.
    let ident : id ≡ ident_of n.0.0 = ap (λ (k : ℕ). number_from 8 page k) (sym there) ∙ front.ident live in
    ap (λ (k : ℕ). is_taken scope.next met k) (sym ident) ∙ not_both (eqb (get_or page (place + 4) 0) 1) (is_taken scope.next met id) h.0 (front.kind ∙ live) in
    let made : IsRecord scope met least page place number n.0.0 n.0.1 = record {
      stands = Stands-then page (big_bytes 4 number) (spelling n.0.0) place (place + 4) n.0.1 (number_stands 4 wide_4 page place (place + 4) refl (omega arith) fits) spelled.stands;
      low = ltb-false number least range.0;
      high = ltb-false LAST_SLOT number range.1;
      free = free;
      has = spelled.fits;
    } in
    subst (λ (y : (ℕ × Slot) × ℕ). IsRecord scope met least page place y.0.0 y.0.1 y.1) {x = ((number, n.0.0), n.0.1)} n.2 made

-- records that stand in the page
pub record AreRecords (scope : CarScope) (met : Numbers) (least : ℕ) (page : List ℕ) (place : ℕ) (rs : List (ℕ × Slot)) (end : ℕ) : Type 0 where
  pub stands : Stands page place (flat_map record_spelling rs) end
  pub ascend : Ascend least rs
  pub free : AreFree scope.next met rs
  pub slots : AllByRecursion (λ entry. HasSpelling scope.most entry.1) rs

free_more : (next : ℕ) (met : Numbers) (number : ℕ) (slot : Slot) (rs : List (ℕ × Slot)) → IsFree next met slot → AreFree next (with_identity met slot) rs → AreFree next met ((number, slot) ∷ rs)
free_more next met number (Live o) rs first others = (first refl, others)
free_more next met number (Moved to) rs first others = others

-- what was read, and how many they are
record RecordsRead (scope : CarScope) (met : Numbers) (least : ℕ) (page : List ℕ) (place n : ℕ) (x : List (ℕ × Slot) × ℕ) : Type 0 where
  records : AreRecords scope met least page place x.0 x.1
  counted : length x.0 ≡ n

record_first : (scope : CarScope) (met : Numbers) (least : ℕ) (page : List ℕ) (place n number : ℕ) (slot : Slot) (end last : ℕ) (rs : List (ℕ × Slot)) → IsRecord scope met least page place number slot end → RecordsRead scope (with_identity met slot) (number + 1) page end n (rs, last) → RecordsRead scope met least page place (suc n) ((number, slot) ∷ rs, last)
record_first scope met least page place n number slot end last rs first others = record {
  records = record {
    stands = Stands-then page (record_spelling (number, slot)) (flat_map record_spelling rs) place end last first.stands others.records.stands;
    ascend = (first.low, first.high, others.records.ascend);
    free = free_more scope.next met number slot rs first.free others.records.free;
    slots = (first.has, others.records.slots);
  };
  counted = ap suc others.counted;
}

records_take : (scope : CarScope) (page : List ℕ) (n : ℕ) (met : Numbers) (least place : ℕ) (x : List (ℕ × Slot) × ℕ) → IsBytes page → place ≤ length page → records_at scope met least page n place ≡ Ok x → RecordsRead scope met least page place n x
unfolding records_at
records_take scope page zero met least place x fits inside read =
    let none : List (ℕ × Slot) × ℕ = ([], place) in
    subst (λ (y : List (ℕ × Slot) × ℕ). RecordsRead scope met least page place 0 y) {x = none} (ok_same none x read) (record { records = record { stands = record { inside = inside; parts = refl }; ascend = tt; free = tt; slots = tt }; counted = refl })
records_take scope page (suc n) met least place x fits inside read =
    let a = bind_ok (record_at scope met least page place) (λ first. records_at scope (with_identity met first.0.1) (first.0.0 + 1) page n first.1 >>= λ others. Ok (first.0 ∷ others.0, others.1)) x read in
    let b = bind_ok (records_at scope (with_identity met a.0.0.1) (a.0.0.0 + 1) page n a.0.1) (λ others. Ok (a.0.0 ∷ others.0, others.1)) x a.2 in
    let made : List (ℕ × Slot) × ℕ = (a.0.0 ∷ b.0.0, b.0.1) in
    let first = record_takes scope met least page place a.0 fits a.1 in
    let others = records_take scope page n (with_identity met a.0.0.1) (a.0.0.0 + 1) a.0.1 b.0 fits first.stands.inside b.1 in
    subst (λ (y : List (ℕ × Slot) × ℕ). RecordsRead scope met least page place (suc n) y) {x = made} (ok_same made x b.2) (record_first scope met least page place n a.0.0.0 a.0.0.1 a.0.1 b.0.1 b.0.0 first others)

-- what a car is that was read
pub record IsCar (scope : CarScope) (met : Numbers) (page : List ℕ) (car : CarImage) : Type 0 where
  pub spelled : page ≡ padded (car_spelling car)
  pub has : HasCarPage scope met car
  pub named : is_named scope.number car.number ≡ true

-- the parts of a page stand one after the other
whole_car : (page : List ℕ) (rs : List (ℕ × Slot)) (end : ℕ) → length page ≡ PAGE_BYTES → IsBytes page → take 4 page ≡ car_magic → length rs ≡ number_from 2 page 12 → Stands page CAR_HEAD_BYTES (flat_map record_spelling rs) end
    → Stands page 0 (car_spelling (record { number = number_from 8 page 4; slots = rs })) end
unfolding car_spelling
whole_car page rs end len fits is_magic counted records =
    let s0 : Stands page 0 car_magic 4 = record { inside = omega arith; parts = sym (take-append-drop 4 page) ∙ ap (λ (t : List ℕ). t ++ drop 4 page) is_magic } in
    let s1 = number_stands 8 wide_8 page 4 12 refl (omega arith) fits in
    let s2 : Stands page 12 (big_bytes 2 (length rs)) CAR_HEAD_BYTES = subst (λ (k : ℕ). Stands page 12 (big_bytes 2 k) CAR_HEAD_BYTES) (sym counted) (number_stands 2 wide_2 page 12 CAR_HEAD_BYTES refl (omega arith) fits) in
    let t2 = Stands-then page (big_bytes 2 (length rs)) (flat_map record_spelling rs) 12 CAR_HEAD_BYTES end s2 records in
    let t1 = Stands-then page (big_bytes 8 (number_from 8 page 4)) (big_bytes 2 (length rs) ++ flat_map record_spelling rs) 4 12 end s1 t2 in
    Stands-then page car_magic (big_bytes 8 (number_from 8 page 4) ++ (big_bytes 2 (length rs) ++ flat_map record_spelling rs)) 0 4 end s0 t1

-- a text that a page begins with, and then zeros, is the page
with_zeros : (page text : List ℕ) (end : ℕ) → length page ≡ PAGE_BYTES → Stands page 0 text end → drop end page ≡ replicate (length page - end) 0 → page ≡ padded text
with_zeros page text end len front rest =
    let long : 0 + length text ≡ end = Stands-end page text 0 end (omega arith) front in
    let left : length page - end ≡ PAGE_BYTES - length text = omega arith in
    front.parts ∙ ap (λ (t : List ℕ). text ++ t) (rest ∙ ap (λ (n : ℕ). replicate n 0) left)

-- what is read of a car's page is spelled so
pub car_takes : (scope : CarScope) (met : Numbers) (page : List ℕ) (car : CarImage) → length page ≡ PAGE_BYTES → IsBytes page → car_at scope met page ≡ Ok car → IsCar scope met page car
unfolding car_at
car_takes scope met page car len fits read =
    let number = number_from 8 page 4 in
    let made : List (ℕ × Slot) → CarImage = λ rs. record { number = number; slots = rs } in
    let a = bind_ok (magic_at car_magic page) (λ is_car. tested (is_named scope.number number) 4 >>= λ is_right. records_at scope met 0 page (number_from 2 page 12) CAR_HEAD_BYTES >>= λ records. rest_at page records.1 >>= λ is_all. Ok (made records.0)) car read in
    let b = bind_ok (tested (is_named scope.number number) 4) (λ is_right. records_at scope met 0 page (number_from 2 page 12) CAR_HEAD_BYTES >>= λ records. rest_at page records.1 >>= λ is_all. Ok (made records.0)) car a.2 in
    let c = bind_ok (records_at scope met 0 page (number_from 2 page 12) CAR_HEAD_BYTES) (λ records. rest_at page records.1 >>= λ is_all. Ok (made records.0)) car b.2 in
    let d = bind_ok (rest_at page c.0.1) (λ is_all. Ok (made c.0.0)) car c.2 in
    let records = records_take scope page (number_from 2 page 12) met 0 CAR_HEAD_BYTES c.0 fits (omega arith) c.1 in
    let front = whole_car page c.0.0 c.0.1 len fits (magic_takes car_magic page a.0 a.1) records.counted records.records.stands in
    let end : CAR_HEAD_BYTES + length (flat_map record_spelling c.0.0) ≡ c.0.1 = Stands-end page (flat_map record_spelling c.0.0) CAR_HEAD_BYTES c.0.1 (omega arith) records.records.stands in
    let inside = records.records.stands.inside in
    let is : IsCar scope met page (made c.0.0) = record {
      spelled = with_zeros page (car_spelling (made c.0.0)) c.0.1 len front (rest_takes page c.0.1 d.0 d.1);
      has = record { fits = omega (arith, records_length c.0.0); ascend = records.records.ascend; free = records.records.free; slots = records.records.slots };
      named = tested_ok (is_named scope.number number) 4 b.0 b.1;
    } in
    subst (λ (k : CarImage). IsCar scope met page k) {x = made c.0.0} (ok_same (made c.0.0) car d.2) is
