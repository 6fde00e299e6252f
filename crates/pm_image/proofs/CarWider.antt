-- What is read of a car's page within one limit on the fields of an object is read alike within a greater one.
use Rattle.std.proofs.Common.{◌≡◌, ℕ, zero, suc, ◌+◌, ◌≤◌, cond, eqb, ltb, ◌||◌, ◌&&◌, List, get_or, Result, Ok, Err, refl, sym, ap, ◌∙◌}
use Rattle.pm_types.specs.declared.limits.TheConstants.{LAST_SLOT, CAR_HEAD_BYTES}
use Rattle.pm_types.specs.declared.object.Slot.{Slot}
use Rattle.pm_layout.specs.declared.fault.LayoutFault.{LayoutFault}
use Rattle.pm_layout.specs.Reading.{number_from, slot_at}
use Rattle.pm_layout.proofs.Wider.{slot_more}
use Rattle.pm_image.specs.declared.car.CarImage.{CarImage}
use Rattle.pm_image.specs.Steps.{tested, magic_at}
use Rattle.pm_types.proofs.Results.{bind_ok, bound, if_ok}
use Rattle.pm_image.specs.CarPages.{CarScope, Numbers, car_at, car_magic, is_named, is_short, is_taken, numbered, record_at, records_at, with_identity}

numbered_from : (place number : ℕ) (read : Result (Slot × ℕ) LayoutFault) (x : (ℕ × Slot) × ℕ) → numbered place number read ≡ Ok x → (y : Slot × ℕ) × (read ≡ Ok y)
numbered_from place number (Ok y) x e = (y, refl)
numbered_from place number (Err fault) x e = absurd cc

-- the scope of a greater limit
abbrev pub wider : CarScope → ℕ → CarScope
wider scope more = record scope { most = more }

record_more : (scope : CarScope) (more : ℕ) (met : Numbers) (least : ℕ) (page : List ℕ) (place : ℕ) (x : (ℕ × Slot) × ℕ) → scope.most ≤ more
    → record_at scope met least page place ≡ Ok x → record_at (wider scope more) met least page place ≡ Ok x
unfolding record_at
record_more scope more met least page place x le is =
    let number = number_from 4 page place in
    let read = slot_at scope.most page (place + 4) in
    let id = number_from 8 page (place + 5) in
    let rest : Result (Slot × ℕ) LayoutFault → Result ((ℕ × Slot) × ℕ) ℕ = λ r.
    cond (is_short r || (ltb number least || ltb LAST_SLOT number)) (Err place)
    (cond (eqb (get_or page (place + 4) 0) 1 && is_taken scope.next met id) (Err (place + 5)) (numbered place number r)) in
    let g = if_ok (is_short read || (ltb number least || ltb LAST_SLOT number)) place (cond (eqb (get_or page (place + 4) 0) 1 && is_taken scope.next met id) (Err (place + 5)) (numbered place number read)) x is in
    let h = if_ok (eqb (get_or page (place + 4) 0) 1 && is_taken scope.next met id) (place + 5) (numbered place number read) x g.1 in
    let n = numbered_from place number read x h.1 in
    ap rest (slot_more scope.most more page (place + 4) n.0 le n.1 ∙ sym n.1) ∙ is

records_more : (scope : CarScope) (more : ℕ) (page : List ℕ) (n : ℕ) (met : Numbers) (least place : ℕ) (x : List (ℕ × Slot) × ℕ) → scope.most ≤ more
    → records_at scope met least page n place ≡ Ok x → records_at (wider scope more) met least page n place ≡ Ok x
unfolding records_at
records_more scope more page zero met least place x le is = is
records_more scope more page (suc n) met least place x le is =
    let one = bind_ok (record_at scope met least page place) _ x is in
    let two = bind_ok (records_at scope (with_identity met one.0.0.1) (one.0.0.0 + 1) page n one.0.1) _ x one.2 in
    bound (record_at (wider scope more) met least page place) _ one.0 (Ok x) (record_more scope more met least page place one.0 le one.1)
    (bound (records_at (wider scope more) (with_identity met one.0.0.1) (one.0.0.0 + 1) page n one.0.1) _ two.0 (Ok x)
    (records_more scope more page n (with_identity met one.0.0.1) (one.0.0.0 + 1) one.0.1 two.0 le two.1) two.2)

pub car_more : (scope : CarScope) (more : ℕ) (met : Numbers) (page : List ℕ) (car : CarImage) → scope.most ≤ more → car_at scope met page ≡ Ok car → car_at (wider scope more) met page ≡ Ok car
unfolding car_at
car_more scope more met page car le is =
    let a = bind_ok (magic_at car_magic page) _ car is in
    let b = bind_ok (tested (is_named scope.number (number_from 8 page 4)) 4) _ car a.2 in
    let c = bind_ok (records_at scope met 0 page (number_from 2 page 12) CAR_HEAD_BYTES) _ car b.2 in
    bound (magic_at car_magic page) _ a.0 (Ok car) a.1
    (bound (tested (is_named scope.number (number_from 8 page 4)) 4) _ b.0 (Ok car) b.1
    (bound (records_at (wider scope more) met 0 page (number_from 2 page 12) CAR_HEAD_BYTES) _ c.0 (Ok car) (records_more scope more page (number_from 2 page 12) met 0 CAR_HEAD_BYTES c.0 le c.1) c.2))
