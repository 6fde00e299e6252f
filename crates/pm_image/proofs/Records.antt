-- Reading records one after the other, as a loop does.
use Rattle.std.proofs.Common.{◌≡◌, ℕ, zero, suc, ◌+◌, ◌-◌, ◌<◌, ◌≤◌, Bool, cond, ltb, eqb, ◌||◌, ◌&&◌, List, [], ◌∷◌, ◌++◌, length, get_or, Option, Result, Ok, Err, refl, sym, ap, ◌∙◌, arith}
use Rattle.std.proofs.lemmas.List.{append-nil}
use Rattle.pm_types.specs.declared.limits.TheConstants.{LAST_SLOT}
use Rattle.pm_types.specs.declared.object.Slot.{Slot}
use Rattle.pm_layout.specs.Reading.{slot_at, number_from}
use Rattle.pm_layout.proofs.Laws.{nothing_left}
use Rattle.pm_image.specs.declared.fault.PageFault.{PageFault}
use Rattle.pm_image.specs.declared.fault.PageFault.TheVariants.{Malformed, Memory}
use Rattle.pm_types.specs.Results.{◌>>=◌}
use Rattle.pm_types.proofs.Fronts.{with_front_of, regroup_of}
use Rattle.pm_image.specs.Answers.{Gives}
use Rattle.pm_image.specs.CarPages.{CarScope, Numbers, is_short, is_taken, numbered, with_identity, record_at, records_at}
use Rattle.pm_image.specs.CarAnswers.{a_car}
use Rattle.pm_image.specs.Graphs.{with_identities}

-- a record of which there are fewer than five bytes is cut
pub cut_record : (scope : CarScope) (met : Numbers) (least : ℕ) (page : List ℕ) (place : ℕ) → length page < place + 5 → record_at scope met least page place ≡ Err place
unfolding record_at
cut_record scope met least page place lt =
    let number = number_from 4 page place in
    let rest : Bool → Result ((ℕ × Slot) × ℕ) ℕ = λ short.
    cond (short || (ltb number least || ltb LAST_SLOT number)) (Err place)
    (cond (eqb (get_or page (place + 4) 0) 1 && is_taken scope.next met (number_from 8 page (place + 5))) (Err (place + 5)) (numbered place number (slot_at scope.most page (place + 4)))) in
    ap rest (ap is_short (nothing_left scope.most page (place + 4) (omega arith)))

-- which number is expected of a car says nothing of its records
any_number : (most next : ℕ) (a b : Option ℕ) (met : Numbers) (least : ℕ) (page : List ℕ) (place : ℕ) → record_at (a_car most next a) met least page place ≡ record_at (a_car most next b) met least page place
unfolding record_at
any_number most next a b met least page place = refl

module _ (scope : CarScope) (page : List ℕ) where
  -- one record more was read
  pub goes_on : (met : Numbers) (least place count i : ℕ) (front : List (ℕ × Slot)) (r : (ℕ × Slot) × ℕ) (total : Result (List (ℕ × Slot) × ℕ) ℕ) → i < count → record_at scope met least page place ≡ Ok r
      → with_front_of front (records_at scope met least page (count - i) place) ≡ total → with_front_of (front ++ r.0 ∷ []) (records_at scope (with_identity met r.0.1) (r.0.0 + 1) page (count - (i + 1)) r.1) ≡ total
  unfolding records_at
  goes_on met least place count i front r total lt read so_far =
      let k : count - i ≡ suc (count - (i + 1)) = omega arith in
      let one : with_front_of front (records_at scope met least page (count - i) place) ≡ with_front_of (front ++ r.0 ∷ []) (records_at scope (with_identity met r.0.1) (r.0.0 + 1) page (count - (i + 1)) r.1) =
      rw (k, read) (regroup_of front r.0 (records_at scope (with_identity met r.0.1) (r.0.0 + 1) page (count - (i + 1)) r.1)) in
      sym one ∙ so_far

  -- a fault of one record is that of all
  pub ends : (met : Numbers) (least place count i : ℕ) (front : List (ℕ × Slot)) (at : ℕ) (total : Result (List (ℕ × Slot) × ℕ) ℕ) → i < count → record_at scope met least page place ≡ Err at
      → with_front_of front (records_at scope met least page (count - i) place) ≡ total → total ≡ Err at
  unfolding records_at
  ends met least place count i front at total lt read so_far =
      let k : count - i ≡ suc (count - (i + 1)) = omega arith in
      let one : with_front_of front (records_at scope met least page (count - i) place) ≡ Err at = rw (k, read) refl in
      sym so_far ∙ one

  -- the same of what was answered
  pub stops : (met : Numbers) (least place count i : ℕ) (front : List (ℕ × Slot)) (fault : PageFault) (total : Result (List (ℕ × Slot) × ℕ) ℕ) → i < count → Gives (Err fault) (record_at scope met least page place)
      → with_front_of front (records_at scope met least page (count - i) place) ≡ total → Gives (Err fault) total
  stops met least place count i front (Malformed at) total lt read so_far = ends met least place count i front at total lt read so_far
  stops met least place count i front (Memory _) total lt read so_far = tt

  -- all records were read
  pub is_done : (met : Numbers) (least place count i : ℕ) (front : List (ℕ × Slot)) (total : Result (List (ℕ × Slot) × ℕ) ℕ) → count ≤ i
      → with_front_of front (records_at scope met least page (count - i) place) ≡ total → total ≡ Ok (front, place)
  unfolding records_at
  is_done met least place count i front total le so_far =
      let k : count - i ≡ 0 = omega arith in
      let one : with_front_of front (records_at scope met least page (count - i) place) ≡ Ok (front, place) = rw k (ap (λ (rs : List (ℕ × Slot)). Ok (rs, place)) (append-nil front)) in
      sym so_far ∙ one

-- a record, and those that are read after it
abbrev pub and_others : ℕ × Slot → Result (List (ℕ × Slot) × ℕ) ℕ → Result (List (ℕ × Slot) × ℕ) ℕ
and_others r read = read >>= λ x. Ok (r ∷ x.0, x.1)

-- two ways to read the others that agree, read all alike
others_alike : (first : Result ((ℕ × Slot) × ℕ) ℕ) (f g : (ℕ × Slot) × ℕ → Result (List (ℕ × Slot) × ℕ) ℕ) → ((x : (ℕ × Slot) × ℕ) → f x ≡ g x) → (first >>= λ x. and_others x.0 (f x)) ≡ (first >>= λ x. and_others x.0 (g x))
others_alike (Ok x) f g alike = ap (and_others x.0) (alike x)
others_alike (Err at) f g alike = refl

pub any_numbers : (most next : ℕ) (a b : Option ℕ) (page : List ℕ) (n : ℕ) (met : Numbers) (least place : ℕ) → records_at (a_car most next a) met least page n place ≡ records_at (a_car most next b) met least page n place
unfolding records_at
any_numbers most next a b page zero met least place = refl
any_numbers most next a b page (suc n) met least place =
    let others : Option ℕ → (ℕ × Slot) × ℕ → Result (List (ℕ × Slot) × ℕ) ℕ = λ number first. records_at (a_car most next number) (with_identity met first.0.1) (first.0.0 + 1) page n first.1 in
    ap (λ (read : Result ((ℕ × Slot) × ℕ) ℕ). read >>= λ first. and_others first.0 (others a first)) (any_number most next a b met least page place)
    ∙ others_alike (record_at (a_car most next b) met least page place) (others a) (others b) (λ first. any_numbers most next a b page n (with_identity met first.0.1) (first.0.0 + 1) first.1)

-- the identities of records, and of one more
pub one_more : (met : Numbers) (rs : List (ℕ × Slot)) (r : ℕ × Slot) → with_identities met (rs ++ r ∷ []) ≡ with_identity (with_identities met rs) r.1
one_more met [] r = refl
one_more met (first ∷ rs) r = one_more (with_identity met first.1) rs r
