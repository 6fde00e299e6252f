-- The worse one of two faults.
use Rattle.std.proofs.Common.{◌≡◌, ◌⊎◌, inl, inr, ◌<◌, ◌≤◌, Bool, true, false, if◌then◌else◌, nat_lt, List, [], ◌∷◌, ◌++◌, Option, Some, None, arith, refl, ap}
use Rattle.std.specs.List.{AllByRecursion}
use Rattle.std.proofs.lemmas.Bool.Decides.{nat_tests}
use Rattle.pm_types.specs.declared.fault.EngineFault.TheVariants.{Memory, Disk, Reopen}
use Rattle.pm_seats.specs.declared.fault.SeatFault.{SeatFault}
use Rattle.pm_seats.specs.declared.fault.SeatFault.TheVariants.{Engine as Answered, Spent}
use Rattle.pm_callers.specs.Faults.{is_disk, weight, worse_of, worst_from}

abbrev Met : Type 0
Met = Option SeatFault

module _ (first second : Met) where
  -- it is one of the two, and weighs no less than either
  pub worse_by : (b : Bool) → nat_lt (weight first) (weight second) ≡ b → ((worse_of first second ≡ first) ⊎ (worse_of first second ≡ second)) × (weight first ≤ weight (worse_of first second)) × (weight second ≤ weight (worse_of first second))
  worse_by true is =
      let chosen : worse_of first second ≡ second = ap (λ (b : Bool). if b then second else first) is in
      let less : weight first < weight second = grind (arith, nat_tests) in
      let same = ap weight chosen in
      (inr chosen, omega (arith, less, same), omega (arith, same))
  worse_by false is =
      let chosen : worse_of first second ≡ first = ap (λ (b : Bool). if b then second else first) is in
      let more : weight second ≤ weight first = grind (arith, nat_tests) in
      let same = ap weight chosen in
      (inl chosen, omega (arith, same), omega (arith, more, same))

  pub worse_one : (worse_of first second ≡ first) ⊎ (worse_of first second ≡ second)
  worse_one = (worse_by (nat_lt (weight first) (weight second)) refl).0

  pub worse_first : weight first ≤ weight (worse_of first second)
  worse_first = (worse_by (nat_lt (weight first) (weight second)) refl).1

  pub worse_second : weight second ≤ weight (worse_of first second)
  worse_second = (worse_by (nat_lt (weight first) (weight second)) refl).2

-- no fault is worse than none
pub worse_none : (met : Met) → worse_of None met ≡ met
worse_none None = refl
worse_none (Some (Spent events)) = refl
worse_none (Some (Answered (Memory none))) = refl
worse_none (Some (Answered (Reopen count))) = refl
worse_none (Some (Answered (Disk before after))) = refl

pub weightless : (met : Met) → weight met ≡ 0 → met ≡ None
weightless None is = refl
weightless (Some (Spent events)) is = absurd (omega (arith, is))
weightless (Some (Answered (Memory none))) is = absurd (omega (arith, is))
weightless (Some (Answered (Reopen count))) is = absurd (omega (arith, is))
weightless (Some (Answered (Disk before after))) is = absurd (omega (arith, is))

-- what weighs less than a Disk is none
pub no_disk : (met : Met) → weight met < 4 → is_disk met ≡ false
no_disk None less = refl
no_disk (Some (Spent events)) less = refl
no_disk (Some (Answered (Memory none))) less = refl
no_disk (Some (Answered (Reopen count))) less = refl
no_disk (Some (Answered (Disk before after))) less = absurd (omega (arith, less))

pub light : (met : Met) → is_disk met ≡ false → weight met < 4
light None is = omega arith
light (Some (Spent events)) is = omega arith
light (Some (Answered (Memory none))) is = omega arith
light (Some (Answered (Reopen count))) is = omega arith
light (Some (Answered (Disk before after))) is = absurd (cc is)

-- where the worse one is no Disk neither is
pub neither_disk : (first second : Met) → is_disk (worse_of first second) ≡ false → (is_disk first ≡ false) × (is_disk second ≡ false)
neither_disk first second is =
    let less = light (worse_of first second) is in
    let one = worse_first first second in
    let two = worse_second first second in
    (no_disk first (omega (arith, less, one)), no_disk second (omega (arith, less, two)))

-- one more
pub worst_more : (worst : Met) (all : List Met) (met : Met) → worst_from worst (all ++ met ∷ []) ≡ worse_of (worst_from worst all) met
worst_more worst [] met = refl
worst_more worst (one ∷ all) met = worst_more (worse_of worst one) all met

-- each weighs no more than the worst
pub worst_least : (worst : Met) (all : List Met) → weight worst ≤ weight (worst_from worst all)
worst_least worst [] = omega arith
worst_least worst (one ∷ all) = let here = worse_first worst one in let there = worst_least (worse_of worst one) all in omega (arith, here, there)

pub worst_each : (worst : Met) (all : List Met) → AllByRecursion (λ met. weight met ≤ weight (worst_from worst all)) all
worst_each worst [] = tt
worst_each worst (one ∷ all) = (let here = worse_second worst one in let there = worst_least (worse_of worst one) all in omega (arith, here, there), worst_each (worse_of worst one) all)
