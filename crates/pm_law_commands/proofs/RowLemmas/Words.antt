-- The law of sources and effective sets as it is spoken.
use Rattle.std.proofs.Common.{◌≡◌, ℕ, Bool, true, false, cond, not, ◌==◌, Option, Some, None, ap, refl, sym, ◌∙◌}
use Rattle.std.proofs.lemmas.Bool.{cond-true, eqb-true, eq-eqb}
use Rattle.std.proofs.lemmas.Option.{none-some, cond_some}
use Rattle.pm_types.specs.declared.address.Addr.{Addr}
use Rattle.pm_types.specs.declared.source.RefSource.{RefSource}
use Rattle.pm_types.specs.declared.source.RefSource.TheVariants.{Root, Handle, Field}
use Rattle.pm_view.specs.Sources.{slot_in, outside}
use Rattle.pm_view.specs.Seen.{Seen, kept, IsTied, IsTiedInWords}

slot_in_at : (e n : ℕ) → slot_in e (Some (record { car = e; slot = n })) ≡ Some n
slot_in_at e n = cond-true _ _ _ (eq-eqb e e refl)

from_slot_in : (e n : ℕ) (o : Option Addr) → slot_in e o ≡ Some n → o ≡ Some (record { car = e; slot = n })
from_slot_in e n None h = absurd (none-some n h)
from_slot_in e n (Some a) h =
    let p = cond_some (a.car == e) a.slot n h in
    let c = eqb-true a.car e p.0 in
    λ i. Some (record { car = c i; slot = p.1 i })

-- the law, in words
pub in_words : (s : Seen) → IsTied s → IsTiedInWords s
in_words s law = record {
  found = λ e n x free up out is. law.reads e x free up out ∙ ap (slot_in e) is ∙ slot_in_at e n;
  entry = λ e n x free is. let r = law.holds e x n free is in (r.0, from_slot_in e n (s.stored x) r.1);
}

all_kept : (s : Seen) → ((car : ℕ) → s.aside car ≡ false) → (x : RefSource) → kept s x ≡ true
all_kept s none (Root n) = refl
all_kept s none (Handle c r) = refl
all_kept s none (Field a i) = ap not (none a.car)

-- while no car is set aside, the effective set of a car has exactly the sources outside it that name its slots
pub exactly : (s : Seen) → IsTied s → ((car : ℕ) → s.aside car ≡ false) → (car : ℕ) (x : RefSource) → s.effective car x ≡ cond (outside car x) (slot_in car (s.stored x)) None
exactly s law none car x = by_case (outside car x) refl
  where
    outsider : (found : Option ℕ) → outside car x ≡ false → s.effective car x ≡ found → found ≡ None
    outsider None inside is = refl
    outsider (Some n) inside is = let held = (law.holds car x n (none car) is).0 in let clash : true ≡ false = sym held ∙ inside in cc

    by_case : (out : Bool) → outside car x ≡ out → s.effective car x ≡ cond out (slot_in car (s.stored x)) None
    by_case true out = law.reads car x (none car) (all_kept s none x) out
    by_case false out = outsider (s.effective car x) out refl
