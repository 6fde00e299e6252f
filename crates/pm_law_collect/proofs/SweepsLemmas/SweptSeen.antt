-- An object that is swept: sources and effective sets stay tied.
use Rattle.std.proofs.Common.{◌≡◌, ℕ, true, false, not, Some, None, ⊎_elim, ap, refl, sym, ◌∙◌, subst}
use Rattle.std.proofs.lemmas.Bool.{and_from, and_left, cases_Bool, not_from_false, not-true, cond-true, cond-false, both_ways, true≢false, false_from_ne_true}
use Rattle.pm_types.specs.declared.address.Addr.{Addr}
use Rattle.pm_types.specs.declared.source.RefSource.{RefSource}
use Rattle.pm_types.specs.declared.source.RefSource.TheVariants.{Root, Handle, Field}
use Rattle.pm_cars.specs.declared.look.Look.{Look}
use Rattle.pm_cars.specs.declared.look.Look.TheVariants.{Live, Moved, Gone}
use Rattle.pm_view.specs.Sources.{same_address, is_field_at, outside, slot_in}
use Rattle.pm_view.specs.Seen.{Seen, kept, Leads, IsTied}
use Rattle.pm_law_commands.proofs.RowLemmas.SameSource.{same_address-true}
use Rattle.pm_law_commands.proofs.RowLemmas.Spreading.{changed, heard_change}
use Rattle.pm_law_collect.proofs.PhasesLemmas.Small.{none_some, none_from, left_none}

-- t is s after the object at an address was dropped and its references withdrawn
pub record IsSweptSeen (s t : Seen) (at : Addr) : Type 0 where
  pub aside : (e : ℕ) → t.aside e ≡ s.aside e
  pub from : (e : ℕ) → t.from e ≡ s.from e
  pub look : (a : Addr) → same_address at a ≡ false → t.look a ≡ s.look a
  pub stored_here : (i : ℕ) → t.stored (Field at i) ≡ None
  pub stored : (y : RefSource) → is_field_at at y ≡ false → t.stored y ≡ s.stored y
  pub effective_here : (e i : ℕ) → t.effective e (Field at i) ≡ changed (heard_change s.aside (Field at i) (s.stored (Field at i)) None e) (s.effective e (Field at i))
  pub effective : (e : ℕ) (y : RefSource) → is_field_at at y ≡ false → t.effective e y ≡ s.effective e y

pub field_is : (at : Addr) (y : RefSource) → is_field_at at y ≡ true → (i : ℕ) × (y ≡ Field at i)
field_is at (Root n) h = absurd (true≢false (sym h))
field_is at (Handle c r) h = absurd (true≢false (sym h))
field_is at (Field a i) h = (i, ap (λ b. Field b i) (sym (same_address-true at a h)))

module _ (s t : Seen) (at : Addr) (law : IsTied s) (set : s.aside at.car ≡ true) (sw : IsSweptSeen s t at) where
  same_kept : (y : RefSource) → kept t y ≡ kept s y
  same_kept (Root n) = refl
  same_kept (Handle c r) = refl
  same_kept (Field a i) = ap not (sw.aside a.car)

  -- a source that is kept is no field of the swept object
  not_here : (y : RefSource) → kept s y ≡ true → is_field_at at y ≡ false
  not_here y up = false_from_ne_true (is_field_at at y) (λ h.
      let k = field_is at y h in
      both_ways (s.aside at.car) (not-true (s.aside at.car) (ap (kept s) (sym k.1) ∙ up)) set)

  here_gone : (e i : ℕ) → s.aside e ≡ false → t.effective e (Field at i) ≡ None
  here_gone e i free =
      sw.effective_here e i
      ∙ ⊎_elim
      (λ (h : outside e (Field at i) ≡ true).
      ap (λ w. changed w (s.effective e (Field at i))) (cond-true _ _ _ (and_from _ _ h (not_from_false _ free)))
      ∙ left_none _ _ (λ no. none_from (s.effective e (Field at i)) (λ n is. none_some n (sym no ∙ (law.holds e (Field at i) n free is).1))))
      (λ (h : outside e (Field at i) ≡ false).
      ap (λ w. changed w (s.effective e (Field at i))) (cond-false _ _ _ (and_left _ _ h))
      ∙ none_from (s.effective e (Field at i)) (λ n is. both_ways (outside e (Field at i)) h (law.holds e (Field at i) n free is).0))
      (cases_Bool (outside e (Field at i)))

  pub apart : (a : Addr) → s.aside a.car ≡ false → same_address at a ≡ false
  apart a free = false_from_ne_true (same_address at a) (λ h. both_ways (s.aside a.car) free (ap (λ (b : Addr). s.aside b.car) (sym (same_address-true at a h)) ∙ set))

  along : (a : Addr) (w : Look) → Leads s a w → Leads t a w
  along a Live h = tt
  along a (Moved b) h = (sw.from a.car ∙ h.0, (sw.look b (apart b h.1.1) ∙ h.1.0, sw.aside b.car ∙ h.1.1), h.2)
  along a Gone h = h

  swept_holds : (e : ℕ) (y : RefSource) (n : ℕ) → s.aside e ≡ false → t.effective e y ≡ Some n → (outside e y ≡ true) × (slot_in e (t.stored y) ≡ Some n)
  swept_holds e y n free is =
      ⊎_elim
      (λ (h : is_field_at at y ≡ true). let k = field_is at y h in absurd (none_some n (sym (here_gone e k.0 free) ∙ ap (t.effective e) (sym k.1) ∙ is)))
      (λ (h : is_field_at at y ≡ false). let r = law.holds e y n free (sym (sw.effective e y h) ∙ is) in (r.0, ap (slot_in e) (sw.stored y h) ∙ r.1))
      (cases_Bool (is_field_at at y))

  pub law_after_sweep : IsTied t
  law_after_sweep = record {
    reads = λ e y free up out.
        let up' : kept s y ≡ true = sym (same_kept y) ∙ up in
        let h = not_here y up' in
        sw.effective e y h ∙ law.reads e y (sym (sw.aside e) ∙ free) up' out ∙ ap (slot_in e) (sym (sw.stored y h));
    holds = λ e y n free is. swept_holds e y n (sym (sw.aside e) ∙ free) is;
    leads = λ y a up is.
        let up' : kept s y ≡ true = sym (same_kept y) ∙ up in
        let r = law.leads y a up' (sym (sw.stored y (not_here y up')) ∙ is) in
        (sw.aside a.car ∙ r.0, subst (Leads t a) (sym (sw.look a (apart a r.0))) (along a (s.look a) r.1));
    moved = λ a b free is.
        let was : s.aside a.car ≡ false = sym (sw.aside a.car) ∙ free in
        along a (Moved b) (law.moved a b was (sym (sw.look a (apart a was)) ∙ is));
  }
