-- A car that goes, in which there is no object: sources and effective sets stay tied.
use Rattle.std.proofs.Common.{◌≡◌, ℕ, true, false, not, ◌&&◌, ◌==◌, Option, Some, None, ⊎_elim, ap, refl, sym, ◌∙◌, subst}
use Rattle.std.proofs.lemmas.Bool.{and_from, and_left, and_cases, cases_Bool, not_from_false, not-true, cond-false, eqb-true, both_ways, false_from_ne_true}
use Rattle.pm_types.specs.declared.address.Addr.{Addr}
use Rattle.pm_types.specs.declared.source.RefSource.{RefSource}
use Rattle.pm_types.specs.declared.source.RefSource.TheVariants.{Root, Handle, Field}
use Rattle.pm_cars.specs.declared.look.Look.{Look}
use Rattle.pm_cars.specs.declared.look.Look.TheVariants.{Live, Moved, Gone}
use Rattle.pm_view.specs.Sources.{lies_in, outside, slot_in}
use Rattle.pm_view.specs.Seen.{Seen, kept, Leads, IsTied}
use Rattle.pm_law_collect.proofs.PhasesLemmas.Small.{none_some, none_from}

-- t is s without the car c; its number is free again
pub record IsFreedSeen (s t : Seen) (c : ℕ) : Type 0 where
  pub aside : (e : ℕ) → t.aside e ≡ (s.aside e && not (e == c))
  pub from : (e : ℕ) → t.from e ≡ (s.from e && not (e == c))
  pub look : (a : Addr) → (a.car == c) ≡ false → t.look a ≡ s.look a
  pub gone : (a : Addr) → (a.car == c) ≡ true → t.look a ≡ Gone
  pub stored : (y : RefSource) → t.stored y ≡ s.stored y
  pub effective_here : (y : RefSource) → t.effective c y ≡ None
  pub effective : (e : ℕ) (y : RefSource) → (e == c) ≡ false → t.effective e y ≡ s.effective e y

module _ (s t : Seen) (c : ℕ) (law : IsTied s) (set : s.aside c ≡ true) (empty : (y : RefSource) → lies_in (λ e. e == c) y ≡ true → s.stored y ≡ None) (fr : IsFreedSeen s t c) where
  -- what is kept then and is not in c was kept
  kept_s : (y : RefSource) → lies_in (λ e. e == c) y ≡ false → kept t y ≡ true → kept s y ≡ true
  kept_s (Root n) out up = refl
  kept_s (Handle d r) out up = refl
  kept_s (Field a i) out up =
      ⊎_elim
      (λ (h : s.aside a.car ≡ false). not_from_false _ h)
      (λ (h : not (a.car == c) ≡ false). absurd (both_ways (not (a.car == c)) h (not_from_false _ out)))
      (and_cases (s.aside a.car) (not (a.car == c)) (sym (fr.aside a.car) ∙ not-true (t.aside a.car) up))

  free_s : (e : ℕ) → (e == c) ≡ false → t.aside e ≡ false → s.aside e ≡ false
  free_s e ne free =
      ⊎_elim (λ (h : s.aside e ≡ false). h) (λ (h : not (e == c) ≡ false). absurd (both_ways (not (e == c)) h (not_from_false _ ne)))
      (and_cases (s.aside e) (not (e == c)) (sym (fr.aside e) ∙ free))

  other : (e : ℕ) → s.aside e ≡ false → (e == c) ≡ false
  other e free = false_from_ne_true (e == c) (λ h. both_ways (s.aside e) free (ap s.aside (eqb-true e c h) ∙ set))

  leads_c : (y : RefSource) (a : Addr) → kept t y ≡ true → s.stored y ≡ Some a → (s.aside a.car ≡ false) × Leads s a (s.look a)
  leads_c y a up is =
      ⊎_elim
      (λ (h : lies_in (λ e. e == c) y ≡ true). absurd (none_some a (sym (empty y h) ∙ is)))
      (λ (h : lies_in (λ e. e == c) y ≡ false). law.leads y a (kept_s y h up) is)
      (cases_Bool (lies_in (λ e. e == c) y))

  -- no kept source stores an address in the car
  none_in_c : (y : RefSource) (o : Option Addr) → kept t y ≡ true → s.stored y ≡ o → slot_in c o ≡ None
  none_in_c y None up is = refl
  none_in_c y (Some a) up is = cond-false _ _ _ (other a.car (leads_c y a up is).0)

  freed_reads : (e : ℕ) (y : RefSource) → t.aside e ≡ false → kept t y ≡ true → outside e y ≡ true → t.effective e y ≡ slot_in e (t.stored y)
  freed_reads e y free up out =
      ⊎_elim
      (λ (here : (e == c) ≡ true).
      subst (λ e. t.effective e y ≡ slot_in e (t.stored y)) (sym (eqb-true e c here))
      (fr.effective_here y ∙ sym (ap (slot_in c) (fr.stored y) ∙ none_in_c y (s.stored y) up refl)))
      (λ (ne : (e == c) ≡ false).
      let free' = free_s e ne free in
      fr.effective e y ne
      ∙ ⊎_elim
      (λ (h : lies_in (λ e. e == c) y ≡ true).
      none_from (s.effective e y) (λ n is. none_some n (sym (ap (slot_in e) (empty y h)) ∙ (law.holds e y n free' is).1))
      ∙ sym (ap (slot_in e) (empty y h)))
      (λ (h : lies_in (λ e. e == c) y ≡ false). law.reads e y free' (kept_s y h up) out)
      (cases_Bool (lies_in (λ e. e == c) y))
      ∙ ap (slot_in e) (sym (fr.stored y)))
      (cases_Bool (e == c))

  freed_holds : (e : ℕ) (y : RefSource) (n : ℕ) → t.aside e ≡ false → t.effective e y ≡ Some n → (outside e y ≡ true) × (slot_in e (t.stored y) ≡ Some n)
  freed_holds e y n free is =
      ⊎_elim
      (λ (here : (e == c) ≡ true). absurd (none_some n (sym (fr.effective_here y) ∙ ap (λ e. t.effective e y) (sym (eqb-true e c here)) ∙ is)))
      (λ (ne : (e == c) ≡ false).
      let r = law.holds e y n (free_s e ne free) (sym (fr.effective e y ne) ∙ is) in (r.0, ap (slot_in e) (fr.stored y) ∙ r.1))
      (cases_Bool (e == c))

  freed_along : (a : Addr) (w : Look) → s.aside a.car ≡ false → Leads s a w → Leads t a w
  freed_along a Live free h = tt
  freed_along a (Moved b) free h = (
    fr.from a.car ∙ and_from _ _ h.0 (not_from_false _ (other a.car free)),
    (fr.look b (other b.car h.1.1) ∙ h.1.0, fr.aside b.car ∙ and_left _ _ h.1.1),
    h.2,
  )
  freed_along a Gone free h = h

  freed_moved : (a b : Addr) → t.aside a.car ≡ false → t.look a ≡ Moved b → Leads t a (Moved b)
  freed_moved a b free is =
      ⊎_elim
      (λ (here : (a.car == c) ≡ true). absurd (gone_moved (sym (fr.gone a here) ∙ is)))
      (λ (ne : (a.car == c) ≡ false). let was = free_s a.car ne free in freed_along a (Moved b) was (law.moved a b was (sym (fr.look a ne) ∙ is)))
      (cases_Bool (a.car == c))
    where
      gone_moved : Gone ≡ Moved b → ⊥
      gone_moved is = cc

  pub law_after_free : IsTied t
  law_after_free = record {
    reads = freed_reads;
    holds = freed_holds;
    leads = λ y a up is.
        let r = leads_c y a up (sym (fr.stored y) ∙ is) in
        (fr.aside a.car ∙ and_left _ _ r.0, subst (Leads t a) (sym (fr.look a (other a.car r.0))) (freed_along a (s.look a) r.0 r.1));
    moved = freed_moved;
  }
