-- Cars that are set aside: sources and effective sets stay tied.
use Rattle.std.proofs.Common.{◌≡◌, ℕ, Bool, true, false, ◌||◌, ◌==◌, Some, ap, refl, sym, ◌∙◌, subst}
use Rattle.std.proofs.lemmas.Bool.{or_parts, or_from, not_from_false, not-true, cond-true, eqb-true, eq-eqb, both_ways, false_from_ne_true}
use Rattle.pm_types.specs.declared.address.Addr.{Addr}
use Rattle.pm_types.specs.declared.source.RefSource.{RefSource}
use Rattle.pm_types.specs.declared.source.RefSource.TheVariants.{Root, Handle, Field}
use Rattle.pm_cars.specs.declared.look.Look.{Look}
use Rattle.pm_cars.specs.declared.look.Look.TheVariants.{Live, Moved, Gone}
use Rattle.pm_view.specs.Sources.{lies_in, outside, slot_in}
use Rattle.pm_view.specs.Seen.{Seen, kept, Leads, IsTied}

-- t is s with the cars that pass set aside too, and at most more cars are from-cars
pub record IsSetAside (s t : Seen) (p : ℕ → Bool) : Type 0 where
  pub stored : (y : RefSource) → t.stored y ≡ s.stored y
  pub look : (a : Addr) → t.look a ≡ s.look a
  pub from : (e : ℕ) → s.from e ≡ true → t.from e ≡ true
  pub effective : (e : ℕ) (y : RefSource) → t.effective e y ≡ s.effective e y
  pub aside : (e : ℕ) → t.aside e ≡ (s.aside e || p e)

-- only sources in the cars that pass are in the sets of these cars
abbrev pub NoOutside : Seen → (ℕ → Bool) → Type 0
NoOutside s p = (e n : ℕ) (x : RefSource) → p e ≡ true → s.aside e ≡ false → s.effective e x ≡ Some n → lies_in p x ≡ true

-- where some car passes, each from-car does
abbrev pub FromPasses : Seen → (ℕ → Bool) → Type 0
FromPasses s p = (e c : ℕ) → s.from e ≡ true → p c ≡ true → p e ≡ true

lies_or : (f g p : ℕ → Bool) → ((e : ℕ) → f e ≡ (g e || p e)) → (x : RefSource) → lies_in f x ≡ (lies_in g x || lies_in p x)
lies_or f g p h (Root n) = refl
lies_or f g p h (Handle c r) = refl
lies_or f g p h (Field a i) = h a.car

-- a source that lies in no car that passes is outside each of these cars
lies_outside : (p : ℕ → Bool) (e : ℕ) (x : RefSource) → p e ≡ true → lies_in p x ≡ false → outside e x ≡ true
lies_outside p e (Root n) h k = refl
lies_outside p e (Handle c r) h k = refl
lies_outside p e (Field a i) h k = not_from_false (a.car == e) (false_from_ne_true (a.car == e) (λ is. both_ways (p e) (sym (ap p (eqb-true a.car e is)) ∙ k) h))

module _ (s t : Seen) (p : ℕ → Bool) (law : IsTied s) (sa : IsSetAside s t p) (none : NoOutside s p) (passes : FromPasses s p) where
  -- what is kept then was kept, and lies in no car that passes
  stood : (y : RefSource) → kept t y ≡ true → (kept s y ≡ true) × (lies_in p y ≡ false)
  stood y up =
      let parts = or_parts (lies_in s.aside y) (lies_in p y) (sym (lies_or t.aside s.aside p sa.aside y) ∙ not-true (lies_in t.aside y) up) in
      (not_from_false (lies_in s.aside y) parts.0, parts.1)

  free_then : (e : ℕ) → t.aside e ≡ false → (s.aside e ≡ false) × (p e ≡ false)
  free_then e h = or_parts (s.aside e) (p e) (sym (sa.aside e) ∙ h)

  -- a car that passes has nothing that a kept source stores
  not_aside : (y : RefSource) (a : Addr) → kept t y ≡ true → s.stored y ≡ Some a → s.aside a.car ≡ false → t.aside a.car ≡ false
  not_aside y a up is free =
      sa.aside a.car ∙ or_from (s.aside a.car) (p a.car) free
      (false_from_ne_true (p a.car) (λ h.
      let was = stood y up in
      let read : s.effective a.car y ≡ Some a.slot =
      law.reads a.car y free was.0 (lies_outside p a.car y h was.1) ∙ ap (slot_in a.car) is ∙ cond-true _ _ _ (eq-eqb a.car a.car refl) in
      both_ways (lies_in p y) was.1 (none a.car a.slot y h free read)))

  leads_along : (a : Addr) (w : Look) → p a.car ≡ false → Leads s a w → Leads t a w
  leads_along a Live free h = tt
  leads_along a (Moved b) free h = (
    sa.from a.car h.0,
    (sa.look b ∙ h.1.0, sa.aside b.car ∙ or_from (s.aside b.car) (p b.car) h.1.1 (false_from_ne_true (p b.car) (λ k. both_ways (p a.car) free (passes a.car b.car h.0 k)))),
    h.2,
  )
  leads_along a Gone free h = h

  leads_then : (y : RefSource) (a : Addr) → kept t y ≡ true → t.stored y ≡ Some a → (t.aside a.car ≡ false) × Leads t a (t.look a)
  leads_then y a up is =
      let is' : s.stored y ≡ Some a = sym (sa.stored y) ∙ is in
      let old = law.leads y a (stood y up).0 is' in
      let free = not_aside y a up is' old.0 in
      (free, subst (Leads t a) (sym (sa.look a)) (leads_along a (s.look a) (free_then a.car free).1 old.1))

  pub law_after_set_aside : IsTied t
  law_after_set_aside = record {
    reads = λ e y free up out. sa.effective e y ∙ law.reads e y (free_then e free).0 (stood y up).0 out ∙ ap (slot_in e) (sym (sa.stored y));
    holds = λ e y n free is. let r = law.holds e y n (free_then e free).0 (sym (sa.effective e y) ∙ is) in (r.0, ap (slot_in e) (sa.stored y) ∙ r.1);
    leads = leads_then;
    moved = λ a b free is. let was = free_then a.car free in leads_along a (Moved b) was.1 (law.moved a b was.0 (sym (sa.look a) ∙ is));
  }
