-- The write barrier keeps the ties of sources and effective sets.
use Rattle.std.proofs.Common.{◌≡◌, ℕ, true, false, cond, not, ◌&&◌, Option, Some, None, ⊎_elim, ap, refl, sym, ◌∙◌, subst}
use Rattle.std.proofs.lemmas.Bool.{and_from, cases_Bool, not_from_false, cond-true, cond-false}
use Rattle.std.proofs.lemmas.Option.{none-some}
use Rattle.pm_types.specs.declared.address.Addr.{Addr}
use Rattle.pm_types.specs.declared.source.RefSource.{RefSource}
use Rattle.pm_types.specs.declared.source.RefSource.TheVariants.{Root, Handle, Field}
use Rattle.pm_view.specs.Sources.{same_source, outside, slot_in}
use Rattle.pm_cars.specs.declared.look.Look.{Look}
use Rattle.pm_cars.specs.declared.look.Look.TheVariants.{Live, Moved, Gone}
use Rattle.pm_view.specs.Seen.{Seen, kept, IsLive, Leads, IsTied, MayStore}
use Rattle.pm_law_commands.proofs.RowLemmas.Spreading.{by_slots, change, changed, IsSpread}
use Rattle.pm_law_commands.proofs.RowLemmas.SameSource.{same-true, same_itself}

-- what the barrier makes of the set of a car at the source itself
pub by_slots_reads : (new old o : Option ℕ) → o ≡ old → changed (by_slots new old) o ≡ new
by_slots_reads (Some n) old o e = refl
by_slots_reads None (Some m) o e = refl
by_slots_reads None None o e = e

module _ (s t : Seen) (x : RefSource) (to : Option Addr) (law : IsTied s) (sp : IsSpread s t x to) (at : kept s x ≡ true) where
  kept_then : (y : RefSource) → kept t y ≡ kept s y
  kept_then (Root n) = refl
  kept_then (Handle c r) = refl
  kept_then (Field a i) = ap not (sp.aside a.car)

  -- at the source itself
  effective_here : (e : ℕ) → t.effective e x ≡ changed (change s x to e) (s.effective e x)
  effective_here e = sp.effective e x ∙ cond-true _ _ _ (same_itself x)

  stored_here : t.stored x ≡ to
  stored_here = sp.stored x ∙ cond-true _ _ _ (same_itself x)

  reads_here : (e : ℕ) → s.aside e ≡ false → outside e x ≡ true → t.effective e x ≡ slot_in e to
  reads_here e free out =
      let yes : (outside e x && not (s.aside e)) ≡ true = and_from _ _ out (not_from_false _ free) in
      effective_here e
      ∙ ap (λ w. changed w (s.effective e x)) (cond-true _ _ _ yes)
      ∙ by_slots_reads _ _ _ (law.reads e x free at out)

  holds_here : (e n : ℕ) → s.aside e ≡ false → t.effective e x ≡ Some n → (outside e x ≡ true) × (slot_in e to ≡ Some n)
  holds_here e n free is =
      ⊎_elim
      (λ (out : outside e x ≡ true). (out, sym (reads_here e free out) ∙ is))
      (λ (within : outside e x ≡ false).
      let kept : t.effective e x ≡ s.effective e x =
      effective_here e ∙ ap (λ b. changed (cond (b && not (s.aside e)) (by_slots (slot_in e to) (slot_in e (s.stored x))) None) (s.effective e x)) within in
      let old = law.holds e x n free (sym kept ∙ is) in
      (old.0, absurd (let no = old.0 in cc)))
      (cases_Bool (outside e x))

  apart_effective : (e : ℕ) (y : RefSource) → same_source x y ≡ false → t.effective e y ≡ s.effective e y
  apart_effective e y ne = sp.effective e y ∙ cond-false _ _ _ ne

  apart_stored : (y : RefSource) → same_source x y ≡ false → t.stored y ≡ s.stored y
  apart_stored y ne = sp.stored y ∙ cond-false _ _ _ ne

  reads_then : (e : ℕ) (y : RefSource) → t.aside e ≡ false → kept t y ≡ true → outside e y ≡ true → t.effective e y ≡ slot_in e (t.stored y)
  reads_then e y free up out =
      let free' : s.aside e ≡ false = sym (sp.aside e) ∙ free in
      ⊎_elim
      (λ (is : same_source x y ≡ true).
      let P : RefSource → Type 0 = λ y. outside e y ≡ true → t.effective e y ≡ slot_in e (t.stored y) in
      subst P (same-true x y is) (λ o. reads_here e free' o ∙ ap (slot_in e) (sym stored_here)) out)
      (λ (ne : same_source x y ≡ false).
      apart_effective e y ne ∙ law.reads e y free' (sym (kept_then y) ∙ up) out ∙ ap (slot_in e) (sym (apart_stored y ne)))
      (cases_Bool (same_source x y))

  holds_then : (e : ℕ) (y : RefSource) (n : ℕ) → t.aside e ≡ false → t.effective e y ≡ Some n → (outside e y ≡ true) × (slot_in e (t.stored y) ≡ Some n)
  holds_then e y n free is =
      let free' : s.aside e ≡ false = sym (sp.aside e) ∙ free in
      ⊎_elim
      (λ (it : same_source x y ≡ true).
      let P : RefSource → Type 0 = λ y. t.effective e y ≡ Some n → (outside e y ≡ true) × (slot_in e (t.stored y) ≡ Some n) in
      subst P (same-true x y it) (λ h. let r = holds_here e n free' h in (r.0, ap (slot_in e) stored_here ∙ r.1)) is)
      (λ (ne : same_source x y ≡ false).
      let r = law.holds e y n free' (sym (apart_effective e y ne) ∙ is) in (r.0, ap (slot_in e) (apart_stored y ne) ∙ r.1))
      (cases_Bool (same_source x y))

  live_then : (a : Addr) → IsLive s a → IsLive t a
  live_then a h = (sp.look a ∙ h.0, sp.aside a.car ∙ h.1)

  leads_along : (a : Addr) (p : Look) → Leads s a p → Leads t a p
  leads_along a Live h = tt
  leads_along a (Moved b) h = (sp.from a.car ∙ h.0, live_then b h.1, h.2)
  leads_along a Gone h = h

  leads_new : (o : Option Addr) → MayStore s o → (a : Addr) → o ≡ Some a → IsLive s a
  leads_new None may a e = absurd (none-some a e)
  leads_new (Some b) may a e = subst (IsLive s) (let same_some : b ≡ a = cc in same_some) may

  leads_then : MayStore s to → (y : RefSource) (a : Addr) → kept t y ≡ true → t.stored y ≡ Some a → (t.aside a.car ≡ false) × Leads t a (t.look a)
  leads_then may y a up is =
      ⊎_elim
      (λ (it : same_source x y ≡ true).
      let new = leads_new to may a (sym stored_here ∙ ap t.stored (same-true x y it) ∙ is) in
      (sp.aside a.car ∙ new.1, subst (Leads t a) (sym (sp.look a ∙ new.0)) tt))
      (λ (ne : same_source x y ≡ false).
      let old = law.leads y a (sym (kept_then y) ∙ up) (sym (apart_stored y ne) ∙ is) in
      (sp.aside a.car ∙ old.0, subst (Leads t a) (sym (sp.look a)) (leads_along a (s.look a) old.1)))
      (cases_Bool (same_source x y))

  moved_then : (a b : Addr) → t.aside a.car ≡ false → t.look a ≡ Moved b → Leads t a (Moved b)
  moved_then a b free is = leads_along a (Moved b) (law.moved a b (sym (sp.aside a.car) ∙ free) (sym (sp.look a) ∙ is))

  -- the law is kept
  pub law_after_spread : MayStore s to → IsTied t
  law_after_spread may = record { reads = reads_then; holds = holds_then; leads = leads_then may; moved = moved_then }
