-- An object that moves: sources and effective sets stay tied.
use Rattle.std.proofs.Common.{◌≡◌, ◌≢◌, ℕ, true, false, not, Option, Some, None, ◌⊎◌, inl, inr, ⊎_elim, ap, refl, sym, ◌∙◌, subst}
use Rattle.std.specs.Option.{option_map}
use Rattle.std.proofs.lemmas.Bool.{and_from, and_left, cases_Bool, not_from_false, cond-true, cond-false, both_ways}
use Rattle.pm_types.specs.declared.address.Addr.{Addr}
use Rattle.pm_types.specs.declared.source.RefSource.{RefSource}
use Rattle.pm_types.specs.declared.source.RefSource.TheVariants.{Root, Handle, Field}
use Rattle.pm_cars.specs.declared.look.Look.{Look}
use Rattle.pm_cars.specs.declared.look.Look.TheVariants.{Live, Moved, Gone}
use Rattle.pm_view.specs.Sources.{same_address, is_field_at, outside, slot_in}
use Rattle.pm_view.specs.Seen.{Seen, kept, IsLive, Leads, IsTied}
use Rattle.pm_law_commands.proofs.RowLemmas.SameSource.{same_address-true}
use Rattle.pm_law_commands.proofs.RowLemmas.Spreading.{by_slots, changed, heard_change}
use Rattle.pm_law_collect.proofs.PhasesLemmas.Small.{none_some, some_same, none_from, left_none}

-- where an address leads, by what its place looks like
abbrev pub resolved : Look → Addr → Addr
resolved Live a = a
resolved (Moved b) a = b
resolved Gone a = a

-- t is s after the object at `old` went to `new`
pub record IsMove (s t : Seen) (old new : Addr) (go : Addr → Addr) : Type 0 where
  pub aside : (e : ℕ) → t.aside e ≡ s.aside e
  pub from : (e : ℕ) → t.from e ≡ s.from e
  pub look_old : t.look old ≡ Moved new
  pub look_new : t.look new ≡ Live
  pub look : (a : Addr) → same_address old a ≡ false → same_address new a ≡ false → t.look a ≡ s.look a
  pub goes : (a : Addr) → go a ≡ resolved (t.look a) a
  pub stored_old : (i : ℕ) → t.stored (Field old i) ≡ None
  pub stored_new : (i : ℕ) → t.stored (Field new i) ≡ option_map go (s.stored (Field old i))
  pub stored : (y : RefSource) → is_field_at old y ≡ false → is_field_at new y ≡ false → t.stored y ≡ s.stored y
  pub effective_old : (e i : ℕ) → t.effective e (Field old i) ≡ changed (heard_change s.aside (Field old i) (s.stored (Field old i)) None e) (s.effective e (Field old i))
  pub effective_new : (e i : ℕ) → t.effective e (Field new i) ≡ changed (heard_change s.aside (Field new i) None (t.stored (Field new i)) e) (s.effective e (Field new i))
  pub effective : (e : ℕ) (y : RefSource) → is_field_at old y ≡ false → is_field_at new y ≡ false → t.effective e y ≡ s.effective e y

-- the object at `old`, in the from-car, may go to `new`
pub record MayMove (s : Seen) (old new : Addr) : Type 0 where
  pub old_live : IsLive s old
  pub old_from : s.from old.car ≡ true
  pub one_from : (e : ℕ) → s.from e ≡ true → e ≡ old.car
  pub new_empty : s.look new ≡ Gone
  pub new_null : (i : ℕ) → s.stored (Field new i) ≡ None
  pub new_free : s.aside new.car ≡ false
  pub apart : new.car ≢ old.car

come_is : (o p : Option ℕ) → p ≡ None → changed (by_slots o None) p ≡ o
come_is None p e = e
come_is (Some n) p e = refl

not_live_gone : (p : Look) → p ≡ Live → p ≡ Gone → ⊥
not_live_gone p e f = cc

-- a source is a field at the one place, at the other, or neither
abbrev Which : Addr → Addr → RefSource → Type 0
Which old new y = ((i : ℕ) × (y ≡ Field old i)) ⊎ (((i : ℕ) × (y ≡ Field new i)) ⊎ ((is_field_at old y ≡ false) × (is_field_at new y ≡ false)))

which : (old new : Addr) (y : RefSource) → Which old new y
which old new (Root n) = inr (inr (refl, refl))
which old new (Handle c r) = inr (inr (refl, refl))
which old new (Field a i) =
    ⊎_elim
    (λ (h : same_address old a ≡ true). inl (i, ap (λ b. Field b i) (sym (same_address-true old a h))))
    (λ (h : same_address old a ≡ false).
    ⊎_elim
    (λ (k : same_address new a ≡ true). inr (inl (i, ap (λ b. Field b i) (sym (same_address-true new a k)))))
    (λ (k : same_address new a ≡ false). inr (inr (h, k)))
    (cases_Bool (same_address new a)))
    (cases_Bool (same_address old a))

module _ (s t : Seen) (old new : Addr) (go : Addr → Addr) (law : IsTied s) (may : MayMove s old new) (mv : IsMove s t old new go) where
  kept_then : (y : RefSource) → kept t y ≡ kept s y
  kept_then (Root n) = refl
  kept_then (Handle c r) = refl
  kept_then (Field a i) = ap not (mv.aside a.car)

  old_kept : (i : ℕ) → kept s (Field old i) ≡ true
  old_kept i = not_from_false _ may.old_live.1

  -- at the fields of the old place
  old_gone : (e i : ℕ) → s.aside e ≡ false → t.effective e (Field old i) ≡ None
  old_gone e i free =
      mv.effective_old e i
      ∙ ⊎_elim
      (λ (out : outside e (Field old i) ≡ true).
      ap (λ w. changed w (s.effective e (Field old i))) (cond-true _ _ _ (and_from _ _ out (not_from_false _ free)))
      ∙ left_none _ _ (λ no. law.reads e (Field old i) free (old_kept i) out ∙ no))
      (λ (within : outside e (Field old i) ≡ false).
      ap (λ w. changed w (s.effective e (Field old i))) (cond-false _ _ _ (and_left _ _ within))
      ∙ none_from (s.effective e (Field old i)) (λ n is. both_ways (outside e (Field old i)) within (law.holds e (Field old i) n free is).0))
      (cases_Bool (outside e (Field old i)))

  -- at those of the new place
  new_none : (e i : ℕ) → s.aside e ≡ false → s.effective e (Field new i) ≡ None
  new_none e i free = none_from (s.effective e (Field new i)) (λ n is. none_some n (sym (ap (slot_in e) (may.new_null i)) ∙ (law.holds e (Field new i) n free is).1))

  new_reads : (e i : ℕ) → s.aside e ≡ false → outside e (Field new i) ≡ true → t.effective e (Field new i) ≡ slot_in e (t.stored (Field new i))
  new_reads e i free out =
      mv.effective_new e i
      ∙ ap (λ w. changed w (s.effective e (Field new i))) (cond-true _ _ _ (and_from _ _ out (not_from_false _ free)))
      ∙ come_is _ _ (new_none e i free)

  new_holds : (e i n : ℕ) → s.aside e ≡ false → t.effective e (Field new i) ≡ Some n → (outside e (Field new i) ≡ true) × (slot_in e (t.stored (Field new i)) ≡ Some n)
  new_holds e i n free is =
      ⊎_elim
      (λ (out : outside e (Field new i) ≡ true). (out, sym (new_reads e i free out) ∙ is))
      (λ (within : outside e (Field new i) ≡ false).
      absurd (none_some n (sym (mv.effective_new e i ∙ ap (λ w. changed w (s.effective e (Field new i))) (cond-false _ _ _ (and_left _ _ within)) ∙ new_none e i free) ∙ is)))
      (cases_Bool (outside e (Field new i)))

  -- a Live place that is not the old one is Live as before
  live_then : (b : Addr) → IsLive s b → b.car ≢ old.car → IsLive t b
  live_then b h ne = (
    ⊎_elim
        (λ (k : same_address old b ≡ true). absurd (ne (ap (λ (a : Addr). a.car) (sym (same_address-true old b k)))))
        (λ (k : same_address old b ≡ false).
        ⊎_elim
        (λ (l : same_address new b ≡ true). absurd (not_live_gone (s.look b) h.0 (ap s.look (sym (same_address-true new b l)) ∙ may.new_empty)))
        (λ (l : same_address new b ≡ false). mv.look b k l ∙ h.0)
        (cases_Bool (same_address new b)))
        (cases_Bool (same_address old b)),
    mv.aside b.car ∙ h.1,
  )

  new_is_live : IsLive t new
  new_is_live = (mv.look_new, mv.aside new.car ∙ may.new_free)

  leads_along : (a : Addr) (p : Look) → Leads s a p → Leads t a p
  leads_along a Live h = tt
  leads_along a (Moved b) h = (mv.from a.car ∙ h.0, live_then b h.1 (λ e. h.2 (e ∙ sym (may.one_from a.car h.0))), h.2)
  leads_along a Gone h = h

  old_leads : Leads t old (Moved new)
  old_leads = (mv.from old.car ∙ may.old_from, new_is_live, may.apart)

  -- what stood at an address before, and stands there now
  leads_at : (a : Addr) → s.aside a.car ≡ false → Leads s a (s.look a) → (t.aside a.car ≡ false) × Leads t a (t.look a)
  leads_at a free h = (
    mv.aside a.car ∙ free,
    ⊎_elim
        (λ (k : same_address old a ≡ true). subst (λ a. Leads t a (t.look a)) (same_address-true old a k) (subst (Leads t old) (sym mv.look_old) old_leads))
        (λ (k : same_address old a ≡ false).
        ⊎_elim
        (λ (l : same_address new a ≡ true). absurd (subst (Leads s a) (ap s.look (sym (same_address-true new a l)) ∙ may.new_empty) h))
        (λ (l : same_address new a ≡ false). subst (Leads t a) (sym (mv.look a k l)) (leads_along a (s.look a) h))
        (cases_Bool (same_address new a)))
        (cases_Bool (same_address old a)),
  )

  -- a resolved address is Live
  live_resolved : (a : Addr) (p : Look) → t.look a ≡ p → t.aside a.car ≡ false → Leads t a p → IsLive t (resolved p a)
  live_resolved a Live e free h = (e, free)
  live_resolved a (Moved b) e free h = h.1
  live_resolved a Gone e free h = absurd h

  -- a field of the object leads to a Live place
  pub go_live : (i : ℕ) (a : Addr) → s.stored (Field old i) ≡ Some a → IsLive t (go a)
  go_live i a is =
      let old_law = law.leads (Field old i) a (old_kept i) is in
      let now = leads_at a old_law.0 old_law.1 in
      subst (IsLive t) (sym (mv.goes a)) (live_resolved a (t.look a) refl now.0 now.1)

  map_live : (i : ℕ) (o : Option Addr) → s.stored (Field old i) ≡ o → (b : Addr) → option_map go o ≡ Some b → IsLive t b
  map_live i None is b e = absurd (none_some b e)
  map_live i (Some a) is b e = subst (IsLive t) (some_same (go a) b e) (go_live i a is)

  leads_live : (b : Addr) → IsLive t b → (t.aside b.car ≡ false) × Leads t b (t.look b)
  leads_live b h = (h.1, subst (Leads t b) (sym h.0) tt)

  reads_then : (e : ℕ) (y : RefSource) → Which old new y → t.aside e ≡ false → kept t y ≡ true → outside e y ≡ true → t.effective e y ≡ slot_in e (t.stored y)
  reads_then e y (inl k) free up out =
      let free' : s.aside e ≡ false = sym (mv.aside e) ∙ free in
      subst (λ y. t.effective e y ≡ slot_in e (t.stored y)) (sym k.1) (old_gone e k.0 free' ∙ ap (slot_in e) (sym (mv.stored_old k.0)))
  reads_then e y (inr (inl k)) free up out =
      let free' : s.aside e ≡ false = sym (mv.aside e) ∙ free in
      subst (λ y. outside e y ≡ true → t.effective e y ≡ slot_in e (t.stored y)) (sym k.1) (new_reads e k.0 free') out
  reads_then e y (inr (inr k)) free up out =
      let free' : s.aside e ≡ false = sym (mv.aside e) ∙ free in
      mv.effective e y k.0 k.1 ∙ law.reads e y free' (sym (kept_then y) ∙ up) out ∙ ap (slot_in e) (sym (mv.stored y k.0 k.1))

  holds_then : (e : ℕ) (y : RefSource) (n : ℕ) → Which old new y → t.aside e ≡ false → t.effective e y ≡ Some n → (outside e y ≡ true) × (slot_in e (t.stored y) ≡ Some n)
  holds_then e y n (inl k) free is =
      let free' : s.aside e ≡ false = sym (mv.aside e) ∙ free in
      absurd (none_some n (sym (old_gone e k.0 free') ∙ ap (t.effective e) (sym k.1) ∙ is))
  holds_then e y n (inr (inl k)) free is =
      let free' : s.aside e ≡ false = sym (mv.aside e) ∙ free in
      subst (λ y. t.effective e y ≡ Some n → (outside e y ≡ true) × (slot_in e (t.stored y) ≡ Some n)) (sym k.1) (new_holds e k.0 n free') is
  holds_then e y n (inr (inr k)) free is =
      let free' : s.aside e ≡ false = sym (mv.aside e) ∙ free in
      let r = law.holds e y n free' (sym (mv.effective e y k.0 k.1) ∙ is) in
      (r.0, ap (slot_in e) (mv.stored y k.0 k.1) ∙ r.1)

  leads_then : (y : RefSource) (a : Addr) → Which old new y → kept t y ≡ true → t.stored y ≡ Some a → (t.aside a.car ≡ false) × Leads t a (t.look a)
  leads_then y a (inl k) up is = absurd (none_some a (sym (mv.stored_old k.0) ∙ ap t.stored (sym k.1) ∙ is))
  leads_then y a (inr (inl k)) up is = leads_live a (map_live k.0 (s.stored (Field old k.0)) refl a (sym (mv.stored_new k.0) ∙ ap t.stored (sym k.1) ∙ is))
  leads_then y a (inr (inr k)) up is =
      let r = law.leads y a (sym (kept_then y) ∙ up) (sym (mv.stored y k.0 k.1) ∙ is) in leads_at a r.0 r.1

  moved_then : (a b : Addr) → t.aside a.car ≡ false → t.look a ≡ Moved b → Leads t a (Moved b)
  moved_then a b free is =
      ⊎_elim
      (λ (k : same_address old a ≡ true).
      let here : old ≡ a = same_address-true old a k in
      subst (Leads t a) (sym mv.look_old ∙ ap t.look here ∙ is) (subst (λ a. Leads t a (Moved new)) here old_leads))
      (λ (k : same_address old a ≡ false).
      ⊎_elim
      (λ (l : same_address new a ≡ true). absurd (live_moved (sym mv.look_new ∙ ap t.look (same_address-true new a l) ∙ is)))
      (λ (l : same_address new a ≡ false). leads_along a (Moved b) (law.moved a b (sym (mv.aside a.car) ∙ free) (sym (mv.look a k l) ∙ is)))
      (cases_Bool (same_address new a)))
      (cases_Bool (same_address old a))
    where
      live_moved : Live ≡ Moved b → ⊥
      live_moved is = cc

  pub law_after_move : IsTied t
  law_after_move = record {
    reads = λ e y. reads_then e y (which old new y);
    holds = λ e y n. holds_then e y n (which old new y);
    leads = λ y a. leads_then y a (which old new y);
    moved = moved_then;
  }
