-- Changes that are applied, and sources that are fixed.
use Rattle.std.proofs.Common.{◌≡◌, ◌⊎◌, inl, inr, ⊎_elim, ℕ, ◌==◌, Bool, true, false, cond, refl, ap, sym, subst, ◌∙◌, List, [], ◌∷◌, Option, Some, None}
use Rattle.std.specs.Option.{unwrap_or}
use Rattle.std.specs.Ordering.{eq_by_cmp}
use Rattle.std.specs.FinMap.{get, remove, empty, get-insert, get-remove}
use Rattle.std.proofs.lemmas.Bool.{eqb-true, true≢false}
use Rattle.pm_types.specs.Orders.{source_cmp}
use Rattle.pm_types.proofs.Orders.{sources_total}
use Rattle.pm_types.specs.declared.address.Addr.{Addr}
use Rattle.pm_types.specs.declared.source.RefSource.{RefSource}
use Rattle.pm_types.specs.declared.source.Change.{Change}
use Rattle.pm_view.specs.declared.phase.Phase.TheVariants.{Moving}
use Rattle.pm_view.specs.View.{Sources, SpaceView}
use Rattle.pm_view.specs.Reading.{slot_at}
use Rattle.pm_view.specs.Effective.{with_source}
use Rattle.pm_view.specs.Law.{HeapLaw}
use Rattle.pm_view.specs.Candidates.{set_of, queue_of}
use Rattle.pm_view.specs.Collecting.{applied_front, applied_in, fixed}
use Rattle.pm_view.specs.Events.{went, has_gone, fix, next_row}
use Rattle.pm_law_commands.proofs.RowLemmas.News.{at_insert}
use Rattle.pm_law_commands.proofs.RowLemmas.SpreadKept.{reshaped_spread}
use Rattle.pm_law_collect.proofs.PhasesLemmas.Comes.{IsEmptied, comes_where}
use Rattle.pm_law_collect.proofs.ChangesLemmas.FixRow.{fix_set, fix_phase}
use Rattle.pm_view.specs.Stale.{NamesOnly, IsSole}
use Rattle.pm_law_collect.specs.Work.Names.{names_gone, front_names_gone}
use Rattle.pm_law_collect.proofs.WorkLemmas.StaleLooks.{gone_same}

-- ---- what a set holds once a source left it, or it took one

left_set : (set : Sources) (y x : RefSource) (at : ℕ) → get (remove set y) x ≡ Some at → get set x ≡ Some at
left_set set y x at held = by_test (eq_by_cmp source_cmp x y) (get set x) (sym (get-remove sources_total set y x) ∙ held)
  where
    by_test : (b : Bool) (o : Option ℕ) → cond b None o ≡ Some at → o ≡ Some at
    by_test true o is = cc
    by_test false o is = is

taken_set : (set : Sources) (y : RefSource) (o : Option ℕ) (x : RefSource) (at : ℕ) → get (with_source set y o) x ≡ Some at → (get set x ≡ Some at) ⊎ (o ≡ Some at)
taken_set set y None x at held = inl (left_set set y x at held)
taken_set set y (Some slot) x at held = by_test (eq_by_cmp source_cmp x y) (get set x) (sym (get-insert sources_total set y slot x) ∙ held)
  where
    by_test : (b : Bool) (o : Option ℕ) → cond b (Some slot) o ≡ Some at → (o ≡ Some at) ⊎ (Some slot ≡ Some at)
    by_test true o is = inr is
    by_test false o is = inl is

-- ---- a change that is applied

front_sole : (view : SpaceView) (car : ℕ) (q : List Change) → front_names_gone view car q ≡ false → (slot : Option ℕ) → IsSole view slot → IsSole (applied_front view car q) slot
front_sole view car [] none slot sole = sole
front_sole view car (change ∷ changes) none None sole = tt
front_sole view car (change ∷ changes) none (Some slot) sole = λ e moving x at held gone.
    by_car e moving x at gone (car == e) refl (ap (λ (o : Option Sources). get (unwrap_or o empty) x) (sym (at_insert view.sets car (with_source (set_of view car) change.source change.slot) e)) ∙ held)
  where
    clash : (o : Option ℕ) (at : ℕ) → names_gone view car o ≡ false → o ≡ Some at → has_gone (went (slot_at view.cars (record { car = car; slot = at }))) ≡ true → ⊥
    clash o at none is gone = true≢false (sym gone ∙ sym (ap (names_gone view car) is) ∙ none)

    here : (x : RefSource) (at : ℕ) → view.phase ≡ Moving car → has_gone (went (slot_at view.cars (record { car = car; slot = at }))) ≡ true → get (with_source (set_of view car) change.source change.slot) x ≡ Some at → at ≡ slot
    here x at moving gone held =
        ⊎_elim
        (λ (was : get (set_of view car) x ≡ Some at). sole car moving x at was gone)
        (λ (named : change.slot ≡ Some at). absurd (clash change.slot at none named gone))
        (taken_set (set_of view car) change.source change.slot x at held)

    by_car : (e : ℕ) → view.phase ≡ Moving e → (x : RefSource) (at : ℕ) → has_gone (went (slot_at view.cars (record { car = e; slot = at }))) ≡ true → (b : Bool) → (car == e) ≡ b
        → get (unwrap_or (cond b (Some (with_source (set_of view car) change.source change.slot)) (get view.sets e)) empty) x ≡ Some at → at ≡ slot
    by_car e moving x at gone true same held =
        let back : e ≡ car = sym (eqb-true car e same) in
        here x at (moving ∙ ap Moving back) (subst (λ e. has_gone (went (slot_at view.cars (record { car = e; slot = at }))) ≡ true) back gone) held
    by_car e moving x at gone false apart held = sole e moving x at held gone

pub applied_sole : (view : SpaceView) (car : ℕ) (slot : Option ℕ) → front_names_gone view car (queue_of view car) ≡ false → IsSole view slot → IsSole (applied_in view car) slot
applied_sole view car slot none sole = front_sole view car (queue_of view car) none slot sole

-- ---- a source that is fixed

module _ (view : SpaceView) (car : ℕ) (source : RefSource) (to : Addr) (law : HeapLaw view) (is : IsEmptied view car (Some (source, to))) where
  fixed_names : (slot : ℕ) → NamesOnly view slot → NamesOnly (fixed view car source to) slot
  fixed_names slot sole e moving x at held gone =
      let back : e ≡ car = cc (sym is.moving ∙ (sym (fix_phase view car source to law is) ∙ moving)) in
      let there = subst (λ e. get (set_of (fixed view car source to) e) x ≡ Some at) back held in
      let went_there = subst (λ e. has_gone (went (slot_at (fixed view car source to).cars (record { car = e; slot = at }))) ≡ true) back gone in
      sole car is.moving x at
      (left_set (set_of view car) source x at (ap (λ (s : Sources). get s x) (sym (fix_set view car source to law is)) ∙ there))
      (sym (gone_same _ _ ((reshaped_spread view source (Some to)).look (record { car = car; slot = at }))) ∙ went_there)

  fixed_still : (slot : Option ℕ) → IsSole view slot → IsSole (fixed view car source to) slot
  fixed_still None sole = tt
  fixed_still (Some slot) sole = fixed_names slot sole

pub fixed_sole : (view : SpaceView) (car : ℕ) (source : RefSource) (to : Addr) (slot : Option ℕ) → HeapLaw view → next_row view ≡ fix car source to → IsSole view slot → IsSole (fixed view car source to) slot
fixed_sole view car source to slot law next sole = fixed_still view car source to law (comes_where view (fix car source to) next) slot sole
