-- A queued change that is applied.
use Rattle.std.proofs.Common.{◌≡◌, ⊎_elim, ℕ, ◌<◌, ◌==◌, true, false, cond, refl, ap, sym, ◌∙◌, List, [], ◌∷◌, length, Option, Some, None, is_some, arith}
use Rattle.std.specs.Option.{unwrap_or}
use Rattle.std.specs.Cmp.{eq_by_cmp_equiv}
use Rattle.std.specs.FinMap.{get, empty, get-insert, get-remove}
use Rattle.std.proofs.lemmas.Bool.{eq-eqb, cond-true, cond-false, true≢false}
use Rattle.pm_types.proofs.Orders.{sources_total}
use Rattle.pm_types.specs.declared.source.RefSource.{RefSource}
use Rattle.pm_types.specs.declared.source.Change.{Change}
use Rattle.pm_view.specs.Sources.{same_source}
use Rattle.pm_view.specs.declared.phase.Phase.TheVariants.{Draining, Moving}
use Rattle.pm_view.specs.View.{Sources, SpaceView}
use Rattle.pm_view.specs.Reading.{cars_of}
use Rattle.pm_view.specs.Effective.{with_source, effective}
use Rattle.pm_view.specs.Law.{HeapLaw}
use Rattle.pm_view.specs.Candidates.{set_of, queue_of}
use Rattle.pm_view.specs.Collecting.{applied_front, applied_in}
use Rattle.pm_view.specs.Events.{has_change, changed_car}
use Rattle.pm_law_commands.proofs.RowLemmas.SameSource.{source_ties}
use Rattle.pm_law_commands.proofs.RowLemmas.News.{at_insert}
use Rattle.pm_law_collect.proofs.PhasesLemmas.Finds.{found_passes}
use Rattle.pm_law_collect.proofs.PhasesLemmas.Comes.{IsChanged}
use Rattle.pm_law_collect.proofs.ChangesLemmas.Requeued.{applying}

-- what a set gives once a source was put or taken out
get_with_source : (set : Sources) (x : RefSource) (w : Option ℕ) (y : RefSource) → get (with_source set x w) y ≡ cond (same_source x y) w (get set y)
get_with_source set x None y = get-remove sources_total set x y ∙ ap (λ b. cond b None (get set y)) ((eq_by_cmp_equiv sources_total).symm y x ∙ source_ties x y)
get_with_source set x (Some n) y = get-insert sources_total set x n y ∙ ap (λ b. cond b (Some n) (get set y)) ((eq_by_cmp_equiv sources_total).symm y x ∙ source_ties x y)

module _ (view : SpaceView) (car : ℕ) where
  some_queue : (change : Change) (changes : List Change) (law : HeapLaw view) (e : ℕ) (x : RefSource) → get view.queues car ≡ Some (change ∷ changes) → (o : Option Sources) → get view.sets car ≡ o
      → effective (applied_front view car (change ∷ changes)) e x ≡ effective view e x
  some_queue change changes law e x queue None none = absurd (true≢false (sym (sym (ap is_some none) ∙ law.built.sets car ∙ sym (law.built.queues car) ∙ ap is_some queue)))
  some_queue change changes law e x queue (Some set) some = (applying view car law set change changes some queue).effective e x

  -- the effective sets stay
  pub applied_effective : HeapLaw view → (e : ℕ) (x : RefSource) → effective (applied_in view car) e x ≡ effective view e x
  applied_effective law e x = by_queue (get view.queues car) refl
    where
      by_queue : (o : Option (List Change)) → get view.queues car ≡ o → effective (applied_front view car (unwrap_or o [])) e x ≡ effective view e x
      by_queue None is = refl
      by_queue (Some []) is = refl
      by_queue (Some (change ∷ changes)) is = some_queue change changes law e x is (get view.sets car) refl

  has_some : (q : List Change) → has_change q ≡ true → 0 < length q
  has_some [] some = absurd (true≢false (sym some))
  has_some (c ∷ cs) some = omega arith

  pub changed_some : IsChanged view car → 0 < length (queue_of view car)
  changed_some is =
      has_some (queue_of view car)
      (⊎_elim
      (λ (drained : (train : ℕ) × (view.phase ≡ Draining train) × (changed_car view train ≡ Some car)). (found_passes (λ car. has_change (queue_of view car)) (cars_of view.trains.trains drained.0) car drained.2).0)
      (λ (moving : (view.phase ≡ Moving car) × (has_change (queue_of view car) ≡ true)). moving.1)
      is)

  module _ (change : Change) (changes : List Change) (is : queue_of view car ≡ change ∷ changes) where
    pub queue_then : queue_of (applied_in view car) car ≡ changes
    queue_then =
        ap (λ q. queue_of (applied_front view car q) car) is
        ∙ ap (λ o. unwrap_or o []) (at_insert view.queues car changes car ∙ cond-true _ _ _ (eq-eqb car car refl))

    pub set_then : (x : RefSource) → get (set_of (applied_in view car) car) x ≡ cond (same_source change.source x) change.slot (get (set_of view car) x)
    set_then x =
        ap (λ q. get (set_of (applied_front view car q) car) x) is
        ∙ ap (λ o. get (unwrap_or o empty) x) (at_insert view.sets car (with_source (set_of view car) change.source change.slot) car ∙ cond-true _ _ _ (eq-eqb car car refl))
        ∙ get_with_source (set_of view car) change.source change.slot x

  pub other_queue : (e : ℕ) → (car == e) ≡ false → queue_of (applied_in view car) e ≡ queue_of view e
  other_queue e apart = by_queue (queue_of view car)
    where
      by_queue : (q : List Change) → queue_of (applied_front view car q) e ≡ queue_of view e
      by_queue [] = refl
      by_queue (c ∷ cs) = ap (λ o. unwrap_or o []) (at_insert view.queues car cs e ∙ cond-false _ _ _ apart)

  pub other_set : (e : ℕ) → (car == e) ≡ false → set_of (applied_in view car) e ≡ set_of view e
  other_set e apart = by_queue (queue_of view car)
    where
      by_queue : (q : List Change) → set_of (applied_front view car q) e ≡ set_of view e
      by_queue [] = refl
      by_queue (c ∷ cs) = ap (λ o. unwrap_or o empty) (at_insert view.sets car (with_source (set_of view car) c.source c.slot) e ∙ cond-false _ _ _ apart)
