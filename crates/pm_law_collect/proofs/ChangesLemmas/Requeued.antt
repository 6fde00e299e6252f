-- Rows that change remembered sets and queues alone: each effective set stays, so the heap law does.
use Rattle.std.proofs.Common.{◌≡◌, ℕ, ◌==◌, Bool, true, false, cond, refl, ap, sym, subst, ◌∙◌, List, [], ◌∷◌, Option, Some, None, is_some}
use Rattle.std.specs.Option.{unwrap_or}
use Rattle.std.specs.FinMap.{get, insert, empty}
use Rattle.std.proofs.lemmas.Bool.{eqb-true, true≢false}
use Rattle.pm_types.specs.declared.source.RefSource.{RefSource}
use Rattle.pm_types.specs.declared.source.RefSource.TheVariants.{Root, Handle, Field}
use Rattle.pm_types.specs.declared.source.Change.{Change}
use Rattle.pm_cars.specs.Cars.{look_of}
use Rattle.pm_view.specs.View.{Sources, Sets, Queues, SpaceView}
use Rattle.pm_view.specs.Reading.{slot_at, stored, is_aside, is_from}
use Rattle.pm_view.specs.Effective.{with_source, effective, effective_in}
use Rattle.pm_view.specs.Seen.{seen, IsTied}
use Rattle.pm_view.specs.Law.{HeapLaw}
use Rattle.pm_view.specs.Collecting.{set_takes, applied_front, applied_in}
use Rattle.pm_law_commands.proofs.RowLemmas.News.{at_insert}
use Rattle.pm_law_collect.proofs.PhasesLemmas.MeansSame.{MeansSame, Keeps, keeps, unchanged_keeps}

-- the sets and the queues of a space, where each effective set is as before
pub record IsRequeued (view : SpaceView) (sets : Sets) (queues : Queues) : Type 0 where
  pub set : (e : ℕ) → is_some (get sets e) ≡ is_some (get view.sets e)
  pub queue : (e : ℕ) → is_some (get queues e) ≡ is_some (get view.queues e)
  pub effective : (e : ℕ) (x : RefSource) → effective_in (get sets e) (get queues e) x ≡ effective view e x

module _ (view : SpaceView) (sets : Sets) (queues : Queues) (law : HeapLaw view) (is : IsRequeued view sets queues) where
  abbrev pub requeued : SpaceView
  requeued = record view { sets = sets; queues = queues }

  stored_same : (x : RefSource) → stored requeued x ≡ stored view x
  stored_same (Root n) = refl
  stored_same (Handle c r) = refl
  stored_same (Field a i) = refl

  seen_same : seen requeued ≡ seen view
  seen_same = λ i. record { stored = λ x. stored_same x i; aside = is_aside view; look = λ a. look_of (slot_at view.cars a); from = is_from view; effective = λ e x. is.effective e x i }

  pub requeued_keeps_law : HeapLaw requeued
  requeued_keeps_law = record {
    built = record {
      trains = law.built.trains;
      linked = law.built.linked;
      sets = λ e. is.set e ∙ law.built.sets e;
      queues = λ e. is.queue e ∙ law.built.queues e;
      cars = λ n car at. let was = law.built.cars n car at in record { numbered = was.numbered; from_one = was.from_one; sound = was.sound; live = was.live; moved = was.moved };
      objects = λ a object at. let was = law.built.objects a object at in record { first = was.first; given = was.given; fields = was.fields; bytes = was.bytes };
      apart = law.built.apart;
      next = law.built.next;
      births = law.built.births;
    };
    named = record { numbers = law.named.numbers; few = law.named.few; registers = law.named.registers };
    tied = subst IsTied (sym seen_same) law.tied;
    phase = law.phase;
    anchor = λ a to at. let was = law.anchor a to at in record { live = was.live; kept = was.kept; old = was.old; stands = was.stands; leaves = was.leaves };
  }

  pub requeued_means_same : MeansSame view requeued
  requeued_means_same = record {
    roots = λ name. refl;
    registers = λ place. refl;
    next = refl;
    objects = λ a object free at. record { at = a; was = object; kept = free; there = at; id = refl; meaning = refl };
  }

-- ---- the front change of a queue

module _ (view : SpaceView) (car : ℕ) (law : HeapLaw view) where
  some_either : {A : Type 0} (b : Bool) (x : A) (o : Option A) → (b ≡ true → is_some o ≡ true) → is_some (cond b (Some x) o) ≡ is_some o
  some_either true x o there = sym (there refl)
  some_either false x o there = refl

  module _ (set : Sources) (change : Change) (changes : List Change) (has_set : get view.sets car ≡ Some set) (has_queue : get view.queues car ≡ Some (change ∷ changes)) where
    sets_then : (e : ℕ) → get (set_takes view.sets car change) e ≡ cond (car == e) (Some (with_source set change.source change.slot)) (get view.sets e)
    sets_then e =
        at_insert view.sets car (with_source (unwrap_or (get view.sets car) empty) change.source change.slot) e
        ∙ ap (λ o. cond (car == e) (Some (with_source (unwrap_or o empty) change.source change.slot)) (get view.sets e)) has_set

    queues_then : (e : ℕ) → get (insert view.queues car changes) e ≡ cond (car == e) (Some changes) (get view.queues e)
    queues_then e = at_insert view.queues car changes e

    one_step : (e : ℕ) (x : RefSource) (b : Bool) → (car == e) ≡ b
        → effective_in (cond b (Some (with_source set change.source change.slot)) (get view.sets e)) (cond b (Some changes) (get view.queues e)) x ≡ effective_in (get view.sets e) (get view.queues e) x
    one_step e x true same =
        let one : car ≡ e = eqb-true car e same in
        λ i. effective_in ((sym has_set ∙ ap (get view.sets) one) i) ((sym has_queue ∙ ap (get view.queues) one) i) x
    one_step e x false same = refl

    pub applying : IsRequeued view (set_takes view.sets car change) (insert view.queues car changes)
    applying = record {
      set = λ e. ap is_some (sets_then e) ∙ some_either (car == e) _ (get view.sets e) (λ same. ap (λ c. is_some (get view.sets c)) (sym (eqb-true car e same)) ∙ ap is_some has_set);
      queue = λ e. ap is_some (queues_then e) ∙ some_either (car == e) _ (get view.queues e) (λ same. ap (λ c. is_some (get view.queues c)) (sym (eqb-true car e same)) ∙ ap is_some has_queue);
      effective = λ e x. (λ i. effective_in (sets_then e i) (queues_then e i) x) ∙ one_step e x (car == e) refl;
    }

  some_set : (change : Change) (changes : List Change) → get view.queues car ≡ Some (change ∷ changes) → (o : Option Sources) → get view.sets car ≡ o → Keeps view (applied_front view car (change ∷ changes))
  some_set change changes queue None none = absurd (true≢false (sym (sym (ap is_some none) ∙ law.built.sets car ∙ sym (law.built.queues car) ∙ ap is_some queue)))
  some_set change changes queue (Some set) some =
      keeps view (applied_front view car (change ∷ changes))
      (requeued_keeps_law view (set_takes view.sets car change) (insert view.queues car changes) law (applying set change changes some queue))
      (requeued_means_same view (set_takes view.sets car change) (insert view.queues car changes) law (applying set change changes some queue))

  by_queue : (o : Option (List Change)) → get view.queues car ≡ o → Keeps view (applied_front view car (unwrap_or o []))
  by_queue None is = unchanged_keeps view law
  by_queue (Some []) is = unchanged_keeps view law
  by_queue (Some (change ∷ changes)) is = some_set change changes is (get view.sets car) refl

  -- the front change of a car's queue is applied
  pub applied_keeps : Keeps view (applied_in view car)
  applied_keeps = by_queue (get view.queues car) refl
