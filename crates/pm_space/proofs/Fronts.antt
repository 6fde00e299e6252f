-- What is seen of links where a remembered set took the front change of its queue or forgot a source.
use Rattle.std.proofs.Common.{◌≡◌, ℕ, refl, ap, sym, ◌∙◌, List, [], ◌∷◌, drop, Option, Some, None, IsSome, Result, Ok, Err, OnErr}
use Rattle.std.specs.Ordering.{nat_cmp}
use Rattle.std.specs.Cmp.{nat_cmp_total}
use Rattle.std.specs.Option.{unwrap_or}
use Rattle.std.specs.FinMap.{get, insert, remove, empty, nat_cmp-IsAntisymmetric}
use Rattle.pm_types.proofs.Mapped.{mapped-insert}
use Rattle.pm_types.specs.declared.source.Change.{Change}
use Rattle.pm_types.specs.declared.source.RefSource.{RefSource}
use Rattle.pm_view.specs.Effective.{with_source}
use Rattle.pm_view.specs.View.{Sources, Sets, Queues}
use Rattle.pm_snap.proofs.Shown.{none_is_not_some}
use Rattle.pm_space.specs.declared.links.Links.{Links}
use Rattle.pm_space.specs.Linked.{Linked, set_of, queue_of, sets_of, queues_of, waiting, took_front, with_front, without_front, without_source}
use Rattle.pm_space.proofs.Linking.{insert_again, at_car, not_at_car}

took_is : (sets : Sets) (car : ℕ) (set : Sources) (changes : List Change) → get sets car ≡ Some set → insert sets car (took_front set changes) ≡ with_front sets car changes
took_is sets car set [] is = insert_again sets car set is
took_is sets car set (change ∷ changes) is = ap (λ (o : Option Sources). insert sets car (with_source (unwrap_or o empty) change.source change.slot)) (sym is)

lost_is : (queues : Queues) (car : ℕ) (changes : List Change) → get queues car ≡ Some changes → insert queues car (drop 1 changes) ≡ without_front queues car changes
lost_is queues car [] is = insert_again queues car [] is
lost_is queues car (change ∷ changes) is = refl

module _ (v : Linked) (car : ℕ) (it w : Links) (found : get v car ≡ Some it) where
  pub waits : waiting (queues_of v) car ≡ it.queue.changes
  waits = ap (λ (o : Option (List Change)). unwrap_or o []) (at_car queue_of v car it found)

  -- the set that took the front
  pub sets_took : w.set ≡ took_front it.set it.queue.changes → sets_of (insert v car w) ≡ with_front (sets_of v) car (waiting (queues_of v) car)
  sets_took is =
      mapped-insert nat_cmp set_of nat_cmp_total nat_cmp-IsAntisymmetric v car w
      ∙ ap (insert (sets_of v) car) is
      ∙ took_is (sets_of v) car it.set it.queue.changes (at_car set_of v car it found)
      ∙ ap (with_front (sets_of v) car) (sym waits)

  -- the queue that lost it
  pub queues_lost : w.queue.changes ≡ drop 1 it.queue.changes → queues_of (insert v car w) ≡ without_front (queues_of v) car (waiting (queues_of v) car)
  queues_lost is =
      mapped-insert nat_cmp queue_of nat_cmp_total nat_cmp-IsAntisymmetric v car w
      ∙ ap (insert (queues_of v) car) is
      ∙ lost_is (queues_of v) car it.queue.changes (at_car queue_of v car it found)
      ∙ ap (without_front (queues_of v) car) (sym waits)

  -- the set that forgot a source
  pub sets_forgot : (source : RefSource) → w.set ≡ remove it.set source → sets_of (insert v car w) ≡ without_source (sets_of v) car source
  sets_forgot source is =
      mapped-insert nat_cmp set_of nat_cmp_total nat_cmp-IsAntisymmetric v car w
      ∙ ap (insert (sets_of v) car) is
      ∙ ap (λ (o : Option Sources). insert (sets_of v) car (remove (unwrap_or o empty) source)) (sym (at_car set_of v car it found))

  -- links that were written as they were
  pub unwritten : w ≡ it → insert v car w ≡ v
  unwritten is = ap (insert v car) is ∙ insert_again v car it found

-- where a car is not there nothing waits
pub none_waits : (v : Linked) (car : ℕ) → get v car ≡ None → waiting (queues_of v) car ≡ []
none_waits v car none = ap (λ (o : Option (List Change)). unwrap_or o []) (not_at_car queue_of v car none)

-- a car that has a remembered set is there
pub has_links : (v : Linked) (car : ℕ) → IsSome (get (sets_of v) car) → get v car ≡ None → ⊥
has_links v car there none = none_is_not_some (get (sets_of v) car) (not_at_car set_of v car none) there

-- what follows from what holds where a call failed
pub on_err : {A E P Q R : Type 0} (r : Result A E) → (P → Q → R) → OnErr r P → OnErr r Q → OnErr r R
on_err (Ok x) f p q = tt
on_err (Err e) f p q = f p q
