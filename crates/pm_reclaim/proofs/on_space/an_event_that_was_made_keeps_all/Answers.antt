use Rattle.std.proofs.Common.{◌+◌, ◌≤◌, refl, ap, sym, subst, ◌∙◌}
use Rattle.pm_view.specs.Counts.{IsPlaced, IsStanding}
use Rattle.pm_view.specs.Law.{HeapLaw}
use Rattle.pm_view.specs.Represents.{Represents}
use Rattle.pm_view.specs.Work.{work, lowers}
use Rattle.pm_view.specs.Events.{next_row, goal_of, ended_by}
use Rattle.pm_view.specs.Bounded.{KeepsRank, KeepsSunk}
use Rattle.pm_reclaim.proofs.Phases.{answers_by_phase, moves_on}
use Rattle.pm_reclaim.proofs.on_space.an_event_that_was_made_keeps_all.Goals as goal

pub returns-clause-law : goal.returns-clause-law
returns-clause-law c = λ old new step law event.
    subst HeapLaw (sym event.after) (c.an_event_keeps_the_law_and_the_worlds.ensures.law old (next_row old) event.picked event.number law refl event.may_pick event.may_place)

pub returns-clause-worlds : goal.returns-clause-worlds
returns-clause-worlds c = λ old new step law event world stands.
    subst (λ t. Represents t world) (sym event.after)
    (c.an_event_keeps_the_law_and_the_worlds.ensures.world old world (next_row old) event.picked event.number law refl event.may_pick event.may_place stands)

pub returns-clause-places : goal.returns-clause-places
returns-clause-places c = λ old new step law event.
    let laws = c.an_event_moves_one_object_at_most.ensures in
    record {
      moved = λ id is.
          subst (λ t. IsPlaced t id (goal_of event.picked (next_row old))) (sym event.after)
          (laws.moved old (next_row old) event.picked event.number id law refl event.may_pick event.may_place is);
      before = λ id train other placed.
          laws.before old (next_row old) event.picked event.number id train law refl event.may_pick event.may_place other
          (subst (λ t. IsPlaced t id train) event.after placed);
      after = λ id train a other stands home kept.
          subst (λ t. IsPlaced t id train) (sym event.after)
          (laws.after old (next_row old) event.picked event.number id train a law refl event.may_pick event.may_place other stands home
          (sym (ap (λ u. ended_by u (next_row old) a.car) event.after) ∙ kept));
      reached = λ world id stands reached.
          subst (λ t. IsStanding t id) (sym event.after)
          (laws.reached old world (next_row old) event.picked event.number id law refl event.may_pick event.may_place stands reached);
    }

pub returns-clause-work : goal.returns-clause-work
returns-clause-work c = λ old new step law event going incomplete.
    let left = c.an_event_lowers_the_work_left.ensures.lowers old (next_row old) event.picked event.number law refl event.may_pick event.may_place going incomplete in
    subst (λ n. n + lowers (next_row old) ≤ work old) (sym (ap work event.after)) left

pub returns-clause-rank : goal.returns-clause-rank
returns-clause-rank c = λ old new step law event.
    subst (KeepsRank old) (sym event.after) (c.an_event_keeps_the_rank.ensures.keeps old (next_row old) event.picked event.number law refl event.may_pick event.may_place)

pub returns-clause-sunk : goal.returns-clause-sunk
returns-clause-sunk c = λ old new step law event.
    subst (KeepsSunk old) (sym event.after) (c.an_event_keeps_sunk_sets.ensures old (next_row old) event.picked event.number law refl event.may_pick event.may_place)

pub returns-clause-phase : goal.returns-clause-phase
returns-clause-phase c = λ old new step law event.
    let left = c.an_event_lowers_the_work_left.ensures in
    answers_by_phase old step event.picked event.answer (left.idle old law) (c.one_event_completes_a_collection.ensures.begun old) (λ car. left.empty old car law) (left.nothing old law)

pub returns-clause-progress : goal.returns-clause-progress
returns-clause-progress c = λ old new step law event.
    moves_on old step event.picked event.answer (c.an_event_lowers_the_work_left.ensures.idle old law) (c.one_event_completes_a_collection.ensures.begun old) new (λ going incomplete.
    let left = c.an_event_lowers_the_work_left.ensures.lowers old (next_row old) event.picked event.number law refl event.may_pick event.may_place going incomplete in
    subst (λ n. n + lowers (next_row old) ≤ work old) (sym (ap work event.after)) left)
