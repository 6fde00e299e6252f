use Rattle.pm_view.specs.Events.{after, moving_id, ended_by}
use Rattle.pm_law_collect.proofs.Event.{event_keeps, event_stays, event_lands, placed_before, placed_after}
use Rattle.pm_law_collect.proofs.laws.an_event_moves_one_object_at_most.Goals as goal

pub returns-clause-moved : goal.returns-clause-moved
returns-clause-moved c = λ view row picked number id law next may vacant is. event_lands view picked number row law next may vacant id is

pub returns-clause-before : goal.returns-clause-before
returns-clause-before c = λ view row picked number id train law next may vacant still placed.
    placed_before view (after view picked number row) (moving_id view row) (ended_by (after view picked number row) row) (event_stays view picked number row law next may vacant) id train still placed

pub returns-clause-after : goal.returns-clause-after
returns-clause-after c = λ view row picked number id train a law next may vacant still at home left.
    placed_after view (after view picked number row) (moving_id view row) (ended_by (after view picked number row) row) (event_stays view picked number row law next may vacant) id train a still left at home

pub returns-clause-reached : goal.returns-clause-reached
returns-clause-reached c = λ view world row picked number id law next may vacant stands reached. ((event_keeps view picked number row law next may vacant).1 world stands).reached id reached
