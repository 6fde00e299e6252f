use Rattle.std.proofs.Common.{ap, ◌∙◌}
use Rattle.pm_engine.specs.contracts.Engine as engines
use Rattle.pm_seats.specs.declared.limits.TheConstants.{LAST_EVENT}
use Rattle.pm_seats.specs.Events.{CallsFlush}
use Rattle.pm_seats.specs.Sharing.{first_engine}
use Rattle.pm_seats.specs.Turns.{after_event}
use Rattle.pm_seats.proofs.Turning.{event_back, flush_answer, flush_front, event_then, has_book, legal_then, origin_then, ready_then}
use Rattle.pm_seats.proofs.shared.Shared.flush_in_turn.Goals as goal

pub flush_held-requires-clause-holding : goal.flush_held-requires-clause-holding
flush_held-requires-clause-holding g c =
    let view = c.take_out-hold.ensures.sees.view in
    record { speaks = ap (λ v. v.speaks) view ∙ c.requires.idle.speaks; holds = ap (λ v. v.holds) view }

pub flush_held-requires-clause-origin : goal.flush_held-requires-clause-origin
flush_held-requires-clause-origin g c = ap (λ v. v.origin) c.take_out-hold.ensures.sees.view ∙ c.requires.origin

pub flush_held-requires-clause-has : goal.flush_held-requires-clause-has
flush_held-requires-clause-has g c =
    has_book (engines.the_row g.row.D g.row.F g.D.Disk).coded (first_engine c.args.self.now) c.args.seat.now.me.0 _ c.take_out-hold.ensures.sees c.requires.origin c.take_out-hold.ensures.out

pub returns-clause-ready : goal.returns-clause-ready
returns-clause-ready g c =
    ready_then (first_engine c.args.self.now) c.args.seat.now.me.0 c.take_out-hold.new.seat.me.0 c.take_out-hold.ensures.sees c.requires.idle.free c.flush_held.new.seat.me (λ old new. CallsFlush LAST_EVENT old new c.flush_held.result) (after_event c.flush_held.result) c.flush_held.ensures.given c.requires.idle.speaks c.requires.idle.still (event_back c.flush_held.result c.take_out-hold.new.seat.me.0) c.flush_held.ensures.own

pub returns-clause-origin : goal.returns-clause-origin
returns-clause-origin g c =
    origin_then (first_engine c.args.self.now) c.args.seat.now.me.0 c.take_out-hold.new.seat.me.0 c.take_out-hold.ensures.sees c.requires.idle.free c.flush_held.new.seat.me (λ old new. CallsFlush LAST_EVENT old new c.flush_held.result) (after_event c.flush_held.result) c.flush_held.ensures.given (event_back c.flush_held.result c.take_out-hold.new.seat.me.0)

pub returns-clause-legal : goal.returns-clause-legal
returns-clause-legal g c =
    legal_then (first_engine c.args.self.now) c.args.seat.now.me.0 c.take_out-hold.new.seat.me.0 c.take_out-hold.ensures.sees c.requires.idle.free c.flush_held.new.seat.me (λ old new. CallsFlush LAST_EVENT old new c.flush_held.result) (after_event c.flush_held.result) c.flush_held.ensures.given (flush_front (first_engine c.args.self.now) c.args.seat.now.me.0 c.take_out-hold.new.seat.me.0 c.take_out-hold.ensures.sees c.requires.idle.free c.flush_held.new.seat.me c.flush_held.result c.flush_held.ensures.given)

pub returns-clause-event : goal.returns-clause-event
returns-clause-event g c =
    event_then (first_engine c.args.self.now) c.args.seat.now.me.0 c.take_out-hold.new.seat.me.0 c.take_out-hold.ensures.sees c.requires.idle.free c.flush_held.new.seat.me (λ old new. CallsFlush LAST_EVENT old new c.flush_held.result) (after_event c.flush_held.result) c.flush_held.ensures.given (flush_front (first_engine c.args.self.now) c.args.seat.now.me.0 c.take_out-hold.new.seat.me.0 c.take_out-hold.ensures.sees c.requires.idle.free c.flush_held.new.seat.me c.flush_held.result c.flush_held.ensures.given)

pub returns-clause-answer : goal.returns-clause-answer
returns-clause-answer g c =
    flush_answer (first_engine c.args.self.now) c.args.seat.now.me.0 c.take_out-hold.new.seat.me.0 c.take_out-hold.ensures.sees c.requires.idle.free c.flush_held.new.seat.me c.flush_held.result c.flush_held.ensures.given
