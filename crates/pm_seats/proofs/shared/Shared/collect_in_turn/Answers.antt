use Rattle.std.proofs.Common.{ap, ◌∙◌}
use Rattle.pm_engine.specs.contracts.Engine as engines
use Rattle.pm_seats.specs.declared.limits.TheConstants.{LAST_EVENT}
use Rattle.pm_seats.specs.Events.{CallsCollect}
use Rattle.pm_seats.specs.Sharing.{first_engine}
use Rattle.pm_seats.specs.Turns.{after_event}
use Rattle.pm_seats.proofs.Turning.{event_back, collect_answer, collect_front, event_then, has_book, legal_then, origin_then, ready_then}
use Rattle.pm_seats.proofs.shared.Shared.collect_in_turn.Goals as goal

pub collect_held-requires-clause-holding : goal.collect_held-requires-clause-holding
collect_held-requires-clause-holding g c =
    let view = c.take_out-hold.ensures.sees.view in
    record { speaks = ap (λ v. v.speaks) view ∙ c.requires.idle.speaks; holds = ap (λ v. v.holds) view }

pub collect_held-requires-clause-origin : goal.collect_held-requires-clause-origin
collect_held-requires-clause-origin g c = ap (λ v. v.origin) c.take_out-hold.ensures.sees.view ∙ c.requires.origin

pub collect_held-requires-clause-has : goal.collect_held-requires-clause-has
collect_held-requires-clause-has g c =
    has_book (engines.the_row g.row.D g.row.F g.D.Disk).coded (first_engine c.args.self.now) c.args.seat.now.me.0 _ c.take_out-hold.ensures.sees c.requires.origin c.take_out-hold.ensures.out

pub returns-clause-ready : goal.returns-clause-ready
returns-clause-ready g c =
    ready_then (first_engine c.args.self.now) c.args.seat.now.me.0 c.take_out-hold.new.seat.me.0 c.take_out-hold.ensures.sees c.requires.idle.free c.collect_held.new.seat.me (λ old new. CallsCollect g.F.Fn LAST_EVENT old new c.collect_held.result) (after_event c.collect_held.result) c.collect_held.ensures.given c.requires.idle.speaks c.requires.idle.still (event_back c.collect_held.result c.take_out-hold.new.seat.me.0) c.collect_held.ensures.own

pub returns-clause-origin : goal.returns-clause-origin
returns-clause-origin g c =
    origin_then (first_engine c.args.self.now) c.args.seat.now.me.0 c.take_out-hold.new.seat.me.0 c.take_out-hold.ensures.sees c.requires.idle.free c.collect_held.new.seat.me (λ old new. CallsCollect g.F.Fn LAST_EVENT old new c.collect_held.result) (after_event c.collect_held.result) c.collect_held.ensures.given (event_back c.collect_held.result c.take_out-hold.new.seat.me.0)

pub returns-clause-legal : goal.returns-clause-legal
returns-clause-legal g c =
    legal_then (first_engine c.args.self.now) c.args.seat.now.me.0 c.take_out-hold.new.seat.me.0 c.take_out-hold.ensures.sees c.requires.idle.free c.collect_held.new.seat.me (λ old new. CallsCollect g.F.Fn LAST_EVENT old new c.collect_held.result) (after_event c.collect_held.result) c.collect_held.ensures.given (collect_front (first_engine c.args.self.now) c.args.seat.now.me.0 c.take_out-hold.new.seat.me.0 c.take_out-hold.ensures.sees c.requires.idle.free c.collect_held.new.seat.me g.F.Fn c.collect_held.result c.collect_held.ensures.given)

pub returns-clause-event : goal.returns-clause-event
returns-clause-event g c =
    event_then (first_engine c.args.self.now) c.args.seat.now.me.0 c.take_out-hold.new.seat.me.0 c.take_out-hold.ensures.sees c.requires.idle.free c.collect_held.new.seat.me (λ old new. CallsCollect g.F.Fn LAST_EVENT old new c.collect_held.result) (after_event c.collect_held.result) c.collect_held.ensures.given (collect_front (first_engine c.args.self.now) c.args.seat.now.me.0 c.take_out-hold.new.seat.me.0 c.take_out-hold.ensures.sees c.requires.idle.free c.collect_held.new.seat.me g.F.Fn c.collect_held.result c.collect_held.ensures.given)

pub returns-clause-answer : goal.returns-clause-answer
returns-clause-answer g c =
    collect_answer (first_engine c.args.self.now) c.args.seat.now.me.0 c.take_out-hold.new.seat.me.0 c.take_out-hold.ensures.sees c.requires.idle.free c.collect_held.new.seat.me g.F.Fn c.collect_held.result c.collect_held.ensures.given
