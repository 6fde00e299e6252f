use Rattle.std.proofs.Common.{ap, inl, sym, ◌∙◌}
use Rattle.pm_engine.specs.contracts.Engine as engines
use Rattle.pm_seats.specs.declared.limits.TheConstants.{LAST_EVENT}
use Rattle.pm_seats.specs.Events.{CallsClient}
use Rattle.pm_seats.specs.Sharing.{first_engine}
use Rattle.pm_seats.specs.Turns.{after_client}
use Rattle.pm_seats.proofs.Turning.{client_back, client_answer, client_front, event_then, has_book, legal_then, origin_then, ready_then}
use Rattle.pm_seats.proofs.shared.Shared.client_in_turn.Goals as goal

pub client_held-requires-clause-drawn : goal.client_held-requires-clause-drawn
client_held-requires-clause-drawn g c = c.take_out-hold.ensures.sees.drawn c.args.number (inl (sym c.requires.number))

pub client_held-requires-clause-number : goal.client_held-requires-clause-number
client_held-requires-clause-number g c = c.requires.number ∙ sym (ap (λ v. v.number) c.take_out-hold.ensures.sees.view)

pub client_held-requires-clause-holding : goal.client_held-requires-clause-holding
client_held-requires-clause-holding g c =
    let view = c.take_out-hold.ensures.sees.view in
    record { speaks = ap (λ v. v.speaks) view ∙ c.requires.idle.speaks; holds = ap (λ v. v.holds) view }

pub client_held-requires-clause-origin : goal.client_held-requires-clause-origin
client_held-requires-clause-origin g c = ap (λ v. v.origin) c.take_out-hold.ensures.sees.view ∙ c.requires.origin

pub client_held-requires-clause-has : goal.client_held-requires-clause-has
client_held-requires-clause-has g c =
    has_book (engines.the_row g.row.D g.row.F g.D.Disk).coded (first_engine c.args.self.now) c.args.seat.now.me.0 _ c.take_out-hold.ensures.sees c.requires.origin c.take_out-hold.ensures.out

pub returns-clause-ready : goal.returns-clause-ready
returns-clause-ready g c =
    ready_then (first_engine c.args.self.now) c.args.seat.now.me.0 c.take_out-hold.new.seat.me.0 c.take_out-hold.ensures.sees c.requires.idle.free c.client_held.new.seat.me (λ old new. CallsClient LAST_EVENT c.args.number c.args.client c.args.cmd.now old new c.client_held.result) (after_client c.args.client c.args.cmd.now c.client_held.result) c.client_held.ensures.given c.requires.idle.speaks c.requires.idle.still (client_back c.args.client c.args.cmd.now c.client_held.result c.take_out-hold.new.seat.me.0) c.client_held.ensures.own

pub returns-clause-origin : goal.returns-clause-origin
returns-clause-origin g c =
    origin_then (first_engine c.args.self.now) c.args.seat.now.me.0 c.take_out-hold.new.seat.me.0 c.take_out-hold.ensures.sees c.requires.idle.free c.client_held.new.seat.me (λ old new. CallsClient LAST_EVENT c.args.number c.args.client c.args.cmd.now old new c.client_held.result) (after_client c.args.client c.args.cmd.now c.client_held.result) c.client_held.ensures.given (client_back c.args.client c.args.cmd.now c.client_held.result c.take_out-hold.new.seat.me.0)

pub returns-clause-legal : goal.returns-clause-legal
returns-clause-legal g c =
    legal_then (first_engine c.args.self.now) c.args.seat.now.me.0 c.take_out-hold.new.seat.me.0 c.take_out-hold.ensures.sees c.requires.idle.free c.client_held.new.seat.me (λ old new. CallsClient LAST_EVENT c.args.number c.args.client c.args.cmd.now old new c.client_held.result) (after_client c.args.client c.args.cmd.now c.client_held.result) c.client_held.ensures.given (client_front (first_engine c.args.self.now) c.args.seat.now.me.0 c.take_out-hold.new.seat.me.0 c.take_out-hold.ensures.sees c.requires.idle.free c.client_held.new.seat.me c.args.number c.args.client c.args.cmd.now (c.requires.number ∙ sym (ap (λ v. v.number) c.take_out-hold.ensures.sees.view)) c.client_held.result c.client_held.ensures.given)

pub returns-clause-event : goal.returns-clause-event
returns-clause-event g c =
    event_then (first_engine c.args.self.now) c.args.seat.now.me.0 c.take_out-hold.new.seat.me.0 c.take_out-hold.ensures.sees c.requires.idle.free c.client_held.new.seat.me (λ old new. CallsClient LAST_EVENT c.args.number c.args.client c.args.cmd.now old new c.client_held.result) (after_client c.args.client c.args.cmd.now c.client_held.result) c.client_held.ensures.given (client_front (first_engine c.args.self.now) c.args.seat.now.me.0 c.take_out-hold.new.seat.me.0 c.take_out-hold.ensures.sees c.requires.idle.free c.client_held.new.seat.me c.args.number c.args.client c.args.cmd.now (c.requires.number ∙ sym (ap (λ v. v.number) c.take_out-hold.ensures.sees.view)) c.client_held.result c.client_held.ensures.given)

pub returns-clause-answer : goal.returns-clause-answer
returns-clause-answer g c =
    client_answer (first_engine c.args.self.now) c.args.seat.now.me.0 c.take_out-hold.new.seat.me.0 c.take_out-hold.ensures.sees c.requires.idle.free c.client_held.new.seat.me c.args.number c.args.client c.args.cmd.now (c.requires.number ∙ sym (ap (λ v. v.number) c.take_out-hold.ensures.sees.view)) c.client_held.result c.client_held.ensures.given
